-- The replay as the code keeps it: a record that goes by value, a lent list of cells whose first places are the table, and a lent list of orders whose first
-- are the items.
use Rattle.std.specs.Prelude.{◌≡◌, cond, List, ◌++◌, ℕ, ◌+◌, ◌≤◌, ◌<◌, eqb, length, take, drop, Ok, Err}
use Rattle.std.proofs.lemmas.List.Edits.{sets}
use Rattle.orders.specs.declared.Order.{Order}
use Rattle.state.specs.declared.Phase.{Phase}
use Rattle.state.specs.declared.Replied.{Replied}
use Rattle.state.specs.Replies.{Reply}
use Rattle.lines.specs.declared.Command.{Command}
use Rattle.lines.specs.declared.Line.{Line}
use Rattle.printing.specs.declared.Told.{Told}
use Rattle.fitting.specs.Fitting.{most_items, Kept}
use Rattle.fitting.specs.declared.Task.{Task}
use Rattle.fitting.specs.declared.Task.TheVariants.{Perform}
use Rattle.answering.specs.declared.Answered.{Answered}
use Rattle.answering.specs.declared.Done.{Done}
use Rattle.answering.specs.declared.Replay.{Replay}
use Rattle.sheet.specs.Replay.{State, Step, no_finishes, phase_after, item_task, Answer, answer_of, rendered, most_sheet_cells, longest_answer}
use Rattle.sheet.specs.Valid.{Valid, RunFinds}

abbrev pub state_of : Replay → (cells : List ℕ) (items : List Order) → State
state_of r cells items = record { phase = r.phase; table = take r.length cells; items = take r.items items }

abbrev pub replay_of : State → Replay
replay_of s = record { phase = s.phase; length = length s.table; items = length s.items }

-- the cells with another table in their first places
abbrev pub over : List ℕ → List ℕ → List ℕ
over t cells = t ++ drop (length t) cells

abbrev pub done_of : Step → Done
done_of d = record { replay = replay_of d.state; told = d.told; finishes = d.finishes }

-- told in a phase with a table of n cells and c items, without a run
abbrev pub told_of : Phase → (n c : ℕ) → Told → Done
told_of p n c a = record { replay = record { phase = p; length = n; items = c }; told = a; finishes = no_finishes }

-- what a call answers there
abbrev pub replied_of : (n c : ℕ) → Replied → Done
replied_of n c x = told_of x.phase n c (Told.Replied x.reply)

-- what an opening answers there, in a phase p
abbrev pub opened_of : Phase → (n c : ℕ) → Replied → Done
opened_of p n c x = told_of (phase_after x.reply p x.phase) n c (Told.Replied x.reply)

-- how many of c items a close with this answer leaves, in a phase of kind k
abbrev pub count_after : ℕ → Reply → ℕ → ℕ
count_after k (Ok _) c = cond (eqb k 1) 0 c
count_after k (Err r) c = c

-- the store has room for the longest table of a sheet
pub record Roomy (r : Replay) (cells : List ℕ) : Type 0 where
  pub fits : r.length ≤ most_sheet_cells
  pub most : most_sheet_cells ≤ length cells

-- ---- what a task leaves. Left free: what stands behind the items
pub record Does (d : Step) (cells cells' : List ℕ) (items' : List Order) (r : Done) : Type 0 where
  pub result : r ≡ done_of d
  pub store : cells' ≡ over d.state.table cells
  pub list : take r.replay.items items' ≡ d.state.items

-- a task that leaves the items alone, in whatever list they are kept
abbrev pub Leaves : Replay → (State → Step) → (cells cells' : List ℕ) → Done → Type 0
Leaves r task cells cells' d = (items : List Order) → Kept r.items items → Does (task (state_of r cells items)) cells cells' items d

-- one item more, whatever the cells are
abbrev pub Adds : Replay → (w v cents : ℕ) → (items items' : List Order) → Done → Type 0
Adds r w v cents items items' d = (cells : List ℕ) → Roomy r cells → Does (item_task (state_of r cells items) w v cents) cells cells items' d

-- ---- what a task must find
pub record Finds (r : Replay) (cells : List ℕ) (items : List Order) (t : Task) : Type 0 where
  pub roomy : Roomy r cells
  pub kept : Kept r.items items
  pub runs : RunFinds (state_of r cells items) t
  -- a place for one item more
  pub place : (ns : List ℕ) → t ≡ Perform Command.Item ns → r.items < most_items

-- what a line must find: a state that lines lead to, cells for the longest table, and places for all items
pub record Ready (r : Replay) (cells : List ℕ) (items : List Order) : Type 0 where
  pub roomy : Roomy r cells
  pub kept : Kept r.items items
  pub valid : Valid (state_of r cells items)

-- ---- what a line leaves
-- the record, the place behind what was printed, and whether the replay ends
abbrev pub answered_of : ℕ → ℕ → Answer → Answered
answered_of n at a = record { replay = replay_of a.state; at = at + length (rendered n a); ended = a.ended }

pub record Answers (s : State) (n : ℕ) (l : Line) (cells out : List ℕ) (at : ℕ) (cells' : List ℕ) (items' : List Order) (out' : List ℕ) (r : Answered) : Type 0 where
  pub result : r ≡ answered_of n at (answer_of s l)
  pub store : cells' ≡ over (answer_of s l).state.table cells
  pub list : take r.replay.items items' ≡ (answer_of s l).state.items
  pub output : out' ≡ sets out at (rendered n (answer_of s l))
  -- it takes no more bytes than the longest line
  pub short : r.at ≤ at + longest_answer
  -- and the next line finds what it must
  pub ready : Ready r.replay cells' items'
