-- The replay of a shift sheet (document 01, "The shift sheet"): what each line does and what it prints.
use Rattle.std.specs.Prelude.{Bool, true, false, cond, Option, None, Some, List, [], ◌∷◌, ◌++◌, ℕ, ◌+◌, ltb, eqb, length, get_or, replicate, Ok, Err}
use Rattle.homes.specs.Homes.{hash_of}
use Rattle.homes.specs.declared.Hash.{Hash}
use Rattle.orders.specs.Orders.{order_with}
use Rattle.orders.specs.declared.Order.{Order}
use Rattle.state.specs.Model.{gateway}
use Rattle.state.specs.Open.{refused_phase, open_call}
use Rattle.state.specs.declared.Phase.{Phase}
use Rattle.state.specs.declared.Refusal.TheVariants.{Size, Shut}
use Rattle.state.specs.declared.Replied.{Replied}
use Rattle.state.specs.Replies.{Reply, Counted}
use Rattle.tables.specs.Calls.{list_call}
use Rattle.protocol.specs.Calls.{close_call, order_call, turn_call, turn_table}
use Rattle.text.specs.Digits.{most_digits, digits_of}
use Rattle.lines.specs.declared.Command.{Command}
use Rattle.lines.specs.declared.Line.{Line}
use Rattle.dealing.specs.Deal.{unfinished, run}
use Rattle.dealing.specs.declared.Ended.{Ended}
use Rattle.printing.specs.Fields.{field, bad, told_fields}
use Rattle.printing.specs.Widths.{told_width}
use Rattle.printing.specs.declared.Told.{Told}
use Rattle.printing.specs.declared.Told.TheVariants.{Replied as replied, Turned, Ran, Listed}
use Rattle.fitting.specs.declared.Task.{Task}
use Rattle.fitting.specs.declared.Task.TheVariants.{Perform, Refuse}
use Rattle.fitting.specs.Fitting.{reading_in}

-- ---- the state between two lines
pub record State : Type 0 where
  pub phase : Phase
  pub table : List ℕ
  -- the list of orders that the `item` lines have formed
  pub items : List Order

-- before the first line: the phase counts as shut, with a of 1 and b of 0, the table has no cells, and there are no items
abbrev pub blank : State
blank = record { phase = refused_phase gateway; table = []; items = [] }

-- ---- what a line does
-- the state afterwards, what is told, and how the workers' operations ended in a run
pub record Step : Type 0 where
  pub state : State
  pub told : Told
  pub finishes : List (Option Ended)

abbrev pub no_finishes : List (Option Ended)
no_finishes = replicate gateway.room unfinished

abbrev pub tells : State → Told → Step
tells s a = record { state = s; told = a; finishes = no_finishes }

-- an answer with the phase that it leaves, beside the table and the items
abbrev pub calls : List ℕ → List Order → Replied → Step
calls t os r = tells (record { phase = r.phase; table = t; items = os }) (replied r.reply)

-- the longest table of a sheet
abbrev pub most_sheet_cells : ℕ
most_sheet_cells = 4096

-- no output line is longer: its number, what it tells of the longest table, and a newline
abbrev pub longest_answer : ℕ
longest_answer = most_digits + told_width most_sheet_cells + 1

abbrev pub cells_task : State → ℕ → Step
cells_task s n =
    cond (ltb n gateway.fewest_cells) (tells s (replied (Err Size)))
    (cond (ltb most_sheet_cells n) (tells s (replied (Err Size)))
    (tells (record { phase = s.phase; table = replicate n 0; items = s.items }) (replied (Ok tt))))

-- the phase behind an opening: a refused one leaves the phase that was there, so that its a and b are those of the last accepted opening
abbrev pub phase_after : Reply → (before opened : Phase) → Phase
phase_after (Ok _) before opened = opened
phase_after (Err r) before opened = before

-- an opening is lent the items whatever its kind
abbrev pub open_task : State → (k m : ℕ) → Hash → Step
open_task s k m ab =
    let r = open_call gateway k m ab s.table s.items in
    tells (record { phase = phase_after r.reply s.phase r.phase; table = s.table; items = s.items }) (replied r.reply)

-- one item more, behind the others
abbrev pub item_task : State → (w v cents : ℕ) → Step
item_task s w v cents = tells (record { phase = s.phase; table = s.table; items = s.items ++ (order_with v cents w ∷ []) }) (replied (Ok tt))

abbrev pub turn_task : State → ℕ → Step
turn_task s w =
    let r = turn_call gateway s.phase s.table w in
    tells (record { phase = r.phase; table = turn_table gateway s.phase s.table w; items = s.items }) (Turned r.reply)

abbrev pub run_task : State → Step
run_task s =
    let d = run gateway s.phase s.table in
    record { state = record { phase = d.dealt.phase; table = d.table; items = s.items }; told = Ran; finishes = d.dealt.finishes }

-- the items last until the close of an insert phase (put-in shift)
abbrev pub items_after : ℕ → Reply → List Order → List Order
items_after k (Ok _) os = cond (eqb k 1) [] os
items_after k (Err r) os = os

abbrev pub close_task : State → Step
close_task s = let r = close_call gateway s.phase in calls s.table (items_after s.phase.kind r.reply s.items) r

-- listed into a list as long as the table, by the phase's a and b
abbrev pub list_told : Counted → Told
list_told (Ok c) = Listed c
list_told (Err r) = replied (Err r)

abbrev pub list_task : State → Step
list_task s = tells s (list_told (list_call gateway s.phase.hash s.table s.table))

-- what a command does with these numbers. An order's first number is a place in an insert phase, else the worker
abbrev pub commanded : State → Command → List ℕ → Step
commanded s Command.Cells ns = cells_task s (get_or ns 0 0)
commanded s Command.Open ns = open_task s (get_or ns 0 0) (get_or ns 1 0) (hash_of (get_or ns 2 0) (get_or ns 3 0))
commanded s Command.Item ns = item_task s (get_or ns 0 0) (get_or ns 1 0) (get_or ns 2 0)
commanded s Command.Order ns = calls s.table s.items (order_call gateway s.phase s.items (get_or ns 0 0) (get_or ns 0 0) (get_or ns 1 0))
commanded s Command.Turn ns = turn_task s (get_or ns 0 0)
commanded s Command.Run ns = run_task s
commanded s Command.Close ns = close_task s
commanded s Command.List ns = list_task s

abbrev pub performed : State → Task → Step
performed s (Perform c ns) = commanded s c ns
performed s Refuse = tells s (replied (Err Shut))

-- ---- the answer to a line: the state afterwards, what is printed behind the line's number, and whether the replay ends
pub record Answer : Type 0 where
  pub state : State
  pub printed : List ℕ
  pub ended : Bool

-- the fields and a newline
abbrev pub printed_of : Step → List ℕ
printed_of d = told_fields d.told d.state.phase.crew d.finishes d.state.table ++ 10 ∷ []

-- a line that asks for nothing is bad
abbrev pub answered : State → Option Task → Answer
answered s None = record { state = s; printed = field bad ++ 10 ∷ []; ended = true }
answered s (Some t) = record { state = (performed s t).state; printed = printed_of (performed s t); ended = false }

unfoldable pub answer_of : State → Line → Answer
answer_of s l = answered s (reading_in s.phase.kind (length s.items) s.phase.shut l)

-- the output line of sheet line n
abbrev pub rendered : ℕ → Answer → List ℕ
rendered n a = digits_of n ++ a.printed
