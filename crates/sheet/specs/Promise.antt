-- What is promised of each line of a shift sheet: from its bytes to the state behind it and the bytes printed behind its number, in document 01's words
-- ("The shift sheet") and in those of document 02, points 2 (`item`, `order`) and 6 (`open`, `list`). Proved in proofs/Theorem.
use Rattle.std.specs.Prelude.{◌≡◌, ◌≢◌, ◌⊎◌, true, false, cond, List, [], ◌∷◌, ◌++◌, ℕ, zero, suc, ◌≤◌, ◌<◌, eqb, length, get_or, replicate, Option, Some, None, Ok, Err}
use Prim.Native.String.{String}
use Rattle.homes.specs.Homes.{hash_of}
use Rattle.prices.specs.Contents.{label, price}
use Rattle.orders.specs.declared.Order.{Order}
use Rattle.words.specs.Words.{entries_of}
use Rattle.rule.specs.declared.Answer.{Answer}
use Rattle.rule.specs.declared.Answer.TheVariants as answer
use Rattle.state.specs.Model.{gateway}
use Rattle.state.specs.Open.{open_call}
use Rattle.state.specs.Refusals.{number_of}
use Rattle.state.specs.declared.Phase.{Phase}
use Rattle.state.specs.declared.Refusal.{Refusal}
use Rattle.state.specs.declared.Refusal.TheVariants.{Shut, LongList, Even}
use Rattle.state.specs.declared.Replied.{Replied}
use Rattle.state.specs.Replies.{Reply}
use Rattle.tables.specs.Calls.{check_call}
use Rattle.protocol.specs.Calls.{close_call, order_call, turn_call, turn_table}
use Rattle.protocol.specs.Replies.{TurnReply}
use Rattle.text.specs.Bytes.{bytes_of}
use Rattle.text.specs.Digits.{digits_of}
use Rattle.lines.specs.Grammar.{reading_of}
use Rattle.dealing.specs.Deal as dealing
use Rattle.dealing.specs.Deal.{unfinished}
use Rattle.dealing.specs.Promise.{Runs, Tells}
use Rattle.dealing.specs.declared.Ended.{Ended}
use Rattle.sheet.specs.Replay.{State, blank, answer_of}
use Rattle.sheet.specs.Valid.{Valid, ByCalls}

-- ---- lines
-- numbers, each behind a tab
abbrev pub numbers_text : List ℕ → List ℕ
numbers_text [] = []
numbers_text (n ∷ ns) = bytes_of "\t" ++ (digits_of n ++ numbers_text ns)

-- a line as it is written: a word and its numbers, parted by tabs
abbrev pub line : String → List ℕ → List ℕ
line word ns = bytes_of word ++ numbers_text ns

-- the first field of a text is f: it is the whole text, or a tab follows
abbrev pub FirstIs : List ℕ → List ℕ → Type 0
FirstIs f l = (l ≡ f) ⊎ ((rest : List ℕ) × (l ≡ f ++ (bytes_of "\t" ++ rest)))

-- no number of a line is above this
abbrev pub greatest : ℕ
greatest = 4294967295

abbrev pub InRange : List ℕ → Type 0
InRange [] = Unit {0}
InRange (n ∷ ns) = (n ≤ greatest) × InRange ns

-- the forms of a line: a word, and how many numbers stand behind it
pub record Form : Type 0 where
  pub word : String
  pub count : ℕ

abbrev pub form : String → ℕ → Form
form word count = record { word = word; count = count }

-- in a shift of kind k: an order has one number in a put-in shift, and else two
abbrev pub forms : ℕ → List Form
forms k =
    form "cells" 1
    ∷ form "open" 4
    ∷ form "item" 3
    ∷ form "order" (cond (eqb k 1) 1 2)
    ∷ form "turn" 1
    ∷ form "run" 0
    ∷ form "close" 0
    ∷ form "list" 0
    ∷ []

-- a line that is written in a form
pub record WrittenIn (f : Form) (l : List ℕ) : Type 0 where
  pub numbers : List ℕ
  pub count : length numbers ≡ f.count
  pub range : InRange numbers
  pub text : l ≡ line f.word numbers

abbrev pub InNone : List Form → List ℕ → Type 0
InNone [] l = Unit {0}
InNone (f ∷ fs) l = (WrittenIn f l → ⊥) × InNone fs l

-- an unreadable line in a shift of kind k: in none of the forms
abbrev pub Unreadable : ℕ → List ℕ → Type 0
Unreadable k l = InNone (forms k) l

-- ---- what is printed behind the line's number
abbrev pub refused_text : ℕ → List ℕ
refused_text n = bytes_of "\trefused\t" ++ digits_of n

abbrev pub reply_text : Reply → List ℕ
reply_text (Ok _) = bytes_of "\tok"
reply_text (Err r) = refused_text (number_of r)

-- of a turn: went on, finished (the price or no of a look-up), or idle
abbrev pub turn_text : TurnReply → List ℕ
turn_text (Ok answer.WentOn) = bytes_of "\ton"
turn_text (Ok answer.Finished) = bytes_of "\tdone"
turn_text (Ok (answer.Price q)) = numbers_text (q ∷ [])
turn_text (Ok answer.No) = bytes_of "\tno"
turn_text (Ok answer.Idle) = bytes_of "\tidle"
turn_text (Err r) = refused_text (number_of r)

-- of a worker after a run: nothing has ended, or its finish
abbrev pub end_text : Option Ended → List ℕ
end_text None = bytes_of "\t-"
end_text (Some Ended.Finished) = bytes_of "\tdone"
end_text (Some (Ended.Price q)) = numbers_text (q ∷ [])
end_text (Some Ended.No) = bytes_of "\tno"

-- one field a worker: of workers 0, 1 and so on, m in all
abbrev pub workers_text : ℕ → (ℕ → List ℕ) → List ℕ
workers_text zero text = []
workers_text (suc m) text = workers_text m text ++ text m

-- how worker w of these finished
abbrev pub finish_text : List (Option Ended) → ℕ → List ℕ
finish_text fs w = end_text (get_or fs w unfinished)

-- each label followed by its price
abbrev pub priced_text : List ℕ → List ℕ
priced_text [] = []
priced_text (e ∷ es) = numbers_text (label e ∷ price e ∷ []) ++ priced_text es

-- the count of the labels, then the labels with their prices
abbrev pub list_text : List ℕ → List ℕ
list_text es = numbers_text (length es ∷ []) ++ priced_text es

-- ---- what a line does
abbrev pub state_with : Phase → List ℕ → List Order → State
state_with p t items = record { phase = p; table = t; items = items }

-- in state s the line leaves s' and prints the text and a newline; the replay goes on
abbrev pub Does : State → List ℕ → State → List ℕ → Type 0
Does s l s' text = answer_of s (reading_of l) ≡ record { state = s'; printed = text ++ bytes_of "\n"; ended = false }

-- it does what a call on the shift record does, and prints the call's answer; the table and the items are kept
abbrev pub Replies : State → List ℕ → Replied → Type 0
Replies s l r = Does s l (state_with r.phase s.table s.items) (reply_text r.reply)

-- the opening that a line `open` asks for: it is lent the items
abbrev pub opening_of : State → (k m a b : ℕ) → Replied
opening_of s k m a b = open_call gateway k m (hash_of a b) s.table s.items

-- it answers `bad` and ends the replay; nothing changes
abbrev pub Bad : State → List ℕ → Type 0
Bad s l = answer_of s (reading_of l) ≡ record { state = s; printed = bytes_of "\tbad\n"; ended = true }

-- ---- in a shut shift
pub record InShut (s : State) : Type 0 where
  -- `cells` and a length: 2 to 4,096 here, a fresh empty table; the items are kept
  pub cells : (n : ℕ) → 2 ≤ n → n ≤ 4096 → Does s (line "cells" (n ∷ [])) (state_with s.phase (replicate n 0) s.items) (bytes_of "\tok")
  -- else refusal 1 with the old table kept
  pub cells_refused : (n : ℕ) → n ≤ greatest → ((2 ≤ n) × (n ≤ 4096) → ⊥) → Does s (line "cells" (n ∷ [])) s (refused_text 1)
  -- `item` worker label price: behind the others
  pub item : (w v cents : ℕ) → w ≤ greatest → v ≤ greatest → cents ≤ greatest → length s.items < 1024
      → Does s (line "item" (w ∷ v ∷ cents ∷ []))
      (state_with s.phase s.table (s.items ++ (record { key = v; price = cents; worker = w } ∷ []))) (bytes_of "\tok")
  -- past 1,024 items it is `bad`
  pub item_full : 1024 ≤ length s.items → (l : List ℕ) → FirstIs (bytes_of "item") l → Bad s l
  -- `open` kind count a b: the opening is lent the items, and whatever it answers they are kept; a refused one changes nothing
  pub opening : (k m a b : ℕ) → k ≤ greatest → m ≤ greatest → a ≤ greatest → b ≤ greatest → (opening_of s k m a b).reply ≡ Ok tt
      → Replies s (line "open" (k ∷ m ∷ a ∷ b ∷ [])) (opening_of s k m a b)
  pub opening_refused : (k m a b : ℕ) → k ≤ greatest → m ≤ greatest → a ≤ greatest → b ≤ greatest → (r : Refusal) → (opening_of s k m a b).reply ≡ Err r
      → Does s (line "open" (k ∷ m ∷ a ∷ b ∷ [])) s (refused_text (number_of r))
  -- an accepted one leaves its a and b
  pub opening_hash : (k m a b : ℕ) → (opening_of s k m a b).reply ≡ Ok tt → (opening_of s k m a b).phase.hash ≡ hash_of a b
  -- in a shut shift `run` and every line whose first field is `order` answer 11
  pub run : Does s (line "run" []) s (refused_text 11)
  pub order : (l : List ℕ) → FirstIs (bytes_of "order") l → Does s l s (refused_text 11)
  -- an unreadable line answers `bad` and ends the replay
  pub unreadable : (l : List ℕ) → Unreadable s.phase.kind l → (FirstIs (bytes_of "order") l → ⊥) → Bad s l

-- ---- in an open shift
pub record InOpen (s : State) : Type 0 where
  -- `cells`, `open` or `item` in an open shift answers `bad` and ends the replay, whatever follows
  pub cells : (l : List ℕ) → FirstIs (bytes_of "cells") l → Bad s l
  pub opening : (l : List ℕ) → FirstIs (bytes_of "open") l → Bad s l
  pub item : (l : List ℕ) → FirstIs (bytes_of "item") l → Bad s l
  -- `order` place in a put-in shift: by that line of the items, from 0; a worker and a label handed to the order call are not read there
  pub order_placed : s.phase.kind ≡ 1 → (i : ℕ) → i ≤ greatest → (w v : ℕ) → Replies s (line "order" (i ∷ [])) (order_call gateway s.phase s.items i w v)
  -- `order` worker label in the others, where a list and a line number handed to the order call are not read
  pub order : s.phase.kind ≢ 1 → (w v : ℕ) → w ≤ greatest → v ≤ greatest → (os : List Order) (i : ℕ)
      → Replies s (line "order" (w ∷ v ∷ [])) (order_call gateway s.phase os i w v)
  -- another number of fields is not readable there
  pub order_misfit : s.phase.kind ≡ 1 → (ns : List ℕ) → length ns ≢ 1 → Bad s (line "order" ns)
  pub order_other_misfit : s.phase.kind ≢ 1 → (ns : List ℕ) → length ns ≢ 2 → Bad s (line "order" ns)
  -- `run` deals turns until all are idle, and gives one field per worker; a shift has at most 16 workers
  pub run : s.phase.crew ≤ 16
      → let d = dealing.run gateway s.phase s.table in
      Does s (line "run" []) (state_with d.dealt.phase d.table s.items) (workers_text s.phase.crew (finish_text d.dealt.finishes))
  pub unreadable : (l : List ℕ) → Unreadable s.phase.kind l → Bad s l

-- ---- in either
pub record InEither (s : State) : Type 0 where
  -- `turn` worker: the turn's record, table and answer
  pub turn : (w : ℕ) → w ≤ greatest
      → let r = turn_call gateway s.phase s.table w in
      Does s (line "turn" (w ∷ [])) (state_with r.phase (turn_table gateway s.phase s.table w) s.items) (turn_text r.reply)
  -- `close`, which clears the items exactly if it is accepted in a put-in shift
  pub close : s.phase.kind ≢ 1 → Replies s (line "close" []) (close_call gateway s.phase)
  pub close_refused : (r : Refusal) → (close_call gateway s.phase).reply ≡ Err r → Does s (line "close" []) s (refused_text (number_of r))
  pub close_clears : s.phase.kind ≡ 1 → (close_call gateway s.phase).reply ≡ Ok tt
      → Does s (line "close" []) (state_with (close_call gateway s.phase).phase s.table []) (bytes_of "\tok")
  -- `list` gives the count, then each label followed by its price, where the check by the record's a and b passes the table, and else the check's refusal
  pub list : check_call gateway s.phase.hash s.table ≡ Ok tt → Does s (line "list" []) s (list_text (entries_of s.table))
  pub list_refused : (r : Refusal) → check_call gateway s.phase.hash s.table ≡ Err r → Does s (line "list" []) s (refused_text (number_of r))
  -- which are those of the last accepted opening: every line but an opening keeps them
  pub keeps_hash : (l : List ℕ) → (FirstIs (bytes_of "open") l → ⊥) → (answer_of s (reading_of l)).state.phase.hash ≡ s.phase.hash
  -- every line but `item` and `close` keeps the items
  pub keeps_items : (l : List ℕ) → (FirstIs (bytes_of "item") l → ⊥) → (FirstIs (bytes_of "close") l → ⊥) → (answer_of s (reading_of l)).state.items ≡ s.items

-- ---- every replay
pub record SheetPromise : Type 0 where
  -- before `open` the shift counts as shut; before `cells` the table has length 0
  pub before_open : blank.phase.shut ≡ true
  pub before_order : (os : List Order) (i w v : ℕ) → (order_call gateway blank.phase os i w v).reply ≡ Err Shut
  pub before_turn : (t : List ℕ) (w : ℕ) → (turn_call gateway blank.phase t w).reply ≡ Err Shut
  pub before_close : (close_call gateway blank.phase).reply ≡ Err Shut
  pub before_cells : length blank.table ≡ 0
  -- there are no items, and a is 1 and b is 0
  pub before_items : blank.items ≡ []
  pub before_hash : blank.phase.hash ≡ hash_of 1 0
  -- in every state
  pub shut : (s : State) → s.phase.shut ≡ true → InShut s
  pub opened : (s : State) → s.phase.shut ≡ false → InOpen s
  pub either : (s : State) → InEither s
  -- a number with a leading zero, or above 4294967295, is read in no line
  pub leading_zero : (front rest : List ℕ) (k b : ℕ) → b ≢ 9 → Unreadable k (front ++ (bytes_of "\t0" ++ b ∷ rest))
  pub above : (front rest : List ℕ) (k n : ℕ) → greatest < n → FirstIs (digits_of n) rest → Unreadable k (front ++ (bytes_of "\t" ++ rest))
  -- lines lead to valid states only, whose open shifts have 1 to 16 workers
  pub valid_first : Valid blank
  pub valid : (s : State) → Valid s → (l : List ℕ) → Valid (answer_of s (reading_of l)).state
  pub crew : (s : State) → Valid s → s.phase.shut ≡ false → (1 ≤ s.phase.crew) × (s.phase.crew ≤ 16)
  -- and at most 1,024 items, so that no opening answers 16
  pub few_items : (s : State) → Valid s → length s.items ≤ 1024
  pub never_long : (s : State) → Valid s → (k m a b : ℕ) → (opening_of s k m a b).reply ≢ Err LongList
  -- there a turn that answers a price tells the one at which the label looked up stands in the table, and where one answers no it stands at none
  pub told : (s : State) → Valid s → s.phase.shut ≡ false → (w : ℕ) (a : Answer) → (turn_call gateway s.phase s.table w).reply ≡ Ok a
      → Tells s.phase s.table w a
  -- and a run leaves all workers idle, with `-` exactly for those idle before, else their finish
  pub ran : (s : State) → Valid s → s.phase.shut ≡ false → Runs gateway s.phase s.table (dealing.run gateway s.phase s.table)
  -- lines lead to records that an opening and calls have made, with an odd a, so that no `list` answers 21; in a shut shift `turn` and `close` then answer 11
  -- and change nothing, whatever shift was the last
  pub by_calls_first : ByCalls blank.phase
  pub by_calls : (s : State) → ByCalls s.phase → (l : List ℕ) → ByCalls (answer_of s (reading_of l)).state.phase
  pub never_even : (s : State) → ByCalls s.phase → check_call gateway s.phase.hash s.table ≢ Err Even
  pub shut_turn : (s : State) → ByCalls s.phase → s.phase.shut ≡ true → (w : ℕ) → w ≤ greatest → Does s (line "turn" (w ∷ [])) s (refused_text 11)
  pub shut_close : (s : State) → ByCalls s.phase → s.phase.shut ≡ true → Does s (line "close" []) s (refused_text 11)
