-- The corollaries, each by its promises. Premises are computed, outputs are not.
use Rattle.std.specs.Prelude.{Ok, Err}
use mathlib.Core.Path.{◌≡◌, refl, sym, ap, ◌∙◌, subst}
use mathlib.Core.Logic.{◌≢◌, inl, inr, ⊎_elim}
use mathlib.Core.Bool.{Bool, true, false, ◌||◌}
use mathlib.Core.List.{List, [], ◌∷◌, ◌++◌}
use Prim.Native.Nat.{ℕ, zero, suc, ◌≤◌}
use native.Mathlib.Omega.{arith}
use lib.ListN.{length, get_or, replicate, length-replicate}
use Rattle.ring.specs.Counting.{count}
use Rattle.ring.specs.Ring.{wrap, probe, dist}
use Rattle.ring.proofs.Tests.{not_both}
use Rattle.layout.specs.Layout.{into, descending}
use Rattle.ring.specs.Each.{all, some, first}
use Rattle.homes.specs.Homes.{hash_of, plain}
use Rattle.flaws.specs.Flaws.{meets_empty, meets_key}
use Rattle.orders.specs.Orders.{line_fault, lines_fault}
use Rattle.orders.specs.declared.Order.{Order}
use Rattle.rule.specs.Rule.{settled, absorbed, insert_step, find_step, rule}
use Rattle.rule.specs.declared.Answer.TheVariants.{Idle}
use Rattle.state.specs.Model.{gateway}
use Rattle.state.specs.Open.{open_call}
use Rattle.state.specs.declared.Refusal.TheVariants.{Size, Full, NoLine, Even}
use Rattle.state.specs.declared.Replied.{Replied}
use Rattle.words.specs.Words.{entries_of}
use Rattle.tables.specs.Calls.{check_call}
use Rattle.protocol.specs.Calls.{close_call, order_call, turn_call}
use Rattle.protocol.specs.IsWellFormed.{is_well_formed}
use Rattle.text.specs.Bytes.{same, byte_at, bytes_of}
use Rattle.text.specs.Digits.{digits_within, digits_of}
use Rattle.text.specs.Fields.{fields_of}
use Rattle.text.specs.Numbers.{digits, leads, value_from, is_number}
use Rattle.text.proofs.Test.{by-test}
use Rattle.lines.specs.Grammar.{command_of, are_numbers, numbers_of, reading_of, longest_line, kept_bytes}
use Rattle.dealing.specs.Deal.{Dealing, deal_to, deal, laps, run}
use Rattle.sheet.specs.Promise.{line, FirstIs, Unreadable, workers_text, finish_text, list_text, state_with, Bad, InShut, InOpen}
use Rattle.sheet.specs.Valid.{Valid}
use Rattle.sheet.specs.Replay.{State, blank, Answer, answer_of}
use Rattle.sheet.proofs.Theorem.{sheet-promise}
use Rattle.derived.specs.Corollaries.{oks, Corollaries}
use Rattle.feed.specs.Feed.{begin, behind, fed}
use Rattle.feed.specs.Promise.{Plain, AllPlain, written, state_behind, ends_in}
use Rattle.feed.specs.Whole.{output_of}
use Rattle.feed.proofs.Theorem.{feed-promise}

-- ---- one line more
state-more : (l : List ℕ) (ls : List (List ℕ)) (s : State) → state_behind s (ls ++ l ∷ []) ≡ (answer_of (state_behind s ls) (reading_of l)).state
unfolding state_behind
state-more l [] s = refl
state-more l (x ∷ ls) s = state-more l ls (answer_of s (reading_of x)).state

or-none : (b : Bool) → (b || false) ≡ b
or-none true = refl
or-none false = refl

ends_more : (l : List ℕ) (ls : List (List ℕ)) (s : State) → ends_in s ls ≡ false → ends_in s (ls ++ l ∷ []) ≡ (answer_of (state_behind s ls) (reading_of l)).ended
unfolding state_behind ends_in
ends_more l [] s e = or-none (answer_of s (reading_of l)).ended
ends_more l (x ∷ ls) s e = by-test (answer_of s (reading_of x)).ended
    (λ t. absurd (not_both true refl (rw t at e)))
    (λ f. rw f (ends_more l ls (answer_of s (reading_of x)).state (rw f at e)))

plain_more : (ls : List (List ℕ)) (l : List ℕ) → AllPlain ls → Plain l → AllPlain (ls ++ l ∷ [])
plain_more [] l ps p = (p, tt)
plain_more (x ∷ ls) l ps p = (ps.0, plain_more ls l ps.1 p)

-- ---- lines that lead to the state s, print this and do not end the replay
record Leads (ls : List (List ℕ)) (s : State) (out : List ℕ) : Type 0 where
  plain : AllPlain ls
  goes : ends_in blank ls ≡ false
  state : state_behind blank ls ≡ s
  prints : output_of (written ls) ≡ out
  valid : Valid s

none : Leads [] blank []
unfolding state_behind ends_in
none = record { plain = tt; goes = refl; state = refl; prints = feed-promise.no_lines; valid = sheet-promise.valid_first }

module _ (ls : List (List ℕ)) (s : State) (out : List ℕ) (h : Leads ls s out) (l : List ℕ) (p : Plain l) where
  -- what the next line is answered
  answered : (a : Answer) → answer_of s (reading_of l) ≡ a
      → (output_of (written (ls ++ l ∷ [])) ≡ out ++ (digits_of (suc (length ls)) ++ a.printed))
      × (state_behind blank (ls ++ l ∷ []) ≡ a.state) × (ends_in blank (ls ++ l ∷ []) ≡ a.ended)
  answered a e =
      let f : answer_of (state_behind blank ls) (reading_of l) ≡ a = ap (λ (x : State). answer_of x (reading_of l)) h.state ∙ e in (
        feed-promise.next_line ls l h.plain p h.goes ∙ rw (h.prints, f),
        state-more l ls blank ∙ ap (λ (x : Answer). x.state) f,
        ends_more l ls blank h.goes ∙ ap (λ (x : Answer). x.ended) f,
      )

  -- where it does not end the replay
  more : (a : Answer) → a.ended ≡ false → answer_of s (reading_of l) ≡ a
      → (text : List ℕ) → digits_of (suc (length ls)) ++ a.printed ≡ text → Leads (ls ++ l ∷ []) a.state (out ++ text)
  more a g e text f =
      let (prints, state, goes) = answered a e in
      record {
        plain = plain_more ls l h.plain p;
        goes = goes ∙ g;
        state = state;
        prints = prints ∙ ap (λ (x : List ℕ). out ++ x) f;
        valid = subst (λ (x : Answer). Valid x.state) e (sheet-promise.valid s h.valid l);
      }

  -- a bad line, and one more behind it
  ended : Bad s l → (x : List ℕ) → Plain x
      → output_of (written ((ls ++ l ∷ []) ++ x ∷ [])) ≡ out ++ (digits_of (suc (length ls)) ++ bytes_of "\tbad\n")
  ended e x q =
      let (prints, _, over) = answered _ e in
      feed-promise.line_past (ls ++ l ∷ []) x (plain_more ls l h.plain p) q over ∙ prints

-- ---- a shut shift, before `cells`
before : InShut blank
before = sheet-promise.shut blank sheet-promise.before_open

abbrev broken_order : List ℕ
broken_order = bytes_of "order\tx"

first-order : FirstIs (bytes_of "order") broken_order
unfolding bytes_of
first-order = inr (bytes_of "x", refl)

-- ---- the lines
abbrev cells_line : ℕ → List ℕ
cells_line n = line "cells" (n ∷ [])

abbrev open_line : ℕ → ℕ → List ℕ
open_line k m = line "open" (k ∷ m ∷ 1 ∷ 0 ∷ [])

abbrev item_three : List ℕ
item_three = line "item" (0 ∷ 3 ∷ 20 ∷ [])

abbrev item_eight : List ℕ
item_eight = line "item" (1 ∷ 8 ∷ 15 ∷ [])

abbrev place_line : ℕ → List ℕ
place_line i = line "order" (i ∷ [])

abbrev order_line : ℕ → ℕ → List ℕ
order_line w v = line "order" (w ∷ v ∷ [])

abbrev turn_line : List ℕ
turn_line = line "turn" (1 ∷ [])

abbrev run_line : List ℕ
run_line = line "run" []

abbrev close_line : List ℕ
close_line = line "close" []

abbrev list_line : List ℕ
list_line = line "list" []

-- no newline is in them
record Plains : Type 0 where
  cells : Plain (cells_line 5) × Plain (cells_line 1) × Plain (cells_line 2)
  opens : Plain (open_line 1 2) × Plain (open_line 3 1)
  items : Plain item_three × Plain item_eight
  places : Plain (place_line 0) × Plain (place_line 1) × Plain (place_line 2)
  orders : Plain (order_line 0 8) × Plain (order_line 0 3)
  others : Plain turn_line × Plain run_line × Plain close_line × Plain list_line
  broken : Plain broken_order × Plain (bytes_of "open")

plains : Plains
unfolding byte_at bytes_of digits_of digits_within
plains = record {
  cells = (refl, refl, refl);
  opens = (refl, refl);
  items = (refl, refl);
  places = (refl, refl, refl);
  orders = (refl, refl);
  others = (refl, refl, refl, refl);
  broken = (refl, refl);
}

-- ---- `cells` 5
abbrev cells_lines : List (List ℕ)
cells_lines = cells_line 5 ∷ []

abbrev with_cells : State
with_cells = state_with blank.phase (replicate 5 0) []

cells-lead : Leads cells_lines with_cells (bytes_of "1\tok\n")
unfolding bytes_of digits_of digits_within
cells-lead = more [] blank [] none (cells_line 5) plains.cells.0 _ refl (before.cells 5 (omega arith) (omega arith)) (bytes_of "1\tok\n") refl

check-passes : check_call gateway plain (replicate 5 0) ≡ Ok tt
unfolding meets_empty meets_key first all some dist probe wrap
check-passes = refl

-- ---- `open` 1 2 without items
abbrev open_lines : List (List ℕ)
open_lines = cells_lines ++ open_line 1 2 ∷ []

abbrev open_state : State
open_state = state_with (open_call gateway 1 2 plain (replicate 5 0) []).phase (replicate 5 0) []

abbrev open_out : List ℕ
open_out = bytes_of "1\tok\n2\tok\n"

open-accepted : ((open_call gateway 1 2 plain (replicate 5 0) []).reply ≡ Ok tt) × (open_state.phase.kind ≡ 1) × (open_state.phase.shut ≡ false)
unfolding meets_empty meets_key first all some dist probe wrap line_fault lines_fault into descending
open-accepted = (refl, refl, refl)

open-lead : Leads open_lines open_state open_out
unfolding bytes_of digits_of digits_within
open-lead = more cells_lines with_cells _ cells-lead (open_line 1 2) plains.opens.0 _ refl
    ((sheet-promise.shut with_cells refl).opening 1 2 1 0 (omega arith) (omega arith) (omega arith) (omega arith) open-accepted.0) (bytes_of "2\tok\n") (rw open-accepted.0 refl)

running : InOpen open_state
running = sheet-promise.opened open_state open-accepted.2

worker-idle : (turn_call gateway open_state.phase (replicate 5 0) 1).reply ≡ Ok Idle
unfolding is_well_formed meets_empty meets_key first all some dist probe wrap count line_fault lines_fault into descending
worker-idle = refl

-- ---- by other a and b
abbrev spread_line : (a b : ℕ) → List ℕ
spread_line a b = line "open" (3 ∷ 1 ∷ a ∷ b ∷ [])

abbrev spread_lines : List (List ℕ)
spread_lines = cells_lines ++ spread_line 3 1 ∷ []

abbrev spread_state : State
spread_state = state_with (open_call gateway 3 1 (hash_of 3 1) (replicate 5 0) []).phase (replicate 5 0) []

spread-plain : Plain (spread_line 3 1) × Plain (spread_line 2 0)
unfolding byte_at bytes_of digits_of digits_within
spread-plain = (refl, refl)

spread-accepted : ((open_call gateway 3 1 (hash_of 3 1) (replicate 5 0) []).reply ≡ Ok tt) × (check_call gateway spread_state.phase.hash (replicate 5 0) ≡ Ok tt)
unfolding meets_empty meets_key first all some dist probe wrap
spread-accepted = (refl, refl)

spread-lead : Leads spread_lines spread_state (bytes_of "1\tok\n2\tok\n")
unfolding bytes_of digits_of digits_within
spread-lead = more cells_lines with_cells _ cells-lead (spread_line 3 1) spread-plain.0 _ refl
    ((sheet-promise.shut with_cells refl).opening 3 1 3 1 (omega arith) (omega arith) (omega arith) (omega arith) spread-accepted.0) (bytes_of "2\tok\n")
    (rw spread-accepted.0 refl)

-- ---- two items
abbrev three : Order
three = record { key = 3; price = 20; worker = 0 }

abbrev items : List Order
items = three ∷ record { key = 8; price = 15; worker = 1 } ∷ []

abbrev one_lines : List (List ℕ)
one_lines = cells_lines ++ item_three ∷ []

abbrev two_lines : List (List ℕ)
two_lines = one_lines ++ item_eight ∷ []

abbrev one_state : State
one_state = state_with blank.phase (replicate 5 0) (three ∷ [])

abbrev two_state : State
two_state = state_with blank.phase (replicate 5 0) items

one-lead : Leads one_lines one_state (bytes_of "1\tok\n2\tok\n")
unfolding bytes_of digits_of digits_within
one-lead = more cells_lines with_cells _ cells-lead item_three plains.items.0 _ refl
    ((sheet-promise.shut with_cells refl).item 0 3 20 (omega arith) (omega arith) (omega arith) (omega arith)) (bytes_of "2\tok\n") refl

two-lead : Leads two_lines two_state (bytes_of "1\tok\n2\tok\n3\tok\n")
unfolding bytes_of digits_of digits_within
two-lead = more one_lines one_state _ one-lead item_eight plains.items.1 _ refl
    ((sheet-promise.shut one_state refl).item 1 8 15 (omega arith) (omega arith) (omega arith) (omega arith)) (bytes_of "3\tok\n") refl

-- ---- they open a put-in shift
abbrev start_lines : List (List ℕ)
start_lines = two_lines ++ open_line 1 2 ∷ []

abbrev start_state : State
start_state = state_with (open_call gateway 1 2 plain (replicate 5 0) items).phase (replicate 5 0) items

abbrev start_out : List ℕ
start_out = bytes_of "1\tok\n2\tok\n3\tok\n4\tok\n"

start-accepted : ((open_call gateway 1 2 plain (replicate 5 0) items).reply ≡ Ok tt) × (start_state.phase.kind ≡ 1) × (start_state.phase.shut ≡ false)
unfolding meets_empty meets_key first all some dist probe wrap line_fault lines_fault into descending
start-accepted = (refl, refl, refl)

start-lead : Leads start_lines start_state start_out
unfolding bytes_of digits_of digits_within
start-lead = more two_lines two_state _ two-lead (open_line 1 2) plains.opens.0 _ refl
    ((sheet-promise.shut two_state refl).opening 1 2 1 0 (omega arith) (omega arith) (omega arith) (omega arith) start-accepted.0) (bytes_of "4\tok\n") (rw start-accepted.0 refl)

starting : InOpen start_state
starting = sheet-promise.opened start_state start-accepted.2

-- a place past the list
past-refused : (order_call gateway start_state.phase items 2 0 0).reply ≡ Err NoLine
unfolding is_well_formed meets_empty meets_key first all some dist probe wrap count line_fault lines_fault into descending
past-refused = refl

-- ---- two orders and a run
abbrev placed : Replied
placed = order_call gateway start_state.phase items 0 0 0

abbrev second : Replied
second = order_call gateway placed.phase items 1 0 0

abbrev first_state : State
first_state = state_with placed.phase (replicate 5 0) items

abbrev second_state : State
second_state = state_with second.phase (replicate 5 0) items

first-accepted : (placed.reply ≡ Ok tt) × (placed.phase.kind ≡ 1) × (placed.phase.shut ≡ false)
unfolding is_well_formed meets_empty meets_key first all some dist probe wrap count line_fault lines_fault into descending
first-accepted = (refl, refl, refl)

second-accepted : (second.reply ≡ Ok tt) × (second.phase.shut ≡ false)
unfolding is_well_formed meets_empty meets_key first all some dist probe wrap count line_fault lines_fault into descending
second-accepted = (refl, refl)

abbrev first_lines : List (List ℕ)
first_lines = start_lines ++ place_line 0 ∷ []

abbrev second_lines : List (List ℕ)
second_lines = first_lines ++ place_line 1 ∷ []

first-lead : Leads first_lines first_state (bytes_of "1\tok\n2\tok\n3\tok\n4\tok\n5\tok\n")
unfolding bytes_of digits_of digits_within
first-lead = more start_lines start_state _ start-lead (place_line 0) plains.places.0 _ refl
    (starting.order_placed start-accepted.1 0 (omega arith) 0 0) (bytes_of "5\tok\n") (rw first-accepted.0 refl)

second-lead : Leads second_lines second_state (bytes_of "1\tok\n2\tok\n3\tok\n4\tok\n5\tok\n6\tok\n")
unfolding bytes_of digits_of digits_within
second-lead = more first_lines first_state _ first-lead (place_line 1) plains.places.1 _ refl
    ((sheet-promise.opened first_state first-accepted.2).order_placed first-accepted.1 1 (omega arith) 0 0) (bytes_of "6\tok\n")
    (rw second-accepted.0 refl)

-- how the workers finish
run-told : workers_text second.phase.crew (finish_text (run gateway second.phase (replicate 5 0)).dealt.finishes) ≡ bytes_of "\tdone\tdone"
unfolding
    bytes_of laps deal deal_to is_well_formed rule settled absorbed insert_step meets_empty meets_key first all some dist probe wrap count
    line_fault lines_fault into descending
run-told = refl

abbrev ran : Dealing
ran = run gateway second.phase (replicate 5 0)

abbrev ran_state : State
ran_state = state_with ran.dealt.phase ran.table items

abbrev ran_lines : List (List ℕ)
ran_lines = second_lines ++ run_line ∷ []

ran-lead : Leads ran_lines ran_state (bytes_of "1\tok\n2\tok\n3\tok\n4\tok\n5\tok\n6\tok\n7\tdone\tdone\n")
unfolding bytes_of digits_of digits_within
ran-lead =
    let up = second-accepted.1 in
    more second_lines second_state _ second-lead run_line plains.others.1 _ refl
    ((sheet-promise.opened second_state up).run (sheet-promise.crew second_state second-lead.valid up).1) (bytes_of "7\tdone\tdone\n") (rw run-told refl)

-- ---- the shift closed, and its items with it
abbrev closed : Replied
closed = close_call gateway ran.dealt.phase

abbrev closed_state : State
closed_state = state_with closed.phase ran.table []

abbrev closed_lines : List (List ℕ)
closed_lines = ran_lines ++ close_line ∷ []

abbrev closed_out : List ℕ
closed_out = bytes_of "1\tok\n2\tok\n3\tok\n4\tok\n5\tok\n6\tok\n7\tdone\tdone\n8\tok\n"

close-accepted : (closed.reply ≡ Ok tt) × (closed.phase.shut ≡ true) × (ran.dealt.phase.kind ≡ 1)
unfolding
    laps deal deal_to is_well_formed rule settled absorbed insert_step meets_empty meets_key first all some dist probe wrap count line_fault lines_fault into descending
close-accepted = (refl, refl, refl)

-- the table, each label with its price, is sound
table-told : (check_call gateway closed_state.phase.hash ran.table ≡ Ok tt) × (list_text (entries_of ran.table) ≡ bytes_of "\t2\t8\t15\t3\t20")
unfolding
    bytes_of digits_of digits_within laps deal deal_to is_well_formed rule settled absorbed insert_step meets_empty meets_key first all some dist probe wrap count
    line_fault lines_fault into descending
table-told = (refl, refl)

closed-lead : Leads closed_lines closed_state closed_out
unfolding bytes_of digits_of digits_within
closed-lead = more ran_lines ran_state _ ran-lead close_line plains.others.2 _ refl
    ((sheet-promise.either ran_state).close_clears close-accepted.2 close-accepted.0) (bytes_of "8\tok\n") refl

-- ---- the next put-in shift has no items
abbrev next_state : State
next_state = state_with (open_call gateway 1 2 plain ran.table []).phase ran.table []

abbrev next_lines : List (List ℕ)
next_lines = closed_lines ++ open_line 1 2 ∷ []

next-opens : ((open_call gateway 1 2 plain ran.table []).reply ≡ Ok tt) × (next_state.phase.shut ≡ false) × (next_state.phase.kind ≡ 1)
unfolding
    laps deal deal_to is_well_formed rule settled absorbed insert_step meets_empty meets_key first all some dist probe wrap count line_fault lines_fault into descending
next-opens = (refl, refl, refl)

next-lead : Leads next_lines next_state (closed_out ++ bytes_of "9\tok\n")
unfolding bytes_of digits_of digits_within
next-lead = more closed_lines closed_state _ closed-lead (open_line 1 2) plains.opens.0 _ refl
    ((sheet-promise.shut closed_state close-accepted.1).opening 1 2 1 0 (omega arith) (omega arith) (omega arith) (omega arith) next-opens.0) (bytes_of "9\tok\n") (rw next-opens.0 refl)

none_left : (order_call gateway next_state.phase [] 0 0 0).reply ≡ Err NoLine
unfolding
    laps deal deal_to is_well_formed rule settled absorbed insert_step meets_empty meets_key first all some dist probe wrap count line_fault lines_fault into descending
none_left = refl

-- ---- a look-up
abbrev find_state : State
find_state = state_with (open_call gateway 3 1 plain ran.table []).phase ran.table []

abbrev find_lines : List (List ℕ)
find_lines = closed_lines ++ open_line 3 1 ∷ []

abbrev find_out : List ℕ
find_out = closed_out ++ bytes_of "9\tok\n"

find-opens : ((open_call gateway 3 1 plain ran.table []).reply ≡ Ok tt) × (find_state.phase.shut ≡ false) × (find_state.phase.kind ≡ 3)
unfolding
    laps deal deal_to is_well_formed rule settled absorbed insert_step meets_empty meets_key first all some dist probe wrap count line_fault lines_fault into descending
find-opens = (refl, refl, refl)

not-put-in : find_state.phase.kind ≢ 1
not-put-in e = omega (arith, find-opens.2)

find-lead : Leads find_lines find_state find_out
unfolding bytes_of digits_of digits_within
find-lead = more closed_lines closed_state _ closed-lead (open_line 3 1) plains.opens.1 _ refl
    ((sheet-promise.shut closed_state close-accepted.1).opening 3 1 1 0 (omega arith) (omega arith) (omega arith) (omega arith) find-opens.0) (bytes_of "9\tok\n") (rw find-opens.0 refl)

finding : InOpen find_state
finding = sheet-promise.opened find_state find-opens.1

abbrev wanted : Replied
wanted = order_call gateway find_state.phase [] 0 0 8

abbrev wanted_state : State
wanted_state = state_with wanted.phase ran.table []

abbrev wanted_lines : List (List ℕ)
wanted_lines = find_lines ++ order_line 0 8 ∷ []

wanted-accepted : (wanted.reply ≡ Ok tt) × (wanted.phase.shut ≡ false)
unfolding
    laps deal deal_to is_well_formed rule settled absorbed insert_step meets_empty meets_key first all some dist probe wrap count line_fault lines_fault into descending
wanted-accepted = (refl, refl)

wanted-lead : Leads wanted_lines wanted_state (find_out ++ bytes_of "10\tok\n")
unfolding bytes_of digits_of digits_within
wanted-lead = more find_lines find_state _ find-lead (order_line 0 8) plains.orders.0 _ refl
    (finding.order not-put-in 0 8 (omega arith) (omega arith) [] 0) (bytes_of "10\tok\n") (rw wanted-accepted.0 refl)

found-told : workers_text wanted.phase.crew (finish_text (run gateway wanted.phase ran.table).dealt.finishes) ≡ bytes_of "\t15"
unfolding
    bytes_of digits_of digits_within laps deal deal_to is_well_formed rule settled absorbed insert_step find_step meets_empty meets_key first all some dist probe wrap
    count line_fault lines_fault into descending
found-told = refl

-- ---- the items last: over a refused `cells`, a look-up shift and its close, and another `cells`
abbrev refused_lines : List (List ℕ)
refused_lines = two_lines ++ cells_line 1 ∷ []

refused-lead : Leads refused_lines two_state (bytes_of "1\tok\n2\tok\n3\tok\n4\trefused\t1\n")
unfolding bytes_of digits_of digits_within
refused-lead = more two_lines two_state _ two-lead (cells_line 1) plains.cells.1 _ refl
    ((sheet-promise.shut two_state refl).cells_refused 1 (omega arith) (λ (few, _). omega arith)) (bytes_of "4\trefused\t1\n") refl

abbrev seek_state : State
seek_state = state_with (open_call gateway 3 1 plain (replicate 5 0) items).phase (replicate 5 0) items

abbrev sought_state : State
sought_state = state_with (close_call gateway seek_state.phase).phase (replicate 5 0) items

seek-opens : ((open_call gateway 3 1 plain (replicate 5 0) items).reply ≡ Ok tt) × (seek_state.phase.kind ≡ 3)
unfolding meets_empty meets_key first all some dist probe wrap
seek-opens = (refl, refl)

seek-closes : ((close_call gateway seek_state.phase).reply ≡ Ok tt) × (sought_state.phase.shut ≡ true)
unfolding is_well_formed meets_empty meets_key first all some dist probe wrap count
seek-closes = (refl, refl)

abbrev seek_lines : List (List ℕ)
seek_lines = refused_lines ++ open_line 3 1 ∷ []

abbrev sought_lines : List (List ℕ)
sought_lines = seek_lines ++ close_line ∷ []

abbrev small_lines : List (List ℕ)
small_lines = sought_lines ++ cells_line 2 ∷ []

seek-lead : Leads seek_lines seek_state (bytes_of "1\tok\n2\tok\n3\tok\n4\trefused\t1\n5\tok\n")
unfolding bytes_of digits_of digits_within
seek-lead = more refused_lines two_state _ refused-lead (open_line 3 1) plains.opens.1 _ refl
    ((sheet-promise.shut two_state refl).opening 3 1 1 0 (omega arith) (omega arith) (omega arith) (omega arith) seek-opens.0) (bytes_of "5\tok\n") (rw seek-opens.0 refl)

sought-lead : Leads sought_lines sought_state (bytes_of "1\tok\n2\tok\n3\tok\n4\trefused\t1\n5\tok\n6\tok\n")
unfolding bytes_of digits_of digits_within
sought-lead = more seek_lines seek_state _ seek-lead close_line plains.others.2 _ refl
    ((sheet-promise.either seek_state).close (λ e. omega (arith, seek-opens.1))) (bytes_of "6\tok\n") (rw seek-closes.0 refl)

abbrev small_state : State
small_state = state_with sought_state.phase (replicate 2 0) items

small-lead : Leads small_lines small_state (bytes_of "1\tok\n2\tok\n3\tok\n4\trefused\t1\n5\tok\n6\tok\n7\tok\n")
unfolding bytes_of digits_of digits_within
small-lead = more sought_lines sought_state _ sought-lead (cells_line 2) plains.cells.2 _ refl
    ((sheet-promise.shut sought_state seek-closes.1).cells 2 (omega arith) (omega arith)) (bytes_of "7\tok\n") refl

full : (open_call gateway 1 2 plain (replicate 2 0) items).reply ≡ Err Full
unfolding meets_empty meets_key first all some dist probe wrap line_fault lines_fault into descending
full = refl

-- ---- 1,024 items and one more
replicate-last : {A : Type 0} (n : ℕ) (x : A) → replicate n x ++ x ∷ [] ≡ replicate (suc n) x
replicate-last zero x = refl
replicate-last (suc n) x = rw (replicate-last n x)

abbrev filled : ℕ → State
filled n = state_with blank.phase [] (replicate n three)

items-lead : (n : ℕ) → n ≤ 1024 → Leads (replicate n item_three) (filled n) (oks n)
items-lead zero few = none
items-lead (suc n) few =
    subst (λ (x : List Order). Leads (replicate (suc n) item_three) (state_with blank.phase [] x) (oks (suc n))) (replicate-last n three)
    (subst (λ (x : List (List ℕ)). Leads x (state_with blank.phase [] (replicate n three ++ three ∷ [])) (oks (suc n))) (replicate-last n item_three)
    (more (replicate n item_three) (filled n) (oks n) (items-lead n (omega arith)) item_three plains.items.0 _ refl
    ((sheet-promise.shut (filled n) refl).item 0 3 20 (omega arith) (omega arith) (omega arith) (omega (arith, length-replicate n three)))
    (digits_of (suc n) ++ bytes_of "\tok\n") (rw (length-replicate n item_three) (unfold bytes_of in refl))))

first-item : FirstIs (bytes_of "item") item_three
unfolding bytes_of digits_of digits_within
first-item = inr (bytes_of "0\t3\t20", refl)

past_all : (n : ℕ) → n ≡ 1024 → output_of (written (replicate (suc n) item_three ++ list_line ∷ [])) ≡ oks n ++ (digits_of (suc n) ++ bytes_of "\tbad\n")
past_all n is =
    ap (λ (x : List (List ℕ)). output_of (written (x ++ list_line ∷ []))) (sym (replicate-last n item_three))
    ∙ ended (replicate n item_three) (filled n) (oks n) (items-lead n (omega arith)) item_three plains.items.0
    ((sheet-promise.shut (filled n) refl).item_full (omega (arith, length-replicate n three)) item_three first-item) list_line plains.others.3
    ∙ rw (length-replicate n item_three)

-- ---- a leading zero
abbrev zero_line : List ℕ
zero_line = bytes_of "cells\t05"

zero-plain : Plain zero_line
unfolding byte_at bytes_of
zero-plain = refl

not-order : (l : List ℕ) → FirstIs (bytes_of "order") (99 ∷ l) → ⊥
unfolding bytes_of
not-order l is = ⊎_elim (λ e. let z : ◌≡◌ {A = ℕ} 99 111 = ap (λ (x : List ℕ). get_or x 0 0) e in omega arith)
    (λ (rest, e). let z : ◌≡◌ {A = ℕ} 99 111 = ap (λ (x : List ℕ). get_or x 0 0) e in omega arith) is

zero-unreadable : Unreadable blank.phase.kind zero_line
unfolding bytes_of
zero-unreadable = sheet-promise.leading_zero (bytes_of "cells") [] blank.phase.kind 53 (λ z. omega arith)

zero-bad : Bad blank zero_line
unfolding bytes_of
zero-bad = before.unreadable zero_line zero-unreadable (not-order (bytes_of "ells\t05"))

zero_ended : (fed begin (bytes_of "cells\t05\n")).ended ≡ true
unfolding
    fed behind answer_of bytes_of reading_of command_of same numbers_of are_numbers is_number value_from leads digits fields_of kept_bytes longest_line
zero_ended = refl

-- ---- a number above the greatest
abbrev above_line : List ℕ
above_line = bytes_of "cells\t4294967296"

above-plain : Plain above_line
unfolding byte_at bytes_of
above-plain = refl

above-unreadable : Unreadable blank.phase.kind above_line
unfolding bytes_of digits_of digits_within
above-unreadable = sheet-promise.above (bytes_of "cells") (bytes_of "4294967296") blank.phase.kind 4294967296 (omega arith) (inl refl)

above-bad : Bad blank above_line
unfolding bytes_of
above-bad = before.unreadable above_line above-unreadable (not-order (bytes_of "ells\t4294967296"))

-- ---- all of them
pub corollaries : Corollaries
unfolding byte_at bytes_of written digits_of digits_within
corollaries =
    let seeking = wanted-accepted.1 in
    record {
      two_printed = open-lead.prints;
      seven_lines = ran-lead.prints;
      priced_list =
          (more closed_lines closed_state _ closed-lead list_line plains.others.3 _ refl ((sheet-promise.either closed_state).list table-told.0)
          (bytes_of "9\t2\t8\t15\t3\t20\n") (ap (λ (x : List ℕ). digits_of 9 ++ (x ++ bytes_of "\n")) table-told.1)).prints;
      price_told =
          (more wanted_lines wanted_state _ wanted-lead run_line plains.others.1 _ refl
          ((sheet-promise.opened wanted_state seeking).run (sheet-promise.crew wanted_state wanted-lead.valid seeking).1)
          (bytes_of "11\t15\n") (rw found-told refl)).prints;
      not_a_place =
          ended open_lines open_state open_out open-lead (order_line 0 3) plains.orders.1
          (running.order_misfit open-accepted.1 (0 ∷ 3 ∷ []) (λ e. omega arith)) list_line plains.others.3;
      no_label =
          ended find_lines find_state find_out find-lead (place_line 0) plains.places.0
          (finding.order_other_misfit not-put-in (0 ∷ []) (λ e. omega arith)) list_line plains.others.3;
      past_list =
          (more start_lines start_state _ start-lead (place_line 2) plains.places.2 _ refl (starting.order_placed start-accepted.1 2 (omega arith) 0 0)
          (bytes_of "5\trefused\t15\n") (rw past-refused refl)).prints;
      cleared =
          (more next_lines next_state _ next-lead (place_line 0) plains.places.0 _ refl
          ((sheet-promise.opened next_state next-opens.1).order_placed next-opens.2 0 (omega arith) 0 0)
          (bytes_of "10\trefused\t15\n") (rw none_left refl)).prints;
      kept =
          (more small_lines small_state _ small-lead (open_line 1 2) plains.opens.0 _ refl
          ((sheet-promise.shut small_state seek-closes.1).opening_refused 1 2 1 0 (omega arith) (omega arith) (omega arith) (omega arith) Full full) (bytes_of "8\trefused\t9\n") refl).prints;
      item_in_open =
          ended open_lines open_state open_out open-lead item_three plains.items.0 (running.item item_three first-item)
          list_line plains.others.3;
      past_items = past_all 1024 refl;
      in_parts = feed-promise.parts (bytes_of "cel" ∷ bytes_of "ls\t5\nopen" ∷ [] ∷ bytes_of "\t1\t2\t1\t0\n" ∷ []) ∙ open-lead.prints;
      idle_turn =
          (more open_lines open_state open_out open-lead turn_line plains.others.0 _ refl ((sheet-promise.either open_state).turn 1 (omega arith))
          (bytes_of "3\tidle\n") (rw worker-idle refl)).prints;
      fresh =
          (more cells_lines with_cells _ cells-lead list_line plains.others.3 _ refl ((sheet-promise.either with_cells).list check-passes) _ refl).prints;
      spread_list =
          (more spread_lines spread_state _ spread-lead list_line plains.others.3 _ refl ((sheet-promise.either spread_state).list spread-accepted.1) _ refl
          ).prints;
      even_is_refused =
          (more cells_lines with_cells _ cells-lead (spread_line 2 0) spread-plain.1 _ refl
          ((sheet-promise.shut with_cells refl).opening_refused 3 1 2 0 (omega arith) (omega arith) (omega arith) (omega arith) Even refl) _ refl).prints;
      no_cells = (more [] blank [] none (open_line 1 2) plains.opens.0 _ refl (before.opening_refused 1 2 1 0 (omega arith) (omega arith) (omega arith) (omega arith) Size refl) _ refl).prints;
      order_in_shut = (more [] blank [] none broken_order plains.broken.0 _ refl (before.order broken_order first-order) _ refl).prints;
      unreadable = ended [] blank [] none zero_line zero-plain zero-bad list_line plains.others.3;
      above = ended [] blank [] none above_line above-plain above-bad list_line plains.others.3;
      open_twice =
          ended open_lines open_state open_out open-lead (bytes_of "open") plains.broken.1 (running.opening (bytes_of "open") (inl refl))
          list_line plains.others.3;
      over = feed-promise.over_output (fed begin (bytes_of "cells\t05\n")) zero_ended;
      last_line = feed-promise.last_line (bytes_of "cells\t2" ∷ []) (bytes_of "list") (refl, tt) refl (omega arith);
    }
