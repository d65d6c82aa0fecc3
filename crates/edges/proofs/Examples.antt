-- The kiosk's examples, computed, and the corollaries of the promise on both models.
use Rattle.std.specs.Prelude.{Ok}
use mathlib.Core.Path.{◌≡◌, refl, ap, ap₂}
use mathlib.Core.Bool.{true}
use mathlib.Core.Logic.{◌↔◌}
use mathlib.Core.List.{List, [], ◌∷◌, ◌++◌, map}
use Prim.Native.Nat.{ℕ}
use lib.Dec.{ltb}
use lib.ListN.{length}
use native.Mathlib.Omega.{arith}
use Rattle.ring.specs.Each.{all, some, first}
use Rattle.ring.specs.Ring.{wrap, probe, dist, prev}
use Rattle.layout.specs.Layout.{In, into, descending, listed}
use Rattle.homes.specs.Homes.{plain}
use Rattle.prices.specs.Contents.{label}
use Rattle.prices.specs.Priced.{lesser, least}
use Rattle.flaws.specs.Flaws.{meets_empty, meets_key}
use Rattle.orders.specs.Orders.{line_fault, lines_fault}
use Rattle.phases.specs.Promise.{SameOrders}
use Rattle.rule.specs.Rule.{rule, insert_step, delete_step, settled, absorbed, fits, narrow}
use lib.Count as bits
use Rattle.ring.specs.Counting.{tally}
use Rattle.words.specs.Words.{occupied, entries_of, filled, place_of}
use Rattle.rounds.specs.Rounds.{open_round, close_round}
use Rattle.words.proofs.Places.{count-occupied}
use Rattle.state.specs.Counts.{count_number, counted_by, if_counted}
use Rattle.state.specs.Model.{gateway, kiosk}
use Rattle.state.specs.Open.{table_bars, open_reply}
use Rattle.state.specs.Refusals.{if, reply_number, first_of}
use Rattle.state.specs.Replies.{Counted}
use Rattle.state.specs.declared.Device.TheVariants.{Gateway, Kiosk}
use Rattle.state.specs.declared.Refusal.TheVariants.{ShortList}
use Rattle.protocol.specs.IsWellFormed.{is_well_formed}
use Rattle.rule.specs.Schedules.{one, ones, same_table}
use Rattle.rule.proofs.Schedules.{same-table}
use Rattle.tables.specs.Calls.{list_call, list_after, list_front}
use Rattle.history.specs.History.{run, call, after}
use Rattle.history.proofs.Theorem.{both-one-table}
use Rattle.text.specs.Bytes.{bytes_of}
use Rattle.text.specs.Numbers.{digits, leads, value_from, is_number}
use Rattle.rfc4180.specs.Reader.{is_text, is_inside, plain_of, inside_of, field_of, end_of, record_of}
use Rattle.till.specs.Till.{reading_of, read_behind, front_of, dealt, till_after}
use Rattle.examples.specs.Forms.{empty_cells, calls_of}
use Rattle.examples.specs.Examples.{four, sheet_items, sheet_puts_in}
use Rattle.corollaries.specs.Corollaries.{turns_of, rounds, together, in_sequence, three_items, three_put_in, price_items, two_price, more_price_items, three_price}
use Rattle.corollaries.proofs.Members.{all_in, all_in_lem, least_in, same_keys, same-orders}
use Rattle.migration.specs.Calls as migration
use Rattle.migration.specs.Claim as claim
use Rattle.migration.specs.Courses as courses
use Rattle.migration.specs.Tasks.{fetched}
use Rattle.migration.proofs.Theorem as moves
use Rattle.edges.specs.Examples.{lengths, crews, read, in_six, in_seven, KioskExamples, KioskMoves, ClosesAlike}

-- ---- till lists
tills-read : (map (read kiosk) crews ≡ 2 ∷ 0 ∷ 0 ∷ 2 ∷ 2 ∷ 2 ∷ [])
    × (map (read gateway) crews ≡ 2 ∷ 0 ∷ 0 ∷ 0 ∷ 0 ∷ 2 ∷ [])
    × (till_after kiosk (bytes_of "3,1\r\n8,1\r\n13,1\r\n4,1\r\n") 2 sheet_items ≡ sheet_items)
unfolding bytes_of reading_of read_behind front_of dealt record_of end_of field_of inside_of plain_of is_text is_inside is_number leads digits value_from
tills-read = (refl, refl, refl)

-- ---- a shift
shift : ((after kiosk 1 2 plain (empty_cells 5) sheet_items (calls_of sheet_puts_in)).table ≡ four)
    × ((after kiosk 1 2 plain (empty_cells 5) sheet_items (calls_of sheet_puts_in)).closed ≡ true)
unfolding same_table run call is_well_formed
    line_fault lines_fault descending into meets_empty meets_key first all some dist probe wrap rule settled absorbed insert_step
shift = (same-table (after kiosk 1 2 plain (empty_cells 5) sheet_items (calls_of sheet_puts_in)).table four tt, refl)

-- ---- list: its answer by the number of labelled cells, which is the count of ones
abbrev answered : (t out : List ℕ) → ℕ → Counted
answered t out c = counted_by c (first_of (table_bars kiosk plain t ++ if (ltb (length out) c) ShortList ∷ []))

list-answers : (t out : List ℕ) → list_call kiosk plain t out ≡ answered t out (occupied t)
list-answers t out = ap (answered t out) (count-occupied t)

in_row : (f g : ℕ → ℕ) → ((n : ℕ) → f n ≡ g n) → (ns : List ℕ) → map f ns ≡ map g ns
in_row f g e [] = refl
in_row f g e (n ∷ ns) = ap₂ (λ (x : ℕ) (xs : List ℕ). x ∷ xs) (e n) (in_row f g e ns)

cells-listed : map (λ n. count_number (list_call kiosk plain (empty_cells n) [])) lengths ≡ 1 ∷ 1 ∷ 0 ∷ 0 ∷ 1 ∷ 1 ∷ []
unfolding meets_empty meets_key first all some dist probe wrap
cells-listed =
    in_row _ (λ n. count_number (answered (empty_cells n) [] (occupied (empty_cells n)))) (λ n. ap count_number (list-answers (empty_cells n) [])) lengths

four-listed : (list_after kiosk plain four (70 ∷ 71 ∷ 72 ∷ 73 ∷ 74 ∷ []) ≡ one 4 ∷ one 3 ∷ one 13 ∷ one 8 ∷ 74 ∷ [])
    × (list_front kiosk plain four (70 ∷ 71 ∷ 72 ∷ 73 ∷ 74 ∷ []) ≡ ones (4 ∷ 3 ∷ 13 ∷ 8 ∷ []))
unfolding meets_empty meets_key first all some dist probe wrap
four-listed =
    let out : List ℕ = 70 ∷ 71 ∷ 72 ∷ 73 ∷ 74 ∷ [] in (
      ap (λ (c : Counted). if_counted c (filled four out) out) (list-answers four out),
      ap (λ (c : Counted). if_counted c (entries_of four) []) (list-answers four out),
    )

-- ---- reply rounds
rounds-answer : (map (λ n. reply_number (open_round kiosk 1 plain (empty_cells n) [])) lengths ≡ 1 ∷ 1 ∷ 0 ∷ 0 ∷ 1 ∷ 1 ∷ [])
    × (map (λ n. count_number (close_round kiosk 1 plain (empty_cells n) [] [] [])) lengths ≡ 1 ∷ 1 ∷ 0 ∷ 0 ∷ 1 ∷ 1 ∷ [])
    × (map (λ m. reply_number (open_round kiosk m plain (empty_cells 2) [])) crews ≡ 2 ∷ 0 ∷ 0 ∷ 2 ∷ 2 ∷ 2 ∷ [])
    × (map (λ m. count_number (close_round kiosk m plain (empty_cells 2) [] [] [])) crews ≡ 2 ∷ 0 ∷ 0 ∷ 2 ∷ 2 ∷ 2 ∷ [])
unfolding line_fault lines_fault descending into meets_empty meets_key first all some dist probe wrap place_of tally bits.ones
rounds-answer = (refl, refl, refl, refl)

pub kiosk-examples : KioskExamples
unfolding is_well_formed line_fault lines_fault descending into meets_empty meets_key first all some dist probe wrap
kiosk-examples = record {
  inserts = refl;
  deletes = refl;
  finds = refl;
  checks = refl;
  counts = refl;
  lists = cells-listed;
  sends = rounds-answer.0;
  settles = rounds-answer.1;
  gateway_cells = refl;
  workers = refl;
  tills = tills-read.0;
  send_workers = rounds-answer.2;
  settle_workers = rounds-answer.3;
  gateway_workers = refl;
  gateway_tills = tills-read.1;
  opened = refl;
  refused = refl;
  size_first = refl;
  crew_next = refl;
  kind_next = refl;
  even_next = refl;
  tests = refl;
  tests_out = refl;
  tests_found = refl;
  gateway_tests = refl;
  orders = refl;
  turns = refl;
  closes = refl;
  gateway_orders = refl;
  gateway_turns = refl;
  gateway_closes = refl;
  fifth = refl;
  fifth_kept = refl;
  fifth_cells = refl;
  fourth = refl;
  shift = shift.0;
  shut = shift.1;
  listed = four-listed.0;
  front = four-listed.1;
  till_list = tills-read.2;
}

-- ---- migrations
sheet-moved : ((courses.after kiosk 2 plain four (empty_cells 7) (claim.rounds 2 12)).new ≡ in_seven)
    × ((courses.after kiosk 2 plain four (empty_cells 7) (claim.rounds 2 12)).old ≡ four)
    × ((courses.after kiosk 2 plain four (empty_cells 7) (claim.rounds 2 12)).closed ≡ true)
unfolding same_table claim.rounds claim.visits courses.run courses.call migration.is_well_formed fetched place_of tally bits.ones
    meets_empty meets_key first all some dist probe wrap rule settled absorbed insert_step
sheet-moved =
    let s = courses.after kiosk 2 plain four (empty_cells 7) (claim.rounds 2 12) in (
      same-table s.new in_seven tt,
      same-table s.old four tt,
      refl,
    )

pub kiosk-moves : KioskMoves
unfolding migration.is_well_formed fetched place_of tally bits.ones meets_empty meets_key first all some dist probe wrap
kiosk-moves = record {
  from = refl;
  to = refl;
  gateway_from = refl;
  gateway_to = refl;
  workers = refl;
  gateway_workers = refl;
  opened = refl;
  refused = refl;
  size_first = refl;
  crew_next = refl;
  even_next = refl;
  unfit_next = refl;
  orders = refl;
  turns = refl;
  closes = refl;
  gateway_orders = refl;
  gateway_turns = refl;
  gateway_closes = refl;
  fifth = refl;
  fifth_record = refl;
  fifth_kept = refl;
  fifth_table = refl;
  fourth = refl;
  moved = sheet-moved.0;
  kept = sheet-moved.1;
  shut = sheet-moved.2;
}

-- ---- the two models on one table
opens : (open_reply kiosk 1 2 plain (empty_cells 5) sheet_items ≡ Ok tt)
    × (open_reply gateway 1 3 plain (empty_cells 5) three_items ≡ Ok tt)
    × (open_reply kiosk 1 2 plain (empty_cells 5) price_items ≡ Ok tt)
    × (open_reply gateway 1 3 plain (empty_cells 5) more_price_items ≡ Ok tt)
    × (open_reply kiosk 2 2 plain four [] ≡ Ok tt)
    × (open_reply gateway 2 1 plain four [] ≡ Ok tt)
unfolding line_fault lines_fault descending into meets_empty meets_key first all some dist probe wrap
opens = (refl, refl, refl, refl, refl, refl)

put-in-closed : ((after gateway 1 3 plain (empty_cells 5) three_items three_put_in).closed ≡ true)
    × ((after kiosk 1 2 plain (empty_cells 5) price_items two_price).closed ≡ true)
    × ((after gateway 1 3 plain (empty_cells 5) more_price_items three_price).closed ≡ true)
unfolding turns_of rounds run call is_well_formed
    line_fault lines_fault descending into meets_empty meets_key first all some dist probe wrap rule settled absorbed insert_step
put-in-closed = (refl, refl, refl)

take-out-closed : ((after kiosk 2 2 plain four [] together).closed ≡ true) × ((after gateway 2 1 plain four [] in_sequence).closed ≡ true)
unfolding turns_of rounds run call is_well_formed meets_empty meets_key first all some dist probe wrap prev rule delete_step fits narrow
take-out-closed = (refl, refl)

put-in-keys : SameOrders 1 label (after kiosk 1 2 plain (empty_cells 5) sheet_items (calls_of sheet_puts_in)).ordered
    (after gateway 1 3 plain (empty_cells 5) three_items three_put_in).ordered
    × SameOrders 1 label (after kiosk 1 2 plain (empty_cells 5) price_items two_price).ordered
    (after gateway 1 3 plain (empty_cells 5) more_price_items three_price).ordered
unfolding least_in listed lesser least turns_of rounds run call is_well_formed
    line_fault lines_fault descending into meets_empty meets_key first all some dist probe wrap rule settled absorbed insert_step
put-in-keys = (
  same-orders 1 (after kiosk 1 2 plain (empty_cells 5) sheet_items (calls_of sheet_puts_in)).ordered
      (after gateway 1 3 plain (empty_cells 5) three_items three_put_in).ordered tt tt,
  same-orders 1 (after kiosk 1 2 plain (empty_cells 5) price_items two_price).ordered
      (after gateway 1 3 plain (empty_cells 5) more_price_items three_price).ordered tt tt,
)

take-out-keys : SameOrders 2 label (after kiosk 2 2 plain four [] together).ordered (after gateway 2 1 plain four [] in_sequence).ordered
unfolding all_in listed turns_of rounds run call is_well_formed meets_empty meets_key first all some dist probe wrap prev rule delete_step fits narrow
take-out-keys =
    same_keys 2 (λ z. omega arith) (after kiosk 2 2 plain four [] together).ordered (after gateway 2 1 plain four [] in_sequence).ordered tt tt

moves-opened : (migration.open_reply kiosk 2 plain four (empty_cells 7) ≡ Ok tt) × (migration.open_reply gateway 3 plain in_six (empty_cells 7) ≡ Ok tt)
unfolding place_of tally bits.ones meets_empty meets_key first all some dist probe wrap
moves-opened = (refl, refl)

six-moved : (courses.after gateway 3 plain in_six (empty_cells 7) (claim.rounds 3 9)).closed ≡ true
unfolding claim.rounds claim.visits courses.run courses.call migration.is_well_formed fetched place_of tally bits.ones
    meets_empty meets_key first all some dist probe wrap rule settled absorbed insert_step
six-moved = refl

same-labels : (y : ℕ) → In y four ↔ In y in_six
unfolding all_in listed
same-labels y = (all_in_lem four in_six tt y, all_in_lem in_six four tt y)

pub closes-alike : ClosesAlike
closes-alike =
    let (sheet, three, cheap, dear, two, alone) = opens in
    record {
      put_in =
          both-one-table Kiosk Gateway 1 2 3 plain (empty_cells 5) sheet_items three_items sheet three (calls_of sheet_puts_in) three_put_in put-in-keys.0
          shift.1 put-in-closed.0;
      prices =
          both-one-table Kiosk Gateway 1 2 3 plain (empty_cells 5) price_items more_price_items cheap dear two_price three_price put-in-keys.1
          put-in-closed.1 put-in-closed.2;
      take_out =
          both-one-table Kiosk Gateway 2 2 1 plain four [] [] two alone together in_sequence take-out-keys take-out-closed.0 take-out-closed.1;
      moves =
          moves.both-one-table Kiosk Gateway 2 3 plain four in_six (empty_cells 7) (empty_cells 7) refl moves-opened.0 moves-opened.1
          (λ y _. same-labels y) (claim.rounds 2 12) (claim.rounds 3 9) sheet-moved.2 six-moved;
    }
