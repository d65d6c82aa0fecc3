-- The kiosk at its limits, computed: numbers of refusals, 0 where there is none, in one row for a row of lengths, crews or records. Beside them the gateway's.
use Rattle.std.specs.Prelude.{◌≡◌, Bool, true, false, List, [], ◌∷◌, map, ℕ, set, replicate}
use Rattle.homes.specs.Homes.{plain, hash_of}
use Rattle.text.specs.Bytes.{bytes_of}
use Rattle.activities.specs.declared.Activity.TheVariants.{Reading}
use Rattle.rule.specs.Schedules.{one, ones}
use Rattle.state.specs.Counts.{count_number}
use Rattle.state.specs.Model.{Model, gateway, kiosk}
use Rattle.state.specs.Open.{open_reply, open_call}
use Rattle.state.specs.Refusals.{reply_number}
use Rattle.state.specs.declared.Phase.{Phase}
use Rattle.protocol.specs.Calls.{turn_number, close_call, order_call, turn_call, turn_table}
use Rattle.tables.specs.Calls.{check_call, count_call, list_call, list_after, list_front}
use Rattle.history.specs.History.{after}
use Rattle.rounds.specs.Rounds.{open_round, close_round}
use Rattle.migration.specs.Calls as migration
use Rattle.migration.specs.Calls.{turn_old, turn_new}
use Rattle.migration.specs.Claim.{rounds}
use Rattle.migration.specs.Courses as courses
use Rattle.migration.specs.Tasks.{free, carrier}
use Rattle.migration.specs.declared.Carrier.{Carrier}
use Rattle.migration.specs.declared.Migration.{Migration}
use Rattle.migration.specs.declared.Task.TheVariants.{Fetching}
use Rattle.till.specs.Till.{till_call, till_after}
use Rattle.examples.specs.Forms.{empty_cells, phase, all_idle, busy_one, handed_back, calls_of}
use Rattle.examples.specs.Examples.{four, sheet_items, sheet_puts_in}
use Rattle.examples.specs.Orders.{one_line}
use Rattle.corollaries.specs.Corollaries.{together, in_sequence, three_items, three_put_in, price_items, two_price, more_price_items, three_price}

-- ---- rows
abbrev pub lengths : List ℕ
lengths = 0 ∷ 1 ∷ 2 ∷ 256 ∷ 257 ∷ 300 ∷ []

abbrev pub crews : List ℕ
crews = 0 ∷ 1 ∷ 4 ∷ 5 ∷ 16 ∷ 17 ∷ []

-- open records of take-out shifts with all workers idle: with 256 cells and 4 workers; of the gateway, with 5 workers, with 257 and with 300 cells; with one
-- cell; with no worker
abbrev pub records : List Phase
records =
    phase 2 256 4 false all_idle
    ∷ phase 2 256 5 false all_idle
    ∷ phase 2 257 4 false all_idle
    ∷ phase 2 300 4 false all_idle
    ∷ phase 2 1 4 false all_idle
    ∷ phase 2 256 0 false all_idle
    ∷ []

-- the last label that a shop adds, the first for factory tests and the greatest
abbrev pub borders : List ℕ
borders = 3999999999 ∷ 4000000000 ∷ 4294967295 ∷ []

-- a gateway's fifth worker at work; a kiosk's record of that length with its fourth worker at work
abbrev pub fifth_works : Phase
fifth_works = busy_one 2 5 5 4 (Reading (one 3) 3)

abbrev pub fourth_works : Phase
fourth_works = busy_one 2 5 4 3 (Reading (one 3) 3)

-- ---- what a model answers, for one of a row
module _ (M : Model) where
  -- an opening of kind k with one worker on n empty cells; of kind 2 with m workers on 2 empty cells
  abbrev pub on_cells : (k n : ℕ) → ℕ
  on_cells k n = reply_number (open_reply M k 1 plain (empty_cells n) [])

  abbrev pub with_crew : ℕ → ℕ
  with_crew m = reply_number (open_reply M 2 m plain (empty_cells 2) [])

  -- an opening of kind k with m workers by a on n empty cells
  abbrev pub in_all : (k m a n : ℕ) → ℕ
  in_all k m a n = reply_number (open_reply M k m (hash_of a 0) (empty_cells n) [])

  -- an order, a turn on a table of its length and a close, to a record
  abbrev pub ordered : Phase → ℕ
  ordered p = reply_number (order_call M p [] 0 0 3).reply

  abbrev pub turned : Phase → ℕ
  turned p = turn_number (turn_call M p (empty_cells p.length) 0).reply

  abbrev pub closed : Phase → ℕ
  closed p = reply_number (close_call M p).reply

  -- a put-in opening on five empty cells with the one label, an order of it, and a round that sends it; an order of it in a shift of kind k
  abbrev pub puts : ℕ → List ℕ
  puts v =
      reply_number (open_reply M 1 1 plain (empty_cells 5) (one_line v 1 0))
      ∷ reply_number (order_call M (phase 1 5 1 false all_idle) (one_line v 1 0) 0 0 0).reply
      ∷ reply_number (open_round M 1 plain (empty_cells 5) (one_line v 1 0))
      ∷ []

  abbrev pub asks : (k v : ℕ) → ℕ
  asks k v = reply_number (order_call M (phase k 5 1 false all_idle) [] 0 0 v).reply

  -- a till list for m workers
  abbrev pub read : ℕ → ℕ
  read m = count_number (till_call M (bytes_of "7,1") m 1)

pub record KioskExamples : Type 0 where
  -- 1 and 257 cells get 1; 2 and 256 open, in every kind; so do check, count, list and reply rounds
  pub inserts : map (on_cells kiosk 1) lengths ≡ 1 ∷ 1 ∷ 0 ∷ 0 ∷ 1 ∷ 1 ∷ []
  pub deletes : map (on_cells kiosk 2) lengths ≡ 1 ∷ 1 ∷ 0 ∷ 0 ∷ 1 ∷ 1 ∷ []
  pub finds : map (on_cells kiosk 3) lengths ≡ 1 ∷ 1 ∷ 0 ∷ 0 ∷ 1 ∷ 1 ∷ []
  pub checks : map (λ n. reply_number (check_call kiosk plain (empty_cells n))) lengths ≡ 1 ∷ 1 ∷ 0 ∷ 0 ∷ 1 ∷ 1 ∷ []
  pub counts : map (λ n. count_number (count_call kiosk plain (empty_cells n))) lengths ≡ 1 ∷ 1 ∷ 0 ∷ 0 ∷ 1 ∷ 1 ∷ []
  pub lists : map (λ n. count_number (list_call kiosk plain (empty_cells n) [])) lengths ≡ 1 ∷ 1 ∷ 0 ∷ 0 ∷ 1 ∷ 1 ∷ []
  pub sends : map (λ n. reply_number (open_round kiosk 1 plain (empty_cells n) [])) lengths ≡ 1 ∷ 1 ∷ 0 ∷ 0 ∷ 1 ∷ 1 ∷ []
  pub settles : map (λ n. count_number (close_round kiosk 1 plain (empty_cells n) [] [] [])) lengths ≡ 1 ∷ 1 ∷ 0 ∷ 0 ∷ 1 ∷ 1 ∷ []
  pub gateway_cells : map (on_cells gateway 2) lengths ≡ 1 ∷ 1 ∷ 0 ∷ 0 ∷ 0 ∷ 0 ∷ []
  -- 0 and 5 workers get 2; 1 and 4 open, and have a till list read and rounds opened and closed
  pub workers : map (with_crew kiosk) crews ≡ 2 ∷ 0 ∷ 0 ∷ 2 ∷ 2 ∷ 2 ∷ []
  pub tills : map (read kiosk) crews ≡ 2 ∷ 0 ∷ 0 ∷ 2 ∷ 2 ∷ 2 ∷ []
  pub send_workers : map (λ m. reply_number (open_round kiosk m plain (empty_cells 2) [])) crews ≡ 2 ∷ 0 ∷ 0 ∷ 2 ∷ 2 ∷ 2 ∷ []
  pub settle_workers : map (λ m. count_number (close_round kiosk m plain (empty_cells 2) [] [] [])) crews ≡ 2 ∷ 0 ∷ 0 ∷ 2 ∷ 2 ∷ 2 ∷ []
  pub gateway_workers : map (with_crew gateway) crews ≡ 2 ∷ 0 ∷ 0 ∷ 0 ∷ 0 ∷ 2 ∷ []
  pub gateway_tills : map (read gateway) crews ≡ 2 ∷ 0 ∷ 0 ∷ 0 ∷ 0 ∷ 2 ∷ []
  -- what an opening hands back, accepted and refused: the same record in both models
  pub opened : (open_call kiosk 2 4 plain (empty_cells 256) []).phase ≡ phase 2 256 4 false all_idle
  pub refused : (open_call kiosk 2 5 plain (empty_cells 256) []).phase ≡ handed_back
  -- first to apply wins: 1 and 2 by the kiosk's limits come before 3 and 21
  pub size_first : in_all kiosk 4 5 2 257 ≡ 1
  pub crew_next : in_all kiosk 4 5 2 256 ≡ 2
  pub kind_next : in_all kiosk 4 4 2 256 ≡ 3
  pub even_next : in_all kiosk 2 4 2 256 ≡ 21
  -- labels from 4,000,000,000 up get 24 where they would be put in or sent, in both models; they are taken out and looked up
  pub tests : map (puts kiosk) borders ≡ (0 ∷ 0 ∷ 0 ∷ []) ∷ (24 ∷ 24 ∷ 24 ∷ []) ∷ (24 ∷ 24 ∷ 24 ∷ []) ∷ []
  pub tests_out : map (asks kiosk 2) borders ≡ 0 ∷ 0 ∷ 0 ∷ []
  pub tests_found : map (asks kiosk 3) borders ≡ 0 ∷ 0 ∷ 0 ∷ []
  pub gateway_tests : map (puts gateway) borders ≡ (0 ∷ 0 ∷ 0 ∷ []) ∷ (24 ∷ 24 ∷ 24 ∷ []) ∷ (24 ∷ 24 ∷ 24 ∷ []) ∷ []
  -- records of the gateway with 5 workers, or with 257 or 300 cells, are spoilt to the kiosk, whose own are spoilt to neither
  pub orders : map (ordered kiosk) records ≡ 0 ∷ 13 ∷ 13 ∷ 13 ∷ 13 ∷ 13 ∷ []
  pub turns : map (turned kiosk) records ≡ 0 ∷ 13 ∷ 13 ∷ 13 ∷ 13 ∷ 13 ∷ []
  pub closes : map (closed kiosk) records ≡ 0 ∷ 13 ∷ 13 ∷ 13 ∷ 13 ∷ 13 ∷ []
  pub gateway_orders : map (ordered gateway) records ≡ 0 ∷ 0 ∷ 0 ∷ 0 ∷ 13 ∷ 13 ∷ []
  pub gateway_turns : map (turned gateway) records ≡ 0 ∷ 0 ∷ 0 ∷ 0 ∷ 13 ∷ 13 ∷ []
  pub gateway_closes : map (closed gateway) records ≡ 0 ∷ 0 ∷ 0 ∷ 0 ∷ 13 ∷ 13 ∷ []
  -- a turn of the gateway's fifth worker is refused and changes nothing; one of the fourth is the gateway's
  pub fifth : turn_number (turn_call kiosk fifth_works four 4).reply ≡ 13
  pub fifth_kept : (turn_call kiosk fifth_works four 4).phase ≡ fifth_works
  pub fifth_cells : turn_table kiosk fifth_works four 4 ≡ four
  pub fourth : turn_call kiosk fourth_works four 3 ≡ turn_call gateway fourth_works four 3
  -- the sheet's shift in the kiosk, and its table listed there
  pub shift : (after kiosk 1 2 plain (empty_cells 5) sheet_items (calls_of sheet_puts_in)).table ≡ four
  pub shut : (after kiosk 1 2 plain (empty_cells 5) sheet_items (calls_of sheet_puts_in)).closed ≡ true
  pub listed : list_after kiosk plain four (70 ∷ 71 ∷ 72 ∷ 73 ∷ 74 ∷ []) ≡ one 4 ∷ one 3 ∷ one 13 ∷ one 8 ∷ 74 ∷ []
  pub front : list_front kiosk plain four (70 ∷ 71 ∷ 72 ∷ 73 ∷ 74 ∷ []) ≡ ones (4 ∷ 3 ∷ 13 ∷ 8 ∷ [])
  pub till_list : till_after kiosk (bytes_of "3,1\r\n8,1\r\n13,1\r\n4,1\r\n") 2 sheet_items ≡ sheet_items

-- ---- migrations (document 02: move shifts)
-- a record, written out: n old cells and l new ones, m workers, the next old cell, shut or not, with a of 1 and b of 0; the places for workers
abbrev pub moving : (n l m next : ℕ) → Bool → List Carrier → Migration
moving n l m next shut cs = record { kind = 4; source = n; length = l; crew = m; next = next; shut = shut; hash = plain; carriers = cs }

abbrev pub all_free : List Carrier
all_free = replicate 16 (carrier free)

-- open records with no cell handed out and all workers free: from 256 cells to 256 with 4 workers; of the gateway, with 5 workers, from 257 cells and to 257;
-- from one cell; to one cell; with no worker
abbrev pub move_records : List Migration
move_records =
    moving 256 256 4 0 false all_free
    ∷ moving 256 256 5 0 false all_free
    ∷ moving 257 256 4 0 false all_free
    ∷ moving 256 257 4 0 false all_free
    ∷ moving 1 256 4 0 false all_free
    ∷ moving 256 1 4 0 false all_free
    ∷ moving 256 256 0 0 false all_free
    ∷ []

-- one of them with all cells handed out
abbrev pub handed_out : Migration → Migration
handed_out p = moving p.source p.length p.crew p.source false all_free

-- a gateway's fifth worker about to read an old cell; a kiosk's record of those lengths with its fourth worker there
abbrev pub fifth_carries : Migration
fifth_carries = moving 5 7 5 2 false (set all_free 4 (carrier (Fetching 1)))

abbrev pub fourth_carries : Migration
fourth_carries = moving 5 7 4 2 false (set all_free 3 (carrier (Fetching 1)))

-- the sheet's labels in six cells and in seven
abbrev pub in_six : List ℕ
in_six = ones (0 ∷ 13 ∷ 8 ∷ 3 ∷ 4 ∷ 0 ∷ [])

abbrev pub in_seven : List ℕ
in_seven = ones (0 ∷ 8 ∷ 0 ∷ 3 ∷ 4 ∷ 0 ∷ 13 ∷ [])

module _ (M : Model) where
  -- an opening with one worker from n empty cells to 2, and from 2 to n; with m workers from 2 to 2
  abbrev pub moves_from : ℕ → ℕ
  moves_from n = reply_number (migration.open_reply M 1 plain (empty_cells n) (empty_cells 2))

  abbrev pub moves_to : ℕ → ℕ
  moves_to n = reply_number (migration.open_reply M 1 plain (empty_cells 2) (empty_cells n))

  abbrev pub moves_with : ℕ → ℕ
  moves_with m = reply_number (migration.open_reply M m plain (empty_cells 2) (empty_cells 2))

  -- an opening with m workers by a from 256 empty cells to n, one of which is taken
  abbrev pub moves_in_all : (m a n : ℕ) → ℕ
  moves_in_all m a n = reply_number (migration.open_reply M m (hash_of a 0) (empty_cells 256) (set (empty_cells n) 0 (one 3)))

  -- an order, a turn on tables of its lengths and, with all cells handed out, a close, to a record
  abbrev pub move_ordered : Migration → ℕ
  move_ordered p = reply_number (migration.order_call M p 0).reply

  abbrev pub move_turned : Migration → ℕ
  move_turned p = turn_number (migration.turn_call M p (empty_cells p.source) (empty_cells p.length) 0).reply

  abbrev pub move_closed : Migration → ℕ
  move_closed p = reply_number (migration.close_call M (handed_out p)).reply

pub record KioskMoves : Type 0 where
  -- 1 and 257 cells get 1, in the old table and in the new one; 2 and 256 open
  pub from : map (moves_from kiosk) lengths ≡ 1 ∷ 1 ∷ 0 ∷ 0 ∷ 1 ∷ 1 ∷ []
  pub to : map (moves_to kiosk) lengths ≡ 1 ∷ 1 ∷ 0 ∷ 0 ∷ 1 ∷ 1 ∷ []
  pub gateway_from : map (moves_from gateway) lengths ≡ 1 ∷ 1 ∷ 0 ∷ 0 ∷ 0 ∷ 0 ∷ []
  pub gateway_to : map (moves_to gateway) lengths ≡ 1 ∷ 1 ∷ 0 ∷ 0 ∷ 0 ∷ 0 ∷ []
  -- 0 and 5 workers get 2; 1 and 4 open
  pub workers : map (moves_with kiosk) crews ≡ 2 ∷ 0 ∷ 0 ∷ 2 ∷ 2 ∷ 2 ∷ []
  pub gateway_workers : map (moves_with gateway) crews ≡ 2 ∷ 0 ∷ 0 ∷ 0 ∷ 0 ∷ 2 ∷ []
  -- what an opening hands back, accepted and refused
  pub opened : (migration.open_call kiosk 4 plain (empty_cells 256) (empty_cells 2)).migration ≡ moving 256 2 4 0 false all_free
  pub refused : (migration.open_call kiosk 5 plain (empty_cells 256) (empty_cells 2)).migration ≡ moving 2 2 1 0 true all_free
  -- first to apply wins: 1 and 2 by the kiosk's limits come before 21 and 23
  pub size_first : moves_in_all kiosk 5 2 257 ≡ 1
  pub crew_next : moves_in_all kiosk 5 2 256 ≡ 2
  pub even_next : moves_in_all kiosk 4 2 256 ≡ 21
  pub unfit_next : moves_in_all kiosk 4 1 256 ≡ 23
  -- records of the gateway with 5 workers, or with 257 cells in either table, are spoilt to the kiosk, whose own are spoilt to neither
  pub orders : map (move_ordered kiosk) move_records ≡ 0 ∷ 13 ∷ 13 ∷ 13 ∷ 13 ∷ 13 ∷ 13 ∷ []
  pub turns : map (move_turned kiosk) move_records ≡ 0 ∷ 13 ∷ 13 ∷ 13 ∷ 13 ∷ 13 ∷ 13 ∷ []
  pub closes : map (move_closed kiosk) move_records ≡ 0 ∷ 13 ∷ 13 ∷ 13 ∷ 13 ∷ 13 ∷ 13 ∷ []
  pub gateway_orders : map (move_ordered gateway) move_records ≡ 0 ∷ 0 ∷ 0 ∷ 0 ∷ 13 ∷ 13 ∷ 13 ∷ []
  pub gateway_turns : map (move_turned gateway) move_records ≡ 0 ∷ 0 ∷ 0 ∷ 0 ∷ 13 ∷ 13 ∷ 13 ∷ []
  pub gateway_closes : map (move_closed gateway) move_records ≡ 0 ∷ 0 ∷ 0 ∷ 0 ∷ 13 ∷ 13 ∷ 13 ∷ []
  -- a turn of the gateway's fifth worker is refused and changes nothing; one of the fourth is the gateway's
  pub fifth : turn_number (migration.turn_call kiosk fifth_carries four (empty_cells 7) 4).reply ≡ 13
  pub fifth_record : (migration.turn_call kiosk fifth_carries four (empty_cells 7) 4).migration ≡ fifth_carries
  pub fifth_kept : turn_old kiosk fifth_carries four (empty_cells 7) 4 ≡ four
  pub fifth_table : turn_new kiosk fifth_carries four (empty_cells 7) 4 ≡ empty_cells 7
  pub fourth : migration.turn_call kiosk fourth_carries four (empty_cells 7) 3 ≡ migration.turn_call gateway fourth_carries four (empty_cells 7) 3
  -- the sheet's table moved by the kiosk from five cells to seven
  pub moved : (courses.after kiosk 2 plain four (empty_cells 7) (rounds 2 12)).new ≡ in_seven
  pub kept : (courses.after kiosk 2 plain four (empty_cells 7) (rounds 2 12)).old ≡ four
  pub shut : (courses.after kiosk 2 plain four (empty_cells 7) (rounds 2 12)).closed ≡ true

-- ---- a table that both may open closes alike in both, by other turns, other workers and other lists: put in, with prices, and taken out. By the promise
pub record ClosesAlike : Type 0 where
  pub put_in : (after kiosk 1 2 plain (empty_cells 5) sheet_items (calls_of sheet_puts_in)).table
      ≡ (after gateway 1 3 plain (empty_cells 5) three_items three_put_in).table
  pub prices : (after kiosk 1 2 plain (empty_cells 5) price_items two_price).table ≡ (after gateway 1 3 plain (empty_cells 5) more_price_items three_price).table
  pub take_out : (after kiosk 2 2 plain four [] together).table ≡ (after gateway 2 1 plain four [] in_sequence).table
  -- moved from tables of two lengths into seven cells
  pub moves : (courses.after kiosk 2 plain four (empty_cells 7) (rounds 2 12)).new ≡ (courses.after gateway 3 plain in_six (empty_cells 7) (rounds 3 9)).new
