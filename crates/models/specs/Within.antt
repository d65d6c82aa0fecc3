-- The kiosk is the gateway within tighter limits: what it refuses by them, and that all else is the same in both. Proved in proofs/Within.
use Rattle.std.specs.Prelude.{◌≡◌, ◌↔◌, List, [], ℕ, ◌≤◌, length, Ok}
use Rattle.homes.specs.declared.Hash.{Hash}
use Rattle.orders.specs.declared.Order.{Order}
use Rattle.state.specs.Counts.{count_number}
use Rattle.state.specs.Model.{gateway, kiosk}
use Rattle.state.specs.Open.{open_reply, open_call, refused_phase}
use Rattle.state.specs.Refusals.{reply_number}
use Rattle.state.specs.declared.Phase.{Phase}
use Rattle.protocol.specs.Calls.{turn_number, close_call, order_call, turn_call, turn_table}
use Rattle.protocol.specs.WellFormed.{WellFormed}
use Rattle.tables.specs.Calls.{check_call, count_call, list_call, list_after, list_front}
use Rattle.history.specs.History.{Call, Lent, opening, after, after_lent}
use Rattle.history.specs.Promise.{OneTable, Fixed}
use Rattle.migration.specs.Calls as migration
use Rattle.migration.specs.Calls.{refused_migration, turn_old, turn_new}
use Rattle.migration.specs.Claim as claim
use Rattle.migration.specs.Courses as courses
use Rattle.migration.specs.Lists as lists
use Rattle.migration.specs.Promise as promise
use Rattle.migration.specs.declared.Migration.{Migration}
use Rattle.numbered.specs.Lists.{answers_of}
use Rattle.rounds.specs.Rounds as rounds
use Rattle.rounds.specs.Rounds.{Ack, open_round, sent_table, close_round, table_after, answers_after}
use Rattle.till.specs.Till.{till_call, till_after, keys_after, prices_after, workers_after}

-- ---- the kiosk's limits: n cells, m workers
abbrev pub Few : ℕ → Type 0
Few n = (2 ≤ n) × (n ≤ 256)

abbrev pub Crews : ℕ → Type 0
Crews m = (1 ≤ m) × (m ≤ 4)

-- ---- outside them its calls answer 1, 2 and 13, whatever else is wrong, and change nothing
pub record Outside : Type 0 where
  pub open_size : (k m : ℕ) (ab : Hash) (t : List ℕ) (os : List Order) → (Few (length t) → ⊥) → reply_number (open_reply kiosk k m ab t os) ≡ 1
  pub open_crew : (k m : ℕ) (ab : Hash) (t : List ℕ) (os : List Order) → Few (length t) → (Crews m → ⊥) → reply_number (open_reply kiosk k m ab t os) ≡ 2
  pub check : (ab : Hash) (t : List ℕ) → (Few (length t) → ⊥) → reply_number (check_call kiosk ab t) ≡ 1
  pub count : (ab : Hash) (t : List ℕ) → (Few (length t) → ⊥) → count_number (count_call kiosk ab t) ≡ 1
  pub list : (ab : Hash) (t out : List ℕ) → (Few (length t) → ⊥) → (count_number (list_call kiosk ab t out) ≡ 1) × (list_after kiosk ab t out ≡ out)
  pub front : (ab : Hash) (t out : List ℕ) → (Few (length t) → ⊥) → list_front kiosk ab t out ≡ []
  pub till : (text : List ℕ) (m places : ℕ) → (Crews m → ⊥) → count_number (till_call kiosk text m places) ≡ 2
  pub till_kept : (text : List ℕ) (m : ℕ) (old : List Order) → (Crews m → ⊥) → till_after kiosk text m old ≡ old
  pub till_three : (text : List ℕ) (m : ℕ) (ks ps ws : List ℕ) → (Crews m → ⊥)
      → (keys_after kiosk text m ks ps ws ≡ ks) × (prices_after kiosk text m ks ps ws ≡ ps) × (workers_after kiosk text m ks ps ws ≡ ws)
  pub send_size : (m : ℕ) (ab : Hash) (t : List ℕ) (os : List Order) → (Few (length t) → ⊥) → reply_number (open_round kiosk m ab t os) ≡ 1
  pub send_crew : (m : ℕ) (ab : Hash) (t : List ℕ) (os : List Order) → Few (length t) → (Crews m → ⊥) → reply_number (open_round kiosk m ab t os) ≡ 2
  pub settle_size : (m : ℕ) (ab : Hash) (t : List ℕ) (rs : List Ack) (answers out : List ℕ) → (Few (length t) → ⊥)
      → count_number (close_round kiosk m ab t rs answers out) ≡ 1
  pub settle_crew : (m : ℕ) (ab : Hash) (t : List ℕ) (rs : List Ack) (answers out : List ℕ) → Few (length t) → (Crews m → ⊥)
      → count_number (close_round kiosk m ab t rs answers out) ≡ 2
  -- a record is spoilt to the kiosk exactly if it is spoilt to the gateway, or is of more than 256 cells or 4 workers
  pub formed : (p : Phase) → WellFormed kiosk p ↔ (WellFormed gateway p × (p.length ≤ 256) × (p.crew ≤ 4))
  pub order : (p : Phase) (os : List Order) (i w v : ℕ) → (WellFormed kiosk p → ⊥)
      → (reply_number (order_call kiosk p os i w v).reply ≡ 13) × ((order_call kiosk p os i w v).phase ≡ p)
  pub turn : (p : Phase) (t : List ℕ) (w : ℕ) → (WellFormed kiosk p → ⊥)
      → (turn_number (turn_call kiosk p t w).reply ≡ 13) × ((turn_call kiosk p t w).phase ≡ p) × (turn_table kiosk p t w ≡ t)
  pub close : (p : Phase) → (WellFormed kiosk p → ⊥) → (reply_number (close_call kiosk p).reply ≡ 13) × ((close_call kiosk p).phase ≡ p)
  -- migrations (document 02: move shifts), which are held against the limits with both tables
  pub move_size : (m : ℕ) (ab : Hash) (old new : List ℕ) → (Few (length old) × Few (length new) → ⊥) → reply_number (migration.open_reply kiosk m ab old new) ≡ 1
  pub move_crew : (m : ℕ) (ab : Hash) (old new : List ℕ) → Few (length old) → Few (length new) → (Crews m → ⊥)
      → reply_number (migration.open_reply kiosk m ab old new) ≡ 2
  pub move_formed : (p : Migration)
      → promise.WellFormed kiosk p ↔ (promise.WellFormed gateway p × (p.source ≤ 256) × (p.length ≤ 256) × (p.crew ≤ 4))
  pub move_order : (p : Migration) (w : ℕ) → (promise.WellFormed kiosk p → ⊥)
      → (reply_number (migration.order_call kiosk p w).reply ≡ 13) × ((migration.order_call kiosk p w).migration ≡ p)
  pub move_turn : (p : Migration) (old new : List ℕ) (w : ℕ) → (promise.WellFormed kiosk p → ⊥)
      → (turn_number (migration.turn_call kiosk p old new w).reply ≡ 13)
      × ((migration.turn_call kiosk p old new w).migration ≡ p)
      × (turn_old kiosk p old new w ≡ old)
      × (turn_new kiosk p old new w ≡ new)
  pub move_close : (p : Migration) → (promise.WellFormed kiosk p → ⊥)
      → (reply_number (migration.close_call kiosk p).reply ≡ 13) × ((migration.close_call kiosk p).migration ≡ p)

-- ---- inside them its calls are the gateway's
-- on a table
pub record SameTables (ab : Hash) (t : List ℕ) : Type 0 where
  pub check : check_call kiosk ab t ≡ check_call gateway ab t
  pub count : count_call kiosk ab t ≡ count_call gateway ab t
  pub list : (out : List ℕ) → list_call kiosk ab t out ≡ list_call gateway ab t out
  pub after : (out : List ℕ) → list_after kiosk ab t out ≡ list_after gateway ab t out
  pub front : (out : List ℕ) → list_front kiosk ab t out ≡ list_front gateway ab t out

-- on a record
pub record SameCalls (p : Phase) : Type 0 where
  pub order : (os : List Order) (i w v : ℕ) → order_call kiosk p os i w v ≡ order_call gateway p os i w v
  pub turn : (t : List ℕ) (w : ℕ) → turn_call kiosk p t w ≡ turn_call gateway p t w
  pub table : (t : List ℕ) (w : ℕ) → turn_table kiosk p t w ≡ turn_table gateway p t w
  pub close : close_call kiosk p ≡ close_call gateway p

-- of a till list for m workers, lent as one list or as three
pub record SameTills (text : List ℕ) (m : ℕ) : Type 0 where
  pub answer : (places : ℕ) → till_call kiosk text m places ≡ till_call gateway text m places
  pub orders : (old : List Order) → till_after kiosk text m old ≡ till_after gateway text m old
  pub keys : (ks ps ws : List ℕ) → keys_after kiosk text m ks ps ws ≡ keys_after gateway text m ks ps ws
  pub prices : (ks ps ws : List ℕ) → prices_after kiosk text m ks ps ws ≡ prices_after gateway text m ks ps ws
  pub workers : (ks ps ws : List ℕ) → workers_after kiosk text m ks ps ws ≡ workers_after gateway text m ks ps ws

-- of a reply round with m workers on a table
pub record SameRounds (m : ℕ) (ab : Hash) (t : List ℕ) : Type 0 where
  pub opens : (os : List Order) → open_round kiosk m ab t os ≡ open_round gateway m ab t os
  pub sent : (os : List Order) → sent_table kiosk m ab t os ≡ sent_table gateway m ab t os
  pub closes : (rs : List Ack) (answers out : List ℕ) → close_round kiosk m ab t rs answers out ≡ close_round gateway m ab t rs answers out
  pub table : (rs : List Ack) (answers out : List ℕ) → table_after kiosk m ab t rs answers out ≡ table_after gateway m ab t rs answers out
  pub answers : (rs : List Ack) (answers out : List ℕ) → answers_after kiosk m ab t rs answers out ≡ answers_after gateway m ab t rs answers out
  pub list : (rs : List Ack) (answers out : List ℕ) → rounds.list_after kiosk m ab t rs answers out ≡ rounds.list_after gateway m ab t rs answers out

-- on a record of a migration
pub record SameMoves (p : Migration) : Type 0 where
  pub order : (w : ℕ) → migration.order_call kiosk p w ≡ migration.order_call gateway p w
  pub turn : (old new : List ℕ) (w : ℕ) → migration.turn_call kiosk p old new w ≡ migration.turn_call gateway p old new w
  pub kept : (old new : List ℕ) (w : ℕ) → turn_old kiosk p old new w ≡ turn_old gateway p old new w
  pub table : (old new : List ℕ) (w : ℕ) → turn_new kiosk p old new w ≡ turn_new gateway p old new w
  pub close : migration.close_call kiosk p ≡ migration.close_call gateway p

pub record Inside : Type 0 where
  pub openings : (k m : ℕ) (ab : Hash) (t : List ℕ) (os : List Order) → Few (length t) → Crews m → open_call kiosk k m ab t os ≡ open_call gateway k m ab t os
  pub tables : (ab : Hash) (t : List ℕ) → Few (length t) → SameTables ab t
  pub tills : (text : List ℕ) (m : ℕ) → Crews m → SameTills text m
  pub rounds : (m : ℕ) (ab : Hash) (t : List ℕ) → Few (length t) → Crews m → SameRounds m ab t
  pub calls : (p : Phase) → WellFormed kiosk p → SameCalls p
  -- a refused opening hands back the same record
  pub refused : refused_phase kiosk ≡ refused_phase gateway
  -- an opening that the kiosk accepts the gateway accepts too, and from there every list of calls gets the same answers and leaves the same in both
  pub accepted : (k m : ℕ) (ab : Hash) (t : List ℕ) (os : List Order) → open_reply kiosk k m ab t os ≡ Ok tt → open_reply gateway k m ab t os ≡ Ok tt
  pub runs : (k m : ℕ) (ab : Hash) (t : List ℕ) (os : List Order) → open_reply kiosk k m ab t os ≡ Ok tt → (cs : List Call)
      → after kiosk k m ab t os cs ≡ after gateway k m ab t os cs
  pub runs_lent : (k m : ℕ) (ab : Hash) (t : List ℕ) (os : List Order) → open_reply kiosk k m ab t os ≡ Ok tt → (cs : List Lent)
      → after_lent kiosk k m ab t os cs ≡ after_lent gateway k m ab t os cs
  pub answers : (k m : ℕ) (ab : Hash) (t : List ℕ) (os : List Order) → open_reply kiosk k m ab t os ≡ Ok tt → (cs : List Call)
      → answers_of kiosk os cs (opening kiosk k m ab t os) ≡ answers_of gateway os cs (opening gateway k m ab t os)
  -- a table that both may open closes alike in both, by whatever other calls with the same orders, and is fixed by what is left
  pub closes : OneTable kiosk gateway
  pub fixed : Fixed kiosk gateway
  -- the same for migrations: openings, records, and from an accepted opening on every list of calls
  pub move_openings : (m : ℕ) (ab : Hash) (old new : List ℕ) → Few (length old) → Few (length new) → Crews m
      → migration.open_call kiosk m ab old new ≡ migration.open_call gateway m ab old new
  pub moves : (p : Migration) → promise.WellFormed kiosk p → SameMoves p
  pub move_refused : refused_migration kiosk ≡ refused_migration gateway
  pub move_accepted : (m : ℕ) (ab : Hash) (old new : List ℕ) → migration.open_reply kiosk m ab old new ≡ Ok tt
      → migration.open_reply gateway m ab old new ≡ Ok tt
  pub move_runs : (m : ℕ) (ab : Hash) (old new : List ℕ) → migration.open_reply kiosk m ab old new ≡ Ok tt → (cs : List courses.Call)
      → courses.after kiosk m ab old new cs ≡ courses.after gateway m ab old new cs
  pub move_answers : (m : ℕ) (ab : Hash) (old new : List ℕ) → migration.open_reply kiosk m ab old new ≡ Ok tt → (cs : List courses.Call)
      → lists.answers_of kiosk cs (courses.opening kiosk m ab old new) ≡ lists.answers_of gateway cs (courses.opening gateway m ab old new)
  -- into tables of one length the same labels at the same prices are moved alike in both, by whatever calls
  pub move_closes : claim.OneTable kiosk gateway
