-- The promises on calls of one model in one place, so that it is seen that the kiosk has every promise that the gateway has. Proved in proofs/Promises.
-- Left out are those that no caller of a model sees by themselves: one worker apart from its record (`SplitPromise`), and answers and calls as numbers
-- (crates `numbered`, `migration` and `answers`), which are stated there for every model, or for both.
use Rattle.std.specs.Prelude.{◌≡◌, ◌≢◌, ◌↔◌, true, List, ℕ, length, Ok}
use Rattle.homes.specs.declared.Hash.{Hash}
use Rattle.orders.specs.declared.Order.{Order}
use Rattle.state.specs.Model.{Model, model_of, Limited, most_cells_of, most_workers_of}
use Rattle.state.specs.Open.{open_reply, refused_phase}
use Rattle.state.specs.Refusals.{reply_number}
use Rattle.state.specs.declared.Device.{Device}
use Rattle.state.specs.declared.Phase.{Phase}
use Rattle.protocol.specs.Calls.{turn_number, turn_call}
use Rattle.flaws.specs.Promise.{Intact}
use Rattle.protocol.specs.Cases.{Decides}
use Rattle.protocol.specs.IsWellFormed.{is_well_formed}
use Rattle.protocol.specs.Promise.{Made, Openings, Orders, Turns, Homing, Closings, with_hash, Keeps, SoundIn, Soundness, GappedIn, DisorderedIn}
use Rattle.protocol.specs.WellFormed.{WellFormed}
use Rattle.tables.specs.Promise.{AtRest}
use Rattle.history.specs.History.{Call, Lent, after}
use Rattle.history.specs.Promise.{Claim, AnyLists, KeepsTable, TwoTurns, OneTable, Fixed}
use Rattle.addition.specs.Promise.{Adds, OpensForOne}
use Rattle.migration.specs.Calls as migration
use Rattle.migration.specs.Claim as claim
use Rattle.migration.specs.Courses as courses
use Rattle.migration.specs.Promise as promise
use Rattle.migration.specs.declared.Migration.{Migration}
use Rattle.rounds.specs.Promise.{Sending, Closing, Round}
use Rattle.rounds.specs.Rounds.{Ack, open_round, sent_table, close_round, answers_after, list_after}
use Rattle.till.specs.Promise.{Fills, FillsThree}

-- ---- on the calls of migrations (document 02: move shifts)
pub record MovePromises (M : Model) : Type 0 where
  -- demand 1: each call, on every pair of tables, record and number
  pub opens : (m : ℕ) (ab : Hash) (old new : List ℕ) → promise.Openings M m ab old new
  pub opens_decided : (m : ℕ) (ab : Hash) (old new : List ℕ)
      → Decides (reply_number (migration.open_call M m ab old new).reply) (promise.open_cases M m ab old new)
  pub orders : (p : Migration) (w : ℕ) → promise.Orders M p w
  pub turns : (p : Migration) (old new : List ℕ) (w : ℕ) → promise.Turns M p old new w
  pub closes : (p : Migration) → promise.Closings M p
  -- the test for 13 is document 02's sentence, and doesn't look at a and b; no call spoils a record
  pub tested : (p : Migration) → migration.is_well_formed M p ≡ true ↔ promise.WellFormed M p
  pub hash_untested : (p : Migration) (ab : Hash) → promise.WellFormed M (promise.with_hash p ab) ↔ promise.WellFormed M p
  pub keeps : (p : Migration) → promise.WellFormed M p → promise.Keeps M p
  pub never_spoilt : (p : Migration) → promise.Made M p → promise.WellFormed M p
  pub places : (p : Migration) → promise.Made M p → length p.carriers ≡ M.room
  -- kind 4 is for these calls, and the other kinds are not
  pub kinds : promise.KindPromise M
  -- demand 3: every list of calls, which can be closed from any moment on; what a refused opening hands back stays; two lists closed alike; two turns
  pub calls : (m : ℕ) (ab : Hash) (old new : List ℕ) → migration.open_reply M m ab old new ≡ Ok tt → (cs : List courses.Call)
      → claim.Claim M m ab old new cs
  pub ends : claim.Closable M
  pub refused : (m : ℕ) (ab : Hash) (old new : List ℕ) → migration.open_reply M m ab old new ≢ (Ok tt) → (cs : List courses.Call)
      → ((courses.after M m ab old new cs).migration ≡ migration.refused_migration M)
      × ((courses.after M m ab old new cs).old ≡ old)
      × ((courses.after M m ab old new cs).new ≡ new)
  pub one_table : claim.OneTable M M
  pub two_turns : claim.TwoTurns M

-- ---- on all calls
pub record Promises (M : Model) (most crews : ℕ) : Type 0 where
  -- its limits, and its homes
  pub limits : Limited M most crews
  -- demand 1: each call, on every table, record and number, does the work named or gives one of its refusals in their sequence
  pub opens : (k m : ℕ) (ab : Hash) (t : List ℕ) (os : List Order) → Openings M k m ab t os
  pub orders : (p : Phase) (os : List Order) (i w v : ℕ) → Orders M p os i w v
  pub turns : (p : Phase) (t : List ℕ) (w : ℕ) → Turns M p t w
  pub homing : (p : Phase) (t : List ℕ) (w : ℕ) → turn_number (turn_call M p t w).reply ≡ 0 → p.kind ≡ 2 → Homing M p t w
  pub closes : (p : Phase) → Closings M p
  -- the test for 13 is document 01's sentence, and doesn't look at a and b; no call spoils a record
  pub tested : (p : Phase) → is_well_formed M p ≡ true ↔ WellFormed M p
  pub hash_untested : (p : Phase) (ab : Hash) → WellFormed M (with_hash p ab) ↔ WellFormed M p
  pub keeps : (p : Phase) → WellFormed M p → Keeps M p
  pub never_spoilt : (p : Phase) → Made M p → WellFormed M p
  pub places : (p : Phase) → Made M p → length p.workers ≡ M.room
  -- demand 2: sound tables in document 01's words, and the three kinds of unsound; check, count and list say the truth
  pub sound_words : (ab : Hash) (t : List ℕ) → SoundIn M ab t ↔ Soundness M ab t
  pub sound_kinds : (ab : Hash) (t : List ℕ) → Soundness M ab t ↔ (Intact t × (GappedIn M ab t → ⊥) × (DisorderedIn M ab t → ⊥))
  pub rests : (ab : Hash) (t out : List ℕ) → AtRest M ab t out
  -- till lists, lent as one list or as three
  pub fills : (text : List ℕ) (m : ℕ) (old : List Order) → Fills M text m old
  pub fills_three : (text : List ℕ) (m : ℕ) (keys prices workers : List ℕ) → FillsThree M text m keys prices workers
  -- reply rounds: opening, closing, and the whole round
  pub sends : (m : ℕ) (ab : Hash) (t : List ℕ) (os : List Order) → Sending M m ab t os
  pub settles : (m : ℕ) (ab : Hash) (t : List ℕ) (rs : List Ack) (answers out : List ℕ) → Closing M m ab t rs answers out
  pub rounds : (m m' : ℕ) (ab : Hash) (t : List ℕ) (os : List Order) → open_round M m ab t os ≡ Ok tt
      → (rs : List Ack) (answers out : List ℕ) (c : ℕ) → close_round M m' ab (sent_table M m ab t os) rs answers out ≡ Ok c
      → Round os rs (answers_after M m' ab (sent_table M m ab t os) rs answers out) (list_after M m' ab (sent_table M m ab t os) rs answers out) c
  -- demand 3: every list of calls; two lists closed alike; two turns
  pub calls : (k m : ℕ) (ab : Hash) (t : List ℕ) (os : List Order) → open_reply M k m ab t os ≡ Ok tt → (cs : List Call) → Claim M k m ab t os cs
  pub any_lists : (k m : ℕ) (ab : Hash) (t : List ℕ) (os : List Order) → open_reply M k m ab t os ≡ Ok tt → (cs : List Lent)
      → AnyLists M k m ab t os cs
  pub keeps_table : (k m : ℕ) (ab : Hash) (t : List ℕ) (os : List Order) → open_reply M k m ab t os ≡ Ok tt → KeepsTable M k m ab t os
  pub refused : (k m : ℕ) (ab : Hash) (t : List ℕ) (os : List Order) → open_reply M k m ab t os ≢ (Ok tt) → (cs : List Call)
      → (after M k m ab t os cs).phase ≡ refused_phase M
  pub fixed : Fixed M M
  pub one_table : OneTable M M
  pub two_turns : TwoTurns M
  -- a phase for one new key: when it opens, how far the key reaches, and that taking it out restores the table
  pub opens_for_one : OpensForOne M
  pub adds : Adds M
  -- migrations
  pub moves : MovePromises M

-- each of the documents' models keeps them all, within its limits
abbrev pub EachPromise : Type 0
EachPromise = (d : Device) → Promises (model_of d) (most_cells_of d) (most_workers_of d)
