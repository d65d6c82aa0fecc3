-- What is promised of the line `run`, in document 01's words and without the definition's parts. Proved in proofs/Theorem.
use Rattle.std.specs.Prelude.{◌≡◌, ◌≢◌, ◌↔◌, ◌⊎◌, true, false, List, [], ◌∷◌, ℕ, zero, suc, length, get_or, Option, Some, None, Ok}
use Rattle.prices.specs.Contents.{label}
use Rattle.orders.specs.declared.Order.{Order}
use Rattle.activities.specs.Activities.{entry_of}
use Rattle.activities.specs.declared.Activity.TheVariants.{Idle}
use Rattle.rule.specs.declared.Answer.{Answer}
use Rattle.rule.specs.declared.Answer.TheVariants.{Price, No}
use Rattle.phases.specs.Promise.{Sold}
use Rattle.state.specs.Model.{Model, Proper}
use Rattle.state.specs.declared.Phase.{Phase}
use Rattle.protocol.specs.Bars.{doing, all_idle}
use Rattle.protocol.specs.Calls.{turn_call}
use Rattle.protocol.specs.Promise.{Framed}
use Rattle.history.specs.History as history
use Rattle.history.specs.History.{Call, turn, History}
use Rattle.dealing.specs.Reached.{Reached}
use Rattle.dealing.specs.Deal.{Dealing, unfinished, lap, run}
use Rattle.dealing.specs.declared.Ended.{Ended}

-- turn calls of workers 0, 1 and so on below m, put before further calls; and so many rounds of them
abbrev pub round : ℕ → List Call → List Call
round zero cs = cs
round (suc w) cs = round w (turn w ∷ cs)

abbrev pub rounds : ℕ → ℕ → List Call
rounds m zero = []
rounds m (suc r) = round m (rounds m r)

-- the finish of worker w
abbrev pub finish_of : Dealing → ℕ → Option Ended
finish_of d w = get_or d.dealt.finishes w unfinished

-- ---- d is what a run leaves that begins with the phase p and the table t
pub record Runs (M : Model) (p : Phase) (t : List ℕ) (d : Dealing) : Type 0 where
  -- until all are idle
  pub idle : (w : ℕ) → doing d.dealt.phase w ≡ Idle
  pub idle_all : all_idle d.dealt.phase.workers ≡ true
  -- one field per worker: `-` (nothing) exactly if idle before
  pub none : (w : ℕ) → (finish_of d w ≡ None) ↔ (doing p w ≡ Idle)
  -- else its finish: finished; in a find phase a price or no, and a price exactly if its key stands in the table at that price
  pub finished : (w : ℕ) → doing p w ≢ Idle → p.kind ≢ 3 → finish_of d w ≡ Some Ended.Finished
  pub answered : (w : ℕ) → doing p w ≢ Idle → p.kind ≡ 3 → ((q : ℕ) × (finish_of d w ≡ Some (Ended.Price q))) ⊎ (finish_of d w ≡ Some Ended.No)
  pub right : (w : ℕ) → doing p w ≢ Idle → p.kind ≡ 3 → (q : ℕ) → (finish_of d w ≡ Some (Ended.Price q)) ↔ Sold label t (label (entry_of (doing p w))) q
  pub places : length d.dealt.finishes ≡ M.room
  -- by turns alone, in rounds of all workers, whatever list is lent
  pub dealt : (r : ℕ) × ((os : List Order) (s : History) → s.phase ≡ p → s.table ≡ t
      → (d.dealt.phase ≡ (history.run M os (rounds p.crew r) s).phase) × (d.table ≡ (history.run M os (rounds p.crew r) s).table))
  pub reached : (os : List Order) → Reached M os p t → Reached M os d.dealt.phase d.table
  -- which change nothing but activities and cells
  pub frame : Framed p d.dealt.phase
  pub shut : d.dealt.phase.shut ≡ p.shut
  pub sized : length d.table ≡ length t

-- from an open phase that calls have led to
abbrev pub RunPromise : Type 0
RunPromise = (M : Model) → Proper M → (os : List Order) (p : Phase) (t : List ℕ) → Reached M os p t → p.shut ≡ false → Runs M p t (run M p t)

-- ---- one turn, from an open phase that calls have led to: a find that answers a price has found its key in the table at that price, and one that answers
-- no has found that it stands there at none
pub record Tells (p : Phase) (t : List ℕ) (w : ℕ) (a : Answer) : Type 0 where
  pub price : (q : ℕ) → a ≡ Price q → Sold label t (label (entry_of (doing p w))) q
  pub none : a ≡ No → (q : ℕ) → Sold label t (label (entry_of (doing p w))) q → ⊥

abbrev pub TellsPromise : Type 0
TellsPromise = (M : Model) → Proper M → (os : List Order) (p : Phase) (t : List ℕ) → Reached M os p t → p.shut ≡ false → (w : ℕ) (a : Answer)
    → (turn_call M p t w).reply ≡ Ok a → Tells p t w a

-- ---- a lap is one turn call of each worker, 0, 1 and so on. (What a run leaves does not show in which order its turns were dealt.)
abbrev pub LapPromise : Type 0
LapPromise = (M : Model) → Proper M → (os : List Order) (d : Dealing) (s : History) → s.phase ≡ d.dealt.phase → s.table ≡ d.table
    → ((lap M d).dealt.phase ≡ (history.run M os (round d.dealt.phase.crew []) s).phase)
    × ((lap M d).table ≡ (history.run M os (round d.dealt.phase.crew []) s).table)
