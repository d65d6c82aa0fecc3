-- The refusals of the calls on a phase, each call's in its sequence: the first whose test holds is given. (The opening's: state/specs/Open.)
use Rattle.std.specs.Prelude.{Bool, true, false, not, cond, List, [], ◌∷◌, ◌++◌, ℕ, leb, eqb, length, get_or}
use Rattle.prices.specs.Contents.{price_ok}
use Rattle.orders.specs.Orders.{is_test}
use Rattle.activities.specs.Activities.{idle, is_idle}
use Rattle.activities.specs.declared.Activity.{Activity}
use Rattle.activities.specs.declared.Worker.{Worker}
use Rattle.state.specs.Model.{Model}
use Rattle.state.specs.Refusals.{Bar, if, unless}
use Rattle.state.specs.declared.Phase.{Phase}
use Rattle.state.specs.declared.Refusal.TheVariants.{OtherTable, NoWorker, Blank, Busy, Working, Shut, Spoilt, WrongPrice, NoLine, TestNumber}
use Rattle.protocol.specs.IsWellFormed.{is_well_formed}

-- what worker w is doing
abbrev pub doing : Phase → ℕ → Activity
doing p w = (get_or p.workers w idle).activity

abbrev pub all_idle : List Worker → Bool
all_idle [] = true
all_idle (w ∷ ws) = cond (is_idle w.activity) (all_idle ws) false

-- an insert phase, and a key for factory tests
abbrev pub adds_test : ℕ → ℕ → Bool
adds_test k v = cond (eqb k 1) (is_test v) false

-- an insert phase, and a price that no label can have
abbrev pub mispriced : ℕ → ℕ → Bool
mispriced k cents = cond (eqb k 1) (not (price_ok cents)) false

-- ---- parts
-- of an entry, the key v that is ordered with its price, in a phase of kind k: 7, 24, 14
abbrev pub entry_bars : (k v cents : ℕ) → List Bar
entry_bars k v cents = if (eqb v 0) Blank ∷ if (adds_test k v) TestNumber ∷ if (mispriced k cents) WrongPrice ∷ []

-- of an order of v to a worker doing a, in a phase of kind k: 8, the entry's
abbrev pub worker_bars : (k : ℕ) → Activity → (v cents : ℕ) → List Bar
worker_bars k a v cents = unless (is_idle a) Busy ∷ entry_bars k v cents

module _ (M : Model) (p : Phase) where
  -- of the phase state: 13, 11
  abbrev pub phase_bars : List Bar
  phase_bars = unless (is_well_formed M p) Spoilt ∷ if p.shut Shut ∷ []

  -- of the worker's number: 6
  abbrev pub number_bars : ℕ → List Bar
  number_bars w = if (leb p.crew w) NoWorker ∷ []

  -- ---- the calls
  -- order, by a line that the list lacks or not: 13, 11, 15, 6, 8, 7, 24, 14
  abbrev pub order_bars : Bool → (w v cents : ℕ) → List Bar
  order_bars lacks w v cents = phase_bars ++ if lacks NoLine ∷ number_bars w ++ worker_bars p.kind (doing p w) v cents

  -- turn: 13, 11, 5, 6
  abbrev pub turn_bars : List ℕ → ℕ → List Bar
  turn_bars t w = phase_bars ++ unless (eqb p.length (length t)) OtherTable ∷ number_bars w

  -- close: 13, 11, 10
  abbrev pub close_bars : List Bar
  close_bars = phase_bars ++ unless (all_idle p.workers) Working ∷ []
