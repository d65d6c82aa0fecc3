-- The test for well-formed phases by its numbers, and the test of all workers from number i on.
use Prim.Native.Nat.{ℕ, ◌+◌, ◌<◌}
use mathlib.Core.Bool.{Bool, false, cond}
use mathlib.Core.List.{List}
use mathlib.Core.Path.{◌≡◌}
use native.Mathlib.Numerals.{add-one}
use lib.ListN.{length, get_or, drop}
use lib.Seq.{drop-cons}
use Rattle.activities.specs.Activities.{idle, is_idle}
use Rattle.activities.specs.declared.Activity.{Activity}
use Rattle.activities.specs.declared.Worker.{Worker}
use Rattle.state.specs.Model.{Model}
use Rattle.state.specs.declared.Phase.{Phase}
use Rattle.protocol.specs.Bars.{all_idle}
use Rattle.protocol.specs.IsWellFormed.{numbers_ok, is_well_formed}

-- ---- the numbers
module _ (M : Model) (p : Phase) where
  abbrev numbers : Bool
  numbers = numbers_ok M p.kind p.length p.crew

  pub ill-by-numbers : numbers ≡ false → is_well_formed M p ≡ false
  unfolding is_well_formed
  ill-by-numbers h = rw h

-- ---- the workers
-- what worker i of a list is doing
abbrev at : List Worker → ℕ → Activity
at ws i = (get_or ws i idle).activity

pub all_idle-from : (i : ℕ) (ws : List Worker) → i < length ws → all_idle (drop i ws) ≡ cond (is_idle (at ws i)) (all_idle (drop (i + 1) ws)) false
all_idle-from i ws h = rw (add-one, drop-cons ws i idle)
