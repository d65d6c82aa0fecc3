-- The kinds that replace.
use mathlib.Core.Path.{◌≡◌}
use mathlib.Core.Logic.{◌≢◌}
use mathlib.Core.Bool.{false, cond}
use mathlib.Core.List.{[], ◌∷◌}
use Prim.Native.Nat.{ℕ}
use lib.Dec.{eqb}
use borrow.Author.Tests.{eq-eqb, ne_eqb}
use Rattle.prices.specs.Contents.{label}
use Rattle.activities.specs.Activities.{all_below, activity_ok}
use Rattle.activities.specs.declared.Activity.{Activity}
use Rattle.activities.specs.declared.Activity.TheVariants.{Replacing}

module _ (k n : ℕ) (a : Activity) (v c j x : ℕ) (is : a ≡ Replacing v c j x) where
  pub replaces-not : k ≡ 3 → false ≡ activity_ok k n label a
  replaces-not e = rw (is, eq-eqb k 3 e)

  pub replaces : k ≢ 3 → cond (eqb (label v) 0) false (all_below n (c ∷ j ∷ [])) ≡ activity_ok k n label a
  replaces e = rw (is, ne_eqb k 3 e)
