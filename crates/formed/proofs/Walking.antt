-- The walks over the workers, and over the cells that an activity names.
use mathlib.Core.Path.{◌≡◌, refl}
use mathlib.Core.Bool.{Bool, true, false, cond, ◌&&◌}
use mathlib.Core.List.{List, [], ◌∷◌}
use Prim.Native.Nat.{ℕ, ◌+◌}
use native.Mathlib.Numerals.{add-one}
use lib.Dec.{ltb}
use Rattle.std.specs.List.{list_all, enumerate_from}
use Rattle.prices.specs.Contents.{label}
use Rattle.activities.specs.Activities.{is_idle, all_below, activity_ok}
use Rattle.activities.specs.declared.Worker.{Worker}
use Rattle.protocol.specs.Bars.{all_idle}
use Rattle.protocol.specs.IsWellFormed.{workers_ok}

pub and-cond : (a b : Bool) → (a && b) ≡ cond a b false
and-cond true b = refl
and-cond false b = refl

-- the definitions are std's word for a test of each element
pub below-each : (n : ℕ) (cs : List ℕ) → list_all (λ c. ltb c n) cs ≡ all_below n cs
below-each n [] = refl
below-each n (c ∷ cs) = rw (below-each n cs) (and-cond (ltb c n) _)

pub idle-each : (ws : List Worker) → list_all (λ w. is_idle w.activity) ws ≡ all_idle ws
idle-each [] = refl
idle-each (w ∷ ws) = rw (idle-each ws) (and-cond (is_idle w.activity) _)

pub workers-each : (k n m i : ℕ) (ws : List Worker)
    → list_all (λ p. cond (ltb p.0 m) (activity_ok k n label p.1.activity) (is_idle p.1.activity)) (enumerate_from i ws) ≡ workers_ok k n m i ws
workers-each k n m i [] = refl
workers-each k n m i (w ∷ ws) = rw (workers-each k n m (i + 1) ws, add-one) (and-cond (cond (ltb i m) (activity_ok k n label w.activity) (is_idle w.activity)) _)
