-- Which phase states are well formed, as the test that the calls go by; all others are ill-formed (document 01: spoilt).
use Rattle.std.specs.Prelude.{Bool, true, false, cond, List, [], ◌∷◌, ℕ, suc, ltb}
use Rattle.prices.specs.Contents.{label}
use Rattle.activities.specs.Activities.{is_idle, activity_ok}
use Rattle.activities.specs.Kinds.{kind_ok}
use Rattle.activities.specs.declared.Worker.{Worker}
use Rattle.state.specs.Model.{Model, size_ok, crew_ok}
use Rattle.state.specs.declared.Phase.{Phase}

-- kind, length and worker count are within their bounds
abbrev pub numbers_ok : Model → (k n m : ℕ) → Bool
numbers_ok M k n m = cond (kind_ok k) (cond (size_ok M n) (crew_ok M m) false) false

-- of the workers from number i on, those below m have an activity that the kind has, and those past it are idle
abbrev pub workers_ok : (k n m i : ℕ) → List Worker → Bool
workers_ok k n m i [] = true
workers_ok k n m i (w ∷ ws) = cond (cond (ltb i m) (activity_ok k n label w.activity) (is_idle w.activity)) (workers_ok k n m (suc i) ws) false

unfoldable pub is_well_formed : Model → Phase → Bool
is_well_formed M p =
    cond (numbers_ok M p.kind p.length p.crew) (workers_ok p.kind p.length p.crew 0 p.workers) false
