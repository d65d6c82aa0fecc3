-- The tests of all workers and of all cells: the definitions are std's word for a test of each element.
use mathlib.Core.Path.{◌≡◌, refl}
use mathlib.Core.Bool.{Bool, false, cond}
use mathlib.Core.List.{List, [], ◌∷◌}
use Prim.Native.Nat.{ℕ, ◌+◌, ◌<◌}
use native.Mathlib.Numerals.{add-one}
use lib.Dec.{ltb, eqb}
use lib.ListN.{length, get_or, drop}
use lib.Seq.{drop-cons}
use Rattle.std.specs.List.{list_all, enumerate_from}
use Rattle.formed.proofs.Walking.{and-cond}
use Rattle.state.specs.Model.{Model}
use Rattle.migration.specs.Calls.{all_free, numbers_ok, carriers_ok, is_well_formed, all_empty}
use Rattle.migration.specs.Tasks.{free, carrier, is_free, task_ok}
use Rattle.migration.specs.declared.Carrier.{Carrier}
use Rattle.migration.specs.declared.Migration.{Migration}
use Rattle.migration.specs.declared.Task.{Task}

pub carriers-each : (n m crew i : ℕ) (cs : List Carrier)
    → list_all (λ p. cond (ltb p.0 crew) (task_ok n m p.1.task) (is_free p.1.task)) (enumerate_from i cs) ≡ carriers_ok n m crew i cs
carriers-each n m crew i [] = refl
carriers-each n m crew i (c ∷ cs) = rw (carriers-each n m crew (i + 1) cs, add-one) (and-cond (cond (ltb i crew) (task_ok n m c.task) (is_free c.task)) _)

pub free-each : (cs : List Carrier) → list_all (λ c. is_free c.task) cs ≡ all_free cs
free-each [] = refl
free-each (c ∷ cs) = rw (free-each cs) (and-cond (is_free c.task) _)

pub empty-each : (t : List ℕ) → list_all (λ x. eqb x 0) t ≡ all_empty t
empty-each [] = refl
empty-each (x ∷ t) = rw (empty-each t) (and-cond (eqb x 0) _)

-- ---- the numbers of a migration alone
module _ (M : Model) (p : Migration) where
  abbrev numbers : Bool
  numbers = numbers_ok M p.kind p.source p.length p.crew p.next

  pub ill-by-numbers : numbers ≡ false → is_well_formed M p ≡ false
  unfolding is_well_formed
  ill-by-numbers h = rw h

-- ---- the tests of all workers and of all cells, from number i on
-- what worker i of a list is doing
abbrev at : List Carrier → ℕ → Task
at cs i = (get_or cs i (carrier free)).task

pub all-free-from : (i : ℕ) (cs : List Carrier) → i < length cs → all_free (drop i cs) ≡ cond (is_free (at cs i)) (all_free (drop (i + 1) cs)) false
all-free-from i cs h = rw (add-one, drop-cons cs i (carrier free))

pub all-empty-from : (i : ℕ) (t : List ℕ) → i < length t → all_empty (drop i t) ≡ cond (eqb (get_or t i 0) 0) (all_empty (drop (i + 1) t)) false
all-empty-from i t h = rw (add-one, drop-cons t i 0)
