-- A list written over the front of another, one place after the other.
use mathlib.Core.Path.{◌≡◌, refl, ◌∙◌, ap}
use mathlib.Core.List.{List, [], ◌∷◌}
use Prim.Native.Nat.{ℕ, suc, ◌≤◌}
use native.Mathlib.Omega.{arith}
use lib.ListN.{length, set}
use Rattle.till.specs.Till.{over}

-- elements written from place i on
unfoldable pub written_at : {A : Type 0} → List A → ℕ → List A → List A
written_at l i [] = l
written_at l i (x ∷ xs) = written_at (set l i x) (suc i) xs

pub written_none : {A : Type 0} (l : List A) (i : ℕ) → written_at l i [] ≡ l
unfolding written_at
written_none l i = refl

pub written-more : {A : Type 0} (l : List A) (i : ℕ) (x : A) (xs : List A) → written_at (set l i x) (suc i) xs ≡ written_at l i (x ∷ xs)
unfolding written_at
written-more l i x xs = refl

written_behind : {A : Type 0} (y : A) (l : List A) (i : ℕ) (xs : List A) → written_at (y ∷ l) (suc i) xs ≡ y ∷ written_at l i xs
unfolding written_at
written_behind y l i [] = refl
written_behind y l i (x ∷ xs) = written_behind y (set l i x) (suc i) xs

-- from the first place on, if there is room
pub written_over : {A : Type 0} (new old : List A) → length new ≤ length old → written_at old 0 new ≡ over new old
unfolding written_at
written_over [] old l = refl
written_over (x ∷ new) [] l = absurd (omega (arith, l))
written_over (x ∷ new) (y ∷ old) l = written_behind x old 0 new ∙ ap (x ∷◌) (written_over new old (omega (arith, l)))
