-- How many distinct keys a list has with one more.
use mathlib.Core.Path.{◌≡◌, ap}
use mathlib.Core.Logic.{◌≢◌, inl, inr, ⊎_elim}
use mathlib.Core.List.{List, ◌∷◌, ◌++◌}
use Prim.Native.Nat.{ℕ, ◌≤◌}
use lib.ListN.{length}
use Rattle.layout.specs.Layout.{In, size}
use Rattle.layout.proofs.Sets.{same-descending, subset-size, in-append}

pub size-old : (x : ℕ) (xs : List ℕ) → (x ≢ 0 → In x xs) → size (x ∷ xs) ≡ size xs
size-old x xs there = ap length (same-descending (x ∷ xs) xs (λ y nz. (⊎_elim (λ (e : y ≡ x). rw e (there (rw (← e) nz))) (λ i. i), inr)))

pub size-more : (x : ℕ) (xs : List ℕ) → size xs ≤ size (x ∷ xs)
size-more x xs = subset-size xs (x ∷ xs) (λ y nz i. inr i)

pub size-moved : (x : ℕ) (ds ks : List ℕ) → size ((x ∷ ds) ++ ks) ≡ size (ds ++ (x ∷ ks))
size-moved x ds ks = ap length (same-descending ((x ∷ ds) ++ ks) (ds ++ (x ∷ ks)) (λ y nz. (
  ⊎_elim (λ e. (in-append ds (x ∷ ks) y).1 (inr (inl e))) (λ i. (in-append ds (x ∷ ks) y).1 (⊎_elim inl (λ j. inr (inr j)) ((in-append ds ks y).0 i))),
  λ i. ⊎_elim (λ j. inr ((in-append ds ks y).1 (inl j))) (⊎_elim inl (λ j. inr ((in-append ds ks y).1 (inr j)))) ((in-append ds (x ∷ ks) y).0 i),
)))
