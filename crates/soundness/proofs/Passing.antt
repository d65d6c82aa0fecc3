-- A test of one cell after the other, in a loop and by the library.
use mathlib.Core.Path.{◌≡◌, sym, ◌∙◌}
use mathlib.Core.Bool.{Bool, true, false}
use mathlib.Core.List.{List}
use Prim.Native.Nat.{ℕ, ◌+◌, ◌≤◌, ◌<◌}
use native.Mathlib.Omega.{arith}
use lib.ListN.{length, get_or}
use Rattle.std.specs.List.{list_all, list_any}
use Rattle.std.proofs.lemmas.List.{get_or_default}
use Rattle.std.proofs.lemmas.List.Sums.{AllPass-from_list_all, list_all-from_AllPass}
use Rattle.std.proofs.lemmas.List.Folds.{Any-from_list_any, list_any_at}
use Rattle.ring.proofs.Split.{by-eq}
use Rattle.ring.proofs.Tests.{true-says, by-test, not_both}
use Rattle.ring.specs.Each.{all, some, first}
use Rattle.ring.proofs.Each.{all-at, all_of, some_at, some_of, first_of}

-- every test before j gave v
abbrev pub Gave : (ℕ → Bool) → Bool → ℕ → Type 0
Gave p v j = (i : ℕ) → i < j → p i ≡ v

module _ (p : ℕ → Bool) where
  pub gave-on : {v : Bool} {j : ℕ} → Gave p v j → p j ≡ v → Gave p v (j + 1)
  gave-on {j = j} g e i l = by-eq i j (λ q. rw q e) (λ q. g i (omega arith))

  module _ {n j : ℕ} where
    pub all-ends : Gave p true j → n ≤ j → true ≡ all p n
    all-ends g l = sym ((true-says (all p n)).1 (all_of p n (λ i h. (true-says (p i)).0 (g i (omega arith)))))

    pub first_stops : Gave p false j → j < n → p j ≡ true → j ≡ first p n
    first_stops g l e = first_of (record { within = omega arith; before = g; found = λ _. e })

    pub first_ends : Gave p false j → j ≡ n → j ≡ first p n
    first_ends g e = first_of (record { within = omega arith; before = g; found = λ l. absurd (omega arith) })

-- ---- the library's tests of a list are those of its places
module _ (p : ℕ → Bool) (xs : List ℕ) where
  abbrev at : ℕ → Bool
  at j = p (get_or xs j 0)

  abbrev n : ℕ
  n = length xs

  pub each : list_all p xs ≡ all at n
  each = by-test (list_all p xs)
      (λ e. e ∙ all-ends at {n = n} {j = n} (λ i l. AllPass-from_list_all p xs e i 0 l) (omega arith))
      (λ e. e ∙ sym (by-test (all at n) (λ a. absurd (not_both (list_all p xs) (passed a) e)) (λ f. f)))
    where
      passed : all at n ≡ true → list_all p xs ≡ true
      passed a = list_all-from_AllPass p xs (λ k d l. rw (get_or_default xs k d 0 l)
          ((true-says (at k)).1 (all-at at n ((true-says (all at n)).0 a) k l)))

  pub one_of : list_any p xs ≡ some at n
  one_of = by-test (list_any p xs)
      (λ e. e ∙ sym (found e))
      (λ e. e ∙ sym (by-test (some at n) (λ s. absurd (not_both (list_any p xs) (passed s) e)) (λ f. f)))
    where
      found : list_any p xs ≡ true → some at n ≡ true
      found e =
          let (k, x, l, is, ok) = Any-from_list_any p xs e in
          let here : at k ≡ true = rw (get_or_default xs k 0 x l, is) ok in
          (true-says (some at n)).1 (some_of at n k l ((true-says (at k)).0 here))

      passed : some at n ≡ true → list_any p xs ≡ true
      passed s = let (k, l, ok) = some_at at n ((true-says (some at n)).0 s) in list_any_at p xs k 0 l ((true-says (at k)).1 ok)
