-- A word's lowest one is the first cell with a label; without it, the word is that of the cells with this one emptied.
use mathlib.Core.Path.{◌≡◌, ◌∙◌, ap, ap₂}
use mathlib.Core.Logic.{◌≢◌}
use mathlib.Core.List.{List, [], ◌∷◌}
use Prim.Native.Nat.{ℕ, zero, suc, ◌+◌, ◌-◌, ◌*◌, ◌/◌, ◌%◌, ◌≤◌, ◌<◌}
use native.Mathlib.Omega.{arith}
use borrow.Author.Tests.{eq-eqb, ne_eqb}
use lib.Bits.{bit_and, and_step, and_self}
use lib.Count.{count_trailing_zeros, under}
use lib.ListN.{length, get_or, set}
use Rattle.ring.proofs.Split.{by-eq}
use Rattle.prices.specs.Contents.{label}
use Rattle.words.specs.Words.{taken, entries_of, word_of}
use Rattle.words.proofs.Words.{word_low, word-high}

-- k is the first cell of xs with a label, and w the word without its one
pub record First (xs : List ℕ) (k w : ℕ) : Type 0 where
  pub key : label (get_or xs k 0) ≢ 0
  pub entries : entries_of xs ≡ get_or xs k 0 ∷ entries_of (set xs k 0)
  pub word : w ≡ word_of (set xs k 0)

-- the lowest bit taken away from a number
and-odd : (n u : ℕ) → n ≡ 2 * u + 1 → bit_and n (n - 1) ≡ 2 * u
and-odd n u e =
    let a : n / 2 ≡ u = omega arith in
    let b : (n - 1) / 2 ≡ u = omega arith in
    let c : n % 2 ≡ 1 = omega arith in
    let d : (n - 1) % 2 ≡ 0 = omega arith in
    and_step n (n - 1) ∙ rw (a, b, c, d, and_self) (omega arith)

and-even : (n u : ℕ) → n ≡ 2 * u → 0 < u → bit_and n (n - 1) ≡ 2 * bit_and u (u - 1)
and-even n u e h =
    let a : n / 2 ≡ u = omega arith in
    let b : (n - 1) / 2 ≡ u - 1 = omega arith in
    let c : n % 2 ≡ 0 = omega arith in
    let d : (n - 1) % 2 ≡ 1 = omega arith in
    and_step n (n - 1) ∙ rw (a, b, c, d) (omega arith)

module _ (x : ℕ) (xs : List ℕ) where
  abbrev n : ℕ
  n = word_of (x ∷ xs)

  here : label x ≢ 0 → First (x ∷ xs) 0 (bit_and n (n - 1))
  here k =
      let e = ne_eqb (label x) 0 k in
      let one : taken x ≡ 1 = rw e in
      record { key = k; entries = rw e; word = and-odd n (word_of xs) (omega arith) ∙ omega arith }

  later : label x ≡ 0 → 0 < word_of xs → {k : ℕ} → First xs k (bit_and (word_of xs) (word_of xs - 1)) → First (x ∷ xs) (suc k) (bit_and n (n - 1))
  later e p f =
      let z = eq-eqb (label x) 0 e in
      let none : taken x ≡ 0 = rw z in
      record { key = f.key; entries = rw z f.entries; word = and-even n (word_of xs) (omega arith) p ∙ omega (arith, f.word) }

  -- where the lowest one stands
  lowest : (d : ℕ) {b : ℕ} → taken x ≡ b → count_trailing_zeros (suc d) n ≡ under b (count_trailing_zeros d (word_of xs))
  unfolding count_trailing_zeros
  lowest d e = ap₂ under (word_low x xs ∙ e) (ap (count_trailing_zeros d) (word-high x xs))

pub first : (d : ℕ) (xs : List ℕ) → length xs ≤ d → 0 < word_of xs → First xs (count_trailing_zeros d (word_of xs)) (bit_and (word_of xs) (word_of xs - 1))
first d [] h p = absurd (omega arith)
first zero (x ∷ xs) h p = absurd (omega arith)
first (suc d) (x ∷ xs) h p = by-eq (label x) 0
    (λ e. let none : taken x ≡ 0 = rw (eq-eqb (label x) 0 e) in
    let some : 0 < word_of xs = omega arith in
    rw (lowest x xs d none) (later x xs e some (first d xs (omega arith) some)))
    (λ k. let one : taken x ≡ 1 = rw (ne_eqb (label x) 0 k) in rw (lowest x xs d one) (here x xs k))
