-- The cells of a whole group are read from the last pair to the first: the bits so far make the word of the cells from pair p on.
use mathlib.Core.Path.{◌≡◌, sym, ◌∙◌, ap}
use mathlib.Core.List.{List}
use Prim.Native.Nat.{ℕ, ◌+◌, ◌-◌, ◌*◌, ◌^◌, ◌≤◌, ◌<◌}
use native.Mathlib.Omega.{arith}
use lib.ListN.{length, get_or, drop, drop_of_length-le}
use Rattle.words.specs.Words.{taken, word_of}
use Rattle.listing.proofs.Down.{pair-down, room}

pub record Paired (l : List ℕ) (p even odd : ℕ) : Type 0 where
  pub inside : p ≤ 32
  pub so_far : even + 2 * odd ≡ word_of (drop (2 * p) l)

pub begins : (l : List ℕ) → length l ≡ 64 → Paired l 32 0 0
begins l h = let k : length l ≤ 64 = omega arith in record { inside = omega arith; so_far = sym (ap word_of (drop_of_length-le l k)) }

module _ {l : List ℕ} {p even odd : ℕ} (v : Paired l p even odd) (long : length l ≡ 64) where
  pub ends : p ≤ 0 → even + 2 * odd ≡ word_of l
  ends h = let e : p ≡ 0 = omega arith in v.so_far ∙ ap (λ (p : ℕ). word_of (drop (2 * p) l)) e

  pub all : even + 2 * odd < 2 ^ 64
  all = omega (arith, v.so_far, room l (2 * p) 0 (omega arith) (omega arith))

  module _ (more : 0 < p) where
    pub fits : 4 * (even + odd) + 1 < 2 ^ 64
    fits = omega (arith, v.so_far, room l (2 * p) 2 (omega arith) (omega arith))

    pub next : {e o : ℕ} → e ≡ taken (get_or l (2 * (p - 1)) 0) → o ≡ taken (get_or l (2 * (p - 1) + 1) 0) → Paired l (p - 1) (4 * even + e) (4 * odd + o)
    next e o =
        let at : 2 * (p - 1) ≡ 2 * p - 2 = omega arith in
        record {
          inside = omega (arith, v.inside);
          so_far = rw at (omega (arith, v.so_far, rw at at e, rw at at o, pair-down l (2 * p) (omega arith) (omega (arith, v.inside))));
        }
