-- Words made from the last cell down to the first.
use mathlib.Core.Path.{◌≡◌}
use mathlib.Core.List.{List}
use Prim.Native.Nat.{ℕ, zero, suc, ◌+◌, ◌-◌, ◌*◌, ◌^◌, ◌≤◌, ◌<◌}
use native.Mathlib.Omega.{arith}
use native.Mathlib.Numerals.{add-one}
use lib.ListN.{length, get_or, drop, length-drop}
use lib.Pow.{pow_mono}
use lib.Seq.{drop-cons}
use Rattle.words.specs.Words.{taken, word_of}
use Rattle.words.proofs.Words.{word_lt}

module _ (l : List ℕ) where
  word_at : (i : ℕ) → i < length l → word_of (drop i l) ≡ 2 * word_of (drop (suc i) l) + taken (get_or l i 0)
  word_at i h = rw (drop-cons l i 0)

  -- one cell further down, and two
  pub word-down : (i : ℕ) → 0 < i → i ≤ length l → 2 * word_of (drop i l) + taken (get_or l (i - 1) 0) ≡ word_of (drop (i - 1) l)
  word-down zero h k = absurd (omega arith)
  word-down (suc i) h k = let e : suc i - 1 ≡ i = omega arith in rw e (omega (arith, word_at i k))

  pub pair-down : (i : ℕ) → 1 < i → i ≤ length l
      → 4 * word_of (drop i l) + 2 * taken (get_or l (i - 2 + 1) 0) + taken (get_or l (i - 2) 0) ≡ word_of (drop (i - 2) l)
  pair-down zero h k = absurd (omega arith)
  pair-down (suc zero) h k = absurd (omega arith)
  pair-down (suc (suc i)) h k =
      let e : suc (suc i) - 2 ≡ i = omega arith in
      rw (e, add-one) (omega (arith, word_at i (omega arith), word_at (suc i) k))

  -- the word of the cells from i on leaves i bits free
  pub room : (i k : ℕ) → length l ≤ 64 → k ≤ i → word_of (drop i l) < 2 ^ (64 - k)
  room i k short h =
      let m : length (drop i l) ≤ 64 - k = simp length-drop (omega arith) in
      omega (arith, word_lt (drop i l), pow_mono m)
