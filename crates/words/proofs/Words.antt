-- Laws of occupancy words, and of the entries of a list of cells.
use mathlib.Core.Path.{◌≡◌, refl, ◌∙◌, ap}
use mathlib.Core.Bool.{Bool, true, false, not, cond}
use mathlib.Core.List.{List, [], ◌∷◌, ◌++◌}
use Prim.Native.Nat.{ℕ, zero, suc, ◌+◌, ◌/◌, ◌%◌, ◌^◌, ◌≤◌, ◌<◌}
use native.Mathlib.Omega.{arith}
use native.Mathlib.Nat.{zero-add, pow-suc}
use native.Mathlib.Numerals.{one-add}
use lib.Count.{ones, ones_step}
use lib.Dec.{eqb}
use lib.ListN.{length, get_or}
use lib.Pow.{shr_le, shr-shr}
use borrow.Author.Tests.{ne_eqb}
use Rattle.ring.specs.Counting.{bit, count}
use Rattle.prices.specs.Contents.{label}
use Rattle.words.specs.Words.{taken, occupied, entries_of, word_of}
use Rattle.words.specs.Promise.{holds_key, keys_before, InCellOrder}

pub taken-le : (x : ℕ) → taken x ≤ 1
taken-le x = go (eqb (label x) 0)
  where
    go : (b : Bool) → cond b 0 1 ≤ 1
    go true = omega arith
    go false = omega arith

-- ---- words
pub word_lt : (xs : List ℕ) → word_of xs < 2 ^ length xs
word_lt [] = omega arith
word_lt (x ∷ xs) = rw pow-suc (omega (arith, word_lt xs, taken-le x))

module _ (x : ℕ) (xs : List ℕ) where
  -- the lowest bit, and the word of the cells above it
  pub word_low : word_of (x ∷ xs) % 2 ≡ taken x
  word_low = omega (arith, taken-le x)

  pub word-high : word_of (x ∷ xs) / 2 ≡ word_of xs
  word-high = omega (arith, taken-le x)

pub ones-word : (xs : List ℕ) → ones (word_of xs) ≡ occupied xs
unfolding ones
ones-word [] = refl
ones-word (x ∷ xs) = ones_step (word_of (x ∷ xs)) ∙ rw (word-high x xs, word_low x xs) (omega (arith, ones-word xs))

pub word-bit : (xs : List ℕ) (b : ℕ) → (word_of xs / 2 ^ b) % 2 ≡ taken (get_or xs b 0)
word-bit [] b = omega (arith, shr_le 0 b)
word-bit (x ∷ xs) zero = omega (arith, taken-le x)
word-bit (x ∷ xs) (suc b) = rw (← one-add b, ← shr-shr (word_of (x ∷ xs)) 1 b, word-high x xs) (word-bit xs b)

-- ---- labels counted, and each entry in its place
pub occupied-counts : (xs : List ℕ) → occupied xs ≡ count holds_key xs
unfolding count
occupied-counts [] = refl
occupied-counts (x ∷ xs) = go (occupied-counts xs) (eqb (label x) 0)
  where
    go : occupied xs ≡ count holds_key xs → (b : Bool) → cond b 0 1 + occupied xs ≡ bit (not b) + count holds_key xs
    go e true = omega arith
    go e false = omega arith

pub entry-in-place : (t : List ℕ) → InCellOrder t (entries_of t)
unfolding count
entry-in-place [] i key = absurd (key refl)
entry-in-place (x ∷ t) zero key = rw (ne_eqb (label x) 0 key)
entry-in-place (x ∷ t) (suc i) key = go (entry-in-place t i key) (eqb (label x) 0)
  where
    go : get_or (entries_of t) (keys_before t i) 0 ≡ get_or t i 0 → (b : Bool) → get_or (cond b (entries_of t) (x ∷ entries_of t)) (bit (not b) + keys_before t i) 0 ≡ get_or t i 0
    go e true = rw zero-add e
    go e false = rw one-add e

-- ---- entries of lists joined, and how many
pub occupied-append : (xs ys : List ℕ) → occupied (xs ++ ys) ≡ occupied xs + occupied ys
occupied-append [] ys = omega arith
occupied-append (x ∷ xs) ys = omega (arith, occupied-append xs ys)

pub occupied-le : (xs : List ℕ) → occupied xs ≤ length xs
occupied-le [] = omega arith
occupied-le (x ∷ xs) = omega (arith, taken-le x, occupied-le xs)

pub entries-append : (xs ys : List ℕ) → entries_of (xs ++ ys) ≡ entries_of xs ++ entries_of ys
entries-append [] ys = refl
entries-append (x ∷ xs) ys = go (entries-append xs ys) (eqb (label x) 0)
  where
    go : entries_of (xs ++ ys) ≡ entries_of xs ++ entries_of ys → (b : Bool) → cond b (entries_of (xs ++ ys)) (x ∷ entries_of (xs ++ ys)) ≡ cond b (entries_of xs) (x ∷ entries_of xs) ++ entries_of ys
    go e true = e
    go e false = ap (λ (l : List ℕ). x ∷ l) e

pub length-entries : (xs : List ℕ) → length (entries_of xs) ≡ occupied xs
length-entries [] = refl
length-entries (x ∷ xs) = go (length-entries xs) (eqb (label x) 0)
  where
    go : length (entries_of xs) ≡ occupied xs → (b : Bool) → length (cond b (entries_of xs) (x ∷ entries_of xs)) ≡ cond b 0 1 + occupied xs
    go e true = omega arith
    go e false = omega arith
