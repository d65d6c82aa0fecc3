-- A key marked and counted, and lists of keys one after the other.
use mathlib.Core.Path.{◌≡◌, refl, sym, ap, ◌∙◌}
use mathlib.Core.Logic.{◌≢◌}
use mathlib.Core.List.{List, [], ◌∷◌, ◌++◌}
use Prim.Native.Nat.{ℕ, ◌+◌, ◌*◌, ◌≤◌, ◌<◌}
use lib.ListN.{length, get_or, set, drop, drop_of_length-le}
use lib.Seq.{drop-cons}
use native.Mathlib.Numerals.{add-one}
use borrow.Author.Tests.{le-leb, lt-leb, eq-eqb, ne_eqb}
use Rattle.prices.specs.Contents.{label}
use Rattle.prices.specs.Priced.{labels}
use Rattle.distinct.specs.Trie.{link_of, counted, marked, total, all_marked}

module _ (t : List ℕ) (c limit y : ℕ) where
  abbrev Unmoved : Type 0
  Unmoved = (c ≡ counted t c limit y) × (t ≡ marked t c limit y)

  pub mark-full : limit ≤ c → Unmoved
  unfolding counted marked
  mark-full l = (rw (le-leb limit c l) refl, rw (le-leb limit c l) refl)

  pub mark-zero : c < limit → y ≡ 0 → Unmoved
  unfolding counted marked
  mark-zero l z = (rw (lt-leb limit c l, eq-eqb y 0 z) refl, rw (lt-leb limit c l, eq-eqb y 0 z) refl)

  pub mark-old : (at : ℕ) → c < limit → y ≢ 0 → at ≡ link_of t y → get_or t at 0 ≢ 0 → Unmoved
  unfolding counted marked
  mark-old at l nz e h =
      (rw (lt-leb limit c l, ne_eqb y 0 nz, ← e, ne_eqb (get_or t at 0) 0 h) refl, rw (lt-leb limit c l, ne_eqb y 0 nz, ← e, ne_eqb (get_or t at 0) 0 h) refl)

  pub mark-new : (at : ℕ) → c < limit → y ≢ 0 → at ≡ link_of t y → get_or t at 0 ≡ 0
      → (c + 1 ≡ counted t c limit y) × (set (set t (32768 + c) y) at (16384 + 2 * c) ≡ marked t c limit y)
  unfolding counted marked
  mark-new at l nz e h =
      (rw (lt-leb limit c l, ne_eqb y 0 nz, ← e, eq-eqb (get_or t at 0) 0 h) refl, rw (lt-leb limit c l, ne_eqb y 0 nz, ← e, eq-eqb (get_or t at 0) 0 h) refl)

-- what is still to come: a list of keys, whose first is taken
pub next-key : (t t' : List ℕ) (c c' limit y : ℕ) (ys ks : List ℕ) → c' ≡ counted t c limit y → t' ≡ marked t c limit y → ks ≡ y ∷ ys
    → (total t' c' limit ys ≡ total t c limit ks) × (all_marked t' c' limit ys ≡ all_marked t c limit ks)
unfolding total all_marked
next-key t t' c c' limit y ys ks a b e = (rw (a, b, e) refl, rw (a, b, e) refl)

pub no_keys : (t : List ℕ) (c limit : ℕ) (ks : List ℕ) → ks ≡ [] → (total t c limit ks ≡ c) × (all_marked t c limit ks ≡ t)
unfolding total all_marked
no_keys t c limit ks e = (rw e refl, rw e refl)

pub total-append : (t : List ℕ) (c limit : ℕ) (xs ys : List ℕ) → total (all_marked t c limit xs) (total t c limit xs) limit ys ≡ total t c limit (xs ++ ys)
unfolding total all_marked
total-append t c limit [] ys = refl
total-append t c limit (x ∷ xs) ys = total-append (marked t c limit x) (counted t c limit x) limit xs ys

-- what is left of a list from i on
pub keys-left : (l : List ℕ) (i : ℕ) → i < length l → drop i l ≡ get_or l i 0 ∷ drop (i + 1) l
keys-left l i g = drop-cons l i 0 g ∙ ap (λ (j : ℕ). get_or l i 0 ∷ drop j l) (sym (add-one i))

pub labels-left : (l : List ℕ) (i : ℕ) → i < length l → labels label (drop i l) ≡ label (get_or l i 0) ∷ labels label (drop (i + 1) l)
labels-left l i g = ap (labels label) (keys-left l i g)

pub no-labels : (l : List ℕ) (i : ℕ) → length l ≤ i → labels label (drop i l) ≡ []
no-labels l i g = ap (labels label) (drop_of_length-le l g)
