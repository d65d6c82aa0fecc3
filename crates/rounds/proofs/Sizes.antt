-- How many keys two sets without a common key have together, and the labels of entries that are all among others.
use mathlib.Core.Path.{◌≡◌, refl, sym, ap, ◌∙◌}
use mathlib.Core.Logic.{◌≢◌, inl, inr, ⊎_elim}
use mathlib.Core.List.{List, [], ◌∷◌, ◌++◌}
use Prim.Native.Nat.{ℕ, zero, suc, ◌+◌, ◌≤◌}
use native.Mathlib.Omega.{arith}
use lib.ListN.{length}
use Rattle.layout.specs.Layout.{In, into, descending, size}
use Rattle.layout.specs.Promise.{SameKeys}
use Rattle.layout.proofs.Once.{size-new}
use Rattle.layout.proofs.Sets.{top, Falls, in-falls, by-into, descending-falls, in-descending, same-descending, subset-size, by_in, in-append}
use Rattle.prices.specs.Contents.{label}
use Rattle.prices.specs.Priced.{labels}
use Rattle.prices.proofs.Labels.{in-labels, labels_in}

-- a key put into a falling list that has it leaves its length
into-old : (b x : ℕ) (xs : List ℕ) → Falls b xs → In x xs → length (into x xs) ≡ length xs
into-old b x [] f i = absurd i
into-old b x (y ∷ ys) (l, nz, f) i = by-into (λ l. length l ≡ suc (length ys)) x y ys
    (λ g. absurd (⊎_elim (λ (e : x ≡ y). omega arith) (λ j. let z = in-falls y ys x f j in omega arith) i))
    (λ _. refl)
    (λ g. ap suc (into-old y x ys f (⊎_elim (λ (e : x ≡ y). absurd (omega arith)) (λ j. j) i)))

-- a key before a list is not counted if the list has it
size-old : (x : ℕ) (xs : List ℕ) → In (suc x) xs → size (suc x ∷ xs) ≡ size xs
unfolding descending
size-old x xs i = into-old (suc (top xs)) (suc x) (descending xs) (descending-falls xs) ((in-descending xs (suc x)).1 (λ z. omega arith, i))

size-zero : (xs : List ℕ) → size (0 ∷ xs) ≡ size xs
unfolding descending
size-zero xs = refl

size_none : size [] ≡ 0
unfolding descending
size_none = refl

pub size-apart : (xs ys : List ℕ) → ((y : ℕ) → y ≢ 0 → In y xs → In y ys → ⊥) → size (xs ++ ys) ≡ size xs + size ys
size-apart [] ys apart = omega (arith, size_none)
size-apart (zero ∷ xs) ys apart = omega (arith, size-zero xs, size-zero (xs ++ ys), size-apart xs ys (λ y nz i. apart y nz (inr i)))
size-apart (suc x ∷ xs) ys apart =
    let r = size-apart xs ys (λ y nz i. apart y nz (inr i)) in
    by_in (suc x) xs
    (λ i. omega (arith, r, size-old x xs i, size-old x (xs ++ ys) ((in-append xs ys (suc x)).1 (inl i))))
    (λ out. omega (
      arith,
      r,
      size-new (suc x) xs (λ z. omega arith) out,
      size-new (suc x) (xs ++ ys) (λ z. omega arith) (λ i. ⊎_elim out (apart (suc x) (λ z. omega arith) (inl refl)) ((in-append xs ys (suc x)).0 i)),
    ))

pub size_same : (xs ys : List ℕ) → SameKeys xs ys → size xs ≡ size ys
size_same xs ys same = ap length (same-descending xs ys same)

-- ---- the labels of entries that, where they have a label, are all among others
pub labels-among : (xs ys : List ℕ) → ((y : ℕ) → label y ≢ 0 → In y xs → In y ys) → (l : ℕ) → l ≢ 0 → In l (labels label xs) → In l (labels label ys)
labels-among xs ys among l nz i =
    let o = labels_in label xs l i in rw o.is at (in-labels label ys o.content (among o.content (λ z. nz (sym o.is ∙ z)) o.member))

pub labels-fewer : (xs ys : List ℕ) → ((y : ℕ) → label y ≢ 0 → In y xs → In y ys) → size (labels label xs) ≤ size (labels label ys)
labels-fewer xs ys among = subset-size (labels label xs) (labels label ys) (labels-among xs ys among)
