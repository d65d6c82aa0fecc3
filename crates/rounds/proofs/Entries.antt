-- The entries of a table in cell order: which they are, and that no key comes twice among those of a table where none stands twice.
use mathlib.Core.Path.{◌≡◌, refl, sym, ap, ◌∙◌}
use mathlib.Core.Logic.{◌≢◌, ◌↔◌, inl, inr, ⊎_elim}
use mathlib.Core.List.{List, [], ◌∷◌}
use Prim.Native.Nat.{ℕ, zero, suc, ◌<◌}
use native.Mathlib.Omega.{arith}
use lib.ListN.{length, get_or}
use borrow.Author.Tests.{eq-eqb, ne_eqb}
use Rattle.ring.proofs.Split.{by-eq}
use Rattle.layout.specs.Layout.{In}
use Rattle.layout.proofs.Sets.{cell_in, in-holds}
use Rattle.prices.specs.Contents.{label}
use Rattle.words.specs.Words.{entries_of}

pub in-entries : (t : List ℕ) (y : ℕ) → In y (entries_of t) ↔ ((label y ≢ 0) × In y t)
in-entries [] y = (λ i. absurd i, λ h. h.1)
in-entries (x ∷ t) y =
    let r = in-entries t y in
    by-eq (label x) 0
    (λ z. rw (eq-eqb (label x) 0 z)
    (λ i. let h = r.0 i in (h.0, inr h.1), λ h. r.1 (h.0, ⊎_elim (λ (e : y ≡ x). absurd (h.0 (ap label e ∙ z))) (λ i. i) h.1)))
    (λ nz. rw (ne_eqb (label x) 0 nz) (
      ⊎_elim (λ (e : y ≡ x). (λ z. nz (ap label (sym e) ∙ z), inl e)) (λ i. let h = r.0 i in (h.0, inr h.1)),
      λ h. ⊎_elim inl (λ i. inr (r.1 (h.0, i))) h.1,
    ))

-- two places of a list never have the same key
abbrev KeyOnce : List ℕ → Type 0
KeyOnce l = (i j : ℕ) → i < length l → j < length l → label (get_or l i 0) ≢ 0 → label (get_or l i 0) ≡ label (get_or l j 0) → i ≡ j

once-behind : (x : ℕ) (t : List ℕ) → KeyOnce (x ∷ t) → KeyOnce t
once-behind x t once i j a b nz e = omega (arith, once (suc i) (suc j) (omega arith) (omega arith) nz e)

-- so the first cell's key is no entry's behind it
first_alone : (x : ℕ) (t : List ℕ) → KeyOnce (x ∷ t) → label x ≢ 0 → (j : ℕ) → j < length (entries_of t) → label x ≡ label (get_or (entries_of t) j 0) → ⊥
first_alone x t once nz j l e =
    let h = in-holds (length t) t (get_or (entries_of t) j 0) refl ((in-entries t (get_or (entries_of t) j 0)).0 (cell_in (entries_of t) j l)).1 in
    omega (arith, once 0 (suc h.cell) (omega arith) (omega (arith, h.inside)) nz (e ∙ ap label (sym h.is)))

abbrev EachOnce : List ℕ → Type 0
EachOnce es = (i j : ℕ) → i < length es → j < length es → label (get_or es i 0) ≡ label (get_or es j 0) → i ≡ j

once-before : (x : ℕ) (es : List ℕ) → EachOnce es → ((j : ℕ) → j < length es → label x ≡ label (get_or es j 0) → ⊥) → EachOnce (x ∷ es)
once-before x es once alone zero zero a b e = refl
once-before x es once alone zero (suc j) a b e = absurd (alone j (omega arith) e)
once-before x es once alone (suc i) zero a b e = absurd (alone i (omega arith) (sym e))
once-before x es once alone (suc i) (suc j) a b e = ap suc (once i j (omega arith) (omega arith) e)

pub entries-once : (t : List ℕ) → KeyOnce t → EachOnce (entries_of t)
entries-once [] once = λ i j a b e. absurd (omega arith)
entries-once (x ∷ t) once =
    let rest = entries-once t (once-behind x t once) in
    by-eq (label x) 0 (λ z. rw (eq-eqb (label x) 0 z) rest) (λ nz. rw (ne_eqb (label x) 0 nz) (once-before x (entries_of t) rest (first_alone x t once nz)))
