-- The fields of a line: cut at its first tab, joined again, and how long they are.
use mathlib.Core.Path.{◌≡◌, refl, ◌∙◌}
use mathlib.Core.Bool.{true, false}
use mathlib.Core.List.{List, [], ◌∷◌, ◌++◌}
use Prim.Native.Nat.{ℕ, suc, ◌+◌, ◌≤◌, ◌<◌}
use native.Mathlib.Omega.{arith}
use borrow.Author.Tests.{eqb-true}
use lib.Dec.{eqb}
use lib.ListN.{length, take, drop}
use lib.Seq.{take-length, take-take}
use Rattle.text.specs.Bytes.{byte_at}
use Rattle.text.specs.Fields.{in_front, fields_of, first_field, joined}
use Rattle.text.specs.Promise.{Tabless}
use Rattle.text.proofs.Test.{by-test}
use Rattle.text.proofs.Bytes.{byte-here, byte-later, by_byte, byte-take}

-- ---- cut
-- without a tab the line is its only field
pub only-field : (s : List ℕ) → byte_at 9 s ≡ length s → fields_of s ≡ s ∷ []
unfolding fields_of
only-field [] h = refl
only-field (b ∷ s) h = by-test (eqb b 9)
    (λ e. absurd (omega (arith, byte-here 9 b s e)))
    (λ e. let t : byte_at 9 s ≡ length s = omega (arith, byte-later 9 b s e) in rw (e, only-field s t))

pub first-whole : (s : List ℕ) → byte_at 9 s ≡ length s → first_field s ≡ s
first-whole s h = rw (h, take-length s)

-- with a tab the first field ends before it, and the others are the fields behind it
pub fields-cut : (s : List ℕ) → byte_at 9 s < length s → fields_of s ≡ first_field s ∷ fields_of (drop (suc (byte_at 9 s)) s)
unfolding fields_of
fields-cut [] h = absurd (omega arith)
fields-cut (b ∷ s) h = by-test (eqb b 9)
    (λ e. rw (byte-here 9 b s e, e))
    (λ e. let t : byte_at 9 s < length s = omega (arith, byte-later 9 b s e) in rw (byte-later 9 b s e, e, fields-cut s t))

-- the first field is what stands before the first tab
pub first_field_lem : (l : List ℕ) → (fs : List (List ℕ)) × (fields_of l ≡ first_field l ∷ fs)
first_field_lem l = by_byte 9 l
    (λ h. (fields_of (drop (suc (byte_at 9 l)) l), fields-cut l h))
    (λ h. ([], only-field l h ∙ rw (first-whole l h)))

-- a tab in front ends it, another byte begins it
pub first-here : (b : ℕ) (l : List ℕ) → eqb b 9 ≡ true → first_field (b ∷ l) ≡ []
first-here b l e = rw (byte-here 9 b l e)

pub first-later : (b : ℕ) (l : List ℕ) → eqb b 9 ≡ false → first_field (b ∷ l) ≡ b ∷ first_field l
first-later b l e = rw (byte-later 9 b l e)

-- of a line's front and the line, where the front holds the first tab
pub first-front : (n : ℕ) (l : List ℕ) → byte_at 9 l ≤ n → first_field (take n l) ≡ first_field l
first-front n l h =
    let t : byte_at 9 (take n l) ≡ byte_at 9 l = omega (arith, byte-take 9 n l) in
    rw (t, take-take (byte_at 9 l) n l h)

-- ---- joined
joined-front : (b : ℕ) (fs : List (List ℕ)) → joined (in_front b fs) ≡ b ∷ joined fs
joined-front b [] = refl
joined-front b (f ∷ []) = refl
joined-front b (f ∷ g ∷ fs) = refl

joined-tab : (f l : List ℕ) → joined (f ∷ fields_of l) ≡ f ++ 9 ∷ joined (fields_of l)
joined-tab f l = rw (first_field_lem l).1

-- the fields of a line are the line, cut at its tabs
pub joined-fields : (l : List ℕ) → joined (fields_of l) ≡ l
unfolding fields_of
joined-fields [] = refl
joined-fields (b ∷ l) = by-test (eqb b 9)
    (λ e. rw (e, joined-tab [] l, joined-fields l, eqb-true b 9 e))
    (λ e. rw (e, joined-front, joined-fields l))

-- a field without a tab is cut off at the tab behind it
tab-behind : (f l : List ℕ) → byte_at 9 f ≡ length f → fields_of (f ++ 9 ∷ l) ≡ f ∷ fields_of l
unfolding fields_of
tab-behind [] l h = refl
tab-behind (b ∷ f) l h = by-test (eqb b 9)
    (λ e. absurd (omega (arith, byte-here 9 b f e)))
    (λ e. rw (e, tab-behind f l (omega (arith, byte-later 9 b f e))))

-- fields without tabs, joined, are cut back into themselves
pub fields-joined : (f : List ℕ) (fs : List (List ℕ)) → Tabless (f ∷ fs) → fields_of (joined (f ∷ fs)) ≡ f ∷ fs
unfolding Tabless
fields-joined f [] h = only-field f h.0
fields-joined f (g ∷ fs) h = tab-behind f (joined (g ∷ fs)) h.0 ∙ rw (fields-joined g fs h.1)

-- ---- how long
-- the bytes of the fields and one more for each
unfoldable pub width : List (List ℕ) → ℕ
width [] = 0
width (f ∷ fs) = length f + 1 + width fs

width-front : (b : ℕ) (fs : List (List ℕ)) → 0 < width fs → width (in_front b fs) ≡ width fs + 1
unfolding width
width-front b [] h = absurd (omega arith)
width-front b (f ∷ fs) h = omega arith

pub width-fields : (l : List ℕ) → width (fields_of l) ≡ length l + 1
unfolding width fields_of
width-fields [] = refl
width-fields (b ∷ l) = by-test (eqb b 9)
    (λ e. rw e (omega (arith, width-fields l)))
    (λ e. rw e (omega (arith, width-fields l, width-front b (fields_of l) (omega (arith, width-fields l)))))
