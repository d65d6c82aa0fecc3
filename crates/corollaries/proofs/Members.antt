-- Tests on numbers, lists of contents and look-ups that compute, and what they say where they pass.
use mathlib.Core.Path.{◌≡◌, refl, sym, ap, ◌∙◌, subst}
use mathlib.Core.Logic.{◌≢◌, ◌↔◌, ⊎_elim}
use mathlib.Core.Bool.{Bool, true, not, ◌&&◌, ◌||◌}
use mathlib.Core.List.{List, [], ◌∷◌}
use Prim.Native.Nat.{ℕ, zero, suc, ◌<◌}
use native.Mathlib.Omega.{arith}
use borrow.Author.Tests.{eq-eqb}
use lib.Dec.{T, eqb, eqb→eq, T_not}
use lib.ListN.{length}
use Rattle.layout.specs.Layout.{In, listed}
use Rattle.layout.proofs.Sets.{by-listed}
use Rattle.ring.proofs.Each.{and_left, and_right, by-or}
use Rattle.prices.specs.Contents.{label}
use Rattle.prices.specs.Priced.{labels, least, Least, SameLeast}
use Rattle.prices.proofs.Labels.{in-labels}
use Rattle.prices.proofs.Least.{least-is, least-one, same-label}
use Rattle.rule.specs.Events.{Said}
use Rattle.phases.specs.Promise.{Sold, Right, SameOrders}
use Rattle.corollaries.specs.Corollaries.{saying_at}

pub apart : (x y : ℕ) → T (not (eqb x y)) → x ≢ y
apart x y h e = T_not (eqb x y) h (subst T (sym (eq-eqb x y e)) tt)

-- ---- a number is in a list, or not
pub is-in : (x : ℕ) (ys : List ℕ) → T (listed x ys) → In x ys
is-in x ys h = by-listed x ys (λ i _. i) (λ _ e. absurd (subst T e h))

pub not_in : (x : ℕ) (ys : List ℕ) → T (not (listed x ys)) → In x ys → ⊥
not_in x ys h i = by-listed x ys (λ _ e. T_not (listed x ys) h (subst T (sym e) tt)) (λ out _. out i)

-- ---- one list's numbers are all in another
unfoldable pub all_in : List ℕ → List ℕ → Bool
all_in [] ys = true
all_in (x ∷ xs) ys = listed x ys && all_in xs ys

pub all_in_lem : (xs ys : List ℕ) → T (all_in xs ys) → (v : ℕ) → In v xs → In v ys
unfolding all_in
all_in_lem [] ys h v i = absurd i
all_in_lem (x ∷ xs) ys h v i =
    ⊎_elim (λ e. subst (λ (y : ℕ). In y ys) (sym e) (is-in x ys (and_left (listed x ys) (all_in xs ys) h)))
    (λ j. all_in_lem xs ys (and_right (listed x ys) (all_in xs ys) h) v j) i

-- ---- each label of zs is among those of ys, and has the same least content in xs and ys
abbrev same_label : (xs ys : List ℕ) → ℕ → Bool
same_label xs ys l = listed l (labels label ys) && eqb (least label xs l) (least label ys l)

unfoldable pub least_in : (zs xs ys : List ℕ) → Bool
least_in [] xs ys = true
least_in (z ∷ zs) xs ys = (eqb (label z) 0 || same_label xs ys (label z)) && least_in zs xs ys

least-in : (zs xs ys : List ℕ) → T (least_in zs xs ys) → (v : ℕ) → label v ≢ 0 → In v zs
    → In (label v) (labels label ys) × (least label xs (label v) ≡ least label ys (label v))
unfolding least_in
least-in [] xs ys h v nz i = absurd i
least-in (z ∷ zs) xs ys h v nz i =
    let blank = eqb (label z) 0 in
    let same = same_label xs ys (label z) in
    let one = listed (label z) (labels label ys) in
    let two = eqb (least label xs (label z)) (least label ys (label z)) in
    let Same : ℕ → Type 0 = λ x. In (label x) (labels label ys) × (least label xs (label x) ≡ least label ys (label x)) in
    ⊎_elim
    (λ e. by-or blank same (and_left (blank || same) (least_in zs xs ys) h)
    (λ b. absurd (nz (ap label e ∙ eqb→eq (label z) 0 b)))
    (λ g. subst Same (sym e) (
      is-in (label z) (labels label ys) (and_left one two g),
      eqb→eq (least label xs (label z)) (least label ys (label z)) (and_right one two g),
    )))
    (λ j. least-in zs xs ys (and_right (blank || same) (least_in zs xs ys) h) v nz j) i

-- so each least content of the one list is a least one of the other
same_half : (xs ys : List ℕ) → T (least_in xs xs ys) → (y : ℕ) → label y ≢ 0 → Least label xs y → Least label ys y
same_half xs ys h y nz l =
    let (i, e) = least-in xs xs ys h y nz l.member in
    subst (Least label ys) (sym e ∙ least-one label refl xs y nz l) (least-is label refl ys (label y) nz i).0

pub same-prices : (xs ys : List ℕ) → T (least_in xs xs ys) → T (least_in ys ys xs) → SameLeast label xs ys
same-prices xs ys h g y nz = (same_half xs ys h y nz, same_half ys xs g y nz)

-- a content that `least` gives is a least one
pub is-least : (xs : List ℕ) (y : ℕ) → label y ≢ 0 → In y xs → T (eqb (least label xs (label y)) y) → Least label xs y
is-least xs y nz i h =
    subst (Least label xs) (eqb→eq (least label xs (label y)) y h) (least-is label refl xs (label y) nz (in-labels label xs y i)).0

-- so are all of a list where no label is listed at two prices
unfoldable pub own_least : (zs xs : List ℕ) → Bool
own_least [] xs = true
own_least (z ∷ zs) xs = eqb (least label xs (label z)) z && own_least zs xs

pub own-least : (zs xs : List ℕ) → T (own_least zs xs) → (v : ℕ) → In v zs → T (eqb (least label xs (label v)) v)
unfolding own_least
own-least [] xs h v i = absurd i
own-least (z ∷ zs) xs h v i =
    let one = eqb (least label xs (label z)) z in
    ⊎_elim (λ e. subst (λ (x : ℕ). T (eqb (least label xs (label x)) x)) (sym e) (and_left one (own_least zs xs) h))
    (λ j. own-least zs xs (and_right one (own_least zs xs) h) v j) i

-- ---- the same orders: the same labels, and in insert phases the same least prices
pub same_keys : (k : ℕ) → k ≢ 1 → (xs ys : List ℕ) → T (all_in (labels label xs) (labels label ys)) → T (all_in (labels label ys) (labels label xs))
    → SameOrders k label xs ys
same_keys k other xs ys h g = (
  λ l _. (all_in_lem (labels label xs) (labels label ys) h l, all_in_lem (labels label ys) (labels label xs) g l),
  λ e. absurd (other e),
)

pub same-orders : (k : ℕ) (xs ys : List ℕ) → T (least_in xs xs ys) → T (least_in ys ys xs) → SameOrders k label xs ys
same-orders k xs ys h g = (
  λ l nz. (same-label label refl xs ys (same_half xs ys h) l nz, same-label label refl ys xs (same_half ys xs g) l nz),
  λ _. same-prices xs ys h g,
)

-- ---- the i-th answer of finds, where all are right
pub right-at : (t : List ℕ) (said : List Said) → Right label t said → (i : ℕ) → i < length said → (p : ℕ)
    → (T (saying_at said i).found × ((saying_at said i).price ≡ p)) ↔ Sold label t (label (saying_at said i).wanted) p
right-at t [] r i l p = let bad : ⊥ = omega arith in absurd bad
right-at t (a ∷ said) r zero l p = r.1 p
right-at t (a ∷ said) r (suc i) l p = right-at t said r.2 i (omega arith) p
