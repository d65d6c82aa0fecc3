-- What stands in a list of entries: place by place, with the least prices, and in the layout.
use mathlib.Core.Path.{◌≡◌, refl, sym, ap, ◌∙◌}
use mathlib.Core.Logic.{◌≢◌, ◌↔◌, ⊎_map}
use mathlib.Core.List.{List, ◌++◌}
use Prim.Native.Nat.{ℕ, suc, ◌≤◌, ◌<◌}
use native.Mathlib.Omega.{arith}
use lib.Dec.{T}
use lib.ListN.{length, get_or}
use borrow.Author.Tests.{le-leb}
use Rattle.layout.specs.Layout.{In, size, without}
use Rattle.layout.proofs.Canonical.{sound-size}
use Rattle.layout.proofs.Sets.{holds-in, in-holds, in-append, in_without, subset-size}
use Rattle.prices.specs.Contents.{label, price_ok, SoundTable}
use Rattle.prices.specs.Priced.{labels, Least, SameLeast, priced_layout, without_labels}
use Rattle.prices.proofs.Labels.{labels-without}
use Rattle.prices.proofs.Theorem.{theorem as layouts, sized}

pub price-ok : (p : ℕ) → 1 ≤ p → p ≤ 9999999 → T (price_ok p)
price-ok p low high = rw (le-leb 1 p low, le-leb p 9999999 high) tt

-- ---- place by place
pub somewhere : (xs : List ℕ) (y : ℕ) → y ≢ 0 → In y xs ↔ ((i : ℕ) × (get_or xs i 0 ≡ y))
somewhere xs y nz = (
  λ i. let h = in-holds (length xs) xs y refl i in (h.cell, h.is),
  λ (i, is). holds-in (suc i) xs y nz (record { cell = i; inside = omega arith; is = is }),
)

-- two lists that are alike in every place, the shorter one filled up with 0, have the same entries
pub same_entries : (xs ys : List ℕ) → ((i : ℕ) → get_or xs i 0 ≡ get_or ys i 0) → (y : ℕ) → y ≢ 0 → In y xs ↔ In y ys
same_entries xs ys same y nz = (
  λ i. let (j, is) = (somewhere xs y nz).0 i in (somewhere ys y nz).1 (j, sym (same j) ∙ is),
  λ i. let (j, is) = (somewhere ys y nz).0 i in (somewhere xs y nz).1 (j, same j ∙ is),
)

-- also behind a table
pub same-behind : (t xs ys : List ℕ) → ((i : ℕ) → get_or xs i 0 ≡ get_or ys i 0) → (y : ℕ) → y ≢ 0 → In y (t ++ xs) ↔ In y (t ++ ys)
same-behind t xs ys same y nz =
    let c = same_entries xs ys same y nz in (
      λ i. (in-append t ys y).1 (⊎_map (λ j. j) c.0 ((in-append t xs y).0 i)),
      λ i. (in-append t xs y).1 (⊎_map (λ j. j) c.1 ((in-append t ys y).0 i)),
    )

-- and the same least prices
pub same-least : (xs ys : List ℕ) → ((y : ℕ) → y ≢ 0 → In y xs ↔ In y ys) → SameLeast label xs ys
same-least xs ys same y nz = (
  λ h. record { member = (same y (some y nz)).0 h.member; most = λ x i e. h.most x ((same x (some x (λ z. nz (sym e ∙ z)))).1 i) e },
  λ h. record { member = (same y (some y nz)).1 h.member; most = λ x i e. h.most x ((same x (some x (λ z. nz (sym e ∙ z)))).0 i) e },
)
  where
    some : (x : ℕ) → label x ≢ 0 → x ≢ 0
    some x ne z = ne (ap label z)

-- ---- in the layout
module _ (n : ℕ) (home : ℕ → ℕ) (hb : (x : ℕ) → home x < n) where
  -- the layout has each key at its least price, and nothing else
  pub standing : (xs t : List ℕ) → size (labels label xs) < n → t ≡ priced_layout n label home xs → (y : ℕ) → label y ≢ 0 → In y t ↔ Least label xs y
  standing xs t few is y nz =
      let l = layouts n label home refl hb in
      let u : List ℕ = priced_layout n label home xs in
      rw is (
        λ i. (l.contents xs few y nz).0 (in-holds n u y (sized n label home refl hb u (l.sound xs few)) i),
        λ h. holds-in n u y (λ z. nz (ap label z)) ((l.contents xs few y nz).1 h),
      )

  -- without some keys, those of a sound table stay fewer than the cells
  pub fewer : (xs t : List ℕ) → SoundTable n home t → size (labels label (without_labels label xs t)) < n
  fewer xs t sound = rw (labels-without label xs t) (omega (
    arith,
    subset-size (without (labels label xs) (labels label t)) (labels label t) (λ y _ i. ((in_without (labels label xs) (labels label t) y).0 i).0),
    sound-size n home hb (labels label t) sound.paths,
  ))
