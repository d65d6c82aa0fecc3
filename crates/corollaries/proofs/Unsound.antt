-- The kinds of unsound on tables that are written out: which cell decides, and by what.
use mathlib.Core.Path.{refl}
use mathlib.Core.Logic.{◌≢◌, inl}
use mathlib.Core.List.{List, [], ◌∷◌}
use Prim.Native.Nat.{ℕ, zero, suc, ◌≤◌, ◌<◌}
use native.Mathlib.Omega.{arith}
use lib.ListN.{get_or}
use Rattle.ring.specs.Ring.{wrap, probe, dist}
use Rattle.layout.specs.Sound.{look}
use Rattle.homes.specs.Homes.{plain, spread}
use Rattle.prices.specs.Contents.{label, price, content}
use Rattle.flaws.specs.Promise.{Intact, Damaged, Breaks, Gapped, Disordered}
use Rattle.rule.specs.Schedules.{ones}
use Rattle.examples.specs.Repairs.{gapped, disordered, full}
use Rattle.corollaries.proofs.Members.{apart}

-- ---- the cells by themselves
pub disordered-intact : Intact disordered
disordered-intact = record { empty = record { cell = 0; inside = omega arith; is = refl }; cells = cells }
  where
    cells : (j : ℕ) → j < 5 → get_or disordered j 0 ≢ 0
        → (label (get_or disordered j 0) ≢ 0) × (1 ≤ price (get_or disordered j 0)) × (price (get_or disordered j 0) ≤ 9999999)
    cells zero l nz = absurd (nz refl)
    cells (suc zero) l nz = absurd (nz refl)
    cells (suc (suc zero)) l nz = absurd (nz refl)
    cells (suc (suc (suc zero))) l nz = (apart 8 0 tt, omega arith, omega arith)
    cells (suc (suc (suc (suc zero)))) l nz = (apart 13 0 tt, omega arith, omega arith)
    cells (suc (suc (suc (suc (suc j))))) l nz = let bad : ⊥ = omega arith in absurd bad

pub gapped-intact : Intact gapped
gapped-intact = record { empty = record { cell = 1; inside = omega arith; is = refl }; cells = cells }
  where
    cells : (j : ℕ) → j < 5 → get_or gapped j 0 ≢ 0
        → (label (get_or gapped j 0) ≢ 0) × (1 ≤ price (get_or gapped j 0)) × (price (get_or gapped j 0) ≤ 9999999)
    cells zero l nz = (apart 6 0 tt, omega arith, omega arith)
    cells (suc zero) l nz = absurd (nz refl)
    cells (suc (suc zero)) l nz = absurd (nz refl)
    cells (suc (suc (suc zero))) l nz = absurd (nz refl)
    cells (suc (suc (suc (suc zero)))) l nz = absurd (nz refl)
    cells (suc (suc (suc (suc (suc j))))) l nz = let bad : ⊥ = omega arith in absurd bad

full-filled : (j : ℕ) → j < 5 → get_or full j 0 ≢ 0
full-filled zero l z = omega arith
full-filled (suc zero) l z = omega arith
full-filled (suc (suc zero)) l z = omega arith
full-filled (suc (suc (suc zero))) l z = omega arith
full-filled (suc (suc (suc (suc zero)))) l z = omega arith
full-filled (suc (suc (suc (suc (suc j))))) l z = omega arith

pub full_damaged : Damaged full
full_damaged = inl full-filled

pub not_full : Intact full → ⊥
not_full w = full-filled w.empty.cell w.empty.inside w.empty.is

-- ---- labels that break the order, in five cells
abbrev Broken : List ℕ → ℕ → ℕ → Type 0
Broken t j s = Breaks 5 (spread plain 5) t j s

-- what the label of cell j meets s steps on from its home
abbrev meeting : List ℕ → ℕ → ℕ → ℕ
meeting t j s = look 5 (spread plain 5) t (get_or t j 0) s

module _ (t : List ℕ) (j : ℕ) (inside : j < 5) (key : get_or t j 0 ≢ 0) where
  at_once : 0 < dist 5 (spread plain 5 (get_or t j 0)) j → meeting t j 0 ≤ get_or t j 0 → Broken t j 0
  at_once l le = record { inside = inside; key = key; before = l; greater = λ k z. absurd (none k z); not_greater = le }
    where
      none : (k : ℕ) → k < 0 → ⊥
      none k z = omega arith

  behind-one : 1 < dist 5 (spread plain 5 (get_or t j 0)) j → get_or t j 0 < meeting t j 0 → meeting t j 1 ≤ get_or t j 0 → Broken t j 1
  behind-one l gt le = record { inside = inside; key = key; before = l; greater = one; not_greater = le }
    where
      one : (k : ℕ) → k < 1 → get_or t j 0 < meeting t j k
      one zero z = gt
      one (suc k) z = let bad : ⊥ = omega arith in absurd bad

-- 6 in cell 0 meets the empty cell 1
six-breaks : Broken (6 ∷ 0 ∷ 0 ∷ 0 ∷ 0 ∷ []) 0 0
unfolding dist probe wrap
six-breaks = at_once (6 ∷ 0 ∷ 0 ∷ 0 ∷ 0 ∷ []) 0 (omega arith) (apart 6 0 tt) (omega arith) (omega arith)

pub gapped-is : Gapped (spread plain 5) gapped
unfolding probe wrap
gapped-is = record { cell = 0; steps = 0; breaks = six-breaks; lowest = λ i s l b. omega (arith, l); fact = refl }

-- 13 in cell 4 meets 8, which is at home
thirteen-breaks : Broken (0 ∷ 0 ∷ 0 ∷ 8 ∷ 13 ∷ []) 4 0
unfolding dist probe wrap
thirteen-breaks = at_once (0 ∷ 0 ∷ 0 ∷ 8 ∷ 13 ∷ []) 4 (omega arith) (apart 13 0 tt) (omega arith) (omega arith)

eight-home : (i s : ℕ) → i < 4 → Broken (0 ∷ 0 ∷ 0 ∷ 8 ∷ 13 ∷ []) i s → ⊥
unfolding dist
eight-home zero s l b = b.key refl
eight-home (suc zero) s l b = b.key refl
eight-home (suc (suc zero)) s l b = b.key refl
eight-home (suc (suc (suc zero))) s l b = let z : s < 0 = b.before in omega arith
eight-home (suc (suc (suc (suc i)))) s l b = omega (arith, l)

pub disordered-is : Disordered (spread plain 5) disordered
unfolding probe wrap
disordered-is = record { cell = 4; steps = 0; breaks = thirteen-breaks; lowest = eight-home; fact = apart (content 8 1) 0 tt }

-- 8 in cell 0 meets 13, and then the empty cell 4
pub behind-thirteen : Broken (8 ∷ 0 ∷ 0 ∷ 13 ∷ 0 ∷ []) 0 1
unfolding dist probe wrap
behind-thirteen = behind-one (8 ∷ 0 ∷ 0 ∷ 13 ∷ 0 ∷ []) 0 (omega arith) (apart 8 0 tt) (omega arith) (omega arith) (omega arith)

-- 8 in cell 0 meets the empty cell 3, and only then 4
pub empty_first : Broken (8 ∷ 0 ∷ 0 ∷ 0 ∷ 4 ∷ []) 0 0
unfolding dist probe wrap
empty_first = at_once (8 ∷ 0 ∷ 0 ∷ 0 ∷ 4 ∷ []) 0 (omega arith) (apart 8 0 tt) (omega arith) (omega arith)

pub not_nearest : Broken (8 ∷ 0 ∷ 0 ∷ 0 ∷ 4 ∷ []) 0 1 → ⊥
unfolding probe wrap
not_nearest b = let z : 8 < 0 = b.greater 0 (omega arith) in omega arith

pub empty_decides : Gapped (spread plain 5) (ones (8 ∷ 0 ∷ 0 ∷ 0 ∷ 4 ∷ []))
unfolding probe wrap
empty_decides = record { cell = 0; steps = 0; breaks = empty_first; lowest = λ i s l b. omega (arith, l); fact = refl }

-- two labels: 6 in cell 0 meets 0, 13 in cell 4 meets 8
six-first : Broken (6 ∷ 0 ∷ 0 ∷ 8 ∷ 13 ∷ []) 0 0
unfolding dist probe wrap
six-first = at_once (6 ∷ 0 ∷ 0 ∷ 8 ∷ 13 ∷ []) 0 (omega arith) (apart 6 0 tt) (omega arith) (omega arith)

pub lowest_gap : Gapped (spread plain 5) (ones (6 ∷ 0 ∷ 0 ∷ 8 ∷ 13 ∷ []))
unfolding probe wrap
lowest_gap = record { cell = 0; steps = 0; breaks = six-first; lowest = λ i s l b. omega (arith, l); fact = refl }

-- 6 in cell 2 meets 1, which is at home, 3 in cell 4 meets 0
six-second : Broken (0 ∷ 1 ∷ 6 ∷ 0 ∷ 3 ∷ []) 2 0
unfolding dist probe wrap
six-second = at_once (0 ∷ 1 ∷ 6 ∷ 0 ∷ 3 ∷ []) 2 (omega arith) (apart 6 0 tt) (omega arith) (omega arith)

one_home : (i s : ℕ) → i < 2 → Broken (0 ∷ 1 ∷ 6 ∷ 0 ∷ 3 ∷ []) i s → ⊥
unfolding dist
one_home zero s l b = b.key refl
one_home (suc zero) s l b = let z : s < 0 = b.before in omega arith
one_home (suc (suc i)) s l b = omega (arith, l)

pub lowest_disorder : Disordered (spread plain 5) (ones (0 ∷ 1 ∷ 6 ∷ 0 ∷ 3 ∷ []))
unfolding probe wrap
lowest_disorder = record { cell = 2; steps = 0; breaks = six-second; lowest = one_home; fact = apart (content 1 1) 0 tt }

-- 13 is at home, and 8 meets nothing else
pub in_order : (j s : ℕ) → Broken (0 ∷ 0 ∷ 0 ∷ 13 ∷ 8 ∷ []) j s → ⊥
unfolding dist probe wrap
in_order zero s b = b.key refl
in_order (suc zero) s b = b.key refl
in_order (suc (suc zero)) s b = b.key refl
in_order (suc (suc (suc zero))) s b = let z : s < 0 = b.before in omega arith
in_order (suc (suc (suc (suc zero)))) zero b = let z : 13 ≤ 8 = b.not_greater in omega arith
in_order (suc (suc (suc (suc zero)))) (suc s) b = let z : suc s < 1 = b.before in omega arith
in_order (suc (suc (suc (suc (suc j))))) s b = omega (arith, b.inside)
