-- One label more, computed; and that the promise can be had of such a table. Proved in proofs/Examples.
use Rattle.std.specs.Prelude.{◌≡◌, List, [], ◌∷◌, ℕ}
use Rattle.layout.specs.Home.{modulo}
use Rattle.prices.specs.Contents.{label, content, SoundTable}
use Rattle.prices.specs.Priced.{priced_layout, without_labels}
use Rattle.reach.specs.Promise.{OneMore}
use Rattle.reach.specs.Reach.{vacant, next_empty, InReach}

-- how many cells of t are empty, the first one from the home of the label of v on, and the layout with v
abbrev pub adding : (n : ℕ) → (ℕ → ℕ) → List ℕ → ℕ → ℕ × ℕ × List ℕ
adding n home t v = (vacant t, next_empty n (home (label v)) t, priced_layout n label home (v ∷ t))

-- the layout of t without label l, whatever its price
abbrev pub removing : (n : ℕ) → (ℕ → ℕ) → List ℕ → ℕ → List ℕ
removing n home t l = priced_layout n label home (without_labels label (content l 0 ∷ []) t)

-- document 01's table without 8, with prices: 13 at home, 4 at home, 3 went past the end
abbrev pub five : List ℕ
five = content 3 7 ∷ 0 ∷ 0 ∷ content 13 4 ∷ content 4 5 ∷ []

abbrev pub with_eight : List ℕ
with_eight = content 4 5 ∷ content 3 7 ∷ 0 ∷ content 13 4 ∷ content 8 9 ∷ []

pub record Examples : Type 0 where
  -- 8 has the home of 13 and 3: 13 keeps its cell, 4 and 3 move forward, 4 past the end, and cell 1 is filled
  pub across : adding 5 (modulo 5) five (content 8 9) ≡ (2, 1, with_eight)
  pub back : removing 5 (modulo 5) with_eight 8 ≡ five
  -- so all cells but cell 2 are in reach
  pub home_reached : InReach 5 3 five 3
  pub last_reached : InReach 5 3 five 4
  pub past_the_end : InReach 5 3 five 0
  pub end_reached : InReach 5 3 five 1
  pub not_reached : InReach 5 3 five 2 → ⊥
  -- 7 has an empty home and reaches no other cell; the greatest label pushes on all that it meets, the smallest none
  pub at_home : adding 5 (modulo 5) five (content 7 1) ≡ (2, 2, content 3 7 ∷ 0 ∷ content 7 1 ∷ content 13 4 ∷ content 4 5 ∷ [])
  pub home_alone : InReach 5 2 five 3 → ⊥
  pub greatest : adding 5 (modulo 5) five (content 4294967293 1) ≡ (2, 1, content 4 5 ∷ content 3 7 ∷ 0 ∷ content 4294967293 1 ∷ content 13 4 ∷ [])
  pub smallest : adding 5 (modulo 5) (content 5 2 ∷ 0 ∷ 0 ∷ content 13 4 ∷ content 4 5 ∷ []) (content 3 1)
      ≡ (2, 1, content 5 2 ∷ content 3 1 ∷ 0 ∷ content 13 4 ∷ content 4 5 ∷ [])
  -- by another home rule, by which all homes are cell 2
  pub one_home : adding 4 (λ _. 2) (0 ∷ 0 ∷ content 9 1 ∷ content 5 3 ∷ []) (content 7 2) ≡ (2, 0, content 5 3 ∷ 0 ∷ content 9 1 ∷ content 7 2 ∷ [])
  -- a table that the promise is kept of
  pub sound : SoundTable 5 (modulo 5) five
  pub promised : OneMore 5 label (modulo 5) five (content 8 9)
