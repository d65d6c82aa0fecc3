-- What is promised of a table before and after one entry more, for every home rule and rule for labels. Proved in proofs/Theorem.
use Rattle.std.specs.Prelude.{◌≡◌, ◌≢◌, ◌↔◌, List, [], ◌∷◌, ℕ, ◌+◌, ◌≤◌, ◌<◌, T, get_or}
use Rattle.ring.specs.Ring.{dist}
use Rattle.layout.specs.Layout.{In, size}
use Rattle.prices.specs.Contents.{label, content, price_ok, SoundTable}
use Rattle.prices.specs.Priced.{labels, PricedSound, priced_layout, without_labels}
use Rattle.reach.specs.Reach.{vacant, next_empty, InReach}

-- e is the first empty cell of t from cell h on
pub record FirstEmpty (n h : ℕ) (t : List ℕ) (e : ℕ) : Type 0 where
  pub inside : e < n
  pub empty : get_or t e 0 ≡ 0
  pub before : (c : ℕ) → c < n → dist n h c < dist n h e → get_or t c 0 ≢ 0

-- u has the entry y in a cell that is in reach from h and at least d steps on
pub record Onward (n h : ℕ) (t u : List ℕ) (d y : ℕ) : Type 0 where
  pub cell : ℕ
  pub inside : cell < n
  pub is : get_or u cell 0 ≡ y
  pub forward : d ≤ dist n h cell
  pub reached : InReach n h t cell

-- ---- t is a table without the label of v, and u is that table with v
module _ (n : ℕ) (key home : ℕ → ℕ) (t : List ℕ) (v : ℕ) (u : List ℕ) where
  abbrev h : ℕ
  h = home (key v)

  pub record Reaches : Type 0 where
    -- from the home of the label there is an empty cell, and it is the first
    pub first : FirstEmpty n h t (next_empty n h t)
    -- a cell is in reach exactly if none is empty from the home up to, not including, that cell
    pub reached : (c : ℕ) → c < n → InReach n h t c ↔ ((d : ℕ) → d < n → dist n h d < dist n h c → get_or t d 0 ≢ 0)
    -- outside the cells from there to it, that one included, the tables are equal, prices included
    pub outside : (c : ℕ) → c < n → (InReach n h t c → ⊥) → get_or u c 0 ≡ get_or t c 0
    -- inside, a label keeps its cell or moves forward, never past the first empty cell, and keeps its price
    pub inside : (c : ℕ) → c < n → InReach n h t c → key (get_or t c 0) ≢ 0 → Onward n h t u (dist n h c) (get_or t c 0)
    -- the new label comes to stand there too
    pub stands : Onward n h t u 0 v
    -- and the cell that was empty has a label now: no shorter reach would do
    pub filled : key (get_or u (next_empty n h t) 0) ≢ 0
    -- seen from its own home no label comes nearer, inside or outside
    pub farther : (c d : ℕ) → c < n → d < n → key (get_or t c 0) ≢ 0 → key (get_or t c 0) ≡ key (get_or u d 0)
        → dist n (home (key (get_or t c 0))) c ≤ dist n (home (key (get_or t c 0))) d

-- ---- the layouts without and with the entry v
pub record OneMore (n : ℕ) (key home : ℕ → ℕ) (t : List ℕ) (v : ℕ) : Type 0 where
  -- the layout without it is the table itself, and the one with it is sound
  pub own : priced_layout n key home t ≡ t
  pub sound : PricedSound n key home (priced_layout n key home (v ∷ t))
  pub reaches : Reaches n key home (priced_layout n key home t) v (priced_layout n key home (v ∷ t))
  -- taking the label out again restores the table
  pub restored : priced_layout n key home (without_labels key (v ∷ []) (priced_layout n key home (v ∷ t))) ≡ t

-- v is an entry of a label that t lacks
pub record New (key : ℕ → ℕ) (t : List ℕ) (v : ℕ) : Type 0 where
  pub some : key v ≢ 0
  pub lacks : In (key v) (labels key t) → ⊥

-- for a sound table with at least two empty cells
abbrev pub ReachPromise : Type 0
ReachPromise = (n : ℕ) (key home : ℕ → ℕ) → key 0 ≡ 0 → ((x : ℕ) → home x < n) → (t : List ℕ) → PricedSound n key home t → 2 ≤ vacant t
    → (v : ℕ) → New key t v → OneMore n key home t v

-- ---- empty cells and labels of a sound table are as many as its cells; so at least two cells are empty exactly if there is room for one label more: with it
-- the labels are still fewer than the cells
pub record Room (n : ℕ) (key : ℕ → ℕ) (t : List ℕ) : Type 0 where
  pub counts : vacant t + size (labels key t) ≡ n
  pub more : (v : ℕ) → New key t v → (2 ≤ vacant t) ↔ (size (labels key (v ∷ t)) < n)

abbrev pub RoomPromise : Type 0
RoomPromise = (n : ℕ) (key home : ℕ → ℕ) → key 0 ≡ 0 → ((x : ℕ) → home x < n) → (t : List ℕ) → PricedSound n key home t → Room n key t

-- ---- of the contents of cells: for any label that the table lacks, at any price that a label can have
abbrev pub TablePromise : Type 0
TablePromise = (n : ℕ) (home : ℕ → ℕ) → ((x : ℕ) → home x < n) → (t : List ℕ) → SoundTable n home t → 2 ≤ vacant t
    → (l p : ℕ) → l ≢ 0 → (In l (labels label t) → ⊥) → T (price_ok p)
    → SoundTable n home (priced_layout n label home (content l p ∷ t)) × OneMore n label home t (content l p)
