-- What is promised of sound tables of contents and of their layout, for every home rule and rule for labels. Proved in proofs/Theorem.
use Rattle.std.specs.Prelude.{◌≡◌, ◌≢◌, ◌↔◌, ◌⊎◌, List, ℕ, ◌≤◌, ◌<◌, T, get_or}
use Rattle.layout.specs.Layout.{In, size}
use Rattle.layout.specs.Sound.{Holds}
use Rattle.prices.specs.Contents.{label, price, content, price_ok, cell_ok, SoundTable}
use Rattle.prices.specs.Priced.{labels, Least, SameLeast, PricedSound, priced_layout, without_labels}

pub record PricedLayouts (n : ℕ) (key home : ℕ → ℕ) : Type 0 where
  -- in a sound table no label stands twice
  pub once : (t : List ℕ) → PricedSound n key home t → (i j : ℕ) → i < n → j < n → key (get_or t i 0) ≢ 0 → key (get_or t i 0) ≡ key (get_or t j 0) → i ≡ j
  -- the layout of contents with fewer labels than cells is sound, and has each of their labels with its least price and nothing else
  pub sound : (xs : List ℕ) → size (labels key xs) < n → PricedSound n key home (priced_layout n key home xs)
  pub contents : (xs : List ℕ) → size (labels key xs) < n → (y : ℕ) → key y ≢ 0 → Holds n (priced_layout n key home xs) y ↔ Least key xs y
  -- any sound table with those contents is that layout, cell for cell
  pub unique : (xs t : List ℕ) → PricedSound n key home t → ((y : ℕ) → key y ≢ 0 → Holds n t y ↔ Least key xs y) → t ≡ priced_layout n key home xs
  -- it goes by the set of labels and the least price of each alone
  pub set_only : (xs ys : List ℕ) → SameLeast key xs ys → priced_layout n key home xs ≡ priced_layout n key home ys
  -- a sound table is the layout of its own contents
  pub own : (t : List ℕ) → PricedSound n key home t → t ≡ priced_layout n key home t
  -- the contents without the labels of others are those whose labels the others lack, whatever the prices
  pub others : (ds xs : List ℕ) (y : ℕ) → In y (without_labels key ds xs) ↔ (In y xs × (In (key y) (labels key ds) → ⊥))

abbrev pub PricedPromise : Type 0
PricedPromise = (n : ℕ) (key home : ℕ → ℕ) → key 0 ≡ 0 → ((x : ℕ) → home x < n) → PricedLayouts n key home

-- ---- the contents of cells
pub record ContentsPromise : Type 0 where
  -- a label and a price make a content, and every content is made so; one of them written out
  pub written : content 3 7 ≡ 12884901895
  pub made : (l p : ℕ) → p < 4294967296 → (label (content l p) ≡ l) × (price (content l p) ≡ p)
  pub own : (c : ℕ) → content (label c) (price c) ≡ c
  -- of two contents of one label the lesser has the lower price
  pub cheaper : (c d : ℕ) → label c ≡ label d → (c ≤ d) ↔ (price c ≤ price d)
  -- a right price is from 1 to 9,999,999; a right cell is 0, or holds a label with such a price
  pub prices : (p : ℕ) → T (price_ok p) ↔ ((1 ≤ p) × (p ≤ 9999999))
  pub cells : (c : ℕ) → T (cell_ok c) ↔ ((c ≡ 0) ⊎ ((label c ≢ 0) × (1 ≤ price c) × (price c ≤ 9999999)))
  -- a sound table has a cell that is 0, and no label stands twice
  pub gap : (n : ℕ) (home : ℕ → ℕ) (t : List ℕ) → SoundTable n home t → Holds n t 0
  pub once : (n : ℕ) (home : ℕ → ℕ) → ((x : ℕ) → home x < n) → (t : List ℕ) → SoundTable n home t
      → (i j : ℕ) → i < n → j < n → label (get_or t i 0) ≢ 0 → label (get_or t i 0) ≡ label (get_or t j 0) → i ≡ j
  -- all that is promised of sound tables is promised of them
  pub priced : (n : ℕ) (home : ℕ → ℕ) (t : List ℕ) → SoundTable n home t → PricedSound n label home t
  -- the layout of contents with right prices is sound
  pub laid : (n : ℕ) (home : ℕ → ℕ) → ((x : ℕ) → home x < n) → (xs : List ℕ) → size (labels label xs) < n
      → ((x : ℕ) → In x xs → label x ≢ 0 → T (price_ok (price x))) → SoundTable n home (priced_layout n label home xs)
