-- What is promised of the listing, for every table. Proved in proofs/Theorem.
use Rattle.std.specs.Prelude.{◌≡◌, ◌≢◌, ◌↔◌, Bool, not, List, ℕ, suc, ◌+◌, ◌-◌, ◌*◌, ◌^◌, ◌/◌, ◌%◌, ◌≤◌, ◌<◌, min, eqb, length, get_or, take}
use Rattle.std.specs.Int.Count.{ones}
use Rattle.ring.specs.Counting.{count}
use Rattle.layout.specs.Layout.{In, size}
use Rattle.layout.specs.Sound.{Sound}
use Rattle.prices.specs.Contents.{label}
use Rattle.prices.specs.Priced.{labels}
use Rattle.words.specs.Words.{occupied, entries_of, filled, groups, group, word_of, place_of, count_of, group_listed, groups_listed, stepped, passed}

-- a cell that holds a label
abbrev pub holds_key : ℕ → Bool
holds_key x = not (eqb (label x) 0)

-- how many of the cells before cell i hold a label
abbrev pub keys_before : List ℕ → ℕ → ℕ
keys_before t i = count holds_key (take i t)

-- the front of a list l has the entries of t in cell order from cell 0: each stands there whole, after as many as there are labels in the cells before its own
abbrev pub InCellOrder : List ℕ → List ℕ → Type 0
InCellOrder t l = (i : ℕ) → label (get_or t i 0) ≢ 0 → get_or l (keys_before t i) 0 ≡ get_or t i 0

pub record Listing (t : List ℕ) : Type 0 where
  -- cell b of group g is cell 64 g + b of the table
  pub cells : (g b : ℕ) → b < 64 → get_or (group t g) b 0 ≡ get_or t (64 * g + b) 0
  -- and it has 64 of them, or as many as are left
  pub no_more : (g : ℕ) → length (group t g) ≡ min 64 (length t - 64 * g)
  -- bit b of a group's word is 1 if cell b of the group holds a label, else 0; past the table it is 0 (get_or gives 0 there)
  pub ones : (g b : ℕ) → label (get_or (group t g) b 0) ≢ 0 → (word_of (group t g) / 2 ^ b) % 2 ≡ 1
  pub zeros : (g b : ℕ) → label (get_or (group t g) b 0) ≡ 0 → (word_of (group t g) / 2 ^ b) % 2 ≡ 0
  -- there is a group for each 64 cells, the last for what is left
  pub as_many : (g : ℕ) → g < groups t ↔ (64 * g < length t)
  pub words_fit : (g : ℕ) → word_of (group t g) < 2 ^ 64
  -- as many ones as stand in the words before group g are as many as there are labels in the cells before it
  pub place : (g : ℕ) → place_of t g ≡ keys_before t (64 * g)
  -- the sum of the ones is the number of cells that hold a label, and the length of the list
  pub count : count_of t ≡ occupied t
  pub long : length (entries_of t) ≡ occupied t
  pub keys : occupied t ≡ keys_before t (length t)
  -- where the labels are a sound table it is the number of labels
  pub number : (n : ℕ) (home : ℕ → ℕ) → ((x : ℕ) → home x < n) → Sound n home (labels label t) → count_of t ≡ size (labels label t)
  pub listed : InCellOrder t (entries_of t)
  -- a group listed fills its own places, from its place up to that of the next, and no others
  pub group_fills : (g p : ℕ) (out : List ℕ) → p < length out → place_of t g ≤ p → p < place_of t (suc g) → get_or (group_listed t g out) p 0 ≡ get_or (entries_of t) p 0
  pub group_keeps : (g p : ℕ) (out : List ℕ) → (place_of t g ≤ p → p < place_of t (suc g) → ⊥) → get_or (group_listed t g out) p 0 ≡ get_or out p 0
  -- so do several, one after the other, of which some may come again and some not at all
  pub groups_fill : (gs out : List ℕ) (g p : ℕ) → p < length out → In g gs → place_of t g ≤ p → p < place_of t (suc g)
      → get_or (groups_listed t gs out) p 0 ≡ get_or (entries_of t) p 0
  pub groups_keep : (gs out : List ℕ) (p : ℕ) → ((g : ℕ) → In g gs → place_of t g ≤ p → p < place_of t (suc g) → ⊥)
      → get_or (groups_listed t gs out) p 0 ≡ get_or out p 0
  pub groups_long : (gs out : List ℕ) → length (groups_listed t gs out) ≡ length out
  -- groups listed in any order, each at least once, give the same list
  pub any_order : (gs out : List ℕ) → count_of t ≤ length out → ((g : ℕ) → g < groups t → In g gs) → groups_listed t gs out ≡ filled t out
  -- where the list has room for it, a group's step lists the group in its place
  pub in_place : (g : ℕ) (out : List ℕ) → place_of t (suc g) ≤ length out → stepped t g out ≡ group_listed t g out
  -- and the steps one after the other list the cells that they have come to, in the end all
  pub one_pass : (g : ℕ) (out : List ℕ) → passed t g out ≡ filled (take (64 * g) t) out
  pub whole : (out : List ℕ) → passed t (groups t) out ≡ filled t out

abbrev pub ListingPromise : Type 0
ListingPromise = (t : List ℕ) → Listing t

-- ---- the step for one group, lent its cells c and the list o behind the earlier entries; it leaves the list `filled c o` and gives the number `occupied c`
pub record Step (c o : List ℕ) : Type 0 where
  -- it writes the cells that hold a label, whole and in cell order,
  pub writes : InCellOrder c (filled c o)
  -- keeps every place behind them
  pub keeps : (p : ℕ) → keys_before c (length c) ≤ p → get_or (filled c o) p 0 ≡ get_or o p 0
  pub long : keys_before c (length c) ≤ length o → length (filled c o) ≡ length o
  -- and gives their number, which is that of the ones in the group's word
  pub number : occupied c ≡ keys_before c (length c)
  pub by_word : ones (word_of c) ≡ keys_before c (length c)

abbrev pub StepPromise : Type 0
StepPromise = (c o : List ℕ) → Step c o
