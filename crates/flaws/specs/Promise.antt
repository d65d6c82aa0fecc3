-- What is promised of the three kinds of unsound, for every table and home rule. Proved in proofs/Theorem.
use Rattle.std.specs.Prelude.{◌≡◌, ◌≢◌, ◌↔◌, ◌⊎◌, true, List, ℕ, ◌≤◌, ◌<◌, length, get_or}
use Rattle.ring.specs.Ring.{probe, dist}
use Rattle.layout.specs.Sound.{Holds, OnPath, look}
use Rattle.prices.specs.Contents.{label, price, SoundTable}
use Rattle.prices.specs.Priced.{labels}
use Rattle.flaws.specs.Flaws.{is_intact, meets_empty, meets_key}

-- ---- the cells: at least one is empty, and one other than 0 has a label other than 0 and a price from 1 to 9,999,999
pub record Intact (t : List ℕ) : Type 0 where
  pub empty : Holds (length t) t 0
  pub cells : (j : ℕ) → j < length t → get_or t j 0 ≢ 0 → (label (get_or t j 0) ≢ 0) × (1 ≤ price (get_or t j 0)) × (price (get_or t j 0) ≤ 9999999)

-- or else: no cell is empty, or some cell has a label 0 beside a price, or a price out of range
pub record WrongCell (t : List ℕ) : Type 0 where
  pub cell : ℕ
  pub inside : cell < length t
  pub filled : get_or t cell 0 ≢ 0
  pub wrong : (label (get_or t cell 0) ≡ 0) ⊎ ((price (get_or t cell 0) ≡ 0) ⊎ (9999999 < price (get_or t cell 0)))

abbrev pub Damaged : List ℕ → Type 0
Damaged t = ((j : ℕ) → j < length t → get_or t j 0 ≢ 0) ⊎ WrongCell t

-- ---- the order: s steps on from the home of cell j's key, and before that cell, stands the first content that is not greater
pub record Breaks (n : ℕ) (home : ℕ → ℕ) (t : List ℕ) (j s : ℕ) : Type 0 where
  pub inside : j < n
  pub key : get_or t j 0 ≢ 0
  pub before : s < dist n (home (get_or t j 0)) j
  pub greater : (k : ℕ) → k < s → get_or t j 0 < look n home t (get_or t j 0) k
  pub not_greater : look n home t (get_or t j 0) s ≤ get_or t j 0

-- the lowest-numbered cell whose key breaks the order, and a fact of the content that it meets first
pub record Decided (home : ℕ → ℕ) (t : List ℕ) (Fact : ℕ → Type 0) : Type 0 where
  pub cell : ℕ
  pub steps : ℕ
  pub breaks : Breaks (length t) home (labels label t) cell steps
  pub lowest : (i s : ℕ) → i < cell → Breaks (length t) home (labels label t) i s → ⊥
  pub fact : Fact (get_or t (probe (length t) (home (label (get_or t cell 0))) steps) 0)

-- that content is 0, and it is not
abbrev pub Gapped : (ℕ → ℕ) → List ℕ → Type 0
Gapped home t = Decided home t (λ c. c ≡ 0)

abbrev pub Disordered : (ℕ → ℕ) → List ℕ → Type 0
Disordered home t = Decided home t (λ c. c ≢ 0)

-- ---- the order in the words of document 01's way
-- cell c is on the way of cell j's key and holds no greater key, and the cells of the way up to c all do
pub record FirstOnPath (n : ℕ) (home : ℕ → ℕ) (t : List ℕ) (j c : ℕ) : Type 0 where
  pub inside : c < n
  pub on_path : OnPath n home (get_or t j 0) j c
  pub not_greater : get_or t c 0 ≤ get_or t j 0
  pub greater : (b : ℕ) → b < n → OnPath n home (get_or t j 0) c b → get_or t j 0 < get_or t b 0

pub record Ways (n : ℕ) (home : ℕ → ℕ) (t : List ℕ) : Type 0 where
  -- a key breaks the order exactly if some cell on its way holds no greater key
  pub broken : (j : ℕ) → j < n → get_or t j 0 ≢ 0
      → ((s : ℕ) × Breaks n home t j s) ↔ ((c : ℕ) × (c < n) × OnPath n home (get_or t j 0) j c × (get_or t c 0 ≤ get_or t j 0))
  -- and what it meets first is the first such cell
  pub first : (j s : ℕ) → Breaks n home t j s → FirstOnPath n home t j (probe n (home (get_or t j 0)) s)

pub record Flaws (home : ℕ → ℕ) (t : List ℕ) : Type 0 where
  -- each test says its sentence
  pub intact : is_intact t ≡ true ↔ Intact t
  pub gapped : meets_empty home t ≡ true ↔ Gapped home t
  pub disordered : meets_key home t ≡ true ↔ Disordered home t
  -- a table is intact or damaged, and not both; not both gapped and disordered
  pub one_of : Intact t ⊎ Damaged t
  pub not_damaged : Intact t → Damaged t → ⊥
  pub apart : Gapped home t → Disordered home t → ⊥

pub record FlawsPromise : Type 0 where
  pub kinds : (home : ℕ → ℕ) (t : List ℕ) → Flaws home t
  -- where homes are cells of the table, a table is sound exactly if it is of none of the three kinds
  pub sound : (home : ℕ → ℕ) (t : List ℕ) → (0 < length t → (x : ℕ) → home x < length t)
      → SoundTable (length t) home t ↔ (Intact t × (Gapped home t → ⊥) × (Disordered home t → ⊥))
  pub ways : (n : ℕ) (home : ℕ → ℕ) (t : List ℕ) → (0 < n → (x : ℕ) → home x < n) → Ways n home t
