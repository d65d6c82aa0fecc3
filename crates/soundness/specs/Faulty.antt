-- The cell at which the search ends, and what its key meets.
use Rattle.std.specs.Prelude.{Bool, true, cond, List, ℕ, length, get_or}
use Rattle.ring.specs.Ring.{probe}
use Rattle.ring.specs.Each.{first}
use Rattle.prices.specs.Contents.{label, cell_ok}
use Rattle.prices.specs.Priced.{labels}
use Rattle.flaws.specs.Flaws.{stops_at, breaks}

-- cell j is wrong by itself, or its key breaks the order
unfoldable pub is_faulty : (ℕ → ℕ) → List ℕ → ℕ → Bool
is_faulty home t j = cond (cell_ok (get_or t j 0)) (breaks (length t) home (labels label t) j) true

-- the lowest-numbered such cell; the length if there is none
abbrev pub first_faulty : (ℕ → ℕ) → List ℕ → ℕ
first_faulty home t = first (is_faulty home t) (length t)

-- what the key of cell j meets first, from its home on; its own content if its path holds only greater keys
abbrev pub first_met : (ℕ → ℕ) → List ℕ → ℕ → ℕ
first_met home t j = get_or t (probe (length t) (home (get_or (labels label t) j 0)) (stops_at (length t) home (labels label t) j)) 0
