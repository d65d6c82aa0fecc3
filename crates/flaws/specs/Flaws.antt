-- Why a table is unsound (document 02, point 3): by its cells, else by the lowest-numbered cell whose key breaks the order (document 01: the way rule) and
-- by what that key meets first. For any home rule.
use Rattle.std.specs.Prelude.{Bool, false, cond, not, ◌&&◌, List, ℕ, leb, ltb, eqb, length, get_or}
use Rattle.ring.specs.Ring.{probe, dist}
use Rattle.ring.specs.Each.{all, some, first}
use Rattle.layout.specs.Sound.{look}
use Rattle.prices.specs.Contents.{label, cell_ok}
use Rattle.prices.specs.Priced.{labels}

-- ---- of a table of keys
module _ (n : ℕ) (home : ℕ → ℕ) (t : List ℕ) where
  -- how many cells are on the path (document 01: way) of cell j's key
  abbrev pub displacement : ℕ → ℕ
  displacement j = dist n (home (get_or t j 0)) j

  -- how many steps on from its home the key of cell j first meets a content that is not greater; its displacement if it meets none on its path
  abbrev pub stops_at : ℕ → ℕ
  stops_at j = first (λ k. leb (look n home t (get_or t j 0) k) (get_or t j 0)) (displacement j)

  -- cell j holds a key, and meets such a content on its path
  abbrev pub breaks : ℕ → Bool
  breaks j = cond (eqb (get_or t j 0) 0) false (ltb (stops_at j) (displacement j))

  -- the lowest-numbered cell whose key does; n if there is none
  abbrev pub lowest : ℕ
  lowest = first breaks n

  -- the cell of the content that it meets first
  abbrev pub deciding_cell : ℕ
  deciding_cell = probe n (home (get_or t lowest 0)) (stops_at lowest)

-- ---- of a table of contents
-- some cell is empty, and every cell is right by itself (document 02's 4, if it isn't so)
abbrev pub is_intact : List ℕ → Bool
is_intact t = some (λ j. eqb (get_or t j 0) 0) (length t) && all (λ j. cell_ok (get_or t j 0)) (length t)

module _ (home : ℕ → ℕ) (t : List ℕ) where
  abbrev pub is_broken : Bool
  is_broken = ltb (lowest (length t) home (labels label t)) (length t)

  -- the content that decides
  abbrev pub deciding : ℕ
  deciding = get_or t (deciding_cell (length t) home (labels label t)) 0

  -- some key breaks the order, and the content that decides is 0; or it is not
  unfoldable pub meets_empty : Bool
  meets_empty = cond is_broken (eqb deciding 0) false

  unfoldable pub meets_key : Bool
  meets_key = cond is_broken (not (eqb deciding 0)) false
