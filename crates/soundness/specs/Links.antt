-- What the search keeps, for any home rule and table of keys. The cell s + 1 steps before cell j of n is `dist n (suc s) j`.
use Rattle.std.specs.Prelude.{◌≡◌, List, ℕ, suc, ◌≤◌, ◌<◌, length, get_or}
use Rattle.ring.specs.Ring.{dist}
use Rattle.soundness.specs.Run.{Walk, Run}

-- the s cells right before cell j hold greater keys than it
pub record Before (n : ℕ) (t : List ℕ) (j s : ℕ) : Type 0 where
  pub inside : s < n
  pub greater : (u : ℕ) → u < s → get_or t j 0 < get_or t (dist n (suc u) j) 0

-- `search` has come to cell j: each cell's link is such a number, and was set as a run sets it
pub record Linked (n : ℕ) (home : ℕ → ℕ) (t : List ℕ) (j : ℕ) (links : List ℕ) : Type 0 where
  pub small : n ≤ 8192
  pub room : n ≤ length links
  pub before : (i : ℕ) → i < n → Before n t i (get_or links i 0)
  pub reads : ℕ
  pub run : Run n home t j links reads

-- `past_empties` has come from cell j to cell c of a table of contents
pub record Skipped (t : List ℕ) (j c : ℕ) : Type 0 where
  pub from : j ≤ c
  pub to : c ≤ length t
  pub empty : (i : ℕ) → j ≤ i → i < c → get_or t i 0 ≡ 0

-- `greater_before` has come past s cells
pub record Walked (n : ℕ) (t links : List ℕ) (j path s : ℕ) : Type 0 where
  pub before : Before n t j s
  pub reads : ℕ
  pub walk : Walk n t links j path s reads

-- it ends there: it has come past the path, or the next cell holds no greater key
pub record Searched (n : ℕ) (t links : List ℕ) (j path s : ℕ) : Type 0 where
  pub walked : Walked n t links j path s
  pub stopped : s < path → get_or t (dist n (suc s) j) 0 ≤ get_or t j 0
