-- How many cells are read. No contract can speak of time. So these relations follow the code's two loops turn by turn, and the contracts say that the code
-- goes through their states (specs/Links). Counted are the cells that `greater_before` reads on its way back; the rest of `flaw_of` looks at each cell a
-- fixed number of times.
use Rattle.std.specs.Prelude.{◌≡◌, ◌≢◌, List, ℕ, suc, ◌+◌, ◌*◌, ◌≤◌, ◌<◌, get_or, set, replicate}
use Rattle.ring.specs.Ring.{dist}
use Rattle.flaws.specs.Flaws.{displacement}

-- `greater_before`: it has come past s cells before cell j, after d reads
pub data Walk (n : ℕ) (t links : List ℕ) (j path : ℕ) : ℕ → ℕ → Type 0 where
  start : Walk n t links j path 0 0
  on : {s d : ℕ} → s < path → get_or t j 0 < get_or t (dist n (suc s) j) 0 → Walk n t links j path s d
      → Walk n t links j path (suc s + get_or links (dist n (suc s) j) 0) (suc d)

-- `search`: it has come to cell j with these links, after r reads
pub data Run (n : ℕ) (home : ℕ → ℕ) (t : List ℕ) : ℕ → List ℕ → ℕ → Type 0 where
  start : {m : ℕ} → n ≤ m → Run n home t 0 (replicate m 0) 0
  empty : {j r : ℕ} {links : List ℕ} → j < n → get_or t j 0 ≡ 0 → Run n home t j links r → Run n home t (suc j) links r
  kept : {j r s d : ℕ} {links : List ℕ} → j < n → Walk n t links j (displacement n home t j) s d → displacement n home t j ≤ s
      → Run n home t j links r → Run n home t (suc j) (set links j s) (r + d)

-- whatever the table, sound or not, a run has read at most twice as many cells as the table has
pub record Linear (n : ℕ) (home : ℕ → ℕ) (t : List ℕ) : Type 0 where
  pub run : {j r : ℕ} {links : List ℕ} → Run n home t j links r → r ≤ 2 * n
  -- with those for cell j, where it may end, and the next one
  pub stopped : {j r s d : ℕ} {links : List ℕ} → Run n home t j links r → j < n
      → Walk n t links j (displacement n home t j) s d → s < displacement n home t j → r + suc d ≤ 2 * n
  -- what is counted: where no link is set, each cell that a walk has come past is a read; and a run past a key away from its home has read a cell
  pub each : {j path s d : ℕ} {links : List ℕ} → ((i : ℕ) → get_or links i 0 ≡ 0) → Walk n t links j path s d → d ≡ s
  pub some : {j r : ℕ} {links : List ℕ} → Run n home t j links r → (i : ℕ) → i < j → get_or t i 0 ≢ 0 → 0 < displacement n home t i → 0 < r

abbrev pub LinearPromise : Type 0
LinearPromise = (n : ℕ) (home : ℕ → ℕ) (t : List ℕ) → (0 < n → (x : ℕ) → home x < n) → Linear n home t
