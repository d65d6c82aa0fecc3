-- What a model of the gateway fixes. Definitions and lemmas on calls take it as their first parameter.
use Rattle.std.specs.Prelude.{◌≡◌, ◌↔◌, Bool, true, false, cond, ℕ, ◌+◌, ◌*◌, ◌%◌, ◌≤◌, ◌<◌, leb, ltb}
use Rattle.homes.specs.Homes.{spread}
use Rattle.homes.specs.declared.Hash.{Hash}
use Rattle.state.specs.declared.Device.{Device}
use Rattle.state.specs.declared.Device.TheVariants.{Gateway, Kiosk}

pub record Model : Type 0 where
  pub fewest_cells : ℕ
  pub most_cells : ℕ
  pub fewest_workers : ℕ
  pub most_workers : ℕ
  -- the most lines of the list that an insert phase (put-in shift) is opened with
  pub most_lines : ℕ
  -- how many workers the phase state has places for
  pub room : ℕ
  -- the home of a key in a table of so many cells, by the numbers a and b that a table is used with
  pub home : Hash → ℕ → ℕ → ℕ

-- what the promises ask of a model: a table that may be opened has a cell, there are places for all workers, and homes are cells of the table
pub record Proper (M : Model) : Type 0 where
  pub some : 0 < M.fewest_cells
  pub places : M.most_workers ≤ M.room
  pub homes : (ab : Hash) (n x : ℕ) → 0 < n → M.home ab n x < n

-- ---- the documents' models: `size_ok` and `crew_ok`, which read the constants of the phase state, are proved to go by these limits, and `homes::home` to
-- be this rule
abbrev pub most_cells_of : Device → ℕ
most_cells_of Gateway = 8192
most_cells_of Kiosk = 256

abbrev pub most_workers_of : Device → ℕ
most_workers_of Gateway = 16
most_workers_of Kiosk = 4

-- they share all else, so that a definition which reads only that is the same in each
abbrev pub model_of : Device → Model
model_of d =
    record { fewest_cells = 2; most_cells = most_cells_of d; fewest_workers = 1; most_workers = most_workers_of d; most_lines = 65536; room = 16; home = spread }

abbrev pub gateway : Model
gateway = model_of Gateway

abbrev pub kiosk : Model
kiosk = model_of Kiosk

abbrev pub size_ok : Model → ℕ → Bool
size_ok M n = cond (ltb n M.fewest_cells) false (leb n M.most_cells)

abbrev pub crew_ok : Model → ℕ → Bool
crew_ok M m = cond (ltb m M.fewest_workers) false (leb m M.most_workers)

-- ---- the documents' models in their words: nothing is left to assume of them. Proved in proofs/Model
pub record Limited (M : Model) (most crews : ℕ) : Type 0 where
  pub proper : Proper M
  -- tables have 2 to so many cells, shifts 1 to so many workers
  pub cells : (n : ℕ) → size_ok M n ≡ true ↔ ((2 ≤ n) × (n ≤ most))
  pub workers : (m : ℕ) → crew_ok M m ≡ true ↔ ((1 ≤ m) × (m ≤ crews))
  -- the record has places for 16 workers
  pub room : M.room ≡ 16
  -- a list of orders has at most 65,536 lines
  pub orders : M.most_lines ≡ 65536
  -- the home of a label is a times the label plus b, modulo 2³², then modulo the length
  pub homes : (ab : Hash) (n x : ℕ) → M.home ab n x ≡ ((ab.a * x + ab.b) % 4294967296) % n

-- the gateway has up to 8,192 cells and 16 workers, the kiosk up to 256 and 4
abbrev pub GatewayPromise : Type 0
GatewayPromise = Limited gateway 8192 16

abbrev pub KioskPromise : Type 0
KioskPromise = Limited kiosk 256 4
