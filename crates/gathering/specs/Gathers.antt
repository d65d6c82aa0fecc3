-- The bytes of a line, gathered from where they come.
use Rattle.std.specs.Prelude.{◌≡◌, List, ℕ, ◌≤◌, take}
use Rattle.lines.specs.Grammar.{kept_bytes}

-- the first r places hold the bytes kept of the line l
pub record Gathers (l line' : List ℕ) (r : ℕ) : Type 0 where
  pub first : take r line' ≡ take kept_bytes l
  pub gathered : r ≤ kept_bytes
