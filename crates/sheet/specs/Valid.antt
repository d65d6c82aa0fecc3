-- The states of a replay that lines lead to.
use Rattle.std.specs.Prelude.{◌≡◌, false, List, ℕ, ◌≤◌, length}
use Rattle.homes.specs.Promise.{Odd}
use Rattle.state.specs.Model.{gateway}
use Rattle.state.specs.declared.Phase.{Phase}
use Rattle.protocol.specs.Promise.{Made}
use Rattle.lines.specs.declared.Command.{Command}
use Rattle.fitting.specs.Fitting.{most_items}
use Rattle.fitting.specs.declared.Task.{Task}
use Rattle.fitting.specs.declared.Task.TheVariants.{Perform}
use Rattle.dealing.specs.Reached.{Reached}
use Rattle.sheet.specs.Replay.{State, most_sheet_cells}

-- the table is short enough for a sheet, the items are few enough, and calls that were lent the items have led from an accepted opening to an open phase
-- and its table
pub record Valid (s : State) : Type 0 where
  pub few : length s.table ≤ most_sheet_cells
  pub items : length s.items ≤ most_items
  pub reached : s.phase.shut ≡ false → Reached gateway s.items s.phase s.table

-- an opening and calls have made the phase, open or shut, and its a is odd
pub record ByCalls (p : Phase) : Type 0 where
  pub made : Made gateway p
  pub odd : Odd p.hash.a

-- what the line `run` must find: an open phase that calls have led to
abbrev pub RunFinds : State → Task → Type 0
RunFinds s t = (ns : List ℕ) → t ≡ Perform Command.Run ns → Reached gateway s.items s.phase s.table × (s.phase.shut ≡ false)
