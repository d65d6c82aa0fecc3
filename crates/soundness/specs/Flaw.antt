-- Whether a table is sound, and if not why.
use Rattle.std.specs.Prelude.{cond, List, ℕ, Result, Ok, Err}
use Rattle.flaws.specs.Flaws.{is_intact, meets_empty, meets_key}
use Rattle.soundness.specs.declared.Flaw.{Flaw}
use Rattle.soundness.specs.declared.Flaw.TheVariants.{Cells, Gap, Disorder}

-- the cells by themselves come first
abbrev pub flaw_of : (ℕ → ℕ) → List ℕ → Result (Unit {0}) Flaw
flaw_of home t = cond (is_intact t) (cond (meets_empty home t) (Err Gap) (cond (meets_key home t) (Err Disorder) (Ok tt))) (Err Cells)
