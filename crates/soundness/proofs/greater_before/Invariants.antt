-- The loop jumps by the links: what it has come past holds only greater keys.
use Rattle.std.proofs.Common.{◌-◌, length}
use Rattle.prices.specs.Contents.{label}
use Rattle.prices.specs.Priced.{labels}
use Rattle.soundness.specs.Links.{Walked}
use Rattle.soundness.proofs.greater_before.Given as goal

abbrev pub invariant-loop-s : goal.invariant-loop-s
invariant-loop-s l = Walked (length l.cells) (labels label l.cells) l.links l.j l.path l.s

abbrev pub decreases-loop-s : goal.decreases-loop-s
decreases-loop-s l = l.path - l.s
