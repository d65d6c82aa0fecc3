use Rattle.std.proofs.Common.{◌-◌, length}
use Rattle.soundness.specs.Links.{Skipped}
use Rattle.soundness.proofs.past_empties.Given as goal

abbrev pub invariant-loop-c : goal.invariant-loop-c
invariant-loop-c l = Skipped l.cells l.j l.c

abbrev pub decreases-loop-c : goal.decreases-loop-c
decreases-loop-c l = length l.cells - l.c
