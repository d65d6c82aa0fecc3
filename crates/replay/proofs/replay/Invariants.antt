use Rattle.replay.proofs.Reading.{Reading}
use Rattle.replay.proofs.replay.Given as goal

abbrev pub invariant-loop-left : goal.invariant-loop-left
invariant-loop-left l = Reading l.cells l.items l.block l.out l.line l.carried l.left

abbrev pub decreases-loop-left : goal.decreases-loop-left
decreases-loop-left l = l.left
