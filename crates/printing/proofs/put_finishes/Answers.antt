-- One worker more.
use Rattle.printing.proofs.Loops.{one_finish}
use Rattle.printing.proofs.put_finishes.Goals as goal

pub loop-finish-preserved : goal.loop-finish-preserved
loop-finish-preserved c = one_finish _ _ c.loop-finish-test.true c.loop-finish.invariant c.put_finish-place.ensures
