use Rattle.std.proofs.Common.{arith}
use Rattle.calls.proofs.Tested.{few-workers, right-worker}
use Rattle.calls.proofs.turn_in_place.Goals as goal

pub bounds-phase-worker : goal.bounds-phase-worker
bounds-phase-worker c = omega (arith, few-workers _ c.requires)

pub one_turn-moved-requires : goal.one_turn-moved-requires
one_turn-moved-requires c = (right-worker _ c.requires _ c.if-phase-worker.false, c.if-phase-cells.false)

pub bounds-phase-worker-2 : goal.bounds-phase-worker-2
bounds-phase-worker-2 c = omega (arith, few-workers _ c.requires)
