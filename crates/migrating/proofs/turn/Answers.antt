use Rattle.std.proofs.Common.{sym}
use Rattle.migrating.proofs.Carrying.{turn-within, turn-good, turn-by-one}
use Rattle.migrating.proofs.turn.Goals as goal

pub bounds-migration-worker : goal.bounds-migration-worker
bounds-migration-worker c = turn-within c.args.device c.args.migration c.args.old.now c.args.new.now c.args.worker (sym c.in-Ok.ensures)

pub one_carry-carried-requires : goal.one_carry-carried-requires
one_carry-carried-requires c = turn-good c.args.device c.args.migration c.args.old.now c.args.new.now c.args.worker (sym c.in-Ok.ensures)

pub bounds-migration-worker-in-Ok : goal.bounds-migration-worker-in-Ok
bounds-migration-worker-in-Ok c = turn-within c.args.device c.args.migration c.args.old.now c.args.new.now c.args.worker (sym c.in-Ok.ensures)

pub returns-in-Ok : goal.returns-in-Ok
returns-in-Ok c =
    turn-by-one c.args.device c.args.migration c.args.old.now c.args.new.now c.args.worker (sym c.in-Ok.ensures) _ _ _ c.one_carry-carried.ensures
