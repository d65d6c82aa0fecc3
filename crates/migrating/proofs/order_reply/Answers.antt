use Rattle.std.proofs.Common.{arith}
use Rattle.migrating.proofs.Carrying.{state-manned}
use Rattle.migrating.proofs.order_reply.Goals as goal

pub bounds-migration-worker : goal.bounds-migration-worker
bounds-migration-worker c = omega (arith, state-manned c.args.device c.args.migration.now c.in_ok-check_state.ensures)
