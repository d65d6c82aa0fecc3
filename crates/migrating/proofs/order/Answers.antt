use Rattle.std.proofs.Common.{sym}
use Rattle.migrating.proofs.Carrying.{order-within}
use Rattle.migrating.proofs.order.Goals as goal

pub bounds-migration-worker : goal.bounds-migration-worker
bounds-migration-worker c = order-within c.args.device c.args.migration c.args.worker (sym c.in-Ok.ensures)
