use Rattle.std.proofs.Common.{take}
use Rattle.answering.proofs.Store.{lists}
use Rattle.answering.proofs.list_table.Goals as goal

pub returns-in-Ok : goal.returns-in-Ok
returns-in-Ok c =
    let r = c.args.replay in
    lists r.phase r.length r.items r.phase.hash (take r.length c.args.cells.now) _ _ _ c.in-Ok.is c.count-counted.ensures c.tell.ensures

pub returns-in-Err : goal.returns-in-Err
returns-in-Err c =
    let r = c.args.replay in
    lists r.phase r.length r.items r.phase.hash (take r.length c.args.cells.now) _ _ _ c.in-Err.is c.count-counted.ensures c.tell-in-Err.ensures
