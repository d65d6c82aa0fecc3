use Rattle.rounds.specs.Rounds.{acks_of}
use Rattle.polling.proofs.Polling.{then-deletes, settled}
use Rattle.polling.proofs.settle.Goals as goal

pub delete_each-requires : goal.delete_each-requires
delete_each-requires c =
    let a = c.args in
    let (is, begun, fits) = c.requires in
    let (_, same, told) = c.find_each.ensures in
    then-deletes a.device a.phase a.cells.now (acks_of a.keys.now a.workers.now) a.answers.now a.out.now is begun fits _ told _ same _
    c.open_unlisted-deleting.ensures

pub returns : goal.returns
returns c =
    let a = c.args in
    let (is, begun, fits) = c.requires in
    let (_, same, told) = c.find_each.ensures in
    settled a.device a.phase a.cells.now (acks_of a.keys.now a.workers.now) a.answers.now a.out.now is begun fits _ told _ same _
    c.open_unlisted-deleting.ensures _ c.delete_each.ensures.1 _ _ c.list.ensures
