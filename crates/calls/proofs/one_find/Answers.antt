use Rattle.state.specs.Model.{gateway}
use Rattle.calls.proofs.Finds.{found-one}
use Rattle.calls.proofs.one_find.Goals as goal

pub returns : goal.returns
returns c ab =
    found-one gateway ab c.args.size c.args.cells.now c.args.worker c.in-Reading.entry c.in-Reading.cell c.find_step-found.result c.in-Reading.is
    (c.find_step-found.ensures (gateway.home ab c.args.size))
