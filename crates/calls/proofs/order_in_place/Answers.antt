use Rattle.std.proofs.Common.{ap, ◌∙◌, arith}
use Rattle.state.specs.Model.{model_of}
use Rattle.protocol.proofs.Ordering.{with-given}
use Rattle.calls.proofs.Askings.{asked-by-one}
use Rattle.calls.proofs.Tested.{some-cells, few-workers}
use Rattle.calls.proofs.order_in_place.Goals as goal

pub bounds-phase-chosen : goal.bounds-phase-chosen
bounds-phase-chosen c = omega (arith, few-workers _ c.requires)

pub one_order-given-requires : goal.one_order-given-requires
one_order-given-requires c = some-cells _ c.requires

pub bounds-phase-chosen-2 : goal.bounds-phase-chosen-2
bounds-phase-chosen-2 c = omega (arith, few-workers _ c.requires)

pub returns : goal.returns
returns c d good =
    ap (with-given c.args.phase.now c.in-Some.asked.worker) c.one_order-given.ensures
    ∙ asked-by-one (model_of d) c.args.phase.now c.args.found c.args.worker c.args.key c.in-Some.asked c.in-Some.ensures good c.if-phase.false
    c.if-phase-chosen.false
