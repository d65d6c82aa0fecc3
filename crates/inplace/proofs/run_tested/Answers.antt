-- Each branch runs the next call on the phase in place; the number of the answer goes to its place.
use Rattle.std.proofs.Common.{◌<◌, length, arith}
use Rattle.inplace.proofs.InPlace.{none_run, order-more, turn-more, close-more}
use Rattle.inplace.proofs.run_tested.Goals as goal
use Rattle.inplace.proofs.run_tested.Goals.{then-op-eq1, else-op-eq1+then-op-eq2, else-op-eq1+else-op-eq2}

pub loop-i-init : goal.loop-i-init
loop-i-init g c = record { all = c.count-i-end.ensures; ran = none_run c.requires }

pub loop-i-preserved : goal.loop-i-preserved
loop-i-preserved g c =
    let h = c.loop-i.invariant.ran in
    let room : c.loop-i.i < length c.args.answers.now = omega arith in record {
      all = c.loop-i.invariant.all;
      ran = elim c.if-op-eq1.branch [
        | then-op-eq1 w ↦
            rw (w.phase-is, w.cells-is, w.answers-is)
            (order-more h room w.if-op-eq1.true _ _ _ _ w.line-found.ensures w.order_in_place.ensures w.reply_answer.ensures)
        | else-op-eq1+then-op-eq2 w ↦
            rw (w.phase-is, w.cells-is, w.answers-is)
            (turn-more h room w.if-op-eq2.true _ _ _ _ w.turn_in_place.ensures w.turn_in_place.auto.cells w.turn_answer.ensures)
        | else-op-eq1+else-op-eq2 w ↦
            rw (w.phase-is, w.cells-is, w.answers-is)
            (close-more h room w.if-op-eq1.false w.if-op-eq2.false _ _ _ w.close_in_place.ensures.well_formed w.reply_answer-else-op-eq2.ensures)
      ];
    }
