-- Each branch runs the next call; the number of the answer goes to its place.
use Rattle.std.proofs.Common.{◌≡◌, ◌<◌, length, ap, arith}
use Rattle.state.specs.Model.{model_of}
use Rattle.singly.proofs.Singly.{singly-none, ordered-next, turned-next, closed-next}
use Rattle.singly.proofs.run_singly.Goals as goal
use Rattle.singly.proofs.run_singly.Goals.{then-op-eq1, else-op-eq1+then-op-eq2, else-op-eq1+else-op-eq2}

pub loop-i-init : goal.loop-i-init
loop-i-init g c =
    let a = c.args in record {
      all = c.count-i-end.ensures;
      ran = singly-none (model_of a.device) (g.L.Lines.orders a.list) a.calls.ops.now a.calls.lines.now a.calls.workers.now a.calls.keys.now a.phase
          a.cells.now a.answers.now;
    }

pub loop-i-preserved : goal.loop-i-preserved
loop-i-preserved g c =
    let h = c.loop-i.invariant.ran in
    let room : c.loop-i.i < length c.args.answers.now = omega arith in record {
      all = c.loop-i.invariant.all;
      ran = elim c.if-op-eq1.branch [
        | then-op-eq1 w ↦ rw (w.next-is, w.cells-is, w.answers-is) (ordered-next h room w.if-op-eq1.true w.order-ordered.ensures w.reply_answer.ensures)
        | else-op-eq1+then-op-eq2 w ↦
            rw (w.next-is, w.cells-is, w.answers-is)
            (turned-next h room w.if-op-eq2.true w.turn-turned.ensures w.turn-turned.auto.cells w.turn_answer.ensures)
        | else-op-eq1+else-op-eq2 w ↦
            rw (w.next-is, w.cells-is, w.answers-is)
            (closed-next h room w.if-op-eq1.false w.if-op-eq2.false w.close-closed.ensures w.reply_answer-else-op-eq2.ensures)
      ];
    }
