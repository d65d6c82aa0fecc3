use Rattle.std.proofs.Common.{refl, ap, ◌∙◌, arith, ℕ, min, length}
use Rattle.state.specs.Model.{model_of}
use Rattle.migration.proofs.Listed.{listed-none, ordered-next, turned-next, closed-next}
use Rattle.hauling.proofs.run_from.Goals as goal
use Rattle.hauling.proofs.run_from.Goals.{then-ops-i-eq-ORDER, else-ops-i-eq-ORDER+then-ops-i-eq-TURN, else-ops-i-eq-ORDER+else-ops-i-eq-TURN}

pub loop-i-init : goal.loop-i-init
loop-i-init c = record {
  all = c.min-all.ensures ∙ ap (λ (x : ℕ). min x (length c.args.answers.now)) c.min.ensures;
  listed = listed-none (model_of c.args.device) c.args.ops.now c.args.workers.now c.args.migration c.args.old.now c.args.new.now c.args.answers.now;
}

pub loop-i-preserved : goal.loop-i-preserved
loop-i-preserved c =
    let v = c.loop-i.invariant in
    elim c.if-ops-i-eq-ORDER.branch [
      | then-ops-i-eq-ORDER w ↦ rw (w.next-is, w.new-is, w.answers-is) (record {
        all = v.all;
        listed = ordered-next v.listed (omega arith) w.if-ops-i-eq-ORDER.true w.order-ordered.ensures w.reply_answer.ensures;
      })
      | else-ops-i-eq-ORDER+then-ops-i-eq-TURN w ↦ let o = w.turn-turned.ensures in rw (w.next-is, w.new-is, w.answers-is) (record {
        all = v.all;
        listed = turned-next v.listed (omega arith) w.if-ops-i-eq-TURN.true o.0 o.1 o.2 refl w.turn-turned.auto.new w.turn_answer.ensures;
      })
      | else-ops-i-eq-ORDER+else-ops-i-eq-TURN w ↦ rw (w.next-is, w.new-is, w.answers-is) (record {
        all = v.all;
        listed = closed-next v.listed (omega arith) w.if-ops-i-eq-ORDER.false w.if-ops-i-eq-TURN.false w.close-closed.ensures w.reply_answer-else-ops-i-eq-TURN.ensures;
      })
    ]
