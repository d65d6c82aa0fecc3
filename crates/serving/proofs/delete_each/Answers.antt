use Rattle.std.proofs.Common.{◌≡◌, ◌<◌, refl, ap, ◌∙◌, arith, length}
use Rattle.state.specs.declared.Replied.{Replied}
use Rattle.rounds.specs.Rounds.{acks_of}
use Rattle.serving.proofs.Given.{delete-starts, delete-skips, chosen, delete-may, delete-next, deleted}
use Rattle.serving.proofs.Serving.{close-accepted}
use Rattle.serving.proofs.delete_each.Goals as goal
use Rattle.serving.proofs.delete_each.Goals.{then-accepted, else-accepted}

pub loop-i-init : goal.loop-i-init
loop-i-init c = let a = c.args in record {
  served = delete-starts _ (acks_of a.keys.now a.workers.now) a.answers.now _ _ c.requires.0 c.requires.1;
  answered = c.requires.2;
  all = c.acks_of-i-end.ensures;
  sized = refl;
}

pub serve_order-served-requires : goal.serve_order-served-requires
serve_order-served-requires c =
    let l = c.loop-i in let v = l.invariant in let a = c.args in
    let more : l.i < length (acks_of a.keys.now a.workers.now) = omega arith in
    let h = chosen _ a.keys.now a.workers.now _ v.answered l.i more c.if-accepted.true in
    delete-may _ _ _ _ _ _ l.i l.next l.cells v.served _ _ h

pub loop-i-preserved : goal.loop-i-preserved
loop-i-preserved c =
    let l = c.loop-i in let v = l.invariant in let a = c.args in
    let more : l.i < length (acks_of a.keys.now a.workers.now) = omega arith in record {
      served = elim c.if-accepted.branch [
        | then-accepted w ↦
            let h = chosen _ a.keys.now a.workers.now _ v.answered l.i more w.if-accepted.true in
            rw (w.next-is, w.cells-is) (delete-next _ _ _ _ _ _ l.i l.next l.cells v.served _ _ h _ w.serve_order-served.ensures)
        | else-accepted w ↦
            rw (w.next-is, w.cells-is) (delete-skips _ _ _ (acks_of a.keys.now a.workers.now) a.answers.now _ l.i l.next l.cells v.served w.if-accepted.false)
      ];
      answered = v.answered;
      all = v.all;
      sized = c.if-accepted.auto.cells ∙ v.sized;
    }

pub returns : goal.returns
returns c =
    let l = c.loop-i in let v = l.invariant in let a = c.args in
    let all : l.i ≡ length (acks_of a.keys.now a.workers.now) = omega arith in (
      ap (λ (r : Replied). r.reply) c.close-closed.ensures ∙ close-accepted _ _ _ _ _ _ l.next l.cells v.served.0,
      deleted _ _ _ _ _ l.next l.cells (acks_of a.keys.now a.workers.now) a.answers.now v.answered.places l.i all v.served,
    )
