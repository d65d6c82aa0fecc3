use Rattle.std.proofs.Common.{◌≡◌, refl, ap, ◌∙◌, arith, length}
use Rattle.state.specs.declared.Replied.{Replied}
use Rattle.serving.proofs.Given.{insert-starts, insert-may, insert-next, inserted}
use Rattle.serving.proofs.Serving.{close-accepted}
use Rattle.serving.proofs.insert_each.Goals as goal

pub loop-i-init : goal.loop-i-init
loop-i-init g c = record {
  served = insert-starts _ _ _ _ c.requires.0 c.requires.1;
  all = c.count-i-end.ensures;
  sized = refl;
}

pub serve_order-served-requires : goal.serve_order-served-requires
serve_order-served-requires g c =
    let l = c.loop-i in
    rw c.line.ensures (insert-may _ _ _ _ _ l.i l.next l.cells l.invariant.served (rw l.invariant.all at c.loop-i-test.true))

pub loop-i-preserved : goal.loop-i-preserved
loop-i-preserved g c =
    let l = c.loop-i in let v = l.invariant in let more = rw v.all at c.loop-i-test.true in record {
      served = insert-next _ _ _ _ _ l.i l.next l.cells v.served more _ (rw c.line.ensures at c.serve_order-served.ensures);
      all = v.all;
      sized = c.serve_order-served.auto.cells ∙ v.sized;
    }

pub returns : goal.returns
returns g c =
    let l = c.loop-i in let v = l.invariant in let a = c.args in
    let all : l.i ≡ length (g.L.Lines.orders a.list) = omega arith in (
      ap (λ (r : Replied). r.reply) c.close-closed.ensures ∙ close-accepted _ _ _ _ _ _ l.next l.cells v.served.0,
      inserted _ _ _ (g.L.Lines.orders a.list) _ l.next l.cells l.i all v.served,
    )
