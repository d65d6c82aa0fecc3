-- One order further.
use Rattle.std.proofs.Common.{◌++◌, List, drop, ap, sym, ◌∙◌, arith}
use lib.Seq.{length-take-le}
use Rattle.std.specs.Prelude.{Err}
use Rattle.std.proofs.lemmas.Result.{err_from_is_err_and}
use Rattle.orders.specs.declared.Order.{Order}
use Rattle.state.specs.Model.{model_of}
use Rattle.till.proofs.Places.{ready, refused}
use Rattle.till.proofs.Turns.{begins, goes_on, ends, unfilled, itself, whole, front}
use Rattle.filling.proofs.read_till.Goals as goal

pub returns-in_err-begun : goal.returns-in_err-begun
returns-in_err-begun c =
    let a = c.args in
    let M = model_of a.device in
    let e = c.in_err-begun.ensures in
    let (why, is, same) = err_from_is_err_and c.from_residual.result c.from_residual.ensures.1 in
    (is ∙ ap Err same ∙ refused M _ _ _ _ e, unfilled itself M _ _ _ _ _ e ∙ whole M a.text.now a.count a.orders.now)

pub slice_bounds-order-items-end : goal.slice_bounds-order-items-end
slice_bounds-order-items-end c = let known = ready (model_of c.args.device) _ _ _ _ c.in_ok-begun.ensures in known.room

pub slice_bounds-order-items-end-2 : goal.slice_bounds-order-items-end-2
slice_bounds-order-items-end-2 c =
    let known = ready (model_of c.args.device) _ _ _ _ c.in_ok-begun.ensures in
    sym (length-take-le _ c.args.orders.now known.room)

pub loop-order-init : goal.loop-order-init
loop-order-init c =
    let known = ready (model_of c.args.device) _ _ _ _ c.in_ok-begun.ensures in
    begins itself _ _ _ _ (omega (arith, length-take-le _ c.args.orders.now known.room))

pub loop-order-preserved : goal.loop-order-preserved
loop-order-preserved c =
    let known = ready (model_of c.args.device) _ _ _ _ c.in_ok-begun.ensures in
    goes_on c.loop-order.invariant _ _ (omega (arith, length-take-le _ c.args.orders.now known.room)) c.deal.ensures.order c.deal.ensures.next

pub returns : goal.returns
returns c =
    let a = c.args in
    let M = model_of a.device in
    let known = ready M _ _ _ _ c.in_ok-begun.ensures in
    let written = ends M _ _ _ _ known c.loop-order.invariant (omega (arith, length-take-le _ a.orders.now known.room)) in
    (known.counted, ap (λ (os : List Order). os ++ drop c.in_ok-begun.begun.lines a.orders.now) written ∙ front M a.text.now a.count a.orders.now _ known)
