-- One order further, in each of the three lists.
use Rattle.std.proofs.Common.{arith, ap, ◌∙◌}
use Rattle.std.specs.Prelude.{Err}
use Rattle.std.proofs.lemmas.Result.{err_from_is_err_and}
use Rattle.parallel.proofs.Lists.{orders-length}
use Rattle.state.specs.Model.{model_of}
use Rattle.till.proofs.Places.{ready, refused}
use Rattle.till.proofs.Turns.{begins, goes_on, ends, unfilled}
use Rattle.reading.proofs.read_till_parallel.Invariants.{key, price, worker}
use Rattle.reading.proofs.read_till_parallel.Goals as goal

pub returns-in_err-begun : goal.returns-in_err-begun
returns-in_err-begun c =
    let a = c.args in
    let M = model_of a.device in
    let e = rw c.count.ensures at c.in_err-begun.ensures in
    let (why, is, same) = err_from_is_err_and c.from_residual.result c.from_residual.ensures.1 in (
      is ∙ ap Err same ∙ refused M _ _ _ _ e,
      unfilled key M _ _ _ _ _ e,
      unfilled price M _ _ _ _ _ e,
      unfilled worker M _ _ _ _ _ e,
    )

pub loop-i-init : goal.loop-i-init
loop-i-init c =
    let a = c.args in
    let e = orders-length a.keys.now a.prices.now a.workers.now in
    let known = ready (model_of a.device) _ _ _ _ (rw c.count.ensures at c.in_ok-begun.ensures) in
    (begins key _ _ _ _ (omega (arith, known.room)), begins price _ _ _ _ (omega (arith, known.room)), begins worker _ _ _ _ (omega (arith, known.room)))

pub loop-i-preserved : goal.loop-i-preserved
loop-i-preserved c =
    let h = c.loop-i-test.true in
    let v = c.loop-i.invariant in
    let d = c.deal-order.ensures in
    (goes_on v.0 _ _ h d.order d.next, goes_on v.1 _ _ h d.order d.next, goes_on v.2 _ _ h d.order d.next)

pub returns : goal.returns
returns c =
    let a = c.args in
    let e = orders-length a.keys.now a.prices.now a.workers.now in
    let known = ready (model_of a.device) _ _ _ _ (rw c.count.ensures at c.in_ok-begun.ensures) in
    let v = c.loop-i.invariant in
    let last = c.loop-i-test.false in (
      known.counted,
      ends (model_of a.device) _ _ _ _ known v.0 last,
      ends (model_of a.device) _ _ _ _ known v.1 last,
      ends (model_of a.device) _ _ _ _ known v.2 last,
    )
