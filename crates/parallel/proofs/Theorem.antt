-- The promise on three parallel lists.
use mathlib.Core.Path.{ap}
use native.Mathlib.Omega.{arith}
use Rattle.orders.specs.declared.Order.{Order}
use Rattle.parallel.specs.Promise.{ThreeListsPromise}
use Rattle.parallel.proofs.Lists.{orders-length, order-at}

pub three-lists : ThreeListsPromise
three-lists ks ps ws =
    let e = orders-length ks ps ws in
    record {
      many = λ n. (λ l. (omega arith, omega arith, omega arith), λ (a, b, c). omega arith);
      key = λ i l. ap (λ (o : Order). o.key) (order-at ks ps ws i l);
      price = λ i l. ap (λ (o : Order). o.price) (order-at ks ps ws i l);
      worker = λ i l. ap (λ (o : Order). o.worker) (order-at ks ps ws i l);
    }
