-- Labels ordered from a list that together with the table has fewer labels than there are cells leave room.
use mathlib.Core.Logic.{inl, inr, ⊎_elim}
use mathlib.Core.List.{◌++◌}
use native.Mathlib.Omega.{arith}
use Rattle.layout.proofs.Sets.{in-append, subset-size}
use Rattle.prices.specs.Priced.{labels}
use Rattle.prices.proofs.Labels.{in-labels, labels_in}
use Rattle.phases.specs.Promise.{RoomPromise}

pub room_by : RoomPromise
room_by n key t listed s few known = omega (
  arith,
  subset-size (labels key (s.ordered ++ t)) (labels key t ++ listed) (λ l _ i.
      let o = labels_in key (s.ordered ++ t) l i in
      let c = o.content in
      (in-append (labels key t) listed l).1 (⊎_elim
      (λ d. inr (rw o.is at (known c d))) (λ d. inl (rw o.is at (in-labels key t c d))) ((in-append s.ordered t c).0 o.member))),
)
