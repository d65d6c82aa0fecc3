-- An order call by what it asks for.
use Prim.Native.Nat.{ℕ, ◌<◌}
use mathlib.Core.Bool.{Bool, true, false, cond}
use mathlib.Core.Path.{◌≡◌, refl, ◌∙◌}
use lib.ListN.{get_or}
use Rattle.std.specs.Prelude.{Option, Some, None, Err}
use Rattle.orders.specs.declared.Order.{Order}
use Rattle.activities.specs.Activities.{idle}
use Rattle.state.specs.Model.{Model}
use Rattle.state.specs.declared.Phase.{Phase}
use Rattle.state.specs.declared.Refusal.{Refusal}
use Rattle.state.specs.declared.Replied.{Replied}
use Rattle.protocol.specs.Calls.{asked, missing, order_reply, order_to, order_found}
use Rattle.protocol.specs.IsWellFormed.{is_well_formed}
use Rattle.protocol.specs.Split.{one_order}
use Rattle.protocol.proofs.Ordering.{with-given, order-refused, order-by-one}
use Rattle.calls.specs.Asking.{asked_for}
use Rattle.calls.specs.declared.Asked.{Asked}

-- by whether the line is missing
some-asked : (lacks : Bool) (x a : Asked) → Some a ≡ cond lacks None (Some x) → (lacks ≡ false) × (a ≡ x)
some-asked true x a e = absurd (cc)
some-asked false x a e = (refl, cc)

module _ (M : Model) (p : Phase) (l : Option Order) (w v : ℕ) (a : Asked) (is : Some a ≡ asked_for p.kind l w v) where
  pub by-asked : order_to M p false a.worker a.key a.price ≡ order_found M p l w v
  by-asked = let s = some-asked (missing p.kind l) _ a is in rw (s.0, s.1)

  pub asked-refused : (r : Replied) (why : Refusal) → r ≡ record { phase = p; reply = Err why }
      → order_reply M p false a.worker a.key a.price ≡ Err why → r ≡ order_found M p l w v
  asked-refused r why e h = order-refused M p false a.worker a.key a.price r why e h ∙ by-asked

  -- of a worker that the phase has: the order to that worker by itself
  pub asked-by-one : is_well_formed M p ≡ true → p.shut ≡ false → a.worker < p.crew
      → with-given p a.worker (one_order M p.kind p.hash p.length (get_or p.workers a.worker idle) a.key a.price) ≡ order_found M p l w v
  asked-by-one good up below = order-by-one M p a.worker a.key a.price good up below ∙ by-asked

-- before it is worked out, by a line that the list has or lacks
pub found-refused : (M : Model) (p : Phase) (l : Option Order) (w v : ℕ) (r : Replied) (why : Refusal) → r ≡ record { phase = p; reply = Err why }
    → (let o = asked p.kind l w v in order_reply M p (missing p.kind l) o.worker o.key o.price ≡ Err why) → r ≡ order_found M p l w v
found-refused M p l w v r why e h =
    let o = asked p.kind l w v in order-refused M p (missing p.kind l) o.worker o.key o.price r why e h
