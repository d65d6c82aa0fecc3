-- By what stands at the cursor.
use Rattle.std.proofs.Common.{◌≡◌, ℕ, List, ap, rules}
use Rattle.std.specs.Prelude.{Result, Ok}
use Rattle.orders.specs.Orders.{order_with}
use Rattle.orders.specs.declared.Order.{Order}
use Rattle.till.specs.declared.Bad.{Bad}
use Rattle.till.specs.declared.Cursor.{Cursor}
use Rattle.till.specs.declared.Record.{Record}
use Rattle.till.specs.Places.{Dealt, record_at, dealt_by, dealt_at}
use Rattle.till.specs.Till.{following}
use Rattle.reading.proofs.deal.Goals as goal

module _ (m : ℕ) (text : List ℕ) (c : Cursor) where
  found : (r : Result Record Bad) → r ≡ record_at text c.at → dealt_by m c r ≡ dealt_at m text c
  unfolding dealt_at
  found r e = ap (dealt_by m c) e

  order : (r : Record) → Ok r ≡ record_at text c.at → ◌≡◌ {A = Order} (order_with r.key r.price c.worker) (dealt_at m text c).order
  order r e = ap (λ (d : Dealt). d.order) (found (Ok r) e)

  next : (r : Record) (w : ℕ) → Ok r ≡ record_at text c.at → w ≡ following m c.worker → ◌≡◌ {A = Cursor} (record { at = r.next; worker = w }) (dealt_at m text c).next
  next r w e q = rw q (ap (λ (d : Dealt). d.next) (found (Ok r) e))

pub returns-in_default : goal.returns-in_default
returns-in_default c =
    let f = found c.args.crew c.args.text.now c.args.cursor.now _ c.in_default.ensures in
    record { order = ap (λ (d : Dealt). d.order) f; next = ap (λ (d : Dealt). d.next) f }

pub returns : goal.returns
returns c = record { order = search (rules, order); next = search (rules, next) }
