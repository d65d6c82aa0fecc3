-- What the function of one call returns is what the call leaves of any history with that phase and table.
use mathlib.Core.Path.{◌≡◌, sym, ap, ◌∙◌}
use mathlib.Core.List.{List}
use Prim.Native.Nat.{ℕ}
use Rattle.orders.specs.Orders.{line_at}
use Rattle.orders.specs.declared.Order.{Order}
use Rattle.state.specs.Model.{Model}
use Rattle.state.specs.declared.Phase.{Phase}
use Rattle.state.specs.declared.Replied.{Replied}
use Rattle.protocol.specs.Calls.{asked, entry_for, close_call, order_call, turn_call, turn_table}
use Rattle.protocol.specs.declared.Turned.{Turned}
use Rattle.history.specs.History.{order, turn, close, call}
use Rattle.history.proofs.Keeping.{order-phase, order-table, turn-phase, turn-table, close-phase, close-table}
use Rattle.numbered.specs.Numbers.{turn_answer, reply_answer}
use Rattle.numbered.specs.Lists.{answer_of, Applies}

module _ (M : Model) (os : List Order) (p : Phase) (t : List ℕ) where
  pub order-applies : (i w v a : ℕ) (r : Replied) → r ≡ order_call M p os i w v → a ≡ reply_answer r.reply
      → Applies M os p t (order i w v) (record { phase = r.phase; answer = a }) t
  unfolding call answer_of
  order-applies i w v a r is number s same-phase same-table =
      let e : r ≡ order_call M s.phase os i w v = is ∙ ap (λ (q : Phase). order_call M q os i w v) (sym same-phase) in
      let now = order_call M s.phase os i w v in
      let o = asked s.phase.kind (line_at os i) w v in
      let x = entry_for s.phase.kind o.key o.price in
      record {
        phase = ap (λ (x : Replied). x.phase) e ∙ sym (order-phase o.worker x now.phase now.reply s);
        answer = number ∙ ap (λ (x : Replied). reply_answer x.reply) e;
        table = sym same-table ∙ sym (order-table o.worker x now.phase now.reply s);
      }

  pub close-applies : (a : ℕ) (r : Replied) → r ≡ close_call M p → a ≡ reply_answer r.reply
      → Applies M os p t close (record { phase = r.phase; answer = a }) t
  unfolding call answer_of
  close-applies a r is number s same-phase same-table =
      let e : r ≡ close_call M s.phase = is ∙ ap (λ (q : Phase). close_call M q) (sym same-phase) in
      let now = close_call M s.phase in
      record {
        phase = ap (λ (x : Replied). x.phase) e ∙ sym (close-phase now.phase now.reply s);
        answer = number ∙ ap (λ (x : Replied). reply_answer x.reply) e;
        table = sym same-table ∙ sym (close-table now.phase now.reply s);
      }

  pub turn-applies : (w a : ℕ) (r : Turned) (t' : List ℕ) → r ≡ turn_call M p t w → t' ≡ turn_table M p t w → a ≡ turn_answer r.reply
      → Applies M os p t (turn w) (record { phase = r.phase; answer = a }) t'
  unfolding call answer_of
  turn-applies w a r t' is cells number s same-phase same-table =
      let e : r ≡ turn_call M s.phase s.table w = is ∙ sym (λ k. turn_call M (same-phase k) (same-table k) w) in
      let u : t' ≡ turn_table M s.phase s.table w = cells ∙ sym (λ k. turn_table M (same-phase k) (same-table k) w) in
      let now = turn_call M s.phase s.table w in
      record {
        phase = ap (λ (x : Turned). x.phase) e ∙ sym (turn-phase w (turn_table M s.phase s.table w) now.phase now.reply s);
        answer = number ∙ ap (λ (x : Turned). turn_answer x.reply) e;
        table = u ∙ sym (turn-table w (turn_table M s.phase s.table w) now.phase now.reply s);
      }
