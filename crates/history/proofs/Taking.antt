-- The accepted orders: each could be accepted, and in an insert phase each is of a line of the list that its call was lent.
use Rattle.std.specs.Prelude.{Ok}
use mathlib.Core.Path.{◌≡◌, sym, ap, ◌∙◌, subst}
use mathlib.Core.Logic.{◌≢◌, ⊎_elim}
use mathlib.Core.List.{List, [], ◌∷◌}
use Prim.Native.Nat.{ℕ, ◌≤◌}
use native.Mathlib.Omega.{arith}
use lib.ListN.{get_or}
use borrow.Author.Tests.{eq-eqb}
use Rattle.layout.specs.Layout.{In}
use Rattle.prices.specs.Contents.{label, price, content}
use Rattle.prices.proofs.Contents.{contents}
use Rattle.orders.specs.Orders.{blank, line_at}
use Rattle.orders.specs.declared.Order.{Order}
use Rattle.state.specs.Model.{Model}
use Rattle.state.specs.declared.Phase.{Phase}
use Rattle.protocol.specs.Calls.{asked, entry_for, close_reply, found_reply, turn_call, turn_table}
use Rattle.protocol.specs.Lines.{Priced, ShopKey}
use Rattle.protocol.proofs.Chain.{by-reply}
use Rattle.protocol.proofs.Lines.{line-order}
use Rattle.protocol.proofs.Pricing.{entry-priced, entry-bare, entry_key}
use Rattle.protocol.proofs.Theorem.{Passed, order-passed, turns}
use Rattle.history.specs.History.{Call, order, turn, close, History, call, run, Lent, run_lent}
use Rattle.history.specs.Promise.{Acceptable, OfLine}
use Rattle.history.proofs.Keeping.{turn-phase, turn-ordered}

-- in a phase of kind k, where L holds of the entry of every line that an insert phase is lent
pub record Taken (k : ℕ) (L : ℕ → Type 0) (s : History) : Type 0 where
  pub kind : s.phase.kind ≡ k
  pub entries : (y : ℕ) → In y s.ordered → Acceptable k y
  pub lines : k ≡ 1 → (y : ℕ) → In y s.ordered → L y

-- an order of key v, with a price
entry-acceptable : (k v cents : ℕ) → v ≢ 0 → (k ≡ 1 → ShopKey v) → (k ≡ 1 → Priced cents) → Acceptable k (entry_for k v cents)
entry-acceptable k v cents nz shop ok =
    record {
      key = λ z. nz (sym (entry_key k v cents ok) ∙ z);
      shop = λ is. rw (entry_key k v cents ok) (shop is);
      priced = λ is. let (low, high) = ok is in rw (ap price (entry-priced k v cents is) ∙ (contents.made v cents (omega arith)).1) (low, high);
      unpriced = λ ne. ap price (entry-bare k v cents ne) ∙ (contents.made v 0 (omega arith)).1;
    }

module _ (M : Model) (k : ℕ) (L : ℕ → Type 0) (os : List Order) (known : (y : ℕ) → OfLine os y → L y) where
  -- an accepted order of an insert phase is of its line
  of_line : {p : Phase} → p.kind ≡ 1 → (i w v : ℕ) → Passed M p os i w v
      → OfLine os (entry_for p.kind (asked p.kind (line_at os i) w v).key (asked p.kind (line_at os i) w v).price)
  of_line {p} is i w v q =
      let o = get_or os i blank in
      let same : asked p.kind (line_at os i) w v ≡ o = rw (eq-eqb p.kind 1 is, line-order os i) in
      let (low, high) = subst (λ (x : Order). (1 ≤ x.price) × (x.price ≤ 9999999)) same (q.price is) in
      let made = contents.made o.key o.price (omega arith) in
      let entry : entry_for p.kind (asked p.kind (line_at os i) w v).key (asked p.kind (line_at os i) w v).price ≡ content o.key o.price
      = rw (eq-eqb p.kind 1 is, line-order os i) in
      record { line = i; inside = q.there is; is = ap label entry ∙ made.0; costs = ap price entry ∙ made.1 }

  order-taken : (s : History) (i w v : ℕ) → Taken k L s → found_reply M s.phase (line_at os i) w v ≡ Ok tt → Taken k L (call M os (order i w v) s)
  unfolding call
  order-taken s i w v h ok =
      let q = order-passed M s.phase os i w v ok in
      let o = asked s.phase.kind (line_at os i) w v in
      let x = entry_for s.phase.kind o.key o.price in
      rw ok
      (record {
        kind = h.kind;
        entries = λ y j. ⊎_elim
            (λ (z : y ≡ x). rw (z, ← h.kind) (entry-acceptable s.phase.kind o.key o.price q.key q.shop q.price))
            (h.entries y) j;
        lines = λ is y j. ⊎_elim
            (λ (z : y ≡ x). rw z (known _ (of_line (h.kind ∙ is) i w v q)))
            (h.lines is y) j;
      })

  turn-taken : (s : History) (w : ℕ) → Taken k L s → Taken k L (call M os (turn w) s)
  unfolding call
  turn-taken s w h =
      let r = turn_call M s.phase s.table w in
      let u = turn_table M s.phase s.table w in
      let o = turns M s.phase s.table w in
      let same = turn-ordered w u r.phase r.reply s in
      record {
        kind = ap (λ (q : Phase). q.kind) (turn-phase w u r.phase r.reply s) ∙ o.others.frame.kind ∙ h.kind;
        entries = λ y i. h.entries y (subst (In y) same i);
        lines = λ is y i. h.lines is y (subst (In y) same i);
      }

  close-taken : (s : History) → Taken k L s → Taken k L (call M os close s)
  unfolding call
  close-taken s h = by-reply (close_reply M s.phase)
      (λ ok. rw ok (record { kind = h.kind; entries = h.entries; lines = h.lines })) (λ _ ok. rw ok h)

  call-taken : (c : Call) (s : History) → Taken k L s → Taken k L (call M os c s)
  unfolding call
  call-taken (order i w v) s h = by-reply (found_reply M s.phase (line_at os i) w v) (order-taken s i w v h) (λ _ ok. rw ok h)
  call-taken (turn w) s h = turn-taken s w h
  call-taken close s h = close-taken s h

-- every call lent the list os
pub run-taken : (M : Model) (k : ℕ) (os : List Order) (cs : List Call) (s : History) → Taken k (OfLine os) s → Taken k (OfLine os) (run M os cs s)
unfolding run
run-taken M k os [] s h = h
run-taken M k os (c ∷ cs) s h = run-taken M k os cs (call M os c s) (call-taken M k (OfLine os) os (λ y l. l) c s h)

-- every call lent a list of its own: nothing is known of its lines
pub run-lent-taken : (M : Model) (k : ℕ) (cs : List Lent) (s : History) → Taken k (λ _. Unit {0}) s → Taken k (λ _. Unit {0}) (run_lent M cs s)
unfolding run_lent
run-lent-taken M k [] s h = h
run-lent-taken M k (c ∷ cs) s h = run-lent-taken M k cs (call M c.list c.asks s) (call-taken M k (λ _. Unit {0}) c.list (λ _ _. tt) c.asks s h)
