-- While no order is accepted, all workers are idle and the table stays.
use Rattle.std.specs.Prelude.{Ok}
use mathlib.Core.Path.{◌≡◌, sym, ap, ◌∙◌}
use mathlib.Core.Bool.{true, false}
use mathlib.Core.List.{List, [], ◌∷◌}
use Prim.Native.Nat.{ℕ}
use native.Mathlib.Omega.{arith}
use Rattle.activities.specs.declared.Activity.TheVariants.{Idle}
use Rattle.orders.specs.Orders.{line_at}
use Rattle.orders.specs.declared.Order.{Order}
use Rattle.state.specs.Model.{Model}
use Rattle.state.specs.declared.Phase.{Phase}
use Rattle.protocol.specs.Bars.{doing}
use Rattle.protocol.specs.Calls.{asked, entry_for, close_reply, found_reply, turn_call, turn_table}
use Rattle.protocol.specs.IsWellFormed.{is_well_formed}
use Rattle.protocol.proofs.Chain.{by-reply}
use Rattle.protocol.proofs.Theorem.{turns}
use Rattle.protocol.proofs.WellFormed.{all-idle-says}
use Rattle.history.specs.History.{Call, order, turn, close, History, after_turn, call, run}
use Rattle.history.proofs.Keeping.{turn-phase, turn-ordered, turn-table}

-- the table is t and all workers are idle, if no order was accepted
pub record Untouched (t : List ℕ) (s : History) : Type 0 where
  pub table : s.ordered ≡ [] → s.table ≡ t
  pub idle : s.ordered ≡ [] → (w : ℕ) → doing s.phase w ≡ Idle

no-first : (x : ℕ) (l : List ℕ) → x ∷ l ≡ [] → ⊥
no-first x l z = let one : ◌≡◌ {A = ℕ} 0 1 = cc in omega arith

module _ (M : Model) (os : List Order) (t : List ℕ) where
  call-untouched : (c : Call) (s : History) → Untouched t s → Untouched t (call M os c s)
  unfolding call
  call-untouched (order i w v) s h =
      let o = asked s.phase.kind (line_at os i) w v in
      let none = no-first (entry_for s.phase.kind o.key o.price) s.ordered in
      by-reply (found_reply M s.phase (line_at os i) w v)
      (λ e. rw e (record { table = λ z. absurd (none z); idle = λ z. absurd (none z) }))
      (λ _ e. rw e h)
  call-untouched (turn w) s h =
      let r = turn_call M s.phase s.table w in
      let u = turn_table M s.phase s.table w in
      let before : (after_turn w u r.phase r.reply s).ordered ≡ [] → s.ordered ≡ [] = λ z. sym (turn-ordered w u r.phase r.reply s) ∙ z in
      let stays : s.ordered ≡ [] → (r.phase ≡ s.phase) × (u ≡ s.table) = λ z. (turns M s.phase s.table w).idle (h.idle z w) in
      record {
        table = λ z. turn-table w u r.phase r.reply s ∙ (stays (before z)).1 ∙ h.table (before z);
        idle = λ z v.
            ap (λ (p : Phase). doing p v) (turn-phase w u r.phase r.reply s ∙ (stays (before z)).0) ∙ h.idle (before z) v;
      }
  call-untouched close s h = by-reply (close_reply M s.phase) (λ e. rw e (record { table = h.table; idle = h.idle })) (λ _ e. rw e h)

  pub run-untouched : (cs : List Call) (s : History) → Untouched t s → Untouched t (run M os cs s)
  unfolding run
  run-untouched [] s h = h
  run-untouched (c ∷ cs) s h = run-untouched cs (call M os c s) (call-untouched c s h)

-- a close is accepted where the phase state is well formed and open, and all workers are idle
pub close-accepted : (M : Model) (p : Phase) → is_well_formed M p ≡ true → p.shut ≡ false → ((w : ℕ) → doing p w ≡ Idle) → close_reply M p ≡ Ok tt
close-accepted M p formed up rest = rw (formed, up, (all-idle-says p.workers).1 rest)
