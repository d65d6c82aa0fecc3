-- The counted turns are those whose answers tell of an unfinished order.
use Rattle.std.specs.Prelude.{Ok, Err}
use mathlib.Core.Path.{◌≡◌, refl}
use mathlib.Core.Logic.{◌↔◌, ⊎_elim}
use mathlib.Core.List.{List, [], ◌∷◌}
use Prim.Native.Nat.{ℕ, ◌+◌}
use native.Mathlib.Omega.{arith}
use lib.Dec.{ltb}
use lib.ListN.{get_or}
use borrow.Author.Tests.{lt-ltb}
use Rattle.ring.specs.Counting.{bit, count}
use Rattle.ring.proofs.Split.{by-eq}
use Rattle.homes.specs.declared.Hash.{Hash}
use Rattle.prices.specs.Contents.{label}
use Rattle.orders.specs.Orders.{line_at}
use Rattle.orders.specs.declared.Order.{Order}
use Rattle.rule.specs.Events.{Run, Event, event}
use Rattle.rule.specs.declared.Answer.{Answer}
use Rattle.rule.specs.declared.Answer.TheVariants.{WentOn, Finished, Price, No}
use Rattle.rule.specs.declared.Answer.TheVariants as answer
use Rattle.state.specs.Model.{Model}
use Rattle.state.specs.declared.Phase.{Phase}
use Rattle.protocol.specs.Calls.{close_reply, found_reply, turn_call, turn_table}
use Rattle.protocol.specs.Replies.{TurnReply}
use Rattle.protocol.proofs.Chain.{by-reply}
use Rattle.protocol.proofs.Theorem.{turns}
use Rattle.history.specs.History.{Call, order, turn, close, History, after_turn, worked, call, run, turn_replies}
use Rattle.history.proofs.Simulation.{Shows, unfinished-says, follows}

-- x is the entry of an unfinished operation: an answer is idle exactly if there is none
worked-says : (a : Answer) (x : ℕ) → (a ≡ answer.Idle) ↔ (x ≡ 0) → bit (ltb 0 x) ≡ bit (worked (Ok a))
worked-says a x h = by-eq x 0 (λ z. let i : a ≡ answer.Idle = h.1 z in rw (z, i)) (λ nz. rw (lt-ltb 0 x (omega arith)) (busy a (λ i. nz (h.0 i))))
  where
    busy : (b : Answer) → (b ≡ answer.Idle → ⊥) → 1 ≡ bit (worked (Ok b))
    busy WentOn _ = refl
    busy Finished _ = refl
    busy (Price q) _ = refl
    busy No _ = refl
    busy answer.Idle no-idle = absurd (no-idle refl)

-- what a turn's answer adds
turn-adds : (w : ℕ) (t : List ℕ) (p : Phase) (r : TurnReply) (s : History)
    → ((a : Answer) → r ≡ Ok a → (a ≡ answer.Idle) ↔ (get_or s.pending w 0 ≡ 0))
    → (after_turn w t p r s).counted ≡ bit (worked r) + s.counted
turn-adds w t p (Ok a) s h = omega (arith, worked-says a (get_or s.pending w 0) (h a refl))
turn-adds w t p (Err r) s h = omega arith

module _ (M : Model) (os : List Order) (k n m : ℕ) (ab : Hash) where
  turn-counts : (w : ℕ) (s : History) (r : Run) → Shows k n m ab s r
      → (call M os (turn w) s).counted ≡ bit (worked (turn_call M s.phase s.table w).reply) + s.counted
  unfolding call
  turn-counts w s r h =
      let u = turn_call M s.phase s.table w in
      turn-adds w (turn_table M s.phase s.table w) u.phase u.reply s
      (λ a e. let i = ((turns M s.phase s.table w).answered a e).idle in
      let x = unfinished-says h w in (λ b. x.1 (i.0 b), λ z. i.1 (x.0 z)))

  order-counts : (i w v : ℕ) (s : History) → (call M os (order i w v) s).counted ≡ s.counted
  unfolding call
  order-counts i w v s = by-reply (found_reply M s.phase (line_at os i) w v) (λ e. rw e) (λ _ e. rw e)

  close-counts : (s : History) → (call M os close s).counted ≡ s.counted
  unfolding call
  close-counts s = by-reply (close_reply M s.phase) (λ e. rw e) (λ _ e. rw e)

  -- the counted turns of the list are added to those counted before
  abbrev Counts : List Call → History → Type 0
  Counts cs s = (run M os cs s).counted ≡ count worked (turn_replies M os cs s) + s.counted

  one_more : (c : Call) (cs : List Call) (s : History) (r : Run) → Shows k n m ab s r → Counts cs (call M os c s) → Counts (c ∷ cs) s
  unfolding run turn_replies count
  one_more (order i w v) cs s r h e = omega (arith, order-counts i w v s)
  one_more (turn w) cs s r h e = omega (arith, turn-counts w s r h)
  one_more close cs s r h e = omega (arith, close-counts s)

  from : (cs : List Call) (s : History) (r : Run) → Shows k n m ab s r → Counts cs s
  unfolding run turn_replies count
  from [] s r h = omega arith
  from (c ∷ cs) s r h = one_more c cs s r h
      (⊎_elim
      (λ (g : Shows k n m ab (call M os c s) r). from cs (call M os c s) r g)
      (λ (g : (e : Event) × Shows k n m ab (call M os c s) (event k n label (M.home ab n) e r)). from cs (call M os c s) (event k n label (M.home ab n) g.0 r) g.1)
      (follows M os k n m ab c s r h))

  -- from a history without counted turns on
  pub counts : (cs : List Call) (s : History) (r : Run) → Shows k n m ab s r → s.counted ≡ 0 → (run M os cs s).counted ≡ count worked (turn_replies M os cs s)
  counts cs s r h none = omega (arith, from cs s r h)
