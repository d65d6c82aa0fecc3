-- A call of a history keeps a well-formed phase state well formed.
use Rattle.std.specs.Prelude.{Ok, Err}
use mathlib.Core.Path.{◌≡◌, refl}
use mathlib.Core.List.{List}
use Prim.Native.Nat.{ℕ, ◌<◌}
use Rattle.orders.specs.Orders.{line_at}
use Rattle.orders.specs.declared.Order.{Order}
use Rattle.state.specs.Model.{Model}
use Rattle.state.specs.declared.Phase.{Phase}
use Rattle.state.specs.Replies.{Reply}
use Rattle.protocol.specs.Calls.{asked, entry_for, close_call, order_call, turn_call, turn_table}
use Rattle.protocol.specs.Replies.{TurnReply}
use Rattle.protocol.specs.WellFormed.{WellFormed}
use Rattle.protocol.proofs.Keeping.{order-keeps, turn-keeps, close-keeps}
use Rattle.history.specs.History.{Call, order, turn, close, History, after_order, after_turn, after_close, call}

-- ---- whatever the answer, the phase and the table are those given
pub order-phase : (w e : ℕ) (p : Phase) (r : Reply) (s : History) → (after_order w e p r s).phase ≡ p
order-phase w e p (Ok _) s = refl
order-phase w e p (Err r) s = refl

pub order-table : (w e : ℕ) (p : Phase) (r : Reply) (s : History) → (after_order w e p r s).table ≡ s.table
order-table w e p (Ok _) s = refl
order-table w e p (Err r) s = refl

pub turn-phase : (w : ℕ) (t : List ℕ) (p : Phase) (r : TurnReply) (s : History) → (after_turn w t p r s).phase ≡ p
turn-phase w t p (Ok a) s = refl
turn-phase w t p (Err r) s = refl

pub turn-table : (w : ℕ) (t : List ℕ) (p : Phase) (r : TurnReply) (s : History) → (after_turn w t p r s).table ≡ t
turn-table w t p (Ok a) s = refl
turn-table w t p (Err r) s = refl

pub turn-ordered : (w : ℕ) (t : List ℕ) (p : Phase) (r : TurnReply) (s : History) → (after_turn w t p r s).ordered ≡ s.ordered
turn-ordered w t p (Ok a) s = refl
turn-ordered w t p (Err r) s = refl

pub close-phase : (p : Phase) (r : Reply) (s : History) → (after_close p r s).phase ≡ p
close-phase p (Ok _) s = refl
close-phase p (Err r) s = refl

pub close-table : (p : Phase) (r : Reply) (s : History) → (after_close p r s).table ≡ s.table
close-table p (Ok _) s = refl
close-table p (Err r) s = refl

-- the home rule gives a cell of the table
pub call-keeps : (M : Model) (os : List Order) (c : Call) (s : History) → ((v : ℕ) → M.home s.phase.hash s.phase.length v < s.phase.length)
    → WellFormed M s.phase → WellFormed M (call M os c s).phase
unfolding call
call-keeps M os (order i w v) s at_home good =
    let o = asked s.phase.kind (line_at os i) w v in
    let r = order_call M s.phase os i w v in
    rw (order-phase o.worker (entry_for s.phase.kind o.key o.price) r.phase r.reply s) (order-keeps M s.phase good at_home os i w v)
call-keeps M os (turn w) s at_home good =
    let t = turn_table M s.phase s.table w in
    let r = turn_call M s.phase s.table w in
    rw (turn-phase w t r.phase r.reply s) (turn-keeps M s.phase good s.table w)
call-keeps M os close s at_home good =
    rw (close-phase (close_call M s.phase).phase (close_call M s.phase).reply s) (close-keeps M s.phase good)
