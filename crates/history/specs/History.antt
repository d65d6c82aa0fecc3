-- Lists of calls on one phase: each call gets the phase state that the last one returned, each turn also the table as the last turn left it, each order
-- the list of orders that the opening was lent.
-- The calls are the very definitions that the functions' contracts name.
use Rattle.std.specs.Prelude.{Bool, true, false, cond, List, [], ◌∷◌, ◌++◌, ℕ, ◌+◌, ltb, get_or, set, replicate, Ok, Err}
use Rattle.ring.specs.Counting.{bit}
use Rattle.homes.specs.declared.Hash.{Hash}
use Rattle.orders.specs.Orders.{line_at}
use Rattle.orders.specs.declared.Order.{Order}
use Rattle.rule.specs.declared.Answer.{Answer}
use Rattle.rule.specs.declared.Answer.TheVariants.{WentOn, Finished, Price, No}
use Rattle.rule.specs.declared.Answer.TheVariants as answer
use Rattle.rule.specs.Events.{Said, tells}
use Rattle.state.specs.Model.{Model}
use Rattle.state.specs.Open.{open_call}
use Rattle.state.specs.declared.Phase.{Phase}
use Rattle.state.specs.Replies.{Reply}
use Rattle.protocol.specs.Replies.{TurnReply}
use Rattle.protocol.specs.Calls.{asked, entry_for, close_call, order_call, turn_call, turn_table}

pub data Call : Type 0 where
  -- by line i of the list, or for worker w and key v handed in
  order : (i w v : ℕ) → Call
  turn : (w : ℕ) → Call
  close : Call

-- the table and the phase state, and what is counted beside them
pub record History : Type 0 where
  pub table : List ℕ
  pub phase : Phase
  -- the entries of the accepted orders, keys with the prices that insert phases read, the last one first
  pub ordered : List ℕ
  -- for each worker the entry of its unfinished order, 0 if it has none: from the accepted order until a turn answers finished
  pub pending : List ℕ
  -- the answers of finished finds with the entries ordered, the last one first
  pub said : List Said
  -- the turns not refused whose worker has an unfinished order
  pub counted : ℕ
  -- a close was accepted
  pub closed : Bool

-- finished, with a price or no in a find phase
abbrev pub is_finish : Answer → Bool
is_finish WentOn = false
is_finish Finished = true
is_finish (Price q) = true
is_finish No = true
is_finish answer.Idle = false

-- ---- what a call's answer adds
-- a refusal nothing, beside the table and the phase state as the call left them
abbrev pub after_refusal : List ℕ → Phase → History → History
after_refusal t p s = record {
  table = t;
  phase = p;
  ordered = s.ordered;
  pending = s.pending;
  said = s.said;
  counted = s.counted;
  closed = s.closed;
}

abbrev pub after_order : ℕ → ℕ → Phase → Reply → History → History
after_order w e p (Ok _) s = record {
  table = s.table;
  phase = p;
  ordered = e ∷ s.ordered;
  pending = set s.pending w e;
  said = s.said;
  counted = s.counted;
  closed = s.closed;
}
after_order w e p (Err r) s = after_refusal s.table p s

abbrev pub after_turn : ℕ → List ℕ → Phase → TurnReply → History → History
after_turn w t p (Ok a) s = record {
  table = t;
  phase = p;
  ordered = s.ordered;
  pending = cond (is_finish a) (set s.pending w 0) s.pending;
  said = tells (get_or s.pending w 0) a ++ s.said;
  counted = bit (ltb 0 (get_or s.pending w 0)) + s.counted;
  closed = s.closed;
}
after_turn w t p (Err r) s = after_refusal t p s

abbrev pub after_close : Phase → Reply → History → History
after_close p (Ok _) s = record {
  table = s.table;
  phase = p;
  ordered = s.ordered;
  pending = s.pending;
  said = s.said;
  counted = s.counted;
  closed = true;
}
after_close p (Err r) s = after_refusal s.table p s

-- ---- what a turn's answer says of its worker: it had an unfinished order and went on or finished
abbrev pub worked : TurnReply → Bool
worked (Ok WentOn) = true
worked (Ok Finished) = true
worked (Ok (Price q)) = true
worked (Ok No) = true
worked (Ok answer.Idle) = false
worked (Err r) = false

module _ (M : Model) (os : List Order) where
  unfoldable pub call : Call → History → History
  call (order i w v) s =
      let o = asked s.phase.kind (line_at os i) w v in
      let r = order_call M s.phase os i w v in
      after_order o.worker (entry_for s.phase.kind o.key o.price) r.phase r.reply s
  call (turn w) s = let r = turn_call M s.phase s.table w in after_turn w (turn_table M s.phase s.table w) r.phase r.reply s
  call close s = let r = close_call M s.phase in after_close r.phase r.reply s

  -- a list of calls, the first one first
  unfoldable pub run : List Call → History → History
  run [] s = s
  run (c ∷ cs) s = run cs (call c s)

  -- the answers of the turns of such a list, the first one first
  unfoldable pub turn_replies : List Call → History → List TurnReply
  turn_replies [] s = []
  turn_replies (order i w v ∷ cs) s = turn_replies cs (call (order i w v) s)
  turn_replies (turn w ∷ cs) s = (turn_call M s.phase s.table w).reply ∷ turn_replies cs (call (turn w) s)
  turn_replies (close ∷ cs) s = turn_replies cs (call close s)

-- ---- a call with a list of its own to be lent, which need not be that of the opening
pub record Lent : Type 0 where
  pub list : List Order
  pub asks : Call

-- a list of such calls
unfoldable pub run_lent : Model → List Lent → History → History
run_lent M [] s = s
run_lent M (c ∷ cs) s = run_lent M cs (call M c.list c.asks s)

-- ---- from an opening of kind k with m workers by a and b on the table t, lent the list os
module _ (M : Model) (k m : ℕ) (ab : Hash) (t : List ℕ) (os : List Order) where
  abbrev pub opening : History
  opening = record {
    table = t;
    phase = (open_call M k m ab t os).phase;
    ordered = [];
    pending = replicate M.room 0;
    said = [];
    counted = 0;
    closed = false;
  }

  abbrev pub after : List Call → History
  after cs = run M os cs opening

  abbrev pub after_lent : List Lent → History
  after_lent cs = run_lent M cs opening
