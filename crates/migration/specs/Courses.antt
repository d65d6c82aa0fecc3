-- Lists of calls on one migration: each call gets the state that the last one returned, each turn also the two tables as the last turn left them. The calls are
-- the very definitions that the functions' contracts name.
use Rattle.std.specs.Prelude.{Bool, true, false, cond, List, [], ◌∷◌, ℕ, suc, ◌+◌, get_or, set, replicate, Ok, Err}
use Rattle.ring.specs.Counting.{bit}
use Rattle.homes.specs.declared.Hash.{Hash}
use Rattle.state.specs.Model.{Model}
use Rattle.state.specs.Replies.{Reply}
use Rattle.protocol.specs.Replies.{TurnReply}
use Rattle.history.specs.History.{is_finish}
use Rattle.migration.specs.Calls.{open_call, order_call, close_call, turn_call, turn_old, turn_new}
use Rattle.migration.specs.declared.Migration.{Migration}

pub data Call : Type 0 where
  order : (w : ℕ) → Call
  turn : (w : ℕ) → Call
  close : Call

-- the two tables and the state of the migration, and what is counted beside them
pub record Course : Type 0 where
  pub old : List ℕ
  pub new : List ℕ
  pub migration : Migration
  -- the accepted orders
  pub accepted : ℕ
  -- for each worker whether it has an unfinished order: from the accepted order until a turn answers finished
  pub unfinished : List Bool
  -- the turns not refused whose worker has an unfinished order
  pub counted : ℕ
  -- a close was accepted
  pub closed : Bool

-- ---- what a call's answer adds: a refusal nothing, beside the tables and the state as the call left them
abbrev pub after_refusal : (old new : List ℕ) → Migration → Course → Course
after_refusal old new p s = record {
  old = old;
  new = new;
  migration = p;
  accepted = s.accepted;
  unfinished = s.unfinished;
  counted = s.counted;
  closed = s.closed;
}

abbrev pub after_order : ℕ → Migration → Reply → Course → Course
after_order w p (Ok _) s = record {
  old = s.old;
  new = s.new;
  migration = p;
  accepted = suc s.accepted;
  unfinished = set s.unfinished w true;
  counted = s.counted;
  closed = s.closed;
}
after_order w p (Err r) s = after_refusal s.old s.new p s

abbrev pub after_turn : ℕ → (old new : List ℕ) → Migration → TurnReply → Course → Course
after_turn w old new p (Ok a) s = record {
  old = old;
  new = new;
  migration = p;
  accepted = s.accepted;
  unfinished = cond (is_finish a) (set s.unfinished w false) s.unfinished;
  counted = bit (get_or s.unfinished w false) + s.counted;
  closed = s.closed;
}
after_turn w old new p (Err r) s = after_refusal old new p s

abbrev pub after_close : Migration → Reply → Course → Course
after_close p (Ok _) s = record {
  old = s.old;
  new = s.new;
  migration = p;
  accepted = s.accepted;
  unfinished = s.unfinished;
  counted = s.counted;
  closed = true;
}
after_close p (Err r) s = after_refusal s.old s.new p s

module _ (M : Model) where
  unfoldable pub call : Call → Course → Course
  call (order w) s = let r = order_call M s.migration w in after_order w r.migration r.reply s
  call (turn w) s =
      let p = s.migration in
      let r = turn_call M p s.old s.new w in
      after_turn w (turn_old M p s.old s.new w) (turn_new M p s.old s.new w) r.migration r.reply s
  call close s = let r = close_call M s.migration in after_close r.migration r.reply s

  -- a list of calls, the first one first
  unfoldable pub run : List Call → Course → Course
  run [] s = s
  run (c ∷ cs) s = run cs (call c s)

  -- the answers of the turns of such a list, the first one first
  unfoldable pub turn_replies : List Call → Course → List TurnReply
  turn_replies [] s = []
  turn_replies (order w ∷ cs) s = turn_replies cs (call (order w) s)
  turn_replies (turn w ∷ cs) s = (turn_call M s.migration s.old s.new w).reply ∷ turn_replies cs (call (turn w) s)
  turn_replies (close ∷ cs) s = turn_replies cs (call close s)

-- ---- from an opening with m workers by a and b
module _ (M : Model) (m : ℕ) (ab : Hash) (old new : List ℕ) where
  abbrev pub opening : Course
  opening = record {
    old = old;
    new = new;
    migration = (open_call M m ab old new).migration;
    accepted = 0;
    unfinished = replicate M.room false;
    counted = 0;
    closed = false;
  }

  abbrev pub after : List Call → Course
  after cs = run M cs opening
