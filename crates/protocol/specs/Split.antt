-- An order and a turn of one worker apart from its phase, for code that deals many calls.
use Rattle.std.specs.Prelude.{◌≡◌, false, List, ℕ, ◌<◌, length, get_or, set, Option, Some, None, Ok, Err}
use Rattle.homes.specs.declared.Hash.{Hash}
use Rattle.prices.specs.Contents.{label}
use Rattle.orders.specs.Orders.{line_at}
use Rattle.orders.specs.declared.Order.{Order}
use Rattle.activities.specs.Activities.{idle}
use Rattle.activities.specs.declared.Worker.{Worker}
use Rattle.rule.specs.declared.Answer.TheVariants as answer
use Rattle.rule.specs.Rule.{touched, rule, start}
use Rattle.state.specs.Model.{Model}
use Rattle.state.specs.Refusals.{first_of}
use Rattle.state.specs.declared.Phase.{Phase}
use Rattle.state.specs.Replies.{Reply}
use Rattle.protocol.specs.Bars.{worker_bars}
use Rattle.protocol.specs.Calls.{asked, missing, entry_for, with_worker, order_call, turn_call, turn_table}
use Rattle.protocol.specs.WellFormed.{WellFormed}
use Rattle.protocol.specs.declared.Given.{Given}
use Rattle.protocol.specs.declared.Moved.{Moved}

module _ (M : Model) (k : ℕ) (ab : Hash) (n : ℕ) (t : List ℕ) (w : Worker) where
  abbrev pub one_at : Option ℕ → Moved
  one_at None = record { worker = w; reply = Ok answer.Idle }
  one_at (Some c) =
      let o = rule k n label (M.home ab n) w.activity (get_or t c 0) in
      record { worker = record { activity = o.activity }; reply = Ok o.answer }

  abbrev pub one_cells_at : Option ℕ → List ℕ
  one_cells_at None = t
  one_cells_at (Some c) = set t c (rule k n label (M.home ab n) w.activity (get_or t c 0)).content

  -- the worker and the answer, and the table afterwards
  abbrev pub one_turn : Moved
  one_turn = one_at (touched w.activity)

  abbrev pub one_cells : List ℕ
  one_cells = one_cells_at (touched w.activity)

module _ (M : Model) (k : ℕ) (ab : Hash) (n : ℕ) (w : Worker) (v cents : ℕ) where
  -- refusals 8, 7, 24 and 14
  abbrev pub one_reply : Reply
  one_reply = first_of (worker_bars k w.activity v cents)

  abbrev pub one_given : Reply → Given
  one_given (Ok _) = record { worker = record { activity = start label (M.home ab n) (entry_for k v cents) }; reply = Ok tt }
  one_given (Err r) = record { worker = w; reply = Err r }

  -- the worker and the answer after an order
  abbrev pub one_order : Given
  one_order = one_given one_reply

-- ---- put back into a well-formed, open phase state that has the worker, they are the calls themselves; of an order in an insert phase, where the list has
-- the line
pub record SplitTurn (M : Model) (p : Phase) (t : List ℕ) (w : ℕ) : Type 0 where
  pub phase : (turn_call M p t w).phase ≡ with_worker p w (one_turn M p.kind p.hash p.length t (get_or p.workers w idle)).worker.activity
  pub reply : (turn_call M p t w).reply ≡ (one_turn M p.kind p.hash p.length t (get_or p.workers w idle)).reply
  pub table : turn_table M p t w ≡ one_cells M p.kind p.hash p.length t (get_or p.workers w idle)

pub record SplitOrder (M : Model) (p : Phase) (os : List Order) (i w v : ℕ) : Type 0 where
  pub phase : (order_call M p os i w v).phase
      ≡ (let o = asked p.kind (line_at os i) w v in
      with_worker p o.worker (one_order M p.kind p.hash p.length (get_or p.workers o.worker idle) o.key o.price).worker.activity)
  pub reply : (order_call M p os i w v).reply
      ≡ (let o = asked p.kind (line_at os i) w v in
      (one_order M p.kind p.hash p.length (get_or p.workers o.worker idle) o.key o.price).reply)

pub record SplitPromise : Type 0 where
  pub turn : (M : Model) (p : Phase) → WellFormed M p → p.shut ≡ false → (t : List ℕ) → p.length ≡ length t → (w : ℕ) → w < p.crew → SplitTurn M p t w
  pub order : (M : Model) (p : Phase) → WellFormed M p → p.shut ≡ false → (os : List Order) (i w v : ℕ) → missing p.kind (line_at os i) ≡ false
      → (asked p.kind (line_at os i) w v).worker < p.crew → SplitOrder M p os i w v
