-- The calls on a phase: order, turn and close.
use Rattle.std.specs.Prelude.{Bool, true, false, cond, List, ℕ, eqb, get_or, set, Option, Some, None, Ok, Err, is_none, unwrap_or}
use Rattle.prices.specs.Contents.{label, content}
use Rattle.orders.specs.Orders.{blank, order_with, line_at}
use Rattle.orders.specs.declared.Order.{Order}
use Rattle.activities.specs.declared.Activity.{Activity}
use Rattle.rule.specs.declared.Answer.TheVariants as answer
use Rattle.rule.specs.Rule.{touched, rule, start}
use Rattle.state.specs.Model.{Model}
use Rattle.state.specs.Refusals.{number_of, first_of}
use Rattle.state.specs.declared.Phase.{Phase}
use Rattle.state.specs.declared.Replied.{Replied}
use Rattle.state.specs.Replies.{Reply}
use Rattle.protocol.specs.Bars.{doing, order_bars, turn_bars, close_bars}
use Rattle.protocol.specs.Replies.{TurnReply}
use Rattle.protocol.specs.declared.Turned.{Turned}

-- the documents' number of a turn's answer, 0 where the turn is not refused
abbrev pub turn_number : TurnReply → ℕ
turn_number (Ok a) = 0
turn_number (Err r) = number_of r

-- the phase with another activity of worker w, and shut
abbrev pub with_worker : Phase → ℕ → Activity → Phase
with_worker p w a = record {
  kind = p.kind;
  length = p.length;
  crew = p.crew;
  shut = p.shut;
  hash = p.hash;
  workers = set p.workers w (record { activity = a });
}

abbrev pub shut_phase : Phase → Phase
shut_phase p = record { kind = p.kind; length = p.length; crew = p.crew; shut = true; hash = p.hash; workers = p.workers }

-- ---- what an order call in a phase of kind k asks for: an insert phase (put-in shift) reads the line that was found in the list lent, the others the
-- worker w and the key v that are handed in
abbrev pub asked : ℕ → Option Order → (w v : ℕ) → Order
asked k l w v = cond (eqb k 1) (unwrap_or l blank) (order_with v 0 w)

-- an insert phase, and the list lacks the line
abbrev pub missing : ℕ → Option Order → Bool
missing k l = cond (eqb k 1) (is_none l) false

-- what an order of key v at a price is for, in a phase of kind k: an insert takes the price along, the others go by the key alone
abbrev pub entry_for : (k v cents : ℕ) → ℕ
entry_for k v cents = content v (cond (eqb k 1) cents 0)

module _ (M : Model) (p : Phase) where
  -- ---- close
  abbrev pub close_reply : Reply
  close_reply = first_of (close_bars M p)

  abbrev pub closed : Reply → Replied
  closed (Ok _) = record { phase = shut_phase p; reply = Ok tt }
  closed (Err r) = record { phase = p; reply = Err r }

  abbrev pub close_call : Replied
  close_call = closed close_reply

  -- ---- order
  -- of key v, with its price, to worker w, by a line that the list lacks or not
  module _ (lacks : Bool) (w v cents : ℕ) where
    abbrev pub order_reply : Reply
    order_reply = first_of (order_bars M p lacks w v cents)

    -- the worker starts at its key's home
    abbrev pub ordered_phase : Phase
    ordered_phase = with_worker p w (start label (M.home p.hash p.length) (entry_for p.kind v cents))

    abbrev pub ordered : Reply → Replied
    ordered (Ok _) = record { phase = ordered_phase; reply = Ok tt }
    ordered (Err r) = record { phase = p; reply = Err r }

    abbrev pub order_to : Replied
    order_to = ordered order_reply

  -- of what a line that was found, or a worker and a key handed in, ask for
  abbrev pub found_reply : Option Order → (w v : ℕ) → Reply
  found_reply l w v = let o = asked p.kind l w v in order_reply (missing p.kind l) o.worker o.key o.price

  abbrev pub order_found : Option Order → (w v : ℕ) → Replied
  order_found l w v = let o = asked p.kind l w v in order_to (missing p.kind l) o.worker o.key o.price

  -- the call: line i of the list lent, or worker w and key v
  abbrev pub order_call : List Order → (i w v : ℕ) → Replied
  order_call os i w v = order_found (line_at os i) w v

  -- ---- turn of worker w on the table t
  module _ (t : List ℕ) (w : ℕ) where
    abbrev pub turn_check : Reply
    turn_check = first_of (turn_bars M p t w)

    -- at the place that the worker's activity touches, by the rule; an idle worker's turn changes nothing
    abbrev pub moved_at : Option ℕ → Turned
    moved_at None = record { phase = p; reply = Ok answer.Idle }
    moved_at (Some c) =
        let o = rule p.kind p.length label (M.home p.hash p.length) (doing p w) (get_or t c 0) in
        record { phase = with_worker p w o.activity; reply = Ok o.answer }

    abbrev pub cells_at : Option ℕ → List ℕ
    cells_at None = t
    cells_at (Some c) = set t c (rule p.kind p.length label (M.home p.hash p.length) (doing p w) (get_or t c 0)).content

    abbrev pub turned : Reply → Turned
    turned (Ok _) = moved_at (touched (doing p w))
    turned (Err r) = record { phase = p; reply = Err r }

    abbrev pub turned_cells : Reply → List ℕ
    turned_cells (Ok _) = cells_at (touched (doing p w))
    turned_cells (Err r) = t

    -- the phase and the answer, and the table afterwards
    abbrev pub turn_call : Turned
    turn_call = turned turn_check

    abbrev pub turn_table : List ℕ
    turn_table = turned_cells turn_check
