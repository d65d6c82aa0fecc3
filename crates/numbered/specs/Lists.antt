-- Lists of calls given as numbers, and the numbers of their answers.
use Rattle.std.specs.Prelude.{◌≡◌, ◌≢◌, ◌↔◌, cond, List, [], ◌∷◌, ◌++◌, ℕ, zero, suc, min, ◌≤◌, ◌<◌, eqb, length, get_or, drop}
use Rattle.orders.specs.declared.Order.{Order}
use Rattle.state.specs.Model.{Model}
use Rattle.state.specs.declared.Phase.{Phase}
use Rattle.protocol.specs.Calls.{close_call, order_call, turn_call}
use Rattle.history.specs.History.{Call, order, turn, close, History, call, run}
use Rattle.numbered.specs.Numbers.{turn_answer, reply_answer}

-- ---- calls as numbers
-- 1 is an order, by line i of the list of orders or of key v for worker w, 2 a turn of worker w, and any other number a close
abbrev pub call_of : (op i w v : ℕ) → Call
call_of op i w v = cond (eqb op 1) (order i w v) (cond (eqb op 2) (turn w) close)

-- the first i calls, in order
unfoldable pub calls_of : (ops lines workers keys : List ℕ) → ℕ → List Call
calls_of ops lines workers keys zero = []
calls_of ops lines workers keys (suc i) =
    calls_of ops lines workers keys i ++ (call_of (get_or ops i 0) (get_or lines i 0) (get_or workers i 0) (get_or keys i 0) ∷ [])

-- as many as the shortest of the five lists has, the last of which is lent for the answers
abbrev pub fewest : (ops lines workers keys out : List ℕ) → ℕ
fewest ops lines workers keys out = min (min (length ops) (length lines)) (min (min (length workers) (length keys)) (length out))

abbrev pub calls_lent : (ops lines workers keys out : List ℕ) → List Call
calls_lent ops lines workers keys out = calls_of ops lines workers keys (fewest ops lines workers keys out)

-- what is promised of them. Proved in proofs/Running
pub record CallsPromise : Type 0 where
  pub orders : (i w v : ℕ) → call_of 1 i w v ≡ order i w v
  pub turns : (i w v : ℕ) → call_of 2 i w v ≡ turn w
  pub closes : (op i w v : ℕ) → op ≢ 1 → op ≢ 2 → call_of op i w v ≡ close
  -- call i has what stands at place i of each list
  pub each : (ops lines workers keys out : List ℕ) (i : ℕ) → i < length (calls_lent ops lines workers keys out)
      → get_or (calls_lent ops lines workers keys out) i close ≡ call_of (get_or ops i 0) (get_or lines i 0) (get_or workers i 0) (get_or keys i 0)
  -- there are as many calls as each of the five lists has places, and no more
  pub many : (ops lines workers keys out : List ℕ) (n : ℕ)
      → (n ≤ length (calls_lent ops lines workers keys out))
      ↔ ((n ≤ length ops) × (n ≤ length lines) × (n ≤ length workers) × (n ≤ length keys) × (n ≤ length out))

-- ---- answers as numbers
-- a phase with the number of the answer of the call that gave it
pub record Applied : Type 0 where
  pub phase : Phase
  pub answer : ℕ

-- each order call lent the list os
module _ (M : Model) (os : List Order) where
  -- of any call
  unfoldable pub answer_of : Call → History → ℕ
  answer_of (order i w v) s = reply_answer (order_call M s.phase os i w v).reply
  answer_of (turn w) s = turn_answer (turn_call M s.phase s.table w).reply
  answer_of close s = reply_answer (close_call M s.phase).reply

  -- of each call of a list, the first one first
  unfoldable pub answers_of : List Call → History → List ℕ
  answers_of [] s = []
  answers_of (c ∷ cs) s = answer_of c s ∷ answers_of cs (call M os c s)

  -- ---- what code gives, by the definitions of a history
  -- of one call: the phase and the number of the answer, and the table
  pub record CallGives (c : Call) (s : History) (r : Applied) (t : List ℕ) : Type 0 where
    pub phase : r.phase ≡ (call M os c s).phase
    pub answer : r.answer ≡ answer_of c s
    pub table : t ≡ (call M os c s).table

  -- of a list of calls: the phase, the table, and the list lent for the answers, in which the places behind them keep their contents
  pub record RunGives (cs : List Call) (s : History) (out : List ℕ) (p : Phase) (t out' : List ℕ) : Type 0 where
    pub phase : p ≡ (run M os cs s).phase
    pub table : t ≡ (run M os cs s).table
    pub answers : out' ≡ answers_of cs s ++ drop (length cs) out

  -- the same from a phase p and a table t on, whatever else a history has
  abbrev pub Applies : Phase → List ℕ → Call → Applied → List ℕ → Type 0
  Applies p t c r t' = (s : History) → s.phase ≡ p → s.table ≡ t → CallGives c s r t'

  abbrev pub RunsFrom : Phase → List ℕ → List Call → List ℕ → Phase → List ℕ → List ℕ → Type 0
  RunsFrom p t cs out p' t' out' = (s : History) → s.phase ≡ p → s.table ≡ t → RunGives cs s out p' t' out'
