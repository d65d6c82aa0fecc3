-- Lists of calls on a migration given as numbers, and the numbers of their answers: what code gives, and what is promised of it.
use Rattle.std.specs.Prelude.{◌≡◌, ◌≢◌, ◌↔◌, cond, List, [], ◌∷◌, ◌++◌, ℕ, zero, suc, min, ◌≤◌, ◌<◌, eqb, length, get_or, drop, Ok, Err}
use Rattle.homes.specs.declared.Hash.{Hash}
use Rattle.state.specs.Model.{Model}
use Rattle.state.specs.declared.Refusal.{Refusal}
use Rattle.state.specs.Replies.{Reply}
use Rattle.numbered.specs.Numbers.{turn_answer, reply_answer}
use Rattle.migration.specs.Calls.{open_reply, open_call, order_call, close_call, turn_call}
use Rattle.migration.specs.Claim.{Claim}
use Rattle.migration.specs.Courses.{Call, order, turn, close, Course, call, run, opening}
use Rattle.migration.specs.declared.Migrated.{Migrated}
use Rattle.migration.specs.declared.Migration.{Migration}

-- ---- calls as numbers: 1 is an order to worker w, 2 a turn of it, and any other number a close
abbrev pub call_of : (op w : ℕ) → Call
call_of op w = cond (eqb op 1) (order w) (cond (eqb op 2) (turn w) close)

-- the first i calls, in order
unfoldable pub calls_of : (ops workers : List ℕ) → ℕ → List Call
calls_of ops workers zero = []
calls_of ops workers (suc i) = calls_of ops workers i ++ (call_of (get_or ops i 0) (get_or workers i 0) ∷ [])

-- as many as the shortest of the three lists has, the last of which is lent for the answers
abbrev pub calls_lent : (ops workers out : List ℕ) → List Call
calls_lent ops workers out = calls_of ops workers (min (min (length ops) (length workers)) (length out))

-- what is promised of them. Proved in proofs/Listed
pub record CallsPromise : Type 0 where
  pub orders : (w : ℕ) → call_of 1 w ≡ order w
  pub turns : (w : ℕ) → call_of 2 w ≡ turn w
  pub closes : (op w : ℕ) → op ≢ 1 → op ≢ 2 → call_of op w ≡ close
  -- call i has what stands at place i of each list
  pub each : (ops workers out : List ℕ) (i : ℕ) → i < length (calls_lent ops workers out)
      → get_or (calls_lent ops workers out) i close ≡ call_of (get_or ops i 0) (get_or workers i 0)
  -- there are as many calls as each of the three lists has places, and no more
  pub many : (ops workers out : List ℕ) (n : ℕ)
      → (n ≤ length (calls_lent ops workers out)) ↔ ((n ≤ length ops) × (n ≤ length workers) × (n ≤ length out))

module _ (M : Model) where
  -- ---- the number of the answer of any call, and of each call of a list, the first one first
  unfoldable pub answer_of : Call → Course → ℕ
  answer_of (order w) s = reply_answer (order_call M s.migration w).reply
  answer_of (turn w) s = turn_answer (turn_call M s.migration s.old s.new w).reply
  answer_of close s = reply_answer (close_call M s.migration).reply

  unfoldable pub answers_of : List Call → Course → List ℕ
  answers_of [] s = []
  answers_of (c ∷ cs) s = answer_of c s ∷ answers_of cs (call M c s)

  -- ---- what code gives: the state, the two tables, and the list lent for the answers, in which the places behind them keep their contents
  pub record RunGives (cs : List Call) (s : Course) (out : List ℕ) (p : Migration) (old new out' : List ℕ) : Type 0 where
    pub migration : p ≡ (run M cs s).migration
    pub kept : old ≡ (run M cs s).old
    pub table : new ≡ (run M cs s).new
    pub answers : out' ≡ answers_of cs s ++ drop (length cs) out

  -- the same from a state and two tables on, whatever else a course has
  abbrev pub RunsFrom : Migration → (old new : List ℕ) → List Call → List ℕ → Migration → (old new out : List ℕ) → Type 0
  RunsFrom p old new cs out p' old' new' out' = (s : Course) → s.migration ≡ p → s.old ≡ old → s.new ≡ new → RunGives cs s out p' old' new' out'

-- ---- an opening and the calls after it
module _ (M : Model) (m : ℕ) (ab : Hash) (old new ops workers out : List ℕ) where
  -- none if the opening is refused
  abbrev pub if_accepted : Reply → List Call
  if_accepted (Ok _) = calls_lent ops workers out
  if_accepted (Err r) = []

  abbrev pub dealt : List Call
  dealt = if_accepted (open_reply M m ab old new)

  pub record Ran (r : Migrated) (old' new' out' : List ℕ) : Type 0 where
    pub reply : r.reply ≡ open_reply M m ab old new
    pub gives : RunGives M dealt (opening M m ab old new) out r.migration old' new' out'

  -- the number of the opening's answer, the two tables after the calls, and the list lent for the answers
  pub record MoveNumbers (r : ℕ) (old' new' out' : List ℕ) : Type 0 where
    pub reply : r ≡ reply_answer (open_reply M m ab old new)
    pub kept : old' ≡ (run M dealt (opening M m ab old new)).old
    pub table : new' ≡ (run M dealt (opening M m ab old new)).new
    pub answers : out' ≡ answers_of M dealt (opening M m ab old new) ++ drop (length dealt) out

  -- what is promised of the calls where the opening is accepted
  abbrev pub MovePromised : Type 0
  MovePromised = open_reply M m ab old new ≡ Ok tt → Claim M m ab old new dealt

-- ---- which calls are dealt: where the opening is accepted all that are lent, and it is of these that all is promised; else none. Proved in proofs/Dealt
pub record Dealt (M : Model) (m : ℕ) (ab : Hash) (old new ops workers out : List ℕ) : Type 0 where
  pub accepted : (open_call M m ab old new).reply ≡ Ok tt → dealt M m ab old new ops workers out ≡ calls_lent ops workers out
  pub promised : MovePromised M m ab old new ops workers out → (open_call M m ab old new).reply ≡ Ok tt → Claim M m ab old new (calls_lent ops workers out)
  pub refused : (r : Refusal) → (open_call M m ab old new).reply ≡ Err r → dealt M m ab old new ops workers out ≡ []

abbrev pub DealtPromise : Type 0
DealtPromise = (M : Model) (m : ℕ) (ab : Hash) (old new ops workers out : List ℕ) → Dealt M m ab old new ops workers out
