-- The forms that a worked example may have, and what an example of each form says of tables that are used with a and b. Numbers of refusals are the
-- documents', 0 where there is none.
use Rattle.std.specs.Prelude.{◌≡◌, ◌≢◌, Bool, true, false, List, [], ◌∷◌, map, ℕ, zero, suc, ◌≤◌, length, set, replicate, Ok}
use Rattle.homes.specs.Homes.{plain, spread}
use Rattle.homes.specs.declared.Hash.{Hash}
use Rattle.prices.specs.Contents.{label, SoundTable}
use Rattle.prices.specs.Priced.{priced_layout}
use Rattle.orders.specs.declared.Order.{Order}
use Rattle.words.specs.Words.{occupied, filled, group, word_of, place_of, passed}
use Rattle.activities.specs.declared.Activity.{Activity}
use Rattle.activities.specs.declared.Activity.TheVariants as activity
use Rattle.activities.specs.declared.Worker.{Worker}
use Rattle.rule.specs.declared.Answer.{Answer}
use Rattle.rule.specs.Schedules.{Schedule, Closes}
use Rattle.state.specs.Counts.{count_number, count_value}
use Rattle.state.specs.Model.{Model, gateway}
use Rattle.state.specs.Open.{open_reply, open_call}
use Rattle.state.specs.Refusals.{reply_number}
use Rattle.state.specs.declared.Phase.{Phase}
use Rattle.protocol.specs.Calls.{turn_number, close_call, order_call, turn_call, turn_table}
use Rattle.tables.specs.Calls.{check_call, count_call, list_call, list_after, list_front}
use Rattle.history.specs.History.{Call, order, turn, after}
use Rattle.history.specs.History as history
use Rattle.numbered.specs.Lists.{answers_of}
use Rattle.numbered.specs.Numbers as numbers

-- n cells, all empty
abbrev pub empty_cells : ℕ → List ℕ
empty_cells n = replicate n 0

-- ---- phase states, written out
-- of kind k with n cells and m workers, by a and b; and with a of 1 and b of 0
abbrev pub phase_by : Hash → (k n m : ℕ) → Bool → List Worker → Phase
phase_by ab k n m shut ws = record { kind = k; length = n; crew = m; shut = shut; hash = ab; workers = ws }

abbrev pub phase : (k n m : ℕ) → Bool → List Worker → Phase
phase k n m shut ws = phase_by plain k n m shut ws

abbrev pub worker : Activity → Worker
worker a = record { activity = a }

-- the places for workers
abbrev pub all_idle : List Worker
all_idle = replicate 16 (worker activity.Idle)

-- an open phase of m workers, of which worker w is doing a and the others are idle
abbrev pub busy_by : Hash → (k n m w : ℕ) → Activity → Phase
busy_by ab k n m w a = phase_by ab k n m false (set all_idle w (worker a))

abbrev pub busy_one : (k n m w : ℕ) → Activity → Phase
busy_one k n m w a = busy_by plain k n m w a

-- the same for one worker alone
abbrev pub alone_by : Hash → (k n : ℕ) → Activity → Phase
alone_by ab k n a = busy_by ab k n 1 0 a

abbrev pub alone : (k n : ℕ) → Activity → Phase
alone k n a = alone_by plain k n a

-- what a refused opening hands back: a shut record of kind 3, length 2 and one worker, all idle, with a of 1 and b of 0
abbrev pub handed_back : Phase
handed_back = phase 3 2 1 true all_idle

-- ---- orders: by line i of the list, which insert phases (put-in shifts) read, and of key v for worker w, which the others read
abbrev pub line : ℕ → Call
line i = order i 0 0

abbrev pub handed : (w v : ℕ) → Call
handed w v = order 0 w v

-- ---- a call with the number of its answer (numbered/specs/Numbers)
pub record Told : Type 0 where
  pub call : Call
  pub answer : ℕ

abbrev pub told : Call → ℕ → Told
told c a = record { call = c; answer = a }

-- accepted, or refused with a number
abbrev pub ok : Call → Told
ok c = told c 0

abbrev pub refuses : Call → ℕ → Told
refuses c r = told c (numbers.refused r)

-- a turn of worker w that answers went on, finished, a price, no or idle
abbrev pub on : ℕ → Told
on w = told (turn w) (numbers.word 1)

-- r turns that go on, put before further calls
unfoldable pub ons : ℕ → ℕ → List Told → List Told
ons zero w cs = cs
ons (suc r) w cs = on w ∷ ons r w cs

abbrev pub done : ℕ → Told
done w = told (turn w) (numbers.word 2)

abbrev pub found : (w cents : ℕ) → Told
found w cents = told (turn w) cents

abbrev pub missing : ℕ → Told
missing w = told (turn w) (numbers.word 4)

abbrev pub rests : ℕ → Told
rests w = told (turn w) (numbers.word 5)

-- ---- the forms
pub data Example : Type 0 where
  -- the layout of these entries in n cells is this table
  laid : (n : ℕ) (entries table : List ℕ) → Example
  -- the table is not sound
  unsound : (table : List ℕ) → Example
  -- the occupancy word of group g, and where the group's keys start in the list
  word : (table : List ℕ) (g w place : ℕ) → Example
  -- the step for a group of these cells, lent this list, gives the number c and leaves this list; the steps for groups 0 to g - 1 of a table leave this
  -- list
  stepping : (cells out : List ℕ) (c : ℕ) (after : List ℕ) → Example
  passing : (table out : List ℕ) (g : ℕ) (after : List ℕ) → Example
  -- check and count answer with this number, and the count gives c
  counting : (table : List ℕ) (number c : ℕ) → Example
  -- listing into a lent list answers with this number and count, and leaves this list and this front part
  listing : (table out : List ℕ) (number c : ℕ) (after front : List ℕ) → Example
  -- in the model M an opening of kind k with m workers, lent these orders, answers with this number, and gives this phase state
  opening : (M : Model) (k m : ℕ) (table : List ℕ) (orders : List Order) (number : ℕ) (p : Phase) → Example
  -- an order call on the phase state p, lent these orders, by line i or for worker w and key v, answers with this number, and gives the phase state q
  ordering : (p : Phase) (orders : List Order) (i w v number : ℕ) (q : Phase) → Example
  -- a close call on the phase state p answers with this number, and gives the phase state q
  ending : (p : Phase) (number : ℕ) (q : Phase) → Example
  -- openings without orders, check, count and list on n empty cells answer with this number; the count gives 0, and the list stays as it is
  empties : (n number : ℕ) → Example
  -- check, count, list and the openings of every kind refuse the table with this number, whatever crew, orders and list they are lent within the limits;
  -- the list stays as it is
  marked : (table : List ℕ) (number : ℕ) → Example
  -- from an opening of kind k with m workers on the table, lent these orders, each call is answered as told; so many turns are counted; in the end the
  -- phase is closed, its state has what was opened, and this table is left
  calling : (k m : ℕ) (table : List ℕ) (orders : List Order) (calls : List Told) (counted : ℕ) (closed : List ℕ) → Example
  -- one turn of a worker that is doing a, alone in a phase of kind k: it answers r and leaves the worker doing b, and this table
  tracing : (k : ℕ) (table : List ℕ) (a : Activity) (r : Answer) (b : Activity) (after : List ℕ) → Example
  -- a turn of worker w is refused with this number, and phase state and table keep their contents
  refusing : (p : Phase) (table : List ℕ) (w number : ℕ) → Example
  -- the calls never answer 13 on the phase state p, and always on q
  bound : (p q : Phase) → Example
  -- a schedule of a phase closes as written
  closing : (s : Schedule) → Example

-- ---- what an example says
-- the calls on p are refused with 13, whatever list, line, worker, key and table they get; and in no case
abbrev pub Spoilt : Phase → Type 0
Spoilt p = (os : List Order) (i w v : ℕ) (t : List ℕ)
    → (reply_number (order_call gateway p os i w v).reply ≡ 13)
    × (turn_number (turn_call gateway p t w).reply ≡ 13)
    × (reply_number (close_call gateway p).reply ≡ 13)

abbrev pub Unspoilt : Phase → Type 0
Unspoilt p = (os : List Order) (i w v : ℕ) (t : List ℕ)
    → (reply_number (order_call gateway p os i w v).reply ≢ 13)
    × (turn_number (turn_call gateway p t w).reply ≢ 13)
    × (reply_number (close_call gateway p).reply ≢ 13)

abbrev pub calls_of : List Told → List Call
calls_of cs = map (λ (c : Told). c.call) cs

abbrev pub answers_told : List Told → List ℕ
answers_told cs = map (λ (c : Told). c.answer) cs

abbrev pub Says : Hash → Example → Type 0
Says ab (laid n es t) = priced_layout n label (spread ab n) es ≡ t
Says ab (unsound t) = SoundTable (length t) (spread ab (length t)) t → ⊥
Says ab (word t g w place) = (word_of (group t g) ≡ w) × (place_of t g ≡ place)
Says ab (stepping cells out c u) = (occupied cells ≡ c) × (filled cells out ≡ u)
Says ab (passing t out g u) = passed t g out ≡ u
Says ab (counting t r c) =
    (reply_number (check_call gateway ab t) ≡ r) × (count_number (count_call gateway ab t) ≡ r) × (count_value (count_call gateway ab t) ≡ c)
Says ab (listing t out r c u front) =
    (count_number (list_call gateway ab t out) ≡ r)
    × (count_value (list_call gateway ab t out) ≡ c)
    × (list_after gateway ab t out ≡ u)
    × (list_front gateway ab t out ≡ front)
Says ab (opening M k m t os r p) = (reply_number (open_call M k m ab t os).reply ≡ r) × ((open_call M k m ab t os).phase ≡ p)
Says ab (ordering p os i w v r q) = (reply_number (order_call gateway p os i w v).reply ≡ r) × ((order_call gateway p os i w v).phase ≡ q)
Says ab (ending p r q) = (reply_number (close_call gateway p).reply ≡ r) × ((close_call gateway p).phase ≡ q)
Says ab (empties n r) =
    ((k m : ℕ) → (1 ≤ k) × (k ≤ 3) → (1 ≤ m) × (m ≤ 16) → reply_number (open_reply gateway k m ab (empty_cells n) []) ≡ r)
    × (reply_number (check_call gateway ab (empty_cells n)) ≡ r)
    × (count_number (count_call gateway ab (empty_cells n)) ≡ r)
    × (count_value (count_call gateway ab (empty_cells n)) ≡ 0)
    × ((out : List ℕ) → (count_number (list_call gateway ab (empty_cells n) out) ≡ r) × (list_after gateway ab (empty_cells n) out ≡ out))
Says ab (marked t r) =
    ((k m : ℕ) (os : List Order) → (1 ≤ k) × (k ≤ 3) → (1 ≤ m) × (m ≤ 16) → length os ≤ 65536
    → (reply_number (open_call gateway k m ab t os).reply ≡ r) × ((open_call gateway k m ab t os).phase ≡ handed_back))
    × (reply_number (check_call gateway ab t) ≡ r)
    × (count_number (count_call gateway ab t) ≡ r)
    × (count_value (count_call gateway ab t) ≡ 0)
    × ((out : List ℕ) → (count_number (list_call gateway ab t out) ≡ r) × (list_after gateway ab t out ≡ out) × (list_front gateway ab t out ≡ []))
Says ab (calling k m t os cs i u) =
    (reply_number (open_reply gateway k m ab t os) ≡ 0)
    × (answers_of gateway os (calls_of cs) (history.opening gateway k m ab t os) ≡ answers_told cs)
    × ((after gateway k m ab t os (calls_of cs)).counted ≡ i)
    × ((after gateway k m ab t os (calls_of cs)).closed ≡ true)
    × ((after gateway k m ab t os (calls_of cs)).phase ≡ phase_by ab k (length t) m true all_idle)
    × ((after gateway k m ab t os (calls_of cs)).table ≡ u)
Says ab (tracing k t a r b u) =
    (turn_call gateway (alone_by ab k (length t) a) t 0 ≡ record { phase = alone_by ab k (length t) b; reply = Ok r })
    × (turn_table gateway (alone_by ab k (length t) a) t 0 ≡ u)
Says ab (refusing p t w r) = (turn_number (turn_call gateway p t w).reply ≡ r) × ((turn_call gateway p t w).phase ≡ p) × (turn_table gateway p t w ≡ t)
Says ab (bound p q) = Unspoilt p × Spoilt q
Says ab (closing s) = Closes s

-- every example of a list holds
abbrev pub AllSay : Hash → List Example → Type 0
AllSay ab [] = Unit {0}
AllSay ab (e ∷ es) = Says ab e × AllSay ab es
