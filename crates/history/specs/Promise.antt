-- Demand 3: what is promised of every list of order, turn and close calls from an accepted opening on, refused calls included, however the turns fall,
-- each order call lent the list of the opening.
use Rattle.std.specs.Prelude.{◌≡◌, ◌≢◌, ◌↔◌, ◌⊎◌, true, false, cond, List, [], ◌∷◌, ◌++◌, map, ℕ, ◌+◌, ◌≤◌, ◌<◌, T, eqb, length, get_or, Some, Ok}
use Rattle.ring.specs.Counting.{count}
use Rattle.layout.specs.Layout.{In}
use Rattle.layout.specs.Sound.{Ordered}
use Rattle.homes.specs.declared.Hash.{Hash}
use Rattle.prices.specs.Contents.{label, price, cell_ok}
use Rattle.prices.specs.Priced.{labels, Least, SameLeast, priced_layout, without_labels}
use Rattle.orders.specs.Orders.{blank}
use Rattle.orders.specs.declared.Order.{Order}
use Rattle.activities.specs.Activities.{entry_of}
use Rattle.rule.specs.Events.{Said}
use Rattle.rule.specs.Rule.{touched}
use Rattle.phases.specs.Promise.{most_steps, Right, SameOrders}
use Rattle.state.specs.Model.{Model, Proper, model_of, size_ok, crew_ok}
use Rattle.state.specs.Open.{open_reply, refused_phase}
use Rattle.activities.specs.declared.Activity.TheVariants.{Idle}
use Rattle.activities.specs.declared.Worker.{Worker}
use Rattle.state.specs.declared.Device.{Device}
use Rattle.state.specs.declared.Phase.{Phase}
use Rattle.protocol.specs.Bars.{doing}
use Rattle.protocol.specs.Calls.{order_call, turn_check, turn_call, turn_table}
use Rattle.protocol.specs.IsWellFormed.{is_well_formed}
use Rattle.protocol.specs.Promise.{SoundIn}
use Rattle.history.specs.History.{Call, close, History, worked, turn_replies, Lent, opening, after, after_lent}

-- the entries that a closed phase leaves, where of each key the least price counts: those at opening with every entry put in, or without every key
-- taken out, or unchanged
abbrev pub entries_after : ℕ → List ℕ → List ℕ → List ℕ
entries_after k ordered t = cond (eqb k 1) (ordered ++ t) (cond (eqb k 2) (without_labels label ordered t) t)

-- some worker carries the key v
abbrev pub Carried : History → ℕ → Type 0
Carried s v = (w : ℕ) × (label (entry_of (doing s.phase w)) ≡ v)

-- the entries in the table and those that the workers carry
abbrev pub present : History → List ℕ
present s = s.table ++ map (λ (w : Worker). entry_of w.activity) s.phase.workers

-- the entry y may be ordered in a phase of kind k: it has a key, put in one below 4,000,000,000 and a price from 1 to 9,999,999, else no price
pub record Acceptable (k y : ℕ) : Type 0 where
  pub key : label y ≢ 0
  pub shop : k ≡ 1 → label y < 4000000000
  pub priced : k ≡ 1 → (1 ≤ price y) × (price y ≤ 9999999)
  pub unpriced : k ≢ 1 → price y ≡ 0

-- the entry y has the key and the price of a line of the list
pub record OfLine (os : List Order) (y : ℕ) : Type 0 where
  pub line : ℕ
  pub inside : line < length os
  pub is : label y ≡ (get_or os line blank).key
  pub costs : price y ≡ (get_or os line blank).price

-- the phase state has the kind, the length, the worker count and the a and b of the opening, and the table its length
pub record AsOpened (k n m : ℕ) (ab : Hash) (s : History) : Type 0 where
  pub kind : s.phase.kind ≡ k
  pub cells : s.phase.length ≡ n
  pub crew : s.phase.crew ≡ m
  pub hash : s.phase.hash ≡ ab
  pub sized : length s.table ≡ n

-- ---- one list of calls, closed or not
module _ (M : Model) (k m : ℕ) (ab : Hash) (t : List ℕ) (os : List Order) (cs : List Call) where
  pub record Claim : Type 0 where
    -- once a close is accepted, the table is the canonical layout, cell for cell
    pub closed : (after M k m ab t os cs).closed ≡ true
        → (after M k m ab t os cs).table ≡ priced_layout (length t) label (M.home ab (length t)) (entries_after k (after M k m ab t os cs).ordered t)
    -- it is sound again, and closed or not every cell is empty or has a key with a price from 1 to 9,999,999
    pub sound : (after M k m ab t os cs).closed ≡ true → SoundIn M ab (after M k m ab t os cs).table
    pub cells : (j : ℕ) → T (cell_ok (get_or (after M k m ab t os cs).table j 0))
    -- put in: it has each key at the least price among that at opening and those ordered, and nothing else
    pub cheapest : k ≡ 1 → (after M k m ab t os cs).closed ≡ true → (y : ℕ) → label y ≢ 0
        → In y (after M k m ab t os cs).table ↔ Least label ((after M k m ab t os cs).ordered ++ t) y
    -- take out: it has the entries at opening whose keys were not ordered, and nothing else
    pub remaining : k ≡ 2 → (after M k m ab t os cs).closed ≡ true → (y : ℕ) → label y ≢ 0
        → In y (after M k m ab t os cs).table ↔ (In y t × (In (label y) (labels label (after M k m ab t os cs).ordered) → ⊥))
    -- the record is shut exactly if a close was accepted
    pub shut : (after M k m ab t os cs).phase.shut ≡ (after M k m ab t os cs).closed
    -- no phase state is ever ill-formed
    pub formed : is_well_formed M (after M k m ab t os cs).phase ≡ true
    -- what was opened stays
    pub numbers : AsOpened k (length t) m ab (after M k m ab t os cs)
    -- a worker is idle exactly if it has no unfinished order
    pub unfinished : (w : ℕ) → (get_or (after M k m ab t os cs).pending w 0 ≡ 0) ↔ (doing (after M k m ab t os cs).phase w ≡ Idle)
    -- the counted turns are those of the list that were not refused and whose worker had an unfinished order, as their answers tell
    pub counts : (after M k m ab t os cs).counted ≡ count worked (turn_replies M os cs (opening M k m ab t os))
    -- they are fewer than the formula
    pub bounded : (after M k m ab t os cs).counted < most_steps (length t) m (length (after M k m ab t os cs).ordered)
    -- every accepted order is for a key, in an insert phase for one below 4,000,000,000 at a price from 1 to 9,999,999
    pub acceptable : (y : ℕ) → In y (after M k m ab t os cs).ordered → Acceptable k y
    -- put in: it is of a line of the list; and until the close every line is accepted whenever its worker is idle, also one that was given before
    pub listed : k ≡ 1 → (y : ℕ) → In y (after M k m ab t os cs).ordered → OfLine os y
    pub accepts : k ≡ 1 → (after M k m ab t os cs).closed ≡ false → (i : ℕ) → i < length os
        → doing (after M k m ab t os cs).phase (get_or os i blank).worker ≡ Idle
        → (w v : ℕ) → (order_call M (after M k m ab t os cs).phase os i w v).reply ≡ Ok tt
    -- put in: every key's path holds only greater keys; the table's and the carried keys are those at opening and those ordered
    pub ordering : k ≡ 1 → Ordered (length t) (M.home ab (length t)) (labels label (after M k m ab t os cs).table)
    pub union : k ≡ 1 → (v : ℕ) → v ≢ 0
        → (In v (labels label (after M k m ab t os cs).table) ⊎ Carried (after M k m ab t os cs) v)
        ↔ (In v (labels label t) ⊎ In v (labels label (after M k m ab t os cs).ordered))
    -- each with the same least price, and no entry comes in that was neither there nor ordered
    pub prices : k ≡ 1 → SameLeast label (present (after M k m ab t os cs)) ((after M k m ab t os cs).ordered ++ t)
    pub only : k ≡ 1 → (y : ℕ) → label y ≢ 0 → In y (present (after M k m ab t os cs)) → In y ((after M k m ab t os cs).ordered ++ t)
    -- take out: an entry that stood at opening and whose key is in no accepted order is in the table, price included, and none comes in
    pub kept : k ≡ 2 → (y : ℕ) → label y ≢ 0 → In y t
        → (In (label y) (labels label (after M k m ab t os cs).ordered) → ⊥) → In y (after M k m ab t os cs).table
    pub none_new : k ≡ 2 → (y : ℕ) → y ≢ 0 → In y (after M k m ab t os cs).table → In y t
    -- look up: the table is unchanged; finished look-ups said a price exactly if their key stands in it at that price; each accepted order has its answer
    -- or is unfinished
    pub unchanged : k ≡ 3 → (after M k m ab t os cs).table ≡ t
    pub right : k ≡ 3 → Right label t (after M k m ab t os cs).said
    pub each : k ≡ 3 → (v : ℕ) → v ≢ 0
        → count (λ (a : Said). eqb (label a.wanted) v) (after M k m ab t os cs).said + count (λ x. eqb (label x) v) (after M k m ab t os cs).pending
        ≡ count (λ x. eqb (label x) v) (after M k m ab t os cs).ordered

abbrev pub HistoryPromise : Type 0
HistoryPromise =
    (M : Model) → Proper M → (k m : ℕ) (ab : Hash) (t : List ℕ) (os : List Order) → open_reply M k m ab t os ≡ Ok tt
    → (cs : List Call) → Claim M k m ab t os cs

-- ---- the same where every order call is lent a list of its own, altered or not: layout and bound are not promised, since the labels may be too many
module _ (M : Model) (k m : ℕ) (ab : Hash) (t : List ℕ) (os : List Order) (cs : List Lent) where
  pub record AnyLists : Type 0 where
    -- put in: every key's path holds only greater keys; the table's and the carried keys are those at opening and those ordered, each with the same least
    -- price, and no entry comes in that was neither there nor ordered
    pub ordering : k ≡ 1 → Ordered (length t) (M.home ab (length t)) (labels label (after_lent M k m ab t os cs).table)
    pub union : k ≡ 1 → (v : ℕ) → v ≢ 0
        → (In v (labels label (after_lent M k m ab t os cs).table) ⊎ Carried (after_lent M k m ab t os cs) v)
        ↔ (In v (labels label t) ⊎ In v (labels label (after_lent M k m ab t os cs).ordered))
    pub prices : k ≡ 1 → SameLeast label (present (after_lent M k m ab t os cs)) ((after_lent M k m ab t os cs).ordered ++ t)
    pub only : k ≡ 1 → (y : ℕ) → label y ≢ 0 → In y (present (after_lent M k m ab t os cs)) → In y ((after_lent M k m ab t os cs).ordered ++ t)
    -- whatever the lists, every accepted order is one that may be accepted
    pub acceptable : (y : ℕ) → In y (after_lent M k m ab t os cs).ordered → Acceptable k y
    -- so no key from 4,000,000,000 up, for factory tests, comes into the table in any kind of phase: whichever stands there stood there at opening
    pub no_test : (y : ℕ) → 4000000000 ≤ label y → In y (after_lent M k m ab t os cs).table → In y t
    -- take out and look up read no list: all is as after the same calls with the list of the opening
    pub unread : k ≢ 1 → after_lent M k m ab t os cs ≡ after M k m ab t os (map (λ (c : Lent). c.asks) cs)

abbrev pub AnyListsPromise : Type 0
AnyListsPromise =
    (M : Model) → Proper M → (k m : ℕ) (ab : Hash) (t : List ℕ) (os : List Order) → open_reply M k m ab t os ≡ Ok tt
    → (cs : List Lent) → AnyLists M k m ab t os cs

-- ---- what a refused opening hands back stays as it is, whatever is called; and it is well formed within limits that allow 2 cells and one worker
abbrev pub RefusedPromise : Type 0
RefusedPromise = (M : Model) (k m : ℕ) (ab : Hash) (t : List ℕ) (os : List Order) → open_reply M k m ab t os ≢ (Ok tt) → (cs : List Call)
    → ((after M k m ab t os cs).phase ≡ refused_phase M) × (size_ok M 2 ≡ true → crew_ok M 1 ≡ true → is_well_formed M (after M k m ab t os cs).phase ≡ true)

-- ---- without orders, from one opening on
pub record KeepsTable (M : Model) (k m : ℕ) (ab : Hash) (t : List ℕ) (os : List Order) : Type 0 where
  -- a phase opened and closed is closed, and keeps its table
  pub at_once : ((after M k m ab t os (close ∷ [])).closed ≡ true) × ((after M k m ab t os (close ∷ [])).table ≡ t)
  -- so does any list of calls, closed or not, in which no order is accepted
  pub no_orders : (cs : List Call) → (after M k m ab t os cs).ordered ≡ [] → (after M k m ab t os cs).table ≡ t

abbrev pub KeepsTablePromise : Type 0
KeepsTablePromise = (M : Model) → Proper M → (k m : ℕ) (ab : Hash) (t : List ℕ) (os : List Order) → open_reply M k m ab t os ≡ Ok tt
    → KeepsTable M k m ab t os

-- ---- homes are computed alike in tables of n cells, as they are with equal a and b in models of one rule
abbrev pub SameHomes : (M M' : Model) (ab ab' : Hash) (n : ℕ) → Type 0
SameHomes M M' ab ab' n = (x : ℕ) → M.home ab n x ≡ M'.home ab' n x

-- ---- a closed table is fixed by its keys and the least price of each: two lists so closed, of whatever kinds, opened on tables of one length, leave
-- equal tables if the entries that they leave have the same keys, each with the same least price, and homes are computed alike: with equal a and b, also in
-- two models of one rule
abbrev pub Fixed : (M M' : Model) → Type 0
Fixed M M' = (k k' m m' : ℕ) (ab ab' : Hash) (t t' : List ℕ) (os os' : List Order) → length t ≡ length t'
    → SameHomes M M' ab ab' (length t)
    → open_reply M k m ab t os ≡ Ok tt → open_reply M' k' m' ab' t' os' ≡ Ok tt → (cs cs' : List Call)
    → SameLeast label (entries_after k (after M k m ab t os cs).ordered t) (entries_after k' (after M' k' m' ab' t' os' cs').ordered t')
    → (after M k m ab t os cs).closed ≡ true → (after M' k' m' ab' t' os' cs').closed ≡ true
    → (after M k m ab t os cs).table ≡ (after M' k' m' ab' t' os' cs').table

abbrev pub FixedPromise : Type 0
FixedPromise = (M M' : Model) → Proper M → Proper M' → Fixed M M'

-- ---- two lists so closed, of one kind, opened on equal tables and with the same set of keys in their accepted orders, in insert phases also with
-- the same least ordered price of each, leave equal tables, whatever else stood in their lists of orders, if homes are computed alike: with equal a and b,
-- also in two models of one rule
abbrev pub OneTable : (M M' : Model) → Type 0
OneTable M M' = (k m m' : ℕ) (ab ab' : Hash) (t : List ℕ) (os os' : List Order)
    → SameHomes M M' ab ab' (length t)
    → open_reply M k m ab t os ≡ Ok tt → open_reply M' k m' ab' t os' ≡ Ok tt → (cs cs' : List Call)
    → SameOrders k label (after M k m ab t os cs).ordered (after M' k m' ab' t os' cs').ordered
    → (after M k m ab t os cs).closed ≡ true → (after M' k m' ab' t os' cs').closed ≡ true
    → (after M k m ab t os cs).table ≡ (after M' k m' ab' t os' cs').table

abbrev pub OneTablePromise : Type 0
OneTablePromise = (M M' : Model) → Proper M → Proper M' → OneTable M M'

-- in the documents' models, twice in one or in one and the other, by one a and b: a table that both may open closes alike in both. Nothing is left to assume
abbrev pub BothOneTable : Type 0
BothOneTable = (d d' : Device) (k m m' : ℕ) (ab : Hash) (t : List ℕ) (os os' : List Order)
    → open_reply (model_of d) k m ab t os ≡ Ok tt → open_reply (model_of d') k m' ab t os' ≡ Ok tt → (cs cs' : List Call)
    → SameOrders k label (after (model_of d) k m ab t os cs).ordered (after (model_of d') k m' ab t os' cs').ordered
    → (after (model_of d) k m ab t os cs).closed ≡ true → (after (model_of d') k m' ab t os' cs').closed ≡ true
    → (after (model_of d) k m ab t os cs).table ≡ (after (model_of d') k m' ab t os' cs').table

-- ---- two turns, for any phase states and tables: a turn depends on the kind, a and b, the length, its worker's record and its one cell alone
pub record Alike (M : Model) (p q : Phase) (t u : List ℕ) (w z : ℕ) : Type 0 where
  -- they answer alike, and leave the worker's record and the cell alike
  pub replies : (turn_call M p t w).reply ≡ (turn_call M q u z).reply
  pub records : doing (turn_call M p t w).phase w ≡ doing (turn_call M q u z).phase z
  pub cells : (c : ℕ) → touched (doing p w) ≡ Some c → get_or (turn_table M p t w) c 0 ≡ get_or (turn_table M q u z) c 0
  -- no other cell or worker's record changes
  pub other_cells : (c : ℕ) → touched (doing p w) ≢ Some c → get_or (turn_table M p t w) c 0 ≡ get_or t c 0
  pub other_workers : (v : ℕ) → v ≢ w → doing (turn_call M p t w).phase v ≡ doing p v
  pub sized : length (turn_table M p t w) ≡ length t

abbrev pub TwoTurns : Model → Type 0
TwoTurns M = (p q : Phase) (t u : List ℕ) (w z : ℕ) → turn_check M p t w ≡ Ok tt → turn_check M q u z ≡ Ok tt
    → p.kind ≡ q.kind → p.hash ≡ q.hash → length t ≡ length u → doing p w ≡ doing q z → ((c : ℕ) → touched (doing p w) ≡ Some c → get_or t c 0 ≡ get_or u c 0)
    → Alike M p q t u w z

abbrev pub TwoTurnsPromise : Type 0
TwoTurnsPromise = (M : Model) → TwoTurns M
