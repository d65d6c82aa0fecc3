-- Demand 3 for migrations (document 02: move shifts): what is promised of every list of order, turn and close calls from an accepted opening on, refused calls
-- included, however the turns fall. Proved in proofs/Theorem.
use Rattle.std.specs.Prelude.{◌≡◌, ◌≢◌, ◌↔◌, ◌⊎◌, true, false, List, [], ◌∷◌, ◌++◌, map, ℕ, zero, suc, ◌+◌, ◌≤◌, ◌<◌, T, length, get_or, Ok}
use Rattle.ring.specs.Counting.{count}
use Rattle.layout.specs.Layout.{In}
use Rattle.layout.specs.Sound.{Holds, Ordered}
use Rattle.homes.specs.declared.Hash.{Hash}
use Rattle.prices.specs.Contents.{label, cell_ok}
use Rattle.prices.specs.Priced.{labels, priced_layout}
use Rattle.phases.specs.Promise.{most_steps}
use Rattle.state.specs.Model.{Model, Proper, model_of}
use Rattle.state.specs.declared.Device.{Device}
use Rattle.protocol.specs.Promise.{SoundIn}
use Rattle.history.specs.History.{worked}
use Rattle.history.specs.Promise.{SameHomes}
use Rattle.migration.specs.Calls.{task_at, is_well_formed, open_reply, refused_migration, order_call, turn_check, turn_call, turn_old, turn_new}
use Rattle.migration.specs.Courses.{Call, order, turn, close, Course, turn_replies, opening, after}
use Rattle.migration.specs.Tasks.{free, load_of, Spot, in_old, in_new, spot_of}
use Rattle.migration.specs.declared.Carrier.{Carrier}
use Rattle.migration.specs.declared.Migration.{Migration}
use Rattle.migration.specs.declared.Task.TheVariants.{Fetching}

-- ---- the bound: n old cells, l new ones, m workers, K accepted orders. Reading its old cell costs each order one turn, however long the old table is
abbrev pub most_turns : (n l m K : ℕ) → ℕ
most_turns n l m K = most_steps l m K + K

-- the formula, computed: without orders no turn is counted; two workers with four orders, from five cells to seven
pub record FormulaPromise : Type 0 where
  pub none : (n l m : ℕ) → most_turns n l m 0 ≡ 1
  pub five : most_turns 5 7 2 4 ≡ 134853
  -- it does not grow with the old length
  pub old_length : (n n' l m K : ℕ) → most_turns n l m K ≡ most_turns n' l m K

-- the entries in the new table and those that the workers carry there
abbrev pub present : Course → List ℕ
present s = s.new ++ map (λ (c : Carrier). load_of c.task) s.migration.carriers

-- old cell c was handed out, and no worker is yet to read it
abbrev pub Fetched : Migration → ℕ → Type 0
Fetched p c = (c < p.next) × ((w : ℕ) → task_at p w ≢ Fetching c)

-- what was opened stays
pub record AsOpened (n l m : ℕ) (ab : Hash) (s : Course) : Type 0 where
  pub kind : s.migration.kind ≡ 4
  pub from : s.migration.source ≡ n
  pub to : s.migration.length ≡ l
  pub crew : s.migration.crew ≡ m
  pub hash : s.migration.hash ≡ ab
  pub sized : length s.new ≡ l

-- ---- one list of calls, closed or not
module _ (M : Model) (m : ℕ) (ab : Hash) (old new : List ℕ) (cs : List Call) where
  pub record Claim : Type 0 where
    -- the old table is as it was, at every moment
    pub unchanged : (after M m ab old new cs).old ≡ old
    -- once a close is accepted, the new table is the canonical layout, at its own length, of what the old one holds
    pub closed : (after M m ab old new cs).closed ≡ true
        → (after M m ab old new cs).new ≡ priced_layout (length new) label (M.home ab (length new)) old
    -- it has the same labels at the same prices, and nothing else
    pub same : (after M m ab old new cs).closed ≡ true → (y : ℕ) → label y ≢ 0 → In y (after M m ab old new cs).new ↔ In y old
    -- it is sound, and closed or not every cell is empty or has a key with a price from 1 to 9,999,999
    pub sound : (after M m ab old new cs).closed ≡ true → SoundIn M ab (after M m ab old new cs).new
    pub cells : (j : ℕ) → T (cell_ok (get_or (after M m ab old new cs).new j 0))
    -- at every moment every key's path holds only greater keys, and a cell is left empty
    pub ordering : Ordered (length new) (M.home ab (length new)) (labels label (after M m ab old new cs).new)
    pub gap : Holds (length new) (after M m ab old new cs).new 0
    -- what stands in the new table or is carried there is the entry of an old cell that was handed out and has been read; and of each old cell that was handed
    -- out the entry stands in the new table, is carried there, or is yet to be read
    pub only : (y : ℕ) → label y ≢ 0 → In y (present (after M m ab old new cs))
        → (c : ℕ) × Fetched (after M m ab old new cs).migration c × (get_or old c 0 ≡ y)
    pub kept : (c : ℕ) → c < (after M m ab old new cs).migration.next → label (get_or old c 0) ≢ 0
        → In (get_or old c 0) (present (after M m ab old new cs)) ⊎ ((w : ℕ) × (task_at (after M m ab old new cs).migration w ≡ Fetching c))
    -- the record is shut exactly if a close was accepted, and then every old cell was handed out
    pub shut : (after M m ab old new cs).migration.shut ≡ (after M m ab old new cs).closed
    pub whole : (after M m ab old new cs).closed ≡ true → (after M m ab old new cs).accepted ≡ length old
    -- no record is ever ill-formed
    pub formed : is_well_formed M (after M m ab old new cs).migration ≡ true
    pub numbers : AsOpened (length old) (length new) m ab (after M m ab old new cs)
    -- the accepted orders have taken the old cells one by one
    pub one_each : (after M m ab old new cs).migration.next ≡ (after M m ab old new cs).accepted
    pub at_most : (after M m ab old new cs).accepted ≤ length old
    -- a worker is free exactly if it has no unfinished order
    pub unfinished : (w : ℕ) → (get_or (after M m ab old new cs).unfinished w false ≡ false) ↔ (task_at (after M m ab old new cs).migration w ≡ free)
    -- until the close a free worker's order is accepted while old cells remain
    pub accepts : (after M m ab old new cs).closed ≡ false → (after M m ab old new cs).accepted < length old
        → (w : ℕ) → w < m → task_at (after M m ab old new cs).migration w ≡ free → (order_call M (after M m ab old new cs).migration w).reply ≡ Ok tt
    -- the counted turns are those of the list that were not refused and whose worker had an unfinished order, as their answers tell
    pub counts : (after M m ab old new cs).counted ≡ count worked (turn_replies M cs (opening M m ab old new))
    -- they are fewer than the formula
    pub bounded : (after M m ab old new cs).counted < most_turns (length old) (length new) m (after M m ab old new cs).accepted

abbrev pub CoursePromise : Type 0
CoursePromise =
    (M : Model) → Proper M → (m : ℕ) (ab : Hash) (old new : List ℕ) → open_reply M m ab old new ≡ Ok tt → (cs : List Call) → Claim M m ab old new cs

-- ---- what a refused opening hands back stays as it is, whatever is called
abbrev pub RefusedPromise : Type 0
RefusedPromise = (M : Model) (m : ℕ) (ab : Hash) (old new : List ℕ) → open_reply M m ab old new ≢ (Ok tt) → (cs : List Call)
    → ((after M m ab old new cs).migration ≡ refused_migration M) × ((after M m ab old new cs).old ≡ old) × ((after M m ab old new cs).new ≡ new)

-- ---- two migrations so closed, of the same labels at the same prices into tables of one length, leave equal tables if homes are computed alike there, also in
-- two models, from old tables of whatever lengths and with whatever workers and turns
abbrev pub OneTable : (M M' : Model) → Type 0
OneTable M M' = (m m' : ℕ) (ab ab' : Hash) (old old' new new' : List ℕ) → length new ≡ length new' → SameHomes M M' ab ab' (length new)
    → open_reply M m ab old new ≡ Ok tt → open_reply M' m' ab' old' new' ≡ Ok tt → ((y : ℕ) → label y ≢ 0 → In y old ↔ In y old')
    → (cs cs' : List Call) → (after M m ab old new cs).closed ≡ true → (after M' m' ab' old' new' cs').closed ≡ true
    → (after M m ab old new cs).new ≡ (after M' m' ab' old' new' cs').new

abbrev pub OneTablePromise : Type 0
OneTablePromise = (M M' : Model) → Proper M → Proper M' → OneTable M M'

-- ---- the way to the close, from any moment on
-- an order and a turn for each worker below w, before further calls; r such rounds for m workers, and then a close
unfoldable pub visits : ℕ → List Call → List Call
visits zero cs = cs
visits (suc w) cs = visits w (order w ∷ turn w ∷ cs)

unfoldable pub rounds : (m r : ℕ) → List Call
rounds m zero = close ∷ []
rounds m (suc r) = visits m (rounds m r)

-- however the calls fell so far, so many rounds close the migration
abbrev pub Closable : Model → Type 0
Closable M = (m : ℕ) (ab : Hash) (old new : List ℕ) → open_reply M m ab old new ≡ Ok tt → (cs : List Call)
    → (after M m ab old new (cs ++ rounds m (length old + most_turns (length old) (length new) m (length old)))).closed ≡ true

-- in each model that allows no shift without a worker, and so in each of the documents'
abbrev pub EndsPromise : Type 0
EndsPromise = (M : Model) → Proper M → 0 < M.fewest_workers → Closable M

abbrev pub EachEnds : Type 0
EachEnds = (d : Device) → Closable (model_of d)

-- ---- two turns, for any records and tables: a turn depends on a and b, both lengths, its worker's record and its one cell alone
-- the content of a spot
abbrev pub seen : (old new : List ℕ) → Spot → ℕ
seen old new Spot.nowhere = 0
seen old new (in_old c) = get_or old c 0
seen old new (in_new c) = get_or new c 0

pub record Alike (M : Model) (p q : Migration) (old old' new new' : List ℕ) (w z : ℕ) : Type 0 where
  -- they answer alike, and leave the worker's record and the cell alike
  pub replies : (turn_call M p old new w).reply ≡ (turn_call M q old' new' z).reply
  pub records : task_at (turn_call M p old new w).migration w ≡ task_at (turn_call M q old' new' z).migration z
  pub cells : seen (turn_old M p old new w) (turn_new M p old new w) (spot_of (task_at p w))
      ≡ seen (turn_old M q old' new' z) (turn_new M q old' new' z) (spot_of (task_at p w))
  -- no other cell or worker's record changes, and in the old table no cell at all
  pub unchanged : turn_old M p old new w ≡ old
  pub other_cells : (c : ℕ) → spot_of (task_at p w) ≢ in_new c → get_or (turn_new M p old new w) c 0 ≡ get_or new c 0
  pub other_workers : (v : ℕ) → v ≢ w → task_at (turn_call M p old new w).migration v ≡ task_at p v
  pub sized : length (turn_new M p old new w) ≡ length new

abbrev pub TwoTurns : Model → Type 0
TwoTurns M = (p q : Migration) (old old' new new' : List ℕ) (w z : ℕ) → turn_check M p old new w ≡ Ok tt → turn_check M q old' new' z ≡ Ok tt
    → p.hash ≡ q.hash → length old ≡ length old' → length new ≡ length new' → task_at p w ≡ task_at q z
    → seen old new (spot_of (task_at p w)) ≡ seen old' new' (spot_of (task_at p w))
    → Alike M p q old old' new new' w z

abbrev pub TwoTurnsPromise : Type 0
TwoTurnsPromise = (M : Model) → TwoTurns M

-- in the documents' models, in one or in one and the other, by one a and b. Nothing is left to assume
abbrev pub BothOneTable : Type 0
BothOneTable = (d d' : Device) (m m' : ℕ) (ab : Hash) (old old' new new' : List ℕ) → length new ≡ length new'
    → open_reply (model_of d) m ab old new ≡ Ok tt → open_reply (model_of d') m' ab old' new' ≡ Ok tt → ((y : ℕ) → label y ≢ 0 → In y old ↔ In y old')
    → (cs cs' : List Call) → (after (model_of d) m ab old new cs).closed ≡ true → (after (model_of d') m' ab old' new' cs').closed ≡ true
    → (after (model_of d) m ab old new cs).new ≡ (after (model_of d') m' ab old' new' cs').new
