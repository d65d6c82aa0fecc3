-- What is promised of every list of events from the opening of a sound table on, however the steps fall: for every home rule, rule for
-- labels, number of cells, number of workers and kind. A claim about a list is a claim about each of its front parts too.
use Rattle.std.specs.Prelude.{◌≡◌, ◌≢◌, ◌↔◌, ◌⊎◌, List, [], ◌∷◌, ◌++◌, map, ℕ, suc, ◌+◌, ◌*◌, ◌^◌, ◌≤◌, ◌<◌, T, eqb, length, get_or, Some}
use Rattle.ring.specs.Counting.{bit, over, count}
use Rattle.layout.specs.Layout.{In, size}
use Rattle.layout.specs.Sound.{Holds, Ordered}
use Rattle.prices.specs.Contents.{label, price, price_ok, cell_ok, SoundTable}
use Rattle.prices.specs.Priced.{labels, SameLeast, PricedSound, priced_layout, without_labels}
use Rattle.activities.specs.Activities.{activity_ok, entry_of}
use Rattle.activities.specs.declared.Activity.TheVariants.{Idle}
use Rattle.rule.specs.declared.Answer.{Answer}
use Rattle.rule.specs.Rule.{touched, rule}
use Rattle.rule.specs.Events.{Said, Run, Event, step, worker, AllIdle, stepped, run, after}
use Rattle.rule.specs.Schedules.{rounds}

-- ---- the bound: n cells, W workers, K accepted operations
abbrev pub most_steps : ℕ → ℕ → ℕ → ℕ
most_steps n W K = K * ((W * (5 * n + 2) + 1) * ((n + 1) * (W * (W + 1) ^ suc W + 1) + (W + 1) ^ W) + (5 * n + 2)) + 1

-- from any moment on, without further operations, n cells and W workers take at most so many counted steps: those of 2 W + 1 operations
abbrev pub most_rest : ℕ → ℕ → ℕ
most_rest n W = most_steps n W (2 * W + 1)

-- the formula, computed: without operations no step is counted; two workers with one operation each on five cells
pub record FormulaPromise : Type 0 where
  pub none : (n W : ℕ) → most_steps n W 0 ≡ 1
  pub five : most_steps 5 2 2 ≡ 37345

-- ---- what holds after a list of events of any kind
pub record Always (k n W : ℕ) (key : ℕ → ℕ) (s : Run) : Type 0 where
  pub sized : length s.table ≡ n
  pub crew : length s.workers ≡ W
  -- no worker's activity is ill-formed
  pub formed : (w : ℕ) → T (activity_ok k n key (worker s w))
  -- the steps of workers with unfinished operations are fewer than the formula
  pub bounded : s.counted < most_steps n W (length s.ordered)

-- ---- 1. insert
-- the contents in the table and those that the workers carry
abbrev pub present : Run → List ℕ
present s = s.table ++ map entry_of s.workers

-- the labels at opening and those ordered, each counted once, are fewer than the cells
abbrev pub Roomy : ℕ → (ℕ → ℕ) → List ℕ → Run → Type 0
Roomy n key t s = size (labels key (s.ordered ++ t)) < n

-- whether they are or not:
pub record Carries (n : ℕ) (key home : ℕ → ℕ) (t : List ℕ) (s : Run) : Type 0 where
  -- every label's path holds only greater labels, and a cell without a label is empty
  pub ordering : Ordered n home (labels key s.table)
  pub whole : (j : ℕ) → key (get_or s.table j 0) ≡ 0 → get_or s.table j 0 ≡ 0
  -- the labels in the table and those carried are the labels at opening and those ordered
  pub union : (l : ℕ) → l ≢ 0 → In l (labels key (present s)) ↔ In l (labels key (s.ordered ++ t))
  -- each with the least price among that at opening and those ordered, and no content comes in that was not there or ordered
  pub prices : SameLeast key (present s) (s.ordered ++ t)
  pub only : (v : ℕ) → key v ≢ 0 → In v (present s) → In v (s.ordered ++ t)

-- where they are fewer:
pub record Inserts (n : ℕ) (key home : ℕ → ℕ) (t : List ℕ) (s : Run) : Type 0 where
  -- the room never runs out
  pub gap : Holds n s.table 0
  -- where all workers are idle, the table is the layout of the labels at opening and those ordered, each with its least price
  pub at_rest : AllIdle s → s.table ≡ priced_layout n key home (s.ordered ++ t)

-- ---- 2. find
-- the label l stands in t at price p
pub record Sold (key : ℕ → ℕ) (t : List ℕ) (l p : ℕ) : Type 0 where
  pub content : ℕ
  pub member : In content t
  pub is : key content ≡ l
  pub costs : price content ≡ p

-- each answer is a price exactly if the label ordered stands in the table at that price
abbrev pub Right : (ℕ → ℕ) → List ℕ → List Said → Type 0
Right key t [] = Unit {0}
Right key t (a ∷ others) =
    (key a.wanted ≢ 0) × ((p : ℕ) → (T a.found × (a.price ≡ p)) ↔ Sold key t (key a.wanted) p) × Right key t others

pub record Finds (W : ℕ) (key : ℕ → ℕ) (t : List ℕ) (s : Run) : Type 0 where
  pub unchanged : s.table ≡ t
  pub right : Right key t s.said
  -- for each label: the answers on it and the workers still on it are as many as the accepted operations for it
  pub each : (l : ℕ) → l ≢ 0
      → count (λ (a : Said). eqb (key a.wanted) l) s.said + over (λ _ a. bit (eqb (key (entry_of a)) l)) Idle W s.workers
      ≡ count (λ x. eqb (key x) l) s.ordered

-- ---- 3. delete
pub record Deletes (n : ℕ) (key home : ℕ → ℕ) (t : List ℕ) (s : Run) : Type 0 where
  -- a content that stood at opening and whose label is in no accepted operation is in the table, and none comes in
  pub kept : (v : ℕ) → key v ≢ 0 → In v t → (In (key v) (labels key s.ordered) → ⊥) → In v s.table
  pub only : (v : ℕ) → v ≢ 0 → In v s.table → In v t
  -- where all workers are idle, the table is the layout of the contents at opening without the labels ordered
  pub at_rest : AllIdle s → s.table ≡ priced_layout n key home (without_labels key s.ordered t)

-- ---- all three, with one bound (4.) for all
pub record Phases (n W : ℕ) (key home : ℕ → ℕ) (t : List ℕ) (es : List Event) : Type 0 where
  pub insert_always : Roomy n key t (after 1 n W key home t es) → Always 1 n W key (after 1 n W key home t es)
  pub carries : Carries n key home t (after 1 n W key home t es)
  pub inserts : Roomy n key t (after 1 n W key home t es) → Inserts n key home t (after 1 n W key home t es)
  pub delete_always : Always 2 n W key (after 2 n W key home t es)
  pub deletes : Deletes n key home t (after 2 n W key home t es)
  pub find_always : Always 3 n W key (after 3 n W key home t es)
  pub finds : Finds W key t (after 3 n W key home t es)

-- a rule that gives no label to 0, and a home rule that gives a cell below n
pub record Rules (n : ℕ) (key home : ℕ → ℕ) : Type 0 where
  pub blank : key 0 ≡ 0
  pub inside : (x : ℕ) → home x < n

abbrev pub PhasePromise : Type 0
PhasePromise = (n W : ℕ) (key home : ℕ → ℕ) → Rules n key home → (t : List ℕ) → PricedSound n key home t → (es : List Event) → Phases n W key home t es

-- two lists of one kind with the same labels ordered, in an insert phase also with the same least ordered prices, whatever the number of workers, leave
-- equal tables where all workers are idle
abbrev pub SameOrders : ℕ → (ℕ → ℕ) → List ℕ → List ℕ → Type 0
SameOrders k key xs ys = ((l : ℕ) → l ≢ 0 → In l (labels key xs) ↔ In l (labels key ys)) × (k ≡ 1 → SameLeast key xs ys)

abbrev pub OneEndPromise : Type 0
OneEndPromise = (k n W W' : ℕ) → (k ≡ 1) ⊎ (k ≡ 2) ⊎ (k ≡ 3) → (key home : ℕ → ℕ) → Rules n key home → (t : List ℕ) → PricedSound n key home t
    → (es es' : List Event)
    → (k ≡ 1 → Roomy n key t (after k n W key home t es))
    → SameOrders k key (after k n W key home t es).ordered (after k n W' key home t es').ordered
    → AllIdle (after k n W key home t es) → AllIdle (after k n W' key home t es') → (after k n W key home t es).table ≡ (after k n W' key home t es').table

-- ---- what keeps the labels fewer than the cells: every label ordered is of a list that together with the table has fewer, however often it is ordered
abbrev pub RoomPromise : Type 0
RoomPromise = (n : ℕ) (key : ℕ → ℕ) (t listed : List ℕ) (s : Run)
    → size (labels key t ++ listed) < n → ((v : ℕ) → In v s.ordered → In (key v) listed) → Roomy n key t s

-- ---- contents made of a label and a price: where every content ordered in an insert phase has a right price, every cell is right by itself at all times,
-- and where all workers are idle the table is sound again
abbrev pub PricesOk : ℕ → List ℕ → Type 0
PricesOk k ordered = k ≡ 1 → (v : ℕ) → In v ordered → T (price_ok (price v))

pub record StaysSound (k n W : ℕ) (home : ℕ → ℕ) (t : List ℕ) (es : List Event) : Type 0 where
  pub cells : (j : ℕ) → T (cell_ok (get_or (after k n W label home t es).table j 0))
  pub closed : AllIdle (after k n W label home t es) → SoundTable n home (after k n W label home t es).table

abbrev pub SoundPromise : Type 0
SoundPromise = (k n W : ℕ) → (k ≡ 1) ⊎ (k ≡ 2) ⊎ (k ≡ 3) → (home : ℕ → ℕ) → ((x : ℕ) → home x < n) → (t : List ℕ) → SoundTable n home t → (es : List Event)
    → (k ≡ 1 → Roomy n label t (after k n W label home t es)) → PricesOk k (after k n W label home t es).ordered → StaysSound k n W home t es

-- ---- the way to rest, from any moment on
-- a list of steps alone
unfoldable pub steps_of : List ℕ → List Event
steps_of [] = []
steps_of (w ∷ ws) = step w ∷ steps_of ws

-- however many operations were accepted so far, the steps still to come are bounded by the numbers of cells and workers
abbrev pub SettlesPromise : Type 0
SettlesPromise = (k n W : ℕ) → (k ≡ 1) ⊎ (k ≡ 2) ⊎ (k ≡ 3) → (key home : ℕ → ℕ) → Rules n key home → (t : List ℕ) → PricedSound n key home t
    → (es : List Event) (ws : List ℕ) → (k ≡ 1 → Roomy n key t (after k n W key home t es))
    → (run k n key home (steps_of ws) (after k n W key home t es)).counted ≤ (after k n W key home t es).counted + most_rest n W

-- so with one step for each worker in every round, more rounds than that leave all workers idle
abbrev pub RoundsPromise : Type 0
RoundsPromise = (k n W : ℕ) → (k ≡ 1) ⊎ (k ≡ 2) ⊎ (k ≡ 3) → (key home : ℕ → ℕ) → Rules n key home → (t : List ℕ) → PricedSound n key home t
    → (es : List Event) → (k ≡ 1 → Roomy n key t (after k n W key home t es))
    → AllIdle (run k n key home (rounds W (suc (most_rest n W))) (after k n W key home t es))

-- ---- 5. two steps, in any two states: worker w of s and worker u of r
-- the answer of worker w's step at cell c
abbrev pub answer_at : (k n : ℕ) → (ℕ → ℕ) → (ℕ → ℕ) → Run → ℕ → ℕ → Answer
answer_at k n key home s w c = (rule k n key home (worker s w) (get_or s.table c 0)).answer

pub record Alike (k n : ℕ) (key home : ℕ → ℕ) (s r : Run) (w u : ℕ) : Type 0 where
  -- they answer alike, and leave the record and the cell alike
  pub answers : (c : ℕ) → touched (worker s w) ≡ Some c → answer_at k n key home s w c ≡ answer_at k n key home r u c
  pub records : w < length s.workers → u < length r.workers → worker (stepped k n key home s w) w ≡ worker (stepped k n key home r u) u
  pub cells : (c : ℕ) → touched (worker s w) ≡ Some c → c < length s.table → c < length r.table
      → get_or (stepped k n key home s w).table c 0 ≡ get_or (stepped k n key home r u).table c 0

abbrev pub AlikePromise : Type 0
AlikePromise = (k n : ℕ) (key home : ℕ → ℕ) (s r : Run) (w u : ℕ) → worker s w ≡ worker r u
    → ((c : ℕ) → touched (worker s w) ≡ Some c → get_or s.table c 0 ≡ get_or r.table c 0) → Alike k n key home s r w u

-- no other cell and no other worker's record changes
pub record OthersKept (k n : ℕ) (key home : ℕ → ℕ) (s : Run) (w : ℕ) : Type 0 where
  pub cells : (c : ℕ) → touched (worker s w) ≢ Some c → get_or (stepped k n key home s w).table c 0 ≡ get_or s.table c 0
  pub workers : (u : ℕ) → u ≢ w → worker (stepped k n key home s w) u ≡ worker s u
  -- and the table keeps its length
  pub sized : length (stepped k n key home s w).table ≡ length s.table

abbrev pub OthersPromise : Type 0
OthersPromise = (k n : ℕ) (key home : ℕ → ℕ) (s : Run) (w : ℕ) → OthersKept k n key home s w
