-- Demand 1 for the calls on a migration (document 02: move shift): each refusal is given in its cases and in no other, the first to apply wins, and a refusal
-- changes nothing. And what a call that is not refused answers, changes and leaves. Proved in proofs/Protocol, Turning, Formed and Keeping.
use Rattle.std.specs.Prelude.{◌≡◌, ◌≢◌, ◌↔◌, ◌⊎◌, Bool, true, false, List, [], ◌∷◌, ◌++◌, ℕ, suc, ◌≤◌, ◌<◌, length, get_or, Ok}
use Rattle.layout.specs.Layout.{size}
use Rattle.homes.specs.Homes.{plain}
use Rattle.homes.specs.declared.Hash.{Hash}
use Rattle.prices.specs.Contents.{label}
use Rattle.prices.specs.Priced.{labels}
use Rattle.orders.specs.declared.Order.{Order}
use Rattle.activities.specs.declared.Activity.{Activity}
use Rattle.activities.specs.declared.Activity.TheVariants.{Reading}
use Rattle.rule.specs.declared.Answer.{Answer}
use Rattle.rule.specs.declared.Answer.TheVariants.{WentOn, Finished}
use Rattle.rule.specs.declared.Answer.TheVariants as answer
use Rattle.state.specs.Model.{Model, Proper, model_of}
use Rattle.state.specs.Open as plainly
use Rattle.state.specs.Refusals.{reply_number}
use Rattle.state.specs.declared.Device.{Device}
use Rattle.state.specs.declared.Phase.{Phase}
use Rattle.protocol.specs.Bars.{doing}
use Rattle.protocol.specs.Calls as phase
use Rattle.protocol.specs.Calls.{turn_number}
use Rattle.protocol.specs.Cases.{Case, case, wants, Decides}
use Rattle.protocol.specs.Promise.{Soundness, even_cases, sound_cases}
use Rattle.protocol.specs.WellFormed.{Size, Crew}
use Rattle.migration.specs.Calls.{task_at, is_well_formed, open_reply, open_call, order_call, close_call, turn_call, turn_old, turn_new}
use Rattle.migration.specs.Tasks.{free, Allowed}
use Rattle.migration.specs.declared.Migration.{Migration}
use Rattle.migration.specs.declared.Task.{Task}
use Rattle.migration.specs.declared.Task.TheVariants.{Fetching, Inserting}

-- ---- the paper's sentence on spoilt records of a move shift; a and b are not tested
pub record WellFormed (M : Model) (p : Migration) : Type 0 where
  pub kind : p.kind ≡ 4
  pub from : Size M p.source
  pub to : Size M p.length
  pub crew : Crew M p.crew
  -- the next old cell is at most the old length
  pub handed : p.next ≤ p.source
  -- a worker past the count is idle; each cell of any other is held against its own table
  pub past : (w : ℕ) → p.crew ≤ w → task_at p w ≡ free
  pub workers : (w : ℕ) → w < p.crew → Allowed p.source p.length (task_at p w)

-- the test is the sentence
abbrev pub WellFormedPromise : Type 0
WellFormedPromise = (M : Model) (p : Migration) → is_well_formed M p ≡ true ↔ WellFormed M p

abbrev pub with_hash : Migration → Hash → Migration
with_hash p ab = record {
  kind = p.kind;
  source = p.source;
  length = p.length;
  crew = p.crew;
  next = p.next;
  shut = p.shut;
  hash = ab;
  carriers = p.carriers;
}

abbrev pub HashUntestedPromise : Type 0
HashUntestedPromise = (M : Model) (p : Migration) (ab : Hash) → WellFormed M (with_hash p ab) ↔ WellFormed M p

-- ---- no record made by an opening and its own later calls is ever spoilt
-- no call spoils a record that is well formed
pub record Keeps (M : Model) (p : Migration) : Type 0 where
  pub order : (w : ℕ) → WellFormed M (order_call M p w).migration
  pub turn : (old new : List ℕ) (w : ℕ) → WellFormed M (turn_call M p old new w).migration
  pub close : WellFormed M (close_call M p).migration

abbrev pub KeepsPromise : Type 0
KeepsPromise = (M : Model) → Proper M → (p : Migration) → WellFormed M p → Keeps M p

-- made by an opening, accepted or refused, and later calls, each with any numbers and any two tables
pub data Made (M : Model) : Migration → Type 0 where
  opened : (m : ℕ) (ab : Hash) (old new : List ℕ) → Made M (open_call M m ab old new).migration
  ordered : (p : Migration) → Made M p → (w : ℕ) → Made M (order_call M p w).migration
  turned : (p : Migration) → Made M p → (old new : List ℕ) (w : ℕ) → Made M (turn_call M p old new w).migration
  closed : (p : Migration) → Made M p → Made M (close_call M p).migration

abbrev pub NeverSpoiltPromise : Type 0
NeverSpoiltPromise = (M : Model) → Proper M → Size M 2 → Crew M 1 → (p : Migration) → Made M p → WellFormed M p

abbrev pub PlacesPromise : Type 0
PlacesPromise = (M : Model) (p : Migration) → Made M p → length p.carriers ≡ M.room

-- in each of the documents' models, with nothing left to assume
abbrev pub EachNeverSpoilt : Type 0
EachNeverSpoilt = (d : Device) (p : Migration) → Made (model_of d) p → WellFormed (model_of d) p

-- ---- kinds: to the move calls every kind but 4 is 13, to the plain ones 4 is 3 at opening and 13 in a record
pub record OtherKinds (M : Model) (p : Migration) : Type 0 where
  pub order : (w : ℕ) → reply_number (order_call M p w).reply ≡ 13
  pub turn : (old new : List ℕ) (w : ℕ) → turn_number (turn_call M p old new w).reply ≡ 13
  pub close : reply_number (close_call M p).reply ≡ 13

pub record PlainCalls (M : Model) (p : Phase) : Type 0 where
  pub order : (os : List Order) (i w v : ℕ) → reply_number (phase.order_call M p os i w v).reply ≡ 13
  pub turn : (t : List ℕ) (w : ℕ) → turn_number (phase.turn_call M p t w).reply ≡ 13
  pub close : reply_number (phase.close_call M p).reply ≡ 13

pub record KindPromise (M : Model) : Type 0 where
  pub others : (p : Migration) → p.kind ≢ 4 → OtherKinds M p
  pub opening : (m : ℕ) (ab : Hash) (t : List ℕ) (os : List Order) → Size M (length t) → Crew M m → reply_number (plainly.open_call M 4 m ab t os).reply ≡ 3
  pub plain : (p : Phase) → p.kind ≡ 4 → PlainCalls M p

abbrev pub KindsPromise : Type 0
KindsPromise = (M : Model) → KindPromise M

-- ---- open
-- the new table is all empty and has more cells than the old one has labels, each counted once
abbrev pub Fit : (old new : List ℕ) → Type 0
Fit old new = ((j : ℕ) → j < length new → get_or new j 0 ≡ 0) × (size (labels label old) < length new)

-- some cell of it is not empty, or it has no more cells
abbrev pub Unfit : (old new : List ℕ) → Type 0
Unfit old new = ((j : ℕ) × (j < length new) × (get_or new j 0 ≢ 0)) ⊎ (length new ≤ size (labels label old))

-- 1 for both tables, 2, 21, the old table's 4, 17 and 18, then 23
abbrev pub open_cases : Model → ℕ → Hash → (old new : List ℕ) → List Case
open_cases M m ab old new =
    wants 1 (Size M (length old) × Size M (length new)) ∷ wants 2 (Crew M m) ∷ even_cases ab ++ sound_cases M ab old ++ case 23 (Fit old new) (Unfit old new) ∷ []

-- a record of kind 4 with these lengths and m workers, shut or not, by a and b, with places for all workers that the model allows, all of them idle, and no
-- cell handed out
pub record Resting (M : Model) (n l m : ℕ) (ended : Bool) (ab : Hash) (p : Migration) : Type 0 where
  pub kind : p.kind ≡ 4
  pub from : p.source ≡ n
  pub to : p.length ≡ l
  pub crew : p.crew ≡ m
  pub next : p.next ≡ 0
  pub shut : p.shut ≡ ended
  pub hash : p.hash ≡ ab
  pub places : length p.carriers ≡ M.room
  pub rest : (w : ℕ) → task_at p w ≡ free

pub record Openings (M : Model) (m : ℕ) (ab : Hash) (old new : List ℕ) : Type 0 where
  pub reply : (open_call M m ab old new).reply ≡ open_reply M m ab old new
  pub answers : Proper M → Decides (reply_number (open_call M m ab old new).reply) (open_cases M m ab old new)
  -- an accepted opening had a sound old table, and none on a sound one is refused with 4, 17 or 18
  pub sound : Proper M → reply_number (open_call M m ab old new).reply ≡ 0 → Soundness M ab old
  pub never_unsound : Proper M → Soundness M ab old
      → (reply_number (open_call M m ab old new).reply ≢ 4) × (reply_number (open_call M m ab old new).reply ≢ 17)
      × (reply_number (open_call M m ab old new).reply ≢ 18)
  -- a refused one hands back a shut record of kind 4, both lengths 2 and one worker, all idle and no cell handed out, with a of 1 and b of 0
  pub refused : reply_number (open_call M m ab old new).reply ≢ 0 → Resting M 2 2 1 true plain (open_call M m ab old new).migration
  -- an accepted one an open record as it was asked for
  pub accepted : reply_number (open_call M m ab old new).reply ≡ 0 → Resting M (length old) (length new) m false ab (open_call M m ab old new).migration

abbrev pub OpenPromise : Type 0
OpenPromise = (M : Model) (m : ℕ) (ab : Hash) (old new : List ℕ) → Openings M m ab old new

-- the answers in each of the documents' models, with nothing left to assume
abbrev pub EachOpens : Type 0
EachOpens = (d : Device) (m : ℕ) (ab : Hash) (old new : List ℕ)
    → Decides (reply_number (open_call (model_of d) m ab old new).reply) (open_cases (model_of d) m ab old new)

-- ---- parts of the other calls' cases
abbrev pub state_cases : Model → Migration → List Case
state_cases M p = wants 13 (WellFormed M p) ∷ case 11 (p.shut ≡ false) (p.shut ≡ true) ∷ []

abbrev pub number_cases : Migration → ℕ → List Case
number_cases p w = case 6 (w < p.crew) (p.crew ≤ w) ∷ []

-- ---- what calls leave
-- two records of one kind, lengths and worker count, with one a and b, and with as many places for workers
pub record Framed (p q : Migration) : Type 0 where
  pub kind : q.kind ≡ p.kind
  pub from : q.source ≡ p.source
  pub to : q.length ≡ p.length
  pub crew : q.crew ≡ p.crew
  pub hash : q.hash ≡ p.hash
  pub places : length q.carriers ≡ length p.carriers

-- q is p but for worker w and the next old cell
pub record ButFor (w : ℕ) (p q : Migration) : Type 0 where
  pub frame : Framed p q
  pub shut : q.shut ≡ p.shut
  pub others : (u : ℕ) → u ≢ w → task_at q u ≡ task_at p u

-- ---- order: 13, 11, 6, 8, 9
abbrev pub order_cases : Model → Migration → ℕ → List Case
order_cases M p w = state_cases M p ++ number_cases p w ++ wants 8 (task_at p w ≡ free) ∷ case 9 (p.next < p.source) (p.source ≤ p.next) ∷ []

-- q is p after an accepted order to worker w: it takes the next old cell, and the next one is that behind it
pub record Takes (p : Migration) (w : ℕ) (q : Migration) : Type 0 where
  pub others : ButFor w p q
  -- every list of workers that calls make (`PlacesPromise`) has a place for each worker
  pub takes : w < length p.carriers → task_at q w ≡ Fetching p.next
  pub next : q.next ≡ suc p.next

pub record Orders (M : Model) (p : Migration) (w : ℕ) : Type 0 where
  pub answers : Decides (reply_number (order_call M p w).reply) (order_cases M p w)
  pub refused : reply_number (order_call M p w).reply ≢ 0 → (order_call M p w).migration ≡ p
  pub accepted : reply_number (order_call M p w).reply ≡ 0 → Takes p w (order_call M p w).migration

abbrev pub OrderPromise : Type 0
OrderPromise = (M : Model) (p : Migration) (w : ℕ) → Orders M p w

-- ---- turn: 13, 11, 5 for both tables, 6
abbrev pub turn_cases : Model → Migration → (old new : List ℕ) → ℕ → List Case
turn_cases M p old new w = state_cases M p ++ wants 5 ((p.source ≡ length old) × (p.length ≡ length new)) ∷ number_cases p w

-- the turn of a worker that was doing a, and then does b, answers r
pub record Answers (a b : Task) (r : Answer) : Type 0 where
  -- idle exactly for a worker without an order, went on exactly if its order stays unfinished, and else finished
  pub idle : r ≡ answer.Idle ↔ (a ≡ free)
  pub on : r ≡ WentOn ↔ ((a ≢ free) × (b ≢ free))
  pub finished : r ≡ Finished ↔ ((a ≢ free) × (b ≡ free))

-- the turn of a worker that is idle, reads on or replaces, beside that of worker u of an insert phase (put-in shift) q with the same a and b which does the
-- same on the new table: it answers alike, goes over to the same and leaves the same table
pub record AsInsert (M : Model) (p : Migration) (old new : List ℕ) (w : ℕ) (q : Phase) (u : ℕ) : Type 0 where
  pub reply : (turn_call M p old new w).reply ≡ (phase.turn_call M q new u).reply
  pub task : task_at (turn_call M p old new w).migration w ≡ Inserting (doing (phase.turn_call M q new u).phase u)
  pub cells : turn_new M p old new w ≡ phase.turn_table M q new u

-- an insert phase with the same a and b at the new table, in which the first worker does a and the others are idle
abbrev pub beside : Migration → Activity → Phase
beside p a = record { kind = 1; length = p.length; crew = p.crew; shut = false; hash = p.hash; workers = record { activity = a } ∷ [] }

pub record Turns (M : Model) (p : Migration) (old new : List ℕ) (w : ℕ) : Type 0 where
  pub answers : Decides (turn_number (turn_call M p old new w).reply) (turn_cases M p old new w)
  pub refused : turn_number (turn_call M p old new w).reply ≢ 0 → ((turn_call M p old new w).migration ≡ p) × (turn_new M p old new w ≡ new)
  -- no turn changes the old table
  pub unchanged : turn_old M p old new w ≡ old
  -- a free worker's turn changes nothing; if it isn't refused it answers idle
  pub idle : task_at p w ≡ free → ((turn_call M p old new w).migration ≡ p) × (turn_new M p old new w ≡ new)
  pub idle_answer : task_at p w ≡ free → turn_number (turn_call M p old new w).reply ≡ 0 → (turn_call M p old new w).reply ≡ Ok answer.Idle
  pub answered : (r : Answer) → (turn_call M p old new w).reply ≡ Ok r → Answers (task_at p w) (task_at (turn_call M p old new w).migration w) r
  -- an empty old cell, one without a label, is finished on its first turn
  pub empty : (c : ℕ) → task_at p w ≡ Fetching c → turn_number (turn_call M p old new w).reply ≡ 0 → label (get_or old c 0) ≡ 0
      → (turn_call M p old new w).reply ≡ Ok Finished
  -- any other content is carried, whole, from its label's home in the new table
  pub carries : (c : ℕ) → task_at p w ≡ Fetching c → turn_number (turn_call M p old new w).reply ≡ 0 → label (get_or old c 0) ≢ 0
      → task_at (turn_call M p old new w).migration w ≡ Inserting (Reading (get_or old c 0) (M.home p.hash p.length (label (get_or old c 0))))
  -- and the turn that reads it changes no table
  pub reads : (c : ℕ) → task_at p w ≡ Fetching c → turn_new M p old new w ≡ new
  -- from then on the worker is one of a put-in shift at the new table
  pub inserts : (a : Activity) → task_at p w ≡ Inserting a → turn_number (turn_call M p old new w).reply ≡ 0
      → (q : Phase) (u : ℕ) → q.kind ≡ 1 → q.hash ≡ p.hash → doing q u ≡ a → phase.turn_check M q new u ≡ Ok tt → AsInsert M p old new w q u
  -- and there is such a worker, the first of a put-in shift in which the others are idle: no turn is left out
  pub some_insert : (a : Activity) → task_at p w ≡ Inserting a → turn_number (turn_call M p old new w).reply ≡ 0
      → (phase.turn_check M (beside p a) new 0 ≡ Ok tt) × AsInsert M p old new w (beside p a) 0
  -- refused or not, a turn leaves all of the record but its own worker
  pub others : ButFor w p (turn_call M p old new w).migration
  pub next : (turn_call M p old new w).migration.next ≡ p.next

abbrev pub TurnPromise : Type 0
TurnPromise = (M : Model) (p : Migration) (old new : List ℕ) (w : ℕ) → Turns M p old new w

-- ---- close: 13, 11, and 10 while an order is unfinished or an old cell remains
abbrev pub Unfinished : Migration → Type 0
Unfinished p = (w : ℕ) × (w < p.crew) × (task_at p w ≢ free)

abbrev pub close_cases : Model → Migration → List Case
close_cases M p = state_cases M p ++ case 10 (((w : ℕ) → task_at p w ≡ free) × (p.next ≡ p.source)) (Unfinished p ⊎ (p.next < p.source)) ∷ []

-- q is p after an accepted close: it is shut, and all else is as before
pub record Ends (p q : Migration) : Type 0 where
  pub frame : Framed p q
  pub next : q.next ≡ p.next
  pub shut : q.shut ≡ true
  pub workers : q.carriers ≡ p.carriers

pub record Closings (M : Model) (p : Migration) : Type 0 where
  pub answers : Decides (reply_number (close_call M p).reply) (close_cases M p)
  pub refused : reply_number (close_call M p).reply ≢ 0 → (close_call M p).migration ≡ p
  pub accepted : reply_number (close_call M p).reply ≡ 0 → Ends p (close_call M p).migration

abbrev pub ClosePromise : Type 0
ClosePromise = (M : Model) (p : Migration) → Closings M p
