-- Demand 1 for the calls on a phase: each refusal is given in its cases and in no other, the first to apply wins, and a refusal changes nothing. And
-- what a call that is not refused answers, changes and leaves, field by field.
use Rattle.std.specs.Prelude.{◌≡◌, ◌≢◌, ◌↔◌, ◌⊎◌, Bool, true, false, List, [], ◌∷◌, ◌++◌, ℕ, ◌≤◌, ◌<◌, length, get_or, Some, Ok}
use Rattle.ring.specs.Ring.{next, prev}
use Rattle.layout.specs.Sound.{OnPath, Ordered}
use Rattle.homes.specs.Homes.{plain}
use Rattle.homes.specs.Promise.{Even, Odd}
use Rattle.homes.specs.declared.Hash.{Hash}
use Rattle.prices.specs.Contents.{label, price, content, SoundTable}
use Rattle.prices.specs.Priced.{labels}
use Rattle.flaws.specs.Promise.{Intact, Damaged, Gapped, Disordered}
use Rattle.orders.specs.Orders.{blank}
use Rattle.orders.specs.declared.Order.{Order}
use Rattle.activities.specs.Activities.{entry_of}
use Rattle.activities.specs.declared.Activity.{Activity}
use Rattle.activities.specs.declared.Activity.TheVariants.{Idle, Reading, Replacing, WalkingBack, SeekingForward, SeekingBack}
use Rattle.rule.specs.Rule.{touched}
use Rattle.rule.specs.declared.Answer.{Answer}
use Rattle.rule.specs.declared.Answer.TheVariants.{WentOn, Finished, Price, No}
use Rattle.rule.specs.declared.Answer.TheVariants as answer
use Rattle.state.specs.Model.{Model, Proper, model_of}
use Rattle.state.specs.Open.{open_reply, open_call}
use Rattle.state.specs.Refusals.{reply_number}
use Rattle.state.specs.declared.Device.{Device}
use Rattle.state.specs.declared.Phase.{Phase}
use Rattle.protocol.specs.Bars.{doing}
use Rattle.protocol.specs.Calls.{turn_number, close_call, order_call, turn_call, turn_table}
use Rattle.protocol.specs.Cases.{Case, case, wants, forbids, Decides}
use Rattle.protocol.specs.IsWellFormed.{is_well_formed}
use Rattle.protocol.specs.Lines.{Priced, Mispriced, ShopKey, TestKey, Good, line_cases, Fills}
use Rattle.protocol.specs.WellFormed.{Size, Crew, Kind, WellFormed}

-- ---- the test is the sentence
abbrev pub WellFormedPromise : Type 0
WellFormedPromise = (M : Model) (p : Phase) → is_well_formed M p ≡ true ↔ WellFormed M p

-- ---- 13 doesn't look at a and b: with others, odd or even, a phase state is as well formed
abbrev pub with_hash : Phase → Hash → Phase
with_hash p ab = record { kind = p.kind; length = p.length; crew = p.crew; shut = p.shut; hash = ab; workers = p.workers }

abbrev pub HashUntestedPromise : Type 0
HashUntestedPromise = (M : Model) (p : Phase) (ab : Hash) → WellFormed M (with_hash p ab) ↔ WellFormed M p

-- ---- no call spoils a phase state that is well formed, whether an opening and calls led to it or not
pub record Keeps (M : Model) (p : Phase) : Type 0 where
  pub order : (os : List Order) (i w v : ℕ) → WellFormed M (order_call M p os i w v).phase
  pub turn : (t : List ℕ) (w : ℕ) → WellFormed M (turn_call M p t w).phase
  pub close : WellFormed M (close_call M p).phase

abbrev pub KeepsPromise : Type 0
KeepsPromise = (M : Model) → Proper M → (p : Phase) → WellFormed M p → Keeps M p

-- ---- no record made by an opening and later calls is ever spoilt
-- made by an opening, accepted or refused, and later calls, each with any numbers, any table and any list; the service call is the turn by its contract
pub data Made (M : Model) : Phase → Type 0 where
  opened : (k m : ℕ) (ab : Hash) (t : List ℕ) (os : List Order) → Made M (open_call M k m ab t os).phase
  ordered : (p : Phase) → Made M p → (os : List Order) (i w v : ℕ) → Made M (order_call M p os i w v).phase
  turned : (p : Phase) → Made M p → (t : List ℕ) (w : ℕ) → Made M (turn_call M p t w).phase
  closed : (p : Phase) → Made M p → Made M (close_call M p).phase

-- within limits that allow what a refused opening hands back, 2 cells and one worker
abbrev pub NeverSpoiltPromise : Type 0
NeverSpoiltPromise = (M : Model) → Proper M → Size M 2 → Crew M 1 → (p : Phase) → Made M p → WellFormed M p

-- and it keeps the places for all workers that the model allows
abbrev pub PlacesPromise : Type 0
PlacesPromise = (M : Model) (p : Phase) → Made M p → length p.workers ≡ M.room

-- in each of the documents' models, with nothing left to assume
abbrev pub EachNeverSpoilt : Type 0
EachNeverSpoilt = (d : Device) (p : Phase) → Made (model_of d) p → WellFormed (model_of d) p

-- ---- open
abbrev pub SoundIn : Model → Hash → List ℕ → Type 0
SoundIn M ab t = SoundTable (length t) (M.home ab (length t)) t

-- the same in the documents' words, by a and b: at least one cell is empty, a cell other than 0 has a key and a price from 1 to 9,999,999, and every
-- key's path holds only greater keys
pub record Soundness (M : Model) (ab : Hash) (t : List ℕ) : Type 0 where
  pub intact : Intact t
  pub ordered : Ordered (length t) (M.home ab (length t)) (labels label t)

-- the lowest-numbered cell whose key breaks the order meets an empty cell first, or a key
abbrev pub GappedIn : Model → Hash → List ℕ → Type 0
GappedIn M ab t = Gapped (M.home ab (length t)) t

abbrev pub DisorderedIn : Model → Hash → List ℕ → Type 0
DisorderedIn M ab t = Disordered (M.home ab (length t)) t

pub record SoundnessPromise : Type 0 where
  pub words : (M : Model) (ab : Hash) (t : List ℕ) → SoundIn M ab t ↔ Soundness M ab t
  pub kinds : (M : Model) → Proper M → (ab : Hash) (t : List ℕ) → Soundness M ab t ↔ (Intact t × (GappedIn M ab t → ⊥) × (DisorderedIn M ab t → ⊥))

-- of a table: its length, a, and soundness
abbrev pub size_cases : Model → List ℕ → List Case
size_cases M t = wants 1 (Size M (length t)) ∷ []

abbrev pub even_cases : Hash → List Case
even_cases ab = case 21 (Odd ab.a) (Even ab.a) ∷ []

abbrev pub sound_cases : Model → Hash → List ℕ → List Case
sound_cases M ab t = case 4 (Intact t) (Damaged t) ∷ forbids 17 (GappedIn M ab t) ∷ forbids 18 (DisorderedIn M ab t) ∷ []

-- of the numbers handed in: 1, 2, 3, 21
abbrev pub limit_cases : Model → ℕ → ℕ → Hash → List ℕ → List Case
limit_cases M k m ab t = size_cases M t ++ wants 2 (Crew M m) ∷ wants 3 (Kind k) ∷ even_cases ab

-- of the list: its length (16), and that it has too many labels (9)
abbrev pub long_cases : Model → List Order → List Case
long_cases M os = case 16 (length os ≤ M.most_lines) (M.most_lines < length os) ∷ []

abbrev pub full_cases : List ℕ → List Order → List Case
full_cases t os = forbids 9 (Fills t os) ∷ []

-- an insert phase (put-in shift): then 16, the table's 4, 17 and 18, the lines' 7, 24, 14 and 6, and 9
abbrev pub insert_cases : Model → ℕ → ℕ → Hash → List ℕ → List Order → List Case
insert_cases M k m ab t os = limit_cases M k m ab t ++ long_cases M os ++ sound_cases M ab t ++ line_cases m os ++ full_cases t os

-- any other: then the table's 4, 17 and 18
abbrev pub other_cases : Model → ℕ → ℕ → Hash → List ℕ → List Case
other_cases M k m ab t = limit_cases M k m ab t ++ sound_cases M ab t

-- a phase state of kind k, length n and m workers, shut or not, by a and b, with places for all workers that the model allows, and all of them idle
pub record Resting (M : Model) (k n m : ℕ) (ended : Bool) (ab : Hash) (p : Phase) : Type 0 where
  pub kind : p.kind ≡ k
  pub cells : p.length ≡ n
  pub crew : p.crew ≡ m
  pub shut : p.shut ≡ ended
  pub hash : p.hash ≡ ab
  pub places : length p.workers ≡ M.room
  pub rest : (w : ℕ) → doing p w ≡ Idle

pub record Openings (M : Model) (k m : ℕ) (ab : Hash) (t : List ℕ) (os : List Order) : Type 0 where
  pub reply : (open_call M k m ab t os).reply ≡ open_reply M k m ab t os
  pub inserts : k ≡ 1 → Decides (reply_number (open_call M k m ab t os).reply) (insert_cases M k m ab t os)
  pub others : k ≢ 1 → Decides (reply_number (open_call M k m ab t os).reply) (other_cases M k m ab t)
  -- an accepted opening had a sound table, and none on a sound table is refused with 4, 17 or 18
  pub sound : Proper M → reply_number (open_call M k m ab t os).reply ≡ 0 → Soundness M ab t
  pub never_unsound : Proper M → Soundness M ab t
      → (reply_number (open_call M k m ab t os).reply ≢ 4) × (reply_number (open_call M k m ab t os).reply ≢ 17)
      × (reply_number (open_call M k m ab t os).reply ≢ 18)
  -- a refused opening hands back a shut record of kind 3, length 2 and one worker, all idle, with a of 1 and b of 0
  pub refused : reply_number (open_call M k m ab t os).reply ≢ 0 → Resting M 3 2 1 true plain (open_call M k m ab t os).phase
  -- an accepted one an open record as it was asked for
  pub accepted : reply_number (open_call M k m ab t os).reply ≡ 0 → Resting M k (length t) m false ab (open_call M k m ab t os).phase
  -- an insert phase opens with good lines alone
  pub lines : k ≡ 1 → reply_number (open_call M k m ab t os).reply ≡ 0 → (i : ℕ) → i < length os → Good m (get_or os i blank)
  -- outside insert phases the list is not read
  pub unread : k ≢ 1 → (other : List Order) → open_call M k m ab t other ≡ open_call M k m ab t os

abbrev pub OpenPromise : Type 0
OpenPromise = (M : Model) (k m : ℕ) (ab : Hash) (t : List ℕ) (os : List Order) → Openings M k m ab t os

-- ---- parts of the other calls' cases
abbrev pub phase_cases : Model → Phase → List Case
phase_cases M p = wants 13 (WellFormed M p) ∷ case 11 (p.shut ≡ false) (p.shut ≡ true) ∷ []

abbrev pub number_cases : Phase → ℕ → List Case
number_cases p w = case 6 (w < p.crew) (p.crew ≤ w) ∷ []

-- of a worker that gets an order of key v: 6, 8, 7
abbrev pub worker_cases : Phase → (w v : ℕ) → List Case
worker_cases p w v = number_cases p w ++ wants 8 (doing p w ≡ Idle) ∷ forbids 7 (v ≡ 0) ∷ []

-- ---- what calls leave
-- two phase states of one kind, length and worker count, with one a and b, and with as many places for workers
pub record Framed (p q : Phase) : Type 0 where
  pub kind : q.kind ≡ p.kind
  pub cells : q.length ≡ p.length
  pub crew : q.crew ≡ p.crew
  pub hash : q.hash ≡ p.hash
  pub places : length q.workers ≡ length p.workers

-- q is p but for worker w
pub record ButFor (w : ℕ) (p q : Phase) : Type 0 where
  pub frame : Framed p q
  pub shut : q.shut ≡ p.shut
  pub others : (u : ℕ) → u ≢ w → doing q u ≡ doing p u

-- ---- order
-- of a line number, of a key that would be added, and of a price: 15, 24, 14
abbrev pub there_cases : List Order → ℕ → List Case
there_cases os i = case 15 (i < length os) (length os ≤ i) ∷ []

abbrev pub test_cases : ℕ → List Case
test_cases v = case 24 (ShopKey v) (TestKey v) ∷ []

abbrev pub price_cases : ℕ → List Case
price_cases cents = case 14 (Priced cents) (Mispriced cents) ∷ []

-- an insert phase (put-in shift), by line i of the list: 13, 11, 15 and then the line's 6, 8, 7, 24 and 14
abbrev pub line_order_cases : Model → Phase → List Order → ℕ → List Case
line_order_cases M p os i =
    phase_cases M p ++ there_cases os i ++ worker_cases p (get_or os i blank).worker (get_or os i blank).key ++ test_cases (get_or os i blank).key
    ++ price_cases (get_or os i blank).price

-- any other, by the worker w and the key v handed in: 13, 11, 6, 8, 7
abbrev pub handed_cases : Model → Phase → (w v : ℕ) → List Case
handed_cases M p w v = phase_cases M p ++ worker_cases p w v

-- q is p after an accepted order of key v, with its price, to worker w
pub record Starts (M : Model) (p : Phase) (w v cents : ℕ) (q : Phase) : Type 0 where
  pub others : ButFor w p q
  -- the worker starts at its key's home by the record's a and b, with the price ordered. A list of workers has no fixed length; the code's array, and
  -- every list that calls make (`PlacesPromise`), has a place for each worker
  pub starts : w < length p.workers → doing q w ≡ Reading (content v cents) (M.home p.hash p.length v)

pub record Orders (M : Model) (p : Phase) (os : List Order) (i w v : ℕ) : Type 0 where
  pub inserts : p.kind ≡ 1 → Decides (reply_number (order_call M p os i w v).reply) (line_order_cases M p os i)
  pub others : p.kind ≢ 1 → Decides (reply_number (order_call M p os i w v).reply) (handed_cases M p w v)
  -- no order is refused as full
  pub never_full : reply_number (order_call M p os i w v).reply ≢ 9
  pub refused : reply_number (order_call M p os i w v).reply ≢ 0 → (order_call M p os i w v).phase ≡ p
  -- an accepted one starts the line's worker with the line's key and price; outside insert phases the worker handed in, with that key and no price
  pub insert_accepted : p.kind ≡ 1 → reply_number (order_call M p os i w v).reply ≡ 0
      → Starts M p (get_or os i blank).worker (get_or os i blank).key (get_or os i blank).price (order_call M p os i w v).phase
  pub other_accepted : p.kind ≢ 1 → reply_number (order_call M p os i w v).reply ≡ 0 → Starts M p w v 0 (order_call M p os i w v).phase
  -- an insert phase reads neither the worker nor the key handed in, the others neither the list nor the line number
  pub insert_unread : p.kind ≡ 1 → (x y : ℕ) → order_call M p os i x y ≡ order_call M p os i w v
  pub other_unread : p.kind ≢ 1 → (other : List Order) (j : ℕ) → order_call M p other j w v ≡ order_call M p os i w v

abbrev pub OrderPromise : Type 0
OrderPromise = (M : Model) (p : Phase) (os : List Order) (i w v : ℕ) → Orders M p os i w v

-- ---- turn
abbrev pub turn_cases : Model → Phase → List ℕ → ℕ → List Case
turn_cases M p t w = phase_cases M p ++ wants 5 (p.length ≡ length t) ∷ number_cases p w

-- in a phase of kind k the turn of a worker that was doing a, and then does b, answers r
pub record Answers (k : ℕ) (a b : Activity) (r : Answer) : Type 0 where
  -- idle exactly for a worker that is idle
  pub idle : r ≡ answer.Idle ↔ (a ≡ Idle)
  -- of a worker with an unfinished operation: went on exactly if it stays unfinished, else finished, with a price or no in a find phase
  pub on : r ≡ WentOn ↔ ((a ≢ Idle) × (b ≢ Idle))
  pub finished : r ≡ Finished ↔ ((k ≢ 3) × (a ≢ Idle) × (b ≡ Idle))
  pub told : (((q : ℕ) × (r ≡ Price q)) ⊎ (r ≡ No)) ↔ ((k ≡ 3) × (a ≢ Idle) × (b ≡ Idle))

-- in a phase of kind k a worker doing a replaces the content of cell c: an insert writes its entry over the content that it read there before, a delete
-- writes the replacement that it took over the entry that it read there, 0 if the replacement has no key
abbrev pub Replaces : ℕ → Activity → ℕ → (before after : ℕ) → Type 0
Replaces k Idle c before after = ⊥
Replaces k (Reading v i) c before after = ⊥
Replaces k (Replacing v i j x) c before after =
    (i ≡ c) × (((k ≡ 1) × (before ≡ x) × (after ≡ v)) ⊎ ((k ≡ 2) × (before ≡ v) × (((label x ≢ 0) × (after ≡ x)) ⊎ ((label x ≡ 0) × (after ≡ 0)))))
Replaces k (WalkingBack v i) c before after = ⊥
Replaces k (SeekingForward v i j) c before after = ⊥
Replaces k (SeekingBack b v i j x) c before after = ⊥

pub record Turns (M : Model) (p : Phase) (t : List ℕ) (w : ℕ) : Type 0 where
  pub answers : Decides (turn_number (turn_call M p t w).reply) (turn_cases M p t w)
  pub refused : turn_number (turn_call M p t w).reply ≢ 0 → ((turn_call M p t w).phase ≡ p) × (turn_table M p t w ≡ t)
  -- an idle worker's turn changes nothing; if it isn't refused it answers idle
  pub idle : doing p w ≡ Idle → ((turn_call M p t w).phase ≡ p) × (turn_table M p t w ≡ t)
  pub idle_answer : doing p w ≡ Idle → turn_number (turn_call M p t w).reply ≡ 0 → (turn_call M p t w).reply ≡ Ok answer.Idle
  -- a turn answers as its worker's record before and after it says
  pub answered : (r : Answer) → (turn_call M p t w).reply ≡ Ok r → Answers p.kind (doing p w) (doing (turn_call M p t w).phase w) r
  -- the cell's price if the cell holds the worker's key, else no
  pub says_price : (q : ℕ) → (turn_call M p t w).reply ≡ Ok (Price q) → (c : ℕ) → touched (doing p w) ≡ Some c
      → (label (get_or t c 0) ≡ label (entry_of (doing p w))) × (price (get_or t c 0) ≡ q)
  pub says_no : (turn_call M p t w).reply ≡ Ok No → (c : ℕ) → touched (doing p w) ≡ Some c → label (get_or t c 0) ≢ label (entry_of (doing p w))
  -- a turn reads one cell, or compares one cell with a content read earlier and writes if they are equal: no other turn changes a cell
  pub writes : (c : ℕ) → get_or (turn_table M p t w) c 0 ≢ get_or t c 0 → Replaces p.kind (doing p w) c (get_or t c 0) (get_or (turn_table M p t w) c 0)
  -- and a replace turn that finds that content writes
  pub inserts : turn_number (turn_call M p t w).reply ≡ 0 → p.kind ≡ 1 → (v i j x : ℕ) → doing p w ≡ Replacing v i j x → get_or t i 0 ≡ x
      → get_or (turn_table M p t w) i 0 ≡ v
  pub deletes : turn_number (turn_call M p t w).reply ≡ 0 → p.kind ≡ 2 → (v i j x : ℕ) → doing p w ≡ Replacing v i j x → get_or t i 0 ≡ v
      → label x ≢ 0 → get_or (turn_table M p t w) i 0 ≡ x
  pub empties : turn_number (turn_call M p t w).reply ≡ 0 → p.kind ≡ 2 → (v i j x : ℕ) → doing p w ≡ Replacing v i j x → get_or t i 0 ≡ v
      → label x ≡ 0 → get_or (turn_table M p t w) i 0 ≡ 0
  -- an insert that reads its own key: what stands at no higher price finishes it, an entry at a higher price is to be replaced
  pub stands : turn_number (turn_call M p t w).reply ≡ 0 → p.kind ≡ 1 → (v i : ℕ) → doing p w ≡ Reading v i → label (get_or t i 0) ≡ label v
      → price (get_or t i 0) ≤ price v → (turn_call M p t w).reply ≡ Ok Finished
  pub undercuts : turn_number (turn_call M p t w).reply ≡ 0 → p.kind ≡ 1 → (v i : ℕ) → doing p w ≡ Reading v i → label (get_or t i 0) ≡ label v
      → price v < price (get_or t i 0) → doing (turn_call M p t w).phase w ≡ Replacing v i i (get_or t i 0)
  -- and once it has replaced that, or a content without a key, it is finished; any other key it carries on from the next cell
  pub ends : turn_number (turn_call M p t w).reply ≡ 0 → p.kind ≡ 1 → (v i j x : ℕ) → doing p w ≡ Replacing v i j x → get_or t i 0 ≡ x
      → ((label x ≡ label v) × (price v < price x)) ⊎ (label x ≡ 0) → (turn_call M p t w).reply ≡ Ok Finished
  pub carries : turn_number (turn_call M p t w).reply ≡ 0 → p.kind ≡ 1 → (v i j x : ℕ) → doing p w ≡ Replacing v i j x → get_or t i 0 ≡ x
      → label x ≢ 0 → (label x ≡ label v → price x ≤ price v) → doing (turn_call M p t w).phase w ≡ Reading x (next p.length i)
  -- refused or not, a turn leaves all of the phase state but its own worker
  pub others : ButFor w p (turn_call M p t w).phase

abbrev pub TurnPromise : Type 0
TurnPromise = (M : Model) (p : Phase) (t : List ℕ) (w : ℕ) → Turns M p t w

-- ---- turns that depend on a key's home: those of a delete, by the record's a and b, odd or even
abbrev pub home_in : Model → Phase → ℕ → ℕ
home_in M p = M.home p.hash p.length

-- the content of cell j may replace that of cell i: it is empty, or its key's path passes cell i
abbrev pub Serves : Model → Phase → List ℕ → (j i : ℕ) → Type 0
Serves M p t j i = (label (get_or t j 0) ≡ 0) ⊎ OnPath p.length (home_in M p) (label (get_or t j 0)) j i

-- a worker that has read cell q and has taken the content x of cell j for cell i, which holds v: it walks back to the cell before q, and is about to replace
-- if that is cell i
abbrev pub Taken : (n q v i j x : ℕ) → Activity → Type 0
Taken n q v i j x a = ((prev n q ≡ i) × (a ≡ Replacing v i j x)) ⊎ ((prev n q ≢ i) × (a ≡ SeekingBack (prev n q) v i j x))

pub record Homing (M : Model) (p : Phase) (t : List ℕ) (w : ℕ) : Type 0 where
  -- on its way back, at a cell that does not hold its key: it finishes at the key's home, and nowhere else
  pub ends : (v i : ℕ) → doing p w ≡ WalkingBack v i → label (get_or t i 0) ≢ label v → i ≡ home_in M p (label v)
      → (turn_call M p t w).reply ≡ Ok Finished
  pub walks : (v i : ℕ) → doing p w ≡ WalkingBack v i → label (get_or t i 0) ≢ label v → i ≢ home_in M p (label v)
      → doing (turn_call M p t w).phase w ≡ WalkingBack v (prev p.length i)
  -- seeking a replacement for cell i: the first cell that serves is taken, and any other is gone past
  pub takes : (v i j : ℕ) → doing p w ≡ SeekingForward v i j → Serves M p t j i
      → Taken p.length j v i j (get_or t j 0) (doing (turn_call M p t w).phase w)
  pub passes : (v i j : ℕ) → doing p w ≡ SeekingForward v i j → (Serves M p t j i → ⊥)
      → doing (turn_call M p t w).phase w ≡ SeekingForward v i (next p.length j)
  -- and on the way back from cell j, at cell q: one that serves is nearer, with any other the content x taken in cell j is kept
  pub nearer : (q v i j x : ℕ) → doing p w ≡ SeekingBack q v i j x → Serves M p t q i
      → Taken p.length q v i q (get_or t q 0) (doing (turn_call M p t w).phase w)
  pub keeps : (q v i j x : ℕ) → doing p w ≡ SeekingBack q v i j x → (Serves M p t q i → ⊥)
      → Taken p.length q v i j x (doing (turn_call M p t w).phase w)

abbrev pub HomingPromise : Type 0
HomingPromise = (M : Model) (p : Phase) (t : List ℕ) (w : ℕ) → turn_number (turn_call M p t w).reply ≡ 0 → p.kind ≡ 2 → Homing M p t w

-- ---- close
-- some operation (order) is unfinished
abbrev pub Unfinished : Phase → Type 0
Unfinished p = (w : ℕ) × (w < p.crew) × (doing p w ≢ Idle)

abbrev pub close_cases : Model → Phase → List Case
close_cases M p = phase_cases M p ++ case 10 ((w : ℕ) → doing p w ≡ Idle) (Unfinished p) ∷ []

-- q is p after an accepted close: it is shut, and all else is as before
pub record Ends (p q : Phase) : Type 0 where
  pub frame : Framed p q
  pub shut : q.shut ≡ true
  pub workers : q.workers ≡ p.workers

pub record Closings (M : Model) (p : Phase) : Type 0 where
  pub answers : Decides (reply_number (close_call M p).reply) (close_cases M p)
  pub refused : reply_number (close_call M p).reply ≢ 0 → (close_call M p).phase ≡ p
  pub accepted : reply_number (close_call M p).reply ≡ 0 → Ends p (close_call M p).phase

abbrev pub ClosePromise : Type 0
ClosePromise = (M : Model) (p : Phase) → Closings M p
