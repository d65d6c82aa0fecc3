-- The worker's rule: what a step (document 01: turn) makes of a worker's activity and of the one cell that it touches. It is total: what a forged
-- activity does is fixed by it as well. Code and theorems share it. The home rule is any, and so is the rule that gives the label of a content.
-- Kinds of phase: 1 insert (put in), 2 delete (take out), 3 find (look up).
use Rattle.std.specs.Prelude.{Bool, true, false, cond, ℕ, leb, ltb, eqb, Option, Some, None}
use Rattle.ring.specs.Ring.{dist, next, prev}
use Rattle.prices.specs.Contents.{price}
use Rattle.activities.specs.declared.Activity.{Activity}
use Rattle.activities.specs.declared.Activity.TheVariants.{Idle, Reading, Replacing, WalkingBack, SeekingForward, SeekingBack}
use Rattle.rule.specs.declared.Answer.{Answer}
use Rattle.rule.specs.declared.Answer.TheVariants.{WentOn, Finished, Price, No}
use Rattle.rule.specs.declared.Answer.TheVariants as answer
use Rattle.rule.specs.declared.Outcome.{Outcome}

-- ---- the one cell that a step touches; an idle worker touches none
abbrev pub touched : Activity → Option ℕ
touched Idle = None
touched (Reading v i) = Some i
touched (Replacing v k j x) = Some k
touched (WalkingBack v k) = Some k
touched (SeekingForward v k j) = Some j
touched (SeekingBack p v k j x) = Some p

-- ---- outcomes
-- the worker went on, and leaves the content c
abbrev pub goes : Activity → ℕ → Outcome
goes a c = record { activity = a; content = c; answer = WentOn }

-- the worker finished with an answer, and leaves the content c
abbrev pub ends : Answer → ℕ → Outcome
ends r c = record { activity = Idle; content = c; answer = r }

-- nothing changes: an idle worker, and an activity that the kind lacks
abbrev pub unmoved : Activity → ℕ → Outcome
unmoved a c = record { activity = a; content = c; answer = answer.Idle }

-- ---- what an insert meets; `key` gives the label of a content
-- the content c has the label of v and costs no more
unfoldable pub settled : (ℕ → ℕ) → ℕ → ℕ → Bool
settled key v c = cond (eqb (key c) (key v)) (leb c v) false

-- with the content x replaced by v nothing is left to carry: x is empty, or its own label at a higher price
unfoldable pub absorbed : (ℕ → ℕ) → ℕ → ℕ → Bool
absorbed key v x = cond (eqb (key x) 0) true (cond (eqb (key x) (key v)) (ltb v x) false)

-- `home` gives the home of a label. A content whose label is 0 is empty to a worker.
module _ (n : ℕ) (key home : ℕ → ℕ) where
  -- ---- insert: carries a content from its label's home
  unfoldable pub insert_step : Activity → ℕ → Outcome
  insert_step Idle c = unmoved Idle c
  -- a greater label sends it to the next cell; its own label at no higher price finishes; anything else leads to a replace step
  insert_step (Reading v i) c = cond (ltb (key v) (key c)) (goes (Reading v (next n i)) c) (cond (settled key v c) (ends Finished c) (goes (Replacing v i i c) c))
  -- if that succeeds on an empty cell or on its own label at a higher price it finishes; on any other label it carries that content on from the next cell;
  -- if it fails it reads the same cell again
  insert_step (Replacing v i j x) c = cond (eqb c x) (cond (absorbed key v x) (ends Finished v) (goes (Reading x (next n i)) v)) (goes (Reading v i) c)
  insert_step (WalkingBack v k) c = unmoved (WalkingBack v k) c
  insert_step (SeekingForward v k j) c = unmoved (SeekingForward v k j) c
  insert_step (SeekingBack p v k j x) c = unmoved (SeekingBack p v k j x) c

  -- ---- find
  unfoldable pub find_step : Activity → ℕ → Outcome
  find_step Idle c = unmoved Idle c
  -- a greater label sends it on; otherwise it finishes, with the price if the cell holds its label, else with no
  find_step (Reading v i) c = cond (ltb (key v) (key c)) (goes (Reading v (next n i)) c) (ends (cond (eqb (key c) (key v)) (Price (price c)) No) c)
  find_step (Replacing v k j x) c = unmoved (Replacing v k j x) c
  find_step (WalkingBack v k) c = unmoved (WalkingBack v k) c
  find_step (SeekingForward v k j) c = unmoved (SeekingForward v k j) c
  find_step (SeekingBack p v k j x) c = unmoved (SeekingBack p v k j x) c

  -- ---- delete
  -- the content x of cell j may replace that of cell k: it is empty, or its label's path passes k
  unfoldable pub fits : ℕ → ℕ → ℕ → Bool
  fits x j k = cond (eqb (key x) 0) true (ltb (dist n (home (key x)) k) (dist n (home (key x)) j))

  -- with the content x of cell j taken: on at cell p, or, if no cell lies between, about to replace k
  unfoldable pub narrow : ℕ → ℕ → ℕ → ℕ → ℕ → Activity
  narrow v k j x p = cond (eqb p k) (Replacing v k j x) (SeekingBack p v k j x)

  unfoldable pub delete_step : Activity → ℕ → Outcome
  delete_step Idle c = unmoved Idle c
  -- from the home it walks to the first cell whose label isn't greater than its own, then back towards the home, that cell first and read anew
  delete_step (Reading v i) c = cond (ltb (key v) (key c)) (goes (Reading v (next n i)) c) (goes (WalkingBack v i) c)
  -- at a cell k holding its label it seeks a replacement for the content that it reads there, from the next cell on;
  -- the step that reads the home and doesn't find its label there finishes
  delete_step (WalkingBack v k) c =
      cond (eqb (key c) (key v)) (goes (SeekingForward c k (next n k)) c) (cond (eqb k (home (key v))) (ends Finished c) (goes (WalkingBack v (prev n k)) c))
  -- it walks to the first that is empty or whose label's path passes k
  delete_step (SeekingForward v k j) c = cond (fits c j k) (goes (narrow v k j c (prev n j)) c) (goes (SeekingForward v k (next n j)) c)
  -- then back, from the cell before that one to the cell after k, taking any nearer such cell it sees
  delete_step (SeekingBack p v k j x) c = cond (fits c p k) (goes (narrow v k p c (prev n p)) c) (goes (narrow v k j x (prev n p)) c)
  -- it replaces k by what it took; if k has changed, it looks at k again
  -- after success with an empty content, copied as 0, it finishes; with a label it goes on to take out that one, walking back from the cell where it saw it
  delete_step (Replacing v k j x) c = cond (eqb c v) (cond (eqb (key x) 0) (ends Finished 0) (goes (WalkingBack x j) x)) (goes (WalkingBack v k) c)

-- ---- the rule of each kind
unfoldable pub rule : ℕ → ℕ → (ℕ → ℕ) → (ℕ → ℕ) → Activity → ℕ → Outcome
rule k n key home a c = cond (eqb k 1) (insert_step n key home a c) (cond (eqb k 2) (delete_step n key home a c) (find_step n key home a c))

-- an operation (document 01: order) for the content v starts at the home of its label
abbrev pub start : (ℕ → ℕ) → (ℕ → ℕ) → ℕ → Activity
start key home v = Reading v (home (key v))
