-- One turn each, in document 01's words ("A worker's turns"): of every kind and activity every branch, some also on forged records and altered tables.
-- Labels stand at price 1; then turns on prices, in document 02's words ("The lower price stands").
use Rattle.std.specs.Prelude.{List, [], ◌∷◌, ◌++◌, ℕ}
use Rattle.prices.specs.Contents.{content}
use Rattle.activities.specs.declared.Activity.{Activity}
use Rattle.activities.specs.declared.Activity.TheVariants.{Idle, Reading, Replacing, WalkingBack, SeekingForward, SeekingBack}
use Rattle.rule.specs.declared.Answer.{Answer}
use Rattle.rule.specs.declared.Answer.TheVariants.{WentOn, Finished, Price, No}
use Rattle.rule.specs.declared.Answer.TheVariants as answer
use Rattle.rule.specs.Schedules.{one, ones}
use Rattle.examples.specs.Forms.{Example, tracing}

-- an activity whose numbers are labels, at price 1
abbrev pub at_one : Activity → Activity
at_one Idle = Idle
at_one (Reading v i) = Reading (one v) i
at_one (Replacing v k j x) = Replacing (one v) k j (one x)
at_one (WalkingBack v k) = WalkingBack (one v) k
at_one (SeekingForward v k j) = SeekingForward (one v) k j
at_one (SeekingBack p v k j x) = SeekingBack p (one v) k j (one x)

-- a turn among labels at price 1, and one that leaves the table as it is
abbrev pub turns : (k : ℕ) (table : List ℕ) (a : Activity) (r : Answer) (b : Activity) (after : List ℕ) → Example
turns k t a r b u = tracing k (ones t) (at_one a) r (at_one b) (ones u)

abbrev pub reads : (k : ℕ) (table : List ℕ) (a : Activity) (r : Answer) (b : Activity) → Example
reads k t a r b = turns k t a r b t

-- the same of whole contents
abbrev pub keeps : (k : ℕ) (table : List ℕ) (a : Activity) (r : Answer) (b : Activity) → Example
keeps k t a r b = tracing k t a r b t

-- ---- an idle worker's turn changes nothing
unfoldable pub idle_turns : List Example
idle_turns =
    reads 1 (0 ∷ 4 ∷ 0 ∷ []) Idle answer.Idle Idle
    ∷ reads 2 (0 ∷ 4 ∷ 0 ∷ []) Idle answer.Idle Idle
    ∷ reads 3 (0 ∷ 4 ∷ 0 ∷ []) Idle answer.Idle Idle
    ∷ []

-- ---- put in, carrying a label from its home
unfoldable pub insert_turns : List Example
insert_turns =
    -- a greater label sends it to the next cell, also after the last cell, away from its home, and round a full table
    reads 1 (0 ∷ 9 ∷ 0 ∷ []) (Reading 4 1) WentOn (Reading 4 2)
    ∷ reads 1 (0 ∷ 1 ∷ 8 ∷ []) (Reading 5 2) WentOn (Reading 5 0)
    ∷ reads 1 (5 ∷ 0 ∷ 8 ∷ []) (Reading 4 0) WentOn (Reading 4 1)
    ∷ reads 1 (7 ∷ 3 ∷ 8 ∷ []) (Reading 6 2) WentOn (Reading 6 0)
    -- the same label finishes, also behind a smaller one
    ∷ reads 1 (0 ∷ 0 ∷ 5 ∷ []) (Reading 5 2) Finished Idle
    ∷ reads 1 (0 ∷ 5 ∷ 3 ∷ []) (Reading 5 1) Finished Idle
    -- a smaller one or 0 leads to a replace turn
    ∷ reads 1 (0 ∷ 0 ∷ 0 ∷ 0 ∷ 3 ∷ []) (Reading 9 4) WentOn (Replacing 9 4 4 3)
    ∷ reads 1 (0 ∷ 0 ∷ 0 ∷ 0 ∷ 8 ∷ []) (Reading 9 4) WentOn (Replacing 9 4 4 8)
    ∷ reads 1 (0 ∷ 0 ∷ 9 ∷ 0 ∷ 0 ∷ []) (Reading 9 3) WentOn (Replacing 9 3 3 0)
    ∷ reads 1 (3 ∷ 1 ∷ 9 ∷ []) (Reading 2 1) WentOn (Replacing 2 1 1 1)
    -- if that succeeds on 0 it finishes
    ∷ turns 1 (0 ∷ 0 ∷ 9 ∷ 0 ∷ 0 ∷ []) (Replacing 8 3 3 0) Finished Idle (0 ∷ 0 ∷ 9 ∷ 8 ∷ 0 ∷ [])
    -- on a label it carries that label on from the next cell
    ∷ turns 1 (0 ∷ 0 ∷ 0 ∷ 0 ∷ 3 ∷ []) (Replacing 9 4 4 3) WentOn (Reading 3 0) (0 ∷ 0 ∷ 0 ∷ 0 ∷ 9 ∷ [])
    ∷ turns 1 (0 ∷ 2 ∷ 0 ∷ 0 ∷ 3 ∷ []) (Replacing 6 1 1 2) WentOn (Reading 2 2) (0 ∷ 6 ∷ 0 ∷ 0 ∷ 3 ∷ [])
    ∷ turns 1 (0 ∷ 11 ∷ 3 ∷ 0 ∷ 0 ∷ []) (Replacing 6 2 2 3) WentOn (Reading 3 3) (0 ∷ 11 ∷ 6 ∷ 0 ∷ 0 ∷ [])
    -- if it fails it reads the same cell again: it finds a smaller or a greater label, its own, 0, or a label where 0 was
    ∷ reads 1 (0 ∷ 0 ∷ 0 ∷ 0 ∷ 3 ∷ []) (Replacing 9 4 4 2) WentOn (Reading 9 4)
    ∷ reads 1 (0 ∷ 0 ∷ 0 ∷ 0 ∷ 14 ∷ []) (Replacing 9 4 4 3) WentOn (Reading 9 4)
    ∷ reads 1 (0 ∷ 0 ∷ 0 ∷ 0 ∷ 9 ∷ []) (Replacing 9 4 4 3) WentOn (Reading 9 4)
    ∷ reads 1 (0 ∷ 0 ∷ 0 ∷ 0 ∷ 0 ∷ []) (Replacing 9 4 4 3) WentOn (Reading 9 4)
    ∷ reads 1 (0 ∷ 0 ∷ 0 ∷ 0 ∷ 3 ∷ []) (Replacing 9 4 4 0) WentOn (Reading 9 4)
    ∷ reads 1 (0 ∷ 0 ∷ 0 ∷ 3 ∷ 0 ∷ []) (Replacing 9 3 3 0) WentOn (Reading 9 3)
    ∷ reads 1 (0 ∷ 9 ∷ 4 ∷ []) (Replacing 4 2 2 0) WentOn (Reading 4 2)
    ∷ reads 1 (0 ∷ 9 ∷ 4 ∷ []) (Replacing 4 2 2 3) WentOn (Reading 4 2)
    ∷ reads 1 (0 ∷ 0 ∷ 0 ∷ 0 ∷ 14 ∷ []) (Replacing 9 4 4 0) WentOn (Reading 9 4)
    -- forged: the cell of the second number plays no part; a content as great as the carried label, or greater, is replaced too
    ∷ turns 1 (0 ∷ 0 ∷ 0 ∷ 0 ∷ 0 ∷ []) (Replacing 9 4 1 0) Finished Idle (0 ∷ 0 ∷ 0 ∷ 0 ∷ 9 ∷ [])
    ∷ turns 1 (0 ∷ 0 ∷ 0 ∷ 0 ∷ 0 ∷ []) (Replacing 9 1 4 0) Finished Idle (0 ∷ 9 ∷ 0 ∷ 0 ∷ 0 ∷ [])
    ∷ turns 1 (0 ∷ 3 ∷ 0 ∷ 0 ∷ 3 ∷ []) (Replacing 9 4 1 3) WentOn (Reading 3 0) (0 ∷ 3 ∷ 0 ∷ 0 ∷ 9 ∷ [])
    ∷ reads 1 (0 ∷ 3 ∷ 0 ∷ 0 ∷ 2 ∷ []) (Replacing 9 4 1 3) WentOn (Reading 9 4)
    ∷ reads 1 (0 ∷ 0 ∷ 0 ∷ 0 ∷ 9 ∷ []) (Replacing 9 4 4 9) WentOn (Reading 9 0)
    ∷ turns 1 (0 ∷ 0 ∷ 0 ∷ 0 ∷ 14 ∷ []) (Replacing 9 4 4 14) WentOn (Reading 14 0) (0 ∷ 0 ∷ 0 ∷ 0 ∷ 9 ∷ [])
    ∷ []

-- ---- look up
unfoldable pub find_turns : List Example
find_turns =
    -- a greater label sends it on, also after the last cell and away from its home
    reads 3 (0 ∷ 9 ∷ 0 ∷ []) (Reading 4 1) WentOn (Reading 4 2)
    ∷ reads 3 (0 ∷ 1 ∷ 8 ∷ []) (Reading 5 2) WentOn (Reading 5 0)
    ∷ reads 3 (5 ∷ 0 ∷ 8 ∷ []) (Reading 4 0) WentOn (Reading 4 1)
    -- otherwise it finishes, with the price if the cell holds its label, else no: a smaller label, or 0
    ∷ reads 3 (0 ∷ 9 ∷ 4 ∷ []) (Reading 4 2) (Price 1) Idle
    ∷ reads 3 (4 ∷ 0 ∷ 0 ∷ []) (Reading 4 0) (Price 1) Idle
    ∷ reads 3 (0 ∷ 4 ∷ 0 ∷ []) (Reading 4 1) (Price 1) Idle
    ∷ reads 3 (0 ∷ 3 ∷ 4 ∷ []) (Reading 4 1) No Idle
    ∷ reads 3 (0 ∷ 9 ∷ 0 ∷ []) (Reading 4 2) No Idle
    ∷ reads 3 (0 ∷ 0 ∷ 0 ∷ []) (Reading 4 1) No Idle
    ∷ reads 3 (0 ∷ 9 ∷ 3 ∷ []) (Reading 4 2) No Idle
    ∷ []

-- ---- take out
unfoldable pub delete_turns : List Example
delete_turns =
    -- from the home it walks to the first cell that isn't greater than its label (0 included)
    reads 2 (0 ∷ 9 ∷ 0 ∷ []) (Reading 4 1) WentOn (Reading 4 2)
    ∷ reads 2 (5 ∷ 0 ∷ 8 ∷ []) (Reading 4 0) WentOn (Reading 4 1)
    ∷ reads 2 (0 ∷ 1 ∷ 8 ∷ []) (Reading 5 2) WentOn (Reading 5 0)
    -- then back towards the home, that cell first and read anew
    ∷ reads 2 (0 ∷ 9 ∷ 4 ∷ []) (Reading 4 2) WentOn (WalkingBack 4 2)
    ∷ reads 2 (0 ∷ 9 ∷ 3 ∷ []) (Reading 4 2) WentOn (WalkingBack 4 2)
    ∷ reads 2 (0 ∷ 9 ∷ 0 ∷ []) (Reading 4 2) WentOn (WalkingBack 4 2)
    ∷ reads 2 (0 ∷ 4 ∷ 0 ∷ []) (Reading 4 1) WentOn (WalkingBack 4 1)
    ∷ reads 2 (0 ∷ 3 ∷ 0 ∷ []) (Reading 4 1) WentOn (WalkingBack 4 1)
    ∷ reads 2 (0 ∷ 0 ∷ 0 ∷ []) (Reading 4 1) WentOn (WalkingBack 4 1)
    -- the next cell back, whatever it holds, also from cell 0 to the last one
    ∷ reads 2 (0 ∷ 9 ∷ 6 ∷ 3 ∷ 0 ∷ []) (WalkingBack 6 3) WentOn (WalkingBack 6 2)
    ∷ reads 2 (0 ∷ 9 ∷ 0 ∷ 0 ∷ 0 ∷ []) (WalkingBack 6 3) WentOn (WalkingBack 6 2)
    ∷ reads 2 (0 ∷ 9 ∷ 7 ∷ 8 ∷ 0 ∷ []) (WalkingBack 6 3) WentOn (WalkingBack 6 2)
    ∷ reads 2 (0 ∷ 0 ∷ 0 ∷ 0 ∷ 9 ∷ []) (WalkingBack 4 0) WentOn (WalkingBack 4 4)
    -- the turn that reads the home and doesn't find its label there finishes
    ∷ reads 2 (0 ∷ 0 ∷ 0 ∷ 0 ∷ 9 ∷ []) (WalkingBack 4 4) Finished Idle
    ∷ reads 2 (0 ∷ 0 ∷ 0 ∷ 0 ∷ 3 ∷ []) (WalkingBack 4 4) Finished Idle
    ∷ reads 2 (4 ∷ 0 ∷ 0 ∷ 0 ∷ 0 ∷ []) (WalkingBack 4 4) Finished Idle
    -- at a cell k holding its label it seeks a replacement, from the next cell, also at its home
    ∷ reads 2 (0 ∷ 9 ∷ 6 ∷ 3 ∷ 0 ∷ []) (WalkingBack 6 2) WentOn (SeekingForward 6 2 3)
    ∷ reads 2 (0 ∷ 6 ∷ 0 ∷ 0 ∷ 0 ∷ []) (WalkingBack 6 1) WentOn (SeekingForward 6 1 2)
    ∷ reads 2 (0 ∷ 0 ∷ 0 ∷ 13 ∷ 8 ∷ []) (WalkingBack 8 4) WentOn (SeekingForward 8 4 0)
    -- it walks to the first that is empty: no cell lies between, or some do
    ∷ reads 2 (0 ∷ 6 ∷ 0 ∷ 0 ∷ 0 ∷ []) (SeekingForward 6 1 2) WentOn (Replacing 6 1 2 0)
    ∷ reads 2 (0 ∷ 0 ∷ 0 ∷ 0 ∷ 9 ∷ []) (SeekingForward 9 4 0) WentOn (Replacing 9 4 0 0)
    ∷ reads 2 (0 ∷ 6 ∷ 7 ∷ 8 ∷ 0 ∷ []) (SeekingForward 6 1 4) WentOn (SeekingBack 3 6 1 4 0)
    ∷ reads 2 (0 ∷ 0 ∷ 0 ∷ 13 ∷ 9 ∷ []) (SeekingForward 13 3 0) WentOn (SeekingBack 4 13 3 0 0)
    -- or whose label's way passes k: from k itself, from before k, across the wrap
    ∷ reads 2 (0 ∷ 6 ∷ 1 ∷ 0 ∷ 0 ∷ []) (SeekingForward 6 1 2) WentOn (Replacing 6 1 2 1)
    ∷ reads 2 (5 ∷ 6 ∷ 7 ∷ 10 ∷ 0 ∷ []) (SeekingForward 6 1 3) WentOn (SeekingBack 2 6 1 3 10)
    ∷ reads 2 (4 ∷ 0 ∷ 0 ∷ 13 ∷ 8 ∷ []) (SeekingForward 8 4 0) WentOn (Replacing 8 4 0 4)
    ∷ reads 2 (4 ∷ 3 ∷ 0 ∷ 13 ∷ 8 ∷ []) (SeekingForward 8 4 1) WentOn (SeekingBack 0 8 4 1 3)
    -- else on: a label at its home, one whose way begins behind k, also across the wrap and after the last cell
    ∷ reads 2 (0 ∷ 6 ∷ 7 ∷ 0 ∷ 0 ∷ []) (SeekingForward 6 1 2) WentOn (SeekingForward 6 1 3)
    ∷ reads 2 (0 ∷ 6 ∷ 7 ∷ 2 ∷ 0 ∷ []) (SeekingForward 6 1 3) WentOn (SeekingForward 6 1 4)
    ∷ reads 2 (0 ∷ 11 ∷ 6 ∷ 8 ∷ 0 ∷ []) (SeekingForward 6 2 3) WentOn (SeekingForward 6 2 4)
    ∷ reads 2 (0 ∷ 9 ∷ 6 ∷ 8 ∷ 0 ∷ []) (SeekingForward 6 2 3) WentOn (SeekingForward 6 2 4)
    ∷ reads 2 (5 ∷ 10 ∷ 0 ∷ 0 ∷ 9 ∷ []) (SeekingForward 9 4 1) WentOn (SeekingForward 9 4 2)
    ∷ reads 2 (0 ∷ 0 ∷ 0 ∷ 13 ∷ 4 ∷ []) (SeekingForward 13 3 4) WentOn (SeekingForward 13 3 0)
    -- then it walks back, taking any nearer such cell it sees, a label or an empty one, up to the cell after k
    ∷ reads 2 (0 ∷ 6 ∷ 7 ∷ 1 ∷ 2 ∷ []) (SeekingBack 3 6 1 4 2) WentOn (SeekingBack 2 6 1 3 1)
    ∷ reads 2 (0 ∷ 6 ∷ 7 ∷ 0 ∷ 1 ∷ []) (SeekingBack 3 6 1 4 1) WentOn (SeekingBack 2 6 1 3 0)
    ∷ reads 2 (0 ∷ 6 ∷ 7 ∷ 0 ∷ 0 ∷ []) (SeekingBack 3 6 1 4 0) WentOn (SeekingBack 2 6 1 3 0)
    ∷ reads 2 (0 ∷ 6 ∷ 7 ∷ 1 ∷ 6 ∷ []) (SeekingBack 3 6 1 4 6) WentOn (SeekingBack 2 6 1 3 1)
    ∷ reads 2 (0 ∷ 6 ∷ 7 ∷ 1 ∷ 11 ∷ []) (SeekingBack 3 6 1 4 11) WentOn (SeekingBack 2 6 1 3 1)
    ∷ reads 2 (0 ∷ 15 ∷ 8 ∷ 10 ∷ 11 ∷ 1 ∷ 0 ∷ []) (SeekingBack 5 8 2 6 0) WentOn (SeekingBack 4 8 2 5 1)
    ∷ reads 2 (4 ∷ 3 ∷ 0 ∷ 0 ∷ 9 ∷ []) (SeekingBack 1 4 0 2 0) WentOn (Replacing 4 0 1 3)
    ∷ reads 2 (0 ∷ 6 ∷ 0 ∷ 0 ∷ 0 ∷ []) (SeekingBack 2 6 1 3 0) WentOn (Replacing 6 1 2 0)
    ∷ reads 2 (0 ∷ 9 ∷ 6 ∷ 0 ∷ 0 ∷ []) (SeekingBack 3 6 2 4 0) WentOn (Replacing 6 2 3 0)
    ∷ reads 2 (0 ∷ 6 ∷ 0 ∷ 2 ∷ 1 ∷ []) (SeekingBack 2 6 1 4 1) WentOn (Replacing 6 1 2 0)
    ∷ reads 2 (0 ∷ 6 ∷ 1 ∷ 2 ∷ 0 ∷ []) (SeekingBack 2 6 1 3 2) WentOn (Replacing 6 1 2 1)
    ∷ reads 2 (0 ∷ 6 ∷ 1 ∷ 2 ∷ 0 ∷ []) (SeekingBack 2 6 1 4 0) WentOn (Replacing 6 1 2 1)
    ∷ reads 2 (4 ∷ 3 ∷ 0 ∷ 13 ∷ 8 ∷ []) (SeekingBack 0 8 4 1 3) WentOn (Replacing 8 4 0 4)
    ∷ reads 2 (0 ∷ 6 ∷ 11 ∷ 2 ∷ 1 ∷ []) (SeekingBack 2 6 1 4 1) WentOn (Replacing 6 1 2 11)
    ∷ reads 2 (0 ∷ 0 ∷ 3 ∷ 13 ∷ 0 ∷ []) (SeekingBack 0 13 3 2 3) WentOn (SeekingBack 4 13 3 0 0)
    -- it keeps the farther one at a label at its home or whose way begins behind k
    ∷ reads 2 (0 ∷ 6 ∷ 7 ∷ 8 ∷ 1 ∷ []) (SeekingBack 3 6 1 4 1) WentOn (SeekingBack 2 6 1 4 1)
    ∷ reads 2 (0 ∷ 15 ∷ 8 ∷ 10 ∷ 11 ∷ 12 ∷ 0 ∷ []) (SeekingBack 5 8 2 6 0) WentOn (SeekingBack 4 8 2 6 0)
    ∷ reads 2 (0 ∷ 6 ∷ 2 ∷ 0 ∷ 0 ∷ []) (SeekingBack 2 6 1 3 0) WentOn (Replacing 6 1 3 0)
    ∷ reads 2 (0 ∷ 9 ∷ 6 ∷ 8 ∷ 0 ∷ []) (SeekingBack 3 6 2 4 0) WentOn (Replacing 6 2 4 0)
    ∷ reads 2 (0 ∷ 6 ∷ 7 ∷ 8 ∷ 0 ∷ []) (SeekingBack 3 6 1 4 0) WentOn (SeekingBack 2 6 1 4 0)
    ∷ reads 2 (0 ∷ 6 ∷ 7 ∷ 8 ∷ 1 ∷ []) (SeekingBack 2 6 1 4 1) WentOn (Replacing 6 1 4 1)
    ∷ reads 2 (0 ∷ 6 ∷ 7 ∷ 2 ∷ 0 ∷ []) (SeekingBack 3 6 1 4 0) WentOn (SeekingBack 2 6 1 4 0)
    ∷ reads 2 (5 ∷ 3 ∷ 0 ∷ 13 ∷ 8 ∷ []) (SeekingBack 0 8 4 1 3) WentOn (Replacing 8 4 1 3)
    -- it replaces k by what it took: after success with 0 it finishes
    ∷ turns 2 (0 ∷ 6 ∷ 0 ∷ 0 ∷ 0 ∷ []) (Replacing 6 1 2 0) Finished Idle (0 ∷ 0 ∷ 0 ∷ 0 ∷ 0 ∷ [])
    -- after success with a label it goes on to take out that label, walking back from the cell where it saw it
    ∷ turns 2 (0 ∷ 6 ∷ 7 ∷ 8 ∷ 1 ∷ []) (Replacing 6 1 4 1) WentOn (WalkingBack 1 4) (0 ∷ 1 ∷ 7 ∷ 8 ∷ 1 ∷ [])
    ∷ turns 2 (4 ∷ 3 ∷ 0 ∷ 13 ∷ 8 ∷ []) (Replacing 8 4 0 4) WentOn (WalkingBack 4 0) (4 ∷ 3 ∷ 0 ∷ 13 ∷ 4 ∷ [])
    -- if k has changed, it looks at k again: a smaller or a greater label, what it took, or 0
    ∷ reads 2 (0 ∷ 3 ∷ 7 ∷ 8 ∷ 1 ∷ []) (Replacing 6 1 4 1) WentOn (WalkingBack 6 1)
    ∷ reads 2 (0 ∷ 11 ∷ 7 ∷ 8 ∷ 1 ∷ []) (Replacing 6 1 4 1) WentOn (WalkingBack 6 1)
    ∷ reads 2 (0 ∷ 1 ∷ 7 ∷ 8 ∷ 1 ∷ []) (Replacing 6 1 4 1) WentOn (WalkingBack 6 1)
    ∷ reads 2 (0 ∷ 0 ∷ 7 ∷ 8 ∷ 1 ∷ []) (Replacing 6 1 4 1) WentOn (WalkingBack 6 1)
    ∷ reads 2 (0 ∷ 0 ∷ 0 ∷ 0 ∷ 0 ∷ []) (Replacing 6 1 2 0) WentOn (WalkingBack 6 1)
    ∷ reads 2 (0 ∷ 9 ∷ 3 ∷ 0 ∷ 0 ∷ []) (Replacing 6 2 3 0) WentOn (WalkingBack 6 2)
    ∷ reads 2 (0 ∷ 9 ∷ 0 ∷ 0 ∷ 0 ∷ []) (Replacing 6 2 3 1) WentOn (WalkingBack 6 2)
    ∷ reads 2 (0 ∷ 9 ∷ 0 ∷ 0 ∷ 0 ∷ []) (Replacing 6 2 3 6) WentOn (WalkingBack 6 2)
    ∷ reads 2 (0 ∷ 0 ∷ 0 ∷ 0 ∷ 0 ∷ []) (Replacing 6 1 2 6) WentOn (WalkingBack 6 1)
    ∷ reads 2 (0 ∷ 3 ∷ 0 ∷ 0 ∷ 0 ∷ []) (Replacing 6 1 2 0) WentOn (WalkingBack 6 1)
    ∷ reads 2 (0 ∷ 3 ∷ 0 ∷ 0 ∷ 0 ∷ []) (Replacing 6 1 2 6) WentOn (WalkingBack 6 1)
    -- copies: its own label is the replacement
    ∷ reads 2 (0 ∷ 6 ∷ 6 ∷ 0 ∷ 0 ∷ []) (SeekingForward 6 1 2) WentOn (Replacing 6 1 2 6)
    ∷ reads 2 (0 ∷ 6 ∷ 6 ∷ 1 ∷ 0 ∷ []) (SeekingBack 2 6 1 3 1) WentOn (Replacing 6 1 2 6)
    ∷ reads 2 (0 ∷ 6 ∷ 6 ∷ 0 ∷ 0 ∷ []) (Replacing 6 1 2 6) WentOn (WalkingBack 6 2)
    ∷ reads 2 (0 ∷ 9 ∷ 6 ∷ 6 ∷ 0 ∷ []) (Replacing 6 2 3 6) WentOn (WalkingBack 6 3)
    ∷ reads 2 (0 ∷ 6 ∷ 0 ∷ 6 ∷ 0 ∷ []) (SeekingBack 2 6 1 3 6) WentOn (Replacing 6 1 2 0)
    ∷ reads 2 (0 ∷ 6 ∷ 6 ∷ 0 ∷ 0 ∷ []) (SeekingBack 2 6 1 3 0) WentOn (Replacing 6 1 2 6)
    ∷ reads 2 (0 ∷ 6 ∷ 7 ∷ 6 ∷ 0 ∷ []) (SeekingBack 2 6 1 3 6) WentOn (Replacing 6 1 3 6)
    ∷ reads 2 (0 ∷ 9 ∷ 6 ∷ 6 ∷ 0 ∷ []) (SeekingForward 6 2 3) WentOn (Replacing 6 2 3 6)
    ∷ reads 2 (0 ∷ 6 ∷ 7 ∷ 6 ∷ 0 ∷ []) (SeekingForward 6 1 3) WentOn (SeekingBack 2 6 1 3 6)
    -- forged: seeking at k itself, walking back from k, a label that came out of order, a full table, a cell named twice
    ∷ reads 2 (0 ∷ 6 ∷ 0 ∷ 0 ∷ 0 ∷ []) (SeekingForward 6 1 1) WentOn (SeekingForward 6 1 2)
    ∷ reads 2 (0 ∷ 0 ∷ 0 ∷ 0 ∷ 0 ∷ []) (SeekingForward 6 1 1) WentOn (SeekingBack 0 6 1 1 0)
    ∷ reads 2 (0 ∷ 6 ∷ 0 ∷ 0 ∷ 0 ∷ []) (SeekingBack 1 6 1 3 8) WentOn (SeekingBack 0 6 1 3 8)
    ∷ reads 2 (0 ∷ 0 ∷ 0 ∷ 0 ∷ 0 ∷ []) (SeekingBack 1 6 1 3 8) WentOn (SeekingBack 0 6 1 1 0)
    ∷ reads 2 (0 ∷ 6 ∷ 8 ∷ 8 ∷ 0 ∷ []) (SeekingBack 3 6 1 2 8) WentOn (SeekingBack 2 6 1 2 8)
    ∷ reads 2 (0 ∷ 6 ∷ 7 ∷ 1 ∷ 0 ∷ []) (SeekingBack 3 6 1 3 8) WentOn (SeekingBack 2 6 1 3 1)
    ∷ reads 2 (0 ∷ 6 ∷ 7 ∷ 1 ∷ 0 ∷ []) (SeekingBack 3 6 1 1 9) WentOn (SeekingBack 2 6 1 3 1)
    ∷ reads 2 (0 ∷ 6 ∷ 7 ∷ 8 ∷ 0 ∷ []) (SeekingBack 3 6 1 1 9) WentOn (SeekingBack 2 6 1 1 9)
    ∷ reads 2 (1 ∷ 6 ∷ 0 ∷ 0 ∷ 0 ∷ []) (SeekingForward 6 1 0) WentOn (SeekingBack 4 6 1 0 1)
    ∷ reads 2 (7 ∷ 6 ∷ 8 ∷ 9 ∷ 5 ∷ []) (SeekingForward 6 1 0) WentOn (SeekingForward 6 1 1)
    ∷ reads 2 (3 ∷ 6 ∷ 8 ∷ 9 ∷ 5 ∷ []) (SeekingForward 6 1 4) WentOn (SeekingBack 3 6 1 4 5)
    ∷ turns 2 (0 ∷ 6 ∷ 0 ∷ 0 ∷ 0 ∷ []) (Replacing 6 1 1 9) WentOn (WalkingBack 9 1) (0 ∷ 9 ∷ 0 ∷ 0 ∷ 0 ∷ [])
    ∷ []

-- ---- prices, put in
unfoldable pub insert_prices : List Example
insert_prices =
    -- its own label at a lower or at the same price stands, and it finishes
    keeps 1 (0 ∷ content 4 2 ∷ 0 ∷ []) (Reading (content 4 3) 1) Finished Idle
    ∷ keeps 1 (0 ∷ content 4 3 ∷ 0 ∷ []) (Reading (content 4 3) 1) Finished Idle
    ∷ keeps 1 (0 ∷ content 4 1 ∷ 0 ∷ []) (Reading (content 4 9999999) 1) Finished Idle
    -- at a higher price it is replaced, and it finishes
    ∷ keeps 1 (0 ∷ content 4 4 ∷ 0 ∷ []) (Reading (content 4 3) 1) WentOn (Replacing (content 4 3) 1 1 (content 4 4))
    ∷ tracing 1 (0 ∷ content 4 4 ∷ 0 ∷ []) (Replacing (content 4 3) 1 1 (content 4 4)) Finished Idle (0 ∷ content 4 3 ∷ 0 ∷ [])
    ∷ tracing 1 (0 ∷ content 7 2 ∷ content 4 9999999 ∷ []) (Replacing (content 4 1) 2 2 (content 4 9999999)) Finished Idle (0 ∷ content 7 2 ∷ content 4 1 ∷ [])
    -- precedence goes by label, whatever the prices
    ∷ keeps 1 (0 ∷ content 7 1 ∷ 0 ∷ []) (Reading (content 4 9999999) 1) WentOn (Reading (content 4 9999999) 2)
    ∷ keeps 1 (0 ∷ content 7 9999999 ∷ 0 ∷ []) (Reading (content 4 1) 1) WentOn (Reading (content 4 1) 2)
    ∷ keeps 1 (0 ∷ content 1 1 ∷ 0 ∷ []) (Reading (content 4 9999999) 1) WentOn (Replacing (content 4 9999999) 1 1 (content 1 1))
    ∷ keeps 1 (0 ∷ content 1 9999999 ∷ 0 ∷ []) (Reading (content 4 1) 1) WentOn (Replacing (content 4 1) 1 1 (content 1 9999999))
    -- a label that it replaces is carried on with its price
    ∷ tracing 1 (0 ∷ content 1 8 ∷ 0 ∷ []) (Replacing (content 4 5) 1 1 (content 1 8)) WentOn (Reading (content 1 8) 2) (0 ∷ content 4 5 ∷ 0 ∷ [])
    -- cells are compared whole: the same label at another price is another content
    ∷ keeps 1 (0 ∷ content 4 4 ∷ 0 ∷ []) (Replacing (content 4 3) 1 1 (content 4 5)) WentOn (Reading (content 4 3) 1)
    ∷ keeps 1 (0 ∷ content 1 7 ∷ 0 ∷ []) (Replacing (content 4 3) 1 1 (content 1 8)) WentOn (Reading (content 4 3) 1)
    -- a cell with label 0 is empty to a worker, who compares it whole
    ∷ keeps 1 (0 ∷ 7 ∷ 0 ∷ []) (Reading (content 4 3) 1) WentOn (Replacing (content 4 3) 1 1 7)
    ∷ tracing 1 (0 ∷ 7 ∷ 0 ∷ []) (Replacing (content 4 3) 1 1 7) Finished Idle (0 ∷ content 4 3 ∷ 0 ∷ [])
    ∷ keeps 1 (0 ∷ 7 ∷ 0 ∷ []) (Replacing (content 4 3) 1 1 0) WentOn (Reading (content 4 3) 1)
    ∷ keeps 1 (0 ∷ 0 ∷ 0 ∷ []) (Replacing (content 4 3) 1 1 7) WentOn (Reading (content 4 3) 1)
    ∷ keeps 1 (0 ∷ 7 ∷ 0 ∷ []) (Replacing (content 4 3) 1 1 6) WentOn (Reading (content 4 3) 1)
    -- forged: its own label at no higher price is a label like any other, and carried on
    ∷ tracing 1 (0 ∷ content 4 2 ∷ 0 ∷ []) (Replacing (content 4 3) 1 1 (content 4 2)) WentOn (Reading (content 4 2) 2) (0 ∷ content 4 3 ∷ 0 ∷ [])
    ∷ keeps 1 (0 ∷ content 4 3 ∷ 0 ∷ []) (Replacing (content 4 3) 1 1 (content 4 3)) WentOn (Reading (content 4 3) 2)
    -- forged: prices that no label can have are carried and compared as they are
    ∷ keeps 1 (0 ∷ content 4 1 ∷ 0 ∷ []) (Reading (content 4 0) 1) WentOn (Replacing (content 4 0) 1 1 (content 4 1))
    ∷ keeps 1 (0 ∷ content 4 10000000 ∷ 0 ∷ []) (Reading (content 4 4294967295) 1) Finished Idle
    ∷ []

-- ---- prices, look up: the price that stands is answered, not one that its worker carries
unfoldable pub find_prices : List Example
find_prices =
    keeps 3 (0 ∷ content 4 37 ∷ 0 ∷ []) (Reading (content 4 0) 1) (Price 37) Idle
    ∷ keeps 3 (0 ∷ content 4 37 ∷ 0 ∷ []) (Reading (content 4 5) 1) (Price 37) Idle
    ∷ keeps 3 (0 ∷ content 4 5 ∷ 0 ∷ []) (Reading (content 4 37) 1) (Price 5) Idle
    ∷ keeps 3 (0 ∷ content 7 1 ∷ 0 ∷ []) (Reading (content 4 0) 1) WentOn (Reading (content 4 0) 2)
    ∷ keeps 3 (0 ∷ content 1 9999999 ∷ 0 ∷ []) (Reading (content 4 0) 1) No Idle
    -- altered tables: a cell with label 0 is empty, and a price is told as it stands
    ∷ keeps 3 (0 ∷ 37 ∷ 0 ∷ []) (Reading (content 4 0) 1) No Idle
    ∷ keeps 3 (0 ∷ content 4 0 ∷ 0 ∷ []) (Reading (content 4 0) 1) (Price 0) Idle
    ∷ keeps 3 (0 ∷ content 4 4294967295 ∷ 0 ∷ []) (Reading (content 4 0) 1) (Price 4294967295) Idle
    ∷ []

-- ---- prices, take out
unfoldable pub delete_prices : List Example
delete_prices =
    -- it goes by its label, and seeks a replacement for what it read there
    keeps 2 (0 ∷ content 7 1 ∷ 0 ∷ []) (Reading (content 4 0) 1) WentOn (Reading (content 4 0) 2)
    ∷ keeps 2 (0 ∷ content 4 37 ∷ 0 ∷ []) (Reading (content 4 0) 1) WentOn (WalkingBack (content 4 0) 1)
    ∷ keeps 2 (0 ∷ content 1 37 ∷ 0 ∷ []) (Reading (content 4 0) 1) WentOn (WalkingBack (content 4 0) 1)
    ∷ keeps 2 (0 ∷ content 4 37 ∷ 0 ∷ []) (WalkingBack (content 4 0) 1) WentOn (SeekingForward (content 4 37) 1 2)
    ∷ keeps 2 (0 ∷ content 4 37 ∷ 0 ∷ []) (WalkingBack (content 4 40) 1) WentOn (SeekingForward (content 4 37) 1 2)
    ∷ keeps 2 (0 ∷ content 7 0 ∷ 0 ∷ []) (WalkingBack (content 4 0) 1) Finished Idle
    -- a label is taken with its price, by its own way
    ∷ keeps 2 (0 ∷ content 4 37 ∷ content 1 8 ∷ []) (SeekingForward (content 4 37) 1 2) WentOn (Replacing (content 4 37) 1 2 (content 1 8))
    ∷ keeps 2 (0 ∷ content 4 37 ∷ content 5 8 ∷ []) (SeekingForward (content 4 37) 1 2) WentOn (SeekingForward (content 4 37) 1 0)
    ∷ tracing 2 (0 ∷ content 4 37 ∷ content 1 8 ∷ []) (Replacing (content 4 37) 1 2 (content 1 8)) WentOn (WalkingBack (content 1 8) 2)
    (0 ∷ content 1 8 ∷ content 1 8 ∷ [])
    -- cells are compared whole: the same label at another price is another content, and it looks again
    ∷ keeps 2 (0 ∷ content 4 36 ∷ 0 ∷ []) (Replacing (content 4 37) 1 2 0) WentOn (WalkingBack (content 4 37) 1)
    ∷ keeps 2 (0 ∷ content 4 38 ∷ content 1 8 ∷ []) (Replacing (content 4 37) 1 2 (content 1 8)) WentOn (WalkingBack (content 4 37) 1)
    -- a cell with label 0 is empty to a worker, who copies it as 0
    ∷ keeps 2 (0 ∷ content 4 37 ∷ 9 ∷ []) (SeekingForward (content 4 37) 1 2) WentOn (Replacing (content 4 37) 1 2 9)
    ∷ keeps 2 (0 ∷ content 6 1 ∷ 9 ∷ 0 ∷ 0 ∷ []) (SeekingBack 2 (content 6 1) 1 3 0) WentOn (Replacing (content 6 1) 1 2 9)
    ∷ tracing 2 (0 ∷ content 4 37 ∷ 9 ∷ []) (Replacing (content 4 37) 1 2 9) Finished Idle (0 ∷ 0 ∷ 9 ∷ [])
    ∷ keeps 2 (9 ∷ 0 ∷ content 5 1 ∷ []) (SeekingForward (content 5 1) 2 0) WentOn (Replacing (content 5 1) 2 0 9)
    ∷ keeps 2 (9 ∷ 0 ∷ 0 ∷ content 13 1 ∷ content 9 1 ∷ []) (SeekingBack 0 (content 13 1) 3 1 0) WentOn (SeekingBack 4 (content 13 1) 3 0 9)
    ∷ keeps 2 (0 ∷ 9 ∷ 0 ∷ []) (Reading (content 4 0) 1) WentOn (WalkingBack (content 4 0) 1)
    ∷ keeps 2 (0 ∷ 9 ∷ 0 ∷ []) (WalkingBack (content 4 0) 1) Finished Idle
    ∷ []

abbrev pub traces : List Example
traces = idle_turns ++ insert_turns ++ find_turns ++ delete_turns ++ insert_prices ++ find_prices ++ delete_prices
