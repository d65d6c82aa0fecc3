-- Document 01's sentence on spoilt records, clause by clause: for each bound a phase state just inside it and one just outside.
use Rattle.std.specs.Prelude.{true, false, List, [], ◌∷◌, ◌++◌, ℕ}
use Rattle.activities.specs.declared.Activity.TheVariants.{Reading, Replacing, WalkingBack, SeekingForward, SeekingBack}
use Rattle.prices.specs.Contents.{content}
use Rattle.activities.specs.declared.Activity.{Activity}
use Rattle.state.specs.declared.Phase.{Phase}
use Rattle.examples.specs.Forms.{Example, bound, phase, all_idle, busy_one, alone}
use Rattle.examples.specs.Traces.{at_one}

-- an open phase whose workers are all idle
abbrev pub resting : (k n m : ℕ) → Phase
resting k n m = phase k n m false all_idle

-- its kind, length or worker count is outside the limits above
unfoldable pub number_bounds : List Example
number_bounds =
    bound (resting 1 5 2) (resting 0 5 2)
    ∷ bound (resting 3 5 2) (resting 4 5 2)
    ∷ bound (resting 2 2 2) (resting 2 1 2)
    ∷ bound (resting 2 8192 2) (resting 2 8193 2)
    ∷ bound (resting 2 5 1) (resting 2 5 0)
    ∷ bound (resting 2 5 16) (resting 2 5 17)
    -- shut or not
    ∷ bound (phase 1 5 16 true all_idle) (phase 1 5 17 true all_idle)
    ∷ []

-- a worker whose activity's numbers are labels, at price 1
abbrev pub labelled : (k n m w : ℕ) → Activity → Phase
labelled k n m w a = busy_one k n m w (at_one a)

abbrev pub labelled_alone : (k n : ℕ) → Activity → Phase
labelled_alone k n a = alone k n (at_one a)

-- a worker past the count isn't idle
unfoldable pub crew_bounds : List Example
crew_bounds =
    bound (labelled 1 5 1 0 (Reading 3 3)) (labelled 1 5 1 1 (Reading 3 3))
    ∷ bound (labelled 2 5 3 2 (Reading 3 3)) (labelled 2 5 3 3 (Reading 3 3))
    ∷ bound (labelled 3 5 15 14 (Reading 3 3)) (labelled 3 5 15 15 (Reading 3 3))
    ∷ bound (labelled 3 5 16 15 (Reading 3 3)) (labelled 3 5 1 15 (Reading 3 3))
    ∷ []

-- an unfinished worker has an activity its kind lacks (put in reads on or replaces, look up reads on, take out does all four)
unfoldable pub kind_bounds : List Example
kind_bounds =
    bound (labelled_alone 1 5 (Replacing 3 3 3 2)) (labelled_alone 3 5 (Replacing 3 3 3 2))
    ∷ bound (labelled_alone 2 5 (Replacing 3 3 4 2)) (labelled_alone 3 5 (Replacing 3 3 4 2))
    ∷ bound (labelled_alone 2 5 (WalkingBack 3 3)) (labelled_alone 1 5 (WalkingBack 3 3))
    ∷ bound (labelled_alone 2 5 (WalkingBack 3 3)) (labelled_alone 3 5 (WalkingBack 3 3))
    ∷ bound (labelled_alone 2 5 (SeekingForward 3 3 4)) (labelled_alone 1 5 (SeekingForward 3 3 4))
    ∷ bound (labelled_alone 2 5 (SeekingForward 3 3 4)) (labelled_alone 3 5 (SeekingForward 3 3 4))
    ∷ bound (labelled_alone 2 5 (SeekingBack 0 3 3 1 0)) (labelled_alone 1 5 (SeekingBack 0 3 3 1 0))
    ∷ bound (labelled_alone 2 5 (SeekingBack 0 3 3 1 0)) (labelled_alone 3 5 (SeekingBack 0 3 3 1 0))
    -- of any worker, not the first alone
    ∷ bound (labelled 2 5 16 15 (WalkingBack 3 3)) (labelled 3 5 16 15 (WalkingBack 3 3))
    ∷ []

-- has a cell number not below the length
unfoldable pub cell_bounds : List Example
cell_bounds =
    bound (labelled_alone 1 5 (Reading 3 4)) (labelled_alone 1 5 (Reading 3 5))
    ∷ bound (labelled_alone 2 5 (Reading 3 4)) (labelled_alone 2 5 (Reading 3 5))
    ∷ bound (labelled_alone 3 5 (Reading 3 4)) (labelled_alone 3 5 (Reading 3 5))
    ∷ bound (labelled_alone 1 5 (Replacing 3 4 4 9)) (labelled_alone 1 5 (Replacing 3 5 4 9))
    ∷ bound (labelled_alone 1 5 (Replacing 3 4 4 9)) (labelled_alone 1 5 (Replacing 3 4 5 9))
    ∷ bound (labelled_alone 2 5 (Replacing 3 4 4 9)) (labelled_alone 2 5 (Replacing 3 5 4 9))
    ∷ bound (labelled_alone 2 5 (Replacing 3 4 4 9)) (labelled_alone 2 5 (Replacing 3 4 5 9))
    ∷ bound (labelled_alone 2 5 (WalkingBack 3 4)) (labelled_alone 2 5 (WalkingBack 3 5))
    ∷ bound (labelled_alone 2 5 (SeekingForward 3 4 4)) (labelled_alone 2 5 (SeekingForward 3 5 4))
    ∷ bound (labelled_alone 2 5 (SeekingForward 3 4 4)) (labelled_alone 2 5 (SeekingForward 3 4 5))
    ∷ bound (labelled_alone 2 5 (SeekingBack 4 3 4 4 9)) (labelled_alone 2 5 (SeekingBack 4 3 5 4 9))
    ∷ bound (labelled_alone 2 5 (SeekingBack 4 3 4 4 9)) (labelled_alone 2 5 (SeekingBack 4 3 4 5 9))
    ∷ bound (labelled_alone 2 5 (SeekingBack 4 3 4 4 9)) (labelled_alone 2 5 (SeekingBack 5 3 4 4 9))
    -- the length is the record's own
    ∷ bound (labelled_alone 3 8192 (Reading 3 8191)) (labelled_alone 3 8192 (Reading 3 8192))
    ∷ bound (labelled 1 2 16 15 (Reading 3 1)) (labelled 1 2 16 15 (Reading 3 2))
    ∷ []

-- or works for label 0; what it took or read may be 0
unfoldable pub key_bounds : List Example
key_bounds =
    bound (labelled_alone 1 5 (Reading 1 4)) (labelled_alone 1 5 (Reading 0 4))
    ∷ bound (labelled_alone 2 5 (Reading 1 4)) (labelled_alone 2 5 (Reading 0 4))
    ∷ bound (labelled_alone 3 5 (Reading 1 4)) (labelled_alone 3 5 (Reading 0 4))
    ∷ bound (labelled_alone 1 5 (Replacing 1 4 4 0)) (labelled_alone 1 5 (Replacing 0 4 4 0))
    ∷ bound (labelled_alone 2 5 (Replacing 1 4 3 0)) (labelled_alone 2 5 (Replacing 0 4 3 1))
    ∷ bound (labelled_alone 2 5 (WalkingBack 1 4)) (labelled_alone 2 5 (WalkingBack 0 4))
    ∷ bound (labelled_alone 2 5 (SeekingForward 1 4 3)) (labelled_alone 2 5 (SeekingForward 0 4 3))
    ∷ bound (labelled_alone 2 5 (SeekingBack 2 1 4 3 0)) (labelled_alone 2 5 (SeekingBack 2 0 4 3 1))
    ∷ bound (labelled_alone 2 5 (SeekingBack 0 4294967295 0 0 0)) (labelled 2 5 16 15 (SeekingBack 0 0 0 0 0))
    ∷ []

-- a label 0 beside a price is label 0; whatever the price of a label, the record is not spoilt by it, nor is it by a label for factory tests
unfoldable pub price_bounds : List Example
price_bounds =
    bound (alone 1 5 (Reading (content 1 0) 4)) (alone 1 5 (Reading 1 4))
    ∷ bound (alone 1 5 (Reading (content 1 4294967295) 4)) (alone 1 5 (Reading 4294967295 4))
    ∷ bound (alone 1 5 (Replacing (content 1 10000000) 4 4 7)) (alone 1 5 (Replacing 10000000 4 4 7))
    ∷ bound (alone 1 5 (Reading (content 4294967295 1) 0)) (alone 1 5 (Reading 1 0))
    ∷ bound (alone 1 5 (Replacing (content 4000000000 1) 0 0 0)) (alone 1 5 (Replacing 1 0 0 0))
    ∷ bound (alone 2 5 (Reading (content 1 0) 4)) (alone 2 5 (Reading 5 4))
    ∷ bound (alone 2 5 (WalkingBack (content 1 0) 4)) (alone 2 5 (WalkingBack 5 4))
    ∷ bound (alone 2 5 (SeekingForward (content 1 0) 4 3)) (alone 2 5 (SeekingForward 5 4 3))
    ∷ bound (alone 2 5 (SeekingBack 2 (content 1 0) 4 3 9)) (alone 2 5 (SeekingBack 2 5 4 3 9))
    ∷ bound (alone 3 5 (Reading (content 1 7) 4)) (alone 3 5 (Reading 7 4))
    ∷ []

abbrev pub bounds : List Example
bounds = number_bounds ++ crew_bounds ++ kind_bounds ++ cell_bounds ++ key_bounds ++ price_bounds
