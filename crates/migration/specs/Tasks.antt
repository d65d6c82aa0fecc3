-- What a worker of a migration (document 02: move shift) may be doing, and what a turn makes of one worker alone.
use Rattle.std.specs.Prelude.{◌≢◌, Bool, false, cond, List, ℕ, ◌<◌, ltb, eqb, get_or, set, Option, Some, None, Ok}
use Rattle.homes.specs.declared.Hash.{Hash}
use Rattle.prices.specs.Contents.{label}
use Rattle.activities.specs.Activities.{is_idle, entry_of, activity_ok}
use Rattle.activities.specs.declared.Activity.TheVariants.{Idle, Reading, Replacing, WalkingBack, SeekingForward, SeekingBack}
use Rattle.rule.specs.Rule.{touched, start}
use Rattle.rule.specs.declared.Answer.TheVariants.{WentOn, Finished}
use Rattle.state.specs.Model.{Model}
use Rattle.protocol.specs.Split.{one_turn, one_cells}
use Rattle.protocol.specs.declared.Moved.{Moved}
use Rattle.migration.specs.declared.Carried.{Carried}
use Rattle.migration.specs.declared.Carrier.{Carrier}
use Rattle.migration.specs.declared.Task.{Task}
use Rattle.migration.specs.declared.Task.TheVariants.{Fetching, Inserting}

-- ---- read off a task
-- a worker without an order
abbrev pub free : Task
free = Inserting Idle

abbrev pub carrier : Task → Carrier
carrier a = record { task = a }

abbrev pub is_free : Task → Bool
is_free (Fetching c) = false
is_free (Inserting a) = is_idle a

-- the entry that it carries, 0 if it carries none: before it has read its old cell, it does not
abbrev pub load_of : Task → ℕ
load_of (Fetching c) = 0
load_of (Inserting a) = entry_of a

-- a worker may have it in a migration from n cells to m: an old cell yet to be read is below n, and else it is what a worker of an insert phase with m cells
-- may be doing. The test for ill-formed records (document 01: spoilt) and the promise that none arises share it
abbrev pub task_ok : (n m : ℕ) → Task → Bool
task_ok n m (Fetching c) = ltb c n
task_ok n m (Inserting a) = activity_ok 1 m label a

-- the same as a sentence, written out: no label is asked of a worker yet to read its old cell, and besides that only reading on and replacing are allowed
abbrev pub Allowed : (n m : ℕ) → Task → Type 0
Allowed n m (Fetching c) = c < n
Allowed n m (Inserting Idle) = Unit {0}
Allowed n m (Inserting (Reading v i)) = (label v ≢ 0) × (i < m)
Allowed n m (Inserting (Replacing v k j x)) = (label v ≢ 0) × (k < m) × (j < m)
Allowed n m (Inserting (WalkingBack v k)) = ⊥
Allowed n m (Inserting (SeekingForward v k j)) = ⊥
Allowed n m (Inserting (SeekingBack p v k j x)) = ⊥

-- ---- the one cell of one of the two tables that a turn touches
pub data Spot : Type 0 where
  nowhere : Spot
  in_old : (c : ℕ) → Spot
  in_new : (c : ℕ) → Spot

abbrev pub new_at : Option ℕ → Spot
new_at None = nowhere
new_at (Some c) = in_new c

abbrev pub spot_of : Task → Spot
spot_of (Fetching c) = in_old c
spot_of (Inserting a) = new_at (touched a)

-- ---- the turn of one worker, by a and b, with m cells in the new table
module _ (M : Model) (ab : Hash) (m : ℕ) where
  -- that reads the content x of its old cell: without a label it is finished; any other it carries, whole, from its label's home in the new table
  unfoldable pub fetched : ℕ → Carried
  fetched x =
      cond (eqb (label x) 0) (record { carrier = carrier free; reply = Ok Finished })
      (record { carrier = carrier (Inserting (start label (M.home ab m) x)); reply = Ok WentOn })

  -- from there on it is a worker of an insert phase (put-in shift) at the new table
  abbrev pub inserted : Moved → Carried
  inserted r = record { carrier = carrier (Inserting r.worker.activity); reply = r.reply }

  module _ (old new : List ℕ) where
    abbrev pub one_carry : Task → Carried
    one_carry (Fetching c) = fetched (get_or old c 0)
    one_carry (Inserting a) = inserted (one_turn M 1 ab m new (record { activity = a }))

    -- the two tables afterwards: an old cell keeps the content that was read
    abbrev pub old_after : Task → List ℕ
    old_after (Fetching c) = set old c (get_or old c 0)
    old_after (Inserting a) = old

    abbrev pub new_after : Task → List ℕ
    new_after (Fetching c) = new
    new_after (Inserting a) = one_cells M 1 ab m new (record { activity = a })
