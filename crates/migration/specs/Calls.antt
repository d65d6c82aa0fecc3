-- The calls on a migration (document 02: move shift): opening, order, turn and close, with the refusals of each in their sequence.
use Rattle.std.specs.Prelude.{Bool, true, false, cond, List, [], ◌∷◌, ◌++◌, ℕ, suc, leb, ltb, eqb, length, get_or, set, replicate, Ok, Err}
use Rattle.homes.specs.Homes.{plain}
use Rattle.homes.specs.declared.Hash.{Hash}
use Rattle.words.specs.Words.{count_of}
use Rattle.state.specs.Model.{Model, size_ok, crew_ok}
use Rattle.state.specs.Open.{hash_bars, sound_bars}
use Rattle.state.specs.Refusals.{Bar, if, unless, first_of}
use Rattle.state.specs.declared.Refusal.TheVariants.{Size, Crew, OtherTable, NoWorker, Busy, Full, Working, Shut, Spoilt, Unfit}
use Rattle.state.specs.Replies.{Reply}
use Rattle.migration.specs.Tasks.{free, carrier, is_free, task_ok, one_carry, old_after, new_after}
use Rattle.migration.specs.declared.Carried.{Carried}
use Rattle.migration.specs.declared.Carrier.{Carrier}
use Rattle.migration.specs.declared.Migrated.{Migrated}
use Rattle.migration.specs.declared.Migration.{Migration}
use Rattle.migration.specs.declared.Stepped.{Stepped}
use Rattle.migration.specs.declared.Task.{Task}
use Rattle.migration.specs.declared.Task.TheVariants.{Fetching}

-- ---- the state of a migration
-- what worker w is doing
abbrev pub task_at : Migration → ℕ → Task
task_at p w = (get_or p.carriers w (carrier free)).task

abbrev pub all_free : List Carrier → Bool
all_free [] = true
all_free (c ∷ cs) = cond (is_free c.task) (all_free cs) false

-- another task of worker w, and another next old cell; and shut
abbrev pub with_task : Migration → (next w : ℕ) → Task → Migration
with_task p next w a = record {
  kind = p.kind;
  source = p.source;
  length = p.length;
  crew = p.crew;
  next = next;
  shut = p.shut;
  hash = p.hash;
  carriers = set p.carriers w (carrier a);
}

abbrev pub shut_migration : Migration → Migration
shut_migration p = record {
  kind = p.kind;
  source = p.source;
  length = p.length;
  crew = p.crew;
  next = p.next;
  shut = true;
  hash = p.hash;
  carriers = p.carriers;
}

-- ---- which states are well formed, as the test that the calls go by
-- the kind is 4, lengths and worker count are within their bounds, and the next old cell is at most the old length
abbrev pub numbers_ok : Model → (k n m crew next : ℕ) → Bool
numbers_ok M k n m crew next = cond (eqb k 4) (cond (size_ok M n) (cond (size_ok M m) (cond (crew_ok M crew) (leb next n) false) false) false) false

-- of the workers from number i on, those below the count have a task that they may have, and those past it are free
abbrev pub carriers_ok : (n m crew i : ℕ) → List Carrier → Bool
carriers_ok n m crew i [] = true
carriers_ok n m crew i (c ∷ cs) = cond (cond (ltb i crew) (task_ok n m c.task) (is_free c.task)) (carriers_ok n m crew (suc i) cs) false

unfoldable pub is_well_formed : Model → Migration → Bool
is_well_formed M p =
    cond (numbers_ok M p.kind p.source p.length p.crew p.next) (carriers_ok p.source p.length p.crew 0 p.carriers) false

-- ---- opening, with a crew of so many workers, by a and b, from the old table to the new one
abbrev pub all_empty : List ℕ → Bool
all_empty [] = true
all_empty (c ∷ cs) = cond (eqb c 0) (all_empty cs) false

-- the new table is not all empty, or has no more cells than the old one has keys
abbrev pub is_unfit : (old new : List ℕ) → Bool
is_unfit old new = cond (all_empty new) (leb (length new) (count_of old)) true

module _ (M : Model) where
  -- all workers free, and no cell handed out
  abbrev pub fresh : (n m crew : ℕ) → Bool → Hash → Migration
  fresh n m crew shut ab = record {
    kind = 4;
    source = n;
    length = m;
    crew = crew;
    next = 0;
    shut = shut;
    hash = ab;
    carriers = replicate M.room (carrier free);
  }

  -- what a refused opening hands back
  abbrev pub refused_migration : Migration
  refused_migration = fresh 2 2 1 true plain

  -- both lengths are within their bounds
  abbrev pub sizes_ok : (n m : ℕ) → Bool
  sizes_ok n m = cond (size_ok M n) (size_ok M m) false

  module _ (crew : ℕ) (ab : Hash) (old new : List ℕ) where
    -- 1, 2, 21, then the old table's 4, 17 and 18, then 23
    abbrev pub open_bars : List Bar
    open_bars = unless (sizes_ok (length old) (length new)) Size ∷ unless (crew_ok M crew) Crew ∷ hash_bars ab ++ sound_bars M ab old ++ if (is_unfit old new) Unfit ∷ []

    abbrev pub open_reply : Reply
    open_reply = first_of open_bars

    abbrev pub opened : Reply → Migrated
    opened (Ok _) = record { migration = fresh (length old) (length new) crew false ab; reply = Ok tt }
    opened (Err r) = record { migration = refused_migration; reply = Err r }

    abbrev pub open_call : Migrated
    open_call = opened open_reply

module _ (M : Model) (p : Migration) where
  -- ---- refusals of the other calls
  -- of the state: 13, 11
  abbrev pub state_bars : List Bar
  state_bars = unless (is_well_formed M p) Spoilt ∷ if p.shut Shut ∷ []

  -- of the worker's number: 6
  abbrev pub number_bars : ℕ → List Bar
  number_bars w = if (leb p.crew w) NoWorker ∷ []

  -- order: 13, 11, 6, 8, and 9 after the last old cell
  abbrev pub order_bars : ℕ → List Bar
  order_bars w = state_bars ++ number_bars w ++ unless (is_free (task_at p w)) Busy ∷ if (leb p.source p.next) Full ∷ []

  -- both tables have the lengths of the opening
  abbrev pub tables_fit : (old new : List ℕ) → Bool
  tables_fit old new = cond (eqb p.source (length old)) (eqb p.length (length new)) false

  -- turn: 13, 11, 5, 6
  abbrev pub turn_bars : (old new : List ℕ) → ℕ → List Bar
  turn_bars old new w = state_bars ++ unless (tables_fit old new) OtherTable ∷ number_bars w

  -- no order is unfinished, and no old cell remains
  abbrev pub is_done : Bool
  is_done = cond (all_free p.carriers) (leb p.source p.next) false

  -- close: 13, 11, 10
  abbrev pub close_bars : List Bar
  close_bars = state_bars ++ unless is_done Working ∷ []

  -- ---- order: worker w takes the next old cell
  abbrev pub order_reply : ℕ → Reply
  order_reply w = first_of (order_bars w)

  abbrev pub ordered : ℕ → Reply → Migrated
  ordered w (Ok _) = record { migration = with_task p (suc p.next) w (Fetching p.next); reply = Ok tt }
  ordered w (Err r) = record { migration = p; reply = Err r }

  abbrev pub order_call : ℕ → Migrated
  order_call w = ordered w (order_reply w)

  -- ---- close
  abbrev pub close_reply : Reply
  close_reply = first_of close_bars

  abbrev pub closed : Reply → Migrated
  closed (Ok _) = record { migration = shut_migration p; reply = Ok tt }
  closed (Err r) = record { migration = p; reply = Err r }

  abbrev pub close_call : Migrated
  close_call = closed close_reply

  -- ---- turn of worker w, lent the old table and the new one
  module _ (old new : List ℕ) (w : ℕ) where
    abbrev pub turn_check : Reply
    turn_check = first_of (turn_bars old new w)

    abbrev pub stepped : Carried → Stepped
    stepped r = record { migration = with_task p p.next w r.carrier.task; reply = r.reply }

    abbrev pub turned : Reply → Stepped
    turned (Ok _) = stepped (one_carry M p.hash p.length old new (task_at p w))
    turned (Err r) = record { migration = p; reply = Err r }

    abbrev pub turned_old : Reply → List ℕ
    turned_old (Ok _) = old_after M p.hash p.length old new (task_at p w)
    turned_old (Err r) = old

    abbrev pub turned_new : Reply → List ℕ
    turned_new (Ok _) = new_after M p.hash p.length old new (task_at p w)
    turned_new (Err r) = new

    -- the state and the answer, and the two tables afterwards
    abbrev pub turn_call : Stepped
    turn_call = turned turn_check

    abbrev pub turn_old : List ℕ
    turn_old = turned_old turn_check

    abbrev pub turn_new : List ℕ
    turn_new = turned_new turn_check
