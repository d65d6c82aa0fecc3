-- What a call leaves of a migration, and of the worker that it moves.
use mathlib.Core.Path.{◌≡◌, refl, ap}
use Prim.Native.Nat.{ℕ, ◌<◌}
use lib.ListN.{length, length-set}
use lib.Seq.{get_or-set_same, get_or-set_other}
use Rattle.migration.specs.Calls.{task_at, with_task}
use Rattle.migration.specs.Promise.{ButFor}
use Rattle.migration.specs.Tasks.{free, carrier}
use Rattle.migration.specs.declared.Carrier.{Carrier}
use Rattle.migration.specs.declared.Migration.{Migration}
use Rattle.migration.specs.declared.Task.{Task}

pub task-set : (p : Migration) (next w : ℕ) (a : Task) → w < length p.carriers → task_at (with_task p next w a) w ≡ a
task-set p next w a l = ap (λ (x : Carrier). x.task) (get_or-set_same p.carriers w (carrier a) (carrier free) l)

pub but-self : (w : ℕ) (p : Migration) → ButFor w p p
but-self w p = record {
  frame = record { kind = refl; from = refl; to = refl; crew = refl; hash = refl; places = refl };
  shut = refl;
  others = λ u ne. refl;
}

pub but-task : (p : Migration) (next w : ℕ) (a : Task) → ButFor w p (with_task p next w a)
but-task p next w a =
    record {
      frame = record { kind = refl; from = refl; to = refl; crew = refl; hash = refl; places = length-set p.carriers w _ };
      shut = refl;
      others = λ u ne. ap (λ (x : Carrier). x.task) (get_or-set_other p.carriers w u _ (carrier free) ne);
    }
