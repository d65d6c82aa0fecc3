-- Delete phases of tables of labels alone: contents that are their own labels.
use mathlib.Core.Path.{◌≡◌}
use mathlib.Core.Logic.{◌≢◌}
use mathlib.Core.List.{List}
use Prim.Native.Nat.{ℕ, ◌+◌, ◌≤◌, ◌<◌}
use Rattle.layout.specs.Layout.{In, without, layout}
use Rattle.layout.specs.Sound.{Holds, Sound}
use Rattle.layout.proofs.Sets.{holds-in, in_without}
use Rattle.rule.specs.Events.{Run, Event, AllIdle, run, after}
use Rattle.phases.specs.Promise.{most_rest, Always, steps_of}
use Rattle.phases.proofs.Formed.{formed}
use Rattle.delete.proofs.Bound.{steps-bounded, steps-settle}
use Rattle.delete.proofs.Ends.{setting}
use Rattle.delete.proofs.Runs.{fair, unordered-there, keys-at-rest, layout-at-rest}
use Rattle.delete.proofs.Setting.{plain}

pub record PlainDeletes (n : ℕ) (home : ℕ → ℕ) (t : List ℕ) (s : Run) : Type 0 where
  -- a label that stood at opening and is in no accepted operation is in the table
  pub kept : (v : ℕ) → v ≢ 0 → In v t → (In v s.ordered → ⊥) → In v s.table
  -- where all workers are idle, no label ordered is in the table, and that is the layout of the others at opening
  pub gone : AllIdle s → (v : ℕ) → v ≢ 0 → Holds n s.table v → In v s.ordered → ⊥
  pub at_rest : AllIdle s → s.table ≡ layout n home (without s.ordered t)

module _ (n W : ℕ) (home : ℕ → ℕ) (hb : (x : ℕ) → home x < n) (t : List ℕ) (sound : Sound n home t) (es : List Event) where
  pub always : Always 2 n W plain (after 2 n W plain home t es)
  always =
      let s = after 2 n W plain home t es in
      let (R, inv) = fair n W home hb t sound es in
      record {
        sized = inv.sized;
        crew = inv.crew;
        formed = formed 2 n plain home hb W t es;
        bounded = steps-bounded n W home hb t sound es;
      }

  pub settles : (ws : List ℕ) → (run 2 n plain home (steps_of ws) (after 2 n W plain home t es)).counted ≤ (after 2 n W plain home t es).counted + most_rest n W
  settles ws = steps-settle (setting n W home hb t sound) ws (after 2 n W plain home t es) (fair n W home hb t sound es)

  pub deletes : PlainDeletes n home t (after 2 n W plain home t es)
  deletes =
      record {
        kept = λ v nz i no-order. holds-in n (after 2 n W plain home t es).table v nz (unordered-there n W home hb t sound es v nz i no-order);
        gone = λ rest v nz h. ((in_without (after 2 n W plain home t es).ordered t v).0 ((keys-at-rest n W home hb t sound es rest v nz).0 h)).1;
        at_rest = layout-at-rest n W home hb t sound es;
      }
