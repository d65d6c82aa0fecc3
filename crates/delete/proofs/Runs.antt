-- A list of events from the opening of a delete phase: keys that are not ordered stay in the table at all times, and where all workers are idle the table
-- is the layout of the keys at opening without the ordered ones.
use mathlib.Core.Path.{◌≡◌}
use mathlib.Core.Logic.{◌≢◌, ◌↔◌}
use mathlib.Core.List.{List, []}
use Prim.Native.Nat.{ℕ, ◌<◌}
use native.Mathlib.Omega.{arith}
use lib.ListN.{length, get_or, replicate, length-replicate}
use Rattle.layout.specs.Layout.{In, without, layout}
use Rattle.layout.specs.Sound.{Holds, Sound}
use Rattle.layout.proofs.Canonical.{keys-layout}
use Rattle.layout.proofs.Sets.{in_without}
use Rattle.activities.specs.declared.Activity.TheVariants.{Idle}
use Rattle.rule.specs.Rule.{rule}
use Rattle.rule.specs.Events.{Run, Event, worker, AllIdle, ordered, event, opened, after}
use Rattle.phases.proofs.Crew.{crew-idle}
use Rattle.phases.proofs.Events.{event-by, run-keeps}
use Rattle.phases.proofs.Steps.{cell_of, moved}
use Rattle.delete.proofs.Ends.{setting, opening, unordered-stays, ordered-gone, at_rest}
use Rattle.delete.proofs.Invariant.{Invariant}
use Rattle.delete.proofs.Setting.{Setting, plain}
use Rattle.delete.proofs.Steps.{released, order-keeps, step_keeps}

-- ---- every event keeps the invariant, for some released keys
module _ (f : Setting) where
  open f use {n, home}

  abbrev pub Fair : Run → Type 0
  Fair s = (R : List ℕ) × Invariant f s.table s.workers s.ordered R

  unfoldable pub order-fair : (s : Run) (w v : ℕ) → Fair s → w < length s.workers → worker s w ≡ Idle → 0 < v → Fair (ordered 2 n plain home s w v)
  unfolding ordered
  order-fair s w v (R, inv) wl is l = (R, order-keeps f s.table s.workers s.ordered R inv w (omega (arith, inv.crew)) v (omega arith) is)

  unfoldable pub step-fair : (s : Run) (w : ℕ) → Fair s → w < length s.workers → Fair (moved 2 n plain home s w)
  unfolding moved
  step-fair s w (R, inv) wl =
      let a = worker s w in (
        released a (rule 2 n plain home a (get_or s.table (cell_of a) 0)).activity R,
        step_keeps f s.table s.workers s.ordered R inv w (omega (arith, inv.crew)),
      )

  event-fair : (e : Event) (s : Run) → Fair s → Fair (event 2 n plain home e s)
  event-fair e s h = event-by 2 n plain home Fair e s h (λ w v l is nz. order-fair s w v h l is nz) (λ w. step-fair s w h)

-- ---- a list of events from the opening of a sound table with W idle workers
module _ (n W : ℕ) (home : ℕ → ℕ) (hb : (x : ℕ) → home x < n) (t : List ℕ) (sound : Sound n home t) where
  abbrev f : Setting
  f = setting n W home hb t sound

  pub opening-fair : Fair (setting n W home hb t sound) (opened W t)
  opening-fair = ([], opening n W home hb t sound (replicate W Idle) (length-replicate W Idle) (crew-idle W))

  module _ (es : List Event) where
    pub fair : Fair (setting n W home hb t sound) (after 2 n W plain home t es)
    fair = run-keeps 2 n plain home (Fair f) (event-fair f) es (opened W t) opening-fair

    abbrev s : Run
    s = after 2 n W plain home t es

    -- a key that is not ordered is never missing
    pub unordered-there : (v : ℕ) → v ≢ 0 → In v t → (In v (after 2 n W plain home t es).ordered → ⊥) → Holds n (after 2 n W plain home t es).table v
    unordered-there v nz i = unordered-stays f s.table s.workers s.ordered fair.0 fair.1 v (nz, i)

    module _ (rest : AllIdle (after 2 n W plain home t es)) where
      pub keys-at-rest : (v : ℕ) → v ≢ 0 → Holds n (after 2 n W plain home t es).table v ↔ In v (without (after 2 n W plain home t es).ordered t)
      keys-at-rest v nz =
          let w = in_without s.ordered t v in (
            λ h. let (k, nd) = ordered-gone f s.table s.workers s.ordered fair.0 fair.1 rest v nz h in w.1 (k.1, nd),
            λ i. let (k, nd) = w.0 i in unordered-there v nz k nd,
          )

      pub layout-at-rest : (after 2 n W plain home t es).table ≡ layout n home (without (after 2 n W plain home t es).ordered t)
      layout-at-rest =
          keys-layout n home hb (without s.ordered t) s.table (at_rest f s.table s.workers s.ordered fair.0 fair.1 rest) keys-at-rest
