-- No event makes an activity ill-formed, whatever stands in the cells: so no list of events does, in a phase of any kind.
use mathlib.Core.List.{List}
use Prim.Native.Nat.{ℕ, ◌<◌}
use native.Mathlib.Omega.{arith}
use lib.Dec.{T}
use lib.ListN.{length, get_or}
use Rattle.ring.proofs.Tests.{true-says}
use Rattle.activities.specs.Activities.{activity_ok, Suits}
use Rattle.activities.proofs.Activities.{suits-says}
use Rattle.rule.specs.Events.{Run, Event, worker, ordered, event, opened, after}
use Rattle.rule.proofs.Suits.{rule-suits}
use Rattle.phases.proofs.Crew.{set_all, crew-idle}
use Rattle.phases.proofs.Events.{event-by, run-keeps}
use Rattle.phases.proofs.Steps.{cell_of, moved}

module _ (k n : ℕ) (key home : ℕ → ℕ) (hb : (x : ℕ) → home x < n) where
  abbrev Formed : Run → Type 0
  Formed s = (w : ℕ) → Suits k n key (worker s w)

  order-formed : (s : Run) (w v : ℕ) → w < length s.workers → 0 < key v → Formed s → Formed (ordered k n key home s w v)
  unfolding ordered
  order-formed s w v l p h = set_all (Suits k n key) s.workers w _ l h (λ z. omega arith, hb (key v))

  step-formed : (s : Run) (w : ℕ) → w < length s.workers → Formed s → Formed (moved k n key home s w)
  unfolding moved
  step-formed s w l h =
      set_all (Suits k n key) s.workers w _ l h (rule-suits k n key home (worker s w) (get_or s.table (cell_of (worker s w)) 0) (h w))

  event-formed : (e : Event) (s : Run) → Formed s → Formed (event k n key home e s)
  event-formed e s h = event-by k n key home Formed e s h (λ w v l _ p. order-formed s w v l p h) (λ w l. step-formed s w l h)

  pub formed : (W : ℕ) (t : List ℕ) (es : List Event) (w : ℕ) → T (activity_ok k n key (worker (after k n W key home t es) w))
  formed W t es w =
      let h = run-keeps k n key home Formed event-formed es (opened W t) (λ u. rw (crew-idle W u) tt) in
      (true-says (activity_ok k n key (worker (after k n W key home t es) w))).0 ((suits-says k n key (worker (after k n W key home t es) w)).1 (h w))
