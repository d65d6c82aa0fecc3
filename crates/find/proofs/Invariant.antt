-- What holds at all times of a find phase over the table t, and how far its workers have still to go.
use mathlib.Core.Path.{◌≡◌}
use mathlib.Core.List.{List}
use Prim.Native.Nat.{ℕ, ◌-◌}
use lib.ListN.{length}
use Rattle.ring.specs.Counting.{over}
use Rattle.ring.specs.Ring.{dist}
use Rattle.layout.proofs.Path.{On}
use Rattle.prices.specs.Priced.{labels}
use Rattle.activities.specs.declared.Activity.{Activity}
use Rattle.activities.specs.declared.Activity.TheVariants.{Idle, Reading, Replacing, WalkingBack, SeekingForward, SeekingBack}
use Rattle.rule.specs.Events.{Run, worker}
use Rattle.phases.specs.Promise.{Finds}

module _ (n : ℕ) (key home : ℕ → ℕ) where
  abbrev pub Shape : List ℕ → Activity → Type 0
  Shape t Idle = Unit {0}
  Shape t (Reading v i) = On n home (labels key t) (key v) i
  Shape t (Replacing v k j x) = ⊥
  Shape t (WalkingBack v k) = ⊥
  Shape t (SeekingForward v k j) = ⊥
  Shape t (SeekingBack p v k j x) = ⊥

  -- how many cells a worker may still read
  abbrev pub weight : Activity → ℕ
  weight Idle = 0
  weight (Reading v i) = n - dist n (home (key v)) i
  weight (Replacing v k j x) = 0
  weight (WalkingBack v k) = 0
  weight (SeekingForward v k j) = 0
  weight (SeekingBack p v k j x) = 0

module _ (n W : ℕ) (key home : ℕ → ℕ) where
  pub record Fair (t : List ℕ) (s : Run) : Type 0 where
    pub crew : length s.workers ≡ W
    pub shape : (w : ℕ) → Shape n key home t (worker s w)
    pub finds : Finds W key t s

  unfoldable pub potential : Run → ℕ
  potential s = over (λ _ a. weight n key home a) Idle W s.workers
