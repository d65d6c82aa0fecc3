-- What holds at all times of an insert phase, as long as the labels at opening and those ordered are fewer than the cells.
use mathlib.Core.Path.{◌≡◌}
use mathlib.Core.Logic.{◌≢◌, ◌⊎◌}
use mathlib.Core.List.{List}
use Prim.Native.Nat.{ℕ, ◌<◌}
use lib.ListN.{length, get_or}
use Rattle.layout.specs.Layout.{In}
use Rattle.layout.specs.Sound.{Holds, Paths}
use Rattle.layout.proofs.Path.{On}
use Rattle.prices.specs.Priced.{labels}
use Rattle.prices.proofs.Least.{Cheaper}
use Rattle.activities.specs.declared.Activity.{Activity}
use Rattle.activities.specs.declared.Activity.TheVariants.{Idle, Reading, Replacing, WalkingBack, SeekingForward, SeekingBack}
use Rattle.rule.specs.Events.{Run, worker}
use Rattle.insert.proofs.Cases.{Yields}
use Rattle.activities.specs.Activities.{entry_of}

-- some worker carries v
abbrev pub Carried : List Activity → ℕ → Type 0
Carried ws v = (w : ℕ) × (entry_of (get_or ws w Idle) ≡ v)

-- v is in the table or carried
abbrev pub Present : ℕ → List ℕ → List Activity → ℕ → Type 0
Present n u ws v = Holds n u v ⊎ Carried ws v

module _ (n : ℕ) (key home : ℕ → ℕ) where
  abbrev pub Shape : List ℕ → Activity → Type 0
  Shape t Idle = Unit {0}
  Shape t (Reading v i) = On n home (labels key t) (key v) i
  Shape t (Replacing v i j x) = On n home (labels key t) (key v) i × (j < n) × Yields key v x
  Shape t (WalkingBack v k) = ⊥
  Shape t (SeekingForward v k j) = ⊥
  Shape t (SeekingBack p v k j x) = ⊥

module _ (n W : ℕ) (key home : ℕ → ℕ) where
  -- t is the table at opening
  pub record Fair (t : List ℕ) (s : Run) : Type 0 where
    pub sized : length s.table ≡ n
    pub crew : length s.workers ≡ W
    pub paths : Paths n home (labels key s.table)
    pub whole : (j : ℕ) → key (get_or s.table j 0) ≡ 0 → get_or s.table j 0 ≡ 0
    -- no content comes in that was not there or ordered, and for each of those there is one of its label that costs no more
    pub only : (v : ℕ) → key v ≢ 0 → Present n s.table s.workers v → In v t ⊎ In v s.ordered
    pub covers : (v : ℕ) → key v ≢ 0 → In v t ⊎ In v s.ordered → Cheaper key (Present n s.table s.workers) v
    pub shape : (w : ℕ) → Shape n key home s.table (worker s w)
