-- Document 01's sentence on ill-formed (spoilt) phase states, as a proposition; the calls go by the test `is_well_formed`. a and b are not tested.
use Rattle.std.specs.Prelude.{◌≡◌, ℕ, ◌≤◌, ◌<◌}
use Rattle.prices.specs.Contents.{label}
use Rattle.activities.specs.Activities.{Suits}
use Rattle.activities.specs.declared.Activity.TheVariants.{Idle}
use Rattle.state.specs.Model.{Model}
use Rattle.state.specs.declared.Phase.{Phase}
use Rattle.protocol.specs.Bars.{doing}

-- ---- within the limits: n cells, m workers, kind k
abbrev pub Size : Model → ℕ → Type 0
Size M n = (M.fewest_cells ≤ n) × (n ≤ M.most_cells)

abbrev pub Crew : Model → ℕ → Type 0
Crew M m = (M.fewest_workers ≤ m) × (m ≤ M.most_workers)

abbrev pub Kind : ℕ → Type 0
Kind k = (1 ≤ k) × (k ≤ 3)

pub record WellFormed (M : Model) (p : Phase) : Type 0 where
  pub kind : Kind p.kind
  pub size : Size M p.length
  pub crew : Crew M p.crew
  -- a worker past the count is idle
  pub past : (w : ℕ) → p.crew ≤ w → doing p w ≡ Idle
  pub workers : (w : ℕ) → w < p.crew → Suits p.kind p.length label (doing p w)
