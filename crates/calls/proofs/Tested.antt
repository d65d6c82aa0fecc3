-- What a phase has that is well formed to some model.
use Prim.Native.Nat.{ℕ, ◌≤◌, ◌<◌}
use mathlib.Core.Bool.{true}
use mathlib.Core.Path.{◌≡◌}
use native.Mathlib.Omega.{arith}
use lib.ListN.{get_or}
use Rattle.prices.specs.Contents.{label}
use Rattle.activities.specs.Activities.{activity_ok, idle}
use Rattle.state.specs.Model.{model_of}
use Rattle.state.specs.declared.Device.{Device}
use Rattle.state.specs.declared.Phase.{Phase}
use Rattle.state.proofs.Model.{most-workers}
use Rattle.protocol.specs.IsWellFormed.{is_well_formed}
use Rattle.protocol.proofs.WellFormed.{well-formed-says, good-worker}

module _ (p : Phase) (h : (d : Device) × (is_well_formed (model_of d) p ≡ true)) where
  pub some-cells : 0 < p.length
  some-cells = omega (arith, ((well-formed-says (model_of h.0) p).0 h.1).size)

  -- the record has a place for each worker
  pub few-workers : p.crew ≤ 16
  few-workers = omega (arith, ((well-formed-says (model_of h.0) p).0 h.1).crew, most-workers h.0)

  pub right-worker : (w : ℕ) → w < p.crew → activity_ok p.kind p.length label (get_or p.workers w idle).activity ≡ true
  right-worker w below = good-worker (model_of h.0) p h.1 w below
