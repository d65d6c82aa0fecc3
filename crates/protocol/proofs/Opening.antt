-- What an opening hands back: a phase state with all workers idle.
use mathlib.Core.Path.{refl, ap}
use mathlib.Core.Bool.{Bool}
use Prim.Native.Nat.{ℕ}
use lib.ListN.{length-replicate}
use Rattle.homes.specs.declared.Hash.{Hash}
use Rattle.activities.specs.Activities.{idle}
use Rattle.activities.specs.declared.Worker.{Worker}
use Rattle.rule.proofs.Crew.{replicate-at}
use Rattle.state.specs.Model.{Model}
use Rattle.state.specs.Open.{fresh}
use Rattle.state.specs.declared.Phase.{Phase}
use Rattle.protocol.specs.Promise.{Resting}
use Rattle.protocol.specs.WellFormed.{Size, Crew, Kind, WellFormed}

pub fresh-resting : (M : Model) (k n m : ℕ) (shut : Bool) (ab : Hash) → Resting M k n m shut ab (fresh M k n m shut ab)
fresh-resting M k n m shut ab =
    record {
      kind = refl;
      cells = refl;
      crew = refl;
      shut = refl;
      hash = refl;
      places = length-replicate M.room idle;
      rest = λ w. ap (λ (x : Worker). x.activity) (replicate-at idle M.room w);
    }

pub resting-formed : (M : Model) (k n m : ℕ) (shut : Bool) (ab : Hash) (p : Phase) → Kind k → Size M n → Crew M m → Resting M k n m shut ab p → WellFormed M p
resting-formed M k n m shut ab p kind size crew h =
    record {
      kind = rw h.kind kind;
      size = rw h.cells size;
      crew = rw h.crew crew;
      past = λ w _. h.rest w;
      workers = λ w _. rw (h.rest w) tt;
    }
