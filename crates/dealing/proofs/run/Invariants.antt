-- The laps so far, and the turns so far of the lap.
use Rattle.std.proofs.Common.{◌≡◌, suc}
use Rattle.state.specs.Model.{gateway}
use Rattle.dealing.specs.Deal.{enough}
use Rattle.dealing.proofs.Lapping.{Lapping}
use Rattle.dealing.proofs.Laps.{left}
use Rattle.dealing.proofs.Settling.{Going}
use Rattle.dealing.proofs.run.Given as goal

abbrev pub invariant-loop-w : goal.invariant-loop-w
invariant-loop-w l =
    Lapping gateway (record { dealt = record { phase = l.initial.phase; finishes = l.initial.finishes }; table = l.initial.cells }) l.count
    (record { dealt = record { phase = l.phase; finishes = l.finishes }; table = l.cells }) l.w

abbrev pub invariant-laps : goal.invariant-laps
invariant-laps l =
    Going gateway l.initial.phase l.initial.cells (record { dealt = record { phase = l.phase; finishes = l.finishes }; table = l.cells }) × (l.count ≡ l.phase.crew)

abbrev pub decreases-laps : goal.decreases-laps
decreases-laps l = left gateway (suc (enough l.initial.phase)) (record { dealt = record { phase = l.phase; finishes = l.finishes }; table = l.cells })
