-- The loop keeps that what is left to write of the places gives what writing all of them gives.
use Rattle.till.proofs.Turns.{Filling, itself}
use Rattle.filling.proofs.read_till.Given as goal

abbrev pub invariant-loop-order : goal.invariant-loop-order
invariant-loop-order l = Filling itself l.begun.crew l.text l.begun.lines l.initial.order-items l.order-items l.cursor l.order-index
