use Rattle.std.proofs.Common.{◌≡◌, length}
use Rattle.rounds.specs.Rounds.{acks_of}
use Rattle.serving.specs.Serving.{Answered}
use Rattle.serving.proofs.Given.{Deleting}
use Rattle.serving.proofs.delete_each.Given as goal

-- of the first i acknowledgements the keys are taken out
abbrev pub invariant-loop-i : goal.invariant-loop-i
invariant-loop-i l = record {
  served : Deleting l.device l.fn.phase.crew l.fn.phase.hash (acks_of l.keys l.workers) l.answers l.fn.cells l.i l.next l.cells;
  answered : Answered l.fn.phase.crew (acks_of l.keys l.workers) l.answers;
  all : l.i-end ≡ length (acks_of l.keys l.workers);
  sized : length l.cells ≡ length l.fn.cells;
}
