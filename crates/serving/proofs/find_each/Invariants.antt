use Rattle.std.proofs.Common.{◌≡◌, ◌≤◌, [], length}
use Rattle.rounds.specs.Rounds.{acks_of}
use Rattle.serving.specs.Serving.{Served}
use Rattle.serving.proofs.Telling.{Told}
use Rattle.serving.proofs.find_each.Given as goal

-- the first i acknowledgements are told their answers
abbrev pub invariant-loop-i : goal.invariant-loop-i
invariant-loop-i l = record {
  served : Served l.device 3 l.fn.phase.crew l.fn.phase.hash [] l.fn.cells l.next l.fn.cells;
  same : l.cells ≡ l.fn.cells;
  told : Told l.fn.phase.crew l.fn.cells (acks_of l.keys l.workers) l.fn.answers l.i l.answers;
  all : l.i-end ≡ length (acks_of l.keys l.workers);
  room : length (acks_of l.keys l.workers) ≤ length l.fn.answers;
}
