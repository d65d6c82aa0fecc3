-- So many calls are run.
use Rattle.std.proofs.Common.{◌≡◌}
use Rattle.state.specs.Model.{model_of}
use Rattle.singly.specs.Lent.{count_of}
use Rattle.singly.proofs.Singly.{Singly}
use Rattle.singly.proofs.run_singly.Given as goal

abbrev pub invariant-loop-i : goal.invariant-loop-i
invariant-loop-i g l = record {
  all : l.i-end ≡ count_of l.calls l.initial.answers;
  ran : Singly (model_of l.device) (g.L.Lines.orders l.list) l.calls.ops.now l.calls.lines.now l.calls.workers.now l.calls.keys.now l.initial.next l.initial.cells
      l.initial.answers l.i l.next l.cells l.answers;
}
