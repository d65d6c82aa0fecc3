use Rattle.std.proofs.Common.{◌≡◌}
use Rattle.singly.specs.Lent.{count_of}
use Rattle.inplace.proofs.InPlace.{InPlace}
use Rattle.inplace.proofs.run_tested.Given as goal

-- after i calls: what the first i of the lists give, on a phase that is still well formed
abbrev pub invariant-loop-i : goal.invariant-loop-i
invariant-loop-i g l = record {
  all : l.i-end ≡ count_of l.calls l.initial.answers;
  ran : InPlace (g.L.Lines.orders l.list) l.calls.ops.now l.calls.lines.now l.calls.workers.now l.calls.keys.now l.fn.phase l.initial.cells l.initial.answers l.i
      l.phase l.cells l.answers;
}
