use Rattle.std.proofs.Common.{◌≡◌, min, length}
use Rattle.state.specs.Model.{model_of}
use Rattle.migration.proofs.Listed.{Listed}
use Rattle.hauling.proofs.run_from.Given as goal

-- the first i calls are applied
abbrev pub invariant-loop-i : goal.invariant-loop-i
invariant-loop-i l = record {
  all : l.all ≡ min (min (length l.ops) (length l.workers)) (length l.fn.answers);
  listed : Listed (model_of l.fn.device) l.ops l.workers l.fn.migration l.fn.old l.fn.new l.fn.answers l.i l.next l.old l.new l.answers;
}
