use Rattle.std.proofs.Common.{length, ◌-◌, ◌≤◌}
use Rattle.sheet.specs.Replay.{longest_answer}
use Rattle.blocks.specs.Kept.{kept_of}
use Rattle.blocks.proofs.Filling.{Behind}
use Rattle.replay.proofs.block_done.Given as goal

abbrev pub invariant-loop-from : goal.invariant-loop-from
invariant-loop-from g l =
    record {
      behind : Behind (kept_of l.initial.carried l.fn.line l.fn.cells l.fn.items) l.block l.line l.cells l.items l.carried l.from;
      room : longest_answer ≤ length l.out;
    }

abbrev pub decreases-loop-from : goal.decreases-loop-from
decreases-loop-from g l = length l.block - l.from
