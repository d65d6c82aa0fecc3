-- The loop keeps what is still to be read: from `value` on, the digits from `end` on end where all of them do, and have their value if they are not too many.
use Rattle.std.proofs.Common.{length, ◌-◌}
use Rattle.scanning.proofs.Gathered.{Gathering}
use Rattle.scanning.proofs.digits_at.Given as goal

abbrev pub invariant-loop-end : goal.invariant-loop-end
invariant-loop-end l = Gathering l.s l.from l.value l.end

abbrev pub decreases-loop-end : goal.decreases-loop-end
decreases-loop-end l = length l.s - l.end
