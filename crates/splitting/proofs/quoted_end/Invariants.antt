-- The loop keeps what is still to be read.
use Rattle.std.proofs.Common.{length, drop, ◌-◌}
use Rattle.rfc4180.specs.Reader.{inside_of}
use Rattle.splitting.specs.Fields.{end_from}
use Rattle.splitting.proofs.Scans.{Going}
use Rattle.splitting.proofs.quoted_end.Given as goal

abbrev pub invariant-loop-end : goal.invariant-loop-end
invariant-loop-end l = Going inside_of l.text (end_from l.from (inside_of (drop l.from l.text))) l.end

abbrev pub decreases-loop-end : goal.decreases-loop-end
decreases-loop-end l = length l.text - l.end
