use Rattle.std.proofs.Common.{length}
use Rattle.words.specs.Words.{filled}
use Rattle.listing.proofs.Left.{Left}
use Rattle.listing.proofs.write_entries.Given as goal

abbrev pub invariant-loop-ones : goal.invariant-loop-ones
invariant-loop-ones l = Left l.group (filled l.group l.fn.out) (length l.fn.out) l.out l.ones l.at

abbrev pub decreases-loop-ones : goal.decreases-loop-ones
decreases-loop-ones l = l.ones
