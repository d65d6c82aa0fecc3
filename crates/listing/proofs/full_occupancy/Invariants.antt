use Rattle.listing.proofs.Pairs.{Paired}
use Rattle.listing.proofs.full_occupancy.Given as goal

abbrev pub invariant-loop-pair : goal.invariant-loop-pair
invariant-loop-pair l = Paired l.group l.pair l.even l.odd
