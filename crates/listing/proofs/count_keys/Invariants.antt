-- The count so far is the place of group `g`, so at the end it is the sum of all ones.
use Rattle.std.proofs.Common.{◌≡◌}
use Rattle.words.specs.Words.{place_of}
use Rattle.listing.proofs.count_keys.Given as goal

abbrev pub invariant-loop-g : goal.invariant-loop-g
invariant-loop-g l = l.count ≡ place_of l.cells l.g
