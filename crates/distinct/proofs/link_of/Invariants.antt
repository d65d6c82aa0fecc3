use Rattle.std.proofs.Common.{◌-◌}
use Rattle.distinct.proofs.Search.{Seeking}
use Rattle.distinct.proofs.link_of.Given as goal

abbrev pub invariant-loop-at : goal.invariant-loop-at
invariant-loop-at l = Seeking l.trie l.key l.at l.bits l.link

abbrev pub decreases-loop-at : goal.decreases-loop-at
decreases-loop-at l = 40960 - l.at
