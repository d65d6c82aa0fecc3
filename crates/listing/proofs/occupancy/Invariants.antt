-- The cells are read from the last to the first: the word so far is that of the cells from `i` on.
use Rattle.std.proofs.Common.{◌≡◌, ◌≤◌, length, drop}
use Rattle.words.specs.Words.{word_of}
use Rattle.listing.proofs.occupancy.Given as goal

abbrev pub invariant-loop-i : goal.invariant-loop-i
invariant-loop-i l = (l.i ≤ length l.group) × (l.word ≡ word_of (drop l.i l.group))
