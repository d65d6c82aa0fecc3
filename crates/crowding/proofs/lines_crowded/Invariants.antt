use Rattle.std.proofs.Common.{◌≡◌, drop}
use Rattle.orders.specs.Orders.{ordered_keys}
use Rattle.distinct.specs.Trie.{total}
use Rattle.crowding.proofs.Counts.{all}
use Rattle.crowding.proofs.lines_crowded.Given as goal

-- what is counted with the keys from i on is the count of all
abbrev pub invariant-loop-i : goal.invariant-loop-i
invariant-loop-i g l = total l.trie l.count l.limit (ordered_keys (drop l.i (g.L.Lines.orders l.list))) ≡ all l.cells (g.L.Lines.orders l.list)
