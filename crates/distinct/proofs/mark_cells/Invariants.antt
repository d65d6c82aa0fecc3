use Rattle.std.proofs.Common.{◌≡◌, drop}
use Rattle.prices.specs.Contents.{label}
use Rattle.prices.specs.Priced.{labels}
use Rattle.distinct.specs.Trie.{total, all_marked}
use Rattle.distinct.proofs.mark_cells.Given as goal

abbrev pub invariant-loop-cell : goal.invariant-loop-cell
invariant-loop-cell l =
    (total l.trie l.count l.limit (labels label (drop l.cell-index l.cells)) ≡ total l.fn.trie 0 l.limit (labels label l.cells))
    × (all_marked l.trie l.count l.limit (labels label (drop l.cell-index l.cells)) ≡ all_marked l.fn.trie 0 l.limit (labels label l.cells))
