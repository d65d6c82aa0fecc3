use Rattle.std.proofs.Common.{get_or, drop, sym, ◌∙◌}
use Rattle.prices.specs.Contents.{label}
use Rattle.prices.specs.Priced.{labels}
use Rattle.distinct.proofs.Marks.{next-key, no_keys, labels-left, no-labels}
use Rattle.distinct.proofs.mark_cells.Goals as goal

pub loop-cell-preserved : goal.loop-cell-preserved
loop-cell-preserved c =
    let l = c.loop-cell in
    let a = c.args in
    let r = next-key l.trie _ l.count _ a.limit (label (get_or a.cells.now l.cell-index 0)) _ _ c.mark-count.ensures.0 c.mark-count.ensures.1
    (labels-left a.cells.now l.cell-index c.loop-cell-test.true) in
    (r.0 ∙ l.invariant.0, r.1 ∙ l.invariant.1)

pub returns : goal.returns
returns c =
    let l = c.loop-cell in
    let a = c.args in
    let r = no_keys l.trie l.count a.limit (labels label (drop l.cell-index a.cells.now)) (no-labels a.cells.now l.cell-index c.loop-cell-test.false) in
    (sym r.0 ∙ l.invariant.0, sym r.1 ∙ l.invariant.1)
