use Rattle.std.proofs.Common.{length}
use Rattle.prices.specs.Contents.{label}
use Rattle.prices.specs.Priced.{labels}
use Rattle.distinct.proofs.Both.{both-counted}
use Rattle.distinct.proofs.crowded.Goals as goal

pub returns : goal.returns
returns c =
    let a = c.args in
    let m = c.mark_cells-start in
    both-counted (labels label a.cells.now) a.keys.now (length a.cells.now) _ _ _ c.requires m.ensures.0 m.ensures.1
    c.mark_keys-count.ensures
