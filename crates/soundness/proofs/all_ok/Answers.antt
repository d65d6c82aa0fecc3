use Rattle.std.proofs.Common.{rules, tests, ◌∙◌}
use Rattle.std.proofs.lemmas.Iterator.{YieldsList-from_slice}
use Rattle.std.proofs.lemmas.Iterator.Search.{all_from_yields_List}
use Rattle.prices.specs.Contents.{cell_ok}
use Rattle.soundness.proofs.Passing.{each}
use Rattle.soundness.proofs.all_ok.Goals as goal

pub returns : goal.returns
returns c =
    all_from_yields_List cell_ok _ _ c.all.result c.all.ensures.ran (YieldsList-from_slice c.args.cells.now cc) (λ x b q k. search (rules, tests))
    ∙ each cell_ok c.args.cells.now
