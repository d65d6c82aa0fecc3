use Rattle.std.proofs.Common.{arith, rules, tests, ◌∙◌}
use Rattle.std.proofs.lemmas.Iterator.{YieldsList-from_slice}
use Rattle.std.proofs.lemmas.Iterator.Search.{all_from_yields_List}
use lib.Dec.{ltb}
use Rattle.formed.proofs.Walking.{below-each}
use Rattle.formed.proofs.cells_ok.Goals as goal

pub returns-then-entry-ne0 : goal.returns-then-entry-ne0
returns-then-entry-ne0 c =
    let each =
    all_from_yields_List (λ x. ltb x c.args.length) _ _ c.all.result c.all.ensures.ran
    (YieldsList-from_slice c.args.cells.now cc) (λ x b q k. search (rules, tests))
    ∙ below-each c.args.length c.args.cells.now in
    grind (arith, each)
