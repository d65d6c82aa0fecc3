use Rattle.std.proofs.Common.{rules, tests, ◌∙◌}
use Rattle.std.proofs.lemmas.Iterator.{YieldsList-from_slice}
use Rattle.std.proofs.lemmas.Iterator.Search.{all_from_yields_List}
use Rattle.migration.specs.Tasks.{is_free}
use Rattle.migration.specs.declared.Carrier.{Carrier}
use Rattle.migrating.proofs.Walk.{free-each}
use Rattle.migrating.proofs.all_free.Goals as goal

pub returns : goal.returns
returns c =
    all_from_yields_List (λ (w : Carrier). is_free w.task) _ _ c.all.result c.all.ensures.ran
    (YieldsList-from_slice c.args.carriers.now cc) (λ x b q k. search (rules, tests))
    ∙ free-each c.args.carriers.now
