use Rattle.std.proofs.Common.{rules, tests, ◌∙◌}
use Rattle.std.proofs.lemmas.Iterator.{YieldsList-from_slice}
use Rattle.std.proofs.lemmas.Iterator.Search.{all_from_yields_List}
use Rattle.activities.specs.Activities.{is_idle}
use Rattle.activities.specs.declared.Worker.{Worker}
use Rattle.formed.proofs.Walking.{idle-each}
use Rattle.formed.proofs.all_idle.Goals as goal

pub returns : goal.returns
returns c =
    all_from_yields_List (λ (w : Worker). is_idle w.activity) _ _ c.all.result c.all.ensures.ran
    (YieldsList-from_slice c.args.workers.now cc) (λ x b q k. search (rules, tests))
    ∙ idle-each c.args.workers.now
