use Rattle.std.proofs.Common.{rules, tests, cond, ◌∙◌, sym}
use Rattle.std.proofs.lemmas.Iterator.{YieldsList-from_slice}
use Rattle.std.proofs.lemmas.Iterator.Consumers.{YieldsList-from_enumerate}
use Rattle.std.proofs.lemmas.Iterator.Search.{all_from_yields_List}
use lib.Dec.{ltb}
use Rattle.migration.specs.Calls.{is_well_formed}
use Rattle.migration.specs.Tasks.{is_free, task_ok}
use Rattle.migrating.proofs.Walk.{carriers-each}
use Rattle.migrating.proofs.is_well_formed.Goals as goal

pub returns-then-numbers_ok : goal.returns-then-numbers_ok
unfolding is_well_formed
returns-then-numbers_ok c =
    let p = c.args.migration.now in
    rw (sym c.numbers_ok.ensures ∙ c.if-numbers_ok.true)
    (all_from_yields_List (λ x. cond (ltb x.0 p.crew) (task_ok p.source p.length x.1.task) (is_free x.1.task))
    _ _ c.all.result c.all.ensures.ran
    (YieldsList-from_enumerate (YieldsList-from_slice p.carriers cc) c.enumerate.ensures.count) (λ x b q k. search (rules, tests))
    ∙ carriers-each p.source p.length p.crew 0 p.carriers)
