use Rattle.std.proofs.Common.{rules, tests, cond, ◌∙◌, sym}
use Rattle.std.proofs.lemmas.Iterator.{YieldsList-from_slice}
use Rattle.std.proofs.lemmas.Iterator.Consumers.{YieldsList-from_enumerate}
use Rattle.std.proofs.lemmas.Iterator.Search.{all_from_yields_List}
use lib.Dec.{ltb}
use Rattle.prices.specs.Contents.{label}
use Rattle.activities.specs.Activities.{is_idle, activity_ok}
use Rattle.protocol.specs.IsWellFormed.{is_well_formed}
use Rattle.formed.proofs.Walking.{workers-each}
use Rattle.formed.proofs.is_well_formed.Goals as goal

pub returns-then-numbers_ok : goal.returns-then-numbers_ok
unfolding is_well_formed
returns-then-numbers_ok c =
    let p = c.args.phase.now in
    rw (sym c.numbers_ok.ensures ∙ c.if-numbers_ok.true)
    (all_from_yields_List (λ x. cond (ltb x.0 p.crew) (activity_ok p.kind p.length label x.1.activity) (is_idle x.1.activity))
    _ _ c.all.result c.all.ensures.ran
    (YieldsList-from_enumerate (YieldsList-from_slice p.workers cc) c.enumerate.ensures.count) (λ x b q k. search (rules, tests))
    ∙ workers-each p.kind p.length p.crew 0 p.workers)
