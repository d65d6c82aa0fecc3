use Rattle.std.proofs.Common.{subst, sym}
use Rattle.state.specs.Model.{model_of}
use Rattle.state.proofs.Model.{proper}
use Rattle.migration.specs.Lists.{Ran}
use Rattle.migration.proofs.Dealt.{accepted-ran, refused-ran}
use Rattle.migration.proofs.Theorem.{courses}
use Rattle.hauling.proofs.run_moves.Goals as goal

pub returns-in-Ok-clause-is_run : goal.returns-in-Ok-clause-is_run
returns-in-Ok-clause-is_run c = let a = c.args in
    accepted-ran (model_of a.device) a.crew a.hash a.old.now a.new.now a.ops.now a.workers.now a.answers.now c.open-opened.result c.open-opened.ensures
    _ _ _ _ c.in-Ok.is c.run_from.ensures

pub returns-in-Ok-clause-promise : goal.returns-in-Ok-clause-promise
returns-in-Ok-clause-promise c = let a = c.args in
    λ e. courses (model_of a.device) (proper a.device) a.crew a.hash a.old.now a.new.now e _

pub returns-in-Err-clause-is_run : goal.returns-in-Err-clause-is_run
returns-in-Err-clause-is_run c = let a = c.args in let r = c.open-opened.result in
    subst (λ x. Ran (model_of a.device) a.crew a.hash a.old.now a.new.now a.ops.now a.workers.now a.answers.now
    (record { migration = r.migration; reply = x }) a.old.now a.new.now a.answers.now) (sym c.in-Err.is)
    (refused-ran (model_of a.device) a.crew a.hash a.old.now a.new.now a.ops.now a.workers.now a.answers.now r c.open-opened.ensures _ c.in-Err.is)
