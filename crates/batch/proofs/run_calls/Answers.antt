-- What the opening gave, and the calls after it.
use Rattle.state.proofs.Model.{proper}
use Rattle.numbered.proofs.Opening.{accepted-kept, refused-kept}
use Rattle.batch.proofs.run_calls.Goals as goal

pub returns-in-Ok-clause-is_run : goal.returns-in-Ok-clause-is_run
returns-in-Ok-clause-is_run g c =
    let o = c.open-opened in
    (accepted-kept _ (proper c.args.device) _ _ _ _ _ _ _ _ _ _ o.result o.ensures _ _ _ c.in-Ok.is c.run_from.ensures).0

pub returns-in-Ok-clause-promise : goal.returns-in-Ok-clause-promise
returns-in-Ok-clause-promise g c =
    let o = c.open-opened in
    (accepted-kept _ (proper c.args.device) _ _ _ _ _ _ _ _ _ _ o.result o.ensures _ _ _ c.in-Ok.is c.run_from.ensures).1

pub returns-in-Err-clause-is_run : goal.returns-in-Err-clause-is_run
returns-in-Err-clause-is_run g c =
    let o = c.open-opened in
    (refused-kept _ (proper c.args.device) _ _ _ _ _ _ _ _ _ _ o.result o.ensures _ c.in-Err.is).0
