-- Where no quote closes the field, there is none.
use Rattle.std.proofs.Common.{◌∙◌}
use Rattle.splitting.proofs.Scans.{inside-scanner, field-broken}
use Rattle.splitting.proofs.quoted_at.Goals as goal

pub returns-in_err-end : goal.returns-in_err-end
returns-in_err-end c = c.from_residual.ensures ∙ field-broken inside-scanner _ _ c.digits_at-run.ensures c.in_err-end.ensures
