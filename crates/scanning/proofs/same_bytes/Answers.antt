use Rattle.std.proofs.Common.{◌∙◌}
use Rattle.scanning.proofs.Sought.{pointwise-same}
use Rattle.scanning.proofs.same_bytes.Goals as goal

pub returns : goal.returns
returns c = c.eq.ensures ∙ pointwise-same _ _
