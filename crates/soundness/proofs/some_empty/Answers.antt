use Rattle.std.proofs.Common.{◌∙◌}
use lib.Dec.{eqb}
use Rattle.soundness.proofs.Passing.{one_of}
use Rattle.soundness.proofs.some_empty.Goals as goal

pub returns : goal.returns
returns c = c.contains.ensures.value ∙ one_of (λ x. eqb x 0) c.args.cells.now
