-- The place of the first such byte, or the length.
use Rattle.std.proofs.Common.{◌∙◌, ap, ℕ, length}
use Rattle.std.specs.Prelude.{unwrap_or, Option}
use Rattle.scanning.proofs.Sought.{position-place}
use Rattle.scanning.proofs.byte_at.Goals as goal

pub returns : goal.returns
returns c =
    c.unwrap_or.ensures ∙ ap (λ (o : Option ℕ). unwrap_or o (length c.args.s.now)) c.first_at.ensures ∙ position-place c.args.byte c.args.s.now
