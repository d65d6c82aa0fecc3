-- The constant is what the definition computes to.
use Rattle.std.proofs.Common.{refl}
use Rattle.lines.specs.Grammar.{longest_line, kept_bytes}
use Rattle.parsing.proofs.kept_bytes.Goals as goal

pub returns : goal.returns
unfolding kept_bytes longest_line
returns c = refl
