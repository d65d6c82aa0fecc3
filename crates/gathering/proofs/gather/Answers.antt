-- The bytes for which there is room are written behind those gathered before.
use Rattle.lines.specs.Grammar.{longest_line, kept_bytes}
use Rattle.gathering.proofs.Gathering.{gathers}
use Rattle.gathering.proofs.gather.Goals as goal

pub returns : goal.returns
unfolding kept_bytes longest_line
returns c = gathers c.args.bytes.now c.args.line.now _ c.args.gathered _ c.requires.0 c.requires.1 c.min-count.ensures c.copy_from_slice.ensures.after
