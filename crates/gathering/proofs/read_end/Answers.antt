use Rattle.gathering.proofs.Gathering.{said}
use Rattle.gathering.proofs.read_end.Goals as goal

pub returns : goal.returns
returns c = said c.gather-n.ensures c.read_line-2.ensures
