use Rattle.polling.proofs.Bare.{take_bare}
use Rattle.polling.proofs.open_empty.Goals as goal

pub returns : goal.returns
returns g c = rw (take_bare 8192 c.args.length c.requires) at c.open.ensures
