use Rattle.answering.proofs.Store.{added}
use Rattle.answering.proofs.add_item.Goals as goal

pub returns : goal.returns
returns c = let a = c.args in λ cells h. added h a.worker a.key a.price a.items.now c.requires.0 c.requires.1 _ c.tell.ensures
