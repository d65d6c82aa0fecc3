use Rattle.answering.proofs.Store.{turns}
use Rattle.answering.proofs.take_turn.Goals as goal

pub returns : goal.returns
returns c = turns c.requires c.args.worker _ _ _ c.turn-reply.ensures c.turn-reply.auto.cells c.tell.ensures
