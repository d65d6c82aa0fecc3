-- A task is a command, or a refusal.
use Rattle.answering.proofs.Store.{tells-on}
use Rattle.answering.proofs.perform.Goals as goal

pub returns-in-Refuse : goal.returns-in-Refuse
returns-in-Refuse c = rw c.in-Refuse.is (tells-on c.requires.roomy c.args.items.now c.requires.kept _ _ _ c.tell.ensures)
