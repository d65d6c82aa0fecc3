-- A refusal is short.
use Rattle.printing.proofs.Printing.{soon, refusal-short}
use Rattle.printing.proofs.put_turn.Goals as goal

pub returns-in-Err : goal.returns-in-Err
returns-in-Err c = rw c.in-Err.is (soon (refusal-short c.in-Err.why) c.put_refusal.ensures)
