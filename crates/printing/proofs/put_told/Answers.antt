-- A reply is short.
use Rattle.std.proofs.Common.{arith}
use Rattle.printing.proofs.Printing.{soon, reply-short}
use Rattle.printing.proofs.put_told.Goals as goal

pub returns-in-Replied : goal.returns-in-Replied
returns-in-Replied c = rw c.in-Replied.is (soon (omega (arith, reply-short c.in-Replied.reply)) c.put_reply.ensures)
