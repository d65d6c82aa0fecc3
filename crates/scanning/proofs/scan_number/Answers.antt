-- The field is the number that its digits write, if they end where it does.
use Rattle.std.proofs.Common.{arith}
use Rattle.scanning.proofs.Fields.{unread, read}
use Rattle.scanning.proofs.scan_number.Goals as goal

pub returns-in_err-number : goal.returns-in_err-number
returns-in_err-number c = unread _ _ c.digits_at-number.ensures c.from_residual.ensures c.in_err-number.was

pub returns : goal.returns
returns c = read _ _ c.digits_at-number.ensures _ c.in_ok-number.was (grind arith)
