-- A price is a number of 32 bits.
use Rattle.std.proofs.Common.{arith}
use Rattle.printing.proofs.Printing.{soon, ten-digits}
use Rattle.printing.proofs.put_answer.Goals as goal

pub put_field-requires : goal.put_field-requires
put_field-requires c = omega (arith, ten-digits c.in-Price.price (omega arith))

pub returns-in-Price : goal.returns-in-Price
returns-in-Price c = rw c.in-Price.is (soon (omega (arith, ten-digits c.in-Price.price (omega arith))) c.put_field.ensures)
