-- The word, and behind it the number, of at most two digits.
use Rattle.std.proofs.Common.{[], ◌∷◌, ◌++◌, ap, arith}
use Rattle.text.specs.Digits.{digits_of}
use Rattle.printing.specs.Fields.{field, refused}
use Rattle.printing.proofs.Printing.{both-written, two_digits}
use Rattle.printing.proofs.put_refusal.Goals as goal

pub returns : goal.returns
returns c =
    both-written (field refused ++ 9 ∷ []) (ap digits_of c.number.ensures) (omega (arith, two_digits c.args.why)) c.put_bytes-behind.ensures c.put_number.ensures
