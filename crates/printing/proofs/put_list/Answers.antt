-- The count, and behind it the entries.
use Rattle.std.proofs.Common.{arith}
use Rattle.text.proofs.Digits.{most-digits}
use Rattle.printing.proofs.Printing.{printed-on, as_long}
use Rattle.printing.proofs.put_list.Goals as goal

pub put_field-behind-requires : goal.put_field-behind-requires
put_field-behind-requires c = omega (arith, most-digits c.args.count c.ranges.count.fits)

pub put_entries-requires : goal.put_entries-requires
put_entries-requires c =
    let e = c.put_field-behind.ensures in
    omega (arith, e.place, as_long e, most-digits c.args.count c.ranges.count.fits)

pub returns : goal.returns
returns c =
    let e = c.put_field-behind.ensures in
    let f = c.put_entries.ensures in
    (printed-on e f.0, omega (arith, e.place, f.1, most-digits c.args.count c.ranges.count.fits))
