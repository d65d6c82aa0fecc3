-- A key and a price are numbers of 32 bits.
use Rattle.std.proofs.Common.{arith}
use Rattle.printing.proofs.Printing.{printed-on, as_long, soon}
use Rattle.printing.proofs.Loops.{one_entry, label-short, price-short, entry-short}
use Rattle.printing.proofs.put_entry.Goals as goal

pub put_field-behind-requires : goal.put_field-behind-requires
put_field-behind-requires c = omega (arith, label-short c.args.entry c.ranges.entry.fits)

pub put_field-requires : goal.put_field-requires
put_field-requires c =
    let e = c.put_field-behind.ensures in
    omega (arith, e.place, as_long e, label-short c.args.entry c.ranges.entry.fits, price-short c.args.entry)

pub returns : goal.returns
returns c =
    rw (one_entry c.args.entry c.if-entry-eq0.false)
    (soon (entry-short c.args.entry c.ranges.entry.fits) (printed-on c.put_field-behind.ensures c.put_field.ensures))
