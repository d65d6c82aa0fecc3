-- So many workers' finishes are printed.
use Rattle.std.proofs.Common.{◌*◌, take}
use Rattle.printing.specs.Widths.{word_width}
use Rattle.printing.specs.Fields.{PrintedWithin, finish_fields}
use Rattle.printing.proofs.put_finishes.Given as goal

abbrev pub invariant-loop-finish : goal.invariant-loop-finish
invariant-loop-finish l = PrintedWithin (word_width * l.finish-index) (finish_fields (take l.finish-index l.finish-items)) l.fn.out l.at l.out l.place
