-- So many cells are printed.
use Rattle.std.proofs.Common.{◌*◌, take}
use Rattle.words.specs.Words.{entries_of}
use Rattle.printing.specs.Widths.{entry_width}
use Rattle.printing.specs.Fields.{PrintedWithin, entry_fields}
use Rattle.printing.proofs.put_entries.Given as goal

abbrev pub invariant-loop-cell : goal.invariant-loop-cell
invariant-loop-cell l = PrintedWithin (entry_width * l.cell-index) (entry_fields (entries_of (take l.cell-index l.cells))) l.fn.out l.at l.out l.place
