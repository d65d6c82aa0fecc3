-- One cell more.
use Rattle.printing.proofs.Loops.{one_cell}
use Rattle.printing.proofs.put_entries.Goals as goal

pub loop-cell-preserved : goal.loop-cell-preserved
loop-cell-preserved c = one_cell c.args.cells.now c.loop-cell-test.true c.loop-cell.invariant c.put_entry-place.ensures
