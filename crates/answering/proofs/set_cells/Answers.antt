use Rattle.answering.proofs.Store.{too_short, too_long, fresh}
use Rattle.answering.proofs.set_cells.Goals as goal
use Rattle.answering.proofs.set_cells.Goals.{then-n-lt-FEWEST_CELLS-via-then-n-lt-FEWEST_CELLS, then-n-lt-FEWEST_CELLS-via-else-n-lt-FEWEST_CELLS+then-n-gt-MOST_CELLS}

pub returns-then-n-lt-FEWEST_CELLS : goal.returns-then-n-lt-FEWEST_CELLS
returns-then-n-lt-FEWEST_CELLS c = elim c.then-n-lt-FEWEST_CELLS.branch [
  | then-n-lt-FEWEST_CELLS-via-then-n-lt-FEWEST_CELLS w ↦ too_short c.requires c.args.length _ w.if-n-lt-FEWEST_CELLS.true c.tell.ensures
  | then-n-lt-FEWEST_CELLS-via-else-n-lt-FEWEST_CELLS+then-n-gt-MOST_CELLS w ↦
      too_long c.requires c.args.length _ w.if-n-lt-FEWEST_CELLS.false w.if-n-gt-MOST_CELLS.true c.tell.ensures
]

pub returns : goal.returns
returns c = fresh c.requires c.args.length _ _ c.if-n-lt-FEWEST_CELLS.false c.if-n-gt-MOST_CELLS.false c.clear.ensures c.tell-2.ensures
