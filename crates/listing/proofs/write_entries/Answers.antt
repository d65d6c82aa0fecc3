use Rattle.listing.proofs.Left.{begins, inside, fits, next, ends}
use Rattle.listing.proofs.write_entries.Goals as goal

pub loop-ones-init : goal.loop-ones-init
loop-ones-init c = begins c.args.group.now c.args.out.now c.requires.0 c.requires.1 c.requires.2

pub bounds-group-cell : goal.bounds-group-cell
bounds-group-cell c = inside c.loop-ones.invariant c.loop-ones-test.true

pub bounds-out-at : goal.bounds-out-at
bounds-out-at c = fits c.loop-ones.invariant c.loop-ones-test.true

pub loop-ones-preserved : goal.loop-ones-preserved
loop-ones-preserved c = next c.loop-ones.invariant c.loop-ones-test.true

pub returns : goal.returns
returns c = ends c.loop-ones.invariant c.loop-ones-test.false
