use Rattle.listing.proofs.Pass.{Listed}
use Rattle.listing.proofs.list_entries.Given as goal

abbrev pub invariant-loop-g : goal.invariant-loop-g
invariant-loop-g l = Listed l.cells l.fn.out l.out l.place l.g
