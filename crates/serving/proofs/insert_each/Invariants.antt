use Rattle.std.proofs.Common.{◌≡◌, length}
use Rattle.serving.proofs.Given.{Inserting}
use Rattle.serving.proofs.insert_each.Given as goal

-- the first i lines are served
abbrev pub invariant-loop-i : goal.invariant-loop-i
invariant-loop-i g l = record {
  served : Inserting l.device l.fn.phase.crew l.fn.phase.hash (g.L.Lines.orders l.list) l.fn.cells l.i l.next l.cells;
  all : l.i-end ≡ length (g.L.Lines.orders l.list);
  sized : length l.cells ≡ length l.fn.cells;
}
