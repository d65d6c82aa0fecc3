use Rattle.std.proofs.Common.{◌≡◌, drop}
use Rattle.orders.specs.Orders.{lines_fault}
use Rattle.lent.proofs.lines_fault.Given as goal

-- the lines from i on decide
abbrev pub invariant-loop-i : goal.invariant-loop-i
invariant-loop-i g l = lines_fault l.crew (drop l.i (g.L.Lines.orders l.list)) ≡ lines_fault l.crew (g.L.Lines.orders l.list)
