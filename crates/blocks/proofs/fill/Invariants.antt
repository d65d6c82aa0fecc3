-- What the lines before `from` print stands in the buffer, and the lent lists keep their lengths.
use Rattle.std.proofs.Common.{◌-◌, length}
use Rattle.blocks.specs.Kept.{kept_of}
use Rattle.blocks.proofs.Filling.{Filling, Same}
use Rattle.blocks.proofs.fill.Given as goal

abbrev pub invariant-loop-from : goal.invariant-loop-from
invariant-loop-from l =
    let i = l.initial in
    Filling (kept_of i.carried i.line i.cells i.items) l.block l.line l.cells l.items l.out l.carried l.from l.at
    × Same i.line i.cells i.items i.out l.line l.cells l.items l.out

abbrev pub decreases-loop-from : goal.decreases-loop-from
decreases-loop-from l = length l.block - l.from
