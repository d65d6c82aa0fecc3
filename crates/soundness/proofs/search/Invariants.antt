-- One cell after the other, the empty ones passed by, up to a faulty one, with the links kept.
use Rattle.std.proofs.Common.{◌≡◌, ◌-◌, ◌≤◌, length}
use Rattle.homes.specs.Homes.{spread}
use Rattle.soundness.proofs.Skipping.{Come}
use Rattle.soundness.proofs.search.Given as goal

abbrev pub invariant-loop-j : goal.invariant-loop-j
invariant-loop-j l =
    Come (spread l.hash (length l.cells)) l.cells l.links l.j × (l.j ≤ length l.cells) × (length l.links ≡ length l.initial.links)

abbrev pub decreases-loop-j : goal.decreases-loop-j
decreases-loop-j l = length l.cells - l.j
