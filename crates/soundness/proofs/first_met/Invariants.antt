-- One cell after the other from the home.
use Rattle.std.proofs.Common.{◌-◌, length, get_or}
use Rattle.ring.specs.Ring.{dist}
use Rattle.homes.specs.Homes.{spread}
use Rattle.prices.specs.Contents.{label}
use Rattle.prices.specs.Priced.{labels}
use Rattle.flaws.specs.Flaws.{displacement}
use Rattle.soundness.proofs.Meeting.{At}
use Rattle.soundness.proofs.first_met.Given as goal

abbrev pub invariant-loop-c : goal.invariant-loop-c
invariant-loop-c l = At (length l.cells) (spread l.fn.hash (length l.cells)) (labels label l.cells) l.j l.c

abbrev pub decreases-loop-c : goal.decreases-loop-c
decreases-loop-c l =
    displacement (length l.cells) (spread l.fn.hash (length l.cells)) (labels label l.cells) l.j
    - dist (length l.cells) (spread l.fn.hash (length l.cells) (get_or (labels label l.cells) l.j 0)) l.c
