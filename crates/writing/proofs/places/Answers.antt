-- What is left has one digit, two, three or four.
use Rattle.std.proofs.Common.{arith}
use Rattle.text.proofs.Digits.{most-digits}
use Rattle.writing.proofs.Counts.{one_place, two-places, three-places, four-places, four-more}
use Rattle.writing.proofs.places.Goals as goal

pub loop-rest-init : goal.loop-rest-init
loop-rest-init c = record { same = omega arith; few = most-digits _ (omega arith) }

pub loop-rest-preserved : goal.loop-rest-preserved
loop-rest-preserved c =
    record { same = omega (arith, four-more c.loop-rest.rest c.loop-rest-test.true, c.loop-rest.invariant.same); few = c.loop-rest.invariant.few }

pub returns : goal.returns
returns c = grind (arith, one_place, two-places, three-places, four-places, c.loop-rest.invariant.same)
