use Rattle.std.proofs.Common.{◌-◌, ◌+◌, ◌*◌, get_or, arith}
use Rattle.words.proofs.Words.{taken-le}
use Rattle.listing.proofs.Pairs.{begins, all, fits}
use Rattle.listing.proofs.full_occupancy.Goals as goal

pub loop-pair-init : goal.loop-pair-init
loop-pair-init c = begins c.args.group.now c.requires

pub overflow_mul-even : goal.overflow_mul-even
overflow_mul-even c = omega (arith, fits c.loop-pair.invariant c.requires c.loop-pair-test.true)

pub overflow_add-even : goal.overflow_add-even
overflow_add-even c =
    let cell = get_or c.args.group.now (2 * (c.loop-pair.pair - 1)) 0 in
    omega (arith, fits c.loop-pair.invariant c.requires c.loop-pair-test.true, taken-le cell, c.taken_bit.ensures)

pub overflow_mul-odd : goal.overflow_mul-odd
overflow_mul-odd c = omega (arith, fits c.loop-pair.invariant c.requires c.loop-pair-test.true)

pub overflow_add-odd : goal.overflow_add-odd
overflow_add-odd c =
    let cell = get_or c.args.group.now (2 * (c.loop-pair.pair - 1) + 1) 0 in
    omega (arith, fits c.loop-pair.invariant c.requires c.loop-pair-test.true, taken-le cell, c.taken_bit-in-loop-pair.ensures)

pub overflow_mul-result : goal.overflow_mul-result
overflow_mul-result c = omega (arith, all c.loop-pair.invariant c.requires)

pub overflow_add-result : goal.overflow_add-result
overflow_add-result c = omega (arith, all c.loop-pair.invariant c.requires)
