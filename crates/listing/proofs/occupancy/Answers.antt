use Rattle.std.proofs.Common.{◌-◌, get_or, arith}
use Rattle.words.proofs.Words.{taken-le}
use Rattle.listing.proofs.Down.{room}
use Rattle.listing.proofs.occupancy.Goals as goal

pub overflow_mul-word : goal.overflow_mul-word
overflow_mul-word c = omega (arith, room c.args.group.now c.loop-i.i 1 c.requires c.loop-i-test.true)

pub overflow_add-word : goal.overflow_add-word
overflow_add-word c =
    let l = c.args.group.now in
    omega (arith, room l c.loop-i.i 1 c.requires c.loop-i-test.true, taken-le (get_or l (c.loop-i.i - 1) 0), c.taken_bit.ensures)
