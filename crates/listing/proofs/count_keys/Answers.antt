use Rattle.std.proofs.Common.{◌+◌, sym, arith}
use Rattle.words.proofs.Places.{place-zero, place-le-length, cells-short, place_after_lem}
use Rattle.listing.proofs.count_keys.Goals as goal

pub loop-g-init : goal.loop-g-init
loop-g-init c = sym (place-zero c.args.cells.now)

pub ones_of-count-requires : goal.ones_of-count-requires
ones_of-count-requires c = cells-short c.args.cells.now c.loop-g.g c.group_of.ensures

pub overflow_add-count : goal.overflow_add-count
overflow_add-count c =
    let t = c.args.cells.now in
    let h = place_after_lem t c.loop-g.g c.group_of.ensures c.loop-g.invariant c.ones_of-count.ensures in
    omega (arith, place-le-length t (c.loop-g.g + 1))

pub loop-g-preserved : goal.loop-g-preserved
loop-g-preserved c = place_after_lem c.args.cells.now c.loop-g.g c.group_of.ensures c.loop-g.invariant c.ones_of-count.ensures
