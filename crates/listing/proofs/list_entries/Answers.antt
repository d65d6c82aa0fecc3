-- The loop is the pass: before group g the list is as the steps for the earlier groups leave it, and `place` is the number of their entries.
use Rattle.std.proofs.Common.{arith}
use Rattle.words.proofs.Places.{cells-short}
use Rattle.listing.proofs.Pass.{begins, within, long, fits, places, steps, ends}
use Rattle.listing.proofs.list_entries.Goals as goal

pub loop-g-init : goal.loop-g-init
loop-g-init c = begins _ _

pub offset_bounds-out-place : goal.offset_bounds-out-place
offset_bounds-out-place c = omega (arith, within c.loop-g.invariant c.requires, long c.loop-g.invariant c.requires)

pub slice_bounds-list_group-count : goal.slice_bounds-list_group-count
slice_bounds-list_group-count c = omega (arith, within c.loop-g.invariant c.requires)

pub slice_bounds-list_group-start : goal.slice_bounds-list_group-start
slice_bounds-list_group-start c = omega (arith, within c.loop-g.invariant c.requires)

pub list_group-place-requires : goal.list_group-place-requires
list_group-place-requires c =
    let e = c.group_of.ensures in
    (cells-short _ c.loop-g.g e, fits c.loop-g.invariant c.requires e)

pub overflow_add-place : goal.overflow_add-place
overflow_add-place c =
    omega (arith, places c.loop-g.invariant c.requires c.group_of.ensures, long c.loop-g.invariant c.requires, c.list_group-place.ensures.0)

pub loop-g-preserved : goal.loop-g-preserved
loop-g-preserved c =
    let done = c.list_group-place.ensures in
    steps c.loop-g.invariant c.requires c.group_of.ensures (omega arith) done.0 done.1

pub returns : goal.returns
returns c = ends c.loop-g.invariant c.requires (omega arith)
