-- A line is read and fitted to the phase; what it asks for is performed and printed.
use Rattle.std.proofs.Common.{arith}
use Rattle.answering.proofs.Store.{table-length}
use Rattle.answering.proofs.Answering.{as_read, finds, room-left, bad-printed, line-printed, answers-bad, next-roomy, answers-todo}
use Rattle.answering.proofs.answer.Goals as goal

pub returns-in_default : goal.returns-in_default
returns-in_default c =
    let a = c.args in
    let bad = as_read c.requires.0 a.line c.reading_in.ensures c.in_default.is in
    answers-bad c.requires.0 a.line a.number a.at a.out.now bad _ _
    (bad-printed a.number c.ranges.number.fits c.requires.1 c.put_number-from.ensures c.put_bytes-end.ensures)

pub perform-told-requires : goal.perform-told-requires
perform-told-requires c = finds c.requires.0 c.args.line (as_read c.requires.0 c.args.line c.reading_in.ensures c.in-Some.is)

pub put_told-behind-requires : goal.put_told-behind-requires
put_told-behind-requires c =
    let a = c.args in
    let asked = as_read c.requires.0 a.line c.reading_in.ensures c.in-Some.is in
    let next = next-roomy c.requires.0 a.line asked c.perform-told.ensures c.perform-told.auto.cells c.perform-told.auto.items in
    room-left a.number a.out.now a.at c.ranges.number.fits c.requires.1 c.put_number-from.ensures _
    (omega (arith, table-length next, next.fits))

pub returns : goal.returns
returns c =
    let a = c.args in
    let done = c.perform-told in
    let asked = as_read c.requires.0 a.line c.reading_in.ensures c.in-Some.is in
    let next = next-roomy c.requires.0 a.line asked done.ensures done.auto.cells done.auto.items in
    answers-todo c.requires.0 a.line asked done.ensures done.auto.cells done.auto.items a.number a.at a.out.now _ _
    (line-printed a.number c.ranges.number.fits c.requires.1 (omega (arith, table-length next, next.fits))
    c.put_number-from.ensures c.put_told-behind.ensures c.put_bytes-end-2.ensures)
