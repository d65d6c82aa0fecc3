-- The loop keeps, for each of the three lists, that what is left to write of it gives what writing all of it gives.
use Rattle.std.proofs.Common.{ℕ}
use Rattle.orders.specs.declared.Order.{Order}
use Rattle.till.proofs.Turns.{Filling}
use Rattle.reading.proofs.read_till_parallel.Given as goal

abbrev pub key : Order → ℕ
key o = o.key

abbrev pub price : Order → ℕ
price o = o.price

abbrev pub worker : Order → ℕ
worker o = o.worker

abbrev pub invariant-loop-i : goal.invariant-loop-i
invariant-loop-i l =
    Filling key l.begun.crew l.text l.begun.lines l.initial.keys l.keys l.cursor l.i
    × Filling price l.begun.crew l.text l.begun.lines l.initial.prices l.prices l.cursor l.i
    × Filling worker l.begun.crew l.text l.begun.lines l.initial.workers l.workers l.cursor l.i
