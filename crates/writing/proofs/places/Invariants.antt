-- The loop keeps that the digits of `rest` and those passed over are as many as those of `n`.
use Rattle.std.proofs.Common.{◌≡◌, ◌+◌, ◌≤◌, length}
use Rattle.text.specs.Digits.{digits_of}
use Rattle.writing.proofs.places.Given as goal

abbrev pub invariant-loop-rest : goal.invariant-loop-rest
invariant-loop-rest l = record { same : l.more + length (digits_of l.rest) ≡ length (digits_of l.n); few : length (digits_of l.n) ≤ 20 }

abbrev pub decreases-loop-rest : goal.decreases-loop-rest
decreases-loop-rest l = l.rest
