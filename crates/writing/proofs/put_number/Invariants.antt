-- The loop keeps what is still to be done: the digits of `rest` belong between `at` and `place`; once there is no place left, all are put.
use Rattle.std.proofs.Common.{◌≡◌, ◌+◌, ◌<◌, ◌≤◌, ℕ, List, length}
use lib.Seq.{sets}
use Rattle.text.specs.Digits.{digits_of}
use Rattle.writing.proofs.put_number.Given as goal

pub record Left (goal : List ℕ) (at : ℕ) (out : List ℕ) (place rest : ℕ) : Type 0 where
  pub fill : at < place → place ≡ at + length (digits_of rest)
  pub same : at < place → sets out at (digits_of rest) ≡ goal
  pub done : place ≤ at → out ≡ goal

abbrev pub invariant-loop-place : goal.invariant-loop-place
invariant-loop-place l = Left (sets l.fn.out l.at (digits_of l.n)) l.at l.out l.place l.rest
