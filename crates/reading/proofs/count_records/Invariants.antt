-- The loop keeps what is still to be counted: the records from `at` on, behind those counted, give the answer.
use Rattle.std.proofs.Common.{length, ◌-◌, ◌+◌, ◌≡◌, ◌≤◌, ℕ, List}
use Rattle.std.specs.Prelude.{Result, Ok, Err}
use Rattle.till.specs.declared.Bad.{Bad}
use Rattle.till.specs.declared.Bad.TheVariants.{Broken, Wrong}
use Rattle.till.specs.Places.{records_of}
use Rattle.till.specs.Till.{Reading, reading_of}
use Rattle.till.proofs.Places.{read_from}
use Rattle.reading.proofs.count_records.Given as goal

-- the answer where n records were counted before
abbrev pub count_from : ℕ → Reading → Result ℕ Bad
count_from n Reading.broken = Err Broken
count_from n Reading.wrong = Err Wrong
count_from n (Reading.lines ls) = Ok (n + length ls)

pub record Counting (text : List ℕ) (goal : Result ℕ Bad) (at count : ℕ) : Type 0 where
  pub few : count ≤ at
  pub same : count_from count (read_from text at) ≡ goal

abbrev pub invariant-loop-at : goal.invariant-loop-at
invariant-loop-at l = Counting l.text (records_of (reading_of l.text)) l.at l.count

abbrev pub decreases-loop-at : goal.decreases-loop-at
decreases-loop-at l = length l.text - l.at
