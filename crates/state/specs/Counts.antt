-- The answers of calls that give a count: the documents' number and the value of each, and what a call leaves.
use Rattle.std.specs.Prelude.{ℕ, Ok, Err}
use Rattle.state.specs.Replies.{Counted, Reply}
use Rattle.state.specs.Refusals.{number_of}

-- 0 where the call is not refused
abbrev pub count_number : Counted → ℕ
count_number (Ok c) = 0
count_number (Err r) = number_of r

abbrev pub count_value : Counted → ℕ
count_value (Ok c) = c
count_value (Err r) = 0

-- a count, where the call is not refused
abbrev pub counted_by : ℕ → Reply → Counted
counted_by c (Ok _) = Ok c
counted_by c (Err r) = Err r

-- one of two: the first where the call is not refused
abbrev pub if_counted : {A : Type 0} → Counted → A → A → A
if_counted (Ok c) kept refused = kept
if_counted (Err r) kept refused = refused
