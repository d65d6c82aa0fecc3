-- What calls answer: nothing or a count, or else why they are refused.
use Rattle.std.specs.Prelude.{ℕ, Result}
use Rattle.state.specs.declared.Refusal.{Refusal}

abbrev pub Reply : Type 0
Reply = Result (Unit {0}) Refusal

abbrev pub Counted : Type 0
Counted = Result ℕ Refusal
