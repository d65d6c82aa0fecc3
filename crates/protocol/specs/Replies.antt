-- What turns answer, or else why they are refused.
use Rattle.std.specs.Prelude.{Result}
use Rattle.rule.specs.declared.Answer.{Answer}
use Rattle.state.specs.declared.Refusal.{Refusal}

abbrev pub TurnReply : Type 0
TurnReply = Result Answer Refusal
