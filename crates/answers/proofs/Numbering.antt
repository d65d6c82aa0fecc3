-- The numbers of a run of calls, on a phase or on a migration, are those of what the run gives.
use mathlib.Core.Path.{◌≡◌, ap, ◌∙◌}
use mathlib.Core.List.{List}
use Prim.Native.Nat.{ℕ}
use Rattle.homes.specs.declared.Hash.{Hash}
use Rattle.orders.specs.declared.Order.{Order}
use Rattle.state.specs.Model.{Model}
use Rattle.state.specs.declared.Replied.{Replied}
use Rattle.numbered.specs.Numbers.{reply_answer}
use Rattle.numbered.specs.Batch.{Ran}
use Rattle.migration.specs.Lists as moves
use Rattle.migration.specs.Lists.{MoveNumbers}
use Rattle.migration.specs.declared.Migrated.{Migrated}
use Rattle.answers.specs.Numbers.{RunNumbers}

pub numbered : {M : Model} {k m : ℕ} {ab : Hash} {t : List ℕ} {os : List Order} {ops lines workers keys out : List ℕ} {ran : Replied} {t' out' : List ℕ} {r : ℕ}
    → r ≡ reply_answer ran.reply
    → Ran M k m ab t os ops lines workers keys out ran t' out' → RunNumbers M k m ab t os ops lines workers keys out r t' out'
numbered is ran = record { reply = is ∙ ap reply_answer ran.reply; table = ran.gives.table; answers = ran.gives.answers }

pub moves-numbered : {M : Model} {m : ℕ} {ab : Hash} {old new ops workers out : List ℕ} {ran : Migrated} {old' new' out' : List ℕ} {r : ℕ}
    → r ≡ reply_answer ran.reply
    → moves.Ran M m ab old new ops workers out ran old' new' out' → MoveNumbers M m ab old new ops workers out r old' new' out'
moves-numbered is ran =
    record { reply = is ∙ ap reply_answer ran.reply; kept = ran.gives.kept; table = ran.gives.table; answers = ran.gives.answers }
