-- Lists of calls as they are lent, with room for answers.
use Rattle.std.specs.Prelude.{List, ℕ}
use Rattle.history.specs.History.{Call}
use Rattle.numbered.specs.Lists.{fewest, calls_lent}
use Rattle.singly.specs.declared.Calls.{Calls}

-- how many calls are run, and which
abbrev pub count_of : Calls → List ℕ → ℕ
count_of c out = fewest c.ops.now c.lines.now c.workers.now c.keys.now out

abbrev pub calls_of : Calls → List ℕ → List Call
calls_of c out = calls_lent c.ops.now c.lines.now c.workers.now c.keys.now out
