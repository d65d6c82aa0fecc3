use Rattle.std.proofs.Common.{◌≡◌, ◌+◌, ◌≤◌, length}
use Rattle.price_change.proofs.gather_replies.Given as goal

abbrev pub invariant-loop-i : goal.invariant-loop-i
invariant-loop-i l = record { some : 1 ≤ l.count; few : l.count + l.i ≤ 41; keys_long : length l.keys ≡ 41; workers_long : length l.workers ≡ 41 }
