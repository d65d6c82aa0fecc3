use Rattle.std.proofs.Common.{◌≡◌, drop}
use Rattle.distinct.specs.Trie.{total}
use Rattle.distinct.proofs.mark_keys.Given as goal

abbrev pub invariant-loop-key : goal.invariant-loop-key
invariant-loop-key l = total l.trie l.count l.limit (drop l.key-index l.keys) ≡ total l.fn.trie l.fn.start l.limit l.keys
