use Rattle.std.proofs.Common.{get_or, drop, sym, ◌∙◌}
use lib.ListN.{drop_of_length-le}
use Rattle.distinct.proofs.Marks.{next-key, no_keys, keys-left}
use Rattle.distinct.proofs.mark_keys.Goals as goal

pub loop-key-preserved : goal.loop-key-preserved
loop-key-preserved c =
    let l = c.loop-key in
    let a = c.args in
    let r = next-key l.trie _ l.count _ a.limit (get_or a.keys.now l.key-index 0) _ _ c.mark-count.ensures.0 c.mark-count.ensures.1
    (keys-left a.keys.now l.key-index c.loop-key-test.true) in
    r.0 ∙ l.invariant

pub returns : goal.returns
returns c =
    let l = c.loop-key in
    let a = c.args in
    sym (no_keys l.trie l.count a.limit (drop l.key-index a.keys.now) (drop_of_length-le a.keys.now c.loop-key-test.false)).0 ∙ l.invariant
