use Rattle.std.proofs.Common.{refl}
use Rattle.distinct.proofs.Search.{seeking-start, seeking-none, seeking-far, seeking-hit, seeking-next}
use Rattle.distinct.proofs.link_of.Goals as goal

pub loop-at-init : goal.loop-at-init
loop-at-init c = seeking-start _ _ _ _ c.root_of-at.ensures.0 c.root_of-at.ensures.1 refl

pub returns-then-link-ge32768 : goal.returns-then-link-ge32768
returns-then-link-ge32768 c =
    let l = c.loop-at in
    (seeking-far _ _ _ l.bits _ l.invariant c.loop-at-test.true c.if-link-ge32768.true, l.invariant.low)

pub returns-then-trie-link : goal.returns-then-trie-link
returns-then-trie-link c =
    let l = c.loop-at in
    (seeking-hit _ _ _ l.bits _ l.invariant c.loop-at-test.true c.if-link-ge32768.false c.if-trie-link.true, l.invariant.low)

pub loop-at-preserved : goal.loop-at-preserved
loop-at-preserved c =
    seeking-next _ _ _ _ _ _ _ c.loop-at.invariant c.loop-at-test.true c.if-link-ge32768.false c.if-trie-link.false refl refl

pub returns : goal.returns
returns c = (seeking-none _ _ _ c.loop-at.bits _ c.loop-at.invariant c.loop-at-test.false, c.loop-at.invariant.low)
