use Rattle.std.proofs.Common.{arith}
use Rattle.soundness.proofs.Links.{walk-starts, next-in, goes_on}
use Rattle.soundness.proofs.greater_before.Goals as goal

pub loop-s-init : goal.loop-s-init
loop-s-init c = walk-starts _ _ _ _ _ (omega arith)

pub key_at-requires : goal.key_at-requires
key_at-requires c = let p = c.requires in next-in p.0.1 p.1 p.2 c.loop-s-test.true c.dist-c.ensures c.loop-s.invariant

pub loop-s-preserved : goal.loop-s-preserved
loop-s-preserved c =
    let p = c.requires in
    goes_on p.0.1 p.1 p.2 c.loop-s-test.true c.dist-c.ensures c.loop-s.invariant (omega (arith, c.key_at-key.ensures, c.key_at.ensures))
