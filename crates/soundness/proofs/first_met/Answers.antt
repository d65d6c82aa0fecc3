use Rattle.std.proofs.Common.{ap, ◌∙◌, length, get_or, arith}
use native.Mathlib.Nat.{mod-lt}
use Rattle.homes.specs.Homes.{spread}
use Rattle.soundness.proofs.Meeting.{at_home, steps_on, nearer, is-met}
use Rattle.soundness.proofs.first_met.Goals as goal

pub loop-c-init : goal.loop-c-init
loop-c-init c =
    let n = length c.args.cells.now in
    at_home n (spread c.args.hash n) _ _ c.requires.1 (mod-lt _ (omega arith)) (c.home-c.ensures ∙ ap (spread c.args.hash n) c.key_at-key.ensures)

pub loop-c-smaller : goal.loop-c-smaller
loop-c-smaller c =
    let n = length c.args.cells.now in
    nearer n (spread c.args.hash n) _ _ c.requires.1 (mod-lt _ (omega arith)) c.loop-c.invariant
    (omega (arith, c.key_at-key.ensures, c.key_at.ensures)) c.next-c.ensures

pub loop-c-preserved : goal.loop-c-preserved
loop-c-preserved c =
    let n = length c.args.cells.now in
    steps_on n (spread c.args.hash n) _ _ c.requires.1 (mod-lt _ (omega arith)) c.loop-c.invariant
    (omega (arith, c.key_at-key.ensures, c.key_at.ensures)) c.next-c.ensures

pub returns : goal.returns
returns c =
    let cells = c.args.cells.now in
    let n = length cells in
    ap (λ i. get_or cells i 0)
    (is-met n (spread c.args.hash n) _ _ c.requires.1 (mod-lt _ (omega arith)) c.loop-c.invariant
    (omega (arith, c.key_at-key.ensures, c.key_at.ensures)))
