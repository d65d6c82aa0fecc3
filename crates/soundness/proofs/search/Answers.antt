use Rattle.std.proofs.Common.{sym, ◌∙◌, arith}
use Rattle.soundness.proofs.Passing.{first_stops, first_ends}
use Rattle.soundness.proofs.Skipping.{come-behind}
use Rattle.soundness.proofs.search.Goals as goal

pub loop-j-preserved-then-cells-j-eq0 : goal.loop-j-preserved-then-cells-j-eq0
loop-j-preserved-then-cells-j-eq0 c =
    let skipped = c.past_empties-j.ensures in
    (come-behind _ _ _ c.loop-j.invariant.0 c.loop-j-test.true c.if-cells-j-eq0.true skipped, skipped.to, c.loop-j.invariant.2)

pub returns-then-is_faulty : goal.returns-then-is_faulty
returns-then-is_faulty c =
    let l = c.loop-j-test.true in
    (first_stops _ c.loop-j.invariant.0.kept l (sym c.is_faulty.ensures.0 ∙ c.if-is_faulty.true), λ e. absurd (omega (arith, l, e)))

pub returns : goal.returns
returns c = (first_ends _ c.loop-j.invariant.0.kept (omega (arith, c.loop-j.invariant.1)), λ _. c.loop-j.invariant.0.linked)
