-- Each answer by its law.
use Rattle.std.proofs.Common.{sym, length, arith}
use Rattle.homes.specs.Homes.{spread}
use Rattle.ring.proofs.Each.{first-is}
use Rattle.soundness.specs.Faulty.{is_faulty}
use Rattle.soundness.proofs.Answer.{is-sound, is-gap, is-disorder}
use Rattle.soundness.proofs.flaw_of.Goals as goal

pub returns-then-j-cells : goal.returns-then-j-cells
returns-then-j-cells c = is-sound _ _ (sym c.if-not-some_empty.ensures) c.first_faulty-j.ensures c.if-j-cells.true

pub first_met-requires : goal.first_met-requires
first_met-requires c =
    let cells = c.args.cells.now in
    (c.requires, omega (arith, c.first_faulty-j.ensures, (first-is (is_faulty (spread c.args.hash (length cells)) cells) (length cells)).within))

pub returns-then-first_met-eq0 : goal.returns-then-first_met-eq0
returns-then-first_met-eq0 c =
    is-gap _ _ (sym c.if-not-some_empty.ensures) c.first_faulty-j.ensures
    (sym c.if-not-all_ok.ensures) c.if-j-cells.false c.first_met.ensures c.if-first_met-eq0.true

pub returns : goal.returns
returns c =
    is-disorder _ _ (sym c.if-not-some_empty.ensures) c.first_faulty-j.ensures
    (sym c.if-not-all_ok.ensures) c.if-j-cells.false c.first_met.ensures c.if-first_met-eq0.false
