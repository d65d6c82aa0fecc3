-- The cell by itself first, then the order.
use Rattle.std.proofs.Common.{sym, true≢false}
use Rattle.soundness.specs.Faulty.{is_faulty}
use Rattle.soundness.proofs.is_faulty.Goals as goal

pub returns-then-not-cell_ok : goal.returns-then-not-cell_ok
unfolding is_faulty
returns-then-not-cell_ok c = (rw (sym c.if-not-cell_ok.ensures), λ e. absurd (true≢false e))

pub returns : goal.returns
unfolding is_faulty
returns c = (rw (sym c.if-not-cell_ok.ensures) c.breaks_order.ensures.0, c.breaks_order.ensures.1)
