-- Each turn of a worker by itself is the definition's; and a lap is all of them.
use Rattle.std.proofs.Common.{◌≡◌, refl, sym, ◌∙◌, true, false, List, ℕ}
use Rattle.state.specs.Model.{gateway}
use Rattle.state.specs.declared.Phase.{Phase}
use Rattle.state.proofs.Model.{gateway-proper}
use Rattle.protocol.specs.Bars.{all_idle}
use Rattle.dealing.specs.Deal.{Dealing, run}
use Rattle.dealing.specs.Promise.{Runs}
use Rattle.dealing.specs.Reached.{Led}
use Rattle.dealing.proofs.Lapping.{lap-starts, lap-next, lap-keeps, lap-skips, lap-good, lap-ends}
use Rattle.dealing.proofs.Settling.{Going, starts, goes_on, falls, same_count, ends, reached}
use Rattle.dealing.proofs.Theorem.{run-kept}
use Rattle.dealing.proofs.run.Goals as goal
use Rattle.dealing.proofs.run.Goals.{in-Some, in_default}

kept : (p : Phase) (t : List ℕ) (d : Dealing) → Led gateway p t × (p.shut ≡ false) → Going gateway p t d → true ≡ all_idle d.dealt.phase.workers
    → (d ≡ run gateway p t) × Runs gateway p t d
kept p t d r v e = run-kept gateway gateway-proper p t d r.0 r.1 (ends gateway gateway-proper _ _ _ v (sym e))

pub laps-init : goal.laps-init
laps-init c = (rw c.no_finishes-finishes.ensures (starts gateway gateway-proper _ _ c.requires.0 c.requires.1), refl)

pub returns-clause-is_run : goal.returns-clause-is_run
returns-clause-is_run c = (kept _ _ _ c.requires c.laps.invariant.0 c.laps-test.ensures).0

pub returns-clause-promise : goal.returns-clause-promise
returns-clause-promise c = (kept _ _ _ c.requires c.laps.invariant.0 c.laps-test.ensures).1

pub loop-w-init : goal.loop-w-init
loop-w-init c =
    let v = c.laps.invariant in
    lap-starts gateway gateway-proper _ _ v.0.list (reached gateway gateway-proper _ _ _ v.0) v.0.opened.running v.1

pub laps-smaller : goal.laps-smaller
laps-smaller c =
    let v = c.laps.invariant in
    falls gateway gateway-proper _ _ _ v.0 _ (lap-ends gateway gateway-proper _ _ _ _ c.loop-w.invariant c.loop-w-test.false) (sym c.laps-test.ensures)

pub laps-preserved : goal.laps-preserved
laps-preserved c =
    let v = c.laps.invariant in
    let done = lap-ends gateway gateway-proper _ _ _ _ c.loop-w.invariant c.loop-w-test.false in
    let busy = sym c.laps-test.ensures in
    (goes_on gateway gateway-proper _ _ _ v.0 _ done busy, v.1 ∙ same_count gateway gateway-proper _ _ _ v.0 _ done busy)

pub loop-w-preserved-then-is_idle : goal.loop-w-preserved-then-is_idle
loop-w-preserved-then-is_idle c = lap-skips gateway gateway-proper _ _ _ _ c.loop-w.invariant c.loop-w-test.true (sym c.if-is_idle.ensures)

pub turn_of-moved-requires : goal.turn_of-moved-requires
turn_of-moved-requires c = lap-good gateway gateway-proper _ _ _ _ c.loop-w.invariant c.loop-w-test.true

pub loop-w-preserved : goal.loop-w-preserved
loop-w-preserved c =
    let turned = c.turn_of-moved.ensures in
    elim c.match-ended_by.branch [
      | in-Some w ↦ rw w.finishes-is (lap-next gateway gateway-proper _ _ _ _ c.loop-w.invariant c.loop-w-test.true _ _ _ turned.0 turned.1 (sym (w.in-Some.ensures _)))
      | in_default w ↦ rw w.finishes-is (lap-keeps gateway gateway-proper _ _ _ _ c.loop-w.invariant c.loop-w-test.true _ _ turned.0 turned.1 w.in_default.ensures)
    ]
