-- The promise on the line `run`.
use Rattle.std.specs.Prelude.{Some}
use mathlib.Core.Path.{◌≡◌, refl, sym, ◌∙◌, subst}
use mathlib.Core.Logic.{◌≢◌, ◌↔◌}
use mathlib.Core.Bool.{false}
use mathlib.Core.List.{List}
use Prim.Native.Nat.{ℕ}
use Rattle.prices.specs.Contents.{label}
use Rattle.phases.specs.Promise.{Sold}
use Rattle.activities.specs.Activities.{entry_of}
use Rattle.activities.specs.declared.Activity.TheVariants.{Idle}
use Rattle.state.specs.Model.{Model, Proper}
use Rattle.state.specs.declared.Phase.{Phase}
use Rattle.protocol.specs.Bars.{doing}
use Rattle.protocol.proofs.WellFormed.{all-idle-says}
use Rattle.history.proofs.Theorem.{history as all-lists}
use Rattle.dealing.specs.Reached.{Led}
use Rattle.dealing.specs.Deal.{Dealing, begun, enough, run}
use Rattle.dealing.specs.Promise.{finish_of, Runs, RunPromise}
use Rattle.dealing.specs.declared.Ended.TheVariants.{Price}
use Rattle.dealing.proofs.Answers.{Ends}
use Rattle.dealing.proofs.Finishes.{run-stands, ends-finished, ends-answered, ends-right, finish-right, none-says}
use Rattle.dealing.proofs.Reached.{kind}
use Rattle.dealing.proofs.Rounds.{laps-agree}
use Rattle.dealing.proofs.Settling.{run-rests, run-reached, run_length}

pub run-promise : RunPromise
run-promise M proper os p u h up =
    let k = h.kind in
    let t = h.opened in
    let d = run M p u in
    let rest = run-rests M proper os p u h up in
    let free : (w : ℕ) → doing d.dealt.phase w ≡ Idle = (all-idle-says d.dealt.phase.workers).0 rest in
    let is = kind M proper k h.crew h.hash t os p u h.by in
    let s = run-stands M proper k h.crew h.hash t os p u h.by up in
    let ends : (w : ℕ) → doing p w ≢ Idle → Ends k t (entry_of (doing p w)) (finish_of d w) = λ w. finish-right k t _ _ _ (free w) (s.each w) in
    let (r, turns) = laps-agree M proper (enough p) (begun M p u) p.crew refl in
    record {
      idle = free;
      idle_all = rest;
      none = λ w. none-says k t _ _ _ (free w) (s.each w);
      finished = λ w b ne. ends-finished k t _ _ (ends w b) (λ z. ne (is ∙ z));
      answered = λ w b find. ends-answered k t _ _ (ends w b) (sym is ∙ find);
      right = λ w b find q.
          let same = (all-lists M proper k h.crew h.hash t os h.by.accepted h.by.calls).unchanged (sym is ∙ find) in
          subst (λ x. (finish_of d w ≡ Some (Price q)) ↔ Sold label x (label (entry_of (doing p w))) q) (sym (h.by.table ∙ same)) (ends-right k t _ _ (ends w b) (sym is ∙ find) q);
      places = s.places;
      dealt = (r, λ lent x a b. turns lent x (sym a, sym b));
      reached = λ lent led. run-reached M proper lent p u led up;
      frame = s.frame;
      shut = s.shut;
      sized = run_length M proper p u;
    }

-- the same of what is known to be a run's
pub run-kept : (M : Model) → Proper M → (p : Phase) (u : List ℕ) (d : Dealing) → Led M p u → p.shut ≡ false → d ≡ run M p u
    → (d ≡ run M p u) × Runs M p u d
run-kept M proper p u d h up e = (e, subst (Runs M p u) (sym e) (run-promise M proper h.0 p u h.1 up))
