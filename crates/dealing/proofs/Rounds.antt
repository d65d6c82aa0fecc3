-- The turns of a run are rounds of turn calls.
use mathlib.Core.Path.{◌≡◌, refl, sym, ◌∙◌, subst}
use mathlib.Core.List.{List, [], ◌∷◌}
use Prim.Native.Nat.{ℕ, zero, suc}
use Rattle.ring.proofs.Tests.{by-test}
use Rattle.orders.specs.declared.Order.{Order}
use Rattle.state.specs.Model.{Model, Proper}
use Rattle.protocol.proofs.Theorem.{turns}
use Rattle.history.specs.History as history
use Rattle.history.specs.History.{Call, turn, History, call}
use Rattle.dealing.specs.Deal.{Dealing, deal_to, deal, lap, laps}
use Rattle.dealing.specs.Promise.{round, rounds, LapPromise}
use Rattle.dealing.proofs.Laps.{is_at_rest}
use Rattle.dealing.proofs.Reached.{turn_leaves}

-- a dealing has the phase and the table of a history
abbrev pub Agrees : Dealing → History → Type 0
Agrees d s = (d.dealt.phase ≡ s.phase) × (d.table ≡ s.table)

module _ (M : Model) (proper : Proper M) where
  -- the turns of the workers below w
  module _ (os : List Order) where
    unfoldable turns_below : ℕ → History → History
    turns_below zero s = s
    turns_below (suc w) s = call M os (turn w) (turns_below w s)

    round-runs : (w : ℕ) (cs : List Call) (s : History) → history.run M os (round w cs) s ≡ history.run M os cs (turns_below w s)
    unfolding turns_below history.run
    round-runs zero cs s = refl
    round-runs (suc w) cs s = round-runs w (turn w ∷ cs) s

    deal-agrees : (w : ℕ) (d : Dealing) (s : History) → Agrees d s → Agrees (deal M w d) (turns_below w s)
    unfolding deal deal_to turns_below
    deal-agrees zero d s a = a
    deal-agrees (suc w) d s a = let (x, y) = deal-agrees w d s a in rw (x, y) (turn_leaves M proper os w (turns_below w s))

  deal-crew : (w : ℕ) (d : Dealing) → (deal M w d).dealt.phase.crew ≡ d.dealt.phase.crew
  unfolding deal deal_to
  deal-crew zero d = refl
  deal-crew (suc w) d = (turns M (deal M w d).dealt.phase (deal M w d).table w).others.frame.crew ∙ deal-crew w d

  pub laps-agree : (f : ℕ) (d : Dealing) (m : ℕ) → d.dealt.phase.crew ≡ m
      → (r : ℕ) × ((os : List Order) (s : History) → Agrees d s → Agrees (laps M f d) (history.run M os (rounds m r) s))
  unfolding laps history.run
  laps-agree zero d m e = (zero, λ os s a. a)
  laps-agree (suc f) d m e = by-test (is_at_rest d)
      (λ z. rw z (zero, λ os s a. a))
      (λ z. let (r, h) = laps-agree f (lap M d) m (deal-crew d.dealt.phase.crew d ∙ e) in
      rw z (
        suc r,
        λ os s a. rw (round-runs os m (rounds m r) s) (h os (turns_below os m s)
            (subst (λ x. Agrees (deal M x d) (turns_below os m s)) (sym e) (deal-agrees os m d s a))),
      ))

pub lap-promise : LapPromise
unfolding history.run
lap-promise M proper os d s a b =
    let m = d.dealt.phase.crew in
    rw (round-runs M proper os m [] s) (deal-agrees M proper os m d s (sym a, sym b))
