-- The promises on find phases hold of every sound table, home rule, number of workers and list of events.
use mathlib.Core.Path.{ap, ◌∙◌}
use mathlib.Core.List.{List}
use Prim.Native.Nat.{ℕ, ◌+◌, ◌*◌, ◌≤◌}
use native.Mathlib.Omega.{arith}
use lib.ListN.{length}
use Rattle.prices.specs.Priced.{PricedSound}
use Rattle.prices.proofs.Theorem.{sized}
use Rattle.rule.specs.Events.{Run, Event, event, run, opened, after}
use Rattle.phases.specs.Promise.{most_rest, Always, Finds, Rules, steps_of}
use Rattle.phases.proofs.Events.{event-by, run-keeps, run-paid}
use Rattle.phases.proofs.Formed.{formed}
use Rattle.phases.proofs.Formula.{under}
use Rattle.phases.proofs.Rounds.{steps-ordered}
use Rattle.find.proofs.Invariant.{Fair, potential}
use Rattle.find.proofs.Step.{opening-fair, opening-potential, potential-most, order-fair, order-pays, step_keeps}

module _ (n W : ℕ) (key home : ℕ → ℕ) (rules : Rules n key home) (t : List ℕ) (sound : PricedSound n key home t) where
  event-fair : (e : Event) (s : Run) → Fair n W key home t s → Fair n W key home t (event 3 n key home e s)
  event-fair e s h = event-by 3 n key home (Fair n W key home t) e s h
      (λ w v l is p. order-fair n W key home rules t sound s h w l v is (omega arith)) (λ w l. (step_keeps n W key home rules t sound s h w l).0)

  -- from a state on, each operation reads at most n cells
  steps-paid : (es : List Event) (s : Run) → Fair n W key home t s
      → (run 3 n key home es s).counted + length s.ordered * n ≤ s.counted + potential n W key home s + length (run 3 n key home es s).ordered * n
  steps-paid es s h = run-paid 3 n key home (Fair n W key home t) (λ _. Unit {0}) (λ r _. potential n W key home r) n (λ _ _ _ z. z)
      (λ r w v g l is p. (order-fair n W key home rules t sound r g w l v is (omega arith), order-pays n W key home rules t sound r g w l v is))
      (λ r w g l. let (a, less) = step_keeps n W key home rules t sound r g w l in (a, λ _. less))
      s h es tt

  module _ (es : List Event) where
    fair : Fair n W key home t (after 3 n W key home t es)
    fair = run-keeps 3 n key home (Fair n W key home t) event-fair es (opened W t) (opening-fair n W key home rules t sound)

    steps-bounded : (after 3 n W key home t es).counted ≤ length (after 3 n W key home t es).ordered * n
    steps-bounded = omega (arith, steps-paid es (opened W t) (opening-fair n W key home rules t sound), opening-potential n W key home rules t sound)

    pub settles : (ws : List ℕ) → (run 3 n key home (steps_of ws) (after 3 n W key home t es)).counted ≤ (after 3 n W key home t es).counted + most_rest n W
    settles ws =
        let s = after 3 n W key home t es in
        omega (
          arith,
          steps-paid (steps_of ws) s fair,
          ap (λ (l : List ℕ). length l * n) (steps-ordered 3 n key home ws s),
          potential-most n W key home s,
          under n W (2 * W + 1) n (omega arith),
        )

    pub finds : Finds W key t (after 3 n W key home t es)
    finds = fair.finds

    pub always : Always 3 n W key (after 3 n W key home t es)
    always =
        let s = after 3 n W key home t es in
        record {
          sized = ap length finds.unchanged ∙ sized n key home rules.blank rules.inside t sound;
          crew = fair.crew;
          formed = formed 3 n key home rules.inside W t es;
          bounded = omega (arith, steps-bounded, under n W (length s.ordered) n (omega arith));
        }
