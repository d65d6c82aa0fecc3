-- With one step for each worker in every round, all workers are idle after more rounds than steps can still be counted.
use mathlib.Core.Path.{ap, ◌∙◌}
use mathlib.Core.Logic.{⊎_elim}
use mathlib.Core.List.{List}
use Prim.Native.Nat.{suc}
use native.Mathlib.Omega.{arith}
use lib.ListN.{length-replicate}
use Rattle.activities.specs.declared.Activity.TheVariants.{Idle}
use Rattle.rule.specs.Events.{Event, run, opened, after}
use Rattle.phases.specs.Promise.{most_rest, RoundsPromise}
use Rattle.phases.proofs.Rounds.{rounds-steps, run-crew, rounds-rest}
use Rattle.determinism.proofs.Theorem.{settles}

pub rounds-idle : RoundsPromise
rounds-idle k n W kind key home rules t sound es few =
    let s = after k n W key home t es in
    let (ws, e) = rounds-steps W (suc (most_rest n W)) in
    ⊎_elim (λ rest. rest)
    (λ more. absurd (omega (arith, settles k n W kind key home rules t sound es ws few, ap (λ (us : List Event). (run k n key home us s).counted) e)))
    (rounds-rest k n key home W (suc (most_rest n W)) s (run-crew k n key home es (opened W t) ∙ length-replicate W Idle))
