-- Lists of steps alone. They accept no operation; a round, of one step for each worker, counts the busy workers; and idle workers stay idle.
use mathlib.Core.Path.{◌≡◌, refl, ap, ◌∙◌}
use mathlib.Core.Logic.{◌⊎◌, inl, inr, ⊎_elim}
use mathlib.Core.List.{List, [], ◌∷◌}
use Prim.Native.Nat.{ℕ, zero, suc, ◌+◌, ◌≤◌, ◌<◌}
use native.Mathlib.Omega.{arith}
use lib.Dec.{ltb}
use lib.ListN.{length, length-set, get_or-eq_default}
use lib.Seq.{get_or-set_other}
use borrow.Author.Tests.{lt-ltb}
use Rattle.ring.specs.Counting.{tally, over}
use Rattle.ring.proofs.Counting.{tally-at}
use Rattle.ring.proofs.Split.{by-lt}
use Rattle.activities.specs.declared.Activity.TheVariants.{Idle}
use Rattle.activities.specs.Activities.{busy}
use Rattle.rule.specs.Events.{Run, Event, step, worker, AllIdle, ordered, stepped, event, run}
use Rattle.rule.specs.Schedules.{round, rounds}
use Rattle.phases.specs.Promise.{steps_of}
use Rattle.activities.proofs.Activities.{rests}
use Rattle.phases.proofs.Events.{step_by, event-by, run-keeps}
use Rattle.phases.proofs.Steps.{either, moved, stepped-counted}

-- ---- rounds are lists of steps
round-steps : (w : ℕ) (ws : List ℕ) → (us : List ℕ) × (round w (steps_of ws) ≡ steps_of us)
unfolding round steps_of
round-steps zero ws = (ws, refl)
round-steps (suc w) ws = round-steps w (w ∷ ws)

pub rounds-steps : (W r : ℕ) → (ws : List ℕ) × (rounds W r ≡ steps_of ws)
unfolding rounds steps_of
rounds-steps W zero = ([], refl)
rounds-steps W (suc r) =
    let (ws, e) = rounds-steps W r in
    let (us, d) = round-steps W ws in
    (us, ap (round W) e ∙ d)

-- ---- workers of which none is busy
none-busy : (W : ℕ) (s : Run) → length s.workers ≡ W → over (λ _ a. busy a) Idle W s.workers ≡ 0 → AllIdle s
none-busy W s crew z w = by-lt w W
    (λ l. rests (worker s w) (omega (arith, tally-at (λ i. busy (worker s i)) W w l)))
    (λ l. get_or-eq_default s.workers Idle (omega arith))

module _ (k n : ℕ) (key home : ℕ → ℕ) where
  pub steps-ordered : (ws : List ℕ) (s : Run) → (run k n key home (steps_of ws) s).ordered ≡ s.ordered
  unfolding run steps_of moved
  steps-ordered [] s = refl
  steps-ordered (w ∷ ws) s = steps-ordered ws (event k n key home (step w) s) ∙ step_by k n key home (λ r. r.ordered ≡ s.ordered) w s refl (λ _. refl)

  -- ---- the number of workers stays
  event-crew : (e : Event) (s : Run) → length (event k n key home e s).workers ≡ length s.workers
  unfolding ordered moved
  event-crew e s = event-by k n key home (λ r. length r.workers ≡ length s.workers) e s refl (λ w v _ _ _. length-set s.workers w _) (λ w _. length-set s.workers w _)

  pub run-crew : (es : List Event) (s : Run) → length (run k n key home es s).workers ≡ length s.workers
  run-crew es s = run-keeps k n key home (λ r. length r.workers ≡ length s.workers) (λ e r h. event-crew e r ∙ h) es s refl

  -- ---- one step
  step-counted : (w : ℕ) (s : Run) → w < length s.workers → (event k n key home (step w) s).counted ≡ busy (worker s w) + s.counted
  unfolding event
  step-counted w s l = rw (lt-ltb w (length s.workers) l) (stepped-counted k n key home s w)

  step-others : (w u : ℕ) (s : Run) → w < u → worker (event k n key home (step w) s) u ≡ worker s u
  unfolding moved
  step-others w u s l = step_by k n key home (λ r. worker r u ≡ worker s u) w s refl (λ _. get_or-set_other s.workers w u _ Idle (λ z. omega arith))

  idle-step : (w : ℕ) (s : Run) → worker s w ≡ Idle → event k n key home (step w) s ≡ s
  unfolding event stepped
  idle-step w s is = either (λ r. r ≡ s) (ltb w (length s.workers)) (rw is) refl

  -- ---- a round up to worker w: each worker finds its activity as it was before the round
  unfoldable pub dealt : ℕ → Run → Run
  dealt zero s = s
  dealt (suc w) s = event k n key home (step w) (dealt w s)

  pub round-dealt : (w : ℕ) (es : List Event) (s : Run) → run k n key home (round w es) s ≡ run k n key home es (dealt w s)
  unfolding round run dealt
  round-dealt zero es s = refl
  round-dealt (suc w) es s = round-dealt w (step w ∷ es) s

  dealt-crew : (w : ℕ) (s : Run) → length (dealt w s).workers ≡ length s.workers
  unfolding dealt
  dealt-crew zero s = refl
  dealt-crew (suc w) s = event-crew (step w) (dealt w s) ∙ dealt-crew w s

  dealt-later : (w u : ℕ) (s : Run) → w ≤ u → worker (dealt w s) u ≡ worker s u
  unfolding dealt
  dealt-later zero u s l = refl
  dealt-later (suc w) u s l = step-others w u (dealt w s) (omega arith) ∙ dealt-later w u s (omega arith)

  dealt-counted : (w : ℕ) (s : Run) → w ≤ length s.workers → (dealt w s).counted ≡ over (λ _ a. busy a) Idle w s.workers + s.counted
  unfolding dealt tally
  dealt-counted zero s l = omega arith
  dealt-counted (suc w) s l =
      omega (arith, step-counted w (dealt w s) (omega (arith, dealt-crew w s)), ap busy (dealt-later w w s (omega arith)), dealt-counted w s (omega arith))

  dealt-idle : (w : ℕ) (s : Run) → AllIdle s → dealt w s ≡ s
  unfolding dealt
  dealt-idle zero s rest = refl
  dealt-idle (suc w) s rest = rw (dealt-idle w s rest) (idle-step w s (rest w))

  rounds-idle : (W r : ℕ) (s : Run) → AllIdle s → run k n key home (rounds W r) s ≡ s
  unfolding rounds run
  rounds-idle W zero s rest = refl
  rounds-idle W (suc r) s rest = rw (round-dealt, dealt-idle W s rest) (rounds-idle W r s rest)

  -- ---- after r rounds all workers are idle, or r steps and more have been counted
  pub rounds-rest : (W r : ℕ) (s : Run) → length s.workers ≡ W
      → AllIdle (run k n key home (rounds W r) s) ⊎ (s.counted + r ≤ (run k n key home (rounds W r) s).counted)
  unfolding rounds
  rounds-rest W zero s crew = inr (unfold run in (omega arith))
  rounds-rest W (suc r) s crew = by-lt 0 (over (λ _ a. busy a) Idle W s.workers)
      (λ some. rw (round-dealt W (rounds W r) s) (⊎_elim inl (λ l. inr (omega (arith, dealt-counted W s (omega arith))))
      (rounds-rest W r (dealt W s) (dealt-crew W s ∙ crew))))
      (λ none. let rest = none-busy W s crew (omega arith) in inl (rw (rounds-idle W (suc r) s rest) rest))
