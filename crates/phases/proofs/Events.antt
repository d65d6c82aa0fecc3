-- Lists of events in a phase of any kind: an event by cases, what every event keeps, and how a potential bounds the counted steps.
use mathlib.Core.Path.{◌≡◌}
use mathlib.Core.Bool.{cond}
use mathlib.Core.List.{List, [], ◌∷◌}
use Prim.Native.Nat.{ℕ, ◌+◌, ◌*◌, ◌≤◌, ◌<◌}
use native.Mathlib.Omega.{arith}
use lib.ListN.{length}
use borrow.Author.Tests.{lt-ltb, le-ltb, eq-eqb, ne_eqb}
use Rattle.ring.proofs.Split.{by-lt, by-eq}
use Rattle.activities.specs.declared.Activity.{Activity}
use Rattle.activities.specs.declared.Activity.TheVariants.{Idle}
use Rattle.activities.specs.Activities.{busy}
use Rattle.activities.proofs.Activities.{rests}
use Rattle.rule.specs.Events.{Run, Event, order, step, worker, ordered, accepts, event, run}
use Rattle.phases.proofs.Steps.{moved, stepped-moved}

module _ (k n : ℕ) (key home : ℕ → ℕ) where
  -- ---- an event changes nothing, or is an accepted operation, or is a step
  module _ (C : Run → Type 0) where
    accepts-by : (s r : Run) (a : Activity) (v : ℕ) → C s → (a ≡ Idle → 0 < key v → C r) → C (cond (accepts k n key home a v) r s)
    unfolding accepts
    accepts-by s r a v h o = by-eq (busy a) 0
        (λ z. rw (eq-eqb (busy a) 0 z) (by-lt 0 (key v) (λ l. rw (lt-ltb 0 (key v) l) (o (rests a z) l)) (λ l. rw (le-ltb 0 (key v) l) h)))
        (λ z. rw (ne_eqb (busy a) 0 z) h)

    pub step_by : (w : ℕ) (s : Run) → C s → (w < length s.workers → C (moved k n key home s w)) → C (event k n key home (step w) s)
    unfolding event
    step_by w s h g =
        by-lt w (length s.workers) (λ l. rw (lt-ltb w (length s.workers) l, stepped-moved k n key home s w) (g l)) (λ l. rw (le-ltb w (length s.workers) l) h)

    pub event-by : (e : Event) (s : Run) → C s
        → ((w v : ℕ) → w < length s.workers → worker s w ≡ Idle → 0 < key v → C (ordered k n key home s w v))
        → ((w : ℕ) → w < length s.workers → C (moved k n key home s w)) → C (event k n key home e s)
    unfolding event
    event-by (order w v) s h o g = by-lt w (length s.workers)
        (λ l. rw (lt-ltb w (length s.workers) l) (accepts-by s (ordered k n key home s w v) (worker s w) v h (o w v l)))
        (λ l. rw (le-ltb w (length s.workers) l) h)
    event-by (step w) s h o g = step_by w s h (g w)

    -- ---- what every event keeps, the list keeps
    pub run-keeps : ((e : Event) (s : Run) → C s → C (event k n key home e s)) → (es : List Event) (s : Run) → C s → C (run k n key home es s)
    unfolding run
    run-keeps keeps [] s h = h
    run-keeps keeps (e ∷ es) s h = run-keeps keeps es (event k n key home e s) (keeps e s h)

  -- ---- a potential that every counted step lowers and an accepted operation raises by d at most; it may read what is known of the state
  -- Last may be known of the end of the list alone, if each event passes it back
  module _ (Fair Last : Run → Type 0) (potential : (s : Run) → Fair s → ℕ) (d : ℕ) (last : (e : Event) (s : Run) → Fair s → Last (event k n key home e s) → Last s) where
    abbrev pub OrderPays : Type 0
    OrderPays = (s : Run) (w v : ℕ) (h : Fair s) → w < length s.workers → worker s w ≡ Idle → 0 < key v
        → (g : Fair (ordered k n key home s w v)) × (potential (ordered k n key home s w v) g ≤ potential s h + d)

    abbrev pub StepPays : Type 0
    StepPays = (s : Run) (w : ℕ) (h : Fair s) → w < length s.workers
        → (g : Fair (moved k n key home s w)) × (Last (moved k n key home s w) → busy (worker s w) + potential (moved k n key home s w) g ≤ potential s h)

    -- since the state r the counted steps are at most its potential, and d for each operation accepted
    module _ (order-pays : OrderPays) (step-pays : StepPays) (r : Run) (f : Fair r) where
      abbrev Paid : (s : Run) → Fair s → Type 0
      Paid s h = s.counted + potential s h + length r.ordered * d ≤ r.counted + potential r f + length s.ordered * d

      abbrev Owed : Run → Type 0
      Owed s = (h : Fair s) × (Last s → Paid s h)

      order-paid : (s : Run) (w v : ℕ) (h : Fair s) (g : Fair (ordered k n key home s w v)) → potential (ordered k n key home s w v) g ≤ potential s h + d
          → Paid s h → Paid (ordered k n key home s w v) g
      unfolding ordered
      order-paid s w v h g l p = omega arith

      step-paid : (s : Run) (w : ℕ) (h : Fair s) (g : Fair (moved k n key home s w)) → busy (worker s w) + potential (moved k n key home s w) g ≤ potential s h
          → Paid s h → Paid (moved k n key home s w) g
      unfolding moved
      step-paid s w h g l p = omega arith

      event-owed : (e : Event) (s : Run) → Owed s → Owed (event k n key home e s)
      event-owed e s (h, p) = event-by (λ q. (Last q → Last s) → Owed q) e s
          (λ b. (h, λ z. p (b z)))
          (λ w v l is nz b. let (g, q) = order-pays s w v h l is nz in (g, λ z. order-paid s w v h g q (p (b z))))
          (λ w l b. let (g, q) = step-pays s w h l in (g, λ z. step-paid s w h g (q z) (p (b z))))
          (last e s h)

      pub run-paid : (es : List Event) → Last (run k n key home es r)
          → (run k n key home es r).counted + length r.ordered * d ≤ r.counted + potential r f + length (run k n key home es r).ordered * d
      run-paid es z = let (_, q) = run-keeps Owed event-owed es r (f, λ _. omega arith) in omega (arith, q z)
