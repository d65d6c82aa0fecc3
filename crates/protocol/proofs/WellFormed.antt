-- The test for well-formed phase states says what document 01 says, worker by worker.
use mathlib.Core.Path.{◌≡◌, refl}
use mathlib.Core.Logic.Iff
use mathlib.Core.Logic.{◌≢◌, ◌↔◌}
use mathlib.Core.Bool.{true, false, cond}
use mathlib.Core.List.{List, [], ◌∷◌}
use Prim.Native.Nat.{ℕ, zero, suc, ◌+◌, ◌≤◌, ◌<◌}
use native.Mathlib.Nat.{suc-add}
use native.Mathlib.Numerals.{unary_clauses}
use native.Mathlib.Omega.{arith}
use lib.Dec.{ltb}
use lib.ListN.{get_or}
use borrow.Author.Tests.{lt-ltb, le-ltb}
use Rattle.ring.proofs.Split.{by-lt}
use Rattle.ring.proofs.Tests.{tested, not_both, both_say, within-says}
use Rattle.prices.specs.Contents.{label}
use Rattle.activities.specs.Activities.{idle, is_idle, activity_ok, Suits}
use Rattle.activities.specs.Kinds.{kind_ok}
use Rattle.activities.specs.declared.Activity.{Activity}
use Rattle.activities.specs.declared.Activity.TheVariants.{Idle}
use Rattle.activities.specs.declared.Worker.{Worker}
use Rattle.activities.proofs.Activities.{idle-says, suits-says}
use Rattle.state.specs.Model.{Model, size_ok}
use Rattle.state.specs.declared.Phase.{Phase}
use Rattle.protocol.specs.Bars.{doing, all_idle}
use Rattle.protocol.specs.IsWellFormed.{numbers_ok, workers_ok, is_well_formed}
use Rattle.protocol.specs.WellFormed.{Size, Crew, Kind, WellFormed}

-- ---- lists of workers
-- what worker j is doing
abbrev at : List Worker → ℕ → Activity
at ws j = (get_or ws j idle).activity

-- what holds of each worker, of the first and of those after it
each-says : (C : ℕ → Activity → Type 0) (x : Worker) (ws : List Worker)
    → (C 0 x.activity × ((j : ℕ) → C (suc j) (at ws j))) ↔ ((j : ℕ) → C j (at (x ∷ ws) j))
each-says C x ws = (to, λ h. (h 0, λ j. h (suc j)))
  where
    to : C 0 x.activity × ((j : ℕ) → C (suc j) (at ws j)) → (j : ℕ) → C j (at (x ∷ ws) j)
    to h zero = h.0
    to h (suc j) = h.1 j

pub all-idle-says : (ws : List Worker) → all_idle ws ≡ true ↔ ((w : ℕ) → at ws w ≡ Idle)
all-idle-says [] = (λ _ w. refl, λ _. refl)
all-idle-says (x ∷ ws) =
    Iff.trans (both_say (is_idle x.activity) (all_idle ws) (idle-says x.activity) (all-idle-says ws)) (each-says (λ _ a. a ≡ Idle) x ws)

-- some worker isn't idle
pub some-busy : (ws : List Worker) → all_idle ws ≡ false → (w : ℕ) × (at ws w ≢ Idle)
some-busy [] = λ e. absurd (not_both true refl e)
some-busy (x ∷ ws) = tested (λ b. b ≡ false → (w : ℕ) × (at (x ∷ ws) w ≢ Idle)) (is_idle x.activity)
    (λ _ e. let (w, z) = some-busy ws e in (suc w, z))
    (λ e _. (0, λ i. not_both (is_idle x.activity) ((idle-says x.activity).1 i) e))

-- what is tested of worker i: below the count m it has an activity that the kind has, past it it is idle
module _ (k n m : ℕ) where
  abbrev Fine : ℕ → Activity → Type 0
  Fine i a = (m ≤ i → a ≡ Idle) × (i < m → Suits k n label a)

  fine-says : (i : ℕ) (a : Activity) → cond (ltb i m) (activity_ok k n label a) (is_idle a) ≡ true ↔ Fine i a
  fine-says i a =
      by-lt i m
      (λ l. rw (lt-ltb i m l) (λ e. (λ g. absurd (omega arith), λ _. (suits-says k n label a).0 e), λ h. (suits-says k n label a).1 (h.1 l)))
      (λ l. rw (le-ltb i m l) (λ e. (λ _. (idle-says a).0 e, λ g. absurd (omega arith)), λ h. (idle-says a).1 (h.0 l)))

  workers-say : (i : ℕ) (ws : List Worker) → workers_ok k n m i ws ≡ true ↔ ((j : ℕ) → Fine (i + j) (at ws j))
  workers-say i [] = (λ _ j. (λ _. refl, λ _. tt), λ _. refl)
  workers-say i (x ∷ ws) =
      let rest = simp suc-add at (workers-say (suc i) ws) in
      Iff.trans (both_say (cond (ltb i m) (activity_ok k n label x.activity) (is_idle x.activity)) _ (fine-says i x.activity) rest)
      (simp unary_clauses at (each-says (λ j a. Fine (i + j) a) x ws))

-- ---- the phase state
numbers-say : (M : Model) (k n m : ℕ) → numbers_ok M k n m ≡ true ↔ (Kind k × (Size M n × Crew M m))
numbers-say M k n m =
    both_say (kind_ok k) _ (within-says 1 3 k)
    (both_say (size_ok M n) _ (within-says M.fewest_cells M.most_cells n) (within-says M.fewest_workers M.most_workers m))

pub well-formed-says : (M : Model) (p : Phase) → is_well_formed M p ≡ true ↔ WellFormed M p
unfolding is_well_formed
well-formed-says M p =
    let s = both_say (numbers_ok M p.kind p.length p.crew) _ (numbers-say M p.kind p.length p.crew)
    (workers-say p.kind p.length p.crew 0 p.workers) in
    let to : is_well_formed M p ≡ true → WellFormed M p = λ e.
    let ((kind, (size, crew)), each) = s.0 e in
    record { kind = kind; size = size; crew = crew; past = λ w l. (each w).0 (omega arith); workers = λ w l. (each w).1 (omega arith) } in
    (to, λ h. s.1 ((h.kind, (h.size, h.crew)), λ w. (λ l. h.past w (omega arith), λ l. h.workers w (omega arith))))

-- a worker below the count has an activity that the kind has
pub good-worker : (M : Model) (p : Phase) → is_well_formed M p ≡ true → (w : ℕ) → w < p.crew → activity_ok p.kind p.length label (doing p w) ≡ true
good-worker M p good w below = (suits-says p.kind p.length label (doing p w)).1 (((well-formed-says M p).0 good).workers w below)
