-- The test for well-formed migrations says what document 02 says, worker by worker; and what the other tests of a migration say.
use mathlib.Core.Path.{◌≡◌, refl, ap}
use mathlib.Core.Logic.Iff
use mathlib.Core.Logic.{◌≢◌, ◌↔◌}
use mathlib.Core.Bool.{true, false, cond}
use mathlib.Core.List.{List, [], ◌∷◌}
use Prim.Native.Nat.{ℕ, zero, suc, ◌+◌, ◌≤◌, ◌<◌}
use native.Mathlib.Nat.{suc-add}
use native.Mathlib.Numerals.{unary_clauses}
use native.Mathlib.Omega.{arith}
use lib.Dec.{ltb, eqb}
use lib.ListN.{length, get_or}
use borrow.Author.Tests.{leb-true, le-leb, lt-ltb, le-ltb, eqb-false}
use Rattle.ring.proofs.Split.{by-lt}
use Rattle.ring.proofs.Tests.{tested, not_both, less-says, equal-says, both_say, within-says}
use Rattle.prices.specs.Contents.{label}
use Rattle.activities.specs.Activities.{Suits}
use Rattle.activities.specs.declared.Activity.{Activity}
use Rattle.activities.specs.declared.Activity.TheVariants.{Idle, Reading, Replacing, WalkingBack, SeekingForward, SeekingBack}
use Rattle.activities.proofs.Activities.{idle-says, suits-says}
use Rattle.state.specs.Model.{Model, size_ok, crew_ok}
use Rattle.protocol.specs.WellFormed.{Size, Crew}
use Rattle.migration.specs.Calls.{all_free, all_empty, numbers_ok, carriers_ok, is_well_formed}
use Rattle.migration.specs.Promise.{WellFormed, WellFormedPromise}
use Rattle.migration.specs.Tasks.{free, carrier, is_free, task_ok, Allowed}
use Rattle.migration.specs.declared.Carrier.{Carrier}
use Rattle.migration.specs.declared.Migration.{Migration}
use Rattle.migration.specs.declared.Task.{Task}
use Rattle.migration.specs.declared.Task.TheVariants.{Fetching, Inserting}

-- ---- of one worker
-- a worker yet to read its old cell is not free
pub fetching-busy : (c : ℕ) → Fetching c ≢ free
fetching-busy c e = not_both false (ap is_free e) refl

pub free-says : (a : Task) → is_free a ≡ true ↔ (a ≡ free)
free-says (Fetching c) = (λ e. absurd (not_both false e refl), λ e. absurd (fetching-busy c e))
free-says (Inserting a) = (λ e. ap Inserting ((idle-says a).0 e), λ e. ap is_free e)

-- what a worker of an insert phase at the new table may be doing
pub suits-allowed : (n m : ℕ) (a : Activity) → Suits 1 m label a ↔ Allowed n m (Inserting a)
suits-allowed n m Idle = (λ h. h, λ h. h)
suits-allowed n m (Reading v i) = (λ h. h, λ h. h)
suits-allowed n m (Replacing v k j x) = (λ (_, key, a, b). (key, a, b), λ (key, a, b). (λ z. omega arith, key, a, b))
suits-allowed n m (WalkingBack v k) = (λ h. absurd (omega (arith, h.0)), λ h. absurd h)
suits-allowed n m (SeekingForward v k j) = (λ h. absurd (omega (arith, h.0)), λ h. absurd h)
suits-allowed n m (SeekingBack p v k j x) = (λ h. absurd (omega (arith, h.0)), λ h. absurd h)

pub allowed-says : (n m : ℕ) (a : Task) → task_ok n m a ≡ true ↔ Allowed n m a
allowed-says n m (Fetching c) = less-says c n
allowed-says n m (Inserting a) = Iff.trans (suits-says 1 m label a) (suits-allowed n m a)

-- ---- lists of workers
-- what worker j is doing
abbrev at : List Carrier → ℕ → Task
at cs j = (get_or cs j (carrier free)).task

-- what holds of each worker, of the first and of those after it
each-says : (C : ℕ → Task → Type 0) (x : Carrier) (cs : List Carrier)
    → (C 0 x.task × ((j : ℕ) → C (suc j) (at cs j))) ↔ ((j : ℕ) → C j (at (x ∷ cs) j))
each-says C x cs = (to, λ h. (h 0, λ j. h (suc j)))
  where
    to : C 0 x.task × ((j : ℕ) → C (suc j) (at cs j)) → (j : ℕ) → C j (at (x ∷ cs) j)
    to h zero = h.0
    to h (suc j) = h.1 j

pub all-free-says : (cs : List Carrier) → all_free cs ≡ true ↔ ((w : ℕ) → (get_or cs w (carrier free)).task ≡ free)
all-free-says [] = (λ _ w. refl, λ _. refl)
all-free-says (x ∷ cs) =
    Iff.trans (both_say (is_free x.task) (all_free cs) (free-says x.task) (all-free-says cs)) (each-says (λ _ a. a ≡ free) x cs)

-- some worker isn't free
pub some-busy : (cs : List Carrier) → all_free cs ≡ false → (w : ℕ) × ((get_or cs w (carrier free)).task ≢ free)
some-busy [] = λ e. absurd (not_both true refl e)
some-busy (x ∷ cs) = tested (λ b. b ≡ false → (w : ℕ) × (at (x ∷ cs) w ≢ free)) (is_free x.task)
    (λ _ e. let (w, z) = some-busy cs e in (suc w, z))
    (λ e _. (0, λ i. not_both (is_free x.task) ((free-says x.task).1 i) e))

-- what is tested of worker i: below the count crew it has a task that it may have, past it it is free
module _ (n m crew : ℕ) where
  abbrev Fine : ℕ → Task → Type 0
  Fine i a = (crew ≤ i → a ≡ free) × (i < crew → Allowed n m a)

  fine-says : (i : ℕ) (a : Task) → cond (ltb i crew) (task_ok n m a) (is_free a) ≡ true ↔ Fine i a
  fine-says i a =
      by-lt i crew
      (λ l. rw (lt-ltb i crew l) (λ e. (λ g. absurd (omega arith), λ _. (allowed-says n m a).0 e), λ h. (allowed-says n m a).1 (h.1 l)))
      (λ l. rw (le-ltb i crew l) (λ e. (λ _. (free-says a).0 e, λ g. absurd (omega arith)), λ h. (free-says a).1 (h.0 l)))

  carriers-say : (i : ℕ) (cs : List Carrier) → carriers_ok n m crew i cs ≡ true ↔ ((j : ℕ) → Fine (i + j) (at cs j))
  carriers-say i [] = (λ _ j. (λ _. refl, λ _. tt), λ _. refl)
  carriers-say i (x ∷ cs) =
      let rest = simp suc-add at (carriers-say (suc i) cs) in
      Iff.trans (both_say (cond (ltb i crew) (task_ok n m x.task) (is_free x.task)) _ (fine-says i x.task) rest)
      (simp unary_clauses at (each-says (λ j a. Fine (i + j) a) x cs))

-- ---- the state of a migration
numbers-say : (M : Model) (k n m crew next : ℕ)
    → numbers_ok M k n m crew next ≡ true ↔ ((k ≡ 4) × (Size M n × (Size M m × (Crew M crew × (next ≤ n)))))
numbers-say M k n m crew next =
    both_say (eqb k 4) _ (equal-says k 4)
    (both_say (size_ok M n) _ (within-says M.fewest_cells M.most_cells n)
    (both_say (size_ok M m) _ (within-says M.fewest_cells M.most_cells m)
    (both_say (crew_ok M crew) _ (within-says M.fewest_workers M.most_workers crew) (leb-true next n, le-leb next n))))

pub well-formed-says : WellFormedPromise
unfolding is_well_formed
well-formed-says M p =
    let s = both_say (numbers_ok M p.kind p.source p.length p.crew p.next) _
    (numbers-say M p.kind p.source p.length p.crew p.next)
    (carriers-say p.source p.length p.crew 0 p.carriers) in
    let to : is_well_formed M p ≡ true → WellFormed M p = λ e.
    let ((kind, (from, (into, (crew, handed)))), each) = s.0 e in
    record {
      kind = kind;
      from = from;
      to = into;
      crew = crew;
      handed = handed;
      past = λ w l. (each w).0 (omega arith);
      workers = λ w l. (each w).1 (omega arith);
    } in
    (to, λ h. s.1 ((h.kind, (h.from, (h.to, (h.crew, h.handed)))), λ w. (λ l. h.past w (omega arith), λ l. h.workers w (omega arith))))

-- a busy worker of a well-formed migration is below the count
pub busy-below : (M : Model) (p : Migration) → WellFormed M p → (w : ℕ) → at p.carriers w ≢ free → w < p.crew
busy-below M p f w z = by-lt w p.crew (λ l. l) (λ l. absurd (z (f.past w l)))

-- ---- tables all of whose cells are empty
pub all-empty-says : (t : List ℕ) → all_empty t ≡ true ↔ ((j : ℕ) → j < length t → get_or t j 0 ≡ 0)
all-empty-says [] = (λ _ j _. refl, λ _. refl)
all-empty-says (c ∷ cs) =
    let s = both_say (eqb c 0) (all_empty cs) (equal-says c 0) (all-empty-says cs) in
    (λ e. cell (s.0 e), λ h. s.1 (h 0 (omega arith), λ j l. h (suc j) (omega arith)))
  where
    cell : (c ≡ 0) × ((j : ℕ) → j < length cs → get_or cs j 0 ≡ 0) → (j : ℕ) → j < length (c ∷ cs) → get_or (c ∷ cs) j 0 ≡ 0
    cell h zero l = h.0
    cell h (suc j) l = h.1 j (omega arith)

-- some cell isn't
pub some-taken : (t : List ℕ) → all_empty t ≡ false → (j : ℕ) × (j < length t) × (get_or t j 0 ≢ 0)
some-taken [] = λ e. absurd (not_both true refl e)
some-taken (c ∷ cs) = tested (λ b. b ≡ false → (j : ℕ) × (j < length (c ∷ cs)) × (get_or (c ∷ cs) j 0 ≢ 0)) (eqb c 0)
    (λ _ e. let (j, l, z) = some-taken cs e in (suc j, omega arith, z))
    (λ e _. (0, omega arith, eqb-false c 0 e))
