-- Every counted step lowers the potential of an insert phase, and an operation raises it by a fixed amount: so the steps of a list of events are bounded.
-- The cells are counted from behind a cell e that has no label at the end of the list, and so at all times before.
use mathlib.Core.Path.{◌≡◌, refl, sym, ap, ◌∙◌}
use mathlib.Core.Logic.{◌≢◌, ⊎_elim}
use mathlib.Core.Bool.{cond}
use mathlib.Core.List.{List}
use Prim.Native.Nat.{ℕ, suc, ◌+◌, ◌-◌, ◌*◌, ◌≤◌, ◌<◌}
use native.Mathlib.Nat.{mul-suc, mul-le-mul_left}
use native.Mathlib.Omega.{arith}
use lib.Dec.{eqb}
use lib.ListN.{length, get_or, set, replicate}
use lib.Seq.{get_or-set_same, set-get_or}
use borrow.Author.Tests.{eq-eqb, ne_eqb}
use Rattle.ring.specs.Counting.{over}
use Rattle.ring.specs.Ring.{next}
use Rattle.ring.proofs.Counting.{tally-up, tally-max}
use Rattle.ring.proofs.Line.{position, line}
use Rattle.ring.proofs.Split.{by-eq}
use Rattle.layout.proofs.Path.{On}
use Rattle.prices.specs.Priced.{labels}
use Rattle.activities.specs.declared.Activity.{Activity}
use Rattle.activities.specs.declared.Activity.TheVariants.{Idle, Reading, Replacing, WalkingBack, SeekingForward, SeekingBack}
use Rattle.rule.specs.declared.Answer.{Answer}
use Rattle.rule.specs.declared.Answer.TheVariants.{WentOn, Finished}
use Rattle.rule.specs.declared.Answer.TheVariants as answer
use Rattle.rule.specs.declared.Outcome.{Outcome}
use Rattle.rule.specs.Rule.{goes, ends, insert_step, rule, start}
use Rattle.activities.specs.Activities.{busy}
use Rattle.rule.specs.Events.{Run, worker, ordered}
use Rattle.phases.proofs.Crew.{opening-sum, moved_sum}
use Rattle.phases.proofs.Steps.{cell_of, moved}
use Rattle.insert.proofs.Cases.{Yields, reading-by, replacing-by}
use Rattle.insert.proofs.Invariant.{Shape, Fair}

-- ---- a replacing worker's last part: its replace step, after one that fails also the step that reads the cell again
stage : List ℕ → ℕ → ℕ → ℕ
stage t i x = cond (eqb (get_or t i 0) x) 1 3

stage-fresh : (t : List ℕ) (i x : ℕ) → get_or t i 0 ≡ x → stage t i x ≡ 1
unfolding stage
stage-fresh t i x z = rw (eq-eqb (get_or t i 0) x z)

stage-stale : (t : List ℕ) (i x : ℕ) → (get_or t i 0 ≡ x → ⊥) → stage t i x ≡ 3
unfolding stage
stage-stale t i x z = rw (ne_eqb (get_or t i 0) x z)

stage-low : (t : List ℕ) (i x : ℕ) → (1 ≤ stage t i x) × (stage t i x ≤ 3)
stage-low t i x = by-eq (get_or t i 0) x (λ z. omega (arith, stage-fresh t i x z)) (λ z. omega (arith, stage-stale t i x z))

one_less : (W m k : ℕ) → suc k ≡ m → W * k + W ≡ W * m
one_less W m k z = rw (← z, mul-suc W k)

module _ (n W : ℕ) (key home : ℕ → ℕ) (e : ℕ) (en : e < n) where
  -- ---- each cell up to e is worth W successes of others
  height : ℕ → ℕ
  height i = W * (n - 1 - position n e i)

  height-next : (i : ℕ) → i < n → i ≢ e → height (next n i) + W ≡ height i
  unfolding height
  height-next i i_n ne =
      let l = line n e en in
      one_less W (n - 1 - position n e i) (n - 1 - position n e (next n i)) (omega (arith, l.after i i_n ne, l.low (next n i) (l.next-in i i_n)))

  height-le : (i : ℕ) → height i ≤ W * (n - 1)
  unfolding height
  height-le i = mul-le-mul_left W (omega arith)

  abbrev weight : List ℕ → Activity → ℕ
  weight t Idle = 0
  weight t (Reading v i) = 2 * height i + 2
  weight t (Replacing v i j x) = 2 * height i + stage t i x
  weight t (WalkingBack v k) = 0
  weight t (SeekingForward v k j) = 0
  weight t (SeekingBack p v k j x) = 0

  -- whatever is written, a worker's weight rises by 2 at most
  weight-up : (t u : List ℕ) (a : Activity) → weight u a ≤ weight t a + 2
  weight-up t u Idle = omega arith
  weight-up t u (Reading v i) = omega arith
  weight-up t u (Replacing v i j x) = omega (arith, stage-low t i x, stage-low u i x)
  weight-up t u (WalkingBack v k) = omega arith
  weight-up t u (SeekingForward v k j) = omega arith
  weight-up t u (SeekingBack p v k j x) = omega arith

  pub potential : List ℕ → List Activity → ℕ
  potential t ws = over (λ _ a. weight t a) Idle W ws

  pub opening-potential : (t : List ℕ) → potential t (replicate W Idle) ≡ 0
  unfolding potential
  opening-potential t = opening-sum (weight t) W refl

  -- no potential is greater than this
  weight-le : (t : List ℕ) (a : Activity) → weight t a ≤ 2 * (W * (n - 1)) + 3
  weight-le t Idle = omega arith
  weight-le t (Reading v i) = omega (arith, height-le i)
  weight-le t (Replacing v i j x) = omega (arith, height-le i, stage-low t i x)
  weight-le t (WalkingBack v k) = omega arith
  weight-le t (SeekingForward v k j) = omega arith
  weight-le t (SeekingBack p v k j x) = omega arith

  pub potential-most : (t : List ℕ) (ws : List Activity) → potential t ws ≤ W * (2 * (W * (n - 1)) + 3)
  unfolding potential
  potential-most t ws = tally-max (λ w. weight t (get_or ws w Idle)) W (2 * (W * (n - 1)) + 3) (λ w _. weight-le t (get_or ws w Idle))

  -- ---- worker w moves
  module _ (t : List ℕ) (ws : List Activity) (crew : length ws ≡ W) (w : ℕ) (wl : w < length ws) where
    moves : (u : List ℕ) (b : Activity) → potential u (set ws w b) + weight u (get_or ws w Idle) ≡ potential u ws + weight u b
    unfolding potential
    moves u b = moved_sum (weight u) W ws w b crew wl

    rises : (u : List ℕ) → potential u ws ≤ potential t ws + W * 2
    unfolding potential
    rises u = tally-up (λ v. weight t (get_or ws v Idle)) (λ v. weight u (get_or ws v Idle)) W 2 (λ v _. weight-up t u (get_or ws v Idle))

    -- if e has no label after the step
    abbrev Pays : Activity → Outcome → Type 0
    Pays a o = key (get_or (set t (cell_of a) o.content) e 0) ≡ 0 → busy a + potential (set t (cell_of a) o.content) (set ws w o.activity) ≤ potential t ws

    quiet : (a b : Activity) (r : Answer) → get_or ws w Idle ≡ a → (key (get_or t e 0) ≡ 0 → busy a + weight t b ≤ weight t a)
        → Pays a (record { activity = b; content = get_or t (cell_of a) 0; answer = r })
    quiet a b r is less = rw (set-get_or t (cell_of a) 0) (λ z. omega (arith, moves t b, ap (weight t) is, less z))

    -- a cell that has a label is not e
    other : (u : List ℕ) (i : ℕ) → key (get_or u e 0) ≡ 0 → key (get_or u i 0) ≢ 0 → i ≢ e
    other u i z nz y = nz (rw y z)

    module _ (v i : ℕ) (is : get_or ws w Idle ≡ Reading v i) (o : On n home (labels key t) (key v) i) where
      reads_on : key v < key (get_or t i 0) → Pays (Reading v i) (goes (Reading v (next n i)) (get_or t i 0))
      reads_on l = quiet (Reading v i) (Reading v (next n i)) WentOn is (λ z. omega (arith, height-next i o.inside (other t i z (omega arith))))

      finishes : Pays (Reading v i) (ends Finished (get_or t i 0))
      finishes = quiet (Reading v i) Idle Finished is (λ _. omega arith)

      sees : Pays (Reading v i) (goes (Replacing v i i (get_or t i 0)) (get_or t i 0))
      sees = quiet (Reading v i) (Replacing v i i (get_or t i 0)) WentOn is (λ _. omega (arith, stage-fresh t i (get_or t i 0) refl))

    module _ (v i j x : ℕ) (is : get_or ws w Idle ≡ Replacing v i j x) (o : On n home (labels key t) (key v) i) (less : Yields key v x) (size : length t ≡ n) where
      fails : (get_or t i 0 ≡ x → ⊥) → Pays (Replacing v i j x) (goes (Reading v i) (get_or t i 0))
      fails ne = quiet (Replacing v i j x) (Reading v i) WentOn is (λ _. omega (arith, stage-stale t i x ne))

      abbrev u : List ℕ
      u = set t i v

      new : get_or u i 0 ≡ v
      new = get_or-set_same t i v 0 (omega (arith, o.inside))

      -- the cell does not hold x any more
      changed : get_or u i 0 ≡ x → ⊥
      changed y = let z : v ≡ x = sym new ∙ y in ⊎_elim (λ l. omega (arith, ap key z)) (λ (_, l). omega arith) less

      -- the replace may make every worker's last part longer by 2: so much is this worker's cell worth, and it is one cell further or idle now
      writes : (b : Activity) (r : Answer) → weight u b ≤ 2 * height (next n i) + 2 → Pays (Replacing v i j x) (record { activity = b; content = v; answer = r })
      writes b r le z = omega (
        arith,
        moves u b,
        ap (weight u) is,
        rises u,
        stage-stale u i x changed,
        height-next i o.inside (other u i z (λ y. o.key (sym (ap key new) ∙ y))),
      )

    by-activity : (a : Activity) → get_or ws w Idle ≡ a → length t ≡ n → Shape n key home t a → Pays a (rule 1 n key home a (get_or t (cell_of a) 0))
    unfolding rule insert_step
    by-activity Idle is size sh = quiet Idle Idle answer.Idle is (λ _. omega arith)
    by-activity (Reading v i) is size o =
        reading-by n key home (Pays (Reading v i)) v i (get_or t i 0) (reads_on v i is o) (λ _ _. finishes v i is o) (λ _. sees v i is o)
    by-activity (Replacing v i j x) is size (o, jn, l) =
        replacing-by n key home (Pays (Replacing v i j x)) v i j x (get_or t i 0)
        (λ _ _. writes v i j x is o l size Idle Finished (omega arith)) (λ _ _ _ _. writes v i j x is o l size Idle Finished (omega arith))
        (λ _ _ _. writes v i j x is o l size (Reading x (next n i)) WentOn (omega arith)) (fails v i j x is o l size)
    by-activity (WalkingBack v k) is size sh = absurd sh
    by-activity (SeekingForward v k j) is size sh = absurd sh
    by-activity (SeekingBack p v k j x) is size sh = absurd sh

  -- ---- an event
  module _ (s : Run) (crew : length s.workers ≡ W) (w : ℕ) (wl : w < length s.workers) where
    pub order-pays : (v : ℕ) → worker s w ≡ Idle
        → potential (ordered 1 n key home s w v).table (ordered 1 n key home s w v).workers ≤ potential s.table s.workers + (2 * (W * (n - 1)) + 2)
    unfolding ordered
    order-pays v is = omega (arith, moves s.table s.workers crew w wl s.table (start key home v), ap (weight s.table) is, height-le (home (key v)))

    pub step-pays : (t : List ℕ) → Fair n W key home t s → key (get_or (moved 1 n key home s w).table e 0) ≡ 0
        → busy (worker s w) + potential (moved 1 n key home s w).table (moved 1 n key home s w).workers ≤ potential s.table s.workers
    unfolding moved
    step-pays t fair = by-activity s.table s.workers crew w wl (worker s w) refl fair.sized (fair.shape w)
