-- One step of a worker, of any kind of phase: the state after it in one form, what it goes by, and what it leaves alone.
use Rattle.std.specs.Prelude.{Option, ℕ, Some, None}
use mathlib.Core.Path.{◌≡◌, refl, sym, ap, ap₂, ◌∙◌}
use mathlib.Core.Bool.{Bool, true, false, cond}
use mathlib.Core.List.{◌++◌}
use Prim.Native.Nat.{ℕ, ◌+◌, ◌<◌}
use native.Mathlib.Nat.{zero-add}
use native.Mathlib.Omega.{arith}
use lib.Dec.{ltb, eqb}
use lib.ListN.{length, get_or, set, length-set}
use lib.Seq.{get_or-set_same, get_or-set_other, set-get_or}
use borrow.Author.Tests.{lt-ltb, le-ltb, eq-eqb, ne_eqb}
use Rattle.ring.proofs.Split.{by-tri}
use Rattle.activities.specs.declared.Activity.{Activity}
use Rattle.activities.specs.declared.Activity.TheVariants.{Idle, Reading, Replacing, WalkingBack, SeekingForward, SeekingBack}
use Rattle.rule.specs.declared.Outcome.{Outcome}
use Rattle.rule.specs.Rule.{touched, unmoved, insert_step, find_step, delete_step, rule}
use Rattle.rule.specs.Events.{Run, worker, tells, stepped_at, stepped}
use Rattle.activities.specs.Activities.{busy, entry_of}
use Rattle.phases.specs.Promise.{AlikePromise, OthersKept, OthersPromise}

-- what holds of both outcomes of a test
pub either {ℓ} : {A : Type 0} (P : A → Type ℓ) (b : Bool) {x y : A} → P x → P y → P (cond b x y)
either P true p q = p
either P false p q = q

-- what a worker on key v may see in a cell: a greater key, its own, or a smaller one or 0
pub by-content {ℓ} : {C : Type ℓ} (v c : ℕ) → (v < c → ltb v c ≡ true → C) → (c ≡ v → ltb v c ≡ false → eqb c v ≡ true → C)
    → (c < v → ltb v c ≡ false → eqb c v ≡ false → C) → C
by-content v c f g h = by-tri c v (λ l. h l (le-ltb v c (omega arith)) (ne_eqb c v (omega arith))) (λ z. g z (le-ltb v c (omega arith)) (eq-eqb c v z)) (λ l. f l (lt-ltb v c l))

-- what holds of the step of each kind holds of the rule
pub by_kind : (P : Outcome → Type 0) (k n : ℕ) (key home : ℕ → ℕ) (a : Activity) (c : ℕ)
    → P (insert_step n key home a c) → P (delete_step n key home a c) → P (find_step n key home a c) → P (rule k n key home a c)
unfolding rule
by_kind P k n key home a c i d f = either P (eqb k 1) i (either P (eqb k 2) d f)

-- ---- the state after a step in one form: an idle worker's step is one that leaves cell 0 as it is
abbrev pub cell_of : Activity → ℕ
cell_of Idle = 0
cell_of (Reading v i) = i
cell_of (Replacing v k j x) = k
cell_of (WalkingBack v k) = k
cell_of (SeekingForward v k j) = j
cell_of (SeekingBack p v k j x) = p

-- worker w, whose activity was a, after a step with the outcome o
abbrev pub moved_to : Run → ℕ → Activity → Outcome → Run
moved_to s w a o = record {
  table = set s.table (cell_of a) o.content;
  workers = set s.workers w o.activity;
  ordered = s.ordered;
  said = tells (entry_of a) o.answer ++ s.said;
  counted = busy a + s.counted;
}

module _ (k n : ℕ) (key home : ℕ → ℕ) where
  idle-unmoved : (c : ℕ) → rule k n key home Idle c ≡ unmoved Idle c
  unfolding insert_step delete_step find_step
  idle-unmoved c = by_kind (λ o. o ≡ unmoved Idle c) k n key home Idle c refl refl refl

  unfoldable pub moved : Run → ℕ → Run
  moved s w = moved_to s w (worker s w) (rule k n key home (worker s w) (get_or s.table (cell_of (worker s w)) 0))

  pub stepped-moved : (s : Run) (w : ℕ) → stepped k n key home s w ≡ moved s w
  unfolding stepped moved
  stepped-moved s w = by (worker s w) refl
    where
      stays : worker s w ≡ Idle → set s.workers w Idle ≡ s.workers
      stays is = ap (set s.workers w) (sym is) ∙ set-get_or s.workers w Idle

      by : (a : Activity) → worker s w ≡ a → stepped k n key home s w ≡ moved s w
      by Idle is = rw (is, idle-unmoved, set-get_or s.table 0 0, stays is, zero-add)
      by (Reading v i) is = rw is
      by (Replacing v k j x) is = rw is
      by (WalkingBack v k) is = rw is
      by (SeekingForward v k j) is = rw is
      by (SeekingBack p v k j x) is = rw is

  -- a busy worker's step counts one, an idle worker's none
  pub stepped-counted : (s : Run) (w : ℕ) → (stepped k n key home s w).counted ≡ busy (worker s w) + s.counted
  unfolding moved
  stepped-counted s w = ap (λ (r : Run). r.counted) (stepped-moved s w)

-- ---- two steps with the same activity and the same content of the touched cell
pub alike : AlikePromise
unfolding stepped
alike k n key home s r w u same held =
    record {
      answers = λ c is. ap₂ (λ (a : Activity) (x : ℕ). (rule k n key home a x).answer) same (held c is);
      records = λ wl ul. rw (← same) (by (touched (worker s w)) refl wl ul);
      cells = λ c is cs cr. rw (← same, is) (
          get_or-set_same s.table c _ 0 cs ∙ ap (λ (x : ℕ). (rule k n key home (worker s w) x).content) (held c is) ∙ sym (get_or-set_same r.table c _ 0 cr)
          );
    }
  where
    by : (p : Option ℕ) → touched (worker s w) ≡ p → w < length s.workers → u < length r.workers
        → worker (stepped_at k n key home s w (worker s w) p) w ≡ worker (stepped_at k n key home r u (worker s w) p) u
    by None is wl ul = same
    by (Some c) is wl ul = get_or-set_same s.workers w _ Idle wl
        ∙ ap (λ (x : ℕ). (rule k n key home (worker s w) x).activity) (held c is) ∙ sym (get_or-set_same r.workers u _ Idle ul)

-- ---- what a step leaves alone
pub others : OthersPromise
unfolding stepped
others k n key home s w = by (touched (worker s w)) refl
  where
    by : (p : Option ℕ) → touched (worker s w) ≡ p → OthersKept k n key home s w
    by None is = record { cells = λ c ne. rw is; workers = λ u ne. rw is; sized = rw is }
    by (Some d) is =
        record {
          cells = λ c ne. rw is (get_or-set_other s.table d c _ 0 (λ e. ne (is ∙ ap Some (sym e))));
          workers = λ u ne. rw is (get_or-set_other s.workers w u _ Idle ne);
          sized = rw is (length-set s.table d _);
        }
