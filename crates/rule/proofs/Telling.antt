-- What a step answers: went on, finished, a price, no, or idle, each with what it says of the worker before and after the step.
use mathlib.Core.Path.{◌≡◌, refl}
use mathlib.Core.Logic.{◌≢◌}
use Prim.Native.Nat.{ℕ, ◌+◌, ◌≤◌}
use native.Mathlib.Omega.{arith}
use lib.Dec.{ltb, eqb}
use borrow.Author.Tests.{eqb-true, eqb-false}
use Rattle.ring.specs.Ring.{prev}
use Rattle.ring.proofs.Tests.{tested}
use Rattle.prices.specs.Contents.{price}
use Rattle.activities.specs.Activities.{busy, entry_of, Suits}
use Rattle.activities.specs.declared.Activity.{Activity}
use Rattle.activities.specs.declared.Activity.TheVariants.{Idle, Reading, Replacing, WalkingBack, SeekingForward, SeekingBack}
use Rattle.rule.specs.Rule.{ends, settled, absorbed, fits, narrow, insert_step, find_step, delete_step, rule}
use Rattle.rule.specs.declared.Answer.{Answer}
use Rattle.rule.specs.declared.Answer.TheVariants.{WentOn, Finished, Price, No}
use Rattle.rule.specs.declared.Answer.TheVariants as answer
use Rattle.rule.specs.declared.Outcome.{Outcome}

-- a worker doing a in a phase of kind k with n cells, where the touched cell holds c: its step has the outcome o
pub data Tells (k n : ℕ) (key : ℕ → ℕ) (a : Activity) (c : ℕ) (o : Outcome) : Type 0 where
  -- an unfinished operation stays unfinished
  on : busy a ≡ 1 → busy o.activity ≡ 1 → o.answer ≡ WentOn → Tells k n key a c o
  -- or is finished: in a find phase with the cell's price if the cell holds the key, else with no
  done : k ≢ 3 → busy a ≡ 1 → busy o.activity ≡ 0 → o.answer ≡ Finished → Tells k n key a c o
  found : (p : ℕ) → k ≢ 1 → k ≢ 2 → busy a ≡ 1 → busy o.activity ≡ 0 → o.answer ≡ Price p → price c ≡ p → key c ≡ key (entry_of a) → Tells k n key a c o
  missed : k ≢ 1 → k ≢ 2 → busy a ≡ 1 → busy o.activity ≡ 0 → o.answer ≡ No → key c ≢ key (entry_of a) → Tells k n key a c o
  -- an idle worker, or an activity that the kind lacks
  still : (1 ≤ k → k ≤ 3 → Suits k n key a → a ≡ Idle) → o.activity ≡ a → o.answer ≡ answer.Idle → Tells k n key a c o

module _ (k n : ℕ) (key home : ℕ → ℕ) where
  insert-tells : k ≡ 1 → (a : Activity) (c : ℕ) → Tells k n key a c (insert_step n key home a c)
  unfolding insert_step
  insert-tells is Idle c = still (λ _ _ _. refl) refl refl
  insert-tells is (Reading v i) c = let P : Outcome → Type 0 = Tells k n key (Reading v i) c in
      tested P (ltb (key v) (key c)) (λ _. on refl refl refl)
      (λ _. tested P (settled key v c) (λ _. done (λ z. omega arith) refl refl refl) (λ _. on refl refl refl))
  insert-tells is (Replacing v i j x) c = let P : Outcome → Type 0 = Tells k n key (Replacing v i j x) c in
      tested P (eqb c x) (λ _. tested P (absorbed key v x) (λ _. done (λ z. omega arith) refl refl refl) (λ _. on refl refl refl))
      (λ _. on refl refl refl)
  insert-tells is (WalkingBack v i) c = still (λ _ _ h. absurd (omega (arith, h.0))) refl refl
  insert-tells is (SeekingForward v i j) c = still (λ _ _ h. absurd (omega (arith, h.0))) refl refl
  insert-tells is (SeekingBack p v i j x) c = still (λ _ _ h. absurd (omega (arith, h.0))) refl refl

  find-tells : k ≢ 1 → k ≢ 2 → (a : Activity) (c : ℕ) → Tells k n key a c (find_step n key home a c)
  unfolding find_step
  find-tells n1 n2 Idle c = still (λ _ _ _. refl) refl refl
  find-tells n1 n2 (Reading v i) c =
      tested (Tells k n key (Reading v i) c) (ltb (key v) (key c)) (λ _. on refl refl refl)
      (λ _. tested (λ r. Tells k n key (Reading v i) c (ends r c)) (eqb (key c) (key v)) (λ e. found (price c) n1 n2 refl refl refl refl (eqb-true (key c) (key v) e))
      (λ e. missed n1 n2 refl refl refl (eqb-false (key c) (key v) e)))
  find-tells n1 n2 (Replacing v i j x) c = still (λ l g h. absurd (h.0 (omega arith))) refl refl
  find-tells n1 n2 (WalkingBack v i) c = still (λ _ _ h. absurd (omega (arith, h.0))) refl refl
  find-tells n1 n2 (SeekingForward v i j) c = still (λ _ _ h. absurd (omega (arith, h.0))) refl refl
  find-tells n1 n2 (SeekingBack p v i j x) c = still (λ _ _ h. absurd (omega (arith, h.0))) refl refl

  narrow-busy : (v i j x p : ℕ) → busy (narrow n key home v i j x p) ≡ 1
  unfolding narrow
  narrow-busy v i j x p = tested (λ a. busy a ≡ 1) (eqb p i) (λ _. refl) (λ _. refl)

  delete-tells : k ≡ 2 → (a : Activity) (c : ℕ) → Tells k n key a c (delete_step n key home a c)
  unfolding delete_step
  delete-tells is Idle c = still (λ _ _ _. refl) refl refl
  delete-tells is (Reading v i) c = tested (Tells k n key (Reading v i) c) (ltb (key v) (key c)) (λ _. on refl refl refl) (λ _. on refl refl refl)
  delete-tells is (WalkingBack v i) c = let P : Outcome → Type 0 = Tells k n key (WalkingBack v i) c in
      tested P (eqb (key c) (key v)) (λ _. on refl refl refl)
      (λ _. tested P (eqb i (home (key v))) (λ _. done (λ z. omega arith) refl refl refl) (λ _. on refl refl refl))
  delete-tells is (SeekingForward v i j) c =
      tested (Tells k n key (SeekingForward v i j) c) (fits n key home c j i) (λ _. on refl (narrow-busy v i j c (prev n j)) refl) (λ _. on refl refl refl)
  delete-tells is (SeekingBack p v i j x) c =
      tested (Tells k n key (SeekingBack p v i j x) c) (fits n key home c p i) (λ _. on refl (narrow-busy v i p c (prev n p)) refl)
      (λ _. on refl (narrow-busy v i j x (prev n p)) refl)
  delete-tells is (Replacing v i j x) c = let P : Outcome → Type 0 = Tells k n key (Replacing v i j x) c in
      tested P (eqb c v) (λ _. tested P (eqb (key x) 0) (λ _. done (λ z. omega arith) refl refl refl) (λ _. on refl refl refl))
      (λ _. on refl refl refl)

  pub rule-tells : (a : Activity) (c : ℕ) → Tells k n key a c (rule k n key home a c)
  unfolding rule
  rule-tells a c =
      tested (Tells k n key a c) (eqb k 1) (λ e. insert-tells (eqb-true k 1 e) a c)
      (λ e. tested (Tells k n key a c) (eqb k 2) (λ f. delete-tells (eqb-true k 2 f) a c) (λ f. find-tells (eqb-false k 1 e) (eqb-false k 2 f) a c))

-- ---- an answer is final exactly if a busy worker is idle after the step
-- 1 if the answer says that the operation is finished, else 0
abbrev pub final : Answer → ℕ
final WentOn = 0
final Finished = 1
final (Price p) = 1
final No = 1
final answer.Idle = 0

is-settled : {k n : ℕ} {key : ℕ → ℕ} {a : Activity} {c : ℕ} {o : Outcome} → Tells k n key a c o → busy o.activity + final o.answer ≡ busy a
is-settled (on b d r) = rw r (omega arith)
is-settled (done _ b d r) = rw r (omega arith)
is-settled (found _ _ _ b d r _ _) = rw r (omega arith)
is-settled (missed _ _ b d r _) = rw r (omega arith)
is-settled (still _ e r) = rw (e, r) (omega arith)

pub settles : (k n : ℕ) (key home : ℕ → ℕ) (a : Activity) (c : ℕ) → busy (rule k n key home a c).activity + final (rule k n key home a c).answer ≡ busy a
settles k n key home a c = is-settled (rule-tells k n key home a c)
