-- When a step changes the cell that it touches: a replace step that finds there what it read before.
use mathlib.Core.Path.{◌≡◌, refl}
use mathlib.Core.Logic.{◌≢◌}
use Prim.Native.Nat.{ℕ}
use lib.Dec.{ltb, eqb}
use borrow.Author.Tests.{eqb-true, eqb-false, eq-eqb, ne_eqb}
use Rattle.ring.proofs.Tests.{tested}
use Rattle.activities.specs.declared.Activity.{Activity}
use Rattle.activities.specs.declared.Activity.TheVariants.{Idle, Reading, Replacing, WalkingBack, SeekingForward, SeekingBack}
use Rattle.rule.specs.Rule.{settled, absorbed, fits, insert_step, find_step, delete_step, rule}
use Rattle.rule.specs.declared.Outcome.{Outcome}

-- a worker doing a in a phase of kind k, where the touched cell holds c: its step has the outcome o
pub data Writes (k : ℕ) (key : ℕ → ℕ) (a : Activity) (c : ℕ) (o : Outcome) : Type 0 where
  kept : o.content ≡ c → Writes k key a c o
  inserted : (v i j x : ℕ) → a ≡ Replacing v i j x → k ≡ 1 → c ≡ x → o.content ≡ v → Writes k key a c o
  deleted : (v i j x : ℕ) → a ≡ Replacing v i j x → k ≡ 2 → c ≡ v → key x ≢ 0 → o.content ≡ x → Writes k key a c o
  -- a content without a key is copied as 0
  emptied : (v i j x : ℕ) → a ≡ Replacing v i j x → k ≡ 2 → c ≡ v → key x ≡ 0 → o.content ≡ 0 → Writes k key a c o

module _ (k n : ℕ) (key home : ℕ → ℕ) where
  insert-writes : k ≡ 1 → (a : Activity) (c : ℕ) → Writes k key a c (insert_step n key home a c)
  unfolding insert_step
  insert-writes is Idle c = kept refl
  insert-writes is (Reading v i) c = let P : Outcome → Type 0 = Writes k key (Reading v i) c in
      tested P (ltb (key v) (key c)) (λ _. kept refl) (λ _. tested P (settled key v c) (λ _. kept refl) (λ _. kept refl))
  insert-writes is (Replacing v i j x) c = let P : Outcome → Type 0 = Writes k key (Replacing v i j x) c in
      tested P (eqb c x)
      (λ e. let z = eqb-true c x e in tested P (absorbed key v x) (λ _. inserted v i j x refl is z refl) (λ _. inserted v i j x refl is z refl))
      (λ _. kept refl)
  insert-writes is (WalkingBack v i) c = kept refl
  insert-writes is (SeekingForward v i j) c = kept refl
  insert-writes is (SeekingBack p v i j x) c = kept refl

  find-writes : (a : Activity) (c : ℕ) → Writes k key a c (find_step n key home a c)
  unfolding find_step
  find-writes Idle c = kept refl
  find-writes (Reading v i) c = tested (Writes k key (Reading v i) c) (ltb (key v) (key c)) (λ _. kept refl) (λ _. kept refl)
  find-writes (Replacing v i j x) c = kept refl
  find-writes (WalkingBack v i) c = kept refl
  find-writes (SeekingForward v i j) c = kept refl
  find-writes (SeekingBack p v i j x) c = kept refl

  delete-writes : k ≡ 2 → (a : Activity) (c : ℕ) → Writes k key a c (delete_step n key home a c)
  unfolding delete_step
  delete-writes is Idle c = kept refl
  delete-writes is (Reading v i) c = tested (Writes k key (Reading v i) c) (ltb (key v) (key c)) (λ _. kept refl) (λ _. kept refl)
  delete-writes is (WalkingBack v i) c = let P : Outcome → Type 0 = Writes k key (WalkingBack v i) c in
      tested P (eqb (key c) (key v)) (λ _. kept refl) (λ _. tested P (eqb i (home (key v))) (λ _. kept refl) (λ _. kept refl))
  delete-writes is (SeekingForward v i j) c = tested (Writes k key (SeekingForward v i j) c) (fits n key home c j i) (λ _. kept refl) (λ _. kept refl)
  delete-writes is (SeekingBack p v i j x) c = tested (Writes k key (SeekingBack p v i j x) c) (fits n key home c p i) (λ _. kept refl) (λ _. kept refl)
  delete-writes is (Replacing v i j x) c = let P : Outcome → Type 0 = Writes k key (Replacing v i j x) c in
      tested P (eqb c v)
      (λ e. let z = eqb-true c v e in tested P (eqb (key x) 0) (λ f. emptied v i j x refl is z (eqb-true (key x) 0 f) refl) (λ f. deleted v i j x refl is z (eqb-false (key x) 0 f) refl))
      (λ _. kept refl)

  pub rule-writes : (a : Activity) (c : ℕ) → Writes k key a c (rule k n key home a c)
  unfolding rule
  rule-writes a c =
      tested (Writes k key a c) (eqb k 1) (λ e. insert-writes (eqb-true k 1 e) a c)
      (λ _. tested (Writes k key a c) (eqb k 2) (λ e. delete-writes (eqb-true k 2 e) a c) (λ _. find-writes a c))

  -- ---- a replace step that finds what it read before writes
  module _ (v i j x c : ℕ) where
    pub insert-replaces : k ≡ 1 → c ≡ x → (rule k n key home (Replacing v i j x) c).content ≡ v
    unfolding rule insert_step
    insert-replaces is e = rw (is, eq-eqb c x e) (tested (λ (o : Outcome). o.content ≡ v) (absorbed key v x) (λ _. refl) (λ _. refl))

    pub delete-replaces : k ≡ 2 → c ≡ v → key x ≢ 0 → (rule k n key home (Replacing v i j x) c).content ≡ x
    unfolding rule delete_step
    delete-replaces is e nz = rw (is, eq-eqb c v e, ne_eqb (key x) 0 nz)

    pub delete-empties : k ≡ 2 → c ≡ v → key x ≡ 0 → (rule k n key home (Replacing v i j x) c).content ≡ 0
    unfolding rule delete_step
    delete-empties is e z = rw (is, eq-eqb c v e, eq-eqb (key x) 0 z)
