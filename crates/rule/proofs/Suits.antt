-- The cell that a step touches, and what a step makes of an activity that a worker may have: another such activity, whatever the cell holds.
use Rattle.std.specs.Prelude.{Some, None}
use mathlib.Core.Path.{◌≡◌, refl, sym, ◌∙◌}
use mathlib.Core.Logic.{◌≢◌}
use mathlib.Core.Bool.{false, true}
use Prim.Native.Nat.{ℕ, ◌<◌}
use native.Mathlib.Omega.{arith}
use lib.Dec.{ltb, eqb}
use borrow.Author.Tests.{eqb-true, eqb-false, eq-eqb}
use Rattle.ring.proofs.Ring.{next-in, prev-fact}
use Rattle.ring.proofs.Tests.{tested, not_both}
use Rattle.activities.specs.Activities.{cells_of, Below, Suits}
use Rattle.activities.specs.declared.Activity.{Activity}
use Rattle.activities.specs.declared.Activity.TheVariants.{Idle, Reading, Replacing, WalkingBack, SeekingForward, SeekingBack}
use Rattle.rule.specs.Rule.{touched, settled, absorbed, fits, narrow, insert_step, find_step, delete_step, rule}
use Rattle.rule.specs.declared.Outcome.{Outcome}

-- ---- the touched cell is one of the activity's
pub touched-below : (n : ℕ) (a : Activity) (c : ℕ) → Below n (cells_of a) → touched a ≡ Some c → c < n
touched-below n Idle c w e = let z : ◌≡◌ {A = ℕ} 0 1 = cc in omega arith
touched-below n (Reading v d) c w e = let z : d ≡ c = cc in omega arith
touched-below n (Replacing v d j x) c w e = let z : d ≡ c = cc in omega arith
touched-below n (WalkingBack v d) c w e = let z : d ≡ c = cc in omega arith
touched-below n (SeekingForward v d j) c w e = let z : j ≡ c = cc in omega arith
touched-below n (SeekingBack p v d j x) c w e = let z : p ≡ c = cc in omega arith

-- a worker that touches nothing is idle
pub nowhere-idle : (a : Activity) → touched a ≡ None → a ≡ Idle
nowhere-idle Idle e = refl
nowhere-idle (Reading v i) e = cc
nowhere-idle (Replacing v k j x) e = cc
nowhere-idle (WalkingBack v k) e = cc
nowhere-idle (SeekingForward v k j) e = cc
nowhere-idle (SeekingBack p v k j x) e = cc

-- ---- a step
module _ (k n : ℕ) (key home : ℕ → ℕ) where
  -- what is to be shown of an outcome
  abbrev Fits : Outcome → Type 0
  Fits o = Suits k n key o.activity

  -- what is carried on has a key
  not-absorbed : (v x : ℕ) → absorbed key v x ≡ false → key x ≢ 0
  unfolding absorbed
  not-absorbed v x e z = not_both true refl (rw (eq-eqb (key x) 0 z) at e)

  insert-suits : k ≢ 3 → (a : Activity) (c : ℕ) → Suits k n key a → Fits (insert_step n key home a c)
  unfolding insert_step
  insert-suits ne Idle c h = tt
  insert-suits ne (Reading v i) c h =
      tested Fits (ltb (key v) (key c)) (λ _. (h.0, next-in n i h.1)) (λ _. tested Fits (settled key v c) (λ _. tt) (λ _. (ne, h.0, h.1, h.1)))
  insert-suits ne (Replacing v i j x) c h =
      tested Fits (eqb c x)
      (λ _. tested Fits (absorbed key v x) (λ _. tt) (λ e. (not-absorbed v x e, next-in n i h.2))) (λ _. (h.1, h.2))
  insert-suits ne (WalkingBack v i) c h = h
  insert-suits ne (SeekingForward v i j) c h = h
  insert-suits ne (SeekingBack p v i j x) c h = h

  find-suits : (a : Activity) (c : ℕ) → Suits k n key a → Fits (find_step n key home a c)
  unfolding find_step
  find-suits Idle c h = tt
  find-suits (Reading v i) c h = tested Fits (ltb (key v) (key c)) (λ _. (h.0, next-in n i h.1)) (λ _. tt)
  find-suits (Replacing v i j x) c h = h
  find-suits (WalkingBack v i) c h = h
  find-suits (SeekingForward v i j) c h = h
  find-suits (SeekingBack p v i j x) c h = h

  module _ (is : k ≡ 2) where
    narrow-suits : (v i j x p : ℕ) → key v ≢ 0 → i < n → j < n → p < n → Suits k n key (narrow n key home v i j x p)
    unfolding narrow
    narrow-suits v i j x p kv a b l = tested (Suits k n key) (eqb p i) (λ _. (λ z. omega arith, kv, a, b)) (λ _. (is, kv, a, b, l))

    delete-suits : (a : Activity) (c : ℕ) → Suits k n key a → Fits (delete_step n key home a c)
    unfolding delete_step
    delete-suits Idle c h = tt
    delete-suits (Reading v i) c h = tested Fits (ltb (key v) (key c)) (λ _. (h.0, next-in n i h.1)) (λ _. (is, h.0, h.1))
    delete-suits (Replacing v i j x) c h =
        tested Fits (eqb c v) (λ _. tested Fits (eqb (key x) 0) (λ _. tt) (λ e. (is, eqb-false (key x) 0 e, h.3))) (λ _. (is, h.1, h.2))
    delete-suits (WalkingBack v i) c h =
        tested Fits (eqb (key c) (key v)) (λ e. (is, λ z. h.1 (sym (eqb-true (key c) (key v) e) ∙ z), h.2, next-in n i h.2))
        (λ _. tested Fits (eqb i (home (key v))) (λ _. tt) (λ _. (is, h.1, (prev-fact n i h.2).0)))
    delete-suits (SeekingForward v i j) c h =
        tested Fits (fits n key home c j i) (λ _. narrow-suits v i j c _ h.1 h.2 h.3 (prev-fact n j h.3).0)
        (λ _. (is, h.1, h.2, next-in n j h.3))
    delete-suits (SeekingBack p v i j x) c h =
        tested Fits (fits n key home c p i) (λ _. narrow-suits v i p c _ h.1 h.2 h.4 (prev-fact n p h.4).0)
        (λ _. narrow-suits v i j x _ h.1 h.2 h.3 (prev-fact n p h.4).0)

  pub rule-suits : (a : Activity) (c : ℕ) → Suits k n key a → Fits (rule k n key home a c)
  unfolding rule
  rule-suits a c h =
      tested Fits (eqb k 1) (λ e. insert-suits (λ z. omega (arith, eqb-true k 1 e)) a c h)
      (λ _. tested Fits (eqb k 2) (λ e. delete-suits (eqb-true k 2 e) a c h) (λ _. find-suits a c h))
