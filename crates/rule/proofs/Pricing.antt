-- The rule does with labels and prices what its sentences say.
use mathlib.Core.Path.{◌≡◌, refl, sym, ◌∙◌}
use mathlib.Core.Bool.{Bool, cond}
use Prim.Native.Nat.{ℕ, ◌<◌}
use native.Mathlib.Omega.{arith}
use lib.Dec.{eqb}
use borrow.Author.Tests.{lt-leb, le-leb, lt-ltb, le-ltb, eq-eqb, ne_eqb}
use Rattle.ring.specs.Ring.{next, prev}
use Rattle.ring.proofs.Tests.{tested}
use Rattle.activities.specs.declared.Activity.TheVariants.{Reading}
use Rattle.rule.specs.Rule.{goes, ends, settled, absorbed, fits, narrow, insert_step, find_step, delete_step, rule}
use Rattle.rule.specs.Pricing.{PricingPromise}
use Rattle.rule.specs.declared.Answer.TheVariants.{Finished}
use Rattle.rule.specs.declared.Outcome.{Outcome}

module _ (n : ℕ) (key home : ℕ → ℕ) where
  -- each kind passes a greater label
  passes : (k v i c : ℕ) → key v < key c → rule k n key home (Reading v i) c ≡ goes (Reading v (next n i)) c
  unfolding rule insert_step find_step delete_step
  passes k v i c l = let P : Outcome → Type 0 = λ o. o ≡ goes (Reading v (next n i)) c in
      rw (lt-ltb (key v) (key c) l) (tested P (eqb k 1) (λ _. refl) (λ _. tested P (eqb k 2) (λ _. refl) (λ _. refl)))

pub pricing : PricingPromise
unfolding rule insert_step find_step delete_step settled absorbed fits narrow
pricing n key home =
    record {
      greater = passes n key home;
      smaller = λ v i c l. rw (le-ltb (key v) (key c) (omega arith), ne_eqb (key c) (key v) (λ e. omega arith));
      displaces = λ v i j x nz ne. rw (eq-eqb x x refl, ne_eqb (key x) 0 nz, ne_eqb (key x) (key v) ne);
      settles = λ v i c e l. rw (le-ltb (key v) (key c) (omega arith), eq-eqb (key c) (key v) e, le-leb c v l);
      dearer = λ v i c e l. rw (le-ltb (key v) (key c) (omega arith), eq-eqb (key c) (key v) e, lt-leb c v l);
      lowered = λ v i j x e l. rw (eq-eqb x x refl, eq-eqb (key x) (key v) e, lt-ltb v x l) (tested (λ (b : Bool). cond b (ends Finished v) (goes (Reading x (next n i)) v) ≡ ends Finished v) (eqb (key x) 0) (λ _. refl) (λ _. refl));
      carried = λ v i j x e nz l. rw (eq-eqb x x refl, ne_eqb (key x) 0 nz, eq-eqb (key x) (key v) e, le-ltb v x l);
      vacant = λ v i c nz z. rw (le-ltb (key v) (key c) (omega arith), ne_eqb (key c) (key v) (λ e. nz (sym e ∙ z)));
      filled = λ v i j x z. rw (eq-eqb x x refl, eq-eqb (key x) 0 z);
      insert_fails = λ v i j x c ne. rw (ne_eqb c x ne);
      delete_fails = λ v k j x c ne. rw (ne_eqb c v ne);
      turns_back = λ v i c l. rw (le-ltb (key v) (key c) l);
      walks_back = λ v k c ne away. rw (ne_eqb (key c) (key v) ne, ne_eqb k (home (key v)) away);
      gone = λ v c ne. rw (ne_eqb (key c) (key v) ne, eq-eqb (home (key v)) (home (key v)) refl);
      seeks = λ v k c e. rw (eq-eqb (key c) (key v) e);
      serves = λ v k j c z ne. rw (eq-eqb (key c) 0 z, ne_eqb (prev n j) k ne);
      serves_last = λ v k j c z e. rw (eq-eqb (key c) 0 z, eq-eqb (prev n j) k e);
      nearer = λ p v k j x c z ne. rw (eq-eqb (key c) 0 z, ne_eqb (prev n p) k ne);
      nearer_last = λ p v k j x c z e. rw (eq-eqb (key c) 0 z, eq-eqb (prev n p) k e);
      copied = λ v k j x z. rw (eq-eqb v v refl, eq-eqb (key x) 0 z);
      answers = λ v i c e. rw (le-ltb (key v) (key c) (omega arith), eq-eqb (key c) (key v) e);
      misses = λ v i c l. rw (le-ltb (key v) (key c) (omega arith), ne_eqb (key c) (key v) (λ e. omega arith));
    }
