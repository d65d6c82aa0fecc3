-- A delete's turns by the home of a key.
use Rattle.std.specs.Prelude.{Ok}
use mathlib.Core.Path.{◌≡◌, refl, ap, ◌∙◌, subst, sym}
use mathlib.Core.Logic.{◌≢◌, ◌⊎◌, inl, inr}
use mathlib.Core.Bool.{true, false}
use Prim.Native.Nat.{ℕ}
use lib.ListN.{get_or}
use borrow.Author.Tests.{eq-eqb, ne_eqb, lt-ltb, le-ltb}
use Rattle.ring.specs.Ring.{dist, next, prev}
use Rattle.ring.proofs.Split.{by-eq, by-lt}
use Rattle.layout.specs.Sound.{OnPath}
use Rattle.prices.specs.Contents.{label}
use Rattle.activities.specs.declared.Activity.TheVariants.{WalkingBack, SeekingForward, SeekingBack}
use Rattle.rule.specs.Rule.{fits, narrow, delete_step, rule}
use Rattle.rule.specs.declared.Answer.TheVariants.{Finished}
use Rattle.protocol.specs.Promise.{home_in, Taken, HomingPromise}
use Rattle.protocol.proofs.Meeting.{replies, leads}
use Rattle.protocol.proofs.Theorem.{turn-accepted}

-- ---- by the rule
module _ (k n : ℕ) (home : ℕ → ℕ) (is : k ≡ 2) where
  -- on the way back, at a cell that does not hold the key
  module _ (v i c : ℕ) (other : label c ≢ label v) where
    back-ends : i ≡ home (label v) → (rule k n label home (WalkingBack v i) c).answer ≡ Finished
    unfolding rule delete_step
    back-ends e = rw (is, ne_eqb (label c) (label v) other, eq-eqb i (home (label v)) e)

    back-walks : i ≢ home (label v) → (rule k n label home (WalkingBack v i) c).activity ≡ WalkingBack v (prev n i)
    unfolding rule delete_step
    back-walks e = rw (is, ne_eqb (label c) (label v) other, ne_eqb i (home (label v)) e)

  -- a content of cell j that may replace that of cell i, and one that may not
  module _ (c j i : ℕ) where
    abbrev Fit : Type 0
    Fit = (label c ≡ 0) ⊎ OnPath n home (label c) j i

    fitting : Fit → fits n label home c j i ≡ true
    unfolding fits
    fitting (inl e) = rw (eq-eqb (label c) 0 e)
    fitting (inr l) = by-eq (label c) 0 (λ e. rw (eq-eqb (label c) 0 e))
        (λ some. rw (ne_eqb (label c) 0 some, lt-ltb (dist n (home (label c)) i) (dist n (home (label c)) j) l))

    misfit : (Fit → ⊥) → fits n label home c j i ≡ false
    unfolding fits
    misfit off = by-lt (dist n (home (label c)) i) (dist n (home (label c)) j)
        (λ l. absurd (off (inr l)))
        (λ l. rw (ne_eqb (label c) 0 (λ e. off (inl e)), le-ltb (dist n (home (label c)) i) (dist n (home (label c)) j) l))

  narrowed : (v i j x q : ℕ) → Taken n q v i j x (narrow n label home v i j x (prev n q))
  unfolding narrow
  narrowed v i j x q = by-eq (prev n q) i
      (λ e. rw (eq-eqb (prev n q) i e) (inl (e, refl)))
      (λ e. rw (ne_eqb (prev n q) i e) (inr (e, refl)))

  module _ (v i j c : ℕ) where
    seek-takes : Fit c j i → Taken n j v i j c (rule k n label home (SeekingForward v i j) c).activity
    unfolding rule delete_step
    seek-takes l = rw (is, fitting c j i l) (narrowed v i j c j)

    seek-passes : (Fit c j i → ⊥) → (rule k n label home (SeekingForward v i j) c).activity ≡ SeekingForward v i (next n j)
    unfolding rule delete_step
    seek-passes off = rw (is, misfit c j i off)

  module _ (q v i j x c : ℕ) where
    seek-nearer : Fit c q i → Taken n q v i q c (rule k n label home (SeekingBack q v i j x) c).activity
    unfolding rule delete_step
    seek-nearer l = rw (is, fitting c q i l) (narrowed v i q c q)

    seek-keeps : (Fit c q i → ⊥) → Taken n q v i j x (rule k n label home (SeekingBack q v i j x) c).activity
    unfolding rule delete_step
    seek-keeps off = rw (is, misfit c q i off) (narrowed v i j x q)

-- ---- of a turn
pub homing : HomingPromise
homing M p t w z is =
    let e = turn-accepted M p t w z in
    let n = p.length in
    let home = home_in M p in
    record {
      ends = λ v i on other at.
          rw e (replies M p t w (WalkingBack v i) i on refl ∙ ap Ok (back-ends p.kind n home is v i (get_or t i 0) other at));
      walks = λ v i on other at.
          rw e (leads M p t w (WalkingBack v i) i on refl ∙ back-walks p.kind n home is v i (get_or t i 0) other at);
      takes = λ v i j on l.
          rw e (subst (Taken n j v i j (get_or t j 0)) (sym (leads M p t w (SeekingForward v i j) j on refl)) (seek-takes p.kind n home is v i j (get_or t j 0) l));
      passes = λ v i j on off.
          rw e (leads M p t w (SeekingForward v i j) j on refl ∙ seek-passes p.kind n home is v i j (get_or t j 0) off);
      nearer = λ q v i j x on l.
          rw e (subst (Taken n q v i q (get_or t q 0)) (sym (leads M p t w (SeekingBack q v i j x) q on refl))
          (seek-nearer p.kind n home is q v i j x (get_or t q 0) l));
      keeps = λ q v i j x on off.
          rw e (subst (Taken n q v i j x) (sym (leads M p t w (SeekingBack q v i j x) q on refl))
          (seek-keeps p.kind n home is q v i j x (get_or t q 0) off));
    }
