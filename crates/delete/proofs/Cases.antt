-- A delete worker's step in a table of labels by cases, each case with the facts that lead to it.
use mathlib.Core.Path.{◌≡◌, sym, subst}
use mathlib.Core.Bool.{true, false}
use Prim.Native.Nat.{ℕ, ◌≤◌, ◌<◌}
use borrow.Author.Tests.{lt-ltb, le-ltb, eq-eqb, ne_eqb}
use Rattle.ring.specs.Ring.{dist, next, prev}
use Rattle.ring.proofs.Split.{by-lt, by-eq}
use Rattle.activities.specs.declared.Activity.{Activity}
use Rattle.activities.specs.declared.Activity.TheVariants.{Reading, Replacing, WalkingBack, SeekingForward, SeekingBack}
use Rattle.rule.specs.declared.Answer.TheVariants.{Finished}
use Rattle.rule.specs.declared.Outcome.{Outcome}
use Rattle.rule.specs.Rule.{goes, ends, fits, narrow, delete_step, rule}
use Rattle.delete.proofs.Setting.{plain}

module _ (n : ℕ) (home : ℕ → ℕ) where
  by_fits : {C : Type 0} (x j k : ℕ) → (x ≡ 0 → fits n plain home x j k ≡ true → C) → (dist n (home x) k < dist n (home x) j → fits n plain home x j k ≡ true → C)
      → ((x ≡ 0 → ⊥) → dist n (home x) j ≤ dist n (home x) k → fits n plain home x j k ≡ false → C) → C
  unfolding fits
  by_fits x j k f g h = by-eq x 0 (λ z. f z (rw (eq-eqb x 0 z))) (λ z. by-lt (dist n (home x) k) (dist n (home x) j)
      (λ l. g l (rw (ne_eqb x 0 z, lt-ltb (dist n (home x) k) (dist n (home x) j) l)))
      (λ l. h z l (rw (ne_eqb x 0 z, le-ltb (dist n (home x) k) (dist n (home x) j) l))))

  pub narrow-by : (C : Activity → Type 0) (v k j x p : ℕ) → (p ≡ k → C (Replacing v k j x)) → ((p ≡ k → ⊥) → C (SeekingBack p v k j x))
      → C (narrow n plain home v k j x p)
  unfolding narrow
  narrow-by C v k j x p f g = by-eq p k (λ z. rw (eq-eqb p k z) (f z)) (λ z. rw (ne_eqb p k z) (g z))

  module _ (C : Outcome → Type 0) where
    pub reading-by : (v i c : ℕ) → (v < c → C (goes (Reading v (next n i)) c)) → (c ≤ v → C (goes (WalkingBack v i) c)) → C (rule 2 n plain home (Reading v i) c)
    unfolding rule delete_step
    reading-by v i c f g = by-lt v c (λ l. rw (lt-ltb v c l) (f l)) (λ l. rw (le-ltb v c l) (g l))

    pub walking-back-by : (v k c : ℕ) → (c ≡ v → C (goes (SeekingForward v k (next n k)) c)) → ((c ≡ v → ⊥) → k ≡ home v → C (ends Finished c))
        → ((c ≡ v → ⊥) → (k ≡ home v → ⊥) → C (goes (WalkingBack v (prev n k)) c)) → C (rule 2 n plain home (WalkingBack v k) c)
    unfolding rule delete_step
    walking-back-by v k c f g h = by-eq c v (λ z. rw (eq-eqb c v z) (subst (λ (u : ℕ). C (goes (SeekingForward u k (next n k)) c)) (sym z) (f z))) (λ z. rw (ne_eqb c v z)
        (by-eq k (home v) (λ y. rw (eq-eqb k (home v) y) (g z y)) (λ y. rw (ne_eqb k (home v) y) (h z y))))

    pub seeking-forward-by : (v k j c : ℕ) → (c ≡ 0 → C (goes (narrow n plain home v k j c (prev n j)) c))
        → (dist n (home c) k < dist n (home c) j → C (goes (narrow n plain home v k j c (prev n j)) c))
        → ((c ≡ 0 → ⊥) → C (goes (SeekingForward v k (next n j)) c)) → C (rule 2 n plain home (SeekingForward v k j) c)
    unfolding rule delete_step
    seeking-forward-by v k j c f g h = by_fits c j k (λ z y. rw y (f z)) (λ z y. rw y (g z)) (λ z l y. rw y (h z))

    pub seeking-back-by : (v k j x p c : ℕ) → (c ≡ 0 → C (goes (narrow n plain home v k p c (prev n p)) c))
        → (dist n (home c) k < dist n (home c) p → C (goes (narrow n plain home v k p c (prev n p)) c))
        → ((c ≡ 0 → ⊥) → dist n (home c) p ≤ dist n (home c) k → C (goes (narrow n plain home v k j x (prev n p)) c))
        → C (rule 2 n plain home (SeekingBack p v k j x) c)
    unfolding rule delete_step
    seeking-back-by v k j x p c f g h = by_fits c p k (λ z y. rw y (f z)) (λ z y. rw y (g z)) (λ z l y. rw y (h z l))

    -- with nothing found the content written is x too, which is 0
    pub replacing-by : (v k j x c : ℕ) → (c ≡ v → x ≡ 0 → C (ends Finished x)) → (c ≡ v → (x ≡ 0 → ⊥) → C (goes (WalkingBack x j) x))
        → ((c ≡ v → ⊥) → C (goes (WalkingBack v k) c)) → C (rule 2 n plain home (Replacing v k j x) c)
    unfolding rule delete_step
    replacing-by v k j x c f g h = by-eq c v
        (λ z. rw (eq-eqb c v z) (by-eq x 0 (λ y. rw (eq-eqb x 0 y) (rw y at (f z y))) (λ y. rw (ne_eqb x 0 y) (g z y))))
        (λ z. rw (ne_eqb c v z) (h z))
