-- The rule of an insert step by cases, each case with the facts that lead to it.
use mathlib.Core.Path.{◌≡◌}
use mathlib.Core.Logic.{◌⊎◌, inl, inr}
use mathlib.Core.Bool.{true, false}
use Prim.Native.Nat.{ℕ, ◌≤◌, ◌<◌}
use borrow.Author.Tests.{le-leb, lt-leb, le-ltb, lt-ltb, eq-eqb, ne_eqb}
use Rattle.ring.specs.Ring.{next}
use Rattle.ring.proofs.Split.{by-lt, by-eq}
use Rattle.activities.specs.declared.Activity.TheVariants.{Reading, Replacing}
use Rattle.rule.specs.declared.Answer.TheVariants.{Finished}
use Rattle.rule.specs.declared.Outcome.{Outcome}
use Rattle.rule.specs.Rule.{goes, ends, settled, absorbed, insert_step, rule}
use Rattle.phases.proofs.Steps.{by-content}

-- the content x gives way to v: its label is smaller, or it is the same at a higher price
abbrev pub Yields : (ℕ → ℕ) → ℕ → ℕ → Type 0
Yields key v x = (key x < key v) ⊎ ((key x ≡ key v) × (v < x))

module _ (n : ℕ) (key home : ℕ → ℕ) where
  by-settled : {C : Type 0} (v c : ℕ) → (c ≤ v → settled key v c ≡ true → C) → (v < c → settled key v c ≡ false → C) → key c ≡ key v → C
  unfolding settled
  by-settled v c f g z =
      by-lt v c (λ l. g l (rw (eq-eqb (key c) (key v) z, lt-leb c v l))) (λ l. f l (rw (eq-eqb (key c) (key v) z, le-leb c v l)))

  module _ (C : Outcome → Type 0) where
    pub reading-by : (v i c : ℕ) → (key v < key c → C (goes (Reading v (next n i)) c)) → (key c ≡ key v → c ≤ v → C (ends Finished c))
        → (Yields key v c → C (goes (Replacing v i i c) c)) → C (rule 1 n key home (Reading v i) c)
    unfolding rule insert_step settled
    reading-by v i c f g h = by-content (key v) (key c)
        (λ l e. rw e (f l))
        (λ z e d. rw e (by-settled v c (λ l y. rw y (g z l)) (λ l y. rw y (h (inr (z, l)))) z))
        (λ l e d. rw (e, d) (h (inl l)))

    pub replacing-by : (v i j x c : ℕ) → (c ≡ x → key x ≡ 0 → C (ends Finished v)) → (c ≡ x → (key x ≡ 0 → ⊥) → key x ≡ key v → v < x → C (ends Finished v))
        → (c ≡ x → (key x ≡ 0 → ⊥) → (key x ≡ key v → x ≤ v) → C (goes (Reading x (next n i)) v)) → ((c ≡ x → ⊥) → C (goes (Reading v i) c))
        → C (rule 1 n key home (Replacing v i j x) c)
    unfolding rule insert_step absorbed
    replacing-by v i j x c f g h k = by-eq c x
        (λ z. rw (eq-eqb c x z) (by-eq (key x) 0
        (λ y. rw (eq-eqb (key x) 0 y) (f z y))
        (λ y. rw (ne_eqb (key x) 0 y) (by-eq (key x) (key v)
        (λ q. rw (eq-eqb (key x) (key v) q) (by-lt v x (λ l. rw (lt-ltb v x l) (g z y q l)) (λ l. rw (le-ltb v x l) (h z y (λ _. l)))))
        (λ q. rw (ne_eqb (key x) (key v) q) (h z y (λ e. absurd (q e))))))))
        (λ z. rw (ne_eqb c x z) (k z))
