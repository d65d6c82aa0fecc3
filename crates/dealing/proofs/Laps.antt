-- Laps until all workers are idle: once they are within f laps, more laps change nothing.
use mathlib.Core.Path.{◌≡◌}
use mathlib.Core.Bool.{Bool, true, false, cond}
use Prim.Native.Nat.{ℕ, zero, suc, ◌≤◌, ◌<◌}
use native.Mathlib.Omega.{arith}
use Rattle.ring.proofs.Tests.{by-test}
use Rattle.state.specs.Model.{Model}
use Rattle.protocol.specs.Bars.{all_idle}
use Rattle.dealing.specs.Deal.{Dealing, lap, laps}

abbrev pub is_at_rest : Dealing → Bool
is_at_rest d = all_idle d.dealt.phase.workers

module _ (M : Model) where
  -- how many laps are dealt, of at most f
  unfoldable pub left : ℕ → Dealing → ℕ
  left zero d = zero
  left (suc f) d = cond (is_at_rest d) zero (suc (left f (lap M d)))

  pub laps-at-rest : (f : ℕ) (d : Dealing) → is_at_rest d ≡ true → laps M (suc f) d ≡ d
  unfolding laps
  laps-at-rest f d e = rw e

  left-more : (f : ℕ) (d : Dealing) → left f d < f → left (suc f) d ≡ left f d
  unfolding left
  left-more zero d h = absurd (omega arith)
  left-more (suc f) d h = by-test (is_at_rest d)
      (λ e. rw e)
      (λ e. let i : suc (left f (lap M d)) < suc f = rw e at h in rw (e, left-more f (lap M d) (omega arith)))

  laps-more : (f : ℕ) (d : Dealing) → left (suc f) d ≤ f → laps M f d ≡ laps M (suc f) d
  unfolding left laps
  laps-more zero d h = by-test (is_at_rest d) (λ e. rw e) (λ e. let i : suc (left zero (lap M d)) ≤ zero = rw e at h in absurd (omega arith))
  laps-more (suc f) d h = by-test (is_at_rest d)
      (λ e. rw e)
      (λ e. let i : suc (left (suc f) (lap M d)) ≤ suc f = rw e at h in rw (e, laps-more f (lap M d) (omega arith)))

  pub rests-within : (f : ℕ) (d : Dealing) → left (suc f) d ≤ f → is_at_rest (laps M f d) ≡ true
  unfolding left laps
  rests-within zero d h = by-test (is_at_rest d) (λ e. e) (λ e. let i : suc (left zero (lap M d)) ≤ zero = rw e at h in absurd (omega arith))
  rests-within (suc f) d h = by-test (is_at_rest d)
      (λ e. rw e e)
      (λ e. let i : suc (left (suc f) (lap M d)) ≤ suc f = rw e at h in rw e (rests-within f (lap M d) (omega arith)))

  -- ---- one lap of those that are left
  module _ (f : ℕ) (d : Dealing) (busy : is_at_rest d ≡ false) (h : left (suc (suc f)) d ≤ suc f) where
    fewer : left (suc f) (lap M d) < suc f
    unfolding left
    fewer = let i : suc (left (suc f) (lap M d)) ≤ suc f = rw busy at h in omega arith

    pub left-falls : left (suc (suc f)) (lap M d) < left (suc (suc f)) d
    left-falls = let e : left (suc (suc f)) d ≡ suc (left (suc f) (lap M d)) = unfold left in (rw busy) in omega (arith, left-more (suc f) (lap M d) fewer)

    pub left-stays : left (suc (suc f)) (lap M d) ≤ suc f
    left-stays = omega (arith, left-falls)

    pub laps-stay : laps M (suc f) (lap M d) ≡ laps M (suc f) d
    laps-stay = let e : laps M (suc f) d ≡ laps M f (lap M d) = unfold laps in (rw busy) in rw e (cc (laps-more f (lap M d) (omega (arith, fewer))))
