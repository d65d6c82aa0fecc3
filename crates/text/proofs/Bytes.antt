-- Texts as lists of bytes: comparing two, and the place of a byte.
use mathlib.Core.Path.{◌≡◌, refl, sym}
use mathlib.Core.Logic.{◌≢◌}
use mathlib.Core.Bool.{true, false}
use mathlib.Core.List.{List, [], ◌∷◌}
use Prim.Native.Nat.{ℕ, zero, suc, min, ◌≤◌, ◌<◌}
use native.Mathlib.Omega.{arith}
use borrow.Author.Tests.{eqb-true, eqb-false}
use lib.Dec.{eqb}
use lib.ListN.{length, get_or, take}
use lib.Seq.{length-take-le}
use Rattle.text.specs.Bytes.{same, byte_at}
use Rattle.text.specs.Promise.{FirstAt}
use Rattle.text.proofs.Test.{by-test, by-lt, both_true}

-- ---- the same bytes
pub same-nil : same [] [] ≡ true
unfolding same
same-nil = refl

pub same-cons : (a b : ℕ) (s t : List ℕ) → eqb a b ≡ true → same (a ∷ s) (b ∷ t) ≡ same s t
unfolding same
same-cons a b s t e = rw e

pub same-other : (a b : ℕ) (s t : List ℕ) → eqb a b ≡ false → same (a ∷ s) (b ∷ t) ≡ false
unfolding same
same-other a b s t e = rw e

pub same_length : (s t : List ℕ) → (length s ≡ length t → ⊥) → same s t ≡ false
unfolding same
same_length [] [] h = absurd (h refl)
same_length [] (b ∷ t) h = refl
same_length (a ∷ s) [] h = refl
same_length (a ∷ s) (b ∷ t) h = by-test (eqb a b)
    (λ e. rw e (same_length s t (λ q. h (omega arith))))
    (λ e. rw e)

pub same_true : (s t : List ℕ) → same s t ≡ true → s ≡ t
unfolding same
same_true [] [] h = refl
same_true [] (b ∷ t) h = cc
same_true (a ∷ s) [] h = cc
same_true (a ∷ s) (b ∷ t) h =
    let p = both_true (eqb a b) (same s t) h in
    rw (eqb-true a b p.0, same_true s t p.1)

-- ---- the first byte x
module _ (x : ℕ) where
  pub byte-nil : byte_at x [] ≡ 0
  unfolding byte_at
  byte-nil = refl

  pub byte-here : (b : ℕ) (s : List ℕ) → eqb b x ≡ true → byte_at x (b ∷ s) ≡ 0
  unfolding byte_at
  byte-here b s e = rw e

  pub byte-later : (b : ℕ) (s : List ℕ) → eqb b x ≡ false → byte_at x (b ∷ s) ≡ suc (byte_at x s)
  unfolding byte_at
  byte-later b s e = rw e

  pub byte_le : (s : List ℕ) → byte_at x s ≤ length s
  byte_le [] = omega (arith, byte-nil)
  byte_le (b ∷ s) = by-test (eqb b x)
      (λ e. omega (arith, byte-here b s e))
      (λ e. omega (arith, byte-later b s e, byte_le s))

  -- the part before it is as long as its place says
  pub cut-length : (s : List ℕ) {e : ℕ} → e ≡ byte_at x s → e ≡ length (take e s)
  cut-length s t = sym (length-take-le _ s (omega (arith, t, byte_le s)))

  -- there is one, or none
  pub by_byte {ℓ} : {C : Type ℓ} (s : List ℕ) → (byte_at x s < length s → C) → (byte_at x s ≡ length s → C) → C
  by_byte s f g = by-lt (byte_at x s) (length s) f (λ h. g (omega (arith, byte_le s)))

  -- before it there is none, and it is one
  byte-before : (s : List ℕ) (i : ℕ) → i < byte_at x s → get_or s i 0 ≢ x
  byte-before [] i l = absurd (omega (arith, byte-nil))
  byte-before (b ∷ s) zero l = by-test (eqb b x) (λ e. absurd (omega (arith, byte-here b s e))) (λ e. eqb-false b x e)
  byte-before (b ∷ s) (suc i) l = by-test (eqb b x)
      (λ e. absurd (omega (arith, byte-here b s e)))
      (λ e. byte-before s i (omega (arith, byte-later b s e)))

  pub byte-found : (s : List ℕ) → byte_at x s < length s → get_or s (byte_at x s) 0 ≡ x
  byte-found [] h = absurd (omega arith)
  byte-found (b ∷ s) h = by-test (eqb b x)
      (λ e. rw (byte-here b s e) (eqb-true b x e))
      (λ e. rw (byte-later b s e) (byte-found s (omega (arith, byte-later b s e))))

  pub first-at : (s : List ℕ) → FirstAt x s (byte_at x s)
  first-at s = record { within = byte_le s; none_before = byte-before s; found = byte-found s }

  -- in the front of a text
  pub byte-take : (n : ℕ) (s : List ℕ) → byte_at x (take n s) ≡ min n (byte_at x s)
  byte-take zero s = omega (arith, byte-nil)
  byte-take (suc n) [] = omega (arith, byte-nil)
  byte-take (suc n) (b ∷ s) = by-test (eqb b x)
      (λ e. omega (arith, byte-here b s e, byte-here b (take n s) e))
      (λ e. omega (arith, byte-later b s e, byte-later b (take n s) e, byte-take n s))
