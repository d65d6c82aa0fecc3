-- The tests of bytes and the grammar's classes.
use mathlib.Core.Path.{◌≡◌, refl}
use mathlib.Core.Bool.{Bool, true, false}
use Prim.Native.Nat.{ℕ}
use native.Mathlib.Omega.{arith}
use borrow.Author.Tests.{le-leb, lt-leb, leb-true, eqb-true, ne_eqb}
use lib.Dec.{leb, eqb}
use Rattle.rfc4180.specs.Grammar.{TextData}
use Rattle.rfc4180.specs.Reader.{is_text, is_inside}
use Rattle.text.proofs.Test.{by-test}

pub text-data : (b : ℕ) → is_text b ≡ true → TextData b
unfolding is_text
text-data b e = by-test (leb b 0x21)
    (λ t. let f : leb 0x20 b ≡ true = rw t at e in TextData.low (leb-true 0x20 b f) (leb-true b 0x21 t))
    (λ t. by-test (leb b 0x2B)
    (λ u. let f : leb 0x23 b ≡ true = rw (t, u) at e in TextData.middle (leb-true 0x23 b f) (leb-true b 0x2B u))
    (λ u. by-test (leb 0x2D b)
    (λ v. let f : leb b 0x7E ≡ true = rw (t, u, v) at e in TextData.high (leb-true 0x2D b v) (leb-true b 0x7E f))
    (λ v. let f : ◌≡◌ {A = Bool} false true = rw (t, u, v) at e in cc)))

pub is-text : {b : ℕ} → TextData b → is_text b ≡ true
unfolding is_text
is-text {b} (TextData.low l u) = rw (le-leb b 0x21 u, le-leb 0x20 b l)
is-text {b} (TextData.middle l u) = rw (lt-leb b 0x21 (omega arith), le-leb b 0x2B u, le-leb 0x23 b l)
is-text {b} (TextData.high l u) = rw (lt-leb b 0x21 (omega arith), lt-leb b 0x2B (omega arith), le-leb 0x2D b l, le-leb b 0x7E u)

-- TEXTDATA is no quote
pub text-no-quote : {b : ℕ} → TextData b → eqb b 0x22 ≡ false
text-no-quote {b} (TextData.low l u) = ne_eqb b 0x22 (λ e. omega arith)
text-no-quote {b} (TextData.middle l u) = ne_eqb b 0x22 (λ e. omega arith)
text-no-quote {b} (TextData.high l u) = ne_eqb b 0x22 (λ e. omega arith)

pub text-inside : (b : ℕ) → is_text b ≡ true → is_inside b ≡ true
unfolding is_inside
text-inside b e = by-test (eqb b 0x2C) (λ t. rw t) (λ t. by-test (eqb b 0x0D) (λ u. rw (t, u)) (λ u. by-test (eqb b 0x0A) (λ v. rw (t, u, v)) (λ v. rw (t, u, v) e)))

-- a byte between quotes is one of four
pub inside-cases {ℓ} : {C : Type ℓ} (b : ℕ) → is_inside b ≡ true → (b ≡ 0x2C → C) → (b ≡ 0x0D → C) → (b ≡ 0x0A → C) → (TextData b → C) → C
unfolding is_inside
inside-cases b e f g h k = by-test (eqb b 0x2C)
    (λ t. f (eqb-true b 0x2C t))
    (λ t. by-test (eqb b 0x0D)
    (λ u. g (eqb-true b 0x0D u))
    (λ u. by-test (eqb b 0x0A)
    (λ v. h (eqb-true b 0x0A v))
    (λ v. k (text-data b (rw (t, u, v) at e)))))

pub comma-inside : is_inside 0x2C ≡ true
unfolding is_inside
comma-inside = refl

pub cr-inside : is_inside 0x0D ≡ true
unfolding is_inside
cr-inside = refl

pub lf-inside : is_inside 0x0A ≡ true
unfolding is_inside
lf-inside = refl

pub comma-no-text : is_text 0x2C ≡ false
unfolding is_text
comma-no-text = refl

pub cr-no-text : is_text 0x0D ≡ false
unfolding is_text
cr-no-text = refl
