-- The decimal digits of a number: how they go on, what they are worth, and that a field which is read as a number is its digits.
use mathlib.Core.Path.{◌≡◌, refl, sym, ◌∙◌, ap}
use mathlib.Core.Bool.{true, false}
use mathlib.Core.List.{List, [], ◌∷◌, ◌++◌, append-nil}
use Prim.Native.Nat.{ℕ, zero, suc, ◌+◌, ◌-◌, ◌*◌, ◌/◌, ◌%◌, ◌^◌, ◌≤◌, ◌<◌}
use native.Mathlib.Omega.{arith}
use native.Mathlib.Nat.{pow-succ'}
use borrow.Author.Tests.{lt-ltb, le-ltb, eqb-false, not-true}
use lib.Arith.{lt_of_le-ne}
use lib.Dec.{eqb}
use lib.ListN.{length, get_or, length-append, get_or-append}
use lib.Seq.{append_snoc}
use Rattle.text.specs.Bytes.{byte_at}
use Rattle.text.specs.Numbers.{greatest_number, longest_number, digits, leads, value_from, value_of, is_number}
use Rattle.text.specs.Digits.{digits_within, most_digits, digits_of}
use Rattle.text.proofs.Test.{by-test, by-lt}
use Rattle.text.proofs.Bytes.{by_byte}
use Rattle.text.proofs.Values.{leads-other, digits-nil, digits_append, digit-more, digit-parts, tab-no-digits}
use Rattle.text.proofs.Values.{value-nil, value-cons, is-number, number-parts}

-- a bound that is great enough does not matter
within-enough : (k m n : ℕ) → n < k → n < m → digits_within k n ≡ digits_within m n
unfolding digits_within
within-enough zero m n h i = absurd (omega arith)
within-enough (suc k) zero n h i = absurd (omega arith)
within-enough (suc k) (suc m) n h i = by-lt n 10
    (λ t. rw (lt-ltb n 10 t))
    (λ t. rw (le-ltb n 10 t, within-enough k m (n / 10) (omega arith) (omega arith)))

pub one-digit : (n : ℕ) → n < 10 → digits_of n ≡ (48 + n) ∷ []
unfolding digits_of digits_within
one-digit n h = rw (lt-ltb n 10 h)

pub more-digits : (n : ℕ) → 10 ≤ n → digits_of n ≡ digits_of (n / 10) ++ (48 + n % 10) ∷ []
unfolding digits_of digits_within
more-digits n h = rw (le-ltb n 10 h, within-enough n (suc (n / 10)) (n / 10) (omega arith) (omega arith))

-- what holds of one digit, and of n where it holds of n / 10, holds of all numbers
module _ (P : ℕ → Type 0) (one : (n : ℕ) → n < 10 → P n) (more : (n : ℕ) → 10 ≤ n → P (n / 10) → P n) where
  below : (k n : ℕ) → n < k → P n
  below zero n h = absurd (omega arith)
  below (suc k) n h = by-lt n 10 (one n) (λ t. more n t (below k (n / 10) (omega arith)))

  pub by_digits : (n : ℕ) → P n
  by_digits n = below (suc n) n (omega arith)

-- ---- a last digit
value-last : (x : ℕ) (s : List ℕ) (b : ℕ) → value_from x (s ++ b ∷ []) ≡ 10 * value_from x s + (b - 48)
unfolding value_from
value-last x [] b = refl
value-last x (a ∷ s) b = value-last (10 * x + (a - 48)) s b

one-is-digit : (n : ℕ) → n < 10 → digits ((48 + n) ∷ []) ≡ true
one-is-digit n h = digit-more (48 + n) [] (omega arith) (omega arith) ∙ digits-nil

-- ---- laws
pub some-digit : (n : ℕ) → 0 < length (digits_of n)
some-digit = by_digits (λ n. 0 < length (digits_of n))
    (λ n h. rw (one-digit n h) (omega arith))
    (λ n h i. rw (more-digits n h, length-append) (omega arith))

pub value-of-digits : (n : ℕ) → value_of (digits_of n) ≡ n
value-of-digits = by_digits (λ n. value_of (digits_of n) ≡ n)
    (λ n h. rw (one-digit n h, value-cons, value-nil) (omega arith))
    (λ n h i. rw (more-digits n h, value-last, i) (omega arith))

pub digits-of-digits : (n : ℕ) → digits (digits_of n) ≡ true
digits-of-digits = by_digits (λ n. digits (digits_of n) ≡ true)
    (λ n h. rw (one-digit n h) (one-is-digit n h))
    (λ n h i. rw (more-digits n h, digits_append, i) (one-is-digit (n % 10) (omega arith)))

pub first-not-zero : (n : ℕ) → 0 < n → 48 < get_or (digits_of n) 0 0
first-not-zero = by_digits (λ n. 0 < n → 48 < get_or (digits_of n) 0 0)
    (λ n h p. rw (one-digit n h) (omega arith))
    (λ n h i p. rw (more-digits n h, get_or-append (digits_of (n / 10)) _ 0 0 (some-digit (n / 10))) (i (omega arith)))

pub leads-of-digits : (n : ℕ) → leads (digits_of n) ≡ true
unfolding leads
leads-of-digits n = by-lt n 10
    (λ h. rw (one-digit n h))
    (λ h. let q : 48 < get_or (digits_of n) 0 0 = first-not-zero n (omega arith) in leads-other (digits_of n) (some-digit n) (λ e. omega arith))

pub few-digits : (k n : ℕ) → n < 10 ^ suc k → length (digits_of n) ≤ suc k
few-digits zero n h = rw (one-digit n (omega arith)) (omega arith)
few-digits (suc k) n h = by-lt n 10
    (λ i. rw (one-digit n i) (omega arith))
    (λ i.
    let q : n / 10 < 10 ^ suc k = omega (arith, pow-succ' 10 (suc k)) in
    rw (more-digits n i, length-append) (omega (arith, few-digits k (n / 10) q)))

pub most-digits : (n : ℕ) → n < 2 ^ 64 → length (digits_of n) ≤ most_digits
most-digits n h = few-digits 19 n (omega arith)

pub number-of-digits : (n : ℕ) → n ≤ greatest_number → (is_number (digits_of n) ≡ true) × (value_of (digits_of n) ≡ n)
number-of-digits n h =
    let v = value-of-digits n in
    (is-number (digits_of n) (leads-of-digits n) (digits-of-digits n) (omega arith), v)

-- no digit is a tab
pub tabless-digits : (n : ℕ) → byte_at 9 (digits_of n) ≡ length (digits_of n)
tabless-digits n = by_byte 9 (digits_of n)
    (λ h. cc (digits-of-digits n, tab-no-digits (digits_of n) h))
    (λ h. h)

-- ---- a field that writes a number is its digits
-- a digit more at the end of those of x
next-digit : (x b : ℕ) → 0 < x → 48 ≤ b → b ≤ 57 → digits_of (10 * x + (b - 48)) ≡ digits_of x ++ b ∷ []
next-digit x b p l u =
    let d : (10 * x + (b - 48)) / 10 ≡ x = omega arith in
    let m : 48 + (10 * x + (b - 48)) % 10 ≡ b = omega arith in
    more-digits (10 * x + (b - 48)) (omega arith) ∙ rw (d, m)

digits-go-on : (x : ℕ) (s : List ℕ) → 0 < x → digits s ≡ true → digits_of (value_from x s) ≡ digits_of x ++ s
digits-go-on x [] p h = rw (value-nil x) (sym (append-nil (digits_of x)))
digits-go-on x (b ∷ s) p h =
    let d = digit-parts b s h in
    rw (value-cons x b s)
    (digits-go-on (10 * x + (b - 48)) s (omega arith) d.2
    ∙ ap (λ (t : List ℕ). t ++ s) (next-digit x b p d.0 d.1)
    ∙ append_snoc (digits_of x) b s)

-- the first digit
first-digit : (b : ℕ) → 48 ≤ b → b ≤ 57 → digits_of (10 * 0 + (b - 48)) ≡ b ∷ []
first-digit b l u =
    let m : 48 + (10 * 0 + (b - 48)) ≡ b = omega arith in
    one-digit (10 * 0 + (b - 48)) (omega arith) ∙ rw m

digits-back : (s : List ℕ) → leads s ≡ true → digits s ≡ true → digits_of (value_of s) ≡ s
unfolding leads
digits-back [] l h = cc
digits-back (b ∷ []) l h =
    let d = digit-parts b [] h in
    rw (value-cons 0 b [], value-nil) (first-digit b d.0 d.1)
digits-back (b ∷ c ∷ s) l h =
    let d = digit-parts b (c ∷ s) h in
    let z : b ≡ 48 → ⊥ = eqb-false b 48 (not-true (eqb b 48) l) in
    let p : 0 < 10 * 0 + (b - 48) = omega (arith, lt_of_le-ne d.0 (λ e. z (sym e))) in
    rw (value-cons 0 b (c ∷ s))
    (digits-go-on (10 * 0 + (b - 48)) (c ∷ s) p d.2 ∙ ap (λ (t : List ℕ). t ++ c ∷ s) (first-digit b d.0 d.1))

pub number-back : (s : List ℕ) → is_number s ≡ true → digits_of (value_of s) ≡ s
number-back s e = let p = number-parts s e in digits-back s p.0 p.1

-- so it is as short as they are
pub short-number : (s : List ℕ) → is_number s ≡ true → length s ≤ longest_number
short-number s e =
    let p = number-parts s e in
    let k : length (digits_of (value_of s)) ≤ longest_number = few-digits 9 (value_of s) (omega (arith, p.2)) in
    rw (number-back s e) at k

pub too_long : (s : List ℕ) → longest_number < length s → is_number s ≡ false
too_long s h = by-test (is_number s)
    (λ e. absurd (omega (arith, short-number s e)))
    (λ e. e)
