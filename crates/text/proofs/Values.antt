-- Numbers: when a field writes one, and the number of a field within a line.
use mathlib.Core.Path.{◌≡◌, refl, sym}
use mathlib.Core.Bool.{true, false, ◌&&◌, and_assoc, and-false}
use mathlib.Core.List.{List, [], ◌∷◌, ◌++◌}
use Prim.Native.Nat.{ℕ, ◌+◌, ◌-◌, ◌*◌, ◌≤◌, ◌<◌}
use native.Mathlib.Omega.{arith}
use borrow.Author.Tests.{lt-leb, le-leb, leb-true, eq-eqb, ne_eqb, eqb-true}
use lib.Dec.{leb, eqb}
use lib.ListN.{length, get_or, drop}
use Rattle.std.specs.Prelude.{Option, Some, None}
use Rattle.text.specs.declared.Scanned.{Scanned}
use Rattle.text.specs.Bytes.{byte_at}
use Rattle.text.specs.Fields.{first_field}
use Rattle.text.specs.Numbers.{greatest_number, digits, leads, value_from, value_of, is_number, number_of, scanned_at}
use Rattle.text.proofs.Test.{by-test, both_true}
use Rattle.text.proofs.Bytes.{byte-later}

-- ---- the first digit
pub leads-nil : (s : List ℕ) → length s ≡ 0 → leads s ≡ false
unfolding leads
leads-nil [] h = refl
leads-nil (b ∷ s) h = absurd (omega arith)

pub leads-zero : (s : List ℕ) → get_or s 0 0 ≡ 48 → 1 < length s → leads s ≡ false
unfolding leads
leads-zero [] e h = absurd (omega arith)
leads-zero (b ∷ []) e h = absurd (omega arith)
leads-zero (b ∷ c ∷ s) e h = rw (eq-eqb b 48 e)

pub leads-alone : (s : List ℕ) → length s ≡ 1 → leads s ≡ true
unfolding leads
leads-alone [] h = absurd (omega arith)
leads-alone (b ∷ []) h = refl
leads-alone (b ∷ c ∷ s) h = absurd (omega arith)

pub leads-other : (s : List ℕ) → 0 < length s → (get_or s 0 0 ≡ 48 → ⊥) → leads s ≡ true
unfolding leads
leads-other [] h e = absurd (omega arith)
leads-other (b ∷ []) h e = refl
leads-other (b ∷ c ∷ s) h e = rw (ne_eqb b 48 e)

-- ---- digits
pub digits-nil : digits [] ≡ true
unfolding digits
digits-nil = refl

pub digit-more : (b : ℕ) (s : List ℕ) → 48 ≤ b → b ≤ 57 → digits (b ∷ s) ≡ digits s
unfolding digits
digit-more b s l u = simp (le-leb 48 b l, le-leb b 57 u)

pub below-digits : (b : ℕ) (s : List ℕ) → b < 48 → digits (b ∷ s) ≡ false
unfolding digits
below-digits b s h = simp (lt-leb 48 b h)

pub digits_append : (s t : List ℕ) → digits (s ++ t) ≡ (digits s && digits t)
unfolding digits
digits_append [] t = refl
digits_append (b ∷ s) t = rw (digits_append s t) (sym (and_assoc (leb 48 b && leb b 57) (digits s) (digits t)))

-- the first byte of digits is one, and so are the others
pub digit-parts : (b : ℕ) (s : List ℕ) → digits (b ∷ s) ≡ true → (48 ≤ b) × (b ≤ 57) × (digits s ≡ true)
unfolding digits
digit-parts b s h =
    let p = both_true (leb 48 b && leb b 57) (digits s) h in
    let q = both_true (leb 48 b) (leb b 57) p.0 in
    (leb-true 48 b q.0, leb-true b 57 q.1, p.1)

-- a tab is no digit
pub tab-no-digits : (s : List ℕ) → byte_at 9 s < length s → digits s ≡ false
unfolding digits
tab-no-digits [] h = absurd (omega arith)
tab-no-digits (b ∷ s) h = by-test (eqb b 9)
    (λ e. below-digits b s (omega (arith, eqb-true b 9 e)))
    (λ e. let t : byte_at 9 s < length s = omega (arith, byte-later 9 b s e) in simp (tab-no-digits s t, and-false))

-- ---- values
pub value-nil : (x : ℕ) → value_from x [] ≡ x
unfolding value_from
value-nil x = refl

pub value-cons : (x b : ℕ) (s : List ℕ) → value_from x (b ∷ s) ≡ value_from (10 * x + (b - 48)) s
unfolding value_from
value-cons x b s = refl

-- ---- a field that writes a number, or none
module _ (s : List ℕ) where
  pub no_lead : leads s ≡ false → is_number s ≡ false
  unfolding is_number
  no_lead e = rw e

  pub no-digits : digits s ≡ false → is_number s ≡ false
  unfolding is_number
  no-digits e = simp (e, and-false)

  pub too-great : greatest_number < value_of s → is_number s ≡ false
  unfolding is_number
  too-great h = simp (lt-leb (value_of s) greatest_number h, and-false)

  pub is-number : leads s ≡ true → digits s ≡ true → value_of s ≤ greatest_number → is_number s ≡ true
  unfolding is_number
  is-number l d h = simp (l, d, le-leb (value_of s) greatest_number h)

  pub number-parts : is_number s ≡ true → (leads s ≡ true) × (digits s ≡ true) × (value_of s ≤ greatest_number)
  unfolding is_number
  number-parts e =
      let p = both_true (leads s && digits s) (leb (value_of s) greatest_number) e in
      let q = both_true (leads s) (digits s) p.0 in
      (q.0, q.1, leb-true (value_of s) greatest_number p.1)

  pub read_number : (n : ℕ) → number_of s ≡ Some n → (is_number s ≡ true) × (value_of s ≡ n)
  read_number n e = by-test (is_number s)
      (λ t. let r : Some (value_of s) ≡ Some n = rw t at e in (t, (cc)))
      (λ t. let r : ◌≡◌ {A = Option ℕ} None (Some n) = rw t at e in cc)

-- ---- the number of a field within a line
module _ (l : List ℕ) (from : ℕ) where
  -- the field that begins there
  pub scanned-none : is_number (first_field (drop from l)) ≡ false → None ≡ scanned_at l from
  unfolding scanned_at
  scanned-none e = rw e

  pub unreadable-scan : None ≡ scanned_at l from → is_number (first_field (drop from l)) ≡ false
  unfolding scanned_at
  unreadable-scan e = by-test (is_number (first_field (drop from l)))
      (λ t.
      let r : None ≡ Some (record { number = value_of (first_field (drop from l)); end = from + byte_at 9 (drop from l) }) = rw t at e in
      cc)
      (λ t. t)

  pub number-scan : (r : Scanned) → Some r ≡ scanned_at l from
      → (is_number (first_field (drop from l)) ≡ true) × (value_of (first_field (drop from l)) ≡ r.number) × (r.end ≡ from + byte_at 9 (drop from l))
  unfolding scanned_at
  number-scan r e = by-test (is_number (first_field (drop from l)))
      (λ t.
      let q : Some r ≡ Some (record { number = value_of (first_field (drop from l)); end = from + byte_at 9 (drop from l) }) = rw t at e in
      (t, (cc), (cc)))
      (λ t. let q : Some r ≡ None = rw t at e in cc)
