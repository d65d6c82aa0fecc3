-- The digits in front of a text: how many there are, what number they write, and when they are a whole field.
use mathlib.Core.Path.{◌≡◌, refl, sym, ◌∙◌, ap}
use mathlib.Core.Bool.{true, false, ◌&&◌, and-false}
use mathlib.Core.List.{List, [], ◌∷◌}
use Prim.Native.Nat.{ℕ, zero, suc, ◌+◌, ◌≤◌, ◌<◌}
use native.Mathlib.Omega.{arith}
use borrow.Author.Tests.{le-leb, lt-leb, leb-true}
use lib.Dec.{leb}
use lib.ListN.{length, get_or, take, drop, length-drop}
use lib.Seq.{length-take-le, get_or-take, get_or-drop}
use Rattle.std.specs.Prelude.{Some, None}
use Rattle.text.specs.declared.Run.{Run}
use Rattle.text.specs.Bytes.{byte_at}
use Rattle.text.specs.Numbers.{digits, value_of, is_number, number_of, ending_at, scanned_at, digits_in, leading, run_at}
use Rattle.text.proofs.Test.{by-test, by-lt, both_true}
use Rattle.text.proofs.Bytes.{byte_le, byte-take, byte-found, first-at}
use Rattle.text.proofs.Values.{digits-nil, digit-more, tab-no-digits, no-digits, scanned-none}

-- ---- how many
pub run-nil : digits_in [] ≡ 0
unfolding digits_in
run-nil = refl

pub run_more : (b : ℕ) (s : List ℕ) → 48 ≤ b → b ≤ 57 → digits_in (b ∷ s) ≡ suc (digits_in s)
unfolding digits_in
run_more b s l u = simp (le-leb 48 b l, le-leb b 57 u)

pub run-below : (b : ℕ) (s : List ℕ) → b < 48 → digits_in (b ∷ s) ≡ 0
unfolding digits_in
run-below b s h = simp (lt-leb 48 b h)

pub run-above : (b : ℕ) (s : List ℕ) → 57 < b → digits_in (b ∷ s) ≡ 0
unfolding digits_in
run-above b s h = simp (lt-leb b 57 h, and-false)

-- a byte is a digit or not
pub by-digit {ℓ} : {C : Type ℓ} (b : ℕ) → (48 ≤ b → b ≤ 57 → C) → (((s : List ℕ) → (digits_in (b ∷ s) ≡ 0) × (digits (b ∷ s) ≡ false)) → C) → C
unfolding digits_in digits
by-digit b f g = by-test (leb 48 b && leb b 57)
    (λ e. let p = both_true (leb 48 b) (leb b 57) e in f (leb-true 48 b p.0) (leb-true b 57 p.1))
    (λ e. g (λ s. (rw e, rw e)))

pub run-le : (s : List ℕ) → digits_in s ≤ length s
run-le [] = omega (arith, run-nil)
run-le (b ∷ s) = by-digit b
    (λ l u. omega (arith, run_more b s l u, run-le s))
    (λ z. omega (arith, (z s).0))

pub length-leading : (s : List ℕ) → length (leading s) ≡ digits_in s
length-leading s = length-take-le (digits_in s) s (run-le s)

-- ---- which they are
pub leading-more : (b : ℕ) (s : List ℕ) → 48 ≤ b → b ≤ 57 → leading (b ∷ s) ≡ b ∷ leading s
leading-more b s l u = rw (run_more b s l u)

pub leading-none : (s : List ℕ) → digits_in s ≡ 0 → leading s ≡ []
leading-none s e = rw e

pub leading-digits : (s : List ℕ) → digits (leading s) ≡ true
leading-digits [] = rw run-nil digits-nil
leading-digits (b ∷ s) = by-digit b
    (λ l u. rw (leading-more b s l u, digit-more b (leading s) l u) (leading-digits s))
    (λ z. rw (z s).0 digits-nil)

pub leading-first : (s : List ℕ) → 0 < digits_in s → get_or (leading s) 0 0 ≡ get_or s 0 0
leading-first s h = get_or-take (digits_in s) s 0 0 h

-- behind them stands no digit
pub run-over : (s : List ℕ) → digits_in (drop (digits_in s) s) ≡ 0
run-over [] = rw run-nil run-nil
run-over (b ∷ s) = by-digit b
    (λ l u. rw (run_more b s l u) (run-over s))
    (λ z. rw (z s).0 (z s).0)

pub no_digit : (b : ℕ) (s t : List ℕ) → digits_in (b ∷ s) ≡ 0 → digits (b ∷ t) ≡ false
no_digit b s t e = by-digit b
    (λ l u. absurd (omega (arith, run_more b s l u)))
    (λ z. (z t).1)

-- with more bytes than these it is not digits
longer-no-digits : (n : ℕ) (s : List ℕ) → digits_in s < n → n ≤ length s → digits (take n s) ≡ false
longer-no-digits zero s h k = absurd (omega arith)
longer-no-digits (suc n) [] h k = absurd (omega arith)
longer-no-digits (suc n) (b ∷ s) h k = by-digit b
    (λ l u. let m : digits_in s < n = omega (arith, run_more b s l u) in digit-more b (take n s) l u ∙ longer-no-digits n s m (omega arith))
    (λ z. (z (take n s)).1)

-- ---- the digits that begin at a place
module _ (l : List ℕ) (from : ℕ) where
  pub run_none : (i : ℕ) → is_number (leading (drop from l)) ≡ false → i ≡ from + digits_in (drop from l)
      → record { number = None; end = i } ≡ run_at l from
  unfolding run_at
  run_none i e k = rw (e, k)

  pub run-some : (x i : ℕ) → is_number (leading (drop from l)) ≡ true → x ≡ value_of (leading (drop from l)) → i ≡ from + digits_in (drop from l)
      → record { number = Some x; end = i } ≡ run_at l from
  unfolding run_at
  run-some x i e v k = rw (e, v, k)

  pub run-parts : {r : Run} → r ≡ run_at l from → (r.number ≡ number_of (leading (drop from l))) × (r.end ≡ from + digits_in (drop from l))
  unfolding run_at
  run-parts e = (ap (λ (r : Run). r.number) e, ap (λ (r : Run). r.end) e)

-- ---- the field that they begin
module _ (s : List ℕ) where
  -- no tab is among them
  run-before-tab : digits_in s ≤ byte_at 9 s
  run-before-tab = by-lt (byte_at 9 s) (digits_in s)
      (λ h.
      let t : byte_at 9 (leading s) < length (leading s) = omega (arith, byte-take 9 (digits_in s) s, length-leading s) in
      cc (leading-digits s, tab-no-digits (leading s) t))
      (λ h. h)

  -- the first tab stands behind them, or later if another byte stands there
  tab-behind : get_or s (digits_in s) 0 ≡ 9 → byte_at 9 s ≡ digits_in s
  tab-behind e = by-lt (digits_in s) (byte_at 9 s)
      (λ h. absurd ((first-at 9 s).none_before (digits_in s) h e))
      (λ h. omega (arith, run-before-tab))

  tab-later : digits_in s < length s → (get_or s (digits_in s) 0 ≡ 9 → ⊥) → digits_in s < byte_at 9 s
  tab-later h n = by-lt (digits_in s) (byte_at 9 s)
      (λ k. k)
      (λ k.
      let e : byte_at 9 s ≡ digits_in s = omega (arith, run-before-tab) in
      absurd (n (rw e at (byte-found 9 s (omega arith)))))

module _ (l : List ℕ) (from : ℕ) {r : Run} (p : r ≡ run_at l from) where
  behind : get_or l r.end 0 ≡ get_or (drop from l) (digits_in (drop from l)) 0
  behind = rw (run-parts l from p).1 (sym (get_or-drop from l (digits_in (drop from l)) 0))

  whole : byte_at 9 (drop from l) ≡ digits_in (drop from l) → ending_at r.end r.number ≡ scanned_at l from
  unfolding scanned_at
  whole e = let q = run-parts l from p in rw (q.0, q.1, e)

  -- they are all of it if the line ends behind them or a tab stands there
  pub run-last : length l ≤ r.end → ending_at r.end r.number ≡ scanned_at l from
  run-last h = whole (omega (arith, (run-parts l from p).1, length-drop from l, run-before-tab (drop from l), byte_le 9 (drop from l)))

  pub run-tab : get_or l r.end 0 ≡ 9 → ending_at r.end r.number ≡ scanned_at l from
  run-tab e = whole (tab-behind (drop from l) (sym behind ∙ e))

  -- else it is no number
  pub run-other : r.end < length l → (get_or l r.end 0 ≡ 9 → ⊥) → None ≡ scanned_at l from
  run-other h n =
      let k : digits_in (drop from l) < length (drop from l) = omega (arith, (run-parts l from p).1, length-drop from l) in
      let t = tab-later (drop from l) k (λ e. n (behind ∙ e)) in
      scanned-none l from (no-digits _ (longer-no-digits (byte_at 9 (drop from l)) (drop from l) t (byte_le 9 (drop from l))))
