-- One byte further: a digit is taken, or the digits end there.
use Rattle.std.proofs.Common.{◌≡◌, ◌⊎◌, ◌+◌, ◌-◌, ◌*◌, ◌%◌, ◌^◌, ◌≤◌, ◌<◌, ℕ, suc, true, false, List, length, get_or, drop, sym, ◌∙◌, ⊎_elim, arith, add-one, drop-cons}
use native.Mathlib.Nat.{add-zero, pow-le-pow_right, pow-succ', mod-eq_of_lt, mod-lt}
use lib.ListN.{length-drop, drop_of_length-le}
use lib.Seq.{get_or-drop}
use Rattle.std.specs.Prelude.{Some, None}
use Rattle.text.specs.Numbers.{greatest_number, longest_number, leads, value_from, value_of, digits_in, leading, run_at}
use Rattle.text.proofs.Values.{leads-nil, leads-zero, leads-alone, leads-other, value-nil, value-cons, no_lead, too-great, is-number}
use Rattle.text.proofs.Digits.{too_long}
use Rattle.text.proofs.Test.{by-lt}
use Rattle.text.proofs.Runs.{run-nil, run_more, run-below, run-above, run-le, run_none, run-some}
use Rattle.text.proofs.Runs.{length-leading, leading-more, leading-none, leading-digits, leading-first}

-- what the value is kept below
abbrev pub room : ℕ
room = 1152921504606846976

-- what the loop keeps of the digits
pub record Gathering (s : List ℕ) (from x i : ℕ) : Type 0 where
  pub on : from ≤ i
  pub end : i + digits_in (drop i s) ≡ from + digits_in (drop from s)
  pub below : x < room
  pub few : i - from ≤ longest_number → x < 10 ^ (i - from)
  pub exact : i - from ≤ longest_number → value_from x (leading (drop i s)) ≡ value_of (leading (drop from s))

-- ---- a digit more
next-few : (x d k : ℕ) → x < 10 ^ k → d < 10 → 10 * x + d < 10 ^ suc k
next-few x d k h l = omega (arith, pow-succ' 10 k)

-- the longest number has room
enough : (k : ℕ) → k ≤ longest_number → 10 ^ k < room
enough k h = let m : 10 ^ k ≤ 10 ^ 10 = pow-le-pow_right (omega arith) h in omega (arith, m)

module _ {s : List ℕ} {from x i : ℕ} (v : Gathering s from x i) (h : i < length s) (l : 48 ≤ get_or s i 0) (u : get_or s i 0 ≤ 57) where
  next-end : suc i + digits_in (drop (suc i) s) ≡ from + digits_in (drop from s)
  next-end = omega (arith, rw (drop-cons s i 0 h, run_more _ (drop (suc i) s) l u) at v.end)

  next-value : i - from ≤ longest_number → value_from (10 * x + (get_or s i 0 - 48)) (leading (drop (suc i) s)) ≡ value_of (leading (drop from s))
  next-value m = sym (value-cons x _ _) ∙ (rw (drop-cons s i 0 h, leading-more _ (drop (suc i) s) l u) at (v.exact m))

  next-below : suc i - from ≤ longest_number → 10 * x + (get_or s i 0 - 48) < 10 ^ (suc i - from)
  next-below m =
      let e : suc i - from ≡ suc (i - from) = omega (arith, v.on) in
      rw e (next-few x (get_or s i 0 - 48) (i - from) (v.few (omega arith)) (omega arith))

  kept : suc i - from ≤ longest_number → (10 * x + (get_or s i 0 - 48)) % room ≡ 10 * x + (get_or s i 0 - 48)
  kept m = mod-eq_of_lt (omega (arith, next-below m, enough (suc i - from) m))

  pub taken : Gathering s from ((10 * x + (get_or s i 0 - 48)) % room) (i + 1)
  taken = rw add-one
      (record {
        on = omega (arith, v.on);
        end = next-end;
        below = mod-lt (10 * x + (get_or s i 0 - 48)) (omega arith);
        few = λ m. rw (kept m) (next-below m);
        exact = λ m. rw (kept m) (next-value (omega arith));
      })

-- ---- no digit more
module _ (s : List ℕ) (i : ℕ) where
  pub past : length s ≤ i → digits_in (drop i s) ≡ 0
  past h = rw (drop_of_length-le s h) run-nil

  pub lower : i < length s → get_or s i 0 < 48 → digits_in (drop i s) ≡ 0
  lower h l = rw (drop-cons s i 0 h) (run-below _ _ l)

  pub higher : i < length s → 57 < get_or s i 0 → digits_in (drop i s) ≡ 0
  higher h l = rw (drop-cons s i 0 h) (run-above _ _ l)

module _ {s : List ℕ} {from x i : ℕ} (v : Gathering s from x i) (z : digits_in (drop i s) ≡ 0) where
  ended : i ≡ from + digits_in (drop from s)
  ended = omega (arith, v.end)

  value : i - from ≤ longest_number → x ≡ value_of (leading (drop from s))
  value m = sym (value-nil x) ∙ (rw (leading-none (drop i s) z) at (v.exact m))

  long : from + length (leading (drop from s)) ≡ i
  long = omega (arith, ended, length-leading (drop from s))

  first : from < i → get_or (leading (drop from s)) 0 0 ≡ get_or s from 0
  first h = leading-first (drop from s) (omega (arith, ended)) ∙ get_or-drop from s 0 0 ∙ rw (add-zero from)

  inside : from < i → from < length s
  inside h = omega (arith, ended, run-le (drop from s), length-drop from s)

  pub unled : leads (leading (drop from s)) ≡ false → record { number = None; end = i } ≡ run_at s from
  unled e = run_none s from i (no_lead _ e) ended

  pub empty : i ≤ from → record { number = None; end = i } ≡ run_at s from
  empty h = unled (leads-nil _ (omega (arith, long)))

  pub too_many : longest_number < i - from → record { number = None; end = i } ≡ run_at s from
  too_many h = run_none s from i (too_long _ (omega (arith, long))) ended

  pub too-high : i - from ≤ longest_number → greatest_number < x → record { number = None; end = i } ≡ run_at s from
  too-high k m = run_none s from i (too-great _ (omega (arith, value k))) ended

  -- also where nothing is known of how many they are
  pub too-big : greatest_number < x → record { number = None; end = i } ≡ run_at s from
  too-big m = by-lt longest_number (i - from) too_many (λ k. too-high k m)

  pub zeros : from < i → get_or s from 0 ≡ 48 → 1 < i - from → record { number = None; end = i } ≡ run_at s from
  zeros h e k = unled (leads-zero _ (first h ∙ e) (omega (arith, long)))

  pub led : from < i → (i - from ≤ 1) ⊎ (get_or s from 0 ≡ 48 → ⊥) → leads (leading (drop from s)) ≡ true
  led h = ⊎_elim
      (λ (k : i - from ≤ 1). leads-alone _ (omega (arith, long)))
      (λ (k : get_or s from 0 ≡ 48 → ⊥). leads-other _ (omega (arith, long)) (λ e. k (sym (first h) ∙ e)))

  pub done : i - from ≤ longest_number → x ≤ greatest_number → leads (leading (drop from s)) ≡ true → record { number = Some x; end = i } ≡ run_at s from
  done k m e = run-some s from x i (is-number _ e (leading-digits (drop from s)) (omega (arith, value k))) (value k) ended
