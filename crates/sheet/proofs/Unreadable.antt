-- Lines that are in no form: those with a number that has a leading zero or is above the greatest.
use mathlib.Core.Path.{◌≡◌, refl, sym, ap, ◌∙◌}
use mathlib.Core.Logic.{◌≢◌}
use mathlib.Core.List.{List, [], ◌∷◌, ◌++◌, map}
use Prim.Native.Nat.{ℕ, zero, suc, ◌≤◌, ◌<◌}
use native.Mathlib.Omega.{arith}
use borrow.Author.Tests.{ne_eqb}
use lib.Dec.{eqb}
use lib.ListN.{length, get_or}
use Rattle.text.specs.Bytes.{bytes_of}
use Rattle.text.specs.Digits.{digits_of}
use Rattle.text.specs.Fields.{fields_of, first_field}
use Rattle.text.specs.Numbers.{value_of}
use Rattle.text.proofs.Digits.{tabless-digits}
use Rattle.text.specs.Promise.{Tabless}
use Rattle.text.proofs.Fields.{first_field_lem, first-later, fields-joined}
use Rattle.text.proofs.Test.{by-test}
use Rattle.text.proofs.Theorem.{text-promise}
use Rattle.lines.specs.Grammar.{word_of}
use Rattle.lines.specs.declared.Command.{Command}
use Rattle.lines.proofs.Lists.{tabless}
use Rattle.lines.proofs.Words.{tabless-word}
use Rattle.sheet.specs.Promise.{line, greatest, InRange, FirstIs, WrittenIn, Unreadable}
use Rattle.sheet.proofs.Written.{name_of, form_of, same_word, line-joined, first-is}

-- ---- the fields in front of a tab and behind it
fields-tab : (front l : List ℕ) → fields_of (front ++ 9 ∷ l) ≡ fields_of front ++ fields_of l
unfolding fields_of
fields-tab [] l = refl
fields-tab (b ∷ front) l = by-test (eqb b 9)
    (λ e. rw (e, fields-tab front l))
    (λ e. rw (e, fields-tab front l, (first_field_lem front).1))

-- ---- the fields of a line in a form
pub fields-written : (c : Command) (ns : List ℕ) → fields_of (line (name_of c) ns) ≡ word_of c ∷ map digits_of ns
unfolding Tabless
fields-written c ns = rw (same_word, line-joined) (fields-joined (word_of c) (map digits_of ns) (tabless-word c, tabless ns))

-- one of numbers in range is written by f
number-among : (ns : List ℕ) (fs : List (List ℕ)) (f : List ℕ) (gs : List (List ℕ)) → InRange ns → map digits_of ns ≡ fs ++ f ∷ gs
    → (n : ℕ) × (n ≤ greatest) × (digits_of n ≡ f)
number-among [] [] f gs r e = let z : ◌≡◌ {A = ℕ} 0 1 = cc in absurd (omega arith)
number-among [] (g ∷ fs) f gs r e = let z : ◌≡◌ {A = ℕ} 0 1 = cc in absurd (omega arith)
number-among (n ∷ ns) [] f gs r e = (n, r.0, cc)
number-among (n ∷ ns) (g ∷ fs) f gs r e = number-among ns fs f gs r.1 (cc)

-- what stands behind a tab begins with a number in range
behind-tab : (k : ℕ) (d : Command) (front l : List ℕ) → WrittenIn (form_of k 0 d) (front ++ 9 ∷ l) → (n : ℕ) × (n ≤ greatest) × (digits_of n ≡ first_field l)
behind-tab k d front l w =
    let fs = (first_field_lem front).0 in
    let gs = (first_field_lem l).0 in
    let e : word_of d ∷ map digits_of w.numbers ≡ first_field front ∷ (fs ++ first_field l ∷ gs) =
    sym (fields-written d w.numbers) ∙ ap fields_of (sym w.text) ∙ fields-tab front l ∙ rw ((first_field_lem front).1, (first_field_lem l).1) in
    number-among w.numbers fs (first_field l) gs w.range (cc)

-- ---- in no command's form, in none
in-none : (k : ℕ) (l : List ℕ) → ((d : Command) → WrittenIn (form_of k 0 d) l → ⊥) → Unreadable k l
in-none k l h = (
  h Command.Cells,
  (h Command.Open, (h Command.Item, (h Command.Order, (h Command.Turn, (h Command.Run, (h Command.Close, (h Command.List, tt))))))),
)

no_leading_zero : (n b : ℕ) (ds : List ℕ) → digits_of n ≡ 48 ∷ b ∷ ds → ⊥
no_leading_zero zero b ds e = let l = ap length (sym text-promise.zero_digit ∙ e) in omega arith
no_leading_zero (suc n) b ds e = omega (arith, (text-promise.digits (suc n)).no_leading_zero (omega arith), ap (λ (x : List ℕ). get_or x 0 0) e)

pub leading_zero : (front rest : List ℕ) (k b : ℕ) → b ≢ 9 → Unreadable k (front ++ (bytes_of "\t0" ++ b ∷ rest))
unfolding bytes_of
leading_zero front rest k b h = in-none k (front ++ 9 ∷ 48 ∷ b ∷ rest)
    (λ d w.
    let (n, _, e) = behind-tab k d front (48 ∷ b ∷ rest) w in
    no_leading_zero n b (first_field rest) (e ∙ first-later 48 (b ∷ rest) refl ∙ rw (first-later b rest (ne_eqb b 9 h))))

pub above : (front rest : List ℕ) (k n : ℕ) → greatest < n → FirstIs (digits_of n) rest → Unreadable k (front ++ (bytes_of "\t" ++ rest))
unfolding bytes_of
above front rest k n h is = in-none k (front ++ 9 ∷ rest)
    (λ d w.
    let (m, few, e) = behind-tab k d front rest w in
    let same : digits_of m ≡ digits_of n = e ∙ first-is (digits_of n) rest (tabless-digits n) is in
    omega (arith, (text-promise.digits m).value, (text-promise.digits n).value, ap value_of same))
