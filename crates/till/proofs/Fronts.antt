-- The record in front of a text: what the reader finds there, by the grammar and the digits of numbers.
use Rattle.std.specs.Prelude.{Option, Some, None}
use mathlib.Core.Path.{◌≡◌, refl, sym, ◌∙◌, ap}
use mathlib.Core.Logic.{◌⊎◌, inl, inr}
use mathlib.Core.List.{List}
use Prim.Native.Nat.{ℕ, ◌≤◌, ◌<◌}
use lib.ListN.{length, drop}
use native.Mathlib.Omega.{arith}
use Rattle.text.specs.Digits.{digits_of}
use Rattle.text.specs.Numbers.{number_of}
use Rattle.text.proofs.Theorem.{text-promise}
use Rattle.rfc4180.specs.Grammar.{Begins, Pair, pair, values}
use Rattle.rfc4180.specs.Reader.{Parsed, record_of}
use Rattle.rfc4180.proofs.Theorem.{csv-promise}
use Rattle.till.specs.Till.{Line, line, Front, front_by, front_with, front_of}
use Rattle.till.specs.Promise.{Fits, written, FitsLine, NoNumber}

-- ---- numbers
number-back : (v : List ℕ) (n : ℕ) → number_of v ≡ Some n → Fits n × (digits_of n ≡ v)
number-back v n e = let r = text-promise.number v n e in (omega (arith, r.range), r.canonical)

number-of : (n : ℕ) → Fits n → number_of (digits_of n) ≡ Some n
number-of n h = (text-promise.digits n).read_back (omega arith)

no_number : (v : List ℕ) → number_of v ≡ None → NoNumber v
no_number v e n h q = let r : None ≡ Some n = sym e ∙ ap number_of q ∙ number-of n h in cc

unreadable : (v : List ℕ) (m : Option ℕ) → number_of v ≡ m → NoNumber v → number_of v ≡ None
unreadable v (Some n) e f = let b = number-back v n e in absurd (f n b.0 (sym b.1))
unreadable v None e f = e

-- ---- what a front is
pub record IsWrong (s : List ℕ) : Type 0 where
  pub first : List ℕ
  pub second : List ℕ
  pub next : List ℕ
  pub begins : Begins s (values (pair first second)) next
  pub no_number : NoNumber first ⊎ NoNumber second

pub record IsLine (s : List ℕ) (l : Line) (n : ℕ) : Type 0 where
  pub fit : FitsLine l
  pub begins : Begins s (values (written l)) (drop n s)
  pub some : 0 < n
  pub within : n ≤ length s

abbrev pub Is : List ℕ → Front → Type 0
Is s Front.broken = (p : Pair) (next : List ℕ) → Begins s (values p) next → ⊥
Is s Front.wrong = IsWrong s
Is s (Front.front l n) = IsLine s l n

is-by : (s a b : List ℕ) (n : ℕ) (x y : Option ℕ) → record_of s ≡ Parsed.parsed (pair a b) n → number_of a ≡ x → number_of b ≡ y → Is s (front_by x y n)
is-by s a b n (Some k) (Some p) e ea eb =
    let i = csv-promise.reads s in
    let (hk, qa) = number-back a k ea in
    let (hp, qb) = number-back b p eb in
    record { fit = (hk, hp); begins = rw (qa, qb) (i.sound (pair a b) n e); some = (i.some (pair a b) n e).0; within = (i.some (pair a b) n e).1 }
is-by s a b n (Some k) None e ea eb = record {
  first = a;
  second = b;
  next = drop n s;
  begins = (csv-promise.reads s).sound (pair a b) n e;
  no_number = inr (no_number b eb);
}
is-by s a b n None y e ea eb = record {
  first = a;
  second = b;
  next = drop n s;
  begins = (csv-promise.reads s).sound (pair a b) n e;
  no_number = inl (no_number a ea);
}

is-with : (s : List ℕ) (x : Parsed) → record_of s ≡ x → Is s (front_with x)
is-with s Parsed.broken e = λ p next b.
    let (n, q, _) = (csv-promise.reads s).complete p next b in
    let r : Parsed.broken ≡ Parsed.parsed p n = sym e ∙ q in
    cc
is-with s (Parsed.parsed (pair a b) n) e = is-by s a b n (number_of a) (number_of b) e refl refl

pub front-is : (s : List ℕ) → Is s (front_of s)
unfolding front_of
front-is s = is-with s (record_of s) refl

-- ---- and only that
pub line-front : (s next : List ℕ) (l : Line) → FitsLine l → Begins s (values (written l)) next → (n : ℕ) × (front_of s ≡ Front.front l n) × (drop n s ≡ next)
unfolding front_of
line-front s next (line k p) (hk, hp) b =
    let (n, q, d) = (csv-promise.reads s).complete (pair (digits_of k) (digits_of p)) next b in
    (n, ap front_with q ∙ rw (number-of k hk, number-of p hp), d)

second-wrong : (x : Option ℕ) (n : ℕ) → front_by x None n ≡ Front.wrong
second-wrong (Some k) n = refl
second-wrong None n = refl

not_both : (a b : List ℕ) (n : ℕ) → NoNumber a ⊎ NoNumber b → front_by (number_of a) (number_of b) n ≡ Front.wrong
not_both a b n (inl f) = rw (unreadable a (number_of a) refl f)
not_both a b n (inr f) = rw (unreadable b (number_of b) refl f) (second-wrong (number_of a) n)

pub wrong-front : (s : List ℕ) → IsWrong s → front_of s ≡ Front.wrong
unfolding front_of
wrong-front s w =
    let (n, q, _) = (csv-promise.reads s).complete (pair w.first w.second) w.next w.begins in
    ap front_with q ∙ not_both w.first w.second n w.no_number

pub broken-front : (s : List ℕ) → ((p : Pair) (next : List ℕ) → Begins s (values p) next → ⊥) → front_of s ≡ Front.broken
unfolding front_of
broken-front s f = broken-with (record_of s) refl
  where
    broken-with : (x : Parsed) → record_of s ≡ x → front_with (record_of s) ≡ Front.broken
    broken-with Parsed.broken e = ap front_with e
    broken-with (Parsed.parsed p n) e = absurd (f p (drop n s) ((csv-promise.reads s).sound p n e))
