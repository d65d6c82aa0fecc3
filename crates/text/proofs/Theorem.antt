-- What specs/Promise promises.
use mathlib.Core.Path.{◌≡◌, refl, sym, ◌∙◌, ap}
use mathlib.Core.List.{List}
use Prim.Native.Nat.{ℕ}
use native.Mathlib.Omega.{arith}
use Rattle.std.specs.Prelude.{Some}
use Rattle.text.specs.Numbers.{value_of, number_of}
use Rattle.text.specs.Digits.{digits_of, digits_within}
use Rattle.text.specs.Bytes.{bytes_of}
use Rattle.text.specs.Promise.{Digits, ReadAs, TextPromise}
use Rattle.text.proofs.Bytes.{first-at}
use Rattle.text.proofs.Fields.{joined-fields, fields-joined}
use Rattle.text.proofs.Values.{number-parts, read_number}
use Rattle.text.proofs.Digits.{one-digit, some-digit, digits-of-digits, first-not-zero, value-of-digits, most-digits, number-of-digits, number-back, short-number}

of-digits : (n : ℕ) → Digits n
of-digits n = record {
  some = some-digit n;
  each = digits-of-digits n;
  no_leading_zero = first-not-zero n;
  value = value-of-digits n;
  few = most-digits n;
  read_back = λ h. let p = number-of-digits n h in rw (p.0, p.1);
}

read_as : (s : List ℕ) (n : ℕ) → number_of s ≡ Some n → ReadAs s n
read_as s n e =
    let p = read_number s n e in
    let v : value_of s ≡ n = p.1 in
    record {
      range = omega (arith, (number-parts s p.0).2);
      canonical = ap digits_of (sym v) ∙ number-back s p.0;
      short = short-number s p.0;
    }

pub text-promise : TextPromise
unfolding digits_of digits_within bytes_of
text-promise = record {
  ascii = refl;
  first = first-at;
  fields = joined-fields;
  parted = fields-joined;
  zero_digit = one-digit 0 (omega arith);
  digits = of-digits;
  number = read_as;
  greatest = refl;
  longest = refl;
}
