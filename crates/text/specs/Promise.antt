-- What is promised of fields, numbers and digits. Proved in proofs/Theorem.
use Rattle.std.specs.Prelude.{◌≡◌, ◌≢◌, true, List, [], ◌∷◌, ℕ, ◌^◌, ◌≤◌, ◌<◌, length, get_or, Some}
use Rattle.text.specs.Bytes.{byte_at, bytes_of}
use Rattle.text.specs.Fields.{fields_of, joined}
use Rattle.text.specs.Numbers.{longest_number, digits, value_of, number_of}
use Rattle.text.specs.Digits.{most_digits, digits_of}

-- ---- the digits of n
pub record Digits (n : ℕ) : Type 0 where
  pub some : 0 < length (digits_of n)
  pub each : digits (digits_of n) ≡ true
  pub no_leading_zero : 0 < n → 48 < get_or (digits_of n) 0 0
  pub value : value_of (digits_of n) ≡ n
  pub few : n < 2 ^ 64 → length (digits_of n) ≤ most_digits
  -- they are read back, up to the greatest number that is read
  pub read_back : n ≤ 4294967295 → number_of (digits_of n) ≡ Some n

-- ---- a field s that is read as n
pub record ReadAs (s : List ℕ) (n : ℕ) : Type 0 where
  pub range : n ≤ 4294967295
  -- it is the writing of n: no other field is read as n
  pub canonical : digits_of n ≡ s
  pub short : length s ≤ longest_number

-- ---- n is the place of the first byte x of a list, or its length
pub record FirstAt (x : ℕ) (l : List ℕ) (n : ℕ) : Type 0 where
  pub within : n ≤ length l
  pub none_before : (i : ℕ) → i < n → get_or l i 0 ≢ x
  pub found : n < length l → get_or l n 0 ≡ x

-- ---- no field has a tab
unfoldable pub Tabless : List (List ℕ) → Type 0
Tabless [] = Unit {0}
Tabless (f ∷ fs) = (byte_at 9 f ≡ length f) × Tabless fs

pub record TextPromise : Type 0 where
  -- texts are in ASCII
  pub ascii : bytes_of "\t\n-09AZaz" ≡ 9 ∷ 10 ∷ 45 ∷ 48 ∷ 57 ∷ 65 ∷ 90 ∷ 97 ∷ 122 ∷ []
  pub first : (x : ℕ) (l : List ℕ) → FirstAt x l (byte_at x l)
  -- the fields are the line, cut at its tabs, and at every tab
  pub fields : (l : List ℕ) → joined (fields_of l) ≡ l
  pub parted : (f : List ℕ) (fs : List (List ℕ)) → Tabless (f ∷ fs) → fields_of (joined (f ∷ fs)) ≡ f ∷ fs
  pub zero_digit : digits_of 0 ≡ 48 ∷ []
  pub digits : (n : ℕ) → Digits n
  pub number : (s : List ℕ) (n : ℕ) → number_of s ≡ Some n → ReadAs s n
  -- the greatest number is written in tens, and has as many digits as the longest
  pub greatest : digits_of 4294967295 ≡ bytes_of "4294967295"
  pub longest : length (digits_of 4294967295) ≡ longest_number
