-- The numbers that fields write: decimal digits without a leading zero, up to the greatest number of 32 bits.
use Rattle.std.specs.Prelude.{Bool, true, false, ◌&&◌, not, cond, List, [], ◌∷◌, ℕ, suc, ◌+◌, ◌-◌, ◌*◌, leb, eqb, take, drop, Option, Some, None}
use Rattle.text.specs.declared.Run.{Run}
use Rattle.text.specs.declared.Scanned.{Scanned}
use Rattle.text.specs.Bytes.{byte_at}
use Rattle.text.specs.Fields.{first_field}

-- the greatest number that is read
abbrev pub greatest_number : ℕ
greatest_number = 4294967295

-- how many digits it has: no number that is read has more
abbrev pub longest_number : ℕ
longest_number = 10

-- every byte is a decimal digit, 48 to 57
unfoldable pub digits : List ℕ → Bool
digits [] = true
digits (b ∷ bs) = leb 48 b && leb b 57 && digits bs

-- not empty, and without a leading zero (48) before other digits
unfoldable pub leads : List ℕ → Bool
leads [] = false
leads (b ∷ []) = true
leads (b ∷ c ∷ bs) = not (eqb b 48)

-- the value of digits behind digits of value x
unfoldable pub value_from : ℕ → List ℕ → ℕ
value_from x [] = x
value_from x (b ∷ bs) = value_from (10 * x + (b - 48)) bs

-- the value of digits, the most significant first
abbrev pub value_of : List ℕ → ℕ
value_of s = value_from 0 s

-- a field that writes a number
unfoldable pub is_number : List ℕ → Bool
is_number s = leads s && digits s && leb (value_of s) greatest_number

-- the number that a field writes
abbrev pub number_of : List ℕ → Option ℕ
number_of s = cond (is_number s) (Some (value_of s)) None

-- ---- a number within a line
-- a number, and the place where its field ends
abbrev pub ending_at : ℕ → Option ℕ → Option Scanned
ending_at e (Some n) = Some (record { number = n; end = e })
ending_at e None = None

-- the number of the field that begins at a place of a line
unfoldable pub scanned_at : List ℕ → ℕ → Option Scanned
scanned_at l from = ending_at (from + byte_at 9 (drop from l)) (number_of (first_field (drop from l)))

-- ---- a number within any text
-- how many decimal digits stand in front
unfoldable pub digits_in : List ℕ → ℕ
digits_in [] = 0
digits_in (b ∷ bs) = cond (leb 48 b && leb b 57) (suc (digits_in bs)) 0

-- the digits in front
abbrev pub leading : List ℕ → List ℕ
leading s = take (digits_in s) s

-- the digits that begin at a place
unfoldable pub run_at : List ℕ → ℕ → Run
run_at l from = record { number = number_of (leading (drop from l)); end = from + digits_in (drop from l) }
