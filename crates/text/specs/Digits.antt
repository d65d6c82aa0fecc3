-- The decimal digits of a number, as bytes 48 to 57, the most significant first.
use Rattle.std.specs.Prelude.{cond, List, [], ◌∷◌, ◌++◌, ℕ, zero, suc, ◌+◌, ◌/◌, ◌%◌, ltb}

-- the digits of n: those of n / 10, then the last one. k bounds the number of digits; n + 1 is always enough
unfoldable pub digits_within : ℕ → ℕ → List ℕ
digits_within zero n = []
digits_within (suc k) n =
    let more : List ℕ = digits_within k (n / 10) ++ (48 + n % 10) ∷ [] in
    cond (ltb n 10) ((48 + n) ∷ []) more

-- a 64-bit number has at most so many
abbrev pub most_digits : ℕ
most_digits = 20

unfoldable pub digits_of : ℕ → List ℕ
digits_of n = digits_within (suc n) n
