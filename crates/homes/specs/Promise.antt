-- What is promised of homes, without the definition's parts. Proved in proofs/Theorem.
use Rattle.std.specs.Prelude.{◌≡◌, ◌↔◌, true, false, ℕ, ◌+◌, ◌*◌, ◌<◌}
use Rattle.layout.specs.Home.{modulo}
use Rattle.homes.specs.Homes.{hash_of, plain, mixed, spread, is_even}
use Rattle.homes.specs.declared.Hash.{Hash}

-- a number is even, and odd
abbrev pub Even : ℕ → Type 0
Even n = (h : ℕ) × (n ≡ h + h)

abbrev pub Odd : ℕ → Type 0
Odd n = (h : ℕ) × (n ≡ h + h + 1)

pub record HomesPromise : Type 0 where
  -- a home is a cell of the table
  pub inside : (ab : Hash) (n x : ℕ) → 0 < n → spread ab n x < n
  -- a times the label plus b is q times 2³² and a rest, and that is p times the length and a rest: the home
  pub is : (ab : Hash) (n x q rest p cell : ℕ) → ab.a * x + ab.b ≡ q * 4294967296 + rest → rest < 4294967296 → rest ≡ p * n + cell → cell < n
      → spread ab n x ≡ cell
  -- of the two numbers the first is a and the second b; a label's number is what its home is a rest of
  pub numbers : (a b : ℕ) → ((hash_of a b).a ≡ a) × ((hash_of a b).b ≡ b)
  pub number : (ab : Hash) (n x : ℕ) → spread ab n x ≡ modulo n (mixed ab x)
  -- with a of 1 and b of 0 the home of a label, which has 32 bits, is that of document 01: the label modulo the length
  pub as_before : (n x : ℕ) → x < 4294967296 → spread plain n x ≡ modulo n x
  -- which a are even
  pub even : (ab : Hash) → is_even ab ≡ true ↔ Even ab.a
  pub odd : (ab : Hash) → is_even ab ≡ false ↔ Odd ab.a
  -- with an odd a two labels are two numbers before the length is looked at: only the length brings labels together
  pub apart : (ab : Hash) → Odd ab.a → (x y : ℕ) → x < 4294967296 → y < 4294967296 → mixed ab x ≡ mixed ab y → x ≡ y
