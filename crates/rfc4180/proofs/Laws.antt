-- The reader's clauses as equations.
use mathlib.Core.Path.{◌≡◌, refl}
use mathlib.Core.Bool.{true, false}
use mathlib.Core.List.{List, [], ◌∷◌}
use Prim.Native.Nat.{ℕ}
use lib.Dec.{eqb}
use Rattle.rfc4180.specs.Reader.{is_text, is_inside, Scan, push, skip, plain_of, inside_of, field_of}

-- ---- without quotes
pub plain-nil : plain_of [] ≡ Scan.found [] 0
unfolding plain_of
plain-nil = refl

pub plain_more : (b : ℕ) (s : List ℕ) → is_text b ≡ true → plain_of (b ∷ s) ≡ push b (plain_of s)
unfolding plain_of
plain_more b s e = rw e

pub plain-stop : (b : ℕ) (s : List ℕ) → is_text b ≡ false → plain_of (b ∷ s) ≡ Scan.found [] 0
unfolding plain_of
plain-stop b s e = rw e

-- ---- between quotes
pub inside-nil : inside_of [] ≡ Scan.broken
unfolding inside_of
inside-nil = refl

pub inside-last : (b : ℕ) → eqb b 0x22 ≡ true → inside_of (b ∷ []) ≡ Scan.found [] 1
unfolding inside_of
inside-last b e = rw e

pub inside-close : (b c : ℕ) (s : List ℕ) → eqb b 0x22 ≡ true → eqb c 0x22 ≡ false → inside_of (b ∷ c ∷ s) ≡ Scan.found [] 1
unfolding inside_of
inside-close b c s e f = rw (e, f)

pub inside-two : (b c : ℕ) (s : List ℕ) → eqb b 0x22 ≡ true → eqb c 0x22 ≡ true → inside_of (b ∷ c ∷ s) ≡ skip (push 0x22 (inside_of s))
unfolding inside_of
inside-two b c s e f = rw (e, f)

pub inside-break : (b : ℕ) (s : List ℕ) → eqb b 0x22 ≡ false → is_inside b ≡ false → inside_of (b ∷ s) ≡ Scan.broken
unfolding inside_of
inside-break b [] e f = rw e
inside-break b (c ∷ s) e f = rw (e, f)

pub inside-more : (b : ℕ) (s : List ℕ) → eqb b 0x22 ≡ false → is_inside b ≡ true → inside_of (b ∷ s) ≡ push b (inside_of s)
unfolding inside_of
inside-more b [] e f = rw e
inside-more b (c ∷ s) e f = rw (e, f)

-- ---- a field
pub field-nil : field_of [] ≡ Scan.found [] 0
unfolding field_of
field-nil = refl

pub field-quote : (b : ℕ) (s : List ℕ) → eqb b 0x22 ≡ true → field_of (b ∷ s) ≡ skip (inside_of s)
unfolding field_of
field-quote b s e = rw e

pub field_plain : (b : ℕ) (s : List ℕ) → eqb b 0x22 ≡ false → field_of (b ∷ s) ≡ plain_of (b ∷ s)
unfolding field_of
field_plain b s e = rw e
