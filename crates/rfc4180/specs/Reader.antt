-- A reader of one record of two fields, as functions on the bytes of a text. specs/Promise ties it to the grammar.
use Rattle.std.specs.Prelude.{Bool, true, false, cond, List, [], ◌∷◌, ℕ, suc, ◌+◌, leb, eqb, drop}
use Rattle.rfc4180.specs.Grammar.{Pair, pair}

-- ---- bytes
unfoldable pub is_text : ℕ → Bool
is_text b = cond (leb b 0x21) (leb 0x20 b) (cond (leb b 0x2B) (leb 0x23 b) (cond (leb 0x2D b) (leb b 0x7E) false))

-- a byte between quotes, other than a quote
unfoldable pub is_inside : ℕ → Bool
is_inside b = cond (eqb b 0x2C) true (cond (eqb b 0x0D) true (cond (eqb b 0x0A) true (is_text b)))

-- ---- fields
-- what stands in front of a text: a value, and in how many bytes
pub data Scan : Type 0 where
  broken : Scan
  found : List ℕ → ℕ → Scan

-- a byte in front that is the value's
abbrev pub push : ℕ → Scan → Scan
push b Scan.broken = Scan.broken
push b (Scan.found v n) = Scan.found (b ∷ v) (suc n)

-- a byte in front that is not
abbrev pub skip : Scan → Scan
skip Scan.broken = Scan.broken
skip (Scan.found v n) = Scan.found v (suc n)

-- a field without quotes: the bytes up to the first that is no TEXTDATA
unfoldable pub plain_of : List ℕ → Scan
plain_of [] = Scan.found [] 0
plain_of (b ∷ s) = cond (is_text b) (push b (plain_of s)) (Scan.found [] 0)

-- behind an opening quote, up to the closing one
unfoldable pub inside_of : List ℕ → Scan
inside_of [] = Scan.broken
inside_of (b ∷ []) = cond (eqb b 0x22) (Scan.found [] 1) Scan.broken
inside_of (b ∷ c ∷ s) =
    cond (eqb b 0x22)
    (cond (eqb c 0x22) (skip (push 0x22 (inside_of s))) (Scan.found [] 1))
    (cond (is_inside b) (push b (inside_of (c ∷ s))) Scan.broken)

unfoldable pub field_of : List ℕ → Scan
field_of [] = Scan.found [] 0
field_of (b ∷ s) = cond (eqb b 0x22) (skip (inside_of s)) (plain_of (b ∷ s))

-- ---- a record
-- the values of two fields, and in how many bytes, those of the record's end included
pub data Parsed : Type 0 where
  broken : Parsed
  parsed : Pair → ℕ → Parsed

-- the bytes of a record's end
unfoldable pub end_of : List ℕ → Scan
end_of [] = Scan.found [] 0
end_of (b ∷ []) = Scan.broken
end_of (b ∷ c ∷ s) = cond (eqb b 0x0D) (cond (eqb c 0x0A) (Scan.found [] 2) Scan.broken) Scan.broken

-- fields a and b in n bytes, and the end
abbrev pub with_end : List ℕ → List ℕ → ℕ → Scan → Parsed
with_end a b n Scan.broken = Parsed.broken
with_end a b n (Scan.found v m) = Parsed.parsed (pair a b) (n + m)

-- field a and the comma in n bytes, and the second field in front of t
abbrev pub with_second : List ℕ → ℕ → Scan → List ℕ → Parsed
with_second a n Scan.broken t = Parsed.broken
with_second a n (Scan.found b m) t = with_end a b (n + m) (end_of (drop m t))

-- field a in n bytes, and behind it s
abbrev pub with_comma : List ℕ → ℕ → List ℕ → Parsed
with_comma a n [] = Parsed.broken
with_comma a n (c ∷ t) = cond (eqb c 0x2C) (with_second a (suc n) (field_of t) t) Parsed.broken

-- the first field in front of s
abbrev pub with_first : Scan → List ℕ → Parsed
with_first Scan.broken s = Parsed.broken
with_first (Scan.found a n) s = with_comma a n (drop n s)

unfoldable pub record_of : List ℕ → Parsed
record_of s = with_first (field_of s) s
