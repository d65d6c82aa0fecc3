-- The grammar of RFC 4180, section 2, over the bytes of a text and without a header: one data type for each production.
-- Behind the text stands its value: what the fields say once their quotes are taken off. `Quoted` and `Tail` are parts of productions; bytes are
-- written out: COMMA 0x2C, CR 0x0D, LF 0x0A, CRLF both, DQUOTE 0x22.
use Rattle.std.specs.Prelude.{List, [], ◌∷◌, ◌++◌, map, ℕ, ◌≤◌}

-- TEXTDATA = %x20-21 / %x23-2B / %x2D-7E
pub data TextData : ℕ → Type 0 where
  low : {b : ℕ} → 0x20 ≤ b → b ≤ 0x21 → TextData b
  middle : {b : ℕ} → 0x23 ≤ b → b ≤ 0x2B → TextData b
  high : {b : ℕ} → 0x2D ≤ b → b ≤ 0x7E → TextData b

-- non-escaped = *TEXTDATA
pub data NonEscaped : List ℕ → Type 0 where
  none : NonEscaped []
  textdata : {b : ℕ} {s : List ℕ} → TextData b → NonEscaped s → NonEscaped (b ∷ s)

-- *(TEXTDATA / COMMA / CR / LF / 2DQUOTE); a doubled quote stands for one
pub data Quoted : List ℕ → List ℕ → Type 0 where
  none : Quoted [] []
  textdata : {b : ℕ} {s v : List ℕ} → TextData b → Quoted s v → Quoted (b ∷ s) (b ∷ v)
  comma : {s v : List ℕ} → Quoted s v → Quoted (0x2C ∷ s) (0x2C ∷ v)
  cr : {s v : List ℕ} → Quoted s v → Quoted (0x0D ∷ s) (0x0D ∷ v)
  lf : {s v : List ℕ} → Quoted s v → Quoted (0x0A ∷ s) (0x0A ∷ v)
  2dquote : {s v : List ℕ} → Quoted s v → Quoted (0x22 ∷ 0x22 ∷ s) (0x22 ∷ v)

-- escaped = DQUOTE *(TEXTDATA / COMMA / CR / LF / 2DQUOTE) DQUOTE
pub data Escaped : List ℕ → List ℕ → Type 0 where
  dquotes : {s v : List ℕ} → Quoted s v → Escaped (0x22 ∷ s ++ 0x22 ∷ []) v

-- field = (escaped / non-escaped)
pub data Field : List ℕ → List ℕ → Type 0 where
  escaped : {s v : List ℕ} → Escaped s v → Field s v
  non_escaped : {s : List ℕ} → NonEscaped s → Field s s

-- record = field *(COMMA field)
pub data Record : List ℕ → List (List ℕ) → Type 0 where
  last : {s v : List ℕ} → Field s v → Record s (v ∷ [])
  more : {s t v : List ℕ} {vs : List (List ℕ)} → Field s v → Record t vs → Record (s ++ 0x2C ∷ t) (v ∷ vs)

-- *(CRLF record) [CRLF]
pub data Tail : List ℕ → List (List (List ℕ)) → Type 0 where
  end : Tail [] []
  crlf : Tail (0x0D ∷ 0x0A ∷ []) []
  crlf_record : {r s : List ℕ} {vs : List (List ℕ)} {rows : List (List (List ℕ))} → Record r vs → Tail s rows
      → Tail (0x0D ∷ 0x0A ∷ r ++ s) (vs ∷ rows)

-- file = record *(CRLF record) [CRLF]
pub data File : List ℕ → List (List (List ℕ)) → Type 0 where
  records : {r s : List ℕ} {vs : List (List ℕ)} {rows : List (List (List ℕ))} → Record r vs → Tail s rows → File (r ++ s) (vs ∷ rows)

-- ---- a record in front of a text that need not be a file
-- where a record ends, and what follows: at the end of the text, or at CRLF
pub data RecordEnd : List ℕ → List ℕ → Type 0 where
  end : RecordEnd [] []
  crlf : {s : List ℕ} → RecordEnd (0x0D ∷ 0x0A ∷ s) s

-- the text begins with a record that ends; behind its end stands the last argument
pub data Begins : List ℕ → List (List ℕ) → List ℕ → Type 0 where
  begins : {r e next : List ℕ} {vs : List (List ℕ)} → Record r vs → RecordEnd e next → Begins (r ++ e) vs next

-- ---- records of two fields
pub data Pair : Type 0 where
  pair : (first second : List ℕ) → Pair

abbrev pub values : Pair → List (List ℕ)
values (pair a b) = a ∷ b ∷ []

abbrev pub rows : List Pair → List (List (List ℕ))
rows ps = map values ps
