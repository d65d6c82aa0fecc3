-- What is promised of the grammar for records of two fields, and of the reader. Proved in proofs/Theorem.
use Rattle.std.specs.Prelude.{◌≡◌, ◌≢◌, ◌↔◌, List, [], ◌∷◌, ◌++◌, ℕ, ◌≤◌, ◌<◌, length, drop}
use Rattle.text.specs.Bytes.{bytes_of}
use Rattle.rfc4180.specs.Grammar.{TextData, NonEscaped, Escaped, Field, File, Begins, Pair, pair, values, rows}
use Rattle.rfc4180.specs.Reader.{Parsed, record_of}

-- ---- records one behind the other, up to the end of the text
pub data Chain : List ℕ → List Pair → Type 0 where
  last : {s : List ℕ} {p : Pair} → Begins s (values p) [] → Chain s (p ∷ [])
  more : {s next : List ℕ} {p : Pair} {ps : List Pair} → Begins s (values p) next → Chain next ps → Chain s (p ∷ ps)

-- ---- the reader on a text s
pub record Reads (s : List ℕ) : Type 0 where
  -- it finds the record of two fields with which the text begins, and none where the text begins with none
  pub sound : (p : Pair) (n : ℕ) → record_of s ≡ Parsed.parsed p n → Begins s (values p) (drop n s)
  pub complete : (p : Pair) (next : List ℕ) → Begins s (values p) next → (n : ℕ) × (record_of s ≡ Parsed.parsed p n) × (drop n s ≡ next)
  -- it takes at least one byte, and no more than there are
  pub some : (p : Pair) (n : ℕ) → record_of s ≡ Parsed.parsed p n → (0 < n) × (n ≤ length s)

pub record CsvPromise : Type 0 where
  pub reads : (s : List ℕ) → Reads s
  -- a file of records of two fields is these records one behind the other
  pub chain : (s : List ℕ) (ps : List Pair) → File s (rows ps) ↔ Chain s ps
  -- as records of two fields a text is derived in one way only; the RFC alone also takes a last CRLF for one before a record of one empty field
  pub one_file : (s : List ℕ) (ps qs : List Pair) → File s (rows ps) → File s (rows qs) → ps ≡ qs
  -- so is the record with which a text begins, of however many fields: what it says, where it ends, where two fields part, and whether one is escaped
  pub one_record : (s : List ℕ) (vs ws : List (List ℕ)) (t u : List ℕ) → Begins s vs t → Begins s ws u → (vs ≡ ws) × (t ≡ u)
  pub one_split : (s t a b s' t' a' b' : List ℕ) → Field s a → Field t b → Field s' a' → Field t' b' → s ++ 0x2C ∷ t ≡ s' ++ 0x2C ∷ t'
      → (s ≡ s') × (a ≡ a') × (t ≡ t') × (b ≡ b')
  pub one_kind : (s v : List ℕ) → Escaped s v → NonEscaped s → ⊥
  -- TEXTDATA is what is printed in ASCII, but for the quote and the comma
  pub textdata : (b : ℕ) → TextData b ↔ ((0x20 ≤ b) × (b ≤ 0x7E) × (b ≢ 0x22) × (b ≢ 0x2C))
  -- the RFC's own records, cut to two fields: items 1, 6 and 7 of its section 2
  pub plain : record_of (bytes_of "aaa,bbb\r\nzzz,yyy\r\n") ≡ Parsed.parsed (pair (bytes_of "aaa") (bytes_of "bbb")) 9
  pub breaks : record_of (bytes_of "\"aaa\",\"b\r\nbb\"\r\nzzz,yyy") ≡ Parsed.parsed (pair (bytes_of "aaa") (bytes_of "b\r\nbb")) 15
  pub doubled : record_of (bytes_of "\"aaa\",\"b\"\"bb\"") ≡ Parsed.parsed (pair (bytes_of "aaa") (bytes_of "b\"bb")) 13
