-- The replay of a sheet whose bytes come in parts: what is kept between two parts, and what a part prints.
use Rattle.std.specs.Prelude.{Bool, false, cond, List, [], ◌∷◌, ◌++◌, ℕ, suc, eqb, length, take}
use Rattle.lines.specs.Grammar.{reading_of, kept_bytes}
use Rattle.sheet.specs.Replay.{State, blank, Answer, answer_of, rendered}

-- the state behind the lines that are whole, how many those are, the first bytes of the line that is not whole yet, and whether the replay has
-- ended
pub record Kept : Type 0 where
  pub state : State
  pub number : ℕ
  pub line : List ℕ
  pub ended : Bool

-- before the first byte
abbrev pub begin : Kept
begin = record { state = blank; number = 0; line = []; ended = false }

-- a line with one byte more, of which so many bytes are kept as show what it says
abbrev pub longer : List ℕ → ℕ → List ℕ
longer l b = take kept_bytes (l ++ b ∷ [])

-- ---- the line that is not whole yet, taken as whole
abbrev pub answer_to : Kept → Answer
answer_to k = answer_of k.state (reading_of k.line)

abbrev pub behind_line : Kept → Kept
behind_line k = let a = answer_to k in record { state = a.state; number = suc k.number; line = []; ended = a.ended }

abbrev pub line_output : Kept → List ℕ
line_output k = rendered (suc k.number) (answer_to k)

-- ---- one byte
abbrev pub with_byte : Kept → ℕ → Kept
with_byte k b = record { state = k.state; number = k.number; line = longer k.line b; ended = k.ended }

unfoldable pub behind : Kept → ℕ → Kept
behind k b = cond k.ended k (cond (eqb b 10) (behind_line k) (with_byte k b))

unfoldable pub byte_output : Kept → ℕ → List ℕ
byte_output k b = cond k.ended [] (cond (eqb b 10) (line_output k) [])

-- ---- a part of the input: what is kept behind it, and what it prints
unfoldable pub fed : Kept → List ℕ → Kept
fed k [] = k
fed k (b ∷ bs) = fed (behind k b) bs

unfoldable pub printed : Kept → List ℕ → List ℕ
printed k [] = []
printed k (b ∷ bs) = byte_output k b ++ printed (behind k b) bs

-- ---- the end of the input: a last line that no newline ends is answered if it has a byte
unfoldable pub last_output : Kept → List ℕ
last_output k = cond k.ended [] (cond (eqb (length k.line) 0) [] (line_output k))

-- ---- all that is printed of an input that comes in these parts
unfoldable pub replayed : Kept → List (List ℕ) → List ℕ
replayed k [] = last_output k
replayed k (a ∷ ps) = printed k a ++ replayed (fed k a) ps

-- the parts as one
abbrev pub concatenated : List (List ℕ) → List ℕ
concatenated [] = []
concatenated (a ∷ ps) = a ++ concatenated ps
