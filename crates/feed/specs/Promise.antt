-- What is promised of a sheet whose bytes come in parts. Proved in proofs/Theorem.
use Rattle.std.specs.Prelude.{◌≡◌, Bool, true, false, ◌||◌, List, [], ◌∷◌, ◌++◌, ℕ, suc, ◌<◌, length}
use Rattle.text.specs.Bytes.{byte_at}
use Rattle.text.specs.Digits.{digits_of}
use Rattle.lines.specs.Grammar.{reading_of}
use Rattle.sheet.specs.Replay.{State, blank, answer_of}
use Rattle.feed.specs.Feed.{Kept, begin, fed, printed, last_output, replayed, concatenated}
use Rattle.feed.specs.Whole.{lines_of, output_of}

-- ---- lines as they are written
-- no newline is among the bytes
abbrev pub Plain : List ℕ → Type 0
Plain l = byte_at 10 l ≡ length l

abbrev pub AllPlain : List (List ℕ) → Type 0
AllPlain [] = Unit {0}
AllPlain (l ∷ ls) = Plain l × AllPlain ls

-- each line with a newline behind it
unfoldable pub written : List (List ℕ) → List ℕ
written [] = []
written (l ∷ ls) = l ++ 10 ∷ written ls

-- ---- the replay line by line
-- the state that lines lead to from s on, and whether one of them ends the replay
unfoldable pub state_behind : State → List (List ℕ) → State
state_behind s [] = s
state_behind s (l ∷ ls) = state_behind (answer_of s (reading_of l)).state ls

unfoldable pub ends_in : State → List (List ℕ) → Bool
ends_in s [] = false
ends_in s (l ∷ ls) = (answer_of s (reading_of l)).ended || ends_in (answer_of s (reading_of l)).state ls

pub record FeedPromise : Type 0 where
  -- the lines of an input are those that were written, and what follows the last newline is one more if it has a byte
  pub lines : (ls : List (List ℕ)) → AllPlain ls → lines_of (written ls) ≡ ls
  pub last_line : (ls : List (List ℕ)) (l : List ℕ) → AllPlain ls → Plain l → 0 < length l → lines_of (written ls ++ l) ≡ ls ++ l ∷ []
  -- no lines print nothing; one line more prints its number, counted from 1, and its answer to the state that the lines before it led to, or, if one
  -- of those ended the replay, nothing
  pub no_lines : output_of (written []) ≡ []
  pub next_line : (ls : List (List ℕ)) (l : List ℕ) → AllPlain ls → Plain l → ends_in blank ls ≡ false
      → output_of (written (ls ++ l ∷ [])) ≡ output_of (written ls) ++ (digits_of (suc (length ls)) ++ (answer_of (state_behind blank ls) (reading_of l)).printed)
  pub line_past : (ls : List (List ℕ)) (l : List ℕ) → AllPlain ls → Plain l → ends_in blank ls ≡ true
      → output_of (written (ls ++ l ∷ [])) ≡ output_of (written ls)
  -- a last line prints the same without a newline behind it
  pub unended : (ls : List (List ℕ)) (l : List ℕ) → AllPlain ls → Plain l → 0 < length l → output_of (written ls ++ l) ≡ output_of (written (ls ++ l ∷ []))
  -- it does not matter where the input is cut
  pub cut_state : (k : Kept) (a b : List ℕ) → fed k (a ++ b) ≡ fed (fed k a) b
  pub cut_output : (k : Kept) (a b : List ℕ) → printed k (a ++ b) ≡ printed k a ++ printed (fed k a) b
  -- a replay that has ended keeps what it has and prints nothing, so that no more need be read
  pub over_state : (k : Kept) → k.ended ≡ true → (a : List ℕ) → fed k a ≡ k
  pub over_output : (k : Kept) → k.ended ≡ true → (parts : List (List ℕ)) → replayed k parts ≡ []
  -- the whole input and its end print the output of the sheet
  pub whole : (input : List ℕ) → printed begin input ++ last_output (fed begin input) ≡ output_of input
  -- in whatever parts the input comes
  pub parts : (parts : List (List ℕ)) → replayed begin parts ≡ output_of (concatenated parts)
