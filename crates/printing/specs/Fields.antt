-- What an output line says behind its number, as bytes: each field behind a tab.
use Rattle.std.specs.Prelude.{◌≡◌, List, [], ◌∷◌, ◌++◌, ℕ, ◌+◌, ◌≤◌, length, take, Option, Some, None, Ok, Err}
use Rattle.std.proofs.lemmas.List.Edits.{sets}
use Rattle.text.specs.Digits.{digits_of}
use Rattle.prices.specs.Contents.{label, price}
use Rattle.words.specs.Words.{entries_of}
use Rattle.rule.specs.declared.Answer.{Answer}
use Rattle.rule.specs.declared.Answer.TheVariants.{WentOn, Finished, Price, No, Idle}
use Rattle.state.specs.Refusals.{number_of}
use Rattle.state.specs.declared.Refusal.{Refusal}
use Rattle.state.specs.Replies.{Reply}
use Rattle.protocol.specs.Replies.{TurnReply}
use Rattle.dealing.specs.declared.Ended.{Ended}
use Rattle.printing.specs.declared.Told.{Told}
use Rattle.printing.specs.declared.Told.TheVariants as told

-- ---- fields and words
abbrev pub field : List ℕ → List ℕ
field word = 9 ∷ word

-- ok on done no idle bad refused, and - for a worker without an operation; a find tells the price instead of a word
abbrev pub ok : List ℕ
ok = 111 ∷ 107 ∷ []

abbrev pub answer_word : Answer → List ℕ
answer_word WentOn = 111 ∷ 110 ∷ []
answer_word Finished = 100 ∷ 111 ∷ 110 ∷ 101 ∷ []
answer_word (Price q) = digits_of q
answer_word No = 110 ∷ 111 ∷ []
answer_word Idle = 105 ∷ 100 ∷ 108 ∷ 101 ∷ []

abbrev pub bad : List ℕ
bad = 98 ∷ 97 ∷ 100 ∷ []

abbrev pub refused : List ℕ
refused = 114 ∷ 101 ∷ 102 ∷ 117 ∷ 115 ∷ 101 ∷ 100 ∷ []

abbrev pub none : List ℕ
none = 45 ∷ []

-- ---- what a line tells
abbrev pub refusal_fields : Refusal → List ℕ
refusal_fields r = field refused ++ field (digits_of (number_of r))

abbrev pub reply_fields : Reply → List ℕ
reply_fields (Ok _) = field ok
reply_fields (Err r) = refusal_fields r

abbrev pub turn_fields : TurnReply → List ℕ
turn_fields (Ok a) = field (answer_word a)
turn_fields (Err r) = refusal_fields r

-- of a worker after a run: how its operation ended
abbrev pub finish_word : Option Ended → List ℕ
finish_word None = none
finish_word (Some Ended.Finished) = answer_word Finished
finish_word (Some (Ended.Price q)) = answer_word (Price q)
finish_word (Some Ended.No) = answer_word No

abbrev pub finish_fields : List (Option Ended) → List ℕ
finish_fields [] = []
finish_fields (f ∷ fs) = field (finish_word f) ++ finish_fields fs

-- of entries: each key followed by its price
abbrev pub entry_fields : List ℕ → List ℕ
entry_fields [] = []
entry_fields (e ∷ es) = field (digits_of (label e)) ++ (field (digits_of (price e)) ++ entry_fields es)

-- in a phase of m workers: a call's answer, how the operations ended in a run, or the count and the entries of the table
abbrev pub told_fields : Told → ℕ → List (Option Ended) → List ℕ → List ℕ
told_fields (told.Replied r) m fs t = reply_fields r
told_fields (told.Turned r) m fs t = turn_fields r
told_fields told.Ran m fs t = finish_fields (take m fs)
told_fields (told.Listed c) m fs t = field (digits_of c) ++ entry_fields (entries_of t)

-- ---- the bytes are written into a lent list from a place on, and the place behind them is given
pub record Printed (bytes out : List ℕ) (at : ℕ) (after : List ℕ) (behind : ℕ) : Type 0 where
  pub list : after ≡ sets out at bytes
  pub place : behind ≡ at + length bytes

-- and there are at most so many of them
abbrev pub PrintedWithin : ℕ → (bytes out : List ℕ) → ℕ → List ℕ → ℕ → Type 0
PrintedWithin most bytes out at after behind = Printed bytes out at after behind × (behind ≤ at + most)
