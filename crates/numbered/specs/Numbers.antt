-- The answers of calls as one number of 64 bits each, read in one way: below 2³² it is a value, from there up to 2³³ a refusal, from there on a word.
use Rattle.std.specs.Prelude.{◌≡◌, ◌≢◌, List, ℕ, ◌+◌, ◌^◌, ◌≤◌, ◌<◌, Ok, Err}
use Rattle.rule.specs.declared.Answer.{Answer}
use Rattle.rule.specs.declared.Answer.TheVariants.{WentOn, Finished, Price, No}
use Rattle.rule.specs.declared.Answer.TheVariants as answer
use Rattle.state.specs.Model.{Model}
use Rattle.state.specs.Refusals.{number_of}
use Rattle.state.specs.declared.Phase.{Phase}
use Rattle.state.specs.declared.Refusal.{Refusal}
use Rattle.state.specs.Replies.{Reply}
use Rattle.protocol.specs.Calls.{turn_call}
use Rattle.protocol.specs.Replies.{TurnReply}

-- refusal n of the documents
abbrev pub refused : ℕ → ℕ
refused n = 4294967296 + n

-- the n-th word
abbrev pub word : ℕ → ℕ
word n = 8589934592 + n

-- ---- of an answer
abbrev pub refusal_answer : Refusal → ℕ
refusal_answer r = refused (number_of r)

-- of a step: went on, finished, no and idle are the words 1, 2, 4 and 5; a price is a value
abbrev pub step_answer : Answer → ℕ
step_answer WentOn = word 1
step_answer Finished = word 2
step_answer (Price q) = q
step_answer No = word 4
step_answer answer.Idle = word 5

-- of a turn
abbrev pub turn_answer : TurnReply → ℕ
turn_answer (Ok a) = step_answer a
turn_answer (Err r) = refusal_answer r

-- of a call that gives no value: 0 if it is accepted
abbrev pub reply_answer : Reply → ℕ
reply_answer (Ok _) = 0
reply_answer (Err r) = refusal_answer r

-- ---- a price has 32 bits
abbrev pub Fits : Answer → Type 0
Fits WentOn = Unit {0}
Fits Finished = Unit {0}
Fits (Price q) = q < 2 ^ 32
Fits No = Unit {0}
Fits answer.Idle = Unit {0}

abbrev pub FitsReply : TurnReply → Type 0
FitsReply (Ok a) = Fits a
FitsReply (Err r) = Unit {0}

-- in every turn's answer, whatever the phase state and the table. Proved in proofs/Fitting
abbrev pub FitsPromise : Type 0
FitsPromise = (M : Model) (p : Phase) (t : List ℕ) (w : ℕ) → FitsReply (turn_call M p t w).reply

-- ---- what is promised of these numbers: values, refusals and words never coincide, and a number tells which one it is. Proved in proofs/Numbers
pub record NumbersPromise : Type 0 where
  -- a refusal's number is 2³² and its number in the documents, and below 2³³
  pub refusal : (r : Refusal) → (refusal_answer r ≡ 2 ^ 32 + number_of r) × (refusal_answer r < 2 ^ 33)
  -- so is the refusal of any call; an accepted call that gives no value answers 0
  pub accepted : reply_answer (Ok tt) ≡ 0
  pub reply : (r : Refusal) → reply_answer (Err r) ≡ 2 ^ 32 + number_of r
  pub turn : (r : Refusal) → turn_answer (Err r) ≡ 2 ^ 32 + number_of r
  pub answered : (a : Answer) → turn_answer (Ok a) ≡ step_answer a
  -- which word is which, and a price is itself
  pub went_on : step_answer WentOn ≡ 2 ^ 33 + 1
  pub finished : step_answer Finished ≡ 2 ^ 33 + 2
  pub no' : step_answer No ≡ 2 ^ 33 + 4
  pub idle : step_answer answer.Idle ≡ 2 ^ 33 + 5
  pub price : (q : ℕ) → step_answer (Price q) ≡ q
  -- a word's number is above 2³³; the third is given no more
  pub word : (a : Answer) → ((q : ℕ) → a ≢ Price q) → (2 ^ 33 < step_answer a) × (step_answer a ≤ 2 ^ 33 + 5)
  pub third : (a : Answer) → Fits a → step_answer a ≢ 2 ^ 33 + 3
  -- a value is below 2³² and no refusal, and no answer of a step but the price that it is; no refusal is an answer of a step
  pub value : (n : ℕ) → n < 2 ^ 32 → ((r : Refusal) → n ≢ refusal_answer r) × ((a : Answer) → n ≡ step_answer a → a ≡ Price n)
  pub apart : (r : Refusal) (a : Answer) → Fits a → refusal_answer r ≢ step_answer a
  -- two refusals have two numbers, two answers of a step have two, and so two answers of a call have two
  pub refusals : (r s : Refusal) → refusal_answer r ≡ refusal_answer s → r ≡ s
  pub steps : (a b : Answer) → Fits a → Fits b → step_answer a ≡ step_answer b → a ≡ b
  pub turns : (r s : TurnReply) → FitsReply r → FitsReply s → turn_answer r ≡ turn_answer s → r ≡ s
  pub replies : (r s : Reply) → reply_answer r ≡ reply_answer s → r ≡ s
