-- The numbers of answers are apart, and each tells its answer: the promise of specs/Numbers.
use Rattle.std.specs.Prelude.{Ok, Err}
use mathlib.Core.Path.{◌≡◌, refl, sym, ap, ◌∙◌}
use mathlib.Core.Logic.{◌≢◌, ◌⊎◌, inl, inr, ⊎_elim}
use mathlib.Core.Bool.{cond}
use mathlib.Core.List.{[], ◌∷◌}
use Prim.Native.Nat.{ℕ, ◌+◌, ◌-◌, ◌^◌, ◌≤◌, ◌<◌}
use native.Mathlib.Omega.{arith}
use lib.Dec.{ltb}
use lib.ListN.{get_or}
use borrow.Author.Tests.{lt-ltb}
use Rattle.rule.specs.declared.Answer.{Answer}
use Rattle.rule.specs.declared.Answer.TheVariants.{WentOn, Finished, Price, No}
use Rattle.rule.specs.declared.Answer.TheVariants as answer
use Rattle.state.specs.Refusals.{number_of}
use Rattle.state.specs.declared.Refusal.{Refusal}
use Rattle.state.specs.declared.Refusal.TheVariants.{Size, Crew, Kind, Unsound, OtherTable, NoWorker, Blank, Busy, Full, Working, Shut, ShortList, Spoilt, WrongPrice, NoLine, LongList, Gap, Disorder, BadRecord, BadField, Even, Absent, Unfit, TestNumber}
use Rattle.state.specs.Replies.{Reply}
use Rattle.protocol.specs.Replies.{TurnReply}
use Rattle.numbered.specs.Numbers.{word, refusal_answer, step_answer, turn_answer, reply_answer, Fits, FitsReply, NumbersPromise}

-- ---- the refusals in the documents' order: a refusal is that at its number
abbrev refusal-at : ℕ → Refusal
refusal-at n =
    get_or (Size ∷ Size ∷ Crew ∷ Kind ∷ Unsound ∷ OtherTable ∷ NoWorker ∷ Blank ∷ Busy ∷ Full ∷ Working ∷ Shut ∷ ShortList ∷ Spoilt ∷ WrongPrice ∷ NoLine ∷ LongList ∷ Gap ∷ Disorder ∷ BadRecord ∷ BadField
    ∷ Even ∷ Absent ∷ Unfit ∷ TestNumber ∷ []) n
    Size

known : (r : Refusal) → (refusal-at (number_of r) ≡ r) × (refusal_answer r < 2 ^ 33)
known Size = (refl, omega arith)
known Crew = (refl, omega arith)
known Kind = (refl, omega arith)
known Unsound = (refl, omega arith)
known OtherTable = (refl, omega arith)
known NoWorker = (refl, omega arith)
known Blank = (refl, omega arith)
known Busy = (refl, omega arith)
known Full = (refl, omega arith)
known Working = (refl, omega arith)
known Shut = (refl, omega arith)
known ShortList = (refl, omega arith)
known Spoilt = (refl, omega arith)
known WrongPrice = (refl, omega arith)
known NoLine = (refl, omega arith)
known LongList = (refl, omega arith)
known Gap = (refl, omega arith)
known Disorder = (refl, omega arith)
known BadRecord = (refl, omega arith)
known BadField = (refl, omega arith)
known Even = (refl, omega arith)
known Absent = (refl, omega arith)
known Unfit = (refl, omega arith)
known TestNumber = (refl, omega arith)

one-refusal : (r s : Refusal) → refusal_answer r ≡ refusal_answer s → r ≡ s
one-refusal r s e = let n : number_of r ≡ number_of s = omega arith in sym (known r).0 ∙ ap refusal-at n ∙ (known s).0

-- ---- the answers of a step, likewise: a price below the words, the words in their order; the third is none
abbrev step-at : ℕ → Answer
step-at n = cond (ltb n (word 0)) (Price n) (get_or (WentOn ∷ WentOn ∷ Finished ∷ No ∷ No ∷ answer.Idle ∷ []) (n - word 0) WentOn)

-- what is known of an answer's number
abbrev Told : Answer → Type 0
Told a = (step-at (step_answer a) ≡ a) × ((step_answer a < 2 ^ 32) ⊎ (2 ^ 33 < step_answer a))

said : (a : Answer) → Fits a → Told a
said WentOn _ = (refl, inr (omega arith))
said Finished _ = (refl, inr (omega arith))
said (Price q) low = (rw (lt-ltb q (word 0) (omega arith)), inl low)
said No _ = (refl, inr (omega arith))
said answer.Idle _ = (refl, inr (omega arith))

one-step : (a b : Answer) → Fits a → Fits b → step_answer a ≡ step_answer b → a ≡ b
one-step a b f g e = sym (said a f).0 ∙ ap step-at e ∙ (said b g).0

-- ---- a refusal is none of them
no_step : (r : Refusal) (a : Answer) → Fits a → refusal_answer r ≢ step_answer a
no_step r a f e = ⊎_elim (λ low. omega arith) (λ above. omega (arith, (known r).1)) (said a f).1

one-turn : (r s : TurnReply) → FitsReply r → FitsReply s → turn_answer r ≡ turn_answer s → r ≡ s
one-turn (Ok a) (Ok b) f g e = ap Ok (one-step a b f g e)
one-turn (Ok a) (Err s) f g e = absurd (no_step s a f (sym e))
one-turn (Err r) (Ok b) f g e = absurd (no_step r b g e)
one-turn (Err r) (Err s) f g e = ap Err (one-refusal r s e)

-- ---- a word, and the third, which is none
is_word : (a : Answer) → ((q : ℕ) → a ≢ Price q) → (2 ^ 33 < step_answer a) × (step_answer a ≤ 2 ^ 33 + 5)
is_word WentOn _ = (omega arith, omega arith)
is_word Finished _ = (omega arith, omega arith)
is_word (Price q) none = absurd (none q refl)
is_word No _ = (omega arith, omega arith)
is_word answer.Idle _ = (omega arith, omega arith)

no_third : (a : Answer) → Fits a → step_answer a ≢ 2 ^ 33 + 3
no_third WentOn _ e = omega arith
no_third Finished _ e = omega arith
no_third (Price q) low e = omega arith
no_third No _ e = omega arith
no_third answer.Idle _ e = omega arith

-- ---- a value is a price or none of them
is-price : (n : ℕ) → n < 2 ^ 32 → (a : Answer) → n ≡ step_answer a → a ≡ Price n
is-price n low WentOn e = absurd (omega arith)
is-price n low Finished e = absurd (omega arith)
is-price n low (Price q) e = ap Price (sym e)
is-price n low No e = absurd (omega arith)
is-price n low answer.Idle e = absurd (omega arith)

one-reply : (r s : Reply) → reply_answer r ≡ reply_answer s → r ≡ s
one-reply (Ok _) (Ok _) e = refl
one-reply (Ok _) (Err s) e = absurd (omega arith)
one-reply (Err r) (Ok _) e = absurd (omega arith)
one-reply (Err r) (Err s) e = ap Err (one-refusal r s e)

pub numbers-promise : NumbersPromise
numbers-promise = record {
  refusal = λ r. (refl, (known r).1);
  accepted = refl;
  reply = λ r. refl;
  turn = λ r. refl;
  answered = λ a. refl;
  went_on = refl;
  finished = refl;
  no' = refl;
  idle = refl;
  price = λ q. refl;
  word = is_word;
  third = no_third;
  value = λ n below. (λ r e. omega arith, is-price n below);
  apart = no_step;
  refusals = one-refusal;
  steps = one-step;
  turns = one-turn;
  replies = one-reply;
}
