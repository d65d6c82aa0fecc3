-- A sequence of refusals decides as its cases say: each test is known by what it says where it holds and where it does not, and the numbers are distinct.
use Rattle.std.specs.Prelude.{Ok, Err}
use mathlib.Core.Path.{◌≡◌, refl, sym, ◌∙◌}
use mathlib.Core.Logic.{◌≢◌, ◌↔◌}
use mathlib.Core.Bool.{Bool, true, false, not, cond}
use mathlib.Core.List.{List, [], ◌∷◌}
use Prim.Native.Nat.{ℕ, ◌≤◌, ◌<◌}
use native.Mathlib.Omega.{arith}
use lib.Dec.{leb, eqb}
use borrow.Author.Tests.{not-true, not-false, eq-eqb, leb-true, leb-false}
use Rattle.ring.proofs.Tests.{tested, by-test, not_both}
use Rattle.state.specs.Refusals.{number_of, reply_number, Bar, first_of}
use Rattle.state.specs.declared.Refusal.{Refusal}
use Rattle.state.specs.declared.Refusal.TheVariants.{Size, Crew, Kind, Unsound, OtherTable, NoWorker, Blank, Busy, Full, Working, Shut, ShortList, Spoilt, WrongPrice, NoLine, LongList, Gap, Disorder, BadRecord, BadField, Even, Absent, Unfit, TestNumber}
use Rattle.state.specs.Replies.{Reply}
use Rattle.protocol.specs.Cases.{Case, DecidesFrom, Decides}

-- ---- a refusal with its test, and what the test says where it holds (applies) and where it does not (passes)
pub record Step : Type 1 where
  pub when : Bool
  pub why : Refusal
  pub passes : Type 0
  pub applies : Type 0
  pub if-true : when ≡ true → applies
  pub if-false : when ≡ false → passes
  pub apart : passes → applies → ⊥

-- given where the fact P holds
abbrev pub barring : {P : Type 0} (b : Bool) → b ≡ true ↔ P → Refusal → Step
barring {P} b says r = record {
  when = b;
  why = r;
  passes = P → ⊥;
  applies = P;
  if-true = says.0;
  if-false = λ e h. not_both b (says.1 h) e;
  apart = λ z h. z h;
}

-- given where the fact P does not hold
abbrev pub wanting : {P : Type 0} (b : Bool) → b ≡ true ↔ P → Refusal → Step
wanting {P} b says r = record {
  when = not b;
  why = r;
  passes = P;
  applies = P → ⊥;
  if-true = λ e h. not_both b (says.1 h) (not-true b e);
  if-false = λ e. says.0 (not-false b e);
  apart = λ h z. z h;
}

-- given where a test holds, and by its value
abbrev pub testing : (b : Bool) → Refusal → Step
testing b r = record { when = b; why = r; passes = b ≡ false; applies = b ≡ true; if-true = λ e. e; if-false = λ e. e; apart = λ e f. not_both b f e }

-- given where a is at most b
abbrev pub reaching : (a b : ℕ) → Refusal → Step
reaching a b r = record {
  when = leb a b;
  why = r;
  passes = b < a;
  applies = a ≤ b;
  if-true = leb-true a b;
  if-false = leb-false a b;
  apart = λ l h. omega arith;
}

-- ---- a chain of them
abbrev pub bars_of : List Step → List Bar
bars_of [] = []
bars_of (s ∷ c) = record { when = s.when; why = s.why } ∷ bars_of c

abbrev pub cases_of : List Step → List Case
cases_of [] = []
cases_of (s ∷ c) = record { number = number_of s.why; passes = s.passes; applies = s.applies } ∷ cases_of c

-- r is 0 or a number of the chain
abbrev pub among : ℕ → List Step → Bool
among r [] = eqb r 0
among r (s ∷ c) = cond (eqb r (number_of s.why)) true (among r c)

-- no number of the chain is 0, and none comes twice
abbrev pub distinct : List Step → Bool
distinct [] = true
distinct (s ∷ c) = cond (among (number_of s.why) c) false (distinct c)

-- its reply's number is among them
reply-among : (c : List Step) → among (reply_number (first_of (bars_of c))) c ≡ true
reply-among [] = refl
reply-among (s ∷ c) = at-test s.when (reply-among c)
  where
    more : (b : Bool) {x : Bool} → x ≡ true → cond b true x ≡ true
    more true e = refl
    more false e = e

    at-test : (w : Bool) → among (reply_number (first_of (bars_of c))) c ≡ true → among (reply_number (cond w (Err s.why) (first_of (bars_of c)))) (s ∷ c) ≡ true
    at-test true e = rw (eq-eqb (number_of s.why) (number_of s.why) refl)
    at-test false e = more (eqb (reply_number (first_of (bars_of c))) (number_of s.why)) e

-- r is the chain's number where all steps before it are passed by (B), and they are if r is among the chain's numbers
decides-from : (c : List Step) (B : Type 0) (r : ℕ) → distinct c ≡ true → (B → r ≡ reply_number (first_of (bars_of c))) → (among r c ≡ true → B)
    → DecidesFrom B r (cases_of c)
decides-from [] B r d is known = (λ e. known (eq-eqb r 0 e), is)
decides-from (s ∷ c) B r d is known = ((to, from), decides-from c (B × s.passes) r others.1 on (λ e. passed e))
  where
    others : (among (number_of s.why) c ≡ false) × (distinct c ≡ true)
    others = split (among (number_of s.why) c) d
      where
        split : (b : Bool) → cond b false (distinct c) ≡ true → (b ≡ false) × (distinct c ≡ true)
        split true e = absurd (not_both false e refl)
        split false e = (refl, e)

    -- this step's number is none of those behind it
    not_behind : r ≡ number_of s.why → among r c ≡ true → ⊥
    not_behind e k = not_both (among (number_of s.why) c) (rw (← e) k) others.0

    here : B → s.when ≡ true → r ≡ number_of s.why
    here b e = is b ∙ rw e

    behind : B → s.when ≡ false → r ≡ reply_number (first_of (bars_of c))
    behind b e = is b ∙ rw e

    to : r ≡ number_of s.why → B × s.applies
    to e =
        let b = known (rw (eq-eqb r (number_of s.why) e)) in
        (b, by-test s.when s.if-true (λ f. absurd (not_behind e (rw (behind b f) (reply-among c)))))

    from : B × s.applies → r ≡ number_of s.why
    from (b, a) = by-test s.when (here b) (λ f. absurd (s.apart (s.if-false f) a))

    on : B × s.passes → r ≡ reply_number (first_of (bars_of c))
    on (b, p) = by-test s.when (λ e. absurd (s.apart p (s.if-true e))) (behind b)

    passed : among r c ≡ true → B × s.passes
    passed k =
        let b = known (tested (λ x. x ≡ true) (eqb r (number_of s.why)) (λ _. refl) (λ _. k)) in
        (b, by-test s.when (λ e. absurd (not_behind (here b e) k)) s.if-false)

-- r is the number of the chain's reply
pub decides : (c : List Step) → distinct c ≡ true → (r : ℕ) → r ≡ reply_number (first_of (bars_of c)) → Decides r (cases_of c)
decides c d r is = decides-from c (Unit {0}) r d (λ _. is) (λ _. tt)

-- the last case, in other words for where those before it are passed by
pub decides-last : (c d : Case) (B : Type 0) (r : ℕ) → c.number ≡ d.number → (B → c.passes ↔ d.passes) → (B → c.applies ↔ d.applies)
    → DecidesFrom B r (c ∷ []) → DecidesFrom B r (d ∷ [])
decides-last c d B r same passes applies ((to, from), (none, all)) = (
  (λ e. let (b, a) = to (e ∙ sym same) in (b, (applies b).0 a), λ (b, a). from (b, (applies b).1 a) ∙ same),
  (λ e. let (b, p) = none e in (b, (passes b).0 p), λ (b, p). all (b, (passes b).1 p)),
)

-- ---- any call is accepted or refused
pub by-reply {ℓ} : {C : Type ℓ} (r : Reply) → (r ≡ Ok tt → C) → ((q : Refusal) → r ≡ Err q → C) → C
by-reply (Ok _) f g = f refl
by-reply (Err q) f g = g q refl

-- no refusal has the number 0, so a call with that number is accepted
refusal-number : (q : Refusal) → number_of q ≢ 0
refusal-number Size e = omega arith
refusal-number Crew e = omega arith
refusal-number Kind e = omega arith
refusal-number Unsound e = omega arith
refusal-number OtherTable e = omega arith
refusal-number NoWorker e = omega arith
refusal-number Blank e = omega arith
refusal-number Busy e = omega arith
refusal-number Full e = omega arith
refusal-number Working e = omega arith
refusal-number Shut e = omega arith
refusal-number ShortList e = omega arith
refusal-number Spoilt e = omega arith
refusal-number WrongPrice e = omega arith
refusal-number NoLine e = omega arith
refusal-number LongList e = omega arith
refusal-number Gap e = omega arith
refusal-number Disorder e = omega arith
refusal-number BadRecord e = omega arith
refusal-number BadField e = omega arith
refusal-number Even e = omega arith
refusal-number Absent e = omega arith
refusal-number Unfit e = omega arith
refusal-number TestNumber e = omega arith

pub none-accepted : (r : Reply) → reply_number r ≡ 0 → r ≡ Ok tt
none-accepted (Ok _) e = refl
none-accepted (Err q) e = absurd (refusal-number q e)
