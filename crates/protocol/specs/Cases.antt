-- When a call is refused, said as propositions: a list of cases, one line for each refusal.
use Rattle.std.specs.Prelude.{◌≡◌, ◌↔◌, List, [], ◌∷◌, ℕ}

-- the number of a refusal, what holds where it is passed by, and what holds where it applies
pub record Case : Type 1 where
  pub number : ℕ
  pub passes : Type 0
  pub applies : Type 0

abbrev pub case : ℕ → Type 0 → Type 0 → Case
case n passes applies = record { number = n; passes = passes; applies = applies }

-- given where P does not hold, and where it does
abbrev pub wants : ℕ → Type 0 → Case
wants n P = case n P (P → ⊥)

abbrev pub forbids : ℕ → Type 0 → Case
forbids n P = case n (P → ⊥) P

-- behind cases that are all passed by: r is the number of a case exactly if that one applies and those before it are passed by, and 0 exactly
-- if all are. So each number is answered in its case and in no other, and the first to apply wins
abbrev pub DecidesFrom : Type 0 → ℕ → List Case → Type 0
DecidesFrom before r [] = r ≡ 0 ↔ before
DecidesFrom before r (c ∷ cs) = (r ≡ c.number ↔ (before × c.applies)) × DecidesFrom (before × c.passes) r cs

abbrev pub Decides : ℕ → List Case → Type 0
Decides r cs = DecidesFrom (Unit {0}) r cs
