-- Sequences of cases with some left out that are always passed by.
use mathlib.Core.Logic.{◌↔◌}
use mathlib.Core.List.{List, [], ◌∷◌, ◌++◌}
use Prim.Native.Nat.{ℕ}
use Rattle.protocol.specs.Cases.{Case, DecidesFrom}

-- what comes before may be said in other words
decides-behind : (cs : List Case) (B C : Type 0) (r : ℕ) → B ↔ C → DecidesFrom B r cs → DecidesFrom C r cs
decides-behind [] B C r same (to, from) = (λ e. same.0 (to e), λ c. from (same.1 c))
decides-behind (c ∷ cs) B C r same ((to, from), rest) = (
  (λ e. let (b, a) = to e in (same.0 b, a), λ (b, a). from (same.1 b, a)),
  decides-behind cs (B × c.passes) (C × c.passes) r (λ (b, p). (same.0 b, p), λ (b, p). (same.1 b, p)) rest,
)

-- cases that are all passed by
abbrev pub Passed : List Case → Type 0
Passed [] = Unit {0}
Passed (c ∷ cs) = c.passes × Passed cs

-- those that are wherever the ones before them are may be left out
pub decides-without : (ds cs : List Case) (B : Type 0) (r : ℕ) → (B → Passed ds) → DecidesFrom B r (ds ++ cs) → DecidesFrom B r cs
decides-without [] cs B r passed h = h
decides-without (d ∷ ds) cs B r passed (_, rest) =
    decides-without ds cs B r (λ b. (passed b).1) (decides-behind (ds ++ cs) (B × d.passes) B r (λ (b, _). b, λ b. (b, (passed b).0)) rest)
