-- What the value of a test says, for tests on numbers and tests joined by `cond`.
use mathlib.Core.Path.{◌≡◌, refl}
use mathlib.Core.Logic.{◌↔◌}
use mathlib.Core.Bool.{Bool, true, false, cond}
use Prim.Native.Nat.{ℕ, ◌≤◌, ◌<◌}
use native.Mathlib.Omega.{arith}
use lib.Dec.{T, leb, ltb, eqb}
use borrow.Author.Tests.{ltb-true, leb-true, eqb-true, lt-ltb, le-leb, eq-eqb}

-- what holds of both outcomes of a test, each with the test's value at hand
pub tested {ℓ ℓ'} : {A : Type ℓ} (C : A → Type ℓ') (b : Bool) {x y : A} → (b ≡ true → C x) → (b ≡ false → C y) → C (cond b x y)
tested C true f g = f refl
tested C false f g = g refl

pub by-test {ℓ} : {C : Type ℓ} (b : Bool) → (b ≡ true → C) → (b ≡ false → C) → C
by-test true f g = f refl
by-test false f g = g refl

pub not_both : (b : Bool) → b ≡ true → b ≡ false → ⊥
not_both b s t = let z : ◌≡◌ {A = ℕ} 0 1 = cc in omega arith

pub true-says : (b : Bool) → b ≡ true ↔ T b
true-says true = (λ _. tt, λ _. refl)
true-says false = (λ e. not_both false e refl, λ t. absurd t)

-- ---- numbers
pub less-says : (a b : ℕ) → ltb a b ≡ true ↔ (a < b)
less-says a b = (ltb-true a b, lt-ltb a b)

pub equal-says : (a b : ℕ) → eqb a b ≡ true ↔ (a ≡ b)
equal-says a b = (eqb-true a b, eq-eqb a b)

-- ---- two tests
pub both_say : {P Q : Type 0} (b c : Bool) → b ≡ true ↔ P → c ≡ true ↔ Q → cond b c false ≡ true ↔ (P × Q)
both_say true c p q = (λ e. (p.0 refl, q.0 e), λ h. q.1 h.1)
both_say false c p q = (λ e. absurd (not_both false e refl), λ h. p.1 h.0)

pub second-says : {P Q : Type 0} (b c : Bool) → b ≡ true ↔ P → c ≡ true ↔ Q → cond b false c ≡ true ↔ ((P → ⊥) × Q)
second-says true c p q = (λ e. absurd (not_both false e refl), λ h. absurd (h.0 (p.0 refl)))
second-says false c p q = (λ e. (λ x. not_both false (p.1 x) refl, q.0 e), λ h. q.1 h.1)

-- from a to b, as the limits are tested
pub within-says : (a b n : ℕ) → cond (ltb n a) false (leb n b) ≡ true ↔ ((a ≤ n) × (n ≤ b))
within-says a b n =
    let s = second-says (ltb n a) (leb n b) (less-says n a) (leb-true n b, le-leb n b) in
    (λ e. let h = s.0 e in (omega (arith, h.0), h.1), λ h. s.1 (λ l. omega arith, h.1))
