-- The front of an empty table is an empty table.
use mathlib.Core.Path.{◌≡◌, refl, ap}
use mathlib.Core.List.{List, ◌∷◌}
use Prim.Native.Nat.{ℕ, zero, suc, ◌≤◌}
use native.Mathlib.Omega.{arith}
use lib.ListN.{take, replicate}

pub take_bare : (m n : ℕ) → n ≤ m → take n (replicate m 0) ≡ replicate {A = ℕ} n 0
take_bare m zero l = refl
take_bare zero (suc n) l = absurd (omega arith)
take_bare (suc m) (suc n) l = ap (λ (xs : List ℕ). 0 ∷ xs) (take_bare m n (omega arith))
