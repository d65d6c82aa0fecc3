-- The workers at an opening are all alike.
use mathlib.Core.Path.{◌≡◌}
use Prim.Native.Nat.{ℕ}
use native.Mathlib.Omega.{arith}
use lib.ListN.{get_or, replicate, length-replicate, get_or-replicate, get_or-eq_default}
use Rattle.ring.proofs.Split.{by-lt}

-- a list of n equal elements
pub replicate-at {ℓ} : {A : Type ℓ} (a : A) (n i : ℕ) → get_or (replicate n a) i a ≡ a
replicate-at a n i = by-lt i n (get_or-replicate n i a a) (λ l. get_or-eq_default (replicate n a) a (omega (arith, length-replicate n a)))
