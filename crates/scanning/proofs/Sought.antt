-- Texts compared and searched as the library does it.
use Rattle.std.proofs.Common.{◌≡◌, ◌∷◌, ℕ, List, [], length, refl, arith}
use Rattle.std.specs.Prelude.{eqb, unwrap_or}
use Rattle.std.specs.List.{position, position_or_len}
use Rattle.std.proofs.lemmas.List.Recursion.{is_position_or_len}
use lib.Pointwise.{pointwise}
use Rattle.text.specs.Bytes.{same, byte_at}
use Rattle.text.proofs.Bytes.{byte_le}

pub pointwise-same : (s t : List ℕ) → pointwise eqb s t ≡ same s t
unfolding same
pointwise-same [] [] = refl
pointwise-same [] (b ∷ t) = refl
pointwise-same (a ∷ s) [] = refl
pointwise-same (a ∷ s) (b ∷ t) = rw (pointwise-same s t)

module _ (x : ℕ) (s : List ℕ) where
  first-place : byte_at x s ≡ position_or_len (λ b. eqb b x) s
  unfolding byte_at
  first-place = is_position_or_len (byte_at x) (λ b. eqb b x) refl (λ b t. grind arith) s

  pub position-place : unwrap_or (position (λ b. eqb b x) s) (length s) ≡ byte_at x s
  position-place = grind (arith, first-place, byte_le x s)
