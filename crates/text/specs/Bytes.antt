-- Texts as lists of bytes: the same text, and where a byte stands.
use Rattle.std.specs.Prelude.{Bool, true, false, ◌&&◌, cond, List, [], ◌∷◌, ℕ, suc, eqb}
use Prim.Native.Char.{code}
use Prim.Native.String.{String, [] as nothing, ◌∷◌ as ◌then◌}

-- the same bytes
unfoldable pub same : List ℕ → List ℕ → Bool
same [] [] = true
same [] (b ∷ t) = false
same (a ∷ s) [] = false
same (a ∷ s) (b ∷ t) = eqb a b && same s t

-- the place of the first byte x, or the length
unfoldable pub byte_at : ℕ → List ℕ → ℕ
byte_at x [] = 0
byte_at x (b ∷ bs) = cond (eqb b x) 0 (suc (byte_at x bs))

-- the bytes of a text in ASCII
unfoldable pub bytes_of : String → List ℕ
bytes_of nothing = []
bytes_of (c then s) = code c ∷ bytes_of s
