-- The fields of a line, which tabs part.
use Rattle.std.specs.Prelude.{cond, List, [], ◌∷◌, ◌++◌, ℕ, eqb, take}
use Rattle.text.specs.Bytes.{byte_at}

-- a byte in front of the first field
abbrev pub in_front : ℕ → List (List ℕ) → List (List ℕ)
in_front b [] = (b ∷ []) ∷ []
in_front b (f ∷ fs) = (b ∷ f) ∷ fs

-- the fields of a line: what stands between single tabs (9); there is always a first one
unfoldable pub fields_of : List ℕ → List (List ℕ)
fields_of [] = [] ∷ []
fields_of (b ∷ bs) = cond (eqb b 9) ([] ∷ fields_of bs) (in_front b (fields_of bs))

-- the first of them: what stands before the first tab
abbrev pub first_field : List ℕ → List ℕ
first_field l = take (byte_at 9 l) l

-- fields with a tab between each and the next
abbrev pub joined : List (List ℕ) → List ℕ
joined [] = []
joined (f ∷ []) = f
joined (f ∷ g ∷ fs) = f ++ 9 ∷ joined (g ∷ fs)
