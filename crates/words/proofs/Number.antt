-- Where no label stands twice, the cells that hold a label are as many as the labels.
use mathlib.Core.Path.{◌≡◌, refl, ◌∙◌}
use mathlib.Core.List.{List, [], ◌∷◌}
use Prim.Native.Nat.{ℕ}
use native.Mathlib.Omega.{arith}
use Rattle.layout.specs.Layout.{size}
use Rattle.layout.proofs.Once.{Apart, held, apart-size}
use Rattle.prices.specs.Contents.{label}
use Rattle.prices.specs.Priced.{labels}
use Rattle.words.specs.Words.{occupied}

occupied-held : (t : List ℕ) → occupied t ≡ held (labels label t)
occupied-held [] = refl
occupied-held (x ∷ t) = omega (arith, occupied-held t)

pub once-size : (t : List ℕ) → Apart (labels label t) → occupied t ≡ size (labels label t)
once-size t apart = occupied-held t ∙ apart-size (labels label t) apart
