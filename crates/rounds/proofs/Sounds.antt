-- Sound tables: how many keys they have, and that their entries are right and of each key there is one.
use mathlib.Core.Path.{◌≡◌, refl, sym, ap, ◌∙◌, subst}
use mathlib.Core.Logic.{◌≢◌}
use mathlib.Core.List.{List}
use Prim.Native.Nat.{ℕ, ◌<◌}
use native.Mathlib.Omega.{arith}
use lib.Dec.{T}
use lib.ListN.{length, get_or, length-map}
use Rattle.layout.specs.Layout.{In, size}
use Rattle.layout.proofs.Sets.{held_in, in-holds, size-lt}
use Rattle.homes.specs.declared.Hash.{Hash}
use Rattle.prices.specs.Contents.{label, price, price_ok}
use Rattle.prices.specs.Priced.{labels, Least}
use Rattle.prices.proofs.Contents.{contents}
use Rattle.prices.proofs.Labels.{in-labels}
use Rattle.prices.proofs.Theorem.{own-least}
use Rattle.words.specs.Words.{count_of}
use Rattle.state.specs.Model.{Model, Proper}
use Rattle.protocol.specs.Promise.{Soundness}
use Rattle.tables.proofs.Theorem.{counts-keys}
use Rattle.protocol.proofs.Soundness.{sounds}

module _ (M : Model) (proper : Proper M) (ab : Hash) (t : List ℕ) (sound : Soundness M ab t) where
  pub some : 0 < length t
  some = omega (arith, sound.intact.empty.inside)

  inside : (x : ℕ) → M.home ab (length t) x < length t
  inside x = proper.homes ab (length t) x some

  -- as many ones as keys, and fewer than cells
  pub counts : count_of t ≡ size (labels label t)
  counts = counts-keys M proper ab t sound

  pub keys-few : size (labels label t) < length t
  keys-few =
      omega (arith, length-map t label, size-lt (labels label t) (in-labels label t 0 (held_in (length t) t 0 refl sound.intact.empty)))

  pub cell-right : (x : ℕ) → In x t → label x ≢ 0 → T (price_ok (price x))
  cell-right x i nz =
      let h = in-holds (length t) t x refl i in
      let (_, low, high) = sound.intact.cells h.cell h.inside (λ z. nz (ap label (sym h.is ∙ z))) in
      subst (λ (c : ℕ). T (price_ok (price c))) h.is ((contents.prices (price (get_or t h.cell 0))).1 (low, high))

  -- of each key it has one entry
  pub entry-least : (y : ℕ) → label y ≢ 0 → In y t → Least label t y
  entry-least =
      own-least (length t) label (M.home ab (length t)) refl inside t
      (contents.priced (length t) (M.home ab (length t)) t ((sounds.words M ab t).1 sound))

  -- and none stands twice
  pub keys-once : (i j : ℕ) → i < length t → j < length t → label (get_or t i 0) ≢ 0 → label (get_or t i 0) ≡ label (get_or t j 0) → i ≡ j
  keys-once = contents.once (length t) (M.home ab (length t)) inside t ((sounds.words M ab t).1 sound)
