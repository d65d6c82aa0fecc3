-- The layout of entries with right prices, fewer in keys than the cells are, as a table.
use mathlib.Core.Path.{◌≡◌, refl, sym, ap, ◌∙◌}
use mathlib.Core.Logic.{◌≢◌, ◌↔◌}
use mathlib.Core.List.{List}
use Prim.Native.Nat.{ℕ, ◌<◌}
use lib.Dec.{T}
use lib.ListN.{length, length-map}
use Rattle.layout.specs.Layout.{In, size}
use Rattle.layout.proofs.Sets.{in-holds, holds-in}
use Rattle.homes.specs.declared.Hash.{Hash}
use Rattle.prices.specs.Contents.{label, price, price_ok, SoundTable}
use Rattle.prices.specs.Priced.{labels, Least, priced_layout}
use Rattle.prices.proofs.Contents.{contents}
use Rattle.prices.proofs.Theorem.{theorem as layouts}
use Rattle.state.specs.Model.{Model, Proper}
use Rattle.protocol.specs.Promise.{Soundness}
use Rattle.protocol.proofs.Soundness.{sounds}

-- a table of n cells that is sound for that number
soundness : (M : Model) (ab : Hash) (n : ℕ) (u : List ℕ) → length u ≡ n → SoundTable n (M.home ab n) u → Soundness M ab u
soundness M ab n u e s = (sounds.words M ab u).0 (rw e s)

module _ (M : Model) (proper : Proper M) (ab : Hash) (n : ℕ) (some : 0 < n) (xs : List ℕ) (few : size (labels label xs) < n) where
  abbrev home : ℕ → ℕ
  home = M.home ab n

  inside : (x : ℕ) → home x < n
  inside x = proper.homes ab n x some

  pub laid-long : length (priced_layout n label (M.home ab n) xs) ≡ n
  laid-long =
      let u : List ℕ = priced_layout n label home xs in sym (length-map u label) ∙ ((layouts n label home refl inside).sound xs few).paths.sized

  pub laid-sound : ((x : ℕ) → In x xs → label x ≢ 0 → T (price_ok (price x))) → Soundness M ab (priced_layout n label (M.home ab n) xs)
  laid-sound right = soundness M ab n (priced_layout n label home xs) laid-long (contents.laid n home inside xs few right)

  pub laid-has : (y : ℕ) → label y ≢ 0 → In y (priced_layout n label (M.home ab n) xs) ↔ Least label xs y
  laid-has y nz =
      let u : List ℕ = priced_layout n label home xs in
      let h = (layouts n label home refl inside).contents xs few y nz in
      (λ i. h.0 (in-holds n u y laid-long i), λ l. holds-in n u y (λ z. nz (ap label z)) (h.1 l))
