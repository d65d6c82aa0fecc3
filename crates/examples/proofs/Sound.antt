-- The test of a table's soundness by a and b, for tables that are written out: it is of none of the three kinds of unsound.
use mathlib.Core.Path.{◌≡◌, refl}
use mathlib.Core.Logic.{◌↔◌}
use mathlib.Core.Bool.{Bool, true, false, not, ◌&&◌}
use mathlib.Core.List.{List}
use Prim.Native.Nat.{ℕ}
use native.Mathlib.Nat.{mod-lt}
use lib.Dec.{T}
use lib.ListN.{length}
use borrow.Author.Tests.{not-true}
use Rattle.ring.proofs.Tests.{true-says, not_both}
use Rattle.ring.proofs.Each.{and-of, and_left, and_right}
use Rattle.homes.specs.Homes.{plain, mixed, spread}
use Rattle.homes.specs.Promise.{Odd}
use Rattle.homes.specs.declared.Hash.{Hash}
use Rattle.prices.specs.Contents.{SoundTable}
use Rattle.flaws.specs.Flaws.{is_intact, meets_empty, meets_key}
use Rattle.flaws.specs.Promise.{Flaws}
use Rattle.flaws.proofs.Theorem.{theorem as flaws}

pub plain-odd : Odd plain.a
plain-odd = (0, refl)

module _ (ab : Hash) (t : List ℕ) where
  abbrev home : ℕ → ℕ
  home = spread ab (length t)

  abbrev kinds : Flaws home t
  kinds = flaws.kinds home t

  abbrev pub is_sound : Bool
  is_sound = is_intact t && (not (meets_empty home t) && not (meets_key home t))

  refuted : {P : Type 0} (b : Bool) → b ≡ true ↔ P → T (not b) ↔ (P → ⊥)
  refuted b says = (
    λ h p. not_both b (says.1 p) (not-true b ((true-says (not b)).1 h)),
    λ h. by b (λ e. h (says.0 e)),
  )
    where
      by : (b : Bool) → (b ≡ true → ⊥) → T (not b)
      by true h = h refl
      by false h = tt

  pub sound-says : T is_sound ↔ SoundTable (length t) home t
  sound-says =
      let w = is_intact t in
      let g = not (meets_empty home t) in
      let d = not (meets_key home t) in
      let (to, from) = flaws.sound home t (λ l x. mod-lt (mixed ab x) l) in (
        λ h.
            let r = and_right w (g && d) h in
            from (
              kinds.intact.0 ((true-says w).1 (and_left w (g && d) h)),
              (refuted (meets_empty home t) kinds.gapped).0 (and_left g d r),
              (refuted (meets_key home t) kinds.disordered).0 (and_right g d r),
            ),
        λ s.
            let (a, b, c) = to s in
            and-of w (g && d) ((true-says w).0 (kinds.intact.1 a))
            (and-of g d ((refuted (meets_empty home t) kinds.gapped).1 b) ((refuted (meets_key home t) kinds.disordered).1 c)),
      )
