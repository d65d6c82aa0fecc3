-- The loop is the pass: before group g the list is as the steps for the earlier groups leave it, and `place` is the number of their entries.
use mathlib.Core.Path.{◌≡◌, refl, sym, ◌∙◌, ap}
use mathlib.Core.List.{List, ◌++◌, append-nil}
use Prim.Native.Nat.{ℕ, suc, ◌+◌, ◌-◌, ◌≤◌, ◌<◌}
use native.Mathlib.Omega.{arith}
use native.Mathlib.Numerals.{add-one}
use lib.ListN.{length, take, drop, length-drop, drop_of_length-le}
use lib.Seq.{take_all}
use Rattle.words.specs.Words.{occupied, filled, groups, group, place_of, count_of, passed}
use Rattle.words.proofs.Pass.{length-passed, whole}
use Rattle.words.proofs.Places.{place-zero, place-step, place-le-occupied, count-occupied}

-- ---- a list lent from place p on, and back from the loan with ys there
abbrev pub lent : List ℕ → ℕ → List ℕ
lent o p = take (length o - p) (drop p o)

abbrev pub back : List ℕ → ℕ → List ℕ → List ℕ
back o p ys = take p o ++ (ys ++ drop (length o - p) (drop p o))

module _ (o : List ℕ) (p : ℕ) where
  part : length (drop p o) ≤ length o - p
  part = simp length-drop (omega arith)

  lent_is : lent o p ≡ drop p o
  lent_is = take_all (length o - p) (drop p o) part

  back_is : (ys : List ℕ) → back o p ys ≡ take p o ++ ys
  back_is ys = rw (drop_of_length-le (drop p o) part, append-nil)

-- ---- the loop
pub record Listed (t old out : List ℕ) (place g : ℕ) : Type 0 where
  pub inside : g ≤ groups t
  pub at : place ≡ place_of t g
  pub list : out ≡ passed t g old

pub begins : (t out : List ℕ) → Listed t out out 0 0
unfolding passed
begins t out = record { inside = omega arith; at = sym (place-zero t); list = refl }

module _ {t old out : List ℕ} {place g : ℕ} (v : Listed t old out place g) (room : count_of t ≤ length old) where
  pub long : length out ≡ length old
  long = ap length v.list ∙ length-passed t g old room

  pub within : place ≤ length out
  within = omega (arith, long, v.at, place-le-occupied t g, count-occupied t)

  pub ends : groups t ≤ g → out ≡ filled t old
  ends h = let e : g ≡ groups t = omega (arith, v.inside) in v.list ∙ ap (λ (g : ℕ). passed t g old) e ∙ whole t old

  module _ {cells : List ℕ} (e : cells ≡ group t g) where
    after : place + occupied cells ≡ place_of t (suc g)
    after = omega (arith, v.at, place-step t g, ap occupied e)

    pub places : place + occupied cells ≤ length out
    places = omega (arith, after, long, place-le-occupied t (suc g), count-occupied t)

    pub fits : occupied cells ≤ length (lent out place)
    fits = rw lent_is (simp length-drop (omega (arith, places)))

    pub steps : g < groups t → {r : ℕ} {ys : List ℕ} → r ≡ occupied cells → ys ≡ filled cells (lent out place) → Listed t old (back out place ys) (place + r) (g + 1)
    unfolding passed
    steps l f h =
        rw add-one (record {
          inside = l;
          at = omega (arith, after);
          list = rw (back_is out place, h, lent_is out place, e, v.at, v.list);
        })
