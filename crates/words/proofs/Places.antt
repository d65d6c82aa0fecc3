-- Groups and their places in the list: as many as there are labels in the cells before the group.
use mathlib.Core.Path.{◌≡◌, refl, ◌∙◌, ap}
use mathlib.Core.List.{List, ◌++◌}
use Prim.Native.Nat.{ℕ, zero, suc, ◌+◌, ◌*◌, ◌≤◌, ◌<◌}
use native.Mathlib.Omega.{arith}
use native.Mathlib.Numerals.{add-one}
use lib.Count.{ones}
use lib.ListN.{length, get_or, take, drop, take-append-drop, length-take}
use lib.Seq.{take-add, take_all, get_or-take, get_or-drop}
use Rattle.ring.specs.Counting.{tally}
use Rattle.words.specs.Words.{occupied, groups, group, word_of, place_of, count_of}
use Rattle.words.proofs.Words.{ones-word, occupied-append, occupied-le}

module _ (t : List ℕ) where
  pub group-length : (g : ℕ) → length (group t g) ≤ 64
  group-length g = simp length-take (omega arith)

  pub group-cell : (g b : ℕ) → b < 64 → get_or (group t g) b 0 ≡ get_or t (64 * g + b) 0
  group-cell g b h = rw (get_or-take, get_or-drop)

  -- the cells up to and with group g
  pub cells-next : (g : ℕ) → take (64 * suc g) t ≡ take (64 * g) t ++ group t g
  cells-next g = let e : 64 * suc g ≡ 64 * g + 64 = omega arith in rw e (take-add (64 * g) 64 t)

  pub place-zero : place_of t 0 ≡ 0
  unfolding place_of tally
  place-zero = refl

  pub place-next : (g : ℕ) → place_of t (suc g) ≡ place_of t g + ones (word_of (group t g))
  unfolding place_of tally
  place-next g = refl

  pub place-step : (g : ℕ) → place_of t (suc g) ≡ place_of t g + occupied (group t g)
  place-step g = omega (arith, place-next g, ones-word (group t g))

  pub place_is : (g : ℕ) → place_of t g ≡ occupied (take (64 * g) t)
  place_is zero = place-zero
  place_is (suc g) = rw cells-next (omega (arith, place-step g, place_is g, occupied-append (take (64 * g) t) (group t g)))

  pub place-le-occupied : (g : ℕ) → place_of t g ≤ occupied t
  place-le-occupied g = omega (arith, place_is g, occupied-append (take (64 * g) t) (drop (64 * g) t), ap occupied (take-append-drop (64 * g) t))

  pub place-le-length : (g : ℕ) → place_of t g ≤ length t
  place-le-length g = omega (arith, place-le-occupied g, occupied-le t)

  pub count-occupied : count_of t ≡ occupied t
  count-occupied = let h : length t ≤ 64 * groups t = omega arith in place_is (groups t) ∙ ap occupied (take_all (64 * groups t) t h)

-- ---- group g as the code has it
module _ (t : List ℕ) (g : ℕ) {cells : List ℕ} (e : cells ≡ group t g) where
  pub cells-short : length cells ≤ 64
  cells-short = omega (arith, group-length t g, ap length e)

  pub place_after_lem : {p r : ℕ} → p ≡ place_of t g → r ≡ ones (word_of cells) → p + r ≡ place_of t (g + 1)
  place_after_lem f h = rw add-one (omega (arith, place-next t g, ap (λ (l : List ℕ). ones (word_of l)) e))
