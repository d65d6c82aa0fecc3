-- Listing in one pass: what a step leaves in the part of the list that it is lent, said of the whole list.
use mathlib.Core.Path.{◌≡◌, refl, sym, ◌∙◌}
use mathlib.Core.List.{List, ◌++◌, append_assoc}
use Prim.Native.Nat.{ℕ, zero, suc, ◌*◌, ◌≤◌}
use native.Mathlib.Omega.{arith}
use lib.ListN.{length, take, drop}
use lib.Seq.{sets-eq, take_all, take_at, drop_at, drop-drop}
use Rattle.words.specs.Words.{occupied, entries_of, filled, groups, group, place_of, count_of, group_listed, stepped, passed}
use Rattle.words.proofs.Words.{occupied-append, entries-append, length-entries}
use Rattle.words.proofs.Order.{length-filled}
use Rattle.words.proofs.Places.{cells-next, place_is, place-step, place-le-occupied, count-occupied}

-- the cells xs are listed; then the cells ys, lent the list behind, are listed too
listed-on : (xs ys o : List ℕ) (p : ℕ) → p ≡ occupied xs → take p (filled xs o) ++ filled ys (drop p (filled xs o)) ≡ filled (xs ++ ys) o
listed-on xs ys o p e =
    let k : length (entries_of xs) ≡ p = length-entries xs ∙ sym e in
    let front : take p (filled xs o) ≡ entries_of xs = take_at (entries_of xs) (drop (occupied xs) o) p k in
    let behind : drop p (filled xs o) ≡ drop (occupied xs) o = drop_at (entries_of xs) (drop (occupied xs) o) p k in
    rw (front, behind, drop-drop, entries-append, append_assoc, occupied-append)

module _ (t : List ℕ) where
  step-on : (g : ℕ) (o : List ℕ) → stepped t g (filled (take (64 * g) t) o) ≡ filled (take (64 * suc g) t) o
  step-on g o = rw cells-next (listed-on (take (64 * g) t) (group t g) o (place_of t g) (place_is t g))

  pub one_pass : (g : ℕ) (o : List ℕ) → passed t g o ≡ filled (take (64 * g) t) o
  unfolding passed
  one_pass zero o = refl
  one_pass (suc g) o = rw (one_pass g o) (step-on g o)

  pub length-passed : (g : ℕ) (o : List ℕ) → count_of t ≤ length o → length (passed t g o) ≡ length o
  length-passed g o h = rw (one_pass g o) (length-filled (take (64 * g) t) o (omega (arith, place_is t g, place-le-occupied t g, count-occupied t)))

  pub whole : (o : List ℕ) → passed t (groups t) o ≡ filled t o
  whole o = let h : length t ≤ 64 * groups t = omega arith in one_pass (groups t) o ∙ rw (take_all (64 * groups t) t h)

  pub in_place : (g : ℕ) (o : List ℕ) → place_of t (suc g) ≤ length o → stepped t g o ≡ group_listed t g o
  in_place g o h =
      let k : length (entries_of (group t g)) ≡ occupied (group t g) = length-entries (group t g) in
      sym (sets-eq (entries_of (group t g)) o (place_of t g) (omega (arith, place-step t g, k)) ∙ rw (k, drop-drop, append_assoc))
