-- The numbers of a list of fields: when they are readable, and how they are laid out.
use mathlib.Core.Path.{◌≡◌, refl, sym, ◌∙◌}
use mathlib.Core.Bool.{true, false, ◌&&◌, and-false, and_assoc}
use mathlib.Core.List.{List, [], ◌∷◌, ◌++◌, map, map-append}
use Prim.Native.Nat.{ℕ, zero, suc, ◌+◌, ◌-◌, ◌*◌, ◌≤◌, ◌<◌}
use native.Mathlib.Omega.{arith}
use borrow.Author.Tests.{le-leb, lt-leb}
use lib.ListN.{length, get_or, take, set, replicate, length-append, length-map}
use lib.Seq.{append_snoc, set-append_seam, take-append_seam}
use Rattle.std.specs.Prelude.{None, Some}
use Rattle.text.specs.Numbers.{greatest_number, longest_number, value_of, is_number}
use Rattle.text.specs.Digits.{digits_of}
use Rattle.text.proofs.Test.{by-test, by-lt, both_true}
use Rattle.text.specs.Promise.{Tabless}
use Rattle.text.proofs.Fields.{width}
use Rattle.text.proofs.Values.{number-parts}
use Rattle.text.proofs.Digits.{number-of-digits, tabless-digits, number-back, short-number}
use Rattle.lines.specs.Grammar.{most_numbers, padded, numbered, are_numbers, numbers_of}

-- ---- readable or not
module _ (fs : List (List ℕ)) where
  pub numbers-many : most_numbers < length fs → numbers_of fs ≡ None
  unfolding numbers_of
  numbers-many h = rw (lt-leb (length fs) most_numbers h)

  pub numbers-all : length fs ≤ most_numbers → are_numbers fs ≡ true → numbers_of fs ≡ Some (numbered (map value_of fs))
  unfolding numbers_of
  numbers-all h e = rw (le-leb (length fs) most_numbers h, e)

  pub numbers-wrong : are_numbers fs ≡ false → numbers_of fs ≡ None
  unfolding numbers_of
  numbers-wrong e = simp (e, and-false)

  -- they are readable, or none are
  pub by-numbers {ℓ} : {C : Type ℓ} → (length fs ≤ most_numbers → are_numbers fs ≡ true → C) → (numbers_of fs ≡ None → C) → C
  by-numbers f g = by-lt most_numbers (length fs)
      (λ h. g (numbers-many h))
      (λ h. by-test (are_numbers fs) (f h) (λ e. g (numbers-wrong e)))

-- ---- more fields
pub are-none : are_numbers [] ≡ true
unfolding are_numbers
are-none = refl

pub are-append : (fs gs : List (List ℕ)) → are_numbers (fs ++ gs) ≡ (are_numbers fs && are_numbers gs)
unfolding are_numbers
are-append [] gs = refl
are-append (f ∷ fs) gs = rw (are-append fs gs) (sym (and_assoc (is_number f) (are_numbers fs) (are_numbers gs)))

pub are-more : (fs : List (List ℕ)) (f : List ℕ) → are_numbers fs ≡ true → is_number f ≡ true → are_numbers (fs ++ f ∷ []) ≡ true
unfolding are_numbers
are-more fs f e i = are-append fs (f ∷ []) ∙ rw (e, i)

pub are-wrong : (fs : List (List ℕ)) (f : List ℕ) (gs : List (List ℕ)) → is_number f ≡ false → are_numbers (fs ++ f ∷ gs) ≡ false
unfolding are_numbers
are-wrong fs f gs i = are-append fs (f ∷ gs) ∙ simp (i, and-false)

-- one number more takes the place of the first zero
padded-more : (ns : List ℕ) (n k : ℕ) → most_numbers - length ns ≡ suc k → set (padded ns) (length ns) n ≡ padded (ns ++ n ∷ [])
padded-more ns n k h =
    let e : most_numbers - length (ns ++ n ∷ []) ≡ k = omega (arith, length-append ns (n ∷ [])) in
    rw (h, e) (set-append_seam ns 0 (replicate k 0) n ∙ sym (append_snoc ns n (replicate k 0)))

pub stored_more : (fs : List (List ℕ)) (f : List ℕ) → length fs < most_numbers → set (padded (map value_of fs)) (length fs) (value_of f) ≡ padded (map value_of (fs ++ f ∷ []))
stored_more fs f h =
    let l : length (map value_of fs) ≡ length fs = length-map fs value_of in
    rw (map-append value_of fs (f ∷ []), ← l) (padded-more (map value_of fs) (value_of f) (most_numbers - suc (length fs)) (omega arith))

-- ---- fields that are numbers
pub are-parts : (f : List ℕ) (fs : List (List ℕ)) → are_numbers (f ∷ fs) ≡ true → (is_number f ≡ true) × (are_numbers fs ≡ true)
unfolding are_numbers
are-parts f fs e = both_true (is_number f) (are_numbers fs) e

-- they are the digits of their values
pub digits-back : (fs : List (List ℕ)) → are_numbers fs ≡ true → map digits_of (map value_of fs) ≡ fs
digits-back [] e = refl
digits-back (f ∷ fs) e = let p = are-parts f fs e in rw (number-back f p.0, digits-back fs p.1)

pub values-range : (fs : List (List ℕ)) → are_numbers fs ≡ true → (i : ℕ) → get_or (map value_of fs) i 0 ≤ greatest_number
values-range [] e i = omega arith
values-range (f ∷ fs) e zero = (number-parts f (are-parts f fs e).0).2
values-range (f ∷ fs) e (suc i) = values-range fs (are-parts f fs e).1 i

-- and not long
pub narrow : (fs : List (List ℕ)) → are_numbers fs ≡ true → width fs ≤ length fs * (1 + longest_number)
unfolding width
narrow [] e = omega arith
narrow (f ∷ fs) e = let p = are-parts f fs e in omega (arith, short-number f p.0, narrow fs p.1)

-- ---- the digits of numbers in range
module _ (ns : List ℕ) where
  pub numbers-in : take (length ns) (padded ns) ≡ ns
  numbers-in = take-append_seam ns (replicate (most_numbers - length ns) 0)

pub tabless : (ns : List ℕ) → Tabless (map digits_of ns)
unfolding Tabless
tabless [] = tt
tabless (n ∷ ns) = (tabless-digits n, tabless ns)

pub are-digits : (ns : List ℕ) → ((i : ℕ) → get_or ns i 0 ≤ greatest_number) → are_numbers (map digits_of ns) ≡ true
unfolding are_numbers
are-digits [] r = refl
are-digits (n ∷ ns) r = rw ((number-of-digits n (r 0)).0, are-digits ns (λ i. r (suc i)))

pub values-back : (ns : List ℕ) → ((i : ℕ) → get_or ns i 0 ≤ greatest_number) → map value_of (map digits_of ns) ≡ ns
values-back [] r = refl
values-back (n ∷ ns) r = rw ((number-of-digits n (r 0)).1, values-back ns (λ i. r (suc i)))
