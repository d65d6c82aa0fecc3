-- Where the input is cut does not matter.
use mathlib.Core.Path.{◌≡◌, refl, sym, ap, ◌∙◌}
use mathlib.Core.Bool.{true, false}
use mathlib.Core.List.{List, [], ◌∷◌, ◌++◌, append_assoc}
use Prim.Native.Nat.{ℕ, zero, suc}
use lib.ListN.{take}
use borrow.Author.Tests.{ne_eqb, eq-eqb}
use Rattle.feed.specs.Feed.{Kept, behind_line, line_output, with_byte, behind, byte_output, fed, printed, last_output}

-- of what is kept of a list, as much is kept with more behind it
pub front-more : (m : ℕ) (p q : List ℕ) → take m (take m p ++ q) ≡ take m (p ++ q)
front-more zero p q = refl
front-more (suc m) [] q = refl
front-more (suc m) (x ∷ p) q = ap (◌∷◌ x) (front-more m p q)

-- ---- cuts
pub fed-append : (k : Kept) (a b : List ℕ) → fed k (a ++ b) ≡ fed (fed k a) b
unfolding fed
fed-append k [] b = refl
fed-append k (x ∷ a) b = fed-append (behind k x) a b

pub printed-append : (k : Kept) (a b : List ℕ) → printed k (a ++ b) ≡ printed k a ++ printed (fed k a) b
unfolding fed printed
printed-append k [] b = refl
printed-append k (x ∷ a) b =
    ap (λ (l : List ℕ). byte_output k x ++ l) (printed-append (behind k x) a b)
    ∙ sym (append_assoc (byte_output k x) (printed (behind k x) a) (printed (fed (behind k x) a) b))

-- ---- a replay that has ended
ended-behind : (k : Kept) → k.ended ≡ true → (b : ℕ) → behind k b ≡ k
unfolding behind
ended-behind k e b = rw e

ended-byte : (k : Kept) → k.ended ≡ true → (b : ℕ) → byte_output k b ≡ []
unfolding byte_output
ended-byte k e b = rw e

pub ended-fed : (k : Kept) → k.ended ≡ true → (a : List ℕ) → fed k a ≡ k
unfolding fed
ended-fed k e [] = refl
ended-fed k e (b ∷ a) = ap (λ (x : Kept). fed x a) (ended-behind k e b) ∙ ended-fed k e a

pub ended-printed : (k : Kept) → k.ended ≡ true → (a : List ℕ) → printed k a ≡ []
unfolding printed
ended-printed k e [] = refl
ended-printed k e (b ∷ a) = rw (ended-byte k e b, ended-behind k e b) (ended-printed k e a)

pub ended-last : (k : Kept) → k.ended ≡ true → last_output k ≡ []
unfolding last_output
ended-last k e = rw e

pub ended-output : (k : Kept) → k.ended ≡ true → (a : List ℕ) → printed k a ++ last_output (fed k a) ≡ []
ended-output k e a = rw (ended-fed k e a, ended-printed k e a) (ended-last k e)

-- ---- a byte of a replay that goes on
module _ (k : Kept) (goes : k.ended ≡ false) where
  pub behind-newline : (b : ℕ) → b ≡ 10 → behind k b ≡ behind_line k
  unfolding behind
  behind-newline b e = rw (goes, eq-eqb b 10 e)

  pub newline-output : (b : ℕ) → b ≡ 10 → byte_output k b ≡ line_output k
  unfolding byte_output
  newline-output b e = rw (goes, eq-eqb b 10 e)

  pub behind-byte : (b : ℕ) → (b ≡ 10 → ⊥) → behind k b ≡ with_byte k b
  unfolding behind
  behind-byte b e = rw (goes, ne_eqb b 10 e)

  pub byte-output : (b : ℕ) → (b ≡ 10 → ⊥) → byte_output k b ≡ []
  unfolding byte_output
  byte-output b e = rw (goes, ne_eqb b 10 e)
