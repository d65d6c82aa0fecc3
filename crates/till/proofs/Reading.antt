-- The reading of a text, record by record, by places.
use mathlib.Core.Path.{◌≡◌, refl, ap}
use mathlib.Core.List.{List, [], ◌∷◌}
use Prim.Native.Nat.{ℕ, zero, suc, ◌<◌}
use native.Mathlib.Omega.{arith}
use lib.ListN.{length, drop}
use lib.Seq.{drop-nil}
use Rattle.till.specs.Till.{Line, Front, front_of, Reading, in_front, read_behind, reading_of}
use Rattle.till.proofs.Fronts.{IsLine, front-is}

pub read-end : (k : ℕ) → read_behind [] k ≡ Reading.lines []
unfolding read_behind
read-end k = refl

behind : (s : List ℕ) (k : ℕ) → read_behind s k ≡ read_behind (drop k s) 0
unfolding read_behind
behind [] k = rw (drop-nil {A = ℕ} k)
behind (b ∷ s) zero = refl
behind (b ∷ s) (suc k) = behind s k

-- ---- by the record in front
pub read-broken : (s : List ℕ) → 0 < length s → front_of s ≡ Front.broken → read_behind s 0 ≡ Reading.broken
unfolding read_behind
read-broken [] h e = absurd (omega arith)
read-broken (b ∷ s) h e = rw e

pub read-wrong : (s : List ℕ) → 0 < length s → front_of s ≡ Front.wrong → read_behind s 0 ≡ Reading.wrong
unfolding read_behind
read-wrong [] h e = absurd (omega arith)
read-wrong (b ∷ s) h e = rw e

read-front : (b : ℕ) (s : List ℕ) (l : Line) (n : ℕ) → 0 < n → front_of (b ∷ s) ≡ Front.front l n
    → read_behind (b ∷ s) 0 ≡ in_front l (read_behind (drop n (b ∷ s)) 0)
unfolding read_behind
read-front b s l zero h e = absurd (omega arith)
read-front b s l (suc n) h e = rw e (ap (in_front l) (behind s n))

pub read-line : (s : List ℕ) {l : Line} {n : ℕ} → 0 < length s → front_of s ≡ Front.front l n → read_behind s 0 ≡ in_front l (read_behind (drop n s) 0)
read-line [] h e = absurd (omega arith)
read-line (b ∷ s) {l} {n} h e = let i : IsLine (b ∷ s) l n = rw e at (front-is (b ∷ s)) in read-front b s l n i.some e

-- ---- the whole text
pub read_some : (s : List ℕ) → 0 < length s → reading_of s ≡ read_behind s 0
unfolding reading_of
read_some [] h = absurd (omega arith)
read_some (b ∷ s) h = refl

pub read_none : (s : List ℕ) → length s ≡ 0 → reading_of s ≡ Reading.broken
unfolding reading_of
read_none [] h = refl
read_none (b ∷ s) h = absurd (omega arith)
