-- How many digits a number has, by its size, and stores from the last one on.
use mathlib.Core.Path.{◌≡◌, sym, ◌∙◌, ap}
use mathlib.Core.List.{List, [], ◌∷◌, ◌++◌, append_assoc}
use Prim.Native.Nat.{ℕ, suc, ◌+◌, ◌-◌, ◌/◌, ◌≤◌, ◌<◌}
use native.Mathlib.Omega.{arith}
use native.Mathlib.Nat.{add-zero}
use lib.ListN.{length, set, take, drop, length-append}
use lib.Seq.{sets, set_comm, sets-eq, drop-drop}
use borrow.Rule.Slice.PartMut.{put_mid}
use Rattle.text.specs.Digits.{digits_of}
use Rattle.text.proofs.Digits.{one-digit, more-digits}

pub one_place : (n : ℕ) → n < 10 → length (digits_of n) ≡ 1
one_place n h = rw (one-digit n h)

pub place-more : (n : ℕ) → 10 ≤ n → length (digits_of n) ≡ length (digits_of (n / 10)) + 1
place-more n h = rw (more-digits n h, length-append)

pub two-places : (n : ℕ) → 10 ≤ n → n < 100 → length (digits_of n) ≡ 2
two-places n h l = omega (arith, place-more n h, one_place (n / 10) (omega arith))

pub three-places : (n : ℕ) → 100 ≤ n → n < 1000 → length (digits_of n) ≡ 3
three-places n h l = omega (arith, place-more n (omega arith), two-places (n / 10) (omega arith) (omega arith))

pub four-places : (n : ℕ) → 1000 ≤ n → n < 10000 → length (digits_of n) ≡ 4
four-places n h l = omega (arith, place-more n (omega arith), three-places (n / 10) (omega arith) (omega arith))

pub four-more : (n : ℕ) → 10000 ≤ n → length (digits_of n) ≡ length (digits_of (n / 10000)) + 4
four-more n h =
    let a = place-more n (omega arith) in
    let b = place-more (n / 10) (omega arith) in
    let c = place-more (n / 10 / 10) (omega arith) in
    let d = place-more (n / 10 / 10 / 10) (omega arith) in
    let e : n / 10 / 10 / 10 / 10 ≡ n / 10000 = omega arith in
    omega (arith, a, b, c, rw e at d)

-- the last of a run of stores may be done first
pub sets_last : (vs l : List ℕ) (i b : ℕ) → sets l i (vs ++ b ∷ []) ≡ sets (set l (i + length vs) b) i vs
sets_last [] l i b = rw (add-zero i)
sets_last (a ∷ vs) l i b =
    let e : suc i + length vs ≡ i + suc (length vs) = omega arith in
    sets_last vs (set l i a) (suc i) b
    ∙ rw e (ap (λ (r : List ℕ). sets r (suc i) vs) (set_comm l i (i + suc (length vs)) a b (λ d. omega arith)))

-- a part that is written over by as many bytes is a run of stores
pub part_sets : (l vs : List ℕ) (at : ℕ) → at + length vs ≤ length l → put_mid at (at + length vs - at) l vs ≡ sets l at vs
part_sets l vs at h =
    let k : at + length vs - at ≡ length vs = omega arith in
    let d : drop (length vs) (drop at l) ≡ drop (at + length vs) l = drop-drop (length vs) at l in
    rw k (rw d (sym (append_assoc (take at l) vs (drop (at + length vs) l)) ∙ sym (sets-eq vs l at h)))
