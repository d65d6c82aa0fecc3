-- Workers dealt in turn: order i is for worker i modulo the crew. And lists written over the front of others.
use mathlib.Core.Path.{◌≡◌, refl, sym, ◌∙◌, ap}
use mathlib.Core.List.{List, [], ◌∷◌, map}
use Prim.Native.Nat.{ℕ, zero, suc, ◌+◌, ◌-◌, ◌%◌, ◌≤◌, ◌<◌}
use native.Mathlib.Omega.{arith}
use native.Mathlib.Nat.{mod-eq_of_lt, add-mod_left}
use borrow.Author.Tests.{lt-ltb, le-ltb}
use lib.ListN.{length, get_or, drop, length-drop, length-append, get_or-append}
use lib.Seq.{get_or-append-add, get_or-drop}
use Rattle.ring.proofs.Split.{by-lt}
use Rattle.orders.specs.Orders.{blank, order_with, orders_of}
use Rattle.orders.specs.declared.Order.{Order}
use Rattle.till.specs.Till.{Line, line, following, dealt, over}
use Rattle.till.specs.Promise.{key_of, price_of}

-- ---- workers
following-mod : (m w i : ℕ) → w < m → (following m w < m) × ((following m w + i) % m ≡ (w + suc i) % m)
following-mod m w i h = by-lt (suc w) m
    (λ l. let e : suc w + i ≡ w + suc i = omega arith in rw (lt-ltb (suc w) m l) (l, rw e))
    (λ l.
    let e : w + suc i ≡ m + i = omega arith in
    let z : 0 + i ≡ i = omega arith in
    rw (le-ltb (suc w) m l, e) (omega arith, ap (λ (x : ℕ). x % m) z ∙ sym (add-mod_left m i)))

pub length-dealt : (m w : ℕ) (ls : List Line) → length (dealt m w ls) ≡ length ls
unfolding dealt
length-dealt m w [] = refl
length-dealt m w (line k p ∷ ls) = ap suc (length-dealt m (following m w) ls)

pub dealt-at : (m w : ℕ) (ls : List Line) (i : ℕ) → w < m → i < length ls
    → get_or (dealt m w ls) i blank ≡ order_with (key_of (get_or ls i (line 0 0))) (price_of (get_or ls i (line 0 0))) ((w + i) % m)
unfolding dealt
dealt-at m w [] i h l = absurd (omega arith)
dealt-at m w (line k p ∷ ls) zero h l = let z : w + 0 ≡ w = omega arith in rw (z, mod-eq_of_lt h)
dealt-at m w (line k p ∷ ls) (suc i) h l =
    let f = following-mod m w i h in
    dealt-at m (following m w) ls i f.0 (omega arith) ∙ rw f.1

-- ---- a list over the front of another
module _ {A : Type 0} (new old : List A) where
  pub length_over : length new ≤ length old → length (over new old) ≡ length old
  length_over h = rw (length-append new (drop (length new) old), length-drop (length new) old) (omega arith)

  pub over-front : (d : A) (i : ℕ) → i < length new → get_or (over new old) i d ≡ get_or new i d
  over-front d i h = get_or-append new (drop (length new) old) d i h

  pub over-behind : (d : A) (i : ℕ) → length new ≤ i → get_or (over new old) i d ≡ get_or old i d
  over-behind d i h =
      let e : i ≡ length new + (i - length new) = omega arith in
      ap (λ (k : ℕ). get_or (over new old) k d) e
      ∙ get_or-append-add new (drop (length new) old) (i - length new) d
      ∙ get_or-drop (length new) old (i - length new) d
      ∙ ap (λ (k : ℕ). get_or old k d) (rw (← e))

-- three lists, each over the front of another, are one list of orders over the front of another
pub over-three : (os : List Order) (ks ps ws : List ℕ) → length os ≤ length (orders_of ks ps ws)
    → orders_of (over (map (λ (o : Order). o.key) os) ks) (over (map (λ (o : Order). o.price) os) ps) (over (map (λ (o : Order). o.worker) os) ws)
    ≡ over os (orders_of ks ps ws)
unfolding orders_of
over-three [] ks ps ws h = refl
over-three (o ∷ os) [] ps ws h = absurd (omega arith)
over-three (o ∷ os) (k ∷ ks) [] ws h = absurd (omega arith)
over-three (o ∷ os) (k ∷ ks) (p ∷ ps) [] h = absurd (omega arith)
over-three (o ∷ os) (k ∷ ks) (p ∷ ps) (w ∷ ws) h = ap (λ (us : List Order). o ∷ us) (over-three os ks ps ws (omega arith))
