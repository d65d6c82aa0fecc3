-- Lists of orders given as three lists of numbers: their length, their lines and their keys.
use mathlib.Core.Path.{◌≡◌, refl, sym, ◌∙◌, ap}
use mathlib.Core.List.{List, [], ◌∷◌, ◌++◌}
use Prim.Native.Nat.{ℕ, zero, suc, min, ◌≤◌, ◌<◌}
use native.Mathlib.Omega.{arith}
use lib.ListN.{length, get_or, take, length-map}
use Rattle.std.specs.Prelude.{Some, None}
use Rattle.std.proofs.lemmas.Option.{slice_get-get_or, slice_get_past}
use Rattle.orders.specs.declared.Order.{Order}
use Rattle.orders.specs.Orders.{blank, order_with, line_at, ordered_keys, orders_of}

pub orders-length : (ks ps ws : List ℕ) → length (orders_of ks ps ws) ≡ min (length ks) (min (length ps) (length ws))
unfolding orders_of
orders-length [] ps ws = omega arith
orders-length (k ∷ ks) [] ws = omega arith
orders-length (k ∷ ks) (p ∷ ps) [] = omega arith
orders-length (k ∷ ks) (p ∷ ps) (w ∷ ws) = omega (arith, orders-length ks ps ws)

pub order-at : (ks ps ws : List ℕ) (i : ℕ) → i < length (orders_of ks ps ws)
    → get_or (orders_of ks ps ws) i blank ≡ order_with (get_or ks i 0) (get_or ps i 0) (get_or ws i 0)
unfolding orders_of
order-at [] ps ws i l = absurd (omega arith)
order-at (k ∷ ks) [] ws i l = absurd (omega arith)
order-at (k ∷ ks) (p ∷ ps) [] i l = absurd (omega arith)
order-at (k ∷ ks) (p ∷ ps) (w ∷ ws) zero l = refl
order-at (k ∷ ks) (p ∷ ps) (w ∷ ws) (suc i) l = order-at ks ps ws i (omega arith)

-- the keys are those of the first lines
pub orders-keys : (ks ps ws : List ℕ) → ordered_keys (orders_of ks ps ws) ≡ take (length (orders_of ks ps ws)) ks
unfolding orders_of
orders-keys [] ps ws = refl
orders-keys (k ∷ ks) [] ws = refl
orders-keys (k ∷ ks) (p ∷ ps) [] = refl
orders-keys (k ∷ ks) (p ∷ ps) (w ∷ ws) = ap (λ (r : List ℕ). k ∷ r) (orders-keys ks ps ws)

-- and so many
pub front_length : (ks ps ws : List ℕ) (lines : ℕ) → lines ≡ length (orders_of ks ps ws) → lines ≡ length (take lines ks)
front_length ks ps ws lines many = rw many (sym (length-map (orders_of ks ps ws) (λ (o : Order). o.key)) ∙ ap length (orders-keys ks ps ws))

-- one line more, behind lists of one length
pub orders-snoc : (ks ps ws : List ℕ) (k p w : ℕ) → length ks ≡ length ps → length ps ≡ length ws
    → orders_of (ks ++ (k ∷ [])) (ps ++ (p ∷ [])) (ws ++ (w ∷ [])) ≡ orders_of ks ps ws ++ (order_with k p w ∷ [])
unfolding orders_of
orders-snoc [] [] [] k p w e f = refl
orders-snoc [] [] (y ∷ ws) k p w e f = absurd (omega arith)
orders-snoc [] (x ∷ ps) ws k p w e f = absurd (omega arith)
orders-snoc (v ∷ ks) [] ws k p w e f = absurd (omega arith)
orders-snoc (v ∷ ks) (x ∷ ps) [] k p w e f = absurd (omega arith)
orders-snoc (v ∷ ks) (x ∷ ps) (y ∷ ws) k p w e f = ap (λ (r : List Order). order_with v x y ∷ r) (orders-snoc ks ps ws k p w (omega arith) (omega arith))

-- line i, where there is one and where there is none
module _ (ks ps ws : List ℕ) (i : ℕ) where
  pub line-within : i < length (orders_of ks ps ws) → Some (order_with (get_or ks i 0) (get_or ps i 0) (get_or ws i 0)) ≡ line_at (orders_of ks ps ws) i
  line-within l = sym (slice_get-get_or (orders_of ks ps ws) i blank l ∙ ap (λ (o : Order). Some o) (order-at ks ps ws i l))

  pub line-past : length (orders_of ks ps ws) ≤ i → None ≡ line_at (orders_of ks ps ws) i
  line-past l = sym (slice_get_past (orders_of ks ps ws) i l)

-- for the check
pub ruleset line_rules = (orders-length, line-within, line-past)
