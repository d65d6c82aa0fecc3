-- Words of the promises on lists of orders, on lists that are written out.
use mathlib.Core.Path.{◌≡◌, refl}
use mathlib.Core.Logic.{◌≢◌, ◌⊎◌, inl, inr, ⊎_elim}
use mathlib.Core.Bool.{false≢true}
use mathlib.Core.List.{[], ◌∷◌}
use Prim.Native.Nat.{ℕ, zero, suc, ◌≤◌, ◌<◌}
use native.Mathlib.Omega.{arith}
use lib.ListN.{get_or}
use Rattle.layout.specs.Layout.{In, into, descending}
use Rattle.prices.specs.Contents.{content}
use Rattle.orders.specs.Orders.{order_with, blank, line_fault, lines_fault}
use Rattle.orders.specs.declared.Order.{Order}
use Rattle.rule.specs.Schedules.{ones}
use Rattle.protocol.specs.Lines.{Priced, ShopKey, Good, Earliest, Fills}
use Rattle.protocol.proofs.Lines.{blank_first, fills-says}
use Rattle.history.specs.Promise.{OfLine}
use Rattle.corollaries.specs.Corollaries.{price_items, worker_before_blank}
use Rattle.examples.specs.Orders.{one_line, at_ones}
use Rattle.corollaries.proofs.Members.{apart}

-- ---- good lines
pub five-good : (w : ℕ) → w < 2 → Good 2 (order_with 5 1 w)
five-good w l = record { key = apart 5 0 tt; shop = omega arith; price = (omega arith, omega arith); worker = l }

-- ---- the earliest line
pub worker-earliest : Earliest 2 worker_before_blank (λ (o : Order). (o.key ≢ 0) × ShopKey o.key × Priced o.price × (2 ≤ o.worker))
worker-earliest = record {
  line = 0;
  inside = omega arith;
  before = λ j l. absurd (omega arith);
  decides = (apart 5 0 tt, omega arith, (omega arith, omega arith), omega arith);
}

pub blank-behind : Earliest 2 (order_with 5 1 1 ∷ order_with 0 1 0 ∷ []) (λ (o : Order). o.key ≡ 0)
blank-behind = record { line = 1; inside = omega arith; before = before; decides = refl }
  where
    before : (j : ℕ) → j < 1 → Good 2 (get_or (order_with 5 1 1 ∷ order_with 0 1 0 ∷ []) j blank)
    before zero l = five-good 1 (omega arith)
    before (suc j) l = absurd (omega arith)

pub blank-later : Earliest 2 worker_before_blank (λ (o : Order). o.key ≡ 0) → ⊥
unfolding line_fault lines_fault
blank-later h = false≢true ((blank_first 2 worker_before_blank).1 h)

pub none-blank : Earliest 2 (order_with 5 1 1 ∷ order_with 6 1 0 ∷ []) (λ (o : Order). o.key ≡ 0) → ⊥
unfolding line_fault lines_fault
none-blank h = false≢true ((blank_first 2 (order_with 5 1 1 ∷ order_with 6 1 0 ∷ [])).1 h)

-- ---- too many labels
-- two numbers that differ stand once each
two-once : (x y : ℕ) → x ≢ y → (i j : ℕ) → i < 2 → j < 2 → get_or (x ∷ y ∷ []) i 0 ≡ get_or (x ∷ y ∷ []) j 0 → i ≡ j
two-once x y ne zero zero k l e = refl
two-once x y ne zero (suc zero) k l e = absurd (ne e)
two-once x y ne zero (suc (suc j)) k l e = absurd (omega arith)
two-once x y ne (suc zero) zero k l e = let f : y ≡ x = e in absurd (ne (omega arith))
two-once x y ne (suc zero) (suc zero) k l e = refl
two-once x y ne (suc zero) (suc (suc j)) k l e = absurd (omega arith)
two-once x y ne (suc (suc i)) j k l e = absurd (omega arith)

pub four-fills : Fills (ones (0 ∷ 7 ∷ [])) (one_line 4 1 0)
four-fills = record { found = 7 ∷ 4 ∷ []; many = omega arith; once = two-once 7 4 (apart 7 4 tt); each = each }
  where
    each : (l : ℕ) → In l (7 ∷ 4 ∷ []) → (l ≢ 0) × (In l (0 ∷ 7 ∷ []) ⊎ In l (4 ∷ []))
    each l i = ⊎_elim
        (λ e. let z : l ≡ 7 = e in (λ y. omega arith, inl (inr (inl z))))
        (⊎_elim (λ e. let z : l ≡ 4 = e in (λ y. omega arith, inr (inl z))) (λ b. absurd b)) i

pub list-fills : Fills (0 ∷ 0 ∷ []) (at_ones (4 ∷ 7 ∷ []))
list-fills = record { found = 7 ∷ 4 ∷ []; many = omega arith; once = two-once 7 4 (apart 7 4 tt); each = each }
  where
    each : (l : ℕ) → In l (7 ∷ 4 ∷ []) → (l ≢ 0) × (In l (0 ∷ 0 ∷ []) ⊎ In l (4 ∷ 7 ∷ []))
    each l i = ⊎_elim
        (λ e. let z : l ≡ 7 = e in (λ y. omega arith, inr (inr (inl z))))
        (⊎_elim (λ e. let z : l ≡ 4 = e in (λ y. omega arith, inr (inl z))) (λ b. absurd b)) i

pub seven-once : (Fills (ones (0 ∷ 7 ∷ [])) (one_line 7 1 0) → ⊥) × (Fills (ones (0 ∷ 7 ∷ [])) (order_with 7 9 0 ∷ order_with 7 1 1 ∷ []) → ⊥)
unfolding descending into
seven-once = (
  λ f. false≢true ((fills-says (ones (0 ∷ 7 ∷ [])) (one_line 7 1 0)).1 f),
  λ f. false≢true ((fills-says (ones (0 ∷ 7 ∷ [])) (order_with 7 9 0 ∷ order_with 7 1 1 ∷ [])).1 f),
)

pub four-once : (Fills (0 ∷ 0 ∷ []) (order_with 4 1 0 ∷ order_with 4 3 1 ∷ []) → ⊥) × (Fills (0 ∷ 0 ∷ []) (at_ones (4 ∷ 0 ∷ [])) → ⊥)
unfolding descending into
four-once = (
  λ f. false≢true ((fills-says (0 ∷ 0 ∷ []) (order_with 4 1 0 ∷ order_with 4 3 1 ∷ [])).1 f),
  λ f. false≢true ((fills-says (0 ∷ 0 ∷ []) (at_ones (4 ∷ 0 ∷ []))).1 f),
)

-- ---- of a line
mixed : (l : ℕ) → l < 3 → 8 ≡ (get_or price_items l blank).key → 7 ≡ (get_or price_items l blank).price → ⊥
mixed zero k e f = omega arith
mixed (suc zero) k e f = omega arith
mixed (suc (suc zero)) k e f = omega arith
mixed (suc (suc (suc l))) k e f = omega arith

pub not_mixed : OfLine price_items (content 8 7) → ⊥
not_mixed o = mixed o.line o.inside o.is o.costs

other : (l : ℕ) → l < 3 → 4 ≡ (get_or price_items l blank).key → ⊥
other zero k e = omega arith
other (suc zero) k e = omega arith
other (suc (suc zero)) k e = omega arith
other (suc (suc (suc l))) k e = omega arith

pub not_listed : OfLine price_items (content 4 5) → ⊥
not_listed o = other o.line o.inside o.is
