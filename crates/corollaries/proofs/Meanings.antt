-- What words of the promises mean, on lists that are written out.
use mathlib.Core.Path.{◌≡◌, refl}
use mathlib.Core.Logic.{inl, inr, ⊎_elim}
use mathlib.Core.List.{[], ◌∷◌}
use Prim.Native.Nat.{ℕ}
use native.Mathlib.Omega.{arith}
use Rattle.layout.specs.Layout.{In, into, descending, listed}
use Rattle.prices.specs.Contents.{label, price, content}
use Rattle.prices.specs.Priced.{Least, lesser, least}
use Rattle.rule.specs.Events.{event, run, accepts, ordered}
use Rattle.phases.specs.Promise.{Sold, SameOrders}
use Rattle.examples.specs.Examples.{at_prices}
use Rattle.corollaries.specs.Meanings.{Meanings}
use Rattle.corollaries.proofs.Lending.{five-good, worker-earliest, blank-behind, blank-later, none-blank}
use Rattle.corollaries.proofs.Lending.{four-fills, list-fills, seven-once, four-once, not_mixed, not_listed}
use Rattle.corollaries.proofs.Members.{apart, least_in, all_in, same-orders, same_keys, is-least}
use Rattle.corollaries.proofs.Unsound.{disordered-intact, not_full, behind-thirteen, empty_first, not_nearest, in_order}
use Rattle.corollaries.proofs.Unsound.{gapped-is, disordered-is, empty_decides, lowest_gap, lowest_disorder}

three : Sold label at_prices 3 7
three = record { content = content 3 7; member = inr (inr (inr (inr (inl refl)))); is = refl; costs = refl }

higher : SameOrders 1 label (content 8 5 ∷ content 8 3 ∷ []) (content 8 3 ∷ [])
unfolding least_in listed lesser least
higher = same-orders 1 (content 8 5 ∷ content 8 3 ∷ []) (content 8 3 ∷ []) tt tt

other : SameOrders 2 label (content 8 5 ∷ []) (content 8 3 ∷ [])
unfolding all_in listed
other = same_keys 2 (λ z. omega arith) (content 8 5 ∷ []) (content 8 3 ∷ []) tt tt

own : Least label (content 8 3 ∷ []) (content 8 3)
unfolding lesser least
own = is-least (content 8 3 ∷ []) (content 8 3) (λ z. omega arith) (inl refl) tt

not_in : In (content 8 3) (content 8 5 ∷ []) → ⊥
not_in i = ⊎_elim (λ e. let z : content 8 3 ≡ content 8 5 = e in omega arith) (λ b. absurd b) i

four-sold : Sold label at_prices 4 7 → ⊥
four-sold s = go s.content s.member s.is
  where
    go : (c : ℕ) → In c at_prices → label c ≡ 4 → ⊥
    go c i e =
        ⊎_elim (λ a. zero_is c a e) (⊎_elim (λ a. zero_is c a e) (⊎_elim (λ a. zero_is c a e) (⊎_elim (λ a. let z : c ≡ content 8 9 = a in omega arith) (⊎_elim (λ a. let z : c ≡ content 3 7 = a in omega arith) (λ b. absurd b))))) i
      where
        zero_is : (c : ℕ) → c ≡ 0 → label c ≡ 4 → ⊥
        zero_is c a e = omega arith

pub meanings : Meanings
unfolding run event accepts ordered descending into
meanings = record {
  higher_too = higher;
  other_least = λ h. not_in ((h.1 refl (content 8 3) (λ z. omega arith)).1 own).member;
  unread = other;
  wrong_no = λ r. absurd ((r.1 7).1 three).0;
  wrong_price = λ r. let z : ◌≡◌ {A = ℕ} 8 7 = ((r.1 7).1 three).1 in omega arith;
  wrong_label = λ r. four-sold ((r.1 7).0 (tt, refl));
  wrong_before = λ r. absurd ((r.2.1 7).1 three).0;
  room = omega arith;
  good = five-good 1 (omega arith);
  good_dearest = record { key = apart 3999999999 0 tt; shop = omega arith; price = (omega arith, omega arith); worker = omega arith };
  not_blank = λ g. g.key refl;
  not_for_tests = λ g. omega (arith, g.shop);
  not_free = λ g. omega (arith, g.price.0);
  not_too_dear = λ g. omega (arith, g.price.1);
  not_workless = λ g. omega (arith, g.worker);
  earliest = worker-earliest;
  not_later = blank-later;
  behind_good = blank-behind;
  none_bad = none-blank;
  fills = four-fills;
  fills_alone = list-fills;
  not_again = seven-once.0;
  not_at_two_prices = seven-once.1;
  not_twice = four-once.0;
  not_zero = four-once.1;
  test_taken_out = record { key = apart 4294967295 0 tt; shop = λ is. omega arith; priced = λ is. omega arith; unpriced = λ _. refl };
  test_looked_up = record { key = apart 4000000000 0 tt; shop = λ is. omega arith; priced = λ is. omega arith; unpriced = λ _. refl };
  test_not_put_in = λ a. omega (arith, a.shop refl);
  shop_put_in = record { key = apart 3999999999 0 tt; shop = λ _. omega arith; priced = λ _. (omega arith, omega arith); unpriced = λ ne. absurd (ne refl) };
  of_line = record { line = 1; inside = omega arith; is = refl; costs = refl };
  not_mixed = not_mixed;
  not_listed = not_listed;
  intact = disordered-intact;
  not_full = not_full;
  not_unpriced = λ w. let (_, l, _) = w.cells 1 (omega arith) (apart (content 7 0) 0 tt) in omega (arith, l);
  not_overpriced = λ w. let (_, _, l) = w.cells 1 (omega arith) (apart (content 7 10000000) 0 tt) in omega (arith, l);
  not_unlabelled = λ w. let (nz, _, _) = w.cells 1 (omega arith) (apart 7 0 tt) in nz refl;
  behind_greater = behind-thirteen;
  empty_first = empty_first;
  not_nearest = not_nearest;
  in_order = in_order;
  gap = gapped-is;
  disorder = disordered-is;
  empty_decides = empty_decides;
  lowest_gap = lowest_gap;
  lowest_disorder = lowest_disorder;
  even = (2147483647, refl);
  even_none = (0, refl);
  not_even = λ (h, e). omega arith;
  odd = (2147483647, refl);
  odd_one = (0, refl);
  not_odd = λ (h, e). omega arith;
}
