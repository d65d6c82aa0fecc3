-- What words of the promises mean, on lists that are written out: a premise that asks for more, or a conclusion that says less, would be noticed here.
use Rattle.std.specs.Prelude.{◌≡◌, ◌≢◌, true, false, [], ◌∷◌, ℕ, ◌≤◌}
use Rattle.homes.specs.Homes.{plain, spread}
use Rattle.homes.specs.Promise.{Even, Odd}
use Rattle.prices.specs.Contents.{label, content}
use Rattle.flaws.specs.Promise.{Intact, Breaks, Gapped, Disordered}
use Rattle.orders.specs.Orders.{order_with}
use Rattle.orders.specs.declared.Order.{Order}
use Rattle.rule.specs.Events.{after, order}
use Rattle.rule.specs.Schedules.{ones}
use Rattle.phases.specs.Promise.{Right, Roomy, SameOrders}
use Rattle.protocol.specs.Lines.{Priced, ShopKey, Good, Earliest, Fills}
use Rattle.history.specs.Promise.{Acceptable, OfLine}
use Rattle.examples.specs.Examples.{at_prices}
use Rattle.corollaries.specs.Corollaries.{price_items, worker_before_blank}
use Rattle.examples.specs.Orders.{one_line, at_ones}
use Rattle.examples.specs.Repairs.{gapped, disordered, full}

pub record Meanings : Type 0 where
  -- equal least ordered prices: a higher price besides plays no part, another least one does; outside put-in shifts no price does
  pub higher_too : SameOrders 1 label (content 8 5 ∷ content 8 3 ∷ []) (content 8 3 ∷ [])
  pub other_least : SameOrders 1 label (content 8 5 ∷ []) (content 8 3 ∷ []) → ⊥
  pub unread : SameOrders 2 label (content 8 5 ∷ []) (content 8 3 ∷ [])
  -- right answers: neither no for a label that stands there, nor another price, nor a price for one that does not; of every answer
  pub wrong_no : Right label at_prices (record { wanted = content 3 0; found = false; price = 0 } ∷ []) → ⊥
  pub wrong_price : Right label at_prices (record { wanted = content 3 0; found = true; price = 8 } ∷ []) → ⊥
  pub wrong_label : Right label at_prices (record { wanted = content 4 0; found = true; price = 7 } ∷ []) → ⊥
  pub wrong_before : Right label at_prices
      (record { wanted = content 8 0; found = true; price = 9 } ∷ record { wanted = content 3 0; found = false; price = 0 } ∷ []) → ⊥
  -- room: each label is counted once, at however many prices
  pub room : Roomy 2 label (0 ∷ 0 ∷ []) (after 1 2 2 label (spread plain 2) (0 ∷ 0 ∷ []) (order 0 (content 8 5) ∷ order 1 (content 8 3) ∷ []))
  -- a good line: a label below 4,000,000,000, a price from 1 to 9,999,999, a worker below the count
  pub good : Good 2 (order_with 5 1 1)
  pub good_dearest : Good 2 (order_with 3999999999 9999999 0)
  pub not_blank : Good 2 (order_with 0 1 1) → ⊥
  pub not_for_tests : Good 2 (order_with 4000000000 1 1) → ⊥
  pub not_free : Good 2 (order_with 5 0 1) → ⊥
  pub not_too_dear : Good 2 (order_with 5 10000000 1) → ⊥
  pub not_workless : Good 2 (order_with 5 1 2) → ⊥
  -- the earliest line that is not good: a worker in line 0 before the label in line 1; behind good lines as well
  pub earliest : Earliest 2 worker_before_blank (λ (o : Order). (o.key ≢ 0) × ShopKey o.key × Priced o.price × (2 ≤ o.worker))
  pub not_later : Earliest 2 worker_before_blank (λ (o : Order). o.key ≡ 0) → ⊥
  pub behind_good : Earliest 2 (order_with 5 1 1 ∷ order_with 0 1 0 ∷ []) (λ (o : Order). o.key ≡ 0)
  pub none_bad : Earliest 2 (order_with 5 1 1 ∷ order_with 6 1 0 ∷ []) (λ (o : Order). o.key ≡ 0) → ⊥
  -- too many labels: those of table and list, each counted once, at however many prices; 0 is no label
  pub fills : Fills (ones (0 ∷ 7 ∷ [])) (one_line 4 1 0)
  pub fills_alone : Fills (0 ∷ 0 ∷ []) (at_ones (4 ∷ 7 ∷ []))
  pub not_again : Fills (ones (0 ∷ 7 ∷ [])) (one_line 7 1 0) → ⊥
  pub not_at_two_prices : Fills (ones (0 ∷ 7 ∷ [])) (order_with 7 9 0 ∷ order_with 7 1 1 ∷ []) → ⊥
  pub not_twice : Fills (0 ∷ 0 ∷ []) (order_with 4 1 0 ∷ order_with 4 3 1 ∷ []) → ⊥
  pub not_zero : Fills (0 ∷ 0 ∷ []) (at_ones (4 ∷ 0 ∷ [])) → ⊥
  -- what may be ordered: a label for factory tests may be taken out and looked up, and not put in
  pub test_taken_out : Acceptable 2 (content 4294967295 0)
  pub test_looked_up : Acceptable 3 (content 4000000000 0)
  pub test_not_put_in : Acceptable 1 (content 4000000000 1) → ⊥
  pub shop_put_in : Acceptable 1 (content 3999999999 1)
  -- of a line: the label and the price of one and the same line
  pub of_line : OfLine price_items (content 8 3)
  pub not_mixed : OfLine price_items (content 8 7) → ⊥
  pub not_listed : OfLine price_items (content 4 5) → ⊥
  -- an intact table has an empty cell, and beside every label a price from 1 to 9,999,999; a price alone is no label
  pub intact : Intact disordered
  pub not_full : Intact full → ⊥
  pub not_unpriced : Intact (0 ∷ content 7 0 ∷ []) → ⊥
  pub not_overpriced : Intact (0 ∷ content 7 10000000 ∷ []) → ⊥
  pub not_unlabelled : Intact (0 ∷ 7 ∷ []) → ⊥
  -- a label breaks the order by the first content on its way that isn't greater: 8 in cell 0 by the empty cell 4 behind 13, by the empty cell 3 and not
  -- by 4 behind it; in a sound table none does, nor by its own content
  pub behind_greater : Breaks 5 (spread plain 5) (8 ∷ 0 ∷ 0 ∷ 13 ∷ 0 ∷ []) 0 1
  pub empty_first : Breaks 5 (spread plain 5) (8 ∷ 0 ∷ 0 ∷ 0 ∷ 4 ∷ []) 0 0
  pub not_nearest : Breaks 5 (spread plain 5) (8 ∷ 0 ∷ 0 ∷ 0 ∷ 4 ∷ []) 0 1 → ⊥
  pub in_order : (j s : ℕ) → Breaks 5 (spread plain 5) (0 ∷ 0 ∷ 0 ∷ 13 ∷ 8 ∷ []) j s → ⊥
  -- the lowest-numbered cell decides
  pub gap : Gapped (spread plain 5) gapped
  pub disorder : Disordered (spread plain 5) disordered
  pub empty_decides : Gapped (spread plain 5) (ones (8 ∷ 0 ∷ 0 ∷ 0 ∷ 4 ∷ []))
  pub lowest_gap : Gapped (spread plain 5) (ones (6 ∷ 0 ∷ 0 ∷ 8 ∷ 13 ∷ []))
  pub lowest_disorder : Disordered (spread plain 5) (ones (0 ∷ 1 ∷ 6 ∷ 0 ∷ 3 ∷ []))
  -- an even a, and an odd one
  pub even : Even 4294967294
  pub even_none : Even 0
  pub not_even : Even 4294967295 → ⊥
  pub odd : Odd 4294967295
  pub odd_one : Odd 1
  pub not_odd : Odd 0 → ⊥
