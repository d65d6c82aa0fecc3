-- Worked examples as one table: document 01's tables to try that are marked P, with price 1 beside every label, phases call by call, the same where
-- prices differ, and the tables of the other files here.
use Rattle.std.specs.Prelude.{List, [], ◌∷◌, ◌++◌, map, ℕ}
use Rattle.homes.specs.Homes.{plain}
use Rattle.prices.specs.Contents.{label, content}
use Rattle.prices.specs.Priced.{without_labels}
use Rattle.orders.specs.Orders.{order_with}
use Rattle.orders.specs.declared.Order.{Order}
use Rattle.history.specs.History.{order, turn, close}
use Rattle.rule.specs.Schedules.{ones, schedules}
use Rattle.examples.specs.Forms.{Example, laid, unsound, word, calling, closing, empty_cells, line, handed, AllSay}
use Rattle.examples.specs.Forms.{Told, ok, refuses, on, ons, done, found, missing, rests}
use Rattle.examples.specs.Traces.{traces}
use Rattle.examples.specs.Bounds.{bounds}
use Rattle.examples.specs.Limits.{limits}
use Rattle.examples.specs.Orders.{one_line, wrong_lines, orders}
use Rattle.examples.specs.Repairs.{repairs}
use Rattle.examples.specs.Spreading.{spreads, AllSpread}
use Rattle.examples.specs.TestNumbers.{test_numbers}

-- document 01's four keys in five cells
abbrev pub four : List ℕ
four = ones (4 ∷ 3 ∷ 0 ∷ 13 ∷ 8 ∷ [])

unfoldable pub tables : List Example
tables =
    laid 5 (ones (3 ∷ 4 ∷ 8 ∷ 13 ∷ [])) four
    ∷ laid 5 (ones (13 ∷ 3 ∷ 8 ∷ 0 ∷ 4 ∷ 3 ∷ [])) four
    ∷ word four 0 27 0
    ∷ laid 5 (without_labels label (ones (8 ∷ [])) four) (ones (3 ∷ 0 ∷ 0 ∷ 13 ∷ 4 ∷ []))
    ∷ laid 2 (ones (7 ∷ [])) (ones (0 ∷ 7 ∷ []))
    ∷ laid 5 (ones (4294967295 ∷ [])) (ones (4294967295 ∷ 0 ∷ 0 ∷ 0 ∷ 0 ∷ []))
    ∷ unsound (ones (0 ∷ 0 ∷ 0 ∷ 8 ∷ 13 ∷ []))
    ∷ unsound (ones (0 ∷ 0 ∷ 0 ∷ 3 ∷ 3 ∷ []))
    ∷ unsound (ones (6 ∷ 0 ∷ 0 ∷ 0 ∷ 0 ∷ []))
    ∷ unsound (ones (5 ∷ 6 ∷ 7 ∷ 8 ∷ 9 ∷ []))
    -- of each label the least price is laid out
    ∷ laid 5 (content 8 5 ∷ content 3 2 ∷ content 8 3 ∷ content 3 4 ∷ content 8 4 ∷ []) (0 ∷ 0 ∷ 0 ∷ content 8 3 ∷ content 3 2 ∷ [])
    ∷ laid 5 (content 8 3 ∷ content 3 4 ∷ content 3 2 ∷ []) (0 ∷ 0 ∷ 0 ∷ content 8 3 ∷ content 3 2 ∷ [])
    ∷ laid 5 (without_labels label (content 8 7 ∷ content 4 3 ∷ []) (0 ∷ 0 ∷ 0 ∷ content 8 3 ∷ content 3 2 ∷ [])) (0 ∷ 0 ∷ 0 ∷ content 3 2 ∷ 0 ∷ [])
    ∷ laid 5 (content 8 3 ∷ 7 ∷ []) (0 ∷ 0 ∷ 0 ∷ content 8 3 ∷ 0 ∷ [])
    -- a cell other than 0 whose label is 0 or whose price is outside 1 to 9,999,999
    ∷ unsound (0 ∷ content 7 0 ∷ [])
    ∷ unsound (0 ∷ content 7 10000000 ∷ [])
    ∷ unsound (0 ∷ content 7 4294967295 ∷ [])
    ∷ unsound (0 ∷ 1 ∷ [])
    ∷ unsound (9999999 ∷ content 7 1 ∷ 0 ∷ [])
    -- no empty cell, though one has no label; and one label at two prices
    ∷ unsound (5 ∷ content 7 1 ∷ [])
    ∷ unsound (0 ∷ 0 ∷ 0 ∷ content 3 2 ∷ content 3 1 ∷ [])
    ∷ []

-- ---- phases, each call with its answer
-- 13 ordered out by two workers; a close before both have finished gets 10, calls after the close get 11
abbrev pub two_take_out : List Told
two_take_out =
    ok (handed 0 13) ∷ ok (handed 1 13) ∷ refuses (handed 1 8) 8 ∷ on 0 ∷ on 1 ∷ on 0 ∷ on 1 ∷ on 0 ∷ on 1 ∷ on 0 ∷ on 1 ∷ on 0 ∷ done 1
    ∷ refuses close 10 ∷ rests 1 ∷ ons 7 0 (done 0 ∷ ok close ∷ refuses (turn 0) 11 ∷ refuses (handed 9 0) 11 ∷ refuses close 11 ∷ [])

-- two workers put in 8; there is no line 2 and no worker 2
abbrev pub eight_twice : List Order
eight_twice = order_with 8 1 0 ∷ order_with 8 1 1 ∷ []

abbrev pub two_put_in : List Told
two_put_in =
    ok (line 0) ∷ refuses (line 2) 15 ∷ ok (line 1) ∷ on 0 ∷ on 1 ∷ done 0 ∷ on 1 ∷ refuses (turn 2) 6 ∷ done 1 ∷ rests 1 ∷ ok close ∷ []

-- the sheet: its four items, put into five empty cells; a line may be given twice
abbrev pub sheet_items : List Order
sheet_items = order_with 3 1 0 ∷ order_with 8 1 1 ∷ order_with 13 1 0 ∷ order_with 4 1 1 ∷ []

abbrev pub sheet_puts_in : List Told
sheet_puts_in =
    ok (line 0) ∷ ok (line 1) ∷ on 0 ∷ on 1 ∷ done 0 ∷ on 1 ∷ on 1 ∷ on 1 ∷ on 1 ∷ done 1
    ∷ ok (line 2) ∷ ok (line 3) ∷ on 0 ∷ on 1 ∷ on 0 ∷ on 1 ∷ on 0 ∷ on 1 ∷ on 0 ∷ on 0 ∷ done 0
    ∷ refuses (line 4) 15 ∷ refuses (line 3) 8 ∷ on 1 ∷ on 1 ∷ on 1 ∷ done 1 ∷ ok (line 3) ∷ on 1 ∷ done 1 ∷ ok close ∷ []

-- a look-up says the price if its label is in the table, otherwise no
abbrev pub looks_up : List Told
looks_up =
    ok (handed 0 4) ∷ ok (handed 1 9) ∷ on 0 ∷ missing 1 ∷ found 0 1 ∷ rests 1
    ∷ ok (handed 1 3) ∷ on 1 ∷ on 1 ∷ on 1 ∷ found 1 1 ∷ ok close ∷ []

-- first to apply wins: 11, 15, 8; whatever worker and label are handed in
abbrev pub refused_orders : List Told
refused_orders =
    refuses (order 1 0 5) 15 ∷ ok (order 0 9 0) ∷ refuses (line 1) 15 ∷ refuses (order 0 9 5) 8 ∷ on 0 ∷ done 0
    ∷ ok (line 0) ∷ done 0 ∷ ok close ∷ refuses (line 0) 11 ∷ refuses (line 1) 11 ∷ []

unfoldable pub phases : List Example
phases =
    calling 2 2 four [] two_take_out 18 (ones (3 ∷ 0 ∷ 0 ∷ 8 ∷ 4 ∷ []))
    ∷ calling 2 2 four [] (ok (handed 0 8) ∷ ons 10 0 (done 0 ∷ ok close ∷ [])) 11 (ones (3 ∷ 0 ∷ 0 ∷ 13 ∷ 4 ∷ []))
    -- four labels and one empty cell: a label that is there may be put in again, and freed cells serve again
    ∷ calling 1 1 four (one_line 8 1 0) (ok (line 0) ∷ on 0 ∷ done 0 ∷ ok (line 0) ∷ on 0 ∷ done 0 ∷ ok close ∷ []) 4 four
    ∷ calling 1 1 (ones (3 ∷ 0 ∷ 0 ∷ 13 ∷ 4 ∷ [])) (one_line 8 1 0) (ok (line 0) ∷ ons 6 0 (done 0 ∷ ok close ∷ [])) 7 four
    ∷ calling 1 2 (empty_cells 5) eight_twice two_put_in 5 (ones (0 ∷ 0 ∷ 0 ∷ 8 ∷ 0 ∷ []))
    ∷ calling 1 2 (empty_cells 5) sheet_items sheet_puts_in 23 four
    ∷ calling 3 2 four [] looks_up 7 four
    ∷ calling 1 1 (empty_cells 2) (one_line 5 1 0) refused_orders 3 (ones (0 ∷ 5 ∷ []))
    -- a shift opened and closed without orders keeps its table
    ∷ calling 1 16 four [] (rests 15 ∷ ok close ∷ []) 0 four
    ∷ calling 1 16 four sheet_items (rests 15 ∷ ok close ∷ []) 0 four
    ∷ calling 2 16 four [] (rests 15 ∷ ok close ∷ []) 0 four
    ∷ calling 3 16 four [] (rests 15 ∷ ok close ∷ []) 0 four
    -- a put-in shift opens on 2 cells with {7} for 7 alone, on 2 empty cells for any one label
    ∷ calling 1 1 (ones (0 ∷ 7 ∷ [])) (one_line 7 1 0) (ok (line 0) ∷ done 0 ∷ ok (line 0) ∷ done 0 ∷ ok close ∷ []) 2 (ones (0 ∷ 7 ∷ []))
    ∷ calling 1 1 (0 ∷ 0 ∷ []) (one_line 4 1 0) (ok (line 0) ∷ on 0 ∷ done 0 ∷ ok (line 0) ∷ done 0 ∷ ok close ∷ []) 3 (ones (4 ∷ 0 ∷ []))
    -- outside put-in shifts neither the list nor the line number is read
    ∷ calling 2 16 (ones (0 ∷ 7 ∷ [])) wrong_lines
    (ok (order 0 15 4) ∷ ok (order 9 14 6) ∷ refuses (order 1 13 0) 7 ∷ refuses (order 1 16 8) 6 ∷ on 15 ∷ on 14 ∷ done 15 ∷ done 14 ∷ ok close ∷ [])
    4 (ones (0 ∷ 7 ∷ []))
    ∷ []

-- ---- prices
-- 8 at prices 5 and 3 by two workers; the lower one stands whoever writes first, and the other one finishes
abbrev pub two_prices : List Order
two_prices = order_with 8 5 0 ∷ order_with 8 3 1 ∷ []

abbrev pub higher_first : List Told
higher_first = ok (line 0) ∷ ok (line 1) ∷ on 0 ∷ on 1 ∷ done 0 ∷ on 1 ∷ on 1 ∷ done 1 ∷ ok close ∷ []

abbrev pub lower_first : List Told
lower_first = ok (line 0) ∷ ok (line 1) ∷ on 1 ∷ on 0 ∷ done 1 ∷ on 0 ∷ done 0 ∷ ok close ∷ []

-- the other kinds read neither the list nor the line number
abbrev pub any_line : List Told
any_line = ok (order 0 0 3) ∷ ok (order 4294967295 1 8) ∷ on 0 ∷ found 1 9 ∷ rests 1 ∷ found 0 7 ∷ ok (order 1 0 4) ∷ missing 0 ∷ ok close ∷ []

-- 8 and 3 in five cells, each at its price
abbrev pub at_prices : List ℕ
at_prices = 0 ∷ 0 ∷ 0 ∷ content 8 9 ∷ content 3 7 ∷ []

-- the grocer: five cells with four labels at price 5; the whole assortment once more at lower, equal and higher prices, two labels twice
abbrev pub assortment : List ℕ
assortment = content 4 5 ∷ content 3 5 ∷ 0 ∷ content 13 5 ∷ content 8 5 ∷ []

abbrev pub sent_again : List Order
sent_again = order_with 3 4 0 ∷ order_with 13 5 1 ∷ order_with 8 9 0 ∷ order_with 4 2 1 ∷ order_with 13 1 0 ∷ order_with 3 4 1 ∷ []

abbrev pub grocer : List Told
grocer =
    ok (line 0) ∷ ok (line 1) ∷ on 0 ∷ done 1 ∷ ok (line 3) ∷ on 0 ∷ on 1 ∷ on 0 ∷ on 1 ∷ on 0 ∷ done 1 ∷ done 0
    ∷ ok (line 2) ∷ on 0 ∷ done 0 ∷ ok (line 4) ∷ ok (line 5) ∷ on 0 ∷ on 1 ∷ done 0 ∷ on 1 ∷ on 1 ∷ done 1 ∷ ok close ∷ []

unfoldable pub prices : List Example
prices =
    calling 1 2 (empty_cells 5) two_prices higher_first 6 (0 ∷ 0 ∷ 0 ∷ content 8 3 ∷ 0 ∷ [])
    ∷ calling 1 2 (empty_cells 5) two_prices lower_first 5 (0 ∷ 0 ∷ 0 ∷ content 8 3 ∷ 0 ∷ [])
    -- the price at opening counts too: a lower one replaces it, a higher or equal one does not
    ∷ calling 1 1 at_prices (order_with 8 2 0 ∷ order_with 3 7 0 ∷ []) (ok (line 0) ∷ on 0 ∷ done 0 ∷ ok (line 1) ∷ on 0 ∷ done 0 ∷ ok close ∷ []) 4
    (0 ∷ 0 ∷ 0 ∷ content 8 2 ∷ content 3 7 ∷ [])
    ∷ calling 1 1 at_prices (order_with 8 10 0 ∷ order_with 3 8 0 ∷ []) (ok (line 0) ∷ done 0 ∷ ok (line 1) ∷ on 0 ∷ done 0 ∷ ok close ∷ []) 3 at_prices
    -- a label that gives way to a greater one keeps its price
    ∷ calling 1 1 at_prices (one_line 13 4 0) (ok (line 0) ∷ ons 5 0 (done 0 ∷ ok close ∷ [])) 6 (content 3 7 ∷ 0 ∷ 0 ∷ content 13 4 ∷ content 8 9 ∷ [])
    ∷ calling 1 1 (empty_cells 2) (one_line 5 9999999 0) (ok (line 0) ∷ on 0 ∷ done 0 ∷ ok close ∷ []) 2 (0 ∷ content 5 9999999 ∷ [])
    ∷ calling 3 2 at_prices wrong_lines any_line 4 at_prices
    -- a take-out leaves the others with their prices
    ∷ calling 2 1 at_prices [] (ok (handed 0 8) ∷ ons 6 0 (done 0 ∷ ok close ∷ [])) 7 (0 ∷ 0 ∷ 0 ∷ content 3 7 ∷ 0 ∷ [])
    ∷ calling 1 2 assortment sent_again grocer 17 (content 4 2 ∷ content 3 4 ∷ 0 ∷ content 13 1 ∷ content 8 5 ∷ [])
    ∷ []

-- with turns one by one, spoilt records, limits, orders, test numbers, the repair bench, and the schedules of steps
abbrev pub examples : List Example
examples = tables ++ phases ++ prices ++ traces ++ bounds ++ limits ++ orders ++ test_numbers ++ repairs ++ map closing schedules

pub record ExamplesPromise : Type 0 where
  -- with a of 1 and b of 0
  pub as_before : AllSay plain examples
  -- and each further list under its own a and b
  pub spreading : AllSpread spreads
