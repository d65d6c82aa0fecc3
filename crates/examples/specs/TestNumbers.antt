-- Labels for factory tests, from 4,000,000,000 up (document 02, "Test numbers stay in the factory"): no put-in list brings one in (specs/Orders); those that
-- a table has are checked, counted, listed, looked up and taken out like any other, and others are put in beside them.
use Rattle.std.specs.Prelude.{List, [], ◌∷◌, ℕ}
use Rattle.prices.specs.Contents.{content}
use Rattle.orders.specs.Orders.{order_with}
use Rattle.orders.specs.declared.Order.{Order}
use Rattle.history.specs.History.{close}
use Rattle.rule.specs.Schedules.{one, ones}
use Rattle.examples.specs.Forms.{Example, counting, listing, calling, empty_cells, line, handed}
use Rattle.examples.specs.Forms.{Told, ok, on, ons, done, found, missing, rests}

-- document 01's table with the greatest label, and two labels for tests
abbrev pub greatest : List ℕ
greatest = ones (4294967295 ∷ 0 ∷ 0 ∷ 0 ∷ 0 ∷ [])

abbrev pub two_tests : List ℕ
two_tests = content 4294967295 7 ∷ content 4000000000 9 ∷ 0 ∷ 0 ∷ 0 ∷ []

-- two labels of the shop with the same home, put in behind them
abbrev pub beside_tests : List Order
beside_tests = order_with 3999999995 3 0 ∷ order_with 5 2 1 ∷ []

abbrev pub put_beside : List Told
put_beside =
    ok (line 1) ∷ ok (line 0) ∷ on 1 ∷ on 1 ∷ on 0 ∷ on 0 ∷ on 1 ∷ done 1 ∷ on 0 ∷ on 0 ∷ on 0 ∷ rests 1 ∷ done 0 ∷ ok close ∷ []

unfoldable pub test_numbers : List Example
test_numbers =
    counting greatest 0 1
    ∷ listing greatest (70 ∷ 71 ∷ []) 0 1 (one 4294967295 ∷ 71 ∷ []) (one 4294967295 ∷ [])
    ∷ calling 3 2 greatest [] (ok (handed 0 4294967295) ∷ found 0 1 ∷ ok (handed 1 4000000000) ∷ on 1 ∷ missing 1 ∷ ok close ∷ []) 3 greatest
    ∷ calling 2 1 greatest [] (ok (handed 0 4294967295) ∷ ons 3 0 (done 0 ∷ ok close ∷ [])) 4 (empty_cells 5)
    ∷ calling 1 2 two_tests beside_tests put_beside 10 (content 4294967295 7 ∷ content 4000000000 9 ∷ content 3999999995 3 ∷ content 5 2 ∷ 0 ∷ [])
    -- a label for tests fills the cell of a greater one that is taken out
    ∷ calling 2 1 (content 4294967295 7 ∷ content 4000000000 9 ∷ content 5 2 ∷ 0 ∷ 0 ∷ []) [] (ok (handed 0 4294967295) ∷ ons 9 0 (done 0 ∷ ok close ∷ [])) 10
    (content 4000000000 9 ∷ content 5 2 ∷ 0 ∷ 0 ∷ 0 ∷ [])
    ∷ []
