-- The check of the lines, computed at its borders for two workers. Proved in proofs/Theorem. What it says of every line: protocol/specs/Lines.
use Rattle.std.specs.Prelude.{◌≡◌, [], ◌∷◌, ℕ, Result, Ok, Err, ⊤}
use Rattle.orders.specs.declared.Fault.{Fault}
use Rattle.orders.specs.declared.Fault.TheVariants.{Blank, TestNumber, WrongPrice, NoWorker}
use Rattle.orders.specs.Orders.{order_with, line_fault, lines_fault}

-- of one line
abbrev pub fault_of : (key price worker : ℕ) → Result ⊤ Fault
fault_of key price worker = line_fault 2 (order_with key price worker)

pub record Examples : Type 0 where
  -- the last label that a shop adds, the first for factory tests, and the greatest
  pub last_shop : fault_of 3999999999 1 1 ≡ Ok tt
  pub first_test : fault_of 4000000000 1 1 ≡ Err TestNumber
  pub greatest : fault_of 4294967295 9999999 0 ≡ Err TestNumber
  -- in one line a test number comes before the price and the worker, and the price before the worker; label 0 is none for tests
  pub test_first : fault_of 4000000000 0 2 ≡ Err TestNumber
  pub test_before_worker : fault_of 4000000000 1 2 ≡ Err TestNumber
  pub blank : fault_of 0 0 2 ≡ Err Blank
  pub price_next : fault_of 3999999999 0 2 ≡ Err WrongPrice
  pub worker_last : fault_of 3999999999 9999999 2 ≡ Err NoWorker
  -- of several lines the earliest with a fault decides
  pub blank_earlier : lines_fault 2 (order_with 0 1 0 ∷ order_with 4000000000 1 0 ∷ []) ≡ Err Blank
  pub test_earlier : lines_fault 2 (order_with 4000000000 1 0 ∷ order_with 0 1 0 ∷ []) ≡ Err TestNumber
  pub last_line : lines_fault 2 (order_with 5 1 0 ∷ order_with 4000000000 1 0 ∷ []) ≡ Err TestNumber
  pub behind_good : lines_fault 2 (order_with 3999999999 1 1 ∷ order_with 4000000000 0 2 ∷ order_with 5 0 0 ∷ []) ≡ Err TestNumber
