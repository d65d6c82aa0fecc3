-- Lists of orders (document 02, point 2): a line by its number, the check of the lines, and lists that come as three parallel lists of numbers.
use Rattle.std.specs.Prelude.{Bool, cond, List, [], ◌∷◌, map, ℕ, leb, eqb, slice_get, Option, Result, Ok, Err, ⊤}
use Rattle.std.specs.Result.{result_and}
use Rattle.prices.specs.Contents.{price_ok}
use Rattle.orders.specs.declared.Fault.{Fault}
use Rattle.orders.specs.declared.Fault.TheVariants.{Blank, TestNumber, WrongPrice, NoWorker}
use Rattle.orders.specs.declared.Order.{Order}

abbrev pub order_with : (key price worker : ℕ) → Order
order_with key price worker = record { key = key; price = price; worker = worker }

-- what stands past the end of a list
abbrev pub blank : Order
blank = order_with 0 0 0

-- ---- a line by its number, from 0
abbrev pub line_at : List Order → ℕ → Option Order
line_at os i = slice_get os i

-- the keys of a list
abbrev pub ordered_keys : List Order → List ℕ
ordered_keys os = map (λ (o : Order). o.key) os

-- ---- a key for factory tests (document 02, point 10: a test number), from 4,000,000,000 up: no order puts it in
abbrev pub is_test : ℕ → Bool
is_test key = leb 4000000000 key

-- ---- the check of the lines, for a crew of m workers
-- what is wrong with a line: key 0, a test number, a price that no label can have, a worker that the crew lacks, in this order
unfoldable pub line_fault : ℕ → Order → Result ⊤ Fault
line_fault m o =
    cond (eqb o.key 0) (Err Blank) (cond (is_test o.key) (Err TestNumber) (cond (price_ok o.price) (cond (leb m o.worker) (Err NoWorker) (Ok tt)) (Err WrongPrice)))

-- of the lines, from the first on, the first with which something is wrong decides
unfoldable pub lines_fault : ℕ → List Order → Result ⊤ Fault
lines_fault m [] = Ok tt
lines_fault m (o ∷ os) = result_and (line_fault m o) (lines_fault m os)

-- ---- a list given as its keys, its prices and its workers: as many lines as the shortest of them has
unfoldable pub orders_of : (keys prices workers : List ℕ) → List Order
orders_of [] ps ws = []
orders_of (k ∷ ks) [] ws = []
orders_of (k ∷ ks) (p ∷ ps) [] = []
orders_of (k ∷ ks) (p ∷ ps) (w ∷ ws) = order_with k p w ∷ orders_of ks ps ws
