-- What is promised of a list of orders that comes as three lists of numbers. Proved in proofs/Theorem.
use Rattle.std.specs.Prelude.{◌≡◌, ◌↔◌, List, ℕ, ◌≤◌, ◌<◌, length, get_or}
use Rattle.orders.specs.Orders.{blank, orders_of}

pub record ThreeLists (keys prices workers : List ℕ) : Type 0 where
  -- there are as many lines as each of the three lists has places, and no more
  pub many : (n : ℕ) → (n ≤ length (orders_of keys prices workers)) ↔ ((n ≤ length keys) × (n ≤ length prices) × (n ≤ length workers))
  -- line i has what stands at place i of each list
  pub key : (i : ℕ) → i < length (orders_of keys prices workers) → (get_or (orders_of keys prices workers) i blank).key ≡ get_or keys i 0
  pub price : (i : ℕ) → i < length (orders_of keys prices workers) → (get_or (orders_of keys prices workers) i blank).price ≡ get_or prices i 0
  pub worker : (i : ℕ) → i < length (orders_of keys prices workers) → (get_or (orders_of keys prices workers) i blank).worker ≡ get_or workers i 0

abbrev pub ThreeListsPromise : Type 0
ThreeListsPromise = (keys prices workers : List ℕ) → ThreeLists keys prices workers
