-- The list of orders at an opening, in the documents' words: which lines are good, which one decides, and when table and list have too many labels.
use Rattle.std.specs.Prelude.{◌≡◌, ◌≢◌, ◌⊎◌, List, [], ◌∷◌, map, ℕ, ◌≤◌, ◌<◌, length, get_or}
use Rattle.layout.specs.Layout.{In}
use Rattle.prices.specs.Contents.{label}
use Rattle.prices.specs.Priced.{labels}
use Rattle.orders.specs.Orders.{blank}
use Rattle.orders.specs.declared.Order.{Order}
use Rattle.protocol.specs.Cases.{Case, forbids}

-- ---- one line, for m workers
-- a price that a label can have, and one that none can have
abbrev pub Priced : ℕ → Type 0
Priced cents = (1 ≤ cents) × (cents ≤ 9999999)

abbrev pub Mispriced : ℕ → Type 0
Mispriced cents = (cents ≡ 0) ⊎ (9999999 < cents)

-- a key that is not for factory tests, and one that is
abbrev pub ShopKey : ℕ → Type 0
ShopKey key = key < 4000000000

abbrev pub TestKey : ℕ → Type 0
TestKey key = 4000000000 ≤ key

-- a label that a shop may add, such a price, and a worker below the count
pub record Good (m : ℕ) (o : Order) : Type 0 where
  pub key : o.key ≢ 0
  pub shop : ShopKey o.key
  pub price : Priced o.price
  pub worker : o.worker < m

-- ---- the lines
-- the earliest line that is not good, which decides, is C
pub record Earliest (m : ℕ) (os : List Order) (C : Order → Type 0) : Type 0 where
  pub line : ℕ
  pub inside : line < length os
  pub before : (j : ℕ) → j < line → Good m (get_or os j blank)
  pub decides : C (get_or os line blank)

-- label 0 (7), then a label from 4,000,000,000 up (24), then a price of 0 or above 9,999,999 (14), then a worker number not below the count (6)
abbrev pub line_cases : ℕ → List Order → List Case
line_cases m os =
    forbids 7 (Earliest m os (λ (o : Order). o.key ≡ 0))
    ∷ forbids 24 (Earliest m os (λ (o : Order). TestKey o.key))
    ∷ forbids 14 (Earliest m os (λ (o : Order). (o.key ≢ 0) × ShopKey o.key × Mispriced o.price))
    ∷ forbids 6 (Earliest m os (λ (o : Order). (o.key ≢ 0) × ShopKey o.key × Priced o.price × (m ≤ o.worker)))
    ∷ []

-- ---- the labels of table and list together, each counted once, are as many as the cells or more: there are so many different ones
pub record Fills (t : List ℕ) (os : List Order) : Type 0 where
  pub found : List ℕ
  pub many : length t ≤ length found
  pub once : (i j : ℕ) → i < length found → j < length found → get_or found i 0 ≡ get_or found j 0 → i ≡ j
  pub each : (l : ℕ) → In l found → (l ≢ 0) × (In l (labels label t) ⊎ In l (map (λ (o : Order). o.key) os))
