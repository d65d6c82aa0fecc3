-- What is promised of till lists, by the grammar of RFC 4180 and the digits of numbers. Proved in proofs/Theorem.
use Rattle.std.specs.Prelude.{◌≡◌, ◌≢◌, ◌↔◌, ◌⊎◌, List, [], ◌∷◌, map, ℕ, ◌%◌, ◌≤◌, ◌<◌, length, get_or}
use Rattle.text.specs.Digits.{digits_of}
use Rattle.rfc4180.specs.Grammar.{File, Begins, Pair, pair, values, rows}
use Rattle.orders.specs.Orders.{blank, order_with, orders_of}
use Rattle.orders.specs.declared.Order.{Order}
use Rattle.state.specs.Counts.{count_number, count_value}
use Rattle.state.specs.Model.{Model}
use Rattle.protocol.specs.Cases.{Case, wants, forbids, Decides}
use Rattle.protocol.specs.WellFormed.{Crew}
use Rattle.till.specs.Till.{Line, line, till_call, till_after, keys_after, prices_after, workers_after}

-- ---- what a text holds
-- a number that a field can write
abbrev pub Fits : ℕ → Type 0
Fits n = n < 4294967296

-- a line's key and price, written as their decimal digits, without leading zeros
abbrev pub written : Line → Pair
written (line k p) = pair (digits_of k) (digits_of p)

abbrev pub FitsLine : Line → Type 0
FitsLine (line k p) = Fits k × Fits p

abbrev pub AllFit : List Line → Type 0
AllFit [] = Unit {0}
AllFit (l ∷ ls) = FitsLine l × AllFit ls

-- the text is a file of the RFC, and each of its records has two fields: the key and the price of a line
pub record Holds (text : List ℕ) (ls : List Line) : Type 0 where
  pub file : File text (rows (map written ls))
  pub fit : AllFit ls

-- ---- what is wrong with a text
-- the text begins with such records, one behind the other; behind them stands the last argument
pub data Lines : List ℕ → List Line → List ℕ → Type 0 where
  none : {s : List ℕ} → Lines s [] s
  more : {s next rest : List ℕ} {l : Line} {ls : List Line} → FitsLine l → Begins s (values (written l)) next → Lines next ls rest
      → Lines s (l ∷ ls) rest

-- a record is due where `rest` begins: all before it are good, and it is the first, or text is left
pub record Reaches (text rest : List ℕ) : Type 0 where
  pub before : List Line
  pub good : Lines text before rest
  pub due : (before ≡ []) ⊎ (0 < length rest)

-- no record of two fields begins there: it breaks the grammar, or has another number of fields
pub record Broken (text : List ℕ) : Type 0 where
  pub rest : List ℕ
  pub reaches : Reaches text rest
  pub no_record : (p : Pair) (next : List ℕ) → Begins rest (values p) next → ⊥

-- a field that is no decimal number below 4,294,967,296 without leading zeros
abbrev pub NoNumber : List ℕ → Type 0
NoNumber v = (n : ℕ) → Fits n → v ≢ digits_of n

-- one of two fields begins there, and one of its fields is no number
pub record Wrong (text : List ℕ) : Type 0 where
  pub rest : List ℕ
  pub reaches : Reaches text rest
  pub first : List ℕ
  pub second : List ℕ
  pub next : List ℕ
  pub begins : Begins rest (values (pair first second)) next
  pub no_number : NoNumber first ⊎ NoNumber second

-- all is read, and there are too few places
pub record Short (text : List ℕ) (places : ℕ) : Type 0 where
  pub lines : List Line
  pub holds : Holds text lines
  pub short : places < length lines

-- that the earliest bad record decides is in `Reaches`, that in it 19 comes before 20 in `begins` of `Wrong`: no text is both
abbrev pub till_cases : Model → List ℕ → ℕ → ℕ → List Case
till_cases M text m places = wants 2 (Crew M m) ∷ forbids 19 (Broken text) ∷ forbids 20 (Wrong text) ∷ forbids 12 (Short text places) ∷ []

-- ---- the call
abbrev pub key_of : Line → ℕ
key_of (line k p) = k

abbrev pub price_of : Line → ℕ
price_of (line k p) = p

-- order i of a till list that holds ls, for a crew of m workers
abbrev pub order_at : List Line → ℕ → ℕ → Order
order_at ls m i = order_with (key_of (get_or ls i (line 0 0))) (price_of (get_or ls i (line 0 0))) (i % m)

module _ (M : Model) (text : List ℕ) (m places : ℕ) where
  abbrev number : ℕ
  number = count_number (till_call M text m places)

  pub record Answers : Type 0 where
    pub decides : Decides number (till_cases M text m places)
    -- not refused are exactly the till lists for which there is room
    pub accepts : number ≡ 0 ↔ (Crew M m × ((ls : List Line) × Holds text ls × (length ls ≤ places)))
    -- the answer is the number of records
    pub count : (ls : List Line) → Holds text ls → number ≡ 0 → count_value (till_call M text m places) ≡ length ls

module _ (M : Model) (text : List ℕ) (m : ℕ) where
  -- the lent list: the orders at its front, what stands behind them is kept; a refusal changes nothing
  pub record Fills (old : List Order) : Type 0 where
    pub answers : Answers M text m (length old)
    pub orders : (ls : List Line) → Holds text ls → number M text m (length old) ≡ 0 → 0 < m → (i : ℕ) → i < length ls
        → get_or (till_after M text m old) i blank ≡ order_at ls m i
    pub behind : (ls : List Line) → Holds text ls → (i : ℕ) → length ls ≤ i → get_or (till_after M text m old) i blank ≡ get_or old i blank
    pub long : length (till_after M text m old) ≡ length old
    pub refused : number M text m (length old) ≢ 0 → till_after M text m old ≡ old

  -- lent as three lists, which have as many places as the shortest of them: they are the same list of orders, and each keeps what stands behind
  module _ (keys prices workers : List ℕ) where
    abbrev places : ℕ
    places = length (orders_of keys prices workers)

    abbrev keys' : List ℕ
    keys' = keys_after M text m keys prices workers

    abbrev prices' : List ℕ
    prices' = prices_after M text m keys prices workers

    abbrev workers' : List ℕ
    workers' = workers_after M text m keys prices workers

    pub record FillsThree : Type 0 where
      pub answers : Answers M text m places
      pub same : orders_of keys' prices' workers' ≡ till_after M text m (orders_of keys prices workers)
      pub behind : (ls : List Line) → Holds text ls → (i : ℕ) → length ls ≤ i
          → (get_or keys' i 0 ≡ get_or keys i 0) × (get_or prices' i 0 ≡ get_or prices i 0) × (get_or workers' i 0 ≡ get_or workers i 0)
      pub long : (length keys' ≡ length keys) × (length prices' ≡ length prices) × (length workers' ≡ length workers)
      pub refused : number M text m places ≢ 0 → (keys' ≡ keys) × (prices' ≡ prices) × (workers' ≡ workers)

pub record TillPromise : Type 0 where
  -- a text holds one list of lines at most, and has one thing wrong with it at most
  pub one : (text : List ℕ) (ls ls' : List Line) → Holds text ls → Holds text ls' → ls ≡ ls'
  pub apart : (text : List ℕ) → Broken text → Wrong text → ⊥
  -- no file of records of two fields is broken, whatever its fields are
  pub unbroken : (text : List ℕ) (ps : List Pair) → File text (rows ps) → Broken text → ⊥
  pub fills : (M : Model) (text : List ℕ) (m : ℕ) (old : List Order) → Fills M text m old
  pub three : (M : Model) (text : List ℕ) (m : ℕ) (keys prices workers : List ℕ) → FillsThree M text m keys prices workers
