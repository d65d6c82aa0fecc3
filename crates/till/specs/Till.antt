-- The lines that a text says, and the call that reads them into a list of orders. specs/Promise says the same by the grammar of RFC 4180.
use Rattle.std.specs.Prelude.{Bool, true, false, cond, List, [], ◌∷◌, ◌++◌, map, ℕ, zero, suc, ltb, length, drop, Option, Some, None}
use Rattle.text.specs.Numbers.{number_of}
use Rattle.rfc4180.specs.Grammar.{pair}
use Rattle.rfc4180.specs.Reader.{Parsed, record_of}
use Rattle.orders.specs.Orders.{order_with, orders_of}
use Rattle.orders.specs.declared.Order.{Order}
use Rattle.state.specs.Counts.{counted_by, if_counted}
use Rattle.state.specs.Model.{Model, crew_ok}
use Rattle.state.specs.Refusals.{Bar, if, unless, first_of}
use Rattle.state.specs.Replies.{Counted}
use Rattle.state.specs.declared.Refusal.TheVariants.{Crew, ShortList, BadRecord, BadField}

-- a line of a till list: a key (label) and its price
pub data Line : Type 0 where
  line : (key price : ℕ) → Line

-- ---- the record in front of a text
-- broken if none of two fields stands there, wrong if a field is no number; else a line, and in how many bytes, those of the record's end included
pub data Front : Type 0 where
  broken : Front
  wrong : Front
  front : Line → ℕ → Front

abbrev pub front_by : Option ℕ → Option ℕ → ℕ → Front
front_by (Some k) (Some p) n = Front.front (line k p) n
front_by (Some k) None n = Front.wrong
front_by None q n = Front.wrong

abbrev pub front_with : Parsed → Front
front_with Parsed.broken = Front.broken
front_with (Parsed.parsed (pair a b) n) = front_by (number_of a) (number_of b) n

unfoldable pub front_of : List ℕ → Front
front_of s = front_with (record_of s)

-- ---- the whole text
-- its lines, or what the earliest bad record is
pub data Reading : Type 0 where
  broken : Reading
  wrong : Reading
  lines : List Line → Reading

abbrev pub in_front : Line → Reading → Reading
in_front l Reading.broken = Reading.broken
in_front l Reading.wrong = Reading.wrong
in_front l (Reading.lines ls) = Reading.lines (l ∷ ls)

-- a record and what is behind it: `next` reads on behind so many bytes more, the record's first one being gone (it has at least its comma)
abbrev pub read_with : Front → (ℕ → Reading) → Reading
read_with Front.broken next = Reading.broken
read_with Front.wrong next = Reading.wrong
read_with (Front.front l zero) next = in_front l (next zero)
read_with (Front.front l (suc n)) next = in_front l (next n)

-- what is behind the next k bytes, which belong to a record already read
unfoldable pub read_behind : List ℕ → ℕ → Reading
read_behind [] k = Reading.lines []
read_behind (b ∷ s) zero = read_with (front_of (b ∷ s)) (λ k. read_behind s k)
read_behind (b ∷ s) (suc k) = read_behind s k

-- an empty text has no record where there should be one
unfoldable pub reading_of : List ℕ → Reading
reading_of [] = Reading.broken
reading_of (b ∷ s) = read_behind (b ∷ s) 0

-- ---- workers dealt in turn
-- the worker behind worker w in a crew of m
abbrev pub following : ℕ → ℕ → ℕ
following m w = cond (ltb (suc w) m) (suc w) 0

-- the orders of lines, the first for worker w
unfoldable pub dealt : ℕ → ℕ → List Line → List Order
dealt m w [] = []
dealt m w (line k p ∷ ls) = order_with k p w ∷ dealt m (following m w) ls

-- ---- the call: a text, a crew of m workers, and a list with so many places
abbrev pub is_broken : Reading → Bool
is_broken Reading.broken = true
is_broken Reading.wrong = false
is_broken (Reading.lines ls) = false

abbrev pub is_wrong : Reading → Bool
is_wrong Reading.broken = false
is_wrong Reading.wrong = true
is_wrong (Reading.lines ls) = false

abbrev pub lines_of : Reading → List Line
lines_of Reading.broken = []
lines_of Reading.wrong = []
lines_of (Reading.lines ls) = ls

module _ (M : Model) (text : List ℕ) (m places : ℕ) where
  -- refusals 2, then 19 or 20 as the earliest bad record is, then 12
  abbrev pub till_bars : List Bar
  till_bars =
      unless (crew_ok M m) Crew
      ∷ if (is_broken (reading_of text)) BadRecord
      ∷ if (is_wrong (reading_of text)) BadField
      ∷ if (ltb places (length (lines_of (reading_of text)))) ShortList
      ∷ []

  -- how many records there are
  abbrev pub till_call : Counted
  till_call = counted_by (length (lines_of (reading_of text))) (first_of till_bars)

  -- the orders to write: none where the call is refused
  abbrev pub till_orders : List Order
  till_orders = if_counted till_call (dealt m 0 (lines_of (reading_of text))) []

-- a list with another written over its front
abbrev pub over : {A : Type 0} → List A → List A → List A
over new old = new ++ drop (length new) old

module _ (M : Model) (text : List ℕ) (m : ℕ) where
  -- the lent list afterwards
  abbrev pub till_after : List Order → List Order
  till_after old = over (till_orders M text m (length old)) old

  -- lent as three lists: each of them afterwards
  module _ (keys prices workers : List ℕ) where
    abbrev orders : List Order
    orders = till_orders M text m (length (orders_of keys prices workers))

    abbrev pub keys_after : List ℕ
    keys_after = over (map (λ (o : Order). o.key) orders) keys

    abbrev pub prices_after : List ℕ
    prices_after = over (map (λ (o : Order). o.price) orders) prices

    abbrev pub workers_after : List ℕ
    workers_after = over (map (λ (o : Order). o.worker) orders) workers
