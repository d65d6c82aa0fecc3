-- What is promised of fitting a line to the phase. Proved in proofs/Theorem.
use Rattle.std.specs.Prelude.{◌≡◌, ◌≢◌, Bool, true, false, None, Some, List, [], ◌∷◌, ◌++◌, ℕ, ◌≤◌, ◌<◌, length}
use Rattle.orders.specs.Orders.{order_with}
use Rattle.orders.specs.declared.Order.{Order}
use Rattle.lines.specs.Grammar.{padded, numbered, reading_of}
use Rattle.lines.specs.Text.{numbers_in, text_of}
use Rattle.lines.specs.declared.Command.{Command}
use Rattle.lines.specs.declared.Line.{Line}
use Rattle.fitting.specs.Examples.{lines, AllAsTried}
use Rattle.fitting.specs.Fitting.{row_of, reading_in, aim_of}
use Rattle.fitting.specs.declared.Aim.{Aim}
use Rattle.fitting.specs.declared.Task.TheVariants.{Perform}

-- a line l that is carried out as command d with the numbers ns in a phase of kind k, shut or not, with c items kept
pub record Fitted (k c : ℕ) (shut : Bool) (l : List ℕ) (d : Command) (ns : List ℕ) : Type 0 where
  -- it is the writing of that command and of as many numbers as the command takes, and these are they
  pub command : (reading_of l).command ≡ Some d
  pub numbers : length (numbers_in (reading_of l)) ≡ (row_of k c d).takes
  pub values : ns ≡ padded (numbers_in (reading_of l))
  pub canonical : text_of (reading_of l) ≡ l
  -- an order has a place in the list in a put-in shift, worker and label in the others
  pub placed : d ≡ Command.Order → k ≡ 1 → length (numbers_in (reading_of l)) ≡ 1
  pub named : d ≡ Command.Order → k ≢ 1 → length (numbers_in (reading_of l)) ≡ 2
  -- an opening has kind, count, a and b, and stands in a shut shift
  pub opens : d ≡ Command.Open → length (numbers_in (reading_of l)) ≡ 4
  pub opens_shut : d ≡ Command.Open → shut ≡ true
  -- an item has worker, label and price, stands in a shut shift, and is the 1,024th at most
  pub item : d ≡ Command.Item → length (numbers_in (reading_of l)) ≡ 3
  pub item_shut : d ≡ Command.Item → shut ≡ true
  pub item_room : d ≡ Command.Item → c < 1024

-- the line of a command and these numbers, as it is read
abbrev pub line_with : Command → List ℕ → Line
line_with d ns = reading_of (text_of (record { command = Some d; numbers = Some (numbered ns) }))

-- kind k, count m, a and b on an open line in a shut shift, of whatever kind it was and with any items kept: the line is carried out with just these numbers
pub record Opened (k m a b : ℕ) : Type 0 where
  pub taken : (before c : ℕ) → reading_in before c true (line_with Command.Open (k ∷ m ∷ a ∷ b ∷ [])) ≡ Some (Perform Command.Open (k ∷ m ∷ a ∷ b ∷ []))

-- worker w, label v and price p on an item line in a shut shift of any kind: the line is carried out with just these numbers and a zero behind them, unless
-- 1,024 are kept
pub record Itemed (w v p : ℕ) : Type 0 where
  pub taken : (k c : ℕ) → c < 1024 → reading_in k c true (line_with Command.Item (w ∷ v ∷ p ∷ [])) ≡ Some (Perform Command.Item (w ∷ v ∷ p ∷ 0 ∷ []))

-- worker w and label v on an order line in an open look-up or take-out shift: the line is carried out with just these numbers, and where the shift has so many
-- workers that w is one of them, it is an order of just these numbers, with 0 for the price
pub record Ordered (w v : ℕ) : Type 0 where
  pub named : (k c : ℕ) → k ≢ 1 → reading_in k c false (line_with Command.Order (w ∷ v ∷ [])) ≡ Some (Perform Command.Order (w ∷ v ∷ 0 ∷ 0 ∷ []))
  pub named_aim : (k : ℕ) → k ≢ 1 → (m : ℕ) (os : List Order) → w < m
      → aim_of k false (line_with Command.Order (w ∷ v ∷ [])) m os ≡ Some (Aim.Order (order_with v 0 w))
  -- and to nobody if the shift lacks that worker
  pub named_past : (k : ℕ) → k ≢ 1 → (m : ℕ) (os : List Order) → m ≤ w → aim_of k false (line_with Command.Order (w ∷ v ∷ [])) m os ≡ None

-- the place i alone on an order line in an open put-in shift: the line is carried out with just this number
pub record Placed (i : ℕ) : Type 0 where
  pub placed : (c : ℕ) → reading_in 1 c false (line_with Command.Order (i ∷ [])) ≡ Some (Perform Command.Order (i ∷ 0 ∷ 0 ∷ 0 ∷ []))
  -- it is the order o that has i others in front of it in the list of items, where the shift has its worker
  pub placed_aim : (before : List Order) (o : Order) (behind : List Order) → length before ≡ i → (m : ℕ) → o.worker < m
      → aim_of 1 false (line_with Command.Order (i ∷ [])) m (before ++ o ∷ behind) ≡ Some (Aim.Order o)
  -- and to nobody if the shift lacks its worker, or it is past the list
  pub placed_past : (before : List Order) (o : Order) (behind : List Order) → length before ≡ i → (m : ℕ) → m ≤ o.worker
      → aim_of 1 false (line_with Command.Order (i ∷ [])) m (before ++ o ∷ behind) ≡ None
  pub past_aim : (m : ℕ) (os : List Order) → length os ≤ i → aim_of 1 false (line_with Command.Order (i ∷ [])) m os ≡ None

pub record FittingPromise : Type 0 where
  pub fitted : (k c : ℕ) (shut : Bool) (l : List ℕ) (d : Command) (ns : List ℕ) → reading_in k c shut (reading_of l) ≡ Some (Perform d ns)
      → Fitted k c shut l d ns
  pub opened : (k m a b : ℕ) → k ≤ 4294967295 → m ≤ 4294967295 → a ≤ 4294967295 → b ≤ 4294967295 → Opened k m a b
  pub itemed : (w v p : ℕ) → w ≤ 4294967295 → v ≤ 4294967295 → p ≤ 4294967295 → Itemed w v p
  pub ordered : (w v : ℕ) → w ≤ 4294967295 → v ≤ 4294967295 → Ordered w v
  pub placed : (i : ℕ) → i ≤ 4294967295 → Placed i
  -- every open line is bad in an open shift
  pub open_open : (k c : ℕ) (x : Line) → x.command ≡ Some Command.Open → reading_in k c false x ≡ None
  -- every item line is bad in an open shift, and in any shift once 1,024 are kept
  pub item_open : (k c : ℕ) (x : Line) → x.command ≡ Some Command.Item → reading_in k c false x ≡ None
  pub item_full : (k c : ℕ) (shut : Bool) (x : Line) → x.command ≡ Some Command.Item → 1024 ≤ c → reading_in k c shut x ≡ None
  -- to other lines it does not matter how many are kept
  pub no_item : (k c e : ℕ) (shut : Bool) (x : Line) → x.command ≢ Some Command.Item → reading_in k c shut x ≡ reading_in k e shut x
  -- and these lines are taken as the documents say
  pub as_tried : AllAsTried lines
