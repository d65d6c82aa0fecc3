-- What the program keeps from line to line and from block to block, and how its parts move it on.
use Rattle.std.specs.Prelude.{◌≡◌, false, List, ℕ, ◌+◌, ◌^◌, ◌≤◌, ◌<◌, length, take}
use Rattle.lines.specs.Grammar.{kept_bytes}
use Rattle.orders.specs.declared.Order.{Order}
use Rattle.fitting.specs.Fitting.{most_items}
use Rattle.sheet.specs.Replay.{most_sheet_cells}
use Rattle.answering.specs.Store.{state_of, Ready}
use Rattle.feed.specs.Feed.{Kept, begin, fed, printed}
use Rattle.blocks.specs.declared.Carried.{Carried}
use Rattle.blocks.specs.declared.Filled.{Filled}

-- what is kept, as the definitions of the crate feed have it
abbrev pub kept_of : Carried → (line cells : List ℕ) (items : List Order) → Kept
kept_of c line cells items = record { state = state_of c.replay cells items; number = c.number; line = take c.len line; ended = c.ended }

-- ---- what the parts of the program find
-- the cells and the items are as a line must find them, and no more bytes of the next line are gathered than are kept
pub record Held (c : Carried) (cells : List ℕ) (items : List Order) : Type 0 where
  pub ready : Ready c.replay cells items
  pub gathered : c.len ≤ kept_bytes

-- the replay has not ended, and there is room for a line and for the count of n more
pub record Fit (c : Carried) (line cells : List ℕ) (items : List Order) (n : ℕ) : Type 0 where
  pub held : Held c cells items
  pub goes : c.ended ≡ false
  pub line_long : kept_bytes ≤ length line
  pub countable : c.number + n < 2 ^ 64

-- ---- what they leave
-- before the first byte, whatever the lent lists hold
pub record Begins (r : Carried) : Type 0 where
  pub kept : (line cells : List ℕ) (items : List Order) → kept_of r line cells items ≡ begin
  pub held : (cells : List ℕ) (items : List Order) → most_sheet_cells ≤ length cells → most_items ≤ length items → Held r cells items

-- the block's first r .next bytes are done, and the buffer's first r .at places hold what they print. Left free: how far it goes, if at least one
-- byte, and what stands in the lent lists behind the line's bytes, behind the table, behind the items and behind the output
pub record Fills (k : Kept) (block line' cells' : List ℕ) (items' : List Order) (out' : List ℕ) (r : Filled) : Type 0 where
  pub kept : kept_of r.carried line' cells' items' ≡ fed k (take r.next block)
  pub output : take r.at out' ≡ printed k (take r.next block)
  pub held : Held r.carried cells' items'
  pub few : r.carried.number ≤ k.number + r.next
  pub on : 0 < r.next
  pub within : r.next ≤ length block
  pub room : r.at ≤ length out'
