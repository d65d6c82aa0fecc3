-- What the program does with a block, and with what a read brought.
use Rattle.orders.specs.declared.Order.{Order}
use Rattle.std.specs.Prelude.{◌≡◌, List, ℕ, ◌+◌, ◌≤◌, length, take, Result, Ok, Err, IfOk}
use Rattle.feed.specs.Feed.{Kept, fed}
use Rattle.blocks.specs.Kept.{kept_of, Held}
use Rattle.blocks.specs.declared.Carried.{Carried}

-- the whole block is done, if all that it prints could be written
pub record Passes {U E : Type 0} (k : Kept) (block line' cells' : List ℕ) (items' : List Order) (c : Carried) (r : Result U E) : Type 0 where
  pub kept : IfOk r (λ _. kept_of c line' cells' items' ≡ fed k block)
  pub held : Held c cells' items'
  pub few : c.number ≤ k.number + length block

-- how many bytes a read brought that answered so
abbrev pub brought : {E : Type 0} → Result ℕ E → ℕ
brought (Ok n) = n
brought (Err e) = 0

-- what a read brought that answered `got`: so many bytes at the start of the block are done, if they could be read and what they print written
pub record Brings {E : Type 0} (k : Kept) (got : Result ℕ E) (block line' cells' : List ℕ) (items' : List Order) (c : Carried) (r : Result ℕ E) : Type 0 where
  -- a read that failed does not pass for the end of the input
  pub count : IfOk r (λ n. got ≡ Ok n)
  pub kept : IfOk r (λ n. kept_of c line' cells' items' ≡ fed k (take n block))
  pub held : Held c cells' items'
  pub few : c.number ≤ k.number + brought got
  pub within : brought got ≤ length block
