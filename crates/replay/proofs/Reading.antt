-- What a read brought, and what holds in the program before each read.
use mathlib.Core.Path.{◌≡◌, ap, subst}
use mathlib.Core.Bool.{false}
use mathlib.Core.List.{List}
use Prim.Native.Nat.{ℕ, ◌+◌, ◌≤◌}
use native.Mathlib.Omega.{arith}
use lib.ListN.{length, take, length-take}
use Rattle.std.specs.Prelude.{Result, Ok, Err, IfOk, ⊤}
use Rattle.orders.specs.declared.Order.{Order}
use Rattle.lines.specs.Grammar.{kept_bytes}
use Rattle.fitting.specs.Fitting.{most_items}
use Rattle.blocks.specs.declared.Carried.{Carried}
use Rattle.sheet.specs.Replay.{most_sheet_cells}
use Rattle.feed.specs.Feed.{Kept, fed}
use Rattle.blocks.specs.Kept.{kept_of, Held, Fit}
use Rattle.replay.specs.Read.{brought, Passes, Brings}

-- ---- what a read brought
module _ {E : Type 0} (block : List ℕ) {got : Result ℕ E} where
  -- it failed
  pub unread : {c : Carried} {line cells : List ℕ} {items : List Order} {e : E} → Held c cells items → got ≡ Err e → (y : E)
      → Brings (kept_of c line cells items) got block line cells items c (Err y)
  unread held is y =
      let none : brought got ≡ 0 = ap brought is in
      record { count = tt; kept = tt; held = held; few = omega (arith, none); within = omega (arith, none) }

  module _ {n : ℕ} (is : got ≡ Ok n) (within : n ≤ length block) {k : Kept} {line' cells' : List ℕ} {items' : List Order} {c : Carried} {p : Result ⊤ E} (d : Passes k (take n block) line' cells' items' c p) where
    came : brought got ≡ n
    came = ap brought is

    few_more : c.number ≤ k.number + brought got
    few_more = omega (arith, d.few, length-take n block, came, within)

    within_block : brought got ≤ length block
    within_block = omega (arith, came, within)

    -- what it prints could not be written
    pub unwritten : (y : E) → Brings k got block line' cells' items' c (Err y)
    unwritten y = record { count = tt; kept = tt; held = d.held; few = few_more; within = within_block }

    -- it is done
    pub brings : p ≡ Ok tt → Brings k got block line' cells' items' c (Ok n)
    brings e =
        record {
          count = is;
          kept = subst (λ (q : Result ⊤ E). IfOk q (λ _. kept_of c line' cells' items' ≡ fed k (take n block))) e d.kept;
          held = d.held;
          few = few_more;
          within = within_block;
        }

-- no more lines than bytes
pub few_read : {E : Type 0} {k : Kept} {got r : Result ℕ E} {block line' cells' : List ℕ} {items' : List Order} {c : Carried} {n : ℕ} → Brings k got block line' cells' items' c r → r ≡ Ok n
    → c.number ≤ k.number + n
few_read {got = got} {n = n} b is =
    let came : brought got ≡ n = ap brought (subst (λ (q : Result ℕ _). IfOk q (λ m. got ≡ Ok m)) is b.count) in
    omega (arith, b.few, came)

-- ---- what a read brings: the front of a block fits where the block does
pub fewer : {c : Carried} {line cells : List ℕ} {items : List Order} (block : List ℕ) (n : ℕ) → Fit c line cells items (length block)
    → Fit c line cells items (length (take n block))
fewer block n fit =
    record { held = fit.held; goes = fit.goes; line_long = fit.line_long; countable = omega (arith, fit.countable, length-take n block) }

-- ---- before each read: no more lines than bytes were read
pub record Reading (cells : List ℕ) (items : List Order) (block out line : List ℕ) (c : Carried) (left : ℕ) : Type 0 where
  pub held : Held c cells items
  pub goes : c.ended ≡ false
  pub few : c.number + left ≤ 18446744073709551615
  pub cells-long : length cells ≡ most_sheet_cells
  pub items-long : length items ≡ most_items
  pub block-long : length block ≡ 65536
  pub out-long : length out ≡ 196608
  pub line_long : length line ≡ kept_bytes
