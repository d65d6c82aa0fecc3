-- An insert phase (put-in shift) whose order calls are lent other lists than its opening: it takes three keys into two cells.
use Rattle.std.specs.Prelude.{◌≡◌, ◌⊎◌, List, [], ◌∷◌, map}
use Rattle.layout.specs.Layout.{In}
use Rattle.layout.specs.Sound.{Ordered}
use Rattle.homes.specs.Homes.{plain, spread}
use Rattle.prices.specs.Contents.{label}
use Rattle.prices.specs.Priced.{labels}
use Rattle.orders.specs.declared.Order.{Order}
use Rattle.activities.specs.declared.Activity.TheVariants.{Reading}
use Rattle.rule.specs.Schedules.{one, ones}
use Rattle.state.specs.Model.{gateway}
use Rattle.protocol.specs.Bars.{doing}
use Rattle.history.specs.History.{Call, order, turn, History, Lent, after, after_lent}
use Rattle.history.specs.Promise.{Carried}
use Rattle.examples.specs.Orders.{one_line}

abbrev pub lent : List Order → Call → Lent
lent os c = record { list = os; asks = c }

abbrev turns : List Lent → List Lent
turns cs = lent [] (turn 0) ∷ lent [] (turn 0) ∷ cs

-- 3 by the list of the opening, 5 and 4 by others; the last worker carries 3 round and round
abbrev pub three_keys : List Lent
three_keys =
    lent (one_line 3 1 0) (order 0 0 0)
    ∷ turns (lent (one_line 5 1 0) (order 0 0 0) ∷ turns (turns (lent (one_line 4 1 0) (order 0 0 0) ∷ turns (turns []))))

abbrev pub overfull : History
overfull = after_lent gateway 1 1 plain (0 ∷ 0 ∷ []) (one_line 3 1 0) three_keys

-- 7 is taken out of two cells, whatever list is lent
abbrev pub taken_out : List Lent
taken_out = lent (one_line 9 1 5) (order 4 0 7) ∷ turns []

pub record Altered : Type 0 where
  -- computed
  pub table : overfull.table ≡ ones (4 ∷ 5 ∷ [])
  pub carried : doing overfull.phase 0 ≡ Reading (one 3) 1
  pub ordered : overfull.ordered ≡ ones (4 ∷ 5 ∷ 3 ∷ [])
  -- by the promise: no key is lost, and every key's path holds only greater keys
  pub kept : In 3 (labels label overfull.table) ⊎ Carried overfull 3
  pub paths : Ordered 2 (spread plain 2) (labels label overfull.table)
  -- a delete phase reads no list
  pub unread : after_lent gateway 2 1 plain (ones (0 ∷ 7 ∷ [])) [] taken_out
      ≡ after gateway 2 1 plain (ones (0 ∷ 7 ∷ [])) [] (map (λ (c : Lent). c.asks) taken_out)
