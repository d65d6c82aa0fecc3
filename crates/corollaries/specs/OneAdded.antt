-- One new label put in by a shift of two workers and taken out by one of three, in each model: computed, and by the promises.
use Rattle.std.specs.Prelude.{◌≡◌, List, [], ◌∷◌}
use Rattle.homes.specs.Homes.{plain}
use Rattle.reach.specs.Examples.{five, with_eight}
use Rattle.orders.specs.Orders.{order_with}
use Rattle.orders.specs.declared.Order.{Order}
use Rattle.state.specs.Model.{model_of}
use Rattle.state.specs.Open.{open_reply}
use Rattle.state.specs.Refusals.{reply_number}
use Rattle.state.specs.declared.Device.{Device}
use Rattle.history.specs.History.{Call, close, History, after}
use Rattle.addition.specs.Promise.{Added}
use Rattle.examples.specs.Forms.{line, handed}
use Rattle.examples.specs.Orders.{one_line}
use Rattle.corollaries.specs.Corollaries.{rounds}

-- 8 at 12 and at 9, one of them given twice; 4 is in the list and never ordered
abbrev pub eights : List Order
eights = order_with 8 12 0 ∷ order_with 4 1 0 ∷ order_with 8 9 1 ∷ []

abbrev pub put_in : List Call
put_in = line 0 ∷ line 2 ∷ rounds 9 (0 ∷ 1 ∷ []) (line 0 ∷ rounds 9 (1 ∷ 0 ∷ []) (close ∷ []))

abbrev pub take_one_out : List Call
take_one_out = handed 0 8 ∷ handed 2 8 ∷ rounds 16 (2 ∷ 0 ∷ []) (close ∷ [])

module _ (d : Device) where
  -- the put-in shift, and the take-out shift on what it left
  abbrev pub added : History
  added = after (model_of d) 1 2 plain five eights put_in

  abbrev pub removed : History
  removed = after (model_of d) 2 3 plain added.table [] take_one_out

  pub record OneAdded : Type 0 where
    -- computed
    pub table : added.table ≡ with_eight
    pub again : removed.table ≡ five
    -- by the promises: how far 8 reaches, and that it was taken out; which tables take one label more
    pub reaches : Added (model_of d) plain five 8 added.ordered added.table
    pub restored : removed.table ≡ five
    pub opens : reply_number (open_reply (model_of d) 1 1 plain five (one_line 6 1 0)) ≡ 0
    pub full : reply_number (open_reply (model_of d) 1 1 plain with_eight (one_line 6 1 0)) ≡ 9
