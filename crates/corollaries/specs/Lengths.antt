-- Corollaries once more, on tables of other lengths and in phases of other kinds, so that a promise narrowed to one of them would be noticed.
use Rattle.std.specs.Prelude.{◌≡◌, false, List, [], ◌∷◌, get_or, set, ℕ}
use Rattle.homes.specs.Homes.{plain, spread}
use Rattle.prices.specs.Contents.{label, content}
use Rattle.prices.specs.Priced.{priced_layout}
use Rattle.orders.specs.Orders.{order_with}
use Rattle.orders.specs.declared.Order.{Order}
use Rattle.activities.specs.declared.Activity.TheVariants.{Reading, Replacing}
use Rattle.rule.specs.Events.{Event}
use Rattle.rule.specs.Events as events
use Rattle.rule.specs.Schedules.{one, ones, steps}
use Rattle.phases.specs.Promise.{Roomy}
use Rattle.state.specs.Counts.{count_value}
use Rattle.state.specs.Model.{gateway}
use Rattle.state.specs.Refusals.{reply_number}
use Rattle.state.specs.declared.Phase.{Phase}
use Rattle.protocol.specs.Calls.{turn_call}
use Rattle.tables.specs.Calls.{check_call, count_call, list_after, list_front}
use Rattle.history.specs.History.{Call, order, turn, close, after}
use Rattle.examples.specs.Forms.{empty_cells, phase, worker, all_idle, alone, line, handed}
use Rattle.corollaries.specs.Corollaries.{rounds, six_places}
use Rattle.examples.specs.Orders.{one_line}

-- document 01's table of 2 cells with {7}
abbrev pub seven : List ℕ
seven = ones (0 ∷ 7 ∷ [])

-- ---- 7 and 4 looked up in it, by one worker and by two; the line numbers are not read
abbrev pub one_looks : List Call
one_looks = handed 0 7 ∷ rounds 2 (0 ∷ []) (order 9 0 4 ∷ rounds 2 (0 ∷ []) (close ∷ []))

abbrev pub two_look : List Call
two_look = handed 1 4 ∷ order 5 0 7 ∷ rounds 2 (1 ∷ 0 ∷ []) (close ∷ [])

-- ---- 3 and 6 put into 3 cells
abbrev pub one_items : List Order
one_items = order_with 3 1 0 ∷ order_with 6 1 0 ∷ []

abbrev pub one_puts : List Call
one_puts = line 0 ∷ rounds 2 (0 ∷ []) (line 1 ∷ rounds 4 (0 ∷ []) (close ∷ []))

abbrev pub two_items : List Order
two_items = order_with 6 1 0 ∷ order_with 3 1 1 ∷ []

abbrev pub two_put : List Call
two_put = line 0 ∷ line 1 ∷ rounds 8 (1 ∷ 0 ∷ []) (close ∷ [])

-- ---- 6 put into 3 cells at price 4, once or also at a higher one; the one list has another label that is not ordered
abbrev pub one_price_items : List Order
one_price_items = order_with 6 4 0 ∷ order_with 1 1 0 ∷ []

abbrev pub one_price : List Call
one_price = line 0 ∷ rounds 2 (0 ∷ []) (close ∷ [])

abbrev pub two_price_items : List Order
two_price_items = order_with 6 8 0 ∷ order_with 6 4 1 ∷ []

abbrev pub two_prices : List Call
two_prices = line 0 ∷ line 1 ∷ rounds 5 (0 ∷ 1 ∷ []) (close ∷ [])

-- ---- 1 and 5 put into 4 cells, as events, with a higher price for 1 in the one list
abbrev pub one_inserts : List Event
one_inserts = events.order 0 (content 1 2) ∷ steps 2 0 (events.order 0 (one 5) ∷ steps 4 0 [])

abbrev pub two_insert : List Event
two_insert = events.order 0 (one 5) ∷ events.order 1 (content 1 3) ∷ steps 3 0 (steps 5 1 (events.order 0 (content 1 2) ∷ steps 3 0 []))

-- ---- worker 2 of three, doing what the one worker of another phase does
abbrev pub third : Phase → Phase
third p = phase p.kind p.length 3 false (set all_idle 2 (get_or p.workers 0 (worker (Reading (one 1) 1))))

-- tables of 3 cells: alike in cell 1 alone, where an empty cell is replaced, or label 4 is read
abbrev pub emptied : List ℕ
emptied = ones (0 ∷ 0 ∷ 5 ∷ [])

abbrev pub also_emptied : List ℕ
also_emptied = ones (9 ∷ 0 ∷ 8 ∷ [])

abbrev pub holding : List ℕ
holding = 0 ∷ content 4 37 ∷ 0 ∷ []

abbrev pub also_holding : List ℕ
also_holding = one 6 ∷ content 4 37 ∷ one 5 ∷ []

abbrev pub replacing : Phase
replacing = alone 1 3 (Replacing (one 4) 1 1 0)

abbrev pub looking : Phase
looking = alone 3 3 (Reading (content 4 0) 1)

pub record OtherLengths : Type 0 where
  pub look_up : (after gateway 3 1 plain seven [] one_looks).table ≡ (after gateway 3 2 plain seven [] two_look).table
  pub put_in : (after gateway 1 1 plain (empty_cells 3) one_items one_puts).table ≡ (after gateway 1 2 plain (empty_cells 3) two_items two_put).table
  pub put_in_prices : (after gateway 1 1 plain (empty_cells 3) one_price_items one_price).table
      ≡ (after gateway 1 2 plain (empty_cells 3) two_price_items two_prices).table
  pub one_end : (events.after 1 4 1 label (spread plain 4) (empty_cells 4) one_inserts).table
      ≡ (events.after 1 4 2 label (spread plain 4) (empty_cells 4) two_insert).table
  -- labels ordered from a list that together with the table has fewer than there are cells leave room
  pub room : Roomy 4 label (empty_cells 4) (events.after 1 4 1 label (spread plain 4) (empty_cells 4) one_inserts)
  -- two turns of put-in shifts, and of look-up shifts, answer alike
  pub insert_turns_alike : (turn_call gateway replacing emptied 0).reply ≡ (turn_call gateway (third replacing) also_emptied 2).reply
  pub find_turns_alike : (turn_call gateway looking holding 0).reply ≡ (turn_call gateway (third looking) also_holding 2).reply
  pub one_layout : seven ≡ priced_layout 2 label (spread plain 2) (content 7 2 ∷ one 7 ∷ [])
  pub passes : reply_number (check_call gateway plain seven) ≡ 0
  pub count : count_value (count_call gateway plain seven) ≡ 1
  pub listed : get_or (list_after gateway plain seven six_places) 0 0 ≡ one 7
  pub front : get_or (list_front gateway plain seven six_places) 0 0 ≡ one 7
  pub kept : (after gateway 1 1 plain seven (one_line 7 1 0) (turn 0 ∷ line 1 ∷ turn 0 ∷ [])).table ≡ seven
