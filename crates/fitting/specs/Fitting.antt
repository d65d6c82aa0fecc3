-- Fitting a line to the phase (document 01, "The shift sheet"; document 02, points 2 and 6): one row a command says how many numbers it takes and what is done
-- with it.
use Rattle.std.specs.Prelude.{Bool, true, cond, Option, None, Some, option_map, option_and_then, List, ℕ, ◌+◌, ◌≤◌, ltb, eqb, length, get_or}
use Rattle.orders.specs.Orders.{order_with, line_at}
use Rattle.orders.specs.declared.Order.{Order}
use Rattle.lines.specs.declared.Command.{Command}
use Rattle.lines.specs.declared.Line.{Line}
use Rattle.lines.specs.declared.Numbers.{Numbers}
use Rattle.fitting.specs.declared.Aim.{Aim}
use Rattle.fitting.specs.declared.Handling.{Handling}
use Rattle.fitting.specs.declared.Handling.TheVariants.{Performed, Refused, Barred, Bad}
use Rattle.fitting.specs.declared.Row.{Row}
use Rattle.fitting.specs.declared.Single.{Single}
use Rattle.fitting.specs.declared.Single.TheVariants as single
use Rattle.fitting.specs.declared.Task.{Task}

-- ---- the items (the sheet's list of orders)
-- the sheet keeps at most so many
abbrev pub most_items : ℕ
most_items = 1024

-- c items are kept, the first of the list os
abbrev pub Kept : ℕ → List Order → Type 0
Kept c os = (c ≤ most_items) × (most_items ≤ length os)

-- ---- the table
abbrev pub row_with : ℕ → Handling → Handling → Option Single → Row
row_with n shut opened single = record { takes = n; shut = shut; opened = opened; single = single }

-- an order has a place in the list in a put-in shift, worker and label in the others
abbrev pub order_numbers : ℕ → ℕ
order_numbers k = cond (eqb k 1) 1 2

-- what is done with an item where c are kept
abbrev pub item_handling : ℕ → Handling
item_handling c = cond (ltb c most_items) Performed Bad

-- by the phase's kind, on which only the numbers of an order depend, by how many items are kept, on which only an item depends, and by the command: how many
-- numbers it takes, what is done with it in a shut phase and in an open one, and which line to one worker it is. In a shut phase `run` and every line whose
-- first field is `order` are refused; in an open phase `cells`, `open` and `item` are bad
abbrev pub row_of : (k c : ℕ) → Command → Row
row_of k c Command.Cells = row_with 1 Performed Bad None
row_of k c Command.Open = row_with 4 Performed Bad None
row_of k c Command.Item = row_with 3 (item_handling c) Bad None
row_of k c Command.Order = row_with (order_numbers k) Barred Performed (Some single.Order)
row_of k c Command.Turn = row_with 1 Performed Performed (Some single.Turn)
row_of k c Command.Run = row_with 0 Refused Performed None
row_of k c Command.Close = row_with 0 Performed Performed None
row_of k c Command.List = row_with 0 Performed Performed None

-- ---- what a line asks for
-- its numbers, where they are readable and as many as its command takes
abbrev pub taken_by : Row → Option Numbers → Option (List ℕ)
taken_by r None = None
taken_by r (Some ns) = cond (eqb ns.count r.takes) (Some ns.values) None

abbrev pub handling_in : Bool → Row → Handling
handling_in shut r = cond shut r.shut r.opened

-- a line without such numbers is bad, and asks for nothing, unless every line of the command is refused
abbrev pub handled : Handling → Option (List ℕ) → Command → Option Task
handled Performed ns d = option_map (Task.Perform d) ns
handled Refused ns d = option_map (λ (n : List ℕ). Task.Refuse) ns
handled Barred ns d = Some Task.Refuse
handled Bad ns d = None

-- of the command d, in a phase of kind k, shut or not, with c items kept
abbrev pub command_asks : (k c : ℕ) → Bool → Option Numbers → Command → Option Task
command_asks k c shut ns d = handled (handling_in shut (row_of k c d)) (taken_by (row_of k c d) ns) d

-- a line without a command is bad
abbrev pub reading_in : (k c : ℕ) → Bool → Line → Option Task
reading_in k c shut l = option_and_then (command_asks k c shut l.numbers) l.command

-- ---- to whom a line is, if it is to a worker that an open phase of m workers has
-- the order that an order line with these two numbers names: in a put-in shift the one at place i of the list os, in the others label v to worker i, without
-- a price
abbrev pub order_named : (k i v : ℕ) → List Order → Option Order
order_named k i v os = cond (eqb k 1) (line_at os i) (Some (order_with v 0 i))

abbrev pub order_aim : Option Order → ℕ → Option Aim
order_aim None m = None
order_aim (Some o) m = cond (ltb o.worker m) (Some (Aim.Order o)) None

abbrev pub turn_aim : ℕ → ℕ → Option Aim
turn_aim w m = cond (ltb w m) (Some (Aim.Turn w)) None

abbrev pub aim_with : Option Single → ℕ → List ℕ → ℕ → List Order → Option Aim
aim_with None k ns m os = None
aim_with (Some single.Order) k ns m os = order_aim (order_named k (get_or ns 0 0) (get_or ns 1 0) os) m
aim_with (Some single.Turn) k ns m os = turn_aim (get_or ns 0 0) m

-- in an open phase of kind k, with the items os
abbrev pub command_aims : ℕ → Option Numbers → ℕ → List Order → Command → Option Aim
command_aims k ns m os d = let row = row_of k (length os) d in option_and_then (λ (vs : List ℕ). aim_with row.single k vs m os) (taken_by row ns)

abbrev pub aim_in : ℕ → Line → ℕ → List Order → Option Aim
aim_in k l m os = option_and_then (command_aims k l.numbers m os) l.command

abbrev pub aim_of : ℕ → Bool → Line → ℕ → List Order → Option Aim
aim_of k shut l m os = cond shut None (aim_in k l m os)
