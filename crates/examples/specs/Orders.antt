-- The list of orders (document 02, "Full only when it is full"): openings that are lent one, and order calls, also on altered lists. Refusals in their
-- sequence, each where all later ones that can be are due too.
use Rattle.std.specs.Prelude.{Bool, true, false, List, [], ◌∷◌, ◌++◌, ℕ, length, set}
use Rattle.homes.specs.Homes.{plain, spread}
use Rattle.prices.specs.Contents.{content}
use Rattle.orders.specs.Orders.{order_with, orders_of}
use Rattle.orders.specs.declared.Order.{Order}
use Rattle.activities.specs.declared.Activity.{Activity}
use Rattle.activities.specs.declared.Activity.TheVariants.{Reading}
use Rattle.rule.specs.Schedules.{one, ones}
use Rattle.state.specs.Model.{Model, gateway}
use Rattle.state.specs.Open.{open_call}
use Rattle.state.specs.declared.Phase.{Phase}
use Rattle.examples.specs.Forms.{Example, opening, ordering, empty_cells, phase, worker, all_idle, handed_back}

-- a label at a price for a worker, alone in its list
abbrev pub one_line : (key price worker : ℕ) → List Order
one_line key price worker = order_with key price worker ∷ []

-- labels at price 1 for worker 0
abbrev pub at_ones : List ℕ → List Order
at_ones [] = []
at_ones (l ∷ ls) = order_with l 1 0 ∷ at_ones ls

-- lines that no put-in shift opens with: a line with label 0, no price and no worker, and five labels more
abbrev pub wrong_lines : List Order
wrong_lines = order_with 0 0 99 ∷ at_ones (1 ∷ 2 ∷ 3 ∷ 4 ∷ 5 ∷ [])

-- ---- openings
-- accepted in a model, and refused
abbrev pub opens_in : (M : Model) (k m : ℕ) (table : List ℕ) (orders : List Order) → Example
opens_in M k m t os = opening M k m t os 0 (phase k (length t) m false all_idle)

abbrev pub barred_in : (M : Model) (k m : ℕ) (table : List ℕ) (orders : List Order) (number : ℕ) → Example
barred_in M k m t os r = opening M k m t os r handed_back

-- a put-in shift of two workers in the documents' model
abbrev pub takes : (table : List ℕ) (orders : List Order) → Example
takes t os = opens_in gateway 1 2 t os

abbrev pub bars : (table : List ℕ) (orders : List Order) (number : ℕ) → Example
bars t os r = barred_in gateway 1 2 t os r

-- a model like document 01's with lists of at most three lines
abbrev pub three_lines : Model
three_lines = record { fewest_cells = 2; most_cells = 8192; fewest_workers = 1; most_workers = 16; most_lines = 3; room = 16; home = spread }

-- four lines, and three: of them the first has label 0, no price and no worker, and with the table they have more labels than it has cells
abbrev pub four_wrong : List Order
four_wrong = order_with 0 0 99 ∷ order_with 5 1 0 ∷ order_with 6 1 0 ∷ order_with 8 1 0 ∷ []

abbrev pub three_wrong : List Order
three_wrong = order_with 0 0 99 ∷ order_with 5 1 0 ∷ order_with 6 1 0 ∷ []

-- 1, 2, 3, 16, that the table is not sound (here 17), 7, 24, 14, 6, 9
unfoldable pub opening_sequence : List Example
opening_sequence =
    barred_in three_lines 1 17 (ones (7 ∷ [])) four_wrong 1
    ∷ barred_in three_lines 1 17 (ones (7 ∷ 0 ∷ [])) four_wrong 2
    ∷ barred_in three_lines 1 0 (ones (7 ∷ 0 ∷ [])) four_wrong 2
    ∷ barred_in three_lines 4 1 (ones (7 ∷ 0 ∷ [])) four_wrong 3
    ∷ barred_in three_lines 0 1 (ones (7 ∷ 0 ∷ [])) four_wrong 3
    ∷ barred_in three_lines 1 1 (ones (7 ∷ 0 ∷ [])) four_wrong 16
    ∷ barred_in three_lines 1 1 (ones (0 ∷ 7 ∷ [])) (at_ones (7 ∷ 7 ∷ 7 ∷ 7 ∷ [])) 16
    ∷ barred_in three_lines 1 1 (ones (0 ∷ 7 ∷ [])) (order_with 4000000000 0 99 ∷ at_ones (5 ∷ 6 ∷ 7 ∷ [])) 16
    ∷ opens_in three_lines 1 1 (ones (0 ∷ 7 ∷ [])) (at_ones (7 ∷ 7 ∷ 7 ∷ []))
    ∷ barred_in three_lines 1 1 (ones (7 ∷ 0 ∷ [])) three_wrong 17
    ∷ barred_in three_lines 1 1 (ones (0 ∷ 7 ∷ [])) three_wrong 7
    ∷ barred_in three_lines 1 1 (ones (0 ∷ 7 ∷ [])) (order_with 4000000000 0 99 ∷ order_with 6 1 0 ∷ []) 24
    ∷ barred_in three_lines 1 1 (ones (0 ∷ 7 ∷ [])) (order_with 5 0 99 ∷ order_with 6 1 0 ∷ []) 14
    ∷ barred_in three_lines 1 1 (ones (0 ∷ 7 ∷ [])) (order_with 5 1 99 ∷ order_with 6 1 0 ∷ []) 6
    ∷ barred_in three_lines 1 1 (ones (0 ∷ 7 ∷ [])) (order_with 5 1 0 ∷ order_with 6 1 0 ∷ []) 9
    -- a list of four lines is not long in the documents' model
    ∷ barred_in gateway 1 1 (ones (7 ∷ 0 ∷ [])) four_wrong 17
    ∷ barred_in gateway 1 1 (ones (0 ∷ 7 ∷ [])) four_wrong 7
    ∷ barred_in gateway 4 1 (ones (0 ∷ 7 ∷ [])) four_wrong 3
    ∷ opens_in gateway 1 1 (ones (0 ∷ 7 ∷ [])) (at_ones (7 ∷ 7 ∷ 7 ∷ 7 ∷ []))
    -- kinds 2 and 3 read no list, be it long, with wrong lines or with too many labels
    ∷ opens_in three_lines 2 1 (ones (0 ∷ 7 ∷ [])) four_wrong
    ∷ opens_in three_lines 3 1 (ones (0 ∷ 7 ∷ [])) four_wrong
    ∷ barred_in three_lines 2 1 (ones (7 ∷ 0 ∷ [])) four_wrong 17
    ∷ barred_in three_lines 3 1 (ones (7 ∷ 0 ∷ [])) four_wrong 17
    ∷ opens_in gateway 2 1 (ones (0 ∷ 7 ∷ [])) (one_line 0 0 99)
    ∷ opens_in gateway 3 1 (ones (0 ∷ 7 ∷ [])) (one_line 0 0 99)
    ∷ opens_in gateway 2 1 (ones (0 ∷ 7 ∷ [])) (at_ones (1 ∷ 2 ∷ 3 ∷ []))
    ∷ opens_in gateway 3 1 (ones (0 ∷ 7 ∷ [])) (at_ones (1 ∷ 2 ∷ 3 ∷ []))
    ∷ []

-- the earliest line decides; on 2 cells with {7} the labels are too many as well, and 9 comes after the lines
unfoldable pub line_faults : List Example
line_faults =
    bars (ones (0 ∷ 7 ∷ [])) (order_with 0 1 0 ∷ order_with 5 0 0 ∷ []) 7
    ∷ bars (ones (0 ∷ 7 ∷ [])) (order_with 5 0 0 ∷ order_with 0 1 0 ∷ []) 14
    ∷ bars (ones (0 ∷ 7 ∷ [])) (order_with 0 1 0 ∷ order_with 5 1 2 ∷ []) 7
    ∷ bars (ones (0 ∷ 7 ∷ [])) (order_with 5 1 2 ∷ order_with 0 1 0 ∷ []) 6
    ∷ bars (ones (0 ∷ 7 ∷ [])) (order_with 5 0 0 ∷ order_with 5 1 2 ∷ []) 14
    ∷ bars (ones (0 ∷ 7 ∷ [])) (order_with 5 1 2 ∷ order_with 5 0 0 ∷ []) 6
    ∷ bars (ones (0 ∷ 7 ∷ [])) (order_with 0 1 0 ∷ order_with 4000000000 1 0 ∷ []) 7
    ∷ bars (ones (0 ∷ 7 ∷ [])) (order_with 4000000000 1 0 ∷ order_with 0 1 0 ∷ []) 24
    ∷ bars (ones (0 ∷ 7 ∷ [])) (order_with 5 0 0 ∷ order_with 4000000000 1 0 ∷ []) 14
    ∷ bars (ones (0 ∷ 7 ∷ [])) (order_with 4000000000 1 0 ∷ order_with 5 0 0 ∷ []) 24
    ∷ bars (ones (0 ∷ 7 ∷ [])) (order_with 5 1 2 ∷ order_with 4000000000 1 0 ∷ []) 6
    ∷ bars (ones (0 ∷ 7 ∷ [])) (order_with 4000000000 1 0 ∷ order_with 5 1 2 ∷ []) 24
    -- behind good lines
    ∷ bars (ones (0 ∷ 7 ∷ [])) (order_with 7 1 0 ∷ order_with 5 1 1 ∷ order_with 5 1 2 ∷ order_with 0 1 0 ∷ order_with 5 0 0 ∷ []) 6
    ∷ bars (ones (0 ∷ 7 ∷ [])) (order_with 7 1 0 ∷ order_with 5 1 1 ∷ order_with 5 0 1 ∷ order_with 5 1 2 ∷ order_with 0 1 0 ∷ []) 14
    ∷ bars (ones (0 ∷ 7 ∷ [])) (order_with 7 1 0 ∷ order_with 5 1 1 ∷ order_with 0 1 1 ∷ order_with 5 0 1 ∷ order_with 5 1 2 ∷ []) 7
    ∷ bars (ones (0 ∷ 7 ∷ [])) (order_with 7 1 0 ∷ order_with 5 1 1 ∷ order_with 4000000000 1 1 ∷ order_with 5 0 1 ∷ order_with 0 1 0 ∷ []) 24
    -- in one line 7 comes before 14, 24 before 14 and 6, and 14 before 6; label 0 is no label for tests
    ∷ bars (ones (0 ∷ 7 ∷ [])) (one_line 0 0 2) 7
    ∷ bars (ones (0 ∷ 7 ∷ [])) (one_line 0 0 1) 7
    ∷ bars (ones (0 ∷ 7 ∷ [])) (one_line 0 1 2) 7
    ∷ bars (ones (0 ∷ 7 ∷ [])) (one_line 4000000000 0 2) 24
    ∷ bars (ones (0 ∷ 7 ∷ [])) (one_line 4000000000 0 1) 24
    ∷ bars (ones (0 ∷ 7 ∷ [])) (one_line 4000000000 1 2) 24
    ∷ bars (ones (0 ∷ 7 ∷ [])) (one_line 5 0 2) 14
    -- one fault alone, and just none
    ∷ bars (empty_cells 5) (one_line 0 1 0) 7
    ∷ bars (empty_cells 5) (one_line 5 0 0) 14
    ∷ takes (empty_cells 5) (one_line 5 1 0)
    ∷ takes (empty_cells 5) (one_line 5 9999999 0)
    ∷ bars (empty_cells 5) (one_line 5 10000000 0) 14
    ∷ bars (empty_cells 5) (one_line 5 4294967295 0) 14
    ∷ takes (empty_cells 5) (one_line 3999999999 1 1)
    ∷ bars (empty_cells 5) (one_line 4000000000 1 1) 24
    ∷ bars (empty_cells 5) (one_line 4294967295 1 1) 24
    -- a label for tests that stands in the table already is refused in a list, and the table opens for others
    ∷ bars (ones (4294967295 ∷ 0 ∷ 0 ∷ 0 ∷ 0 ∷ [])) (one_line 4294967295 1 1) 24
    ∷ takes (ones (4294967295 ∷ 0 ∷ 0 ∷ 0 ∷ 0 ∷ [])) (one_line 5 1 1)
    ∷ opens_in gateway 2 2 (ones (4294967295 ∷ 0 ∷ 0 ∷ 0 ∷ 0 ∷ [])) (one_line 4294967295 1 1)
    ∷ opens_in gateway 3 2 (ones (4294967295 ∷ 0 ∷ 0 ∷ 0 ∷ 0 ∷ [])) (one_line 4294967295 1 1)
    ∷ bars (empty_cells 5) (one_line 5 1 2) 6
    ∷ bars (empty_cells 5) (one_line 5 1 4294967295) 6
    ∷ []

-- the labels of table and list, each counted once, against the cells: five cells with {6, 9}
abbrev pub six_nine : List ℕ
six_nine = ones (0 ∷ 6 ∷ 0 ∷ 0 ∷ 9 ∷ [])

unfoldable pub fillings : List Example
fillings =
    -- one fewer than the cells, as many, and more
    takes six_nine (at_ones (1 ∷ 2 ∷ []))
    ∷ bars six_nine (at_ones (1 ∷ 2 ∷ 3 ∷ [])) 9
    ∷ bars six_nine (at_ones (1 ∷ 2 ∷ 3 ∷ 4 ∷ 5 ∷ [])) 9
    -- repeats in the list, labels of the table again, and labels at two prices
    ∷ takes six_nine (at_ones (1 ∷ 1 ∷ 2 ∷ 1 ∷ 2 ∷ 2 ∷ []))
    ∷ takes six_nine (at_ones (6 ∷ 9 ∷ 9 ∷ 1 ∷ 6 ∷ 2 ∷ []))
    ∷ bars six_nine (at_ones (6 ∷ 9 ∷ 1 ∷ 2 ∷ 3 ∷ [])) 9
    ∷ takes six_nine (order_with 1 5 0 ∷ order_with 2 7 1 ∷ order_with 1 3 1 ∷ order_with 2 7 0 ∷ order_with 6 9 0 ∷ [])
    ∷ bars six_nine (order_with 1 5 0 ∷ order_with 2 7 1 ∷ order_with 1 3 1 ∷ order_with 2 7 0 ∷ order_with 3 9 0 ∷ []) 9
    ∷ takes (0 ∷ content 6 4 ∷ 0 ∷ 0 ∷ content 9 5 ∷ []) (order_with 6 3 0 ∷ order_with 9 6 1 ∷ order_with 1 1 0 ∷ order_with 2 1 0 ∷ [])
    -- no lines, where one cell is empty; its labels once more
    ∷ takes (ones (4 ∷ 3 ∷ 0 ∷ 13 ∷ 8 ∷ [])) []
    ∷ takes (ones (4 ∷ 3 ∷ 0 ∷ 13 ∷ 8 ∷ [])) (at_ones (3 ∷ 4 ∷ 8 ∷ 13 ∷ []))
    ∷ bars (ones (4 ∷ 3 ∷ 0 ∷ 13 ∷ 8 ∷ [])) (at_ones (5 ∷ [])) 9
    -- an empty table
    ∷ takes (empty_cells 5) (at_ones (1 ∷ 2 ∷ 3 ∷ 4 ∷ []))
    ∷ bars (empty_cells 5) (at_ones (1 ∷ 2 ∷ 3 ∷ 4 ∷ 5 ∷ [])) 9
    ∷ takes (empty_cells 2) (at_ones (4 ∷ []))
    ∷ takes (empty_cells 2) (order_with 4 1 0 ∷ order_with 4 3 1 ∷ [])
    ∷ bars (empty_cells 2) (at_ones (4 ∷ 7 ∷ [])) 9
    -- 2 cells with {7} open for 7 alone
    ∷ takes (ones (0 ∷ 7 ∷ [])) []
    ∷ takes (ones (0 ∷ 7 ∷ [])) (at_ones (7 ∷ []))
    ∷ takes (ones (0 ∷ 7 ∷ [])) (order_with 7 9 0 ∷ order_with 7 1 1 ∷ [])
    ∷ bars (ones (0 ∷ 7 ∷ [])) (at_ones (4 ∷ [])) 9
    ∷ bars (ones (0 ∷ 7 ∷ [])) (at_ones (7 ∷ 4 ∷ [])) 9
    ∷ bars (ones (0 ∷ 7 ∷ [])) (at_ones (4 ∷ 7 ∷ [])) 9
    -- a list given as three lists has as many lines as the shortest of them
    ∷ takes (ones (0 ∷ 7 ∷ [])) (orders_of (7 ∷ 4 ∷ []) (1 ∷ []) (0 ∷ 9 ∷ []))
    ∷ takes (ones (0 ∷ 7 ∷ [])) (orders_of (7 ∷ 4 ∷ []) (1 ∷ 0 ∷ []) (0 ∷ []))
    ∷ takes (ones (0 ∷ 7 ∷ [])) (orders_of (7 ∷ []) (1 ∷ 0 ∷ []) (0 ∷ 9 ∷ []))
    ∷ []

-- ---- order calls
-- a refused one leaves the phase state
abbrev pub kept : (p : Phase) (orders : List Order) (i w v number : ℕ) → Example
kept p os i w v r = ordering p os i w v r p

-- of five cells, worker 0 busy and the others idle
abbrev pub with_busy : (k m : ℕ) → Bool → Phase
with_busy k m shut = phase k 5 m shut (set all_idle 0 (worker (Reading (one 3) 3)))

-- the same where worker 1 is doing a
abbrev pub with_second : ℕ → Activity → Phase
with_second k a = phase k 5 2 false (set (set all_idle 0 (worker (Reading (one 3) 3))) 1 (worker a))

-- in a put-in shift, by its line: 13, 11, 15, 6, 8, 7, 24, 14
unfoldable pub line_orders : List Example
line_orders =
    kept (with_busy 1 17 true) [] 0 99 0 13
    ∷ kept (with_busy 1 17 true) (one_line 0 0 99) 0 99 0 13
    ∷ kept (with_busy 1 17 true) (one_line 4000000000 0 1) 0 1 13 13
    ∷ kept (with_busy 1 2 true) [] 0 99 0 11
    ∷ kept (with_busy 1 2 true) (one_line 0 0 99) 0 99 0 11
    ∷ kept (with_busy 1 2 true) (one_line 4000000000 0 1) 0 1 13 11
    ∷ kept (with_busy 1 2 false) [] 0 99 0 15
    ∷ kept (with_busy 1 2 false) (one_line 13 7 1) 1 1 13 15
    ∷ kept (with_busy 1 2 false) wrong_lines 6 0 0 15
    ∷ kept (with_busy 1 2 false) wrong_lines 4294967295 0 0 15
    ∷ kept (with_busy 1 2 false) (one_line 0 0 2) 0 1 13 6
    ∷ kept (with_busy 1 2 false) (one_line 0 0 99) 0 1 13 6
    ∷ kept (with_busy 1 2 false) (one_line 0 0 0) 0 1 13 8
    ∷ kept (with_busy 1 2 false) (one_line 13 7 0) 0 1 13 8
    ∷ kept (with_busy 1 2 false) (one_line 0 0 1) 0 1 13 7
    ∷ kept (with_busy 1 2 false) (one_line 4000000000 0 2) 0 1 13 6
    ∷ kept (with_busy 1 2 false) (one_line 4000000000 0 0) 0 1 13 8
    ∷ kept (with_busy 1 2 false) (one_line 4000000000 0 1) 0 1 13 24
    ∷ kept (with_busy 1 2 false) (one_line 4000000000 1 1) 0 1 13 24
    ∷ kept (with_busy 1 2 false) (one_line 4294967295 1 1) 0 1 13 24
    ∷ ordering (with_busy 1 2 false) (one_line 3999999999 1 1) 0 1 4000000000 0 (with_second 1 (Reading (content 3999999999 1) 4))
    ∷ kept (with_busy 1 2 false) (one_line 13 0 1) 0 1 13 14
    ∷ kept (with_busy 1 2 false) (one_line 13 10000000 1) 0 1 13 14
    -- the line's worker starts at its label's home, with the label and the price, whatever worker and label are handed in
    ∷ ordering (with_busy 1 2 false) (one_line 13 7 1) 0 99 0 0 (with_second 1 (Reading (content 13 7) 3))
    ∷ ordering (with_busy 1 2 false) (one_line 13 9999999 1) 0 0 4 0 (with_second 1 (Reading (content 13 9999999) 3))
    -- lines are counted from 0, and only the one named is read
    ∷ ordering (with_busy 1 2 false) (order_with 4 2 1 ∷ order_with 13 7 1 ∷ wrong_lines) 0 0 0 0 (with_second 1 (Reading (content 4 2) 4))
    ∷ ordering (with_busy 1 2 false) (order_with 4 2 1 ∷ order_with 13 7 1 ∷ wrong_lines) 1 0 0 0 (with_second 1 (Reading (content 13 7) 3))
    ∷ kept (with_busy 1 2 false) (order_with 4 2 1 ∷ order_with 13 7 1 ∷ wrong_lines) 2 0 0 6
    ∷ []

-- a put-in shift opened with two good lines, lent an altered list
abbrev pub lent_lines : List Order
lent_lines = order_with 3 7 0 ∷ order_with 13 2 1 ∷ []

abbrev pub opened_with_lines : Phase
opened_with_lines = (open_call gateway 1 2 plain (empty_cells 5) lent_lines).phase

-- worker w just started on an entry from a home
abbrev pub started_from : (w entry home : ℕ) → Phase
started_from w e h = phase 1 5 2 false (set all_idle w (worker (Reading e h)))

unfoldable pub altered_lists : List Example
altered_lists =
    ordering opened_with_lines lent_lines 1 0 0 0 (started_from 1 (content 13 2) 3)
    -- shorter, longer, and with one line altered; each is checked afresh
    ∷ kept opened_with_lines (one_line 3 7 0) 1 0 0 15
    ∷ kept opened_with_lines [] 0 0 0 15
    ∷ ordering opened_with_lines (lent_lines ++ one_line 99 1 1) 2 0 0 0 (started_from 1 (content 99 1) 4)
    ∷ kept opened_with_lines (order_with 3 7 0 ∷ order_with 0 2 1 ∷ []) 1 0 0 7
    ∷ kept opened_with_lines (order_with 3 7 0 ∷ order_with 4000000000 2 1 ∷ []) 1 0 0 24
    ∷ kept opened_with_lines (order_with 3 7 0 ∷ order_with 13 0 1 ∷ []) 1 0 0 14
    ∷ kept opened_with_lines (order_with 3 7 0 ∷ order_with 13 2 2 ∷ []) 1 0 0 6
    ∷ ordering opened_with_lines (order_with 3 7 0 ∷ order_with 12 5 0 ∷ []) 1 0 0 0 (started_from 0 (content 12 5) 2)
    -- the other lines are not read; nor are their labels counted
    ∷ ordering opened_with_lines (order_with 0 0 99 ∷ order_with 13 2 1 ∷ []) 1 0 0 0 (started_from 1 (content 13 2) 3)
    ∷ ordering opened_with_lines (order_with 13 2 1 ∷ at_ones (1 ∷ 2 ∷ 3 ∷ 4 ∷ 5 ∷ [])) 0 0 0 0 (started_from 1 (content 13 2) 3)
    ∷ []

-- in the other kinds, by the worker and the label handed in: 13, 11, 6, 8, 7; neither the list nor the line number is read
unfoldable pub handed_orders : List Example
handed_orders =
    kept (with_busy 2 17 true) [] 0 99 0 13
    ∷ kept (with_busy 3 17 true) [] 0 99 0 13
    ∷ kept (with_busy 2 2 true) [] 0 99 0 11
    ∷ kept (with_busy 3 2 true) [] 0 99 0 11
    ∷ kept (with_busy 2 2 false) [] 0 2 0 6
    ∷ kept (with_busy 3 2 false) (one_line 13 7 1) 0 99 0 6
    ∷ kept (with_busy 2 2 false) [] 0 0 0 8
    ∷ kept (with_busy 3 2 false) (one_line 13 7 1) 0 0 0 8
    ∷ kept (with_busy 2 2 false) [] 0 1 0 7
    ∷ kept (with_busy 3 2 false) (one_line 13 7 1) 0 1 0 7
    ∷ ordering (with_busy 2 2 false) [] 0 1 13 0 (with_second 2 (Reading (content 13 0) 3))
    ∷ ordering (with_busy 3 2 false) [] 4294967295 1 13 0 (with_second 3 (Reading (content 13 0) 3))
    -- a label for factory tests is taken out and looked up like any other
    ∷ ordering (with_busy 2 2 false) [] 0 1 4000000000 0 (with_second 2 (Reading (content 4000000000 0) 0))
    ∷ ordering (with_busy 3 2 false) [] 0 1 4294967295 0 (with_second 3 (Reading (content 4294967295 0) 0))
    ∷ ordering (with_busy 2 2 false) wrong_lines 0 1 13 0 (with_second 2 (Reading (content 13 0) 3))
    ∷ ordering (with_busy 3 2 false) (one_line 4 7 0) 0 1 13 0 (with_second 3 (Reading (content 13 0) 3))
    ∷ []

abbrev pub orders : List Example
orders = opening_sequence ++ line_faults ++ fillings ++ line_orders ++ altered_lists ++ handed_orders
