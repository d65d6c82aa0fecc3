-- Homes by a and b (document 02, "Homes that spread"): the same forms under other a and b than 1 and 0. Five cells are the usual length; there document
-- 01's labels 3, 4, 8 and 13 stand as in `old_image` with 1 and 0.
use Rattle.std.specs.Prelude.{true, false, List, [], ◌∷◌, ◌++◌, ℕ, length}
use Rattle.homes.specs.Homes.{hash_of, plain}
use Rattle.homes.specs.declared.Hash.{Hash}
use Rattle.prices.specs.Contents.{label, content}
use Rattle.prices.specs.Priced.{without_labels}
use Rattle.orders.specs.Orders.{order_with}
use Rattle.orders.specs.declared.Order.{Order}
use Rattle.activities.specs.declared.Activity.TheVariants.{Idle, Reading, Replacing, WalkingBack, SeekingForward, SeekingBack}
use Rattle.rule.specs.declared.Answer.TheVariants.{WentOn, Finished}
use Rattle.rule.specs.Schedules.{one, ones}
use Rattle.state.specs.Model.{gateway}
use Rattle.history.specs.History.{turn, close}
use Rattle.examples.specs.Forms.{Example, laid, unsound, counting, opening, ordering, ending, empties, marked, calling, refusing, bound, AllSay}
use Rattle.examples.specs.Forms.{empty_cells, phase_by, all_idle, busy_by, line, handed, Told, ok, refuses, on, ons, done, found, missing}
use Rattle.examples.specs.Limits.{barred, lists, unlisted}
use Rattle.examples.specs.Orders.{one_line, at_ones, bars, barred_in, three_lines, four_wrong, three_wrong, kept}
use Rattle.examples.specs.Repairs.{old_image, gapped, disordered, full}
use Rattle.examples.specs.Traces.{reads, turns}

-- ---- records by a and b
-- an accepted opening keeps them
abbrev pub opens_by : Hash → (k m : ℕ) (table : List ℕ) (orders : List Order) → Example
opens_by ab k m t os = opening gateway k m t os 0 (phase_by ab k (length t) m false all_idle)

-- an order of 13 to worker 1 of two, in five cells: it starts from this home, with this entry
abbrev pub starts : Hash → (k entry home : ℕ) → Example
starts ab k e h = ordering (phase_by ab k 5 2 false all_idle) (one_line 13 7 1) 0 1 13 0 (busy_by ab k 5 2 1 (Reading e h))

-- whatever they are, 13 doesn't test them, and calls that are refused and a close keep them
unfoldable pub records_by : Hash → List Example
records_by ab =
    bound (phase_by ab 1 5 2 false all_idle) (phase_by ab 1 5 17 false all_idle)
    ∷ bound (busy_by ab 2 5 2 1 (WalkingBack (one 3) 4)) (busy_by ab 2 5 2 1 (WalkingBack (one 3) 5))
    ∷ bound (phase_by ab 3 8192 16 true all_idle) (phase_by ab 3 8193 16 true all_idle)
    ∷ ending (phase_by ab 2 5 2 false all_idle) 0 (phase_by ab 2 5 2 true all_idle)
    ∷ ending (phase_by ab 2 5 2 true all_idle) 11 (phase_by ab 2 5 2 true all_idle)
    ∷ ending (busy_by ab 1 5 2 1 (Reading (one 3) 4)) 10 (busy_by ab 1 5 2 1 (Reading (one 3) 4))
    ∷ kept (phase_by ab 3 5 2 false all_idle) [] 0 1 0 7
    ∷ refusing (busy_by ab 3 5 2 1 (Reading (one 3) 4)) (empty_cells 4) 1 5
    ∷ []

-- ---- three tables of these labels
-- a of 4294967295 and b of 6: a label's number is 6 less the label, modulo 2³². The homes of 1, 6 and 7 are 0, of 4 and 4294967295 2, of 3 and 9 3, and of
-- 2, 8 and 13 4
abbrev pub six_less : Hash
six_less = hash_of 4294967295 6

abbrev pub six_less_image : List ℕ
six_less_image = ones (8 ∷ 0 ∷ 4 ∷ 3 ∷ 13 ∷ [])

-- a of 2654435769 and b of 0: the homes of 4 and 13 are 4, of 3 and 9 1, of 8 3
abbrev pub golden : Hash
golden = hash_of 2654435769 0

abbrev pub golden_image : List ℕ
golden_image = ones (4 ∷ 3 ∷ 0 ∷ 8 ∷ 13 ∷ [])

-- a of 3 and b of 1: the homes of 3, 8 and 13 are 0, of 4 3
abbrev pub thrice : Hash
thrice = hash_of 3 1

abbrev pub thrice_image : List ℕ
thrice_image = ones (13 ∷ 8 ∷ 3 ∷ 4 ∷ 0 ∷ [])

-- ---- by the first
-- the labels as the sheet orders them
abbrev pub four_items : List Order
four_items = order_with 3 1 0 ∷ order_with 8 1 1 ∷ order_with 13 1 0 ∷ order_with 4 1 1 ∷ []

abbrev pub six_less_puts_in : List Told
six_less_puts_in =
    ok (line 0) ∷ ok (line 1) ∷ on 0 ∷ on 1 ∷ done 0 ∷ done 1 ∷ ok (line 2) ∷ ok (line 3) ∷ on 0 ∷ on 1 ∷ on 0 ∷ done 1 ∷ on 0 ∷ done 0
    ∷ ok (line 3) ∷ done 1 ∷ ok close ∷ refuses (turn 0) 11 ∷ []

abbrev pub six_less_looks_up : List Told
six_less_looks_up =
    ok (handed 0 8) ∷ ok (handed 1 9) ∷ on 0 ∷ missing 1 ∷ found 0 1 ∷ ok (handed 1 4) ∷ found 1 1 ∷ ok (handed 0 2) ∷ on 0 ∷ on 0 ∷ missing 0
    ∷ ok close ∷ []

unfoldable pub by_six_less : List Example
by_six_less =
    laid 5 (ones (3 ∷ 4 ∷ 8 ∷ 13 ∷ [])) six_less_image
    ∷ laid 5 (ones (4294967295 ∷ [])) (ones (0 ∷ 0 ∷ 4294967295 ∷ 0 ∷ 0 ∷ []))
    ∷ laid 5 (without_labels label (ones (13 ∷ [])) six_less_image) (ones (0 ∷ 0 ∷ 4 ∷ 3 ∷ 8 ∷ []))
    ∷ laid 5 (content 8 5 ∷ content 3 2 ∷ content 8 3 ∷ content 4 9999999 ∷ []) (0 ∷ 0 ∷ content 4 9999999 ∷ content 3 2 ∷ content 8 3 ∷ [])
    ∷ unsound old_image
    -- put in: 13 takes cell 4, and 8 is carried on across the table's end
    ∷ calling 1 2 (empty_cells 5) four_items six_less_puts_in 11 six_less_image
    ∷ calling 1 1 (content 8 9 ∷ 0 ∷ 0 ∷ 0 ∷ content 13 5 ∷ []) (one_line 8 2 0) (ok (line 0) ∷ on 0 ∷ on 0 ∷ done 0 ∷ ok close ∷ []) 3
    (content 8 2 ∷ 0 ∷ 0 ∷ 0 ∷ content 13 5 ∷ [])
    -- take out: 8 comes forward across the table's end; 9 is not there, by its home alone
    ∷ calling 2 1 six_less_image [] (ok (handed 0 13) ∷ ons 6 0 (done 0 ∷ ok close ∷ [])) 7 (ones (0 ∷ 0 ∷ 4 ∷ 3 ∷ 8 ∷ []))
    ∷ calling 2 1 six_less_image [] (ok (handed 0 9) ∷ on 0 ∷ done 0 ∷ ok close ∷ []) 2 six_less_image
    -- look up
    ∷ calling 3 2 six_less_image [] six_less_looks_up 7 six_less_image
    -- check, count and list: the table that it left, and those of others
    ∷ counting six_less_image 0 4
    ∷ lists six_less_image (70 ∷ 71 ∷ 72 ∷ 73 ∷ 74 ∷ []) (one 8 ∷ one 4 ∷ one 3 ∷ one 13 ∷ 74 ∷ []) (ones (8 ∷ 4 ∷ 3 ∷ 13 ∷ []))
    ∷ unlisted six_less_image (70 ∷ 71 ∷ 72 ∷ []) 12
    ∷ marked old_image 17
    ∷ marked golden_image 17
    ∷ marked thrice_image 17
    -- 13 behind 8, which share their home, 8 behind 13, and the same with a wrong price
    ∷ marked (ones (13 ∷ 0 ∷ 0 ∷ 0 ∷ 8 ∷ [])) 18
    ∷ counting (ones (8 ∷ 0 ∷ 0 ∷ 0 ∷ 13 ∷ [])) 0 2
    ∷ marked (one 8 ∷ 0 ∷ 0 ∷ 0 ∷ content 13 0 ∷ []) 4
    ∷ empties 2 0
    ∷ empties 8192 0
    ∷ empties 8193 1
    -- openings keep a and b, and refused ones hand back 1 and 0
    ∷ opens_by six_less 1 2 six_less_image (at_ones (3 ∷ 4 ∷ 8 ∷ 13 ∷ []))
    ∷ opens_by six_less 2 16 six_less_image []
    ∷ opens_by six_less 3 1 six_less_image []
    ∷ barred 2 17 six_less_image 2
    ∷ barred 4 1 six_less_image 3
    ∷ barred_in three_lines 1 1 old_image four_wrong 16
    ∷ barred_in three_lines 1 1 old_image three_wrong 17
    ∷ barred_in three_lines 1 1 six_less_image three_wrong 7
    ∷ bars six_less_image (one_line 5 1 0) 9
    -- an order starts from the home
    ∷ starts six_less 1 (content 13 7) 4
    ∷ starts six_less 2 (content 13 0) 4
    ∷ starts six_less 3 (content 13 0) 4
    -- take out: the way back ends at the home, 4 for 8, and not at 3
    ∷ reads 2 (0 ∷ 0 ∷ 0 ∷ 0 ∷ 0 ∷ []) (WalkingBack 8 0) WentOn (WalkingBack 8 4)
    ∷ reads 2 (0 ∷ 0 ∷ 0 ∷ 0 ∷ 0 ∷ []) (WalkingBack 8 4) Finished Idle
    ∷ reads 2 (0 ∷ 0 ∷ 0 ∷ 0 ∷ 0 ∷ []) (WalkingBack 8 3) WentOn (WalkingBack 8 2)
    -- a replacement is a label whose way passes k: 6 from its home 0, 9 from before k, 8 across the wrap; 1 is at home
    ∷ reads 2 (7 ∷ 6 ∷ 0 ∷ 0 ∷ 0 ∷ []) (SeekingForward 7 0 1) WentOn (Replacing 7 0 1 6)
    ∷ reads 2 (7 ∷ 6 ∷ 0 ∷ 0 ∷ 0 ∷ []) (SeekingBack 1 7 0 2 0) WentOn (Replacing 7 0 1 6)
    ∷ reads 2 (0 ∷ 0 ∷ 9 ∷ 0 ∷ 0 ∷ []) (SeekingForward 4 1 2) WentOn (Replacing 4 1 2 9)
    ∷ reads 2 (8 ∷ 2 ∷ 0 ∷ 0 ∷ 13 ∷ []) (SeekingForward 13 4 0) WentOn (Replacing 13 4 0 8)
    ∷ reads 2 (1 ∷ 0 ∷ 0 ∷ 0 ∷ 8 ∷ []) (SeekingForward 8 4 0) WentOn (SeekingForward 8 4 1)
    ∷ turns 2 (8 ∷ 0 ∷ 4 ∷ 3 ∷ 13 ∷ []) (Replacing 13 4 0 8) WentOn (WalkingBack 8 0) (8 ∷ 0 ∷ 4 ∷ 3 ∷ 8 ∷ [])
    ∷ []

-- ---- another b alone, and another a alone: the same turns and orders go otherwise
abbrev pub five_less : Hash
five_less = hash_of 4294967295 5

unfoldable pub by_five_less : List Example
by_five_less =
    starts five_less 2 (content 13 0) 3
    ∷ reads 2 (0 ∷ 0 ∷ 0 ∷ 0 ∷ 0 ∷ []) (WalkingBack 8 4) WentOn (WalkingBack 8 3)
    ∷ reads 2 (0 ∷ 0 ∷ 0 ∷ 0 ∷ 0 ∷ []) (WalkingBack 8 3) Finished Idle
    ∷ reads 2 (0 ∷ 0 ∷ 9 ∷ 0 ∷ 0 ∷ []) (SeekingForward 4 1 2) WentOn (SeekingForward 4 1 3)
    ∷ reads 2 (1 ∷ 0 ∷ 0 ∷ 0 ∷ 8 ∷ []) (SeekingForward 8 4 0) WentOn (Replacing 8 4 0 1)
    ∷ marked six_less_image 18
    ∷ []

abbrev pub thrice_six : Hash
thrice_six = hash_of 3 6

unfoldable pub by_thrice_six : List Example
by_thrice_six =
    starts thrice_six 2 (content 13 0) 0
    ∷ reads 2 (0 ∷ 0 ∷ 0 ∷ 0 ∷ 0 ∷ []) (WalkingBack 8 4) WentOn (WalkingBack 8 3)
    ∷ reads 2 (0 ∷ 0 ∷ 0 ∷ 0 ∷ 0 ∷ []) (WalkingBack 8 0) Finished Idle
    ∷ reads 2 (8 ∷ 2 ∷ 0 ∷ 0 ∷ 13 ∷ []) (SeekingForward 13 4 0) WentOn (SeekingForward 13 4 1)
    ∷ reads 2 (1 ∷ 0 ∷ 0 ∷ 0 ∷ 8 ∷ []) (SeekingForward 8 4 0) WentOn (Replacing 8 4 0 1)
    ∷ marked six_less_image 18
    ∷ []

-- ---- by the other two
abbrev pub golden_puts_in : List Told
golden_puts_in =
    ok (line 0) ∷ on 0 ∷ done 0 ∷ ok (line 1) ∷ on 0 ∷ on 0 ∷ on 0 ∷ done 0 ∷ ok (line 2) ∷ on 0 ∷ done 0 ∷ ok (line 3) ∷ on 0 ∷ done 0 ∷ ok close ∷ []

unfoldable pub by_golden : List Example
by_golden =
    laid 5 (ones (3 ∷ 4 ∷ 8 ∷ 13 ∷ [])) golden_image
    ∷ laid 5 (ones (4294967295 ∷ [])) (ones (0 ∷ 0 ∷ 4294967295 ∷ 0 ∷ 0 ∷ []))
    -- labels in steps of 100, in ten cells
    ∷ laid 10 (ones (100 ∷ 200 ∷ 300 ∷ 400 ∷ [])) (ones (300 ∷ 0 ∷ 200 ∷ 0 ∷ 100 ∷ 0 ∷ 0 ∷ 0 ∷ 400 ∷ 0 ∷ []))
    ∷ calling 1 1 (empty_cells 5) (at_ones (4 ∷ 13 ∷ 3 ∷ 8 ∷ [])) golden_puts_in 10 golden_image
    -- 4 comes forward across the table's end, 3 stays at its home
    ∷ calling 2 1 golden_image [] (ok (handed 0 13) ∷ ons 8 0 (done 0 ∷ ok close ∷ [])) 9 (ones (0 ∷ 3 ∷ 0 ∷ 8 ∷ 4 ∷ []))
    ∷ calling 3 1 golden_image [] (ok (handed 0 4) ∷ on 0 ∷ found 0 1 ∷ ok (handed 0 3) ∷ found 0 1 ∷ ok (handed 0 9) ∷ missing 0 ∷ ok close ∷ []) 4
    golden_image
    ∷ counting golden_image 0 4
    ∷ marked old_image 18
    ∷ marked six_less_image 18
    ∷ marked thrice_image 17
    ∷ []

abbrev pub thrice_puts_in : List Told
thrice_puts_in =
    ok (line 0) ∷ ok (line 1) ∷ on 0 ∷ on 1 ∷ done 0 ∷ on 1 ∷ on 1 ∷ on 1 ∷ on 1 ∷ done 1 ∷ ok (line 2) ∷ ok (line 3) ∷ on 0 ∷ on 1 ∷ on 0 ∷ done 1
    ∷ on 0 ∷ on 0 ∷ on 0 ∷ done 0 ∷ ok close ∷ []

unfoldable pub by_thrice : List Example
by_thrice =
    laid 5 (ones (3 ∷ 4 ∷ 8 ∷ 13 ∷ [])) thrice_image
    ∷ laid 5 (ones (4294967295 ∷ [])) (ones (0 ∷ 0 ∷ 0 ∷ 0 ∷ 4294967295 ∷ []))
    ∷ laid 2 (ones (7 ∷ [])) (ones (7 ∷ 0 ∷ []))
    ∷ calling 1 2 (empty_cells 5) four_items thrice_puts_in 16 thrice_image
    -- 8 and then 3 come forward, 4 stays at its home
    ∷ calling 2 1 thrice_image [] (ok (handed 0 13) ∷ ons 11 0 (done 0 ∷ ok close ∷ [])) 12 (ones (8 ∷ 3 ∷ 0 ∷ 4 ∷ 0 ∷ []))
    ∷ calling 3 1 thrice_image [] (ok (handed 0 3) ∷ on 0 ∷ on 0 ∷ found 0 1 ∷ ok (handed 0 9) ∷ missing 0 ∷ ok close ∷ []) 4 thrice_image
    ∷ calling 1 1 (empty_cells 2) (one_line 7 1 0) (ok (line 0) ∷ on 0 ∷ done 0 ∷ ok close ∷ []) 2 (ones (7 ∷ 0 ∷ []))
    ∷ counting thrice_image 0 4
    ∷ marked old_image 18
    ∷ marked six_less_image 18
    ∷ marked golden_image 18
    ∷ []

-- ---- a of 1: with b of 5 homes in five cells are as with 0, but for labels whose number passes 2³²
unfoldable pub by_five_more : List Example
by_five_more =
    laid 5 (ones (3 ∷ 4 ∷ 8 ∷ 13 ∷ [])) old_image
    ∷ counting old_image 0 4
    ∷ laid 5 (ones (4294967290 ∷ [])) (ones (4294967290 ∷ 0 ∷ 0 ∷ 0 ∷ 0 ∷ []))
    ∷ laid 5 (ones (4294967295 ∷ [])) (ones (0 ∷ 0 ∷ 0 ∷ 0 ∷ 4294967295 ∷ []))
    ∷ []

-- ---- by 1 and 0 the steps of 100 crowd, and the other tables are not sound
unfoldable pub by_plain : List Example
by_plain =
    laid 10 (ones (100 ∷ 200 ∷ 300 ∷ 400 ∷ [])) (ones (400 ∷ 300 ∷ 200 ∷ 100 ∷ 0 ∷ 0 ∷ 0 ∷ 0 ∷ 0 ∷ 0 ∷ []))
    ∷ marked six_less_image 18
    ∷ marked golden_image 18
    ∷ marked thrice_image 18
    ∷ starts plain 2 (content 13 0) 3
    ∷ []

-- ---- the greatest a, b and label: their number is 0
unfoldable pub by_greatest : List Example
by_greatest = laid 7 (ones (1 ∷ 4294967295 ∷ [])) (ones (4294967295 ∷ 0 ∷ 1 ∷ 0 ∷ 0 ∷ 0 ∷ 0 ∷ [])) ∷ []

-- ---- an even a: 21
unfoldable pub even_refusals : List Example
even_refusals =
    -- at opening behind 1, 2 and 3, and before 16 and that the table is not sound; of every kind
    barred_in three_lines 1 17 (ones (7 ∷ [])) four_wrong 1
    ∷ barred_in three_lines 1 17 (ones (7 ∷ 0 ∷ [])) four_wrong 2
    ∷ barred_in three_lines 2 0 (ones (7 ∷ 0 ∷ [])) four_wrong 2
    ∷ barred_in three_lines 4 1 (ones (7 ∷ 0 ∷ [])) four_wrong 3
    ∷ barred_in three_lines 0 1 (ones (7 ∷ 0 ∷ [])) four_wrong 3
    ∷ barred_in three_lines 1 1 (ones (7 ∷ 0 ∷ [])) four_wrong 21
    ∷ barred_in three_lines 2 1 (ones (7 ∷ 0 ∷ [])) four_wrong 21
    ∷ barred_in three_lines 3 1 (ones (7 ∷ 0 ∷ [])) four_wrong 21
    -- by every call, whatever the table, the lines and the list: behind 1, and before 4, 17, 18 and 12
    ∷ marked (empty_cells 5) 21
    ∷ marked old_image 21
    ∷ marked gapped 21
    ∷ marked disordered 21
    ∷ marked full 21
    ∷ marked (0 ∷ content 7 0 ∷ []) 21
    ∷ counting (ones (7 ∷ [])) 1 0
    ∷ unlisted (ones (7 ∷ [])) [] 1
    ∷ unlisted old_image (70 ∷ []) 21
    ∷ empties 1 1
    ∷ empties 2 21
    ∷ empties 8192 21
    ∷ empties 8193 1
    ∷ []

-- a record with an even a was forged, and goes by the same rule. With a of 0 and b of 7 every home is 2
abbrev pub never : Hash
never = hash_of 0 7

unfoldable pub by_never : List Example
by_never =
    laid 5 (ones (3 ∷ 4 ∷ 8 ∷ 13 ∷ [])) (ones (3 ∷ 0 ∷ 13 ∷ 8 ∷ 4 ∷ []))
    -- 21 where 8 meets an empty cell, and where 13 meets 8
    ∷ marked (ones (0 ∷ 0 ∷ 0 ∷ 8 ∷ 0 ∷ [])) 21
    ∷ marked (ones (0 ∷ 0 ∷ 8 ∷ 13 ∷ 0 ∷ [])) 21
    ∷ starts never 1 (content 13 7) 2
    ∷ starts never 2 (content 13 0) 2
    ∷ starts never 3 (content 13 0) 2
    ∷ reads 2 (0 ∷ 0 ∷ 0 ∷ 0 ∷ 0 ∷ []) (WalkingBack 8 3) WentOn (WalkingBack 8 2)
    ∷ reads 2 (0 ∷ 0 ∷ 0 ∷ 0 ∷ 0 ∷ []) (WalkingBack 8 2) Finished Idle
    ∷ reads 2 (9 ∷ 6 ∷ 0 ∷ 0 ∷ 0 ∷ []) (SeekingForward 9 0 1) WentOn (Replacing 9 0 1 6)
    ∷ reads 2 (9 ∷ 6 ∷ 0 ∷ 0 ∷ 0 ∷ []) (SeekingBack 1 9 0 2 0) WentOn (Replacing 9 0 1 6)
    ∷ []

-- with 2 and 3 the homes of 8 and 13 are 4, of 4 1
abbrev pub twice : Hash
twice = hash_of 2 3

unfoldable pub by_twice : List Example
by_twice =
    -- 21 where 8 meets an empty cell, and where 13 meets 8
    marked (ones (8 ∷ 0 ∷ 0 ∷ 0 ∷ 0 ∷ [])) 21
    ∷ marked (ones (13 ∷ 0 ∷ 0 ∷ 0 ∷ 8 ∷ [])) 21
    ∷ starts twice 1 (content 13 7) 4
    ∷ reads 2 (0 ∷ 0 ∷ 0 ∷ 0 ∷ 0 ∷ []) (WalkingBack 8 4) Finished Idle
    ∷ reads 2 (0 ∷ 0 ∷ 0 ∷ 0 ∷ 0 ∷ []) (WalkingBack 8 3) WentOn (WalkingBack 8 2)
    ∷ reads 2 (9 ∷ 4 ∷ 0 ∷ 0 ∷ 0 ∷ []) (SeekingForward 9 0 1) WentOn (SeekingForward 9 0 2)
    ∷ reads 2 (9 ∷ 4 ∷ 0 ∷ 0 ∷ 0 ∷ []) (SeekingBack 1 9 0 2 0) WentOn (Replacing 9 0 2 0)
    ∷ []

-- with 4294967294 and 1 those of 8 and 13 are 1
abbrev pub twice_less : Hash
twice_less = hash_of 4294967294 1

unfoldable pub by_twice_less : List Example
by_twice_less =
    -- 21 there too
    marked (ones (0 ∷ 0 ∷ 8 ∷ 0 ∷ 0 ∷ [])) 21
    ∷ marked (ones (0 ∷ 8 ∷ 13 ∷ 0 ∷ 0 ∷ [])) 21
    ∷ starts twice_less 3 (content 13 0) 1
    ∷ reads 2 (0 ∷ 0 ∷ 0 ∷ 0 ∷ 0 ∷ []) (WalkingBack 8 1) Finished Idle
    ∷ reads 2 (0 ∷ 0 ∷ 0 ∷ 0 ∷ 0 ∷ []) (WalkingBack 8 3) WentOn (WalkingBack 8 2)
    ∷ reads 2 (13 ∷ 8 ∷ 0 ∷ 0 ∷ 0 ∷ []) (SeekingForward 13 0 1) WentOn (SeekingForward 13 0 2)
    ∷ []

-- ---- all of them, each list under its a and b
pub record Spread : Type 0 where
  pub hash : Hash
  pub examples : List Example

abbrev pub under : Hash → List Example → Spread
under ab es = record { hash = ab; examples = es }

unfoldable pub spreads : List Spread
spreads =
    under six_less (by_six_less ++ records_by six_less)
    ∷ under five_less by_five_less
    ∷ under thrice_six by_thrice_six
    ∷ under golden by_golden
    ∷ under thrice by_thrice
    ∷ under (hash_of 1 5) by_five_more
    ∷ under plain by_plain
    ∷ under (hash_of 4294967295 4294967295) by_greatest
    ∷ under never (even_refusals ++ by_never ++ records_by never)
    ∷ under twice (even_refusals ++ by_twice ++ records_by twice)
    ∷ under twice_less (even_refusals ++ by_twice_less ++ records_by twice_less)
    ∷ []

abbrev pub AllSpread : List Spread → Type 0
AllSpread [] = Unit {0}
AllSpread (s ∷ others) = AllSay s.hash s.examples × AllSpread others
