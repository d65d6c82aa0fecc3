-- The repair bench (document 02, "Three kinds of unsound"): 4 for a table without an empty cell, with a label 0 beside a price or with a price out of
-- range; else 17 or 18, as the lowest-numbered cell whose label breaks the way rule first meets 0 or a label that isn't greater. Five cells are the
-- usual length: there the homes of 5, 10 are 0, of 1, 6, 11 are 1, of 2, 7 are 2, of 3, 8, 13, 23 are 3 and of 4, 9, 14 are 4.
use Rattle.std.specs.Prelude.{List, [], ◌∷◌, ◌++◌, ℕ, set, take, drop, replicate}
use Rattle.prices.specs.Contents.{content}
use Rattle.rule.specs.Schedules.{one, ones}
use Rattle.examples.specs.Forms.{Example, marked, counting, empty_cells}
use Rattle.examples.specs.Limits.{barred, unlisted}
use Rattle.examples.specs.Orders.{one_line, at_ones, bars, barred_in, three_lines, three_wrong, four_wrong}

-- ---- document 01's unsound tables
-- 13 meets 8 on its way, 6 an empty cell; and no cell is empty
abbrev pub disordered : List ℕ
disordered = ones (0 ∷ 0 ∷ 0 ∷ 8 ∷ 13 ∷ [])

abbrev pub gapped : List ℕ
gapped = ones (6 ∷ 0 ∷ 0 ∷ 0 ∷ 0 ∷ [])

abbrev pub full : List ℕ
full = ones (5 ∷ 6 ∷ 7 ∷ 8 ∷ 9 ∷ [])

unfoldable pub papers : List Example
papers =
    marked disordered 18
    ∷ marked (ones (0 ∷ 0 ∷ 0 ∷ 3 ∷ 3 ∷ [])) 18
    ∷ marked gapped 17
    ∷ marked full 4
    -- full and out of order too
    ∷ marked (ones (6 ∷ 5 ∷ 7 ∷ 8 ∷ 9 ∷ [])) 4
    ∷ marked (ones (3 ∷ 3 ∷ 3 ∷ 3 ∷ 3 ∷ [])) 4
    -- the full table with its last or its first label less is sound
    ∷ counting (ones (5 ∷ 6 ∷ 7 ∷ 8 ∷ 0 ∷ [])) 0 4
    ∷ counting (ones (0 ∷ 6 ∷ 7 ∷ 8 ∷ 9 ∷ [])) 0 4
    -- a cell with a price alone is not empty
    ∷ marked (one 5 ∷ one 6 ∷ 1 ∷ one 8 ∷ one 9 ∷ []) 4
    -- two cells: two labels are full, so none gets 18
    ∷ marked (ones (4 ∷ 7 ∷ [])) 4
    ∷ marked (ones (4 ∷ 6 ∷ [])) 4
    ∷ marked (ones (7 ∷ 0 ∷ [])) 17
    ∷ marked (ones (0 ∷ 4 ∷ [])) 17
    -- three cells
    ∷ marked (ones (3 ∷ 6 ∷ 0 ∷ [])) 18
    ∷ counting (ones (6 ∷ 3 ∷ 0 ∷ [])) 0 2
    ∷ []

-- ---- torn images: the front of one sound table up to a cut, and the rest of another
abbrev pub torn : ℕ → (front rest : List ℕ) → List ℕ
torn cut front rest = take cut front ++ drop cut rest

-- document 01's four labels, and the same without 8
abbrev pub old_image : List ℕ
old_image = ones (4 ∷ 3 ∷ 0 ∷ 13 ∷ 8 ∷ [])

abbrev pub new_image : List ℕ
new_image = ones (3 ∷ 0 ∷ 0 ∷ 13 ∷ 4 ∷ [])

unfoldable pub tears : List Example
tears =
    counting (torn 0 old_image new_image) 0 3
    -- 4, 0 0 13 4: the first 4 meets the other
    ∷ marked (torn 1 old_image new_image) 18
    -- 4 3 0, 13 4
    ∷ marked (torn 3 old_image new_image) 18
    -- 3, 3 0 13 8: the second 3 meets 13, 8 and then the first
    ∷ marked (torn 1 new_image old_image) 18
    -- 3 0, 0 13 8: 4 is lost, and the table sound
    ∷ counting (torn 2 new_image old_image) 0 3
    -- 4 3, 0 0 0: 4 meets an empty cell at the table's end
    ∷ marked (torn 2 old_image (empty_cells 5)) 17
    -- 0 0, 0 13 8
    ∷ counting (torn 2 (empty_cells 5) old_image) 0 2
    -- 4 3 0 13, 0: so does 4 here
    ∷ marked (torn 4 old_image (empty_cells 5)) 17
    -- 5 6 7, 8 9
    ∷ marked (torn 3 (ones (5 ∷ 6 ∷ 7 ∷ 0 ∷ 0 ∷ [])) (ones (0 ∷ 0 ∷ 0 ∷ 8 ∷ 9 ∷ []))) 4
    ∷ counting (torn 3 (ones (0 ∷ 0 ∷ 0 ∷ 8 ∷ 9 ∷ [])) (ones (5 ∷ 6 ∷ 7 ∷ 0 ∷ 0 ∷ []))) 0 0
    ∷ []

-- ---- one cell of document 01's table overwritten
unfoldable pub overwritten : List Example
overwritten =
    -- by 0: on the way of 3, on no way, on the ways of 3 and 8, on the ways of 4 and 3
    marked (set old_image 0 0) 17
    ∷ counting (set old_image 1 0) 0 3
    ∷ marked (set old_image 3 0) 17
    ∷ marked (set old_image 4 0) 17
    -- by a greater label: 9 meets 8, 5 is at home, 23 meets 13, 9 is at home, and the last empty cell is gone
    ∷ marked (set old_image 0 (one 9)) 18
    ∷ counting (set old_image 0 (one 5)) 0 4
    ∷ marked (set old_image 4 (one 23)) 18
    ∷ counting (set old_image 4 (one 9)) 0 4
    ∷ marked (set old_image 2 (one 7)) 4
    -- by a smaller label: 3 meets 1; 1 meets 3, which is greater, and then an empty cell; 2 meets an empty cell; 6 meets 3
    ∷ marked (set old_image 3 (one 1)) 18
    ∷ marked (set old_image 0 (one 1)) 17
    ∷ marked (set old_image 1 (one 2)) 17
    ∷ marked (set old_image 4 (one 6)) 18
    -- by a label that stands there
    ∷ marked (set old_image 0 (one 3)) 18
    ∷ marked (set old_image 0 (one 8)) 18
    ∷ marked (set old_image 4 (one 13)) 18
    -- by a price out of range, and in range
    ∷ marked (set old_image 4 (content 8 0)) 4
    ∷ marked (set old_image 4 (content 8 10000000)) 4
    ∷ marked (set old_image 4 (content 8 4294967295)) 4
    ∷ counting (set old_image 4 (content 8 9999999)) 0 4
    -- by a price without a label
    ∷ marked (set old_image 1 1) 4
    ∷ marked (set old_image 0 9999999) 4
    ∷ marked (set old_image 4 4294967295) 4
    ∷ []

-- ---- 4 comes before 17 and 18: a wrong cell behind the one that breaks the way rule, and before it; and a right one in its place
unfoldable pub wrong_cells : List Example
wrong_cells =
    marked (one 6 ∷ 0 ∷ 0 ∷ 0 ∷ content 9 0 ∷ []) 4
    ∷ marked (one 6 ∷ 0 ∷ 0 ∷ 0 ∷ one 9 ∷ []) 17
    ∷ marked (content 5 10000000 ∷ 0 ∷ one 6 ∷ 0 ∷ 0 ∷ []) 4
    ∷ marked (one 5 ∷ 0 ∷ one 6 ∷ 0 ∷ 0 ∷ []) 17
    ∷ marked (0 ∷ one 1 ∷ one 6 ∷ 0 ∷ content 9 10000000 ∷ []) 4
    ∷ marked (0 ∷ one 1 ∷ one 6 ∷ 0 ∷ one 9 ∷ []) 18
    ∷ marked (content 5 0 ∷ 0 ∷ 0 ∷ one 8 ∷ one 13 ∷ []) 4
    ∷ marked (one 5 ∷ 0 ∷ 0 ∷ one 8 ∷ one 13 ∷ []) 18
    -- a price without a label, off the way and on it
    ∷ marked (one 6 ∷ 0 ∷ 0 ∷ 0 ∷ 7 ∷ []) 4
    ∷ marked (7 ∷ 0 ∷ 0 ∷ one 8 ∷ one 13 ∷ []) 4
    ∷ marked (0 ∷ 0 ∷ 0 ∷ 7 ∷ one 3 ∷ []) 4
    -- the wrong cell is the one that breaks the rule, or the one that decides
    ∷ marked (content 6 0 ∷ 0 ∷ 0 ∷ 0 ∷ 0 ∷ []) 4
    ∷ marked (0 ∷ 0 ∷ 0 ∷ content 8 0 ∷ one 13 ∷ []) 4
    ∷ []

-- ---- the lowest-numbered cell decides: two that break the rule, in both orders
unfoldable pub lowest_cells : List Example
lowest_cells =
    -- 6 in cell 0 meets 0, 13 in cell 4 meets 8
    marked (ones (6 ∷ 0 ∷ 0 ∷ 8 ∷ 13 ∷ [])) 17
    -- 6 in cell 2 meets 1, 3 in cell 4 meets 0
    ∷ marked (ones (0 ∷ 1 ∷ 6 ∷ 0 ∷ 3 ∷ [])) 18
    -- the lowest one meets the higher cell: 4 in cell 0 the empty cell 4, 6 in cell 2 the label 1 in cell 1
    ∷ marked (ones (4 ∷ 1 ∷ 6 ∷ 0 ∷ 0 ∷ [])) 17
    -- 9 in cell 0 meets 4 in cell 4, 6 in cell 2 the empty cell 1
    ∷ marked (ones (9 ∷ 0 ∷ 6 ∷ 0 ∷ 4 ∷ [])) 18
    -- the lowest one has the shorter way: 5 in cell 1 meets the empty cell 0, 6 in cell 4 meets 5
    ∷ marked (ones (0 ∷ 5 ∷ 0 ∷ 0 ∷ 6 ∷ [])) 17
    -- and of three cells 5 in cell 0 meets 3, 3 in cell 2 the empty cell 1
    ∷ marked (ones (5 ∷ 0 ∷ 3 ∷ [])) 18
    -- a label does not meet itself: 6 stands at home; 8 meets only 13
    ∷ marked (ones (0 ∷ 6 ∷ 0 ∷ 0 ∷ 3 ∷ [])) 17
    ∷ counting (ones (0 ∷ 0 ∷ 0 ∷ 13 ∷ 8 ∷ [])) 0 2
    ∷ []

-- ---- the first content on the way that isn't greater decides: 8 in cell 0 or 1, by way of cells 3, 4 and 0
unfoldable pub first_met : List Example
first_met =
    -- 0, then a smaller label; a smaller label, then 0
    marked (ones (8 ∷ 0 ∷ 0 ∷ 0 ∷ 4 ∷ [])) 17
    ∷ marked (ones (8 ∷ 0 ∷ 0 ∷ 3 ∷ 0 ∷ [])) 18
    -- a greater label, then 0; then a smaller one; then a greater one
    ∷ marked (ones (8 ∷ 0 ∷ 0 ∷ 13 ∷ 0 ∷ [])) 17
    ∷ marked (ones (8 ∷ 0 ∷ 0 ∷ 13 ∷ 4 ∷ [])) 18
    ∷ counting (ones (8 ∷ 0 ∷ 0 ∷ 13 ∷ 9 ∷ [])) 0 3
    -- a smaller one or 0, then a greater one
    ∷ marked (ones (8 ∷ 0 ∷ 0 ∷ 3 ∷ 9 ∷ [])) 18
    ∷ marked (ones (8 ∷ 0 ∷ 0 ∷ 0 ∷ 9 ∷ [])) 17
    -- a greater one, then 0 and 5; then 4 and 0
    ∷ marked (ones (5 ∷ 8 ∷ 0 ∷ 13 ∷ 0 ∷ [])) 17
    ∷ marked (ones (0 ∷ 8 ∷ 0 ∷ 13 ∷ 4 ∷ [])) 18
    -- its own label, whatever the prices; alone, and behind a greater one
    ∷ marked (0 ∷ 0 ∷ 0 ∷ content 3 2 ∷ content 3 1 ∷ []) 18
    ∷ marked (0 ∷ 0 ∷ 0 ∷ content 3 1 ∷ content 3 2 ∷ []) 18
    ∷ marked (content 3 1 ∷ 0 ∷ 0 ∷ one 13 ∷ content 3 2 ∷ []) 18
    ∷ []

-- ---- across the wrap
unfoldable pub wraps : List Example
wraps =
    -- 9 in cell 1, by way of cells 4 and 0: an empty cell at the table's end, and at its start
    marked (ones (10 ∷ 9 ∷ 0 ∷ 0 ∷ 0 ∷ [])) 17
    ∷ marked (ones (0 ∷ 9 ∷ 0 ∷ 0 ∷ 14 ∷ [])) 17
    -- a smaller label there
    ∷ marked (ones (10 ∷ 9 ∷ 0 ∷ 0 ∷ 4 ∷ [])) 18
    ∷ marked (ones (5 ∷ 9 ∷ 0 ∷ 0 ∷ 14 ∷ [])) 18
    ∷ counting (ones (10 ∷ 9 ∷ 0 ∷ 0 ∷ 14 ∷ [])) 0 3
    -- in cell 0
    ∷ marked (ones (4 ∷ 0 ∷ 0 ∷ 0 ∷ 0 ∷ [])) 17
    ∷ marked (ones (9 ∷ 0 ∷ 0 ∷ 0 ∷ 4 ∷ [])) 18
    ∷ counting (ones (4 ∷ 0 ∷ 0 ∷ 0 ∷ 9 ∷ [])) 0 2
    -- the greatest label, whose home is 0 as is that of 4294967290
    ∷ counting (ones (4294967295 ∷ 4294967290 ∷ 0 ∷ 0 ∷ 0 ∷ [])) 0 2
    ∷ marked (ones (4294967290 ∷ 4294967295 ∷ 0 ∷ 0 ∷ 0 ∷ [])) 18
    ∷ marked (ones (4294967295 ∷ 4294967295 ∷ 0 ∷ 0 ∷ 0 ∷ [])) 18
    ∷ marked (ones (0 ∷ 4294967295 ∷ 0 ∷ 0 ∷ 0 ∷ [])) 17
    ∷ marked (content 4294967295 4294967295 ∷ 0 ∷ 0 ∷ 0 ∷ 0 ∷ []) 4
    ∷ []

-- ---- longer tables, longer ways and greater numbers
-- eight cells: 93, 85, 77, 69, 61 and 53 have the home 5, and stand there from cell 5 round to cell 2
abbrev pub round : List ℕ
round = ones (69 ∷ 61 ∷ 53 ∷ 0 ∷ 0 ∷ 93 ∷ 85 ∷ 77 ∷ [])

unfoldable pub wider : List Example
wider =
    counting round 0 6
    -- 53 meets four greater labels, and then 0 or a smaller one
    ∷ marked (set round 1 0) 17
    ∷ marked (set round 1 (one 45)) 18
    -- 66 cells: 64 in cell 65 meets 0, 130 meets 64; and a lower-numbered cell of the other kind
    ∷ marked (replicate 65 0 ++ one 64 ∷ []) 17
    ∷ marked (replicate 64 0 ++ ones (64 ∷ 130 ∷ [])) 18
    ∷ marked (0 ∷ one 66 ∷ replicate 62 0 ++ ones (64 ∷ 130 ∷ [])) 17
    ∷ marked (one 66 ∷ one 132 ∷ replicate 63 0 ++ one 64 ∷ []) 18
    -- labels that part in their high bits alone, homes in cell 0
    ∷ counting (ones (2147483650 ∷ 5 ∷ 0 ∷ 0 ∷ 0 ∷ [])) 0 2
    ∷ marked (ones (5 ∷ 2147483650 ∷ 0 ∷ 0 ∷ 0 ∷ [])) 18
    ∷ counting (ones (65540 ∷ 5 ∷ 0 ∷ 0 ∷ 0 ∷ [])) 0 2
    ∷ marked (ones (5 ∷ 65540 ∷ 0 ∷ 0 ∷ 0 ∷ [])) 18
    -- prices whose low bits alone are in range
    ∷ marked (set old_image 4 (content 8 16777217)) 4
    ∷ marked (set old_image 4 (content 8 2147483649)) 4
    -- two out of place at one home: the lower-numbered 10 meets 15 and then 0, the greater 15 behind it meets 15
    ∷ marked (ones (15 ∷ 0 ∷ 10 ∷ 0 ∷ 15 ∷ [])) 17
    ∷ []

-- ---- in the place of 4
unfoldable pub places : List Example
places =
    -- behind 1, 2 and 3
    counting (one 1 ∷ empty_cells 8192) 1 0
    ∷ barred 1 1 (one 1 ∷ empty_cells 8192) 1
    ∷ counting (one 1 ∷ one 8194 ∷ empty_cells 8191) 1 0
    ∷ barred 2 0 gapped 2
    ∷ barred 2 17 disordered 2
    ∷ barred 0 3 disordered 3
    ∷ barred 4 3 gapped 3
    -- behind 16
    ∷ barred_in three_lines 1 1 gapped four_wrong 16
    ∷ barred_in three_lines 1 1 disordered four_wrong 16
    ∷ barred_in three_lines 1 1 full four_wrong 16
    ∷ barred_in three_lines 1 1 (0 ∷ 7 ∷ []) four_wrong 16
    ∷ barred_in three_lines 1 1 (set old_image 4 (content 8 0)) four_wrong 16
    -- before the lines' 7, 24, 14 and 6
    ∷ barred_in three_lines 1 1 gapped three_wrong 17
    ∷ barred_in three_lines 1 1 disordered three_wrong 18
    ∷ barred_in three_lines 1 1 full three_wrong 4
    ∷ bars gapped (one_line 0 1 0) 17
    ∷ bars gapped (one_line 4000000000 1 0) 17
    ∷ bars gapped (one_line 5 0 0) 17
    ∷ bars gapped (one_line 5 1 2) 17
    ∷ bars disordered (one_line 0 1 0) 18
    ∷ bars disordered (one_line 4000000000 1 0) 18
    ∷ bars disordered (one_line 5 0 0) 18
    ∷ bars disordered (one_line 5 1 2) 18
    ∷ bars full (one_line 0 1 0) 4
    ∷ bars full (one_line 4000000000 1 0) 4
    -- before 9
    ∷ bars gapped (at_ones (1 ∷ 2 ∷ 3 ∷ 4 ∷ [])) 17
    ∷ bars disordered (at_ones (1 ∷ 2 ∷ 3 ∷ [])) 18
    ∷ bars full [] 4
    -- with good lines, and without
    ∷ bars gapped (one_line 5 1 0) 17
    ∷ bars disordered (one_line 5 1 0) 18
    ∷ barred 1 16 gapped 17
    ∷ barred 1 16 disordered 18
    -- kinds 2 and 3 read no list
    ∷ barred_in three_lines 2 1 gapped four_wrong 17
    ∷ barred_in three_lines 3 1 gapped four_wrong 17
    ∷ barred_in three_lines 2 1 disordered four_wrong 18
    ∷ barred_in three_lines 3 1 disordered four_wrong 18
    -- count gives none, and list keeps the lent list, be it long enough or too short (12)
    ∷ counting gapped 17 0
    ∷ counting disordered 18 0
    ∷ counting full 4 0
    ∷ unlisted gapped (70 ∷ 71 ∷ 72 ∷ []) 17
    ∷ unlisted gapped [] 17
    ∷ unlisted disordered (70 ∷ 71 ∷ 72 ∷ []) 18
    ∷ unlisted disordered (70 ∷ []) 18
    ∷ unlisted full (70 ∷ 71 ∷ 72 ∷ 73 ∷ 74 ∷ []) 4
    ∷ []

abbrev pub repairs : List Example
repairs = papers ++ tears ++ overwritten ++ wrong_cells ++ lowest_cells ++ first_met ++ wraps ++ wider ++ places
