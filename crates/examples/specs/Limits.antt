-- Openings without orders, check, count and list at the limits; refusals in their sequence. (Openings with orders: Orders.)
use Rattle.std.specs.Prelude.{true, false, List, [], ◌∷◌, ◌++◌, ℕ, length, replicate}
use Rattle.prices.specs.Contents.{content}
use Rattle.activities.specs.declared.Activity.TheVariants.{Reading}
use Rattle.rule.specs.Schedules.{one, ones}
use Rattle.state.specs.Model.{gateway}
use Rattle.examples.specs.Forms.{Example, word, stepping, passing, counting, listing, opening, empties, refusing, phase, all_idle, handed_back, alone}

-- an accepted opening, without orders
abbrev pub opens : (k m : ℕ) (table : List ℕ) → Example
opens k m t = opening gateway k m t [] 0 (phase k (length t) m false all_idle)

-- a refused one
abbrev pub barred : (k m : ℕ) (table : List ℕ) (number : ℕ) → Example
barred k m t r = opening gateway k m t [] r handed_back

-- lengths 1 and 8,193 get 1; 2 and 8,192 open
unfoldable pub lengths : List Example
lengths = empties 0 1 ∷ empties 1 1 ∷ empties 2 0 ∷ empties 8192 0 ∷ empties 8193 1 ∷ []

unfoldable pub openings : List Example
openings =
    -- counts 0 and 17 get 2; 1 and 16 open
    barred 2 0 (ones (0 ∷ 7 ∷ [])) 2
    ∷ opens 2 1 (ones (0 ∷ 7 ∷ []))
    ∷ opens 2 16 (ones (0 ∷ 7 ∷ []))
    ∷ barred 2 17 (ones (0 ∷ 7 ∷ [])) 2
    -- kinds 1, 2 and 3 open
    ∷ barred 0 3 (ones (0 ∷ 6 ∷ 0 ∷ 0 ∷ 9 ∷ [])) 3
    ∷ opens 1 3 (ones (0 ∷ 6 ∷ 0 ∷ 0 ∷ 9 ∷ []))
    ∷ opens 2 3 (ones (0 ∷ 6 ∷ 0 ∷ 0 ∷ 9 ∷ []))
    ∷ opens 3 3 (ones (0 ∷ 6 ∷ 0 ∷ 0 ∷ 9 ∷ []))
    ∷ barred 4 3 (ones (0 ∷ 6 ∷ 0 ∷ 0 ∷ 9 ∷ [])) 3
    -- first to apply wins: 1, 2, 3, and then that the table is not sound
    ∷ barred 0 0 (ones (3 ∷ [])) 1
    ∷ barred 4 17 (ones (0 ∷ 6 ∷ 0 ∷ [])) 2
    ∷ barred 4 16 (ones (0 ∷ 6 ∷ 0 ∷ [])) 3
    ∷ barred 3 16 (ones (0 ∷ 6 ∷ 0 ∷ [])) 17
    ∷ []

-- another table, no worker, shut and spoilt: 13, 11, 5, 6
unfoldable pub refused_turns : List Example
refused_turns =
    refusing (alone 2 5 (Reading (one 3) 3)) (ones (0 ∷ 0 ∷ 0 ∷ 3 ∷ [])) 0 5
    ∷ refusing (alone 2 5 (Reading (one 3) 3)) (ones (0 ∷ 0 ∷ 0 ∷ 3 ∷ 0 ∷ 0 ∷ [])) 0 5
    ∷ refusing (alone 2 5 (Reading (one 3) 3)) [] 0 5
    ∷ refusing (alone 2 5 (Reading (one 3) 3)) (ones (0 ∷ 0 ∷ 0 ∷ 3 ∷ [])) 1 5
    ∷ refusing (alone 2 5 (Reading (one 3) 3)) (ones (0 ∷ 0 ∷ 0 ∷ 3 ∷ 0 ∷ [])) 1 6
    ∷ refusing (phase 2 5 15 false all_idle) (ones (0 ∷ 0 ∷ 0 ∷ 3 ∷ 0 ∷ [])) 15 6
    ∷ refusing (phase 2 5 15 true all_idle) (ones (0 ∷ 0 ∷ 0 ∷ 3 ∷ 0 ∷ [])) 0 11
    ∷ refusing (phase 2 5 15 true all_idle) (ones (0 ∷ 0 ∷ 0 ∷ 3 ∷ [])) 16 11
    ∷ refusing (phase 2 5 17 true all_idle) (ones (0 ∷ 0 ∷ 0 ∷ 3 ∷ [])) 16 13
    ∷ []

-- ---- check, count and list
-- lists into `out`, which has this afterwards, with the keys at its front
abbrev pub lists : (table out after keys : List ℕ) → Example
lists t out u keys = listing t out 0 (length keys) u keys

-- a refused listing keeps the list, and the front part is empty
abbrev pub unlisted : (table out : List ℕ) (number : ℕ) → Example
unlisted t out r = listing t out r 0 out []

-- 66 cells with keys in the cells 1, 3, 63 and 65: the last group has two cells
abbrev pub two_groups : List ℕ
two_groups = ones (0 ∷ 1 ∷ 0 ∷ 3 ∷ []) ++ replicate 59 0 ++ ones (63 ∷ 0 ∷ 131 ∷ [])

-- 130 cells: labels in the cells 60 to 67 and 127 to 129, each in its home
abbrev pub three_groups : List ℕ
three_groups =
    replicate 60 0
    ++ ones (60 ∷ 61 ∷ 62 ∷ 63 ∷ 64 ∷ 65 ∷ 66 ∷ 67 ∷ [])
    ++ replicate 59 0
    ++ ones (127 ∷ 128 ∷ 129 ∷ [])

abbrev pub thirteen_places : List ℕ
thirteen_places = 70 ∷ 71 ∷ 72 ∷ 73 ∷ 74 ∷ 75 ∷ 76 ∷ 77 ∷ 78 ∷ 79 ∷ 80 ∷ 81 ∷ 82 ∷ []

unfoldable pub listings : List Example
listings =
    lists (ones (4 ∷ 3 ∷ 0 ∷ 13 ∷ 8 ∷ [])) (70 ∷ 71 ∷ 72 ∷ 73 ∷ 74 ∷ 75 ∷ []) (one 4 ∷ one 3 ∷ one 13 ∷ one 8 ∷ 74 ∷ 75 ∷ []) (ones (4 ∷ 3 ∷ 13 ∷ 8 ∷ []))
    -- a list just long enough, and one place too short: 12
    ∷ lists (ones (4 ∷ 3 ∷ 0 ∷ 13 ∷ 8 ∷ [])) (70 ∷ 71 ∷ 72 ∷ 73 ∷ []) (ones (4 ∷ 3 ∷ 13 ∷ 8 ∷ [])) (ones (4 ∷ 3 ∷ 13 ∷ 8 ∷ []))
    ∷ unlisted (ones (4 ∷ 3 ∷ 0 ∷ 13 ∷ 8 ∷ [])) (70 ∷ 71 ∷ 72 ∷ []) 12
    -- no labels
    ∷ lists (ones (0 ∷ 0 ∷ 0 ∷ [])) (70 ∷ []) (70 ∷ []) []
    ∷ lists (ones (0 ∷ 0 ∷ 0 ∷ [])) [] [] []
    -- not sound, also where the list is too short; length 1: 1, also where the table is not sound
    ∷ unlisted (ones (0 ∷ 0 ∷ 0 ∷ 8 ∷ 13 ∷ [])) (70 ∷ 71 ∷ 72 ∷ []) 18
    ∷ unlisted (ones (0 ∷ 0 ∷ 0 ∷ 8 ∷ 13 ∷ [])) (70 ∷ []) 18
    ∷ unlisted (ones (0 ∷ [])) (70 ∷ []) 1
    ∷ unlisted (ones (7 ∷ [])) [] 1
    ∷ unlisted [] (70 ∷ []) 1
    -- two groups
    ∷ lists two_groups (70 ∷ 71 ∷ 72 ∷ 73 ∷ 74 ∷ []) (one 1 ∷ one 3 ∷ one 63 ∷ one 131 ∷ 74 ∷ []) (ones (1 ∷ 3 ∷ 63 ∷ 131 ∷ []))
    ∷ unlisted two_groups (70 ∷ 71 ∷ 72 ∷ []) 12
    -- three groups
    ∷ lists three_groups thirteen_places
    (ones (60 ∷ 61 ∷ 62 ∷ 63 ∷ 64 ∷ 65 ∷ 66 ∷ 67 ∷ 127 ∷ 128 ∷ 129 ∷ []) ++ 81 ∷ 82 ∷ [])
    (ones (60 ∷ 61 ∷ 62 ∷ 63 ∷ 64 ∷ 65 ∷ 66 ∷ 67 ∷ 127 ∷ 128 ∷ 129 ∷ []))
    -- check and count
    ∷ counting (ones (4 ∷ 3 ∷ 0 ∷ 13 ∷ 8 ∷ [])) 0 4
    ∷ counting (ones (0 ∷ 7 ∷ [])) 0 1
    ∷ counting two_groups 0 4
    ∷ counting (ones (7 ∷ 0 ∷ [])) 17 0
    ∷ counting (ones (8 ∷ 7 ∷ [])) 4 0
    ∷ counting (ones (7 ∷ [])) 1 0
    -- occupancy words and places: keys in the cells 0, 1 and 3; a word's highest bit is cell 63; bits past the table are 0
    ∷ word (ones (4 ∷ 5 ∷ 0 ∷ 3 ∷ 0 ∷ [])) 0 11 0
    ∷ word (ones (4 ∷ 5 ∷ 0 ∷ 3 ∷ 0 ∷ [])) 1 0 3
    ∷ word two_groups 0 9223372036854775818 0
    ∷ word two_groups 1 2 3
    ∷ word two_groups 2 0 4
    ∷ word three_groups 0 17293822569102704640 0
    ∷ word three_groups 1 9223372036854775823 4
    ∷ word three_groups 2 3 9
    ∷ word three_groups 3 0 11
    -- one group: in cell order, with places behind and with just enough; no labels, no cells, no places; the first cell and the last alone; a cell with
    -- label 0 is passed over
    ∷ stepping (ones (4 ∷ 3 ∷ 0 ∷ 13 ∷ 8 ∷ [])) (70 ∷ 71 ∷ 72 ∷ 73 ∷ 74 ∷ 75 ∷ []) 4 (one 4 ∷ one 3 ∷ one 13 ∷ one 8 ∷ 74 ∷ 75 ∷ [])
    ∷ stepping (ones (13 ∷ 0 ∷ 0 ∷ 8 ∷ 0 ∷ [])) (70 ∷ 71 ∷ []) 2 (one 13 ∷ one 8 ∷ [])
    ∷ stepping (ones (0 ∷ 0 ∷ 0 ∷ [])) (70 ∷ 71 ∷ []) 0 (70 ∷ 71 ∷ [])
    ∷ stepping [] (70 ∷ []) 0 (70 ∷ [])
    ∷ stepping (ones (0 ∷ 0 ∷ [])) [] 0 []
    ∷ stepping (ones (7 ∷ 0 ∷ [])) (70 ∷ 71 ∷ []) 1 (one 7 ∷ 71 ∷ [])
    ∷ stepping (replicate 63 0 ++ ones (63 ∷ [])) (70 ∷ 71 ∷ []) 1 (one 63 ∷ 71 ∷ [])
    ∷ stepping (content 4 9 ∷ 5 ∷ content 3 0 ∷ 4294967295 ∷ []) (70 ∷ 71 ∷ 72 ∷ []) 2 (content 4 9 ∷ content 3 0 ∷ 72 ∷ [])
    -- the groups one after the other, each behind the earlier entries; a step past the last group changes nothing
    ∷ passing two_groups (70 ∷ 71 ∷ 72 ∷ 73 ∷ 74 ∷ []) 0 (70 ∷ 71 ∷ 72 ∷ 73 ∷ 74 ∷ [])
    ∷ passing two_groups (70 ∷ 71 ∷ 72 ∷ 73 ∷ 74 ∷ []) 1 (one 1 ∷ one 3 ∷ one 63 ∷ 73 ∷ 74 ∷ [])
    ∷ passing two_groups (70 ∷ 71 ∷ 72 ∷ 73 ∷ 74 ∷ []) 2 (one 1 ∷ one 3 ∷ one 63 ∷ one 131 ∷ 74 ∷ [])
    ∷ passing two_groups (70 ∷ 71 ∷ 72 ∷ 73 ∷ 74 ∷ []) 3 (one 1 ∷ one 3 ∷ one 63 ∷ one 131 ∷ 74 ∷ [])
    ∷ passing three_groups thirteen_places 2 (ones (60 ∷ 61 ∷ 62 ∷ 63 ∷ 64 ∷ 65 ∷ 66 ∷ 67 ∷ 127 ∷ []) ++ 79 ∷ 80 ∷ 81 ∷ 82 ∷ [])
    -- prices: the least and the greatest one, whole cells listed; a cell with label 0 is not taken, and makes a table unsound, as prices out of range do
    ∷ counting (0 ∷ content 7 1 ∷ []) 0 1
    ∷ counting (0 ∷ content 7 9999999 ∷ []) 0 1
    ∷ counting (0 ∷ content 7 0 ∷ []) 4 0
    ∷ counting (0 ∷ content 7 10000000 ∷ []) 4 0
    ∷ counting (0 ∷ 7 ∷ []) 4 0
    ∷ lists (0 ∷ 0 ∷ 0 ∷ content 8 9 ∷ content 3 7 ∷ []) (70 ∷ 71 ∷ 72 ∷ []) (content 8 9 ∷ content 3 7 ∷ 72 ∷ []) (content 8 9 ∷ content 3 7 ∷ [])
    ∷ lists (0 ∷ content 4294967295 9999999 ∷ []) (70 ∷ 71 ∷ []) (18446744069424584319 ∷ 71 ∷ []) (18446744069424584319 ∷ [])
    ∷ unlisted (0 ∷ 7 ∷ []) (70 ∷ 71 ∷ []) 4
    ∷ word (content 4 9 ∷ 5 ∷ 0 ∷ content 3 0 ∷ 4294967295 ∷ []) 0 9 0
    ∷ word (content 4 9 ∷ 5 ∷ 0 ∷ content 3 0 ∷ 4294967295 ∷ []) 1 0 2
    ∷ barred 1 1 (0 ∷ content 7 0 ∷ []) 4
    ∷ barred 2 1 (0 ∷ content 7 10000000 ∷ []) 4
    ∷ barred 3 1 (0 ∷ 7 ∷ []) 4
    ∷ opens 1 1 (0 ∷ 0 ∷ content 5 9999999 ∷ [])
    ∷ []

abbrev pub limits : List Example
limits = lengths ++ openings ++ refused_turns ++ listings
