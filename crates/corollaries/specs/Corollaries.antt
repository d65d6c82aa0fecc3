-- What the promises say of calls, turns and tables that are written out. Each is proved by its promise, with nothing left to assume, and not by
-- computing it: a premise that no caller can meet would be noticed here.
use Rattle.std.specs.Prelude.{◌≡◌, ◌≢◌, ◌⊎◌, true, false, List, [], ◌∷◌, ◌++◌, ℕ, zero, suc, ◌≤◌, ◌<◌, T, eqb, length, get_or, set, replicate, Ok}
use Rattle.std.specs.Int.Count as digits
use Rattle.ring.specs.Counting.{count}
use Rattle.layout.specs.Home.{modulo}
use Rattle.layout.specs.Layout.{In}
use Rattle.layout.specs.Sound.{Ordered}
use Rattle.homes.specs.Homes.{hash_of, plain, mixed, spread}
use Rattle.homes.specs.Promise.{Even, Odd}
use Rattle.homes.specs.declared.Hash.{Hash}
use Rattle.prices.specs.Contents.{label, price, content, cell_ok, SoundTable}
use Rattle.prices.specs.Priced.{labels, Least, priced_layout, without_labels}
use Rattle.flaws.specs.Flaws.{is_intact, meets_empty, meets_key}
use Rattle.flaws.specs.Promise.{Intact, Damaged, Breaks, Gapped, Disordered, FirstOnPath}
use Rattle.orders.specs.Orders.{order_with, blank}
use Rattle.orders.specs.declared.Order.{Order}
use Rattle.words.specs.Words.{occupied, filled, group, word_of, group_listed, groups_listed, stepped, passed}
use Rattle.activities.specs.declared.Activity.{Activity}
use Rattle.activities.specs.declared.Activity.TheVariants.{Idle, Reading, Replacing, WalkingBack, SeekingForward, SeekingBack}
use Rattle.rule.specs.declared.Answer.TheVariants.{WentOn, Finished, Price, No}
use Rattle.rule.specs.Events.{Event, Said}
use Rattle.rule.specs.Events as events
use Rattle.rule.specs.Schedules.{one, ones, steps}
use Rattle.rule.specs.Schedules as schedules
use Rattle.phases.specs.Promise.{most_steps, Right}
use Rattle.state.specs.Counts.{count_number, count_value}
use Rattle.state.specs.Model.{Model, gateway}
use Rattle.state.specs.Open.{open_call}
use Rattle.state.specs.Refusals.{reply_number}
use Rattle.state.specs.declared.Phase.{Phase}
use Rattle.state.specs.declared.Replied.{Replied}
use Rattle.protocol.specs.Bars.{doing}
use Rattle.protocol.specs.Calls.{close_call, order_call, turn_call, turn_table}
use Rattle.protocol.specs.IsWellFormed.{is_well_formed}
use Rattle.protocol.specs.Lines.{Good}
use Rattle.protocol.specs.Promise.{with_hash, Soundness, Taken}
use Rattle.protocol.specs.WellFormed.{Size, Crew, Kind}
use Rattle.tables.specs.Calls.{check_call, count_call, list_call, list_after, list_front}
use Rattle.history.specs.History.{Call, order, turn, close, after, after_lent}
use Rattle.history.specs.Promise.{Carried, present, OfLine}
use Rattle.examples.specs.Forms.{empty_cells, phase_by, phase, worker, all_idle, busy_by, busy_one, handed_back, line, handed, calls_of}
use Rattle.examples.specs.Forms.{Spoilt, Unspoilt}
use Rattle.examples.specs.Limits.{two_groups}
use Rattle.examples.specs.Orders.{one_line, wrong_lines}
use Rattle.examples.specs.Repairs.{gapped, disordered, full, torn, old_image, new_image}
use Rattle.examples.specs.Spreading.{six_less, six_less_image, golden, thrice, twice}
use Rattle.corollaries.specs.Altered.{three_keys}
use Rattle.examples.specs.Examples.{four, at_prices, sheet_items, sheet_puts_in, looks_up, any_line}

-- ---- lists of calls
-- r rounds of turns of the workers ws, put before further calls
unfoldable pub turns_of : List ℕ → List Call → List Call
turns_of [] cs = cs
turns_of (w ∷ ws) cs = turn w ∷ turns_of ws cs

unfoldable pub rounds : ℕ → List ℕ → List Call → List Call
rounds zero ws cs = cs
rounds (suc r) ws cs = turns_of ws (rounds r ws cs)

-- 13 and 8 taken out by two workers turn by turn, with a refused order; and by one worker, 8 first and once more, with other line numbers, which are not
-- read
abbrev pub together : List Call
together = handed 0 13 ∷ handed 1 8 ∷ handed 1 4 ∷ rounds 16 (0 ∷ 1 ∷ []) (close ∷ [])

abbrev pub in_sequence : List Call
in_sequence = handed 0 8 ∷ rounds 11 (0 ∷ []) (order 5 0 13 ∷ rounds 9 (0 ∷ []) (order 7 0 8 ∷ rounds 2 (0 ∷ []) (close ∷ [])))

-- 13 ordered out, and no turn yet
abbrev pub one_ordered : List Call
one_ordered = handed 0 13 ∷ []

-- the sheet's first two lines put in, some turns only
abbrev pub half_put_in : List Call
half_put_in = line 0 ∷ line 1 ∷ rounds 3 (0 ∷ 1 ∷ []) []

-- the sheet's labels put in by three workers, by another list
abbrev pub three_items : List Order
three_items = order_with 13 1 0 ∷ order_with 4 1 1 ∷ order_with 3 1 2 ∷ order_with 8 1 2 ∷ []

abbrev pub three_put_in : List Call
three_put_in = line 0 ∷ line 1 ∷ line 2 ∷ line 3 ∷ rounds 7 (2 ∷ 1 ∷ 0 ∷ []) (line 3 ∷ rounds 9 (2 ∷ []) (close ∷ []))

-- ---- prices: 8 at 3 and 3 at 7 are the lowest ordered, by two workers and by three, with other higher prices; 4 is in the one list and never ordered
abbrev pub price_items : List Order
price_items = order_with 8 5 0 ∷ order_with 8 3 1 ∷ order_with 3 7 0 ∷ []

abbrev pub two_price : List Call
two_price = line 0 ∷ line 1 ∷ rounds 5 (0 ∷ 1 ∷ []) (line 2 ∷ rounds 4 (0 ∷ []) (close ∷ []))

abbrev pub more_price_items : List Order
more_price_items = order_with 4 1 0 ∷ order_with 3 7 0 ∷ order_with 8 3 1 ∷ order_with 3 9 2 ∷ order_with 8 9999999 1 ∷ []

abbrev pub three_price : List Call
three_price = line 1 ∷ line 2 ∷ line 3 ∷ rounds 8 (2 ∷ 0 ∷ 1 ∷ []) (line 4 ∷ rounds 2 (1 ∷ []) (close ∷ []))

-- some turns only
abbrev pub half_priced : List Call
half_priced = line 0 ∷ line 1 ∷ rounds 2 (0 ∷ 1 ∷ []) []

-- onto 8 at 9 and 3 at 7: a higher price for 8, a lower one for 3
abbrev pub reprice_items : List Order
reprice_items = order_with 8 10 0 ∷ order_with 3 2 1 ∷ []

abbrev pub repriced : List Call
repriced = line 0 ∷ line 1 ∷ rounds 4 (0 ∷ 1 ∷ []) (close ∷ [])

-- 8 taken out of it, and half taken out; looked up in it
abbrev pub taken_out : List Call
taken_out = handed 0 8 ∷ rounds 7 (0 ∷ []) (close ∷ [])

abbrev pub half_taken : List Call
half_taken = handed 0 8 ∷ rounds 4 (0 ∷ []) []

-- 13, 8 and 3, and 13 taken out
abbrev pub with_thirteen : List ℕ
with_thirteen = content 3 7 ∷ 0 ∷ 0 ∷ content 13 4 ∷ content 8 9 ∷ []

abbrev pub thirteen_out : List Call
thirteen_out = handed 0 13 ∷ rounds 10 (0 ∷ []) (close ∷ [])

-- 8 at 9 and 3 at 7 put in
abbrev pub the_price_items : List Order
the_price_items = order_with 3 7 0 ∷ order_with 8 9 1 ∷ []

abbrev pub the_prices : List Call
the_prices = line 0 ∷ line 1 ∷ rounds 6 (0 ∷ 1 ∷ []) (close ∷ [])

-- the i-th look-up answered, the last one first
abbrev pub saying_at : List Said → ℕ → Said
saying_at said i = get_or said i (record { wanted = 0; found = false; price = 0 })

-- ---- lists of events, which know no calls: 13 and 8 again; a delete goes by labels alone
abbrev pub events_together : List Event
events_together = events.order 0 (one 13) ∷ events.order 1 (one 8) ∷ schedules.rounds 2 16

abbrev pub events_in_sequence : List Event
events_in_sequence = events.order 0 (content 8 5) ∷ steps 11 0 (events.order 0 (content 13 0) ∷ steps 9 0 [])

-- ---- two phase states, alike in kind and length, and in the record of worker 1 of the one and worker 7 of the other
abbrev pub few_workers : Phase
few_workers = busy_one 2 5 2 1 (Replacing (one 8) 4 0 (one 4))

abbrev pub many_workers : Phase
many_workers = phase 2 5 16 false (set (set all_idle 0 (worker (Reading (one 3) 3))) 7 (worker (Replacing (one 8) 4 0 (one 4))))

-- a table that is like document 01's in cell 4 alone
abbrev pub altered : List ℕ
altered = ones (1 ∷ 2 ∷ 9 ∷ 0 ∷ 8 ∷ [])

-- and ones that are unlike it there: another label, the same label at another price
abbrev pub overwritten : List ℕ
overwritten = ones (4 ∷ 3 ∷ 0 ∷ 13 ∷ 9 ∷ [])

abbrev pub overpriced : List ℕ
overpriced = one 4 ∷ one 3 ∷ 0 ∷ one 13 ∷ content 8 2 ∷ []

-- a put-in shift just opened on five empty cells for the sheet's items
abbrev pub just_opened : Phase
just_opened = (open_call gateway 1 2 plain (empty_cells 5) sheet_items).phase

-- an order call on it by the first line of an altered list
abbrev pub first_line : List Order → Replied
first_line os = order_call gateway just_opened os 0 0 0

-- a bad worker before a blank label
abbrev pub worker_before_blank : List Order
worker_before_blank = order_with 5 1 2 ∷ order_with 0 1 0 ∷ []

-- a worker about to put in 13 over 8 in cell 3; and about to replace 8 at 9 by a lower price
abbrev pub putting_in : Phase
putting_in = busy_one 1 5 2 0 (Replacing (one 13) 3 3 (one 8))

abbrev pub repricing : Phase
repricing = busy_one 1 5 2 0 (Replacing (content 8 2) 3 3 (content 8 9))

-- a worker that puts in 8 at a price and reads cell 3
abbrev pub meeting : ℕ → Phase
meeting cents = busy_one 1 5 2 0 (Reading (content 8 cents) 3)

-- a worker about to replace 8 at 9 by a content without a label
abbrev pub emptying : Phase
emptying = busy_one 2 5 2 0 (Replacing (content 8 9) 3 4 6)

-- a worker that looks up v and reads cell i
abbrev pub looking_up : ℕ → ℕ → Phase
looking_up v i = busy_one 3 5 2 0 (Reading (content v 0) i)

-- a record made by an opening and later calls, each on another table or list
abbrev pub made_on_others : Phase
made_on_others =
    let p = (order_call gateway (turn_call gateway (order_call gateway just_opened sheet_items 0 0 0).phase four 0).phase (one_line 8 9 1) 0 0 0).phase in
    (close_call gateway (turn_call gateway p altered 1).phase).phase

-- document 01's four labels in some order, some also at higher prices, and a list to list them into
abbrev pub four_keys : List ℕ
four_keys = one 13 ∷ content 4 9 ∷ one 4 ∷ one 8 ∷ one 3 ∷ content 3 2 ∷ []

abbrev pub six_places : List ℕ
six_places = 70 ∷ 71 ∷ 72 ∷ 73 ∷ 74 ∷ 75 ∷ []

-- two labels in order, which share their home
abbrev pub two_in_order : List ℕ
two_in_order = ones (0 ∷ 0 ∷ 0 ∷ 13 ∷ 8 ∷ [])

-- ---- what follows
pub record Corollaries : Type 0 where
  -- two lists of calls so closed leave equal tables, whatever else stood in their lists of orders
  pub take_out : (after gateway 2 2 plain four [] together).table ≡ (after gateway 2 1 plain four [] in_sequence).table
  pub put_in : (after gateway 1 2 plain (empty_cells 5) sheet_items (calls_of sheet_puts_in)).table
      ≡ (after gateway 1 3 plain (empty_cells 5) three_items three_put_in).table
  pub one_end : (events.after 2 5 2 label (spread plain 5) four events_together).table
      ≡ (events.after 2 5 1 label (spread plain 5) four events_in_sequence).table
  -- also with other higher prices beside the same least ones
  pub put_in_prices : (after gateway 1 2 plain (empty_cells 5) price_items two_price).table
      ≡ (after gateway 1 3 plain (empty_cells 5) more_price_items three_price).table
  -- and of whatever kinds, if they leave the same labels with the same least prices
  pub fixed : (after gateway 2 1 plain with_thirteen [] thirteen_out).table ≡ (after gateway 1 2 plain (empty_cells 5) the_price_items the_prices).table
  -- a closed phase leaves the layout of the labels at opening without every label taken out
  pub laid_out : (after gateway 2 2 plain four [] together).table
      ≡ priced_layout 5 label (spread plain 5) (without_labels label (content 8 0 ∷ content 13 0 ∷ []) four)
  -- it is sound again, also in the documents' words, and closed or not its cells are empty or have a label with a right price
  pub sound : SoundTable 5 (spread plain 5) (after gateway 1 2 plain (empty_cells 5) price_items two_price).table
  pub sound_in_words : Soundness gateway plain (after gateway 1 2 plain (empty_cells 5) price_items two_price).table
  pub right_cells : (j : ℕ) → T (cell_ok (get_or (after gateway 1 2 plain (empty_cells 5) price_items half_priced).table j 0))
  -- put in: of each label the least price among that at opening and those ordered stands, and no other
  pub cheapest : In (content 8 3) (after gateway 1 2 plain (empty_cells 5) price_items two_price).table
  pub not_dearer : In (content 8 5) (after gateway 1 2 plain (empty_cells 5) price_items two_price).table → ⊥
  pub opening_price : In (content 8 9) (after gateway 1 2 plain at_prices reprice_items repriced).table
  pub lower_price : In (content 3 2) (after gateway 1 2 plain at_prices reprice_items repriced).table
  pub price_gone : In (content 3 7) (after gateway 1 2 plain at_prices reprice_items repriced).table → ⊥
  -- what a refused opening hands back stays, whatever is called
  pub hands_back : (os : List Order) (cs : List Call) → (after gateway 4 1 plain four os cs).phase ≡ handed_back
  pub full_handed_back : (cs : List Call) → (after gateway 1 1 plain (ones (0 ∷ 7 ∷ [])) (one_line 4 1 0) cs).phase ≡ handed_back
  -- calls without an accepted order keep the table
  pub kept : (after gateway 2 2 plain four [] (turn 0 ∷ handed 1 0 ∷ handed 2 8 ∷ turn 1 ∷ [])).table ≡ four
  -- a shift opened and closed keeps its table
  pub at_once : (after gateway 2 2 plain four [] (close ∷ [])).closed ≡ true
  pub at_once_kept : (after gateway 2 2 plain four [] (close ∷ [])).table ≡ four
  -- the counted turns are those not refused whose worker has an unfinished order, and are fewer than the formula
  pub counts : (after gateway 2 2 plain four [] together).counted ≡ 27
  pub bounded : (after gateway 2 2 plain four [] together).counted < most_steps 5 2 2
  -- an accepted close shuts the record
  pub shut : (after gateway 2 2 plain four [] together).phase.shut ≡ true
  -- a worker is idle exactly if it has no unfinished order
  pub working : doing (after gateway 2 2 plain four [] one_ordered).phase 0 ≢ Idle
  pub resting : doing (after gateway 2 2 plain four [] one_ordered).phase 1 ≡ Idle
  -- what was opened stays, and no record is ever spoilt
  pub numbers : (after gateway 2 2 plain four [] together).phase.crew ≡ 2
  pub formed : is_well_formed gateway (after gateway 2 2 plain four [] together).phase ≡ true
  -- what was ordered has a price that a label can have
  pub acceptable : (y : ℕ) → In y (after gateway 1 2 plain (empty_cells 5) price_items two_price).ordered → (1 ≤ price y) × (price y ≤ 9999999)
  -- put in: it is of a line of the list; and until the close every line is accepted whenever its worker is idle, also one that was given before
  pub listed_only : (y : ℕ) → In y (after gateway 1 2 plain (empty_cells 5) price_items two_price).ordered → OfLine price_items y
  pub accepts : (w v : ℕ) → (order_call gateway (after gateway 1 2 plain (empty_cells 5) sheet_items half_put_in).phase sheet_items 2 w v).reply ≡ Ok tt
  pub accepts_again : (w v : ℕ) → (order_call gateway (after gateway 1 2 plain (empty_cells 5) sheet_items half_put_in).phase sheet_items 0 w v).reply ≡ Ok tt
  -- put in, between two turns: every label's way holds only greater labels; the table's and the carried ones are those at opening and those ordered
  pub ordering : Ordered 5 (spread plain 5) (labels label (after gateway 1 2 plain (empty_cells 5) sheet_items half_put_in).table)
  pub union : In 3 (labels label (after gateway 1 2 plain (empty_cells 5) sheet_items half_put_in).table)
      ⊎ Carried (after gateway 1 2 plain (empty_cells 5) sheet_items half_put_in) 3
  -- with the least price among those, and none that was neither there nor ordered
  pub least_there : Least label (present (after gateway 1 2 plain (empty_cells 5) price_items half_priced)) (content 8 3)
  pub none_else : In (content 8 4) (present (after gateway 1 2 plain (empty_cells 5) price_items half_priced)) → ⊥
  -- take out: a label at opening that is in no accepted order is in the table, at its price and at no other; also between two turns
  pub untouched : In (one 3) (after gateway 2 2 plain four [] together).table
  pub keeps_price : In (content 3 7) (after gateway 2 1 plain at_prices [] half_taken).table
  pub none_new : In (content 3 8) (after gateway 2 1 plain at_prices [] half_taken).table → ⊥
  -- closed, it has those and nothing else
  pub stays : In (content 3 7) (after gateway 2 1 plain at_prices [] taken_out).table
  pub gone : In (content 8 9) (after gateway 2 1 plain at_prices [] taken_out).table → ⊥
  -- look up: the table is unchanged, a price is said exactly for labels that stand in it at that price, and each order has its answer
  pub unchanged : (after gateway 3 2 plain four [] (calls_of looks_up)).table ≡ four
  pub right : Right label four (after gateway 3 2 plain four [] (calls_of looks_up)).said
  pub price_said : (saying_at (after gateway 3 2 plain at_prices wrong_lines (calls_of any_line)).said 1).price ≡ 7
  pub no_said : T (saying_at (after gateway 3 2 plain at_prices wrong_lines (calls_of any_line)).said 0).found → ⊥
  pub each : count (λ (a : Said). eqb (label a.wanted) 4) (after gateway 3 2 plain four [] (calls_of looks_up)).said ≡ 1
  -- two turns answer alike, and leave the worker's record and the cell alike; no other cell or worker's record changes
  pub replies : (turn_call gateway few_workers four 1).reply ≡ (turn_call gateway many_workers altered 7).reply
  pub records : doing (turn_call gateway few_workers four 1).phase 1 ≡ doing (turn_call gateway many_workers altered 7).phase 7
  pub cells : get_or (turn_table gateway few_workers four 1) 4 0 ≡ get_or (turn_table gateway many_workers altered 7) 4 0
  pub other_cells : (c : ℕ) → c ≢ 4 → get_or (turn_table gateway few_workers four 1) c 0 ≡ get_or four c 0
  pub other_workers : (w : ℕ) → w ≢ 1 → doing (turn_call gateway few_workers four 1).phase w ≡ doing few_workers w
  -- the one sound table with a set of labels and the least price of each is its layout
  pub one_layout : four ≡ priced_layout 5 label (spread plain 5) four_keys
  -- the check passes sound tables and no others; it refuses with 18, 17 and 4, the last also for a price; the count is that of the labels
  pub passes : reply_number (check_call gateway plain four) ≡ 0
  pub passed_sound : Soundness gateway plain at_prices
  pub refuses_disorder : reply_number (check_call gateway plain disordered) ≡ 18
  pub refuses_gap : reply_number (check_call gateway plain gapped) ≡ 17
  pub refuses_full : reply_number (check_call gateway plain full) ≡ 4
  pub refuses_price : reply_number (check_call gateway plain (0 ∷ 0 ∷ 0 ∷ content 8 10000000 ∷ 0 ∷ [])) ≡ 4
  pub count : count_value (count_call gateway plain four) ≡ 4
  -- the kinds of unsound: a test passes exactly where its sentence holds, and no table is both gapped and disordered
  pub intact_passes : is_intact disordered ≡ true
  pub gap_passes : meets_empty (spread plain 5) gapped ≡ true
  pub disorder_passes : meets_key (spread plain 5) disordered ≡ true
  pub intact_said : Intact two_in_order
  pub gap_said : Gapped (spread plain 5) (torn 2 old_image (empty_cells 5))
  pub disorder_said : Disordered (spread plain 5) (torn 1 old_image new_image)
  pub not_both : Disordered (spread plain 5) gapped → ⊥
  -- a table of no kind is sound, one of a kind is not
  pub no_kind : SoundTable 5 (spread plain 5) two_in_order
  pub no_kind_in_words : Soundness gateway plain two_in_order
  pub of_a_kind : Soundness gateway plain gapped → ⊥
  -- 8 in cell 0 meets 13 and then the empty cell 4: the first cell on its way with no greater label
  pub met_on_way : FirstOnPath 5 (spread plain 5) (8 ∷ 0 ∷ 0 ∷ 13 ∷ 0 ∷ []) 0 4
  pub broken_way : (s : ℕ) × Breaks 5 (spread plain 5) (8 ∷ 0 ∷ 0 ∷ 13 ∷ 0 ∷ []) 0 s
  -- a table without an empty cell is damaged, one with a price out of range too
  pub full_damaged : Damaged full
  pub priced_damaged : Damaged (0 ∷ 0 ∷ 0 ∷ content 8 10000000 ∷ 0 ∷ [])
  -- list fills the lent list and gives the front part; a list that is too short gets 12 and keeps its contents
  pub listed : get_or (list_after gateway plain four six_places) 2 0 ≡ one 13
  pub behind : get_or (list_after gateway plain four six_places) 4 0 ≡ 74
  pub front : get_or (list_front gateway plain four six_places) 2 0 ≡ one 13
  pub front_long : length (list_front gateway plain four six_places) ≡ 4
  pub short : count_number (list_call gateway plain four (70 ∷ 71 ∷ 72 ∷ [])) ≡ 12
  pub unlisted : list_after gateway plain four (70 ∷ 71 ∷ 72 ∷ []) ≡ 70 ∷ 71 ∷ 72 ∷ []
  -- the length check is by the count that count gives
  pub by_count : list_call gateway plain four six_places ≡ count_call gateway plain four
  pub short_by_count : count_number (list_call gateway plain four []) ≡ 12
  pub refused_by_count : list_call gateway plain gapped [] ≡ count_call gateway plain gapped
  -- the step for one group writes its entries at the front of what it is lent, keeps the places behind and gives their number
  pub step_writes : get_or (filled four six_places) 2 0 ≡ one 13
  pub step_keeps : get_or (filled four six_places) 4 0 ≡ 74
  pub step_long : length (filled four six_places) ≡ 6
  pub step_number : occupied four ≡ 4
  pub step_ones : digits.ones (word_of four) ≡ 4
  -- lent the list from the group's place on, it lists the group in its place; the steps for the groups one after the other list them all
  pub in_place : stepped two_groups 1 six_places ≡ group_listed two_groups 1 six_places
  pub one_pass : passed two_groups 1 six_places ≡ one 1 ∷ one 3 ∷ one 63 ∷ 73 ∷ 74 ∷ 75 ∷ []
  pub whole_pass : passed two_groups 2 six_places ≡ one 1 ∷ one 3 ∷ one 63 ∷ one 131 ∷ 74 ∷ 75 ∷ []
  -- groups listed in any order give the same list
  pub any_order : groups_listed two_groups (1 ∷ 0 ∷ 1 ∷ []) six_places ≡ one 1 ∷ one 3 ∷ one 63 ∷ one 131 ∷ 74 ∷ 75 ∷ []
  -- a group listed fills its own places and no others
  pub group_fills : get_or (group_listed two_groups 1 six_places) 3 0 ≡ one 131
  pub group_keeps : get_or (group_listed two_groups 1 six_places) 2 0 ≡ 72
  -- and so do several, here one twice; the places of the others are kept
  pub groups_fill : get_or (groups_listed two_groups (1 ∷ 1 ∷ []) six_places) 3 0 ≡ one 131
  pub groups_keep : get_or (groups_listed two_groups (1 ∷ 1 ∷ []) six_places) 2 0 ≡ 72
  pub groups_long : length (groups_listed two_groups (1 ∷ 1 ∷ []) six_places) ≡ 6
  -- the last group has the cells that are left
  pub last_group : length (group two_groups 1) ≡ 2

-- ---- and of single calls
pub record CallCorollaries : Type 0 where
  -- an accepted opening gives a record as asked for, all workers idle
  pub opened_crew : just_opened.crew ≡ 2
  pub opened_cells : just_opened.length ≡ 5
  pub opened_idle : doing just_opened 1 ≡ Idle
  -- a refused one hands back a shut record of length 2
  pub refused_shut : (open_call gateway 4 1 plain four wrong_lines).phase.shut ≡ true
  pub refused_cells : (open_call gateway 4 1 plain four wrong_lines).phase.length ≡ 2
  -- an accepted one had a sound table; others are refused with 17 and 18 before the lines are read
  pub opened_sound : Soundness gateway plain at_prices
  -- and on a sound table it is refused neither with 4 nor with 17 or 18, here with 6
  pub not_unsound : (reply_number (open_call gateway 1 2 plain (empty_cells 5) worker_before_blank).reply ≢ 4)
      × (reply_number (open_call gateway 1 2 plain (empty_cells 5) worker_before_blank).reply ≢ 17)
      × (reply_number (open_call gateway 1 2 plain (empty_cells 5) worker_before_blank).reply ≢ 18)
  pub gap_refused : reply_number (open_call gateway 1 2 plain gapped wrong_lines).reply ≡ 17
  pub disorder_refused : reply_number (open_call gateway 1 2 plain disordered wrong_lines).reply ≡ 18
  pub looks_refused : reply_number (open_call gateway 3 2 plain disordered wrong_lines).reply ≡ 18
  -- 2 cells with {7} open for 7 alone; another label gets 9
  pub room : reply_number (open_call gateway 1 1 plain (ones (0 ∷ 7 ∷ [])) (one_line 7 1 0)).reply ≡ 0
  pub full : reply_number (open_call gateway 1 1 plain (ones (0 ∷ 7 ∷ [])) (one_line 4 1 0)).reply ≡ 9
  -- the earliest line decides
  pub earliest : reply_number (open_call gateway 1 2 plain (empty_cells 5) worker_before_blank).reply ≡ 6
  -- a list of 65,536 lines opens, a longer one gets 16 whatever its lines are
  pub longest : (n : ℕ) → n ≤ 65536 → reply_number (open_call gateway 1 2 plain (empty_cells 5) (replicate n (order_with 3 1 0))).reply ≡ 0
  pub too_long : (n : ℕ) → 65536 < n → (o : Order) → reply_number (open_call gateway 1 2 plain (empty_cells 5) (replicate n o)).reply ≡ 16
  -- a put-in shift opens with good lines alone; the other kinds read no list
  pub lines : (i : ℕ) → i < 4 → Good 2 (get_or sheet_items i blank)
  pub list_unread : open_call gateway 2 2 plain four wrong_lines ≡ open_call gateway 2 2 plain four []
  -- an order starts its worker at the label's home, in a put-in shift with the price, else without; it leaves the other worker
  pub starts_priced : doing (first_line (one_line 3 7 0)).phase 0 ≡ Reading (content 3 7) 3
  pub starts : doing (order_call gateway few_workers [] 7 0 9).phase 0 ≡ Reading (content 9 0) 4
  pub order_leaves : doing (first_line (one_line 3 7 0)).phase 1 ≡ Idle
  -- a line number past the list gets 15, a worker that the crew lacks 6
  pub no_line : reply_number (order_call gateway just_opened sheet_items 4 0 3).reply ≡ 15
  pub no_worker : reply_number (first_line (one_line 0 0 2)).reply ≡ 6
  -- a put-in price of 0 or above 9,999,999 gets 14, label 0 gets 7 before that
  pub free : reply_number (first_line (one_line 3 0 0)).reply ≡ 14
  pub too_dear : reply_number (first_line (one_line 3 10000000 0)).reply ≡ 14
  pub blank_first : reply_number (first_line (one_line 0 0 0)).reply ≡ 7
  pub dearest : reply_number (first_line (one_line 3 9999999 0)).reply ≡ 0
  pub mispriced_keeps : (first_line (one_line 3 0 0)).phase ≡ just_opened
  -- a label for factory tests gets 24, before 14; the last that a shop adds is accepted
  pub first_test : reply_number (first_line (one_line 4000000000 0 0)).reply ≡ 24
  pub last_test : reply_number (first_line (one_line 4294967295 1 0)).reply ≡ 24
  pub last_shop : reply_number (first_line (one_line 3999999999 1 0)).reply ≡ 0
  pub test_keeps : (first_line (one_line 4000000000 1 0)).phase ≡ just_opened
  -- a put-in shift reads neither worker nor label handed in, the other kinds neither list nor line number
  pub insert_unread : order_call gateway just_opened sheet_items 1 9 0 ≡ order_call gateway just_opened sheet_items 1 0 13
  pub unread : reply_number (order_call gateway few_workers [] 7 0 9).reply ≡ 0
  pub other_unread : order_call gateway few_workers wrong_lines 0 0 9 ≡ order_call gateway few_workers [] 7 0 9
  -- no order is refused as full
  pub never_full : (os : List Order) (i w v : ℕ) → reply_number (order_call gateway just_opened os i w v).reply ≢ 9
  -- a turn reads one cell, or compares one cell with a content read earlier and writes if they are equal: 13 over 8, 8 at 2 over 8 at 9, and 4 over 8
  pub inserts : get_or (turn_table gateway putting_in (ones (0 ∷ 0 ∷ 0 ∷ 8 ∷ 3 ∷ [])) 0) 3 0 ≡ one 13
  pub reprices : get_or (turn_table gateway repricing at_prices 0) 3 0 ≡ content 8 2
  pub deletes : get_or (turn_table gateway few_workers four 1) 4 0 ≡ one 4
  -- a put-in that meets its label at no higher price finishes; at a higher one it replaces that, and finishes
  pub stands : (turn_call gateway (meeting 9) at_prices 0).reply ≡ Ok Finished
  pub undercuts : doing (turn_call gateway (meeting 8) at_prices 0).phase 0 ≡ Replacing (content 8 8) 3 3 (content 8 9)
  pub ends : (turn_call gateway repricing at_prices 0).reply ≡ Ok Finished
  -- a content without a label is copied as 0
  pub empties : get_or (turn_table gateway emptying at_prices 0) 3 0 ≡ 0
  -- no other turn changes a cell: one that finds another content, or its label at another price, and one that reads
  pub differs : (c : ℕ) → get_or (turn_table gateway few_workers overwritten 1) c 0 ≡ get_or overwritten c 0
  pub differs_in_price : (c : ℕ) → get_or (turn_table gateway few_workers overpriced 1) c 0 ≡ get_or overpriced c 0
  pub reads : (c : ℕ) → get_or (turn_table gateway many_workers four 0) c 0 ≡ get_or four c 0
  -- a look-up that is answered a price or no has finished; the price if the cell holds its label, else no
  pub finished : doing (turn_call gateway (looking_up 13 3) four 0).phase 0 ≡ Idle
  pub says_price : (q : ℕ) → (turn_call gateway (looking_up 3 4) at_prices 0).reply ≡ Ok (Price q) → q ≡ 7
  pub not_price : (q : ℕ) → (turn_call gateway (looking_up 9 4) four 0).reply ≢ Ok (Price q)
  pub not_no : (turn_call gateway (looking_up 13 3) four 0).reply ≢ Ok No
  -- an idle worker's turn changes nothing
  pub idle : (turn_call gateway few_workers four 0).phase ≡ few_workers
  -- a turn leaves all of the record but its own worker
  pub turn_crew : (turn_call gateway many_workers altered 7).phase.crew ≡ 16
  pub turn_open : (turn_call gateway many_workers altered 7).phase.shut ≡ false
  pub turn_leaves : doing (turn_call gateway many_workers altered 7).phase 0 ≡ Reading (one 3) 3
  -- an accepted close shuts the record and leaves all else
  pub closes : (close_call gateway just_opened).phase.shut ≡ true
  pub close_leaves : (close_call gateway just_opened).phase.workers ≡ just_opened.workers
  -- no record made by an opening and later calls is ever spoilt, and it keeps the places for all workers
  pub unspoilt : reply_number (close_call gateway made_on_others).reply ≢ 13
  pub places : length made_on_others.workers ≡ 16
  -- a turn and an order of one worker apart from its record, put back
  pub apart_reply : (turn_call gateway few_workers four 1).reply ≡ Ok WentOn
  pub apart_phase : (turn_call gateway few_workers four 1).phase ≡ busy_one 2 5 2 1 (WalkingBack (one 4) 0)
  pub apart_table : turn_table gateway few_workers four 1 ≡ ones (4 ∷ 3 ∷ 0 ∷ 13 ∷ 4 ∷ [])
  pub apart_order : (order_call gateway few_workers [] 7 0 9).phase ≡ phase 2 5 2 false (set few_workers.workers 0 (worker (Reading (content 9 0) 4)))

-- ---- homes that spread
-- the sheet's labels put in by a and b, two workers in two goes
abbrev pub spread_put_in : List Call
spread_put_in = line 0 ∷ line 1 ∷ rounds 3 (0 ∷ 1 ∷ []) (line 2 ∷ line 3 ∷ rounds 5 (0 ∷ 1 ∷ []) (close ∷ []))

-- 5 and 1 put into four cells, in both sequences
abbrev pub greater_first : List Order
greater_first = order_with 5 1 0 ∷ order_with 1 1 0 ∷ []

abbrev pub smaller_first : List Order
smaller_first = order_with 1 1 0 ∷ order_with 5 1 0 ∷ []

abbrev pub one_by_one : List Call
one_by_one = line 0 ∷ rounds 3 (0 ∷ []) (line 1 ∷ rounds 5 (0 ∷ []) (close ∷ []))

-- worker 1 of two in a take-out shift on five cells
abbrev pub deleting_by : Hash → Activity → Phase
deleting_by ab a = busy_by ab 2 5 2 1 a

-- two phase states with one a and b, alike in the record of worker 1 of the one and worker 7 of the other: 8, walking back at its home
abbrev pub few_spread : Phase
few_spread = deleting_by six_less (WalkingBack (one 8) 4)

abbrev pub many_spread : Phase
many_spread = phase_by six_less 2 5 16 false (set (set all_idle 0 (worker (Reading (one 3) 3))) 7 (worker (WalkingBack (one 8) 4)))

-- a table that is like `six_less_image` in cell 4 alone
abbrev pub like_in_four : List ℕ
like_in_four = ones (1 ∷ 2 ∷ 9 ∷ 0 ∷ 13 ∷ [])

-- another rule: every home is cell 0
abbrev pub corner : Model
corner = record { fewest_cells = 2; most_cells = 8192; fewest_workers = 1; most_workers = 16; most_lines = 65536; room = 16; home = λ ab n x. 0 }

abbrev pub corner_put_in : List Call
corner_put_in = line 0 ∷ line 1 ∷ rounds 6 (0 ∷ 1 ∷ []) (line 2 ∷ line 3 ∷ rounds 10 (0 ∷ 1 ∷ []) (close ∷ []))

pub record SpreadCorollaries : Type 0 where
  -- a home by two divisions, that of a label and that of 0; with a of 1 and b of 0 it is document 01's; with an odd a two labels have two numbers
  pub home : gateway.home six_less 5 13 ≡ 4
  pub home_of_none : gateway.home six_less 5 0 ≡ 1
  pub home_before : (n x : ℕ) → x < 4294967296 → gateway.home plain n x ≡ modulo n x
  pub numbers_apart : mixed golden 100 ≢ mixed golden 200
  -- two lists of calls so closed, with equal a and b, leave equal tables
  pub put_in : (after gateway 1 2 six_less (empty_cells 5) sheet_items spread_put_in).table
      ≡ (after gateway 1 3 six_less (empty_cells 5) three_items three_put_in).table
  pub take_out : (after gateway 2 2 six_less six_less_image [] together).table ≡ (after gateway 2 1 six_less six_less_image [] in_sequence).table
  -- also of two kinds, and with other a and b that give the same homes: in four cells 5 and 4 do as 1 and 0
  pub fixed : (after gateway 1 2 six_less (empty_cells 5) sheet_items spread_put_in).table ≡ (after gateway 3 1 six_less six_less_image [] (close ∷ [])).table
  pub same_homes : (after gateway 1 1 (hash_of 5 4) (empty_cells 4) greater_first one_by_one).table
      ≡ (after gateway 1 1 plain (empty_cells 4) smaller_first one_by_one).table
  -- the layout by a and b, and sound by them
  pub laid_out : (after gateway 2 2 six_less six_less_image [] together).table
      ≡ priced_layout 5 label (spread six_less 5) (without_labels label (content 8 0 ∷ content 13 0 ∷ []) six_less_image)
  pub sound : Soundness gateway six_less (after gateway 1 2 six_less (empty_cells 5) sheet_items spread_put_in).table
  -- every shift, for any rule that yields a cell of the table
  pub any_rule : (after corner 1 2 plain (empty_cells 5) sheet_items corner_put_in).table
      ≡ priced_layout 5 label (λ (x : ℕ). 0) (ones (4 ∷ 13 ∷ 8 ∷ 3 ∷ []) ++ empty_cells 5)
  -- with altered lists every label's way holds only greater labels
  pub paths : Ordered 2 (spread six_less 2) (labels label (after_lent gateway 1 1 six_less (0 ∷ 0 ∷ []) (one_line 3 1 0) three_keys).table)
  -- the record keeps a and b from the opening to the close, 1 and 0 after a refused opening
  pub opened : (open_call gateway 1 2 six_less (empty_cells 5) sheet_items).phase.hash ≡ six_less
  pub closed : (after gateway 2 2 six_less six_less_image [] together).phase.hash ≡ six_less
  pub refused : (ab : Hash) (os : List Order) → (open_call gateway 4 1 ab four os).phase.hash ≡ plain
  pub hands_back : (ab : Hash) (os : List Order) (cs : List Call) → (after gateway 4 1 ab four os cs).phase ≡ handed_back
  -- whatever they are, so do an order, a turn and a close
  pub order_leaves : (ab : Hash) → (order_call gateway (phase_by ab 2 5 2 false all_idle) [] 0 1 13).phase.hash ≡ ab
  pub turn_leaves : (ab : Hash) (t : List ℕ) (w : ℕ) → (turn_call gateway (busy_by ab 2 5 2 1 (WalkingBack (one 8) 4)) t w).phase.hash ≡ ab
  pub close_leaves : (ab : Hash) → (close_call gateway (phase_by ab 2 5 2 false all_idle)).phase.hash ≡ ab
  -- within the limits every even a gets 21, whatever else is wrong; no other a does
  pub even_opens : (ab : Hash) → Even ab.a → (k m : ℕ) (t : List ℕ) (os : List Order) → Kind k → Crew gateway m → Size gateway (length t)
      → reply_number (open_call gateway k m ab t os).reply ≡ 21
  pub even_check : (ab : Hash) → Even ab.a → (t : List ℕ) → Size gateway (length t) → reply_number (check_call gateway ab t) ≡ 21
  pub even_count : (ab : Hash) → Even ab.a → (t : List ℕ) → Size gateway (length t) → count_number (count_call gateway ab t) ≡ 21
  pub even_list : (ab : Hash) → Even ab.a → (t out : List ℕ) → Size gateway (length t) → count_number (list_call gateway ab t out) ≡ 21
  pub odd_opens : (ab : Hash) → Odd ab.a → (k m : ℕ) (t : List ℕ) (os : List Order) → reply_number (open_call gateway k m ab t os).reply ≢ 21
  pub odd_check : (ab : Hash) → Odd ab.a → (t : List ℕ) → reply_number (check_call gateway ab t) ≢ 21
  -- behind 3 and 1, whatever a is; and what the check passes has an odd a
  pub kind_first : (ab : Hash) (os : List Order) → reply_number (open_call gateway 4 1 ab four os).reply ≡ 3
  pub size_first : (ab : Hash) → reply_number (check_call gateway ab (one 7 ∷ [])) ≡ 1
  pub passes_odd : (ab : Hash) (t : List ℕ) → reply_number (check_call gateway ab t) ≡ 0 → Odd ab.a
  -- by a and b a table is sound or not: check, count and list
  pub passes : reply_number (check_call gateway six_less six_less_image) ≡ 0
  pub refuses : reply_number (check_call gateway six_less four) ≡ 17
  pub counted : count_value (count_call gateway six_less six_less_image) ≡ 4
  pub listed : get_or (list_after gateway six_less six_less_image six_places) 1 0 ≡ one 4
  -- 13 doesn't test a and b: no record is spoilt, or good again, by others; nor is one made by an opening with any
  pub spoilt_by_others : (ab : Hash) (p : Phase) → Spoilt p → Spoilt (with_hash p ab)
  pub unspoilt_by_others : (ab : Hash) (p : Phase) → Unspoilt p → Unspoilt (with_hash p ab)
  pub never_spoilt : (k m : ℕ) (ab : Hash) (t : List ℕ) (os : List Order)
      → reply_number (close_call gateway (open_call gateway k m ab t os).phase).reply ≢ 13
  -- an order starts at the home by the record's a and b, also where a is even
  pub starts : doing (order_call gateway (phase_by six_less 2 5 2 false all_idle) [] 7 0 9).phase 0 ≡ Reading (content 9 0) 3
  pub starts_even : doing (order_call gateway (phase_by twice 2 5 2 false all_idle) [] 7 0 9).phase 0 ≡ Reading (content 9 0) 1
  -- two turns alike in a and b too answer alike, and leave record and cell alike
  pub replies : (turn_call gateway few_spread six_less_image 1).reply ≡ (turn_call gateway many_spread like_in_four 7).reply
  pub records : doing (turn_call gateway few_spread six_less_image 1).phase 1 ≡ doing (turn_call gateway many_spread like_in_four 7).phase 7
  pub cells : get_or (turn_table gateway few_spread six_less_image 1) 4 0 ≡ get_or (turn_table gateway many_spread like_in_four 7) 4 0
  -- with other ones they need not: 8 is not at its home by 1 and 0
  pub unlike : (turn_call gateway few_spread six_less_image 1).reply ≢ (turn_call gateway (with_hash few_spread plain) six_less_image 1).reply
  -- take out: the way back ends at the home by the record's a and b, also where a is even, and nowhere else
  pub ends_at_home : (turn_call gateway (deleting_by twice (WalkingBack (one 8) 4)) (empty_cells 5) 1).reply ≡ Ok Finished
  pub walks_on : doing (turn_call gateway (deleting_by twice (WalkingBack (one 8) 3)) (empty_cells 5) 1).phase 1 ≡ WalkingBack (one 8) 2
  -- a label is taken for cell k if its way by them passes k: for cell 4 that in cell 0, 8; by others 8 is at home there. On the way back 6 is nearer, and 4
  -- is not
  pub taken : Taken 5 0 (one 13) 4 0 (one 8) (doing (turn_call gateway (deleting_by six_less (SeekingForward (one 13) 4 0)) six_less_image 1).phase 1)
  pub gone_past : doing (turn_call gateway (deleting_by thrice (SeekingForward (one 13) 4 0)) six_less_image 1).phase 1 ≡ SeekingForward (one 13) 4 1
  pub nearer : Taken 5 1 (one 7) 0 1 (one 6) (doing (turn_call gateway (deleting_by six_less (SeekingBack 1 (one 7) 0 2 0)) (ones (7 ∷ 6 ∷ 0 ∷ 0 ∷ 0 ∷ [])) 1).phase 1)
  pub not_nearer : Taken 5 1 (one 9) 0 2 0 (doing (turn_call gateway (deleting_by twice (SeekingBack 1 (one 9) 0 2 0)) (ones (9 ∷ 4 ∷ 0 ∷ 0 ∷ 0 ∷ [])) 1).phase 1)
  -- a turn of one worker apart from its record, by a and b
  pub apart_reply : (turn_call gateway few_spread six_less_image 1).reply ≡ Ok Finished
