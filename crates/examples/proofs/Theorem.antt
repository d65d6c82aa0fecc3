-- The examples, computed table by table.
use mathlib.Core.Bool.{Bool, true, ◌&&◌}
use mathlib.Core.List.{List, [], ◌∷◌, ◌++◌, map}
use lib.Dec.{T}
use Rattle.ring.specs.Counting.{count}
use Rattle.ring.specs.Ring.{wrap, probe, dist, prev}
use Rattle.layout.specs.Layout.{into, descending, listed, place, place_all, layout}
use Rattle.ring.specs.Each.{all, some, first}
use Rattle.ring.proofs.Each.{and_left, and_right}
use Rattle.homes.specs.Homes.{plain}
use Rattle.homes.specs.declared.Hash.{Hash}
use Rattle.prices.specs.Priced.{lesser, least, without_labels}
use Rattle.flaws.specs.Flaws.{meets_empty, meets_key}
use Rattle.orders.specs.Orders.{line_fault, lines_fault, orders_of}
use Rattle.rule.specs.Rule.{settled, absorbed, insert_step, find_step, fits, narrow, delete_step, rule}
use Rattle.rule.specs.Schedules.{Schedule, same_table, schedules, AllClose}
use Rattle.rule.proofs.Schedules.{all-close}
use Rattle.protocol.specs.IsWellFormed.{is_well_formed}
use Rattle.history.specs.History.{call, run}
use Rattle.numbered.specs.Lists.{answer_of, answers_of}
use Rattle.examples.specs.Forms.{Example, closing, ons, AllSay}
use Rattle.examples.specs.Traces.{idle_turns, insert_turns, find_turns, delete_turns, insert_prices, find_prices, delete_prices, traces}
use Rattle.examples.specs.Bounds.{number_bounds, crew_bounds, kind_bounds, cell_bounds, key_bounds, price_bounds, bounds}
use Rattle.examples.specs.Limits.{lengths, openings, refused_turns, listings, limits}
use Rattle.examples.specs.Orders.{opening_sequence, line_faults, fillings, line_orders, altered_lists, handed_orders, orders}
use Rattle.examples.specs.Repairs.{papers, tears, overwritten, wrong_cells, lowest_cells, first_met, wraps, wider, places, repairs}
use Rattle.examples.specs.Spreading.{records_by, by_six_less, by_five_less, by_thrice_six, by_golden, by_thrice, by_five_more, by_plain, by_greatest}
use Rattle.examples.specs.Spreading.{even_refusals, by_never, by_twice, by_twice_less, Spread, spreads, AllSpread}
use Rattle.examples.specs.TestNumbers.{test_numbers}
use Rattle.examples.specs.Examples.{tables, phases, prices, examples, ExamplesPromise}
use Rattle.examples.proofs.Passing.{same_bit, code_of, same_workers, same_phase, answer_code, answers, passes, all_pass, all_say}

computed : T (all_pass plain tables)
unfolding all_pass passes tables same_table layout place_all place descending into without_labels listed lesser least
    meets_empty meets_key first all some dist probe wrap
computed = tt

phases-computed : T (all_pass plain phases)
unfolding all_pass passes phases ons same_table same_bit code_of same_workers same_phase answer_of answers_of run call line_fault lines_fault descending into
    is_well_formed meets_empty meets_key first all some dist probe wrap prev rule settled absorbed insert_step find_step delete_step fits narrow
phases-computed = tt

prices-computed : T (all_pass plain prices)
unfolding all_pass passes prices ons same_table same_bit code_of same_workers same_phase answer_of answers_of run call line_fault lines_fault descending into
    is_well_formed meets_empty meets_key first all some dist probe wrap prev rule settled absorbed insert_step find_step delete_step fits narrow
prices-computed = tt

traces-computed : T (all_pass plain traces)
unfolding all_pass passes idle_turns insert_turns find_turns delete_turns insert_prices find_prices delete_prices same_table same_bit code_of same_workers same_phase
    answer_code answers is_well_formed dist wrap prev rule settled absorbed insert_step find_step delete_step fits narrow
traces-computed = tt

bounds-computed : T (all_pass plain bounds)
unfolding all_pass passes number_bounds crew_bounds kind_bounds cell_bounds key_bounds price_bounds is_well_formed
bounds-computed = tt

limits-computed : T (all_pass plain limits)
unfolding all_pass passes lengths openings refused_turns listings same_table same_bit code_of same_workers same_phase
    is_well_formed meets_empty meets_key first all some dist probe wrap count lines_fault descending into
limits-computed = tt

orders-computed : T (all_pass plain orders)
unfolding all_pass passes opening_sequence line_faults fillings line_orders altered_lists handed_orders same_table same_bit code_of same_workers same_phase
    line_fault lines_fault orders_of descending into is_well_formed meets_empty meets_key first all some dist probe wrap
orders-computed = tt

tests-computed : T (all_pass plain test_numbers)
unfolding all_pass passes test_numbers ons same_table same_bit code_of same_workers same_phase answer_of answers_of run call line_fault lines_fault descending into count
    is_well_formed meets_empty meets_key first all some dist probe wrap prev rule settled absorbed insert_step find_step delete_step fits narrow
tests-computed = tt

repairs-computed : T (all_pass plain repairs)
unfolding all_pass passes papers tears overwritten wrong_cells lowest_cells first_met wraps wider places same_table same_bit code_of same_workers same_phase
    meets_empty meets_key first all some dist probe wrap line_fault lines_fault
repairs-computed = tt

-- ---- under other a and b
unfoldable all_spread : List Spread → Bool
all_spread [] = true
all_spread (s ∷ others) = all_pass s.hash s.examples && all_spread others

all-spread : (ss : List Spread) → T (all_spread ss) → AllSpread ss
unfolding all_spread
all-spread [] p = tt
all-spread (s ∷ others) p =
    let one = all_pass s.hash s.examples in
    (all_say s.hash s.examples (and_left one (all_spread others) p), all-spread others (and_right one (all_spread others) p))

spreads-computed : T (all_spread spreads)
unfolding all_spread spreads records_by by_six_less by_five_less by_thrice_six by_golden by_thrice by_five_more by_plain by_greatest even_refusals by_never by_twice
    by_twice_less all_pass passes ons same_table same_bit code_of same_workers same_phase answer_code answers answer_of answers_of run call
    layout place_all place descending into without_labels listed lesser least line_fault lines_fault
    is_well_formed meets_empty meets_key first all some dist probe wrap prev count rule settled absorbed insert_step find_step delete_step fits narrow
spreads-computed = tt

-- ---- with the schedules
both : (ab : Hash) (es es' : List Example) → AllSay ab es → AllSay ab es' → AllSay ab (es ++ es')
both ab [] es' p q = q
both ab (e ∷ es) es' p q = (p.0, both ab es es' p.1 q)

all-closing : (ab : Hash) (ss : List Schedule) → AllClose ss → AllSay ab (map closing ss)
all-closing ab [] p = tt
all-closing ab (s ∷ others) p = (p.0, all-closing ab others p.1)

computed-all : AllSay plain examples
computed-all =
    let two : AllSay plain (tables ++ phases) = both plain tables phases (all_say plain tables computed) (all_say plain phases phases-computed) in
    let three : AllSay plain (tables ++ phases ++ prices) = both plain (tables ++ phases) prices two (all_say plain prices prices-computed) in
    let four : AllSay plain (tables ++ phases ++ prices ++ traces) =
    both plain (tables ++ phases ++ prices) traces three (all_say plain traces traces-computed)
    in
    let five : AllSay plain (tables ++ phases ++ prices ++ traces ++ bounds) =
    both plain (tables ++ phases ++ prices ++ traces) bounds four (all_say plain bounds bounds-computed)
    in
    let six : AllSay plain (tables ++ phases ++ prices ++ traces ++ bounds ++ limits) =
    both plain (tables ++ phases ++ prices ++ traces ++ bounds) limits five (all_say plain limits limits-computed)
    in
    let seven : AllSay plain (tables ++ phases ++ prices ++ traces ++ bounds ++ limits ++ orders) =
    both plain (tables ++ phases ++ prices ++ traces ++ bounds ++ limits) orders six (all_say plain orders orders-computed)
    in
    let eight : AllSay plain (tables ++ phases ++ prices ++ traces ++ bounds ++ limits ++ orders ++ test_numbers) =
    both plain (tables ++ phases ++ prices ++ traces ++ bounds ++ limits ++ orders) test_numbers seven (all_say plain test_numbers tests-computed)
    in
    let nine : AllSay plain (tables ++ phases ++ prices ++ traces ++ bounds ++ limits ++ orders ++ test_numbers ++ repairs) =
    both plain (tables ++ phases ++ prices ++ traces ++ bounds ++ limits ++ orders ++ test_numbers) repairs eight (all_say plain repairs repairs-computed)
    in
    both plain (tables ++ phases ++ prices ++ traces ++ bounds ++ limits ++ orders ++ test_numbers ++ repairs) (map closing schedules) nine
    (all-closing plain schedules all-close)

pub theorem : ExamplesPromise
theorem = record { as_before = computed-all; spreading = all-spread spreads spreads-computed }
