-- The corollaries on other lengths and kinds, each by its promise. Premises are computed, conclusions are not.
use Rattle.std.specs.Prelude.{Option, ℕ, Some, Ok}
use mathlib.Core.Path.{◌≡◌, refl, sym, ap, ◌∙◌, subst}
use mathlib.Core.Logic.{◌≢◌, ◌↔◌, inl}
use mathlib.Core.Bool.{true}
use mathlib.Core.List.{[], ◌∷◌, ◌++◌}
use Prim.Native.Nat.{ℕ, suc, ◌≤◌, ◌<◌}
use native.Mathlib.Nat.{zero-lt-suc, mod-lt}
use native.Mathlib.Omega.{arith}
use lib.ListN.{get_or}
use Rattle.ring.specs.Counting.{count}
use Rattle.ring.specs.Ring.{wrap, probe, dist}
use Rattle.layout.specs.Layout.{In, into, descending, size, listed}
use Rattle.ring.specs.Each.{all, some, first}
use Rattle.layout.specs.Sound.{Holds}
use Rattle.layout.proofs.Sets.{held_in, in-holds}
use Rattle.homes.specs.Homes.{plain, mixed, spread}
use Rattle.prices.specs.Contents.{label, content, SoundTable}
use Rattle.prices.specs.Priced.{labels, lesser, least, Least, SameLeast, PricedSound}
use Rattle.prices.proofs.Contents.{contents}
use Rattle.prices.proofs.Labels.{in-labels}
use Rattle.prices.proofs.Theorem.{theorem as layouts}
use Rattle.flaws.specs.Flaws.{meets_empty, meets_key}
use Rattle.flaws.specs.Promise.{Intact, Gapped, Disordered}
use Rattle.orders.specs.Orders.{line_fault, lines_fault}
use Rattle.words.specs.Promise.{keys_before}
use Rattle.rule.specs.Events.{stepped, ordered, accepts, event, AllIdle}
use Rattle.rule.specs.Events as events
use Rattle.rule.specs.Rule.{settled, absorbed, insert_step, find_step, rule}
use Rattle.rule.specs.Schedules.{one, steps, none_busy}
use Rattle.rule.proofs.Schedules.{idle_all}
use Rattle.phases.specs.Promise.{Roomy, Rules, SameOrders}
use Rattle.phases.proofs.Roomy.{room_by}
use Rattle.determinism.proofs.Theorem.{one_end}
use Rattle.state.specs.Model.{gateway}
use Rattle.state.specs.Open.{open_reply}
use Rattle.state.specs.Refusals.{reply_number}
use Rattle.state.proofs.Model.{gateway-proper}
use Rattle.protocol.proofs.Soundness.{sounds}
use Rattle.protocol.specs.Calls.{turn_check}
use Rattle.protocol.specs.IsWellFormed.{is_well_formed}
use Rattle.protocol.specs.WellFormed.{Size}
use Rattle.state.specs.Counts.{count_number}
use Rattle.tables.specs.Calls.{check_call, list_call, list_after, list_front}
use Rattle.tables.proofs.Theorem.{theorem as tables}
use Rattle.history.specs.History.{turn, call, run, after}
use Rattle.history.proofs.Theorem.{keeps_table, one_table, two_turns}
use Rattle.examples.specs.Forms.{empty_cells, line}
use Rattle.corollaries.specs.Corollaries.{turns_of, rounds, six_places}
use Rattle.examples.specs.Orders.{one_line}
use Rattle.corollaries.specs.Lengths.{seven, one_looks, two_look, one_items, one_puts, two_items, two_put, one_price_items, one_price, two_price_items, two_prices}
use Rattle.corollaries.specs.Lengths.{one_inserts, two_insert, third, OtherLengths}
use Rattle.corollaries.specs.Lengths.{emptied, also_emptied, holding, also_holding, replacing, looking}
use Rattle.examples.proofs.Sound.{plain-odd, sound-says}
use Rattle.corollaries.proofs.Members.{apart, all_in, all_in_lem, least_in, same-prices, is-least, own_least, own-least, same_keys, same-orders}

-- ---- openings
seven-opens : (open_reply gateway 3 1 plain seven [] ≡ Ok tt)
    × (open_reply gateway 3 2 plain seven [] ≡ Ok tt)
    × (open_reply gateway 1 1 plain seven (one_line 7 1 0) ≡ Ok tt)
unfolding line_fault lines_fault descending into meets_empty meets_key first all some dist probe wrap
seven-opens = (refl, refl, refl)

three-opens : (open_reply gateway 1 1 plain (empty_cells 3) one_items ≡ Ok tt) × (open_reply gateway 1 2 plain (empty_cells 3) two_items ≡ Ok tt)
unfolding line_fault lines_fault descending into meets_empty meets_key first all some dist probe wrap
three-opens = (refl, refl)

three-open-prices : (open_reply gateway 1 1 plain (empty_cells 3) one_price_items ≡ Ok tt)
    × (open_reply gateway 1 2 plain (empty_cells 3) two_price_items ≡ Ok tt)
unfolding line_fault lines_fault descending into meets_empty meets_key first all some dist probe wrap
three-open-prices = (refl, refl)

-- ---- lists of calls are closed, and order the same keys
looks-closed : ((after gateway 3 1 plain seven [] one_looks).closed ≡ true) × ((after gateway 3 2 plain seven [] two_look).closed ≡ true)
unfolding turns_of rounds run call is_well_formed meets_empty meets_key first all some dist probe wrap rule find_step
looks-closed = (refl, refl)

looks-keys : SameOrders 3 label (after gateway 3 1 plain seven [] one_looks).ordered (after gateway 3 2 plain seven [] two_look).ordered
unfolding all_in listed turns_of rounds run call is_well_formed meets_empty meets_key first all some dist probe wrap rule find_step
looks-keys = same_keys 3 (apart 3 1 tt) (after gateway 3 1 plain seven [] one_looks).ordered (after gateway 3 2 plain seven [] two_look).ordered tt tt

puts-closed : ((after gateway 1 1 plain (empty_cells 3) one_items one_puts).closed ≡ true)
    × ((after gateway 1 2 plain (empty_cells 3) two_items two_put).closed ≡ true)
unfolding turns_of rounds run call is_well_formed
    line_fault lines_fault descending into meets_empty meets_key first all some dist probe wrap rule settled absorbed insert_step
puts-closed = (refl, refl)

puts-keys : SameOrders 1 label (after gateway 1 1 plain (empty_cells 3) one_items one_puts).ordered
    (after gateway 1 2 plain (empty_cells 3) two_items two_put).ordered
unfolding least_in listed lesser least turns_of rounds run call is_well_formed
    line_fault lines_fault descending into meets_empty meets_key first all some dist probe wrap rule settled absorbed insert_step
puts-keys =
    same-orders 1 (after gateway 1 1 plain (empty_cells 3) one_items one_puts).ordered (after gateway 1 2 plain (empty_cells 3) two_items two_put).ordered tt tt

prices-closed : ((after gateway 1 1 plain (empty_cells 3) one_price_items one_price).closed ≡ true)
    × ((after gateway 1 2 plain (empty_cells 3) two_price_items two_prices).closed ≡ true)
unfolding turns_of rounds run call is_well_formed
    line_fault lines_fault descending into meets_empty meets_key first all some dist probe wrap rule settled absorbed insert_step
prices-closed = (refl, refl)

prices-keys : SameOrders 1 label (after gateway 1 1 plain (empty_cells 3) one_price_items one_price).ordered
    (after gateway 1 2 plain (empty_cells 3) two_price_items two_prices).ordered
unfolding least_in listed lesser least turns_of rounds run call is_well_formed
    line_fault lines_fault descending into meets_empty meets_key first all some dist probe wrap rule settled absorbed insert_step
prices-keys =
    same-orders 1 (after gateway 1 1 plain (empty_cells 3) one_price_items one_price).ordered
    (after gateway 1 2 plain (empty_cells 3) two_price_items two_prices).ordered tt tt

none-ordered : (after gateway 1 1 plain seven (one_line 7 1 0) (turn 0 ∷ line 1 ∷ turn 0 ∷ [])).ordered ≡ []
unfolding run call is_well_formed line_fault lines_fault descending into meets_empty meets_key first all some dist probe wrap
none-ordered = refl

-- ---- events
inserts-idle : AllIdle (events.after 1 4 1 label (spread plain 4) (empty_cells 4) one_inserts)
    × AllIdle (events.after 1 4 2 label (spread plain 4) (empty_cells 4) two_insert)
unfolding none_busy steps events.run event accepts ordered stepped rule settled absorbed insert_step wrap count
inserts-idle = (
  idle_all (events.after 1 4 1 label (spread plain 4) (empty_cells 4) one_inserts).workers tt,
  idle_all (events.after 1 4 2 label (spread plain 4) (empty_cells 4) two_insert).workers tt,
)

inserts-keys : SameOrders 1 label (events.after 1 4 1 label (spread plain 4) (empty_cells 4) one_inserts).ordered
    (events.after 1 4 2 label (spread plain 4) (empty_cells 4) two_insert).ordered
unfolding least_in listed lesser least steps events.run event accepts ordered stepped rule settled absorbed insert_step wrap count
inserts-keys =
    same-orders 1 (events.after 1 4 1 label (spread plain 4) (empty_cells 4) one_inserts).ordered
    (events.after 1 4 2 label (spread plain 4) (empty_cells 4) two_insert).ordered tt tt

-- what is ordered is of two labels, which are fewer than four cells
inserts-listed : (v : ℕ) → In v (events.after 1 4 1 label (spread plain 4) (empty_cells 4) one_inserts).ordered → In (label v) (1 ∷ 5 ∷ [])
unfolding all_in listed steps events.run event accepts ordered stepped rule settled absorbed insert_step wrap count
inserts-listed v i =
    let xs = (events.after 1 4 1 label (spread plain 4) (empty_cells 4) one_inserts).ordered in
    all_in_lem (labels label xs) (1 ∷ 5 ∷ []) tt (label v) (in-labels label xs v i)

two-fewer : size (labels label (empty_cells 4) ++ 1 ∷ 5 ∷ []) < 4
unfolding descending into
two-fewer = omega arith

inserts-roomy : Roomy 4 label (empty_cells 4) (events.after 1 4 1 label (spread plain 4) (empty_cells 4) one_inserts)
inserts-roomy =
    room_by 4 label (empty_cells 4) (1 ∷ 5 ∷ []) (events.after 1 4 1 label (spread plain 4) (empty_cells 4) one_inserts) two-fewer inserts-listed

-- ---- tables
seven-sound : SoundTable 2 (spread plain 2) seven
unfolding meets_empty meets_key first all some dist probe wrap
seven-sound = (sound-says plain seven).0 tt

seven-priced : PricedSound 2 label (spread plain 2) seven
seven-priced = contents.priced 2 (spread plain 2) seven seven-sound

four-empty-sound : PricedSound 4 label (spread plain 4) (empty_cells 4)
unfolding meets_empty meets_key first all some dist probe wrap
four-empty-sound = contents.priced 4 (spread plain 4) (empty_cells 4) ((sound-says plain (empty_cells 4)).0 tt)

rules : (n : ℕ) → Rules (suc n) label (spread plain (suc n))
rules n = record { blank = refl; inside = λ x. mod-lt (mixed plain x) (zero-lt-suc n) }

seven-same : SameLeast label seven (content 7 2 ∷ one 7 ∷ [])
unfolding least_in listed lesser least
seven-same = same-prices seven (content 7 2 ∷ one 7 ∷ []) tt tt

seven-own : (y : ℕ) → label y ≢ 0 → Holds 2 seven y → Least label seven y
unfolding own_least lesser least
seven-own y nz h = let i = held_in 2 seven y refl h in is-least seven y nz i (own-least seven seven tt y i)

seven-keys : (y : ℕ) → label y ≢ 0 → Holds 2 seven y ↔ Least label (content 7 2 ∷ one 7 ∷ []) y
seven-keys y nz = (λ h. (seven-same y nz).0 (seven-own y nz h), λ l. in-holds 2 seven y refl ((seven-same y nz).1 l).member)

seven-kinds : Intact seven × (Gapped (spread plain 2) seven → ⊥) × (Disordered (spread plain 2) seven → ⊥)
seven-kinds = (sounds.kinds gateway gateway-proper plain seven).0 ((sounds.words gateway plain seven).0 seven-sound)

two_cells : Size gateway 2
two_cells = (omega arith, omega arith)

seven-size : size (labels label seven) ≡ 1
unfolding descending into
seven-size = refl

none_before : keys_before seven 1 ≡ 0
unfolding count
none_before = refl

list-accepted : count_number (list_call gateway plain seven six_places) ≡ 0
list-accepted =
    let (_, (_, (_, (_, (_, (_, none)))))) = (tables gateway gateway-proper plain seven six_places).list in
    let (whole, gapless, ordered) = seven-kinds in
    let l : size (labels label seven) ≤ 6 = omega (arith, seven-size) in
    none.1 ((((((tt, two_cells), plain-odd), whole), gapless), ordered), l)

check-accepted : reply_number (check_call gateway plain seven) ≡ 0
check-accepted =
    let (_, (_, (_, (_, (_, none))))) = (tables gateway gateway-proper plain seven []).check in
    let (whole, gapless, ordered) = seven-kinds in
    none.1 (((((tt, two_cells), plain-odd), whole), gapless), ordered)

-- ---- turns: the cell touched is alike
insert-cell : (c : ℕ) → ◌≡◌ {A = (Option ℕ)} (Some 1) (Some c) → get_or emptied c 0 ≡ get_or also_emptied c 0
insert-cell c e = let z : 1 ≡ c = cc in subst (λ (x : ℕ). get_or emptied x 0 ≡ get_or also_emptied x 0) z refl

find-cell : (c : ℕ) → ◌≡◌ {A = (Option ℕ)} (Some 1) (Some c) → get_or holding c 0 ≡ get_or also_holding c 0
find-cell c e = let z : 1 ≡ c = cc in subst (λ (x : ℕ). get_or holding x 0 ≡ get_or also_holding x 0) z refl

insert-pass : (turn_check gateway replacing emptied 0 ≡ Ok tt) × (turn_check gateway (third replacing) also_emptied 2 ≡ Ok tt)
unfolding is_well_formed
insert-pass = (refl, refl)

find-pass : (turn_check gateway looking holding 0 ≡ Ok tt) × (turn_check gateway (third looking) also_holding 2 ≡ Ok tt)
unfolding is_well_formed
find-pass = (refl, refl)

-- ---- all of them
pub other-lengths : OtherLengths
other-lengths =
    let lists = tables gateway gateway-proper plain seven six_places in
    record {
      look_up =
          one_table gateway gateway gateway-proper gateway-proper 3 1 2 plain plain seven [] [] (λ x. refl) seven-opens.0 seven-opens.1 one_looks
          two_look looks-keys looks-closed.0 looks-closed.1;
      put_in =
          one_table gateway gateway gateway-proper gateway-proper 1 1 2 plain plain (empty_cells 3) one_items two_items (λ x. refl) three-opens.0
          three-opens.1 one_puts two_put puts-keys puts-closed.0 puts-closed.1;
      put_in_prices =
          one_table gateway gateway gateway-proper gateway-proper 1 1 2 plain plain (empty_cells 3) one_price_items two_price_items (λ x. refl)
          three-open-prices.0 three-open-prices.1 one_price two_prices prices-keys prices-closed.0 prices-closed.1;
      one_end =
          one_end 1 4 1 2 (inl refl) label (spread plain 4) (rules 3) (empty_cells 4) four-empty-sound one_inserts two_insert (λ _. inserts-roomy) inserts-keys
          inserts-idle.0 inserts-idle.1;
      room = inserts-roomy;
      insert_turns_alike =
          (two_turns gateway replacing (third replacing) emptied also_emptied 0 2 insert-pass.0 insert-pass.1 refl refl refl refl insert-cell).replies;
      find_turns_alike = (two_turns gateway looking (third looking) holding also_holding 0 2 find-pass.0 find-pass.1 refl refl refl refl find-cell).replies;
      one_layout = (layouts 2 label (spread plain 2) (rules 1).blank (rules 1).inside).unique (content 7 2 ∷ one 7 ∷ []) seven seven-priced seven-keys;
      passes = check-accepted;
      count = lists.count_true (two_cells, plain-odd, (sounds.words gateway plain seven).0 seven-sound) ∙ seven-size;
      listed = ap (λ (i : ℕ). get_or (list_after gateway plain seven six_places) i 0) (sym none_before) ∙ lists.listed list-accepted 1 (apart 7 0 tt);
      front = ap (λ (i : ℕ). get_or (list_front gateway plain seven six_places) i 0) (sym none_before) ∙ lists.front list-accepted 1 (apart 7 0 tt);
      kept = (keeps_table gateway gateway-proper 1 1 plain seven (one_line 7 1 0) seven-opens.2).no_orders (turn 0 ∷ line 1 ∷ turn 0 ∷ []) none-ordered;
    }
