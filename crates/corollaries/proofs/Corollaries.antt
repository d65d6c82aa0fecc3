-- The corollaries, each by its promise. Premises are computed, conclusions are not.
use Rattle.std.specs.Prelude.{Option, ℕ, Some, Ok, Err}
use mathlib.Core.Path.{◌≡◌, refl, sym, ap, ◌∙◌, subst}
use mathlib.Core.Logic.{◌≢◌, ◌↔◌, inl, inr}
use mathlib.Core.Bool.{true, false}
use mathlib.Core.List.{List, [], ◌∷◌, ◌++◌}
use Prim.Native.Nat.{ℕ, zero, suc, ◌≤◌, ◌<◌}
use native.Mathlib.Nat.{zero-lt-suc, mod-lt}
use native.Mathlib.Omega.{arith}
use lib.Dec.{T, eqb}
use lib.ListN.{length, get_or}
use Rattle.ring.specs.Counting.{count}
use Rattle.ring.specs.Ring.{wrap, probe, dist, prev}
use Rattle.layout.specs.Layout.{In, into, descending, size, listed}
use Rattle.ring.specs.Each.{all, some, first}
use Rattle.layout.specs.Sound.{Holds}
use Rattle.layout.proofs.Sets.{held_in, in-holds}
use Rattle.homes.specs.Homes.{plain, mixed, spread}
use Rattle.prices.specs.Contents.{label, content, SoundTable}
use Rattle.prices.specs.Priced.{labels, lesser, least, Least, SameLeast, PricedSound, priced_layout, without_labels}
use Rattle.prices.proofs.Contents.{contents}
use Rattle.prices.proofs.Labels.{in-labels}
use Rattle.prices.proofs.Theorem.{theorem as layouts}
use Rattle.flaws.specs.Flaws.{meets_empty, meets_key}
use Rattle.flaws.specs.Promise.{Intact, Damaged, Gapped, Disordered, FirstOnPath}
use Rattle.flaws.proofs.Theorem.{theorem as flaws}
use Rattle.orders.specs.Orders.{line_fault, lines_fault}
use Rattle.orders.specs.declared.Order.{Order}
use Rattle.words.specs.Promise.{keys_before}
use Rattle.words.specs.Words.{filled, place_of, count_of}
use Rattle.words.proofs.Places.{count-occupied}
use Rattle.words.proofs.Theorem.{theorem as listings, steps as group-steps}
use Rattle.activities.specs.declared.Activity.TheVariants.{Idle}
use Rattle.rule.specs.Events.{stepped, ordered, accepts, event, AllIdle}
use Rattle.rule.specs.Events as events
use Rattle.rule.specs.Rule.{settled, absorbed, insert_step, find_step, fits, narrow, delete_step, rule}
use Rattle.rule.specs.Schedules.{one, ones, round, steps, none_busy}
use Rattle.rule.specs.Schedules as schedules
use Rattle.rule.proofs.Schedules.{idle_all}
use Rattle.determinism.proofs.Theorem.{one_end}
use Rattle.phases.specs.Promise.{most_steps, Sold, Rules, SameOrders}
use Rattle.state.specs.Model.{gateway}
use Rattle.state.specs.Open.{open_reply}
use Rattle.state.specs.Refusals.{reply_number}
use Rattle.state.proofs.Model.{gateway-proper}
use Rattle.protocol.specs.Bars.{doing}
use Rattle.protocol.specs.Calls.{turn_check}
use Rattle.protocol.specs.IsWellFormed.{is_well_formed}
use Rattle.protocol.specs.Promise.{Soundness}
use Rattle.protocol.specs.WellFormed.{Size}
use Rattle.protocol.proofs.Soundness.{sounds}
use Rattle.state.specs.Counts.{count_number, count_value}
use Rattle.state.specs.Replies.{Counted}
use Rattle.tables.specs.Calls.{check_call, count_call, list_call, list_after, list_front}
use Rattle.tables.proofs.Theorem.{theorem as tables}
use Rattle.history.specs.History.{turn, worked, call, run, turn_replies, opening, after}
use Rattle.history.specs.Promise.{entries_after, Alike, Claim}
use Rattle.history.proofs.Theorem.{refused, keeps_table, fixed, one_table, two_turns}
use Rattle.history.proofs.Theorem as histories
use Rattle.examples.specs.Forms.{empty_cells, handed, calls_of}
use Rattle.examples.specs.Limits.{two_groups}
use Rattle.examples.specs.Orders.{one_line, wrong_lines}
use Rattle.examples.specs.Repairs.{gapped, disordered, full, torn, old_image, new_image}
use Rattle.examples.specs.Examples.{four, at_prices, sheet_items, sheet_puts_in, looks_up, any_line}
use Rattle.corollaries.specs.Corollaries.{turns_of, rounds, together, in_sequence, one_ordered, half_put_in, three_items, three_put_in}
use Rattle.corollaries.specs.Corollaries.{events_together, events_in_sequence, taken_out, half_taken, with_thirteen, thirteen_out, saying_at}
use Rattle.corollaries.specs.Corollaries.{price_items, two_price, more_price_items, three_price, half_priced, reprice_items, repriced, the_price_items, the_prices}
use Rattle.corollaries.specs.Corollaries.{few_workers, many_workers, altered, four_keys, six_places, two_in_order, Corollaries}
use Rattle.examples.proofs.Sound.{plain-odd, sound-says}
use Rattle.corollaries.proofs.Members.{apart, is-in, not_in, all_in, least_in, same-prices, is-least, own_least, own-least, same_keys, same-orders, right-at}
use Rattle.corollaries.proofs.Unsound.{disordered-intact, gapped-intact, full_damaged, gapped-is, disordered-is, behind-thirteen, in_order}

-- ---- openings
four-opens : (open_reply gateway 2 2 plain four [] ≡ Ok tt) × (open_reply gateway 2 1 plain four [] ≡ Ok tt)
unfolding meets_empty meets_key first all some dist probe wrap
four-opens = (refl, refl)

four-looks : open_reply gateway 3 2 plain four [] ≡ Ok tt
unfolding meets_empty meets_key first all some dist probe wrap
four-looks = refl

sheet-opens : (open_reply gateway 1 2 plain (empty_cells 5) sheet_items ≡ Ok tt) × (open_reply gateway 1 3 plain (empty_cells 5) three_items ≡ Ok tt)
unfolding line_fault lines_fault descending into meets_empty meets_key first all some dist probe wrap
sheet-opens = (refl, refl)

empty-opens : (open_reply gateway 1 2 plain (empty_cells 5) price_items ≡ Ok tt)
    × (open_reply gateway 1 3 plain (empty_cells 5) more_price_items ≡ Ok tt)
    × (open_reply gateway 1 2 plain (empty_cells 5) the_price_items ≡ Ok tt)
unfolding line_fault lines_fault descending into meets_empty meets_key first all some dist probe wrap
empty-opens = (refl, refl, refl)

prices-open : (open_reply gateway 1 2 plain at_prices reprice_items ≡ Ok tt)
    × (open_reply gateway 2 1 plain at_prices [] ≡ Ok tt)
    × (open_reply gateway 3 2 plain at_prices wrong_lines ≡ Ok tt)
unfolding line_fault lines_fault descending into meets_empty meets_key first all some dist probe wrap
prices-open = (refl, refl, refl)

thirteen-opens : open_reply gateway 2 1 plain with_thirteen [] ≡ Ok tt
unfolding meets_empty meets_key first all some dist probe wrap
thirteen-opens = refl

four-refused : (os : List Order) → open_reply gateway 4 1 plain four os ≢ (Ok tt)
unfolding meets_empty meets_key first all some dist probe wrap
four-refused os e = let z : ◌≡◌ {A = ℕ} 3 0 = ap reply_number e in omega arith

seven-refused : open_reply gateway 1 1 plain (ones (0 ∷ 7 ∷ [])) (one_line 4 1 0) ≢ (Ok tt)
unfolding line_fault lines_fault descending into meets_empty meets_key first all some dist probe wrap
seven-refused e = let z : ◌≡◌ {A = ℕ} 9 0 = ap reply_number e in omega arith

-- ---- the lists of calls are closed, and order the same keys
take-out-closed : ((after gateway 2 2 plain four [] together).closed ≡ true) × ((after gateway 2 1 plain four [] in_sequence).closed ≡ true)
unfolding turns_of rounds run call is_well_formed meets_empty meets_key first all some dist probe wrap prev rule delete_step fits narrow
take-out-closed = (refl, refl)

take-out-keys : SameOrders 2 label (after gateway 2 2 plain four [] together).ordered (after gateway 2 1 plain four [] in_sequence).ordered
unfolding all_in listed turns_of rounds run call is_well_formed meets_empty meets_key first all some dist probe wrap prev rule delete_step fits narrow
take-out-keys =
    same_keys 2 (λ z. omega arith) (after gateway 2 2 plain four [] together).ordered (after gateway 2 1 plain four [] in_sequence).ordered tt tt

take-out-ordered : (after gateway 2 2 plain four [] together).ordered ≡ content 8 0 ∷ content 13 0 ∷ []
unfolding turns_of rounds run call is_well_formed meets_empty meets_key first all some dist probe wrap prev rule delete_step fits narrow
take-out-ordered = refl

put-in-closed : ((after gateway 1 2 plain (empty_cells 5) sheet_items (calls_of sheet_puts_in)).closed ≡ true)
    × ((after gateway 1 3 plain (empty_cells 5) three_items three_put_in).closed ≡ true)
unfolding turns_of rounds run call is_well_formed
    line_fault lines_fault descending into meets_empty meets_key first all some dist probe wrap rule settled absorbed insert_step
put-in-closed = (refl, refl)

put-in-keys : SameOrders 1 label (after gateway 1 2 plain (empty_cells 5) sheet_items (calls_of sheet_puts_in)).ordered
    (after gateway 1 3 plain (empty_cells 5) three_items three_put_in).ordered
unfolding least_in listed lesser least turns_of rounds run call is_well_formed
    line_fault lines_fault descending into meets_empty meets_key first all some dist probe wrap rule settled absorbed insert_step
put-in-keys =
    same-orders 1 (after gateway 1 2 plain (empty_cells 5) sheet_items (calls_of sheet_puts_in)).ordered
    (after gateway 1 3 plain (empty_cells 5) three_items three_put_in).ordered tt tt

prices-closed : ((after gateway 1 2 plain (empty_cells 5) price_items two_price).closed ≡ true)
    × ((after gateway 1 3 plain (empty_cells 5) more_price_items three_price).closed ≡ true)
unfolding turns_of rounds run call is_well_formed
    line_fault lines_fault descending into meets_empty meets_key first all some dist probe wrap rule settled absorbed insert_step
prices-closed = (refl, refl)

prices-keys : SameOrders 1 label (after gateway 1 2 plain (empty_cells 5) price_items two_price).ordered
    (after gateway 1 3 plain (empty_cells 5) more_price_items three_price).ordered
unfolding least_in listed lesser least turns_of rounds run call is_well_formed
    line_fault lines_fault descending into meets_empty meets_key first all some dist probe wrap rule settled absorbed insert_step
prices-keys =
    same-orders 1 (after gateway 1 2 plain (empty_cells 5) price_items two_price).ordered
    (after gateway 1 3 plain (empty_cells 5) more_price_items three_price).ordered tt tt

the-prices-closed : (after gateway 1 2 plain (empty_cells 5) the_price_items the_prices).closed ≡ true
unfolding turns_of rounds run call is_well_formed
    line_fault lines_fault descending into meets_empty meets_key first all some dist probe wrap rule settled absorbed insert_step
the-prices-closed = refl

thirteen-closed : (after gateway 2 1 plain with_thirteen [] thirteen_out).closed ≡ true
unfolding turns_of rounds run call is_well_formed meets_empty meets_key first all some dist probe wrap prev rule delete_step fits narrow
thirteen-closed = refl

-- 13 taken out of the one table, 8 and 3 put into the other
left_over : SameLeast label (entries_after 2 (after gateway 2 1 plain with_thirteen [] thirteen_out).ordered with_thirteen)
    (entries_after 1 (after gateway 1 2 plain (empty_cells 5) the_price_items the_prices).ordered (empty_cells 5))
unfolding without_labels least_in listed lesser least turns_of rounds run call is_well_formed line_fault lines_fault descending into
    meets_empty meets_key first all some dist probe wrap prev rule settled absorbed insert_step delete_step fits narrow
left_over = same-prices (entries_after 2 (after gateway 2 1 plain with_thirteen [] thirteen_out).ordered with_thirteen)
    (entries_after 1 (after gateway 1 2 plain (empty_cells 5) the_price_items the_prices).ordered (empty_cells 5)) tt tt

none-ordered : (after gateway 2 2 plain four [] (turn 0 ∷ handed 1 0 ∷ handed 2 8 ∷ turn 1 ∷ [])).ordered ≡ []
unfolding run call is_well_formed meets_empty meets_key first all some dist probe wrap
none-ordered = refl

-- ---- lists that are not closed
one-pending : (get_or (after gateway 2 2 plain four [] one_ordered).pending 0 0 ≡ content 13 0)
    × (get_or (after gateway 2 2 plain four [] one_ordered).pending 1 0 ≡ 0)
unfolding run call is_well_formed meets_empty meets_key first all some dist probe wrap
one-pending = (refl, refl)

-- the answers of the turns, counted
turns-worked : count worked (turn_replies gateway [] together (opening gateway 2 2 plain four [])) ≡ 27
unfolding turn_replies turns_of rounds run call is_well_formed meets_empty meets_key first all some dist probe wrap prev count rule delete_step fits narrow
turns-worked = refl

take-out-claim : Claim gateway 2 2 plain four [] together
take-out-claim = histories.history gateway gateway-proper 2 2 plain four [] four-opens.0 together

one-claim : Claim gateway 2 2 plain four [] one_ordered
one-claim = histories.history gateway gateway-proper 2 2 plain four [] four-opens.0 one_ordered

half-claim : Claim gateway 1 2 plain (empty_cells 5) sheet_items half_put_in
half-claim = histories.history gateway gateway-proper 1 2 plain (empty_cells 5) sheet_items sheet-opens.0 half_put_in

look-claim : Claim gateway 3 2 plain four [] (calls_of looks_up)
look-claim = histories.history gateway gateway-proper 3 2 plain four [] four-looks (calls_of looks_up)

half-ordered : In 3 (labels label (after gateway 1 2 plain (empty_cells 5) sheet_items half_put_in).ordered)
unfolding listed turns_of rounds run call is_well_formed
    line_fault lines_fault descending into meets_empty meets_key first all some dist probe wrap rule settled absorbed insert_step
half-ordered = is-in 3 (labels label (after gateway 1 2 plain (empty_cells 5) sheet_items half_put_in).ordered) tt

-- not closed, and worker 0 is idle again
half-open : ((after gateway 1 2 plain (empty_cells 5) sheet_items half_put_in).closed ≡ false)
    × (doing (after gateway 1 2 plain (empty_cells 5) sheet_items half_put_in).phase 0 ≡ Idle)
unfolding turns_of rounds run call is_well_formed
    line_fault lines_fault descending into meets_empty meets_key first all some dist probe wrap rule settled absorbed insert_step
half-open = (refl, refl)

three-unordered : In 3 (labels label (after gateway 2 2 plain four [] together).ordered) → ⊥
unfolding listed turns_of rounds run call is_well_formed meets_empty meets_key first all some dist probe wrap prev rule delete_step fits narrow
three-unordered = not_in 3 (labels label (after gateway 2 2 plain four [] together).ordered) tt

-- 4 was ordered once, and its order has finished
four-looked : (count (λ x. eqb (label x) 4) (after gateway 3 2 plain four [] (calls_of looks_up)).pending ≡ 0)
    × (count (λ x. eqb (label x) 4) (after gateway 3 2 plain four [] (calls_of looks_up)).ordered ≡ 1)
unfolding run call is_well_formed meets_empty meets_key first all some dist probe wrap count rule find_step
four-looked = (refl, refl)

-- ---- prices
priced-claim : Claim gateway 1 2 plain (empty_cells 5) price_items two_price
priced-claim = histories.history gateway gateway-proper 1 2 plain (empty_cells 5) price_items empty-opens.0 two_price

half-priced-claim : Claim gateway 1 2 plain (empty_cells 5) price_items half_priced
half-priced-claim = histories.history gateway gateway-proper 1 2 plain (empty_cells 5) price_items empty-opens.0 half_priced

repriced-claim : Claim gateway 1 2 plain at_prices reprice_items repriced
repriced-claim = histories.history gateway gateway-proper 1 2 plain at_prices reprice_items prices-open.0 repriced

taken-claim : Claim gateway 2 1 plain at_prices [] taken_out
taken-claim = histories.history gateway gateway-proper 2 1 plain at_prices [] prices-open.1 taken_out

half-taken-claim : Claim gateway 2 1 plain at_prices [] half_taken
half-taken-claim = histories.history gateway gateway-proper 2 1 plain at_prices [] prices-open.1 half_taken

price-claim : Claim gateway 3 2 plain at_prices wrong_lines (calls_of any_line)
price-claim = histories.history gateway gateway-proper 3 2 plain at_prices wrong_lines prices-open.2 (calls_of any_line)

-- the least and a greater price ordered for 8
eight-least : Least label ((after gateway 1 2 plain (empty_cells 5) price_items two_price).ordered ++ empty_cells 5) (content 8 3)
unfolding listed lesser least turns_of rounds run call is_well_formed
    line_fault lines_fault descending into meets_empty meets_key first all some dist probe wrap rule settled absorbed insert_step
eight-least =
    let xs = (after gateway 1 2 plain (empty_cells 5) price_items two_price).ordered ++ empty_cells 5 in
    is-least xs (content 8 3) (apart 8 0 tt) (is-in (content 8 3) xs tt) tt

eight-dearer : Least label ((after gateway 1 2 plain (empty_cells 5) price_items two_price).ordered ++ empty_cells 5) (content 8 5) → ⊥
eight-dearer l = let z : content 8 5 ≤ content 8 3 = l.most (content 8 3) eight-least.member refl in omega arith

half-least : Least label ((after gateway 1 2 plain (empty_cells 5) price_items half_priced).ordered ++ empty_cells 5) (content 8 3)
unfolding listed lesser least turns_of rounds run call is_well_formed
    line_fault lines_fault descending into meets_empty meets_key first all some dist probe wrap rule settled absorbed insert_step
half-least =
    let xs = (after gateway 1 2 plain (empty_cells 5) price_items half_priced).ordered ++ empty_cells 5 in
    is-least xs (content 8 3) (apart 8 0 tt) (is-in (content 8 3) xs tt) tt

never-ordered : In (content 8 4) ((after gateway 1 2 plain (empty_cells 5) price_items half_priced).ordered ++ empty_cells 5) → ⊥
unfolding listed turns_of rounds run call is_well_formed
    line_fault lines_fault descending into meets_empty meets_key first all some dist probe wrap rule settled absorbed insert_step
never-ordered = not_in (content 8 4) ((after gateway 1 2 plain (empty_cells 5) price_items half_priced).ordered ++ empty_cells 5) tt

-- 8 keeps its price at opening, 3 gets a lower one
repriced-closed : (after gateway 1 2 plain at_prices reprice_items repriced).closed ≡ true
unfolding turns_of rounds run call is_well_formed
    line_fault lines_fault descending into meets_empty meets_key first all some dist probe wrap rule settled absorbed insert_step
repriced-closed = refl

repriced-least : Least label ((after gateway 1 2 plain at_prices reprice_items repriced).ordered ++ at_prices) (content 8 9)
    × Least label ((after gateway 1 2 plain at_prices reprice_items repriced).ordered ++ at_prices) (content 3 2)
unfolding listed lesser least turns_of rounds run call is_well_formed
    line_fault lines_fault descending into meets_empty meets_key first all some dist probe wrap rule settled absorbed insert_step
repriced-least =
    let xs = (after gateway 1 2 plain at_prices reprice_items repriced).ordered ++ at_prices in (
      is-least xs (content 8 9) (apart 8 0 tt) (is-in (content 8 9) xs tt) tt,
      is-least xs (content 3 2) (apart 3 0 tt) (is-in (content 3 2) xs tt) tt,
    )

three-dearer : Least label ((after gateway 1 2 plain at_prices reprice_items repriced).ordered ++ at_prices) (content 3 7) → ⊥
three-dearer l = let z : content 3 7 ≤ content 3 2 = l.most (content 3 2) repriced-least.1.member refl in omega arith

-- taken out: 8 was ordered, 3 was not
taken-closed : (after gateway 2 1 plain at_prices [] taken_out).closed ≡ true
unfolding turns_of rounds run call is_well_formed meets_empty meets_key first all some dist probe wrap prev rule delete_step fits narrow
taken-closed = refl

eight-taken : In 8 (labels label (after gateway 2 1 plain at_prices [] taken_out).ordered)
unfolding listed turns_of rounds run call is_well_formed meets_empty meets_key first all some dist probe wrap prev rule delete_step fits narrow
eight-taken = is-in 8 (labels label (after gateway 2 1 plain at_prices [] taken_out).ordered) tt

three-kept : (In 3 (labels label (after gateway 2 1 plain at_prices [] taken_out).ordered) → ⊥)
    × (In 3 (labels label (after gateway 2 1 plain at_prices [] half_taken).ordered) → ⊥)
unfolding listed turns_of rounds run call is_well_formed meets_empty meets_key first all some dist probe wrap prev rule delete_step fits narrow
three-kept = (
  not_in 3 (labels label (after gateway 2 1 plain at_prices [] taken_out).ordered) tt,
  not_in 3 (labels label (after gateway 2 1 plain at_prices [] half_taken).ordered) tt,
)

three-there : In (content 3 7) at_prices
unfolding listed
three-there = is-in (content 3 7) at_prices tt

no-three : In (content 3 8) at_prices → ⊥
unfolding listed
no-three = not_in (content 3 8) at_prices tt

-- looked up: 4 last, 3 before it
looked : (1 < length (after gateway 3 2 plain at_prices wrong_lines (calls_of any_line)).said)
    × (label (saying_at (after gateway 3 2 plain at_prices wrong_lines (calls_of any_line)).said 0).wanted ≡ 4)
    × (label (saying_at (after gateway 3 2 plain at_prices wrong_lines (calls_of any_line)).said 1).wanted ≡ 3)
unfolding run call is_well_formed meets_empty meets_key first all some dist probe wrap rule find_step
looked = (omega arith, refl, refl)

three-sold : Sold label at_prices 3 7
three-sold = record { content = content 3 7; member = three-there; is = refl; costs = refl }

four-unsold : (p : ℕ) → Sold label at_prices 4 p → ⊥
unfolding listed
four-unsold p s =
    not_in 4 (labels label at_prices) tt
    (subst (λ (l : ℕ). In l (labels label at_prices)) s.is (in-labels label at_prices s.content s.member))

three-costs : (saying_at (after gateway 3 2 plain at_prices wrong_lines (calls_of any_line)).said 1).price ≡ 7
three-costs =
    let said = (after gateway 3 2 plain at_prices wrong_lines (calls_of any_line)).said in
    let (l, _, e) = looked in
    ((right-at at_prices said (price-claim.right refl) 1 l 7).1 (subst (λ (x : ℕ). Sold label at_prices x 7) (sym e) three-sold)).1

four-not-found : T (saying_at (after gateway 3 2 plain at_prices wrong_lines (calls_of any_line)).said 0).found → ⊥
four-not-found h =
    let said = (after gateway 3 2 plain at_prices wrong_lines (calls_of any_line)).said in
    let (l, e, _) = looked in
    let p : ℕ = (saying_at said 0).price in
    four-unsold p (subst (λ (x : ℕ). Sold label at_prices x p) e ((right-at at_prices said (price-claim.right refl) 0 (omega arith) p).0 (h, refl)))

-- ---- the same events
events-idle : AllIdle (events.after 2 5 2 label (spread plain 5) four events_together)
    × AllIdle (events.after 2 5 1 label (spread plain 5) four events_in_sequence)
unfolding none_busy round schedules.rounds steps events.run event accepts ordered stepped rule delete_step fits narrow dist wrap prev count
events-idle = (
  idle_all (events.after 2 5 2 label (spread plain 5) four events_together).workers tt,
  idle_all (events.after 2 5 1 label (spread plain 5) four events_in_sequence).workers tt,
)

events-keys : SameOrders 2 label (events.after 2 5 2 label (spread plain 5) four events_together).ordered
    (events.after 2 5 1 label (spread plain 5) four events_in_sequence).ordered
unfolding all_in listed round schedules.rounds steps events.run event accepts ordered stepped rule delete_step fits narrow dist wrap prev count
events-keys =
    same_keys 2 (λ z. omega arith) (events.after 2 5 2 label (spread plain 5) four events_together).ordered
    (events.after 2 5 1 label (spread plain 5) four events_in_sequence).ordered tt tt

-- ---- tables
four-sound : SoundTable 5 (spread plain 5) four
unfolding meets_empty meets_key first all some dist probe wrap
four-sound = (sound-says plain four).0 tt

four-priced : PricedSound 5 label (spread plain 5) four
four-priced = contents.priced 5 (spread plain 5) four four-sound

four-in-words : Soundness gateway plain four
four-in-words = (sounds.words gateway plain four).0 four-sound

four-kinds : Intact four × (Gapped (spread plain 5) four → ⊥) × (Disordered (spread plain 5) four → ⊥)
four-kinds = (sounds.kinds gateway gateway-proper plain four).0 four-in-words

priced_damaged : Damaged (0 ∷ 0 ∷ 0 ∷ content 8 10000000 ∷ 0 ∷ [])
priced_damaged = inr (record { cell = 3; inside = omega arith; filled = apart (content 8 10000000) 0 tt; wrong = inr (inr (omega arith)) })

five-rules : Rules 5 label (spread plain 5)
five-rules = record { blank = refl; inside = λ x. mod-lt (mixed plain x) (zero-lt-suc 4) }

-- two keys stand before cell 3, which holds 13
two-before : keys_before four 3 ≡ 2
unfolding count
two-before = refl

four-size : size (labels label four) ≡ 4
unfolding descending into
four-size = refl

five-cells : Size gateway 5
five-cells = (omega arith, omega arith)

-- ---- the kinds of unsound
homes : (x : ℕ) → spread plain 5 x < 5
homes x = mod-lt (mixed plain x) (zero-lt-suc 4)

two-intact : Intact two_in_order
unfolding all some
two-intact = (flaws.kinds (spread plain 5) two_in_order).intact.0 refl

-- of none
two-kinds : Intact two_in_order × (Gapped (spread plain 5) two_in_order → ⊥) × (Disordered (spread plain 5) two_in_order → ⊥)
two-kinds = (two-intact, λ d. in_order d.cell d.steps d.breaks, λ d. in_order d.cell d.steps d.breaks)

-- 8 in cell 0 meets the empty cell 4, behind 13
decides-on-way : FirstOnPath 5 (spread plain 5) (8 ∷ 0 ∷ 0 ∷ 13 ∷ 0 ∷ []) 0 4
unfolding probe wrap
decides-on-way = (flaws.ways 5 (spread plain 5) (8 ∷ 0 ∷ 0 ∷ 13 ∷ 0 ∷ []) (λ _. homes)).first 0 1 behind-thirteen

torn-gap : meets_empty (spread plain 5) (torn 2 old_image (empty_cells 5)) ≡ true
unfolding meets_empty first dist probe wrap
torn-gap = refl

torn-disorder : meets_key (spread plain 5) (torn 1 old_image new_image) ≡ true
unfolding meets_key first dist probe wrap
torn-disorder = refl

prices-pass : reply_number (check_call gateway plain at_prices) ≡ 0
unfolding meets_empty meets_key first all some dist probe wrap
prices-pass = refl

-- its entries are the least ones of its keys in any order
four_same : SameLeast label four four_keys
unfolding least_in listed lesser least
four_same = same-prices four four_keys tt tt

four-own : (y : ℕ) → label y ≢ 0 → In y four → Least label four y
unfolding own_least lesser least
four-own y nz i = is-least four y nz i (own-least four four tt y i)

four-keys : (y : ℕ) → label y ≢ 0 → Holds 5 four y ↔ Least label four_keys y
four-keys y nz = (λ h. (four_same y nz).0 (four-own y nz (held_in 5 four y refl h)), λ l. in-holds 5 four y refl ((four_same y nz).1 l).member)

-- ---- turns
turns-pass : (turn_check gateway few_workers four 1 ≡ Ok tt) × (turn_check gateway many_workers altered 7 ≡ Ok tt)
unfolding is_well_formed
turns-pass = (refl, refl)

cell-alike : (c : ℕ) → ◌≡◌ {A = (Option ℕ)} (Some 4) (Some c) → get_or four c 0 ≡ get_or altered c 0
cell-alike c e = let z : 4 ≡ c = cc in subst (λ (x : ℕ). get_or four x 0 ≡ get_or altered x 0) z refl

alike : Alike gateway few_workers many_workers four altered 1 7
alike = two_turns gateway few_workers many_workers four altered 1 7 turns-pass.0 turns-pass.1 refl refl refl refl cell-alike

other_place : (c : ℕ) → c ≢ 4 → ◌≢◌ {A = (Option ℕ)} (Some 4) (Some c)
other_place c ne e = let z : c ≡ 4 = cc in ne z

-- ---- listing
list-accepted : count_number (list_call gateway plain four six_places) ≡ 0
list-accepted =
    let (_, (_, (_, (_, (_, (_, none)))))) = (tables gateway gateway-proper plain four six_places).list in
    let (whole, gapless, ordered) = four-kinds in
    let l : size (labels label four) ≤ 6 = omega (arith, four-size) in
    none.1 ((((((tt, five-cells), plain-odd), whole), gapless), ordered), l)

list_short : count_number (list_call gateway plain four (70 ∷ 71 ∷ 72 ∷ [])) ≡ 12
list_short =
    let (_, (_, (_, (_, (_, (twelve, _)))))) = (tables gateway gateway-proper plain four (70 ∷ 71 ∷ 72 ∷ [])).list in
    let (whole, gapless, ordered) = four-kinds in
    let l : 3 < size (labels label four) = omega (arith, four-size) in
    twelve.1 ((((((tt, five-cells), plain-odd), whole), gapless), ordered), l)

-- ---- the check
check-disorder : reply_number (check_call gateway plain disordered) ≡ 18
check-disorder =
    let (_, (_, (_, (_, (eighteen, _))))) = (tables gateway gateway-proper plain disordered []).check in
    eighteen.1 (((((tt, five-cells), plain-odd), disordered-intact), λ g. (flaws.kinds (spread plain 5) disordered).apart g disordered-is), disordered-is)

check-gap : reply_number (check_call gateway plain gapped) ≡ 17
check-gap =
    let (_, (_, (_, (seventeen, _)))) = (tables gateway gateway-proper plain gapped []).check in
    seventeen.1 ((((tt, five-cells), plain-odd), gapped-intact), gapped-is)

-- without an empty cell, and with a price out of range
check-four : (reply_number (check_call gateway plain full) ≡ 4) × (reply_number (check_call gateway plain (0 ∷ 0 ∷ 0 ∷ content 8 10000000 ∷ 0 ∷ [])) ≡ 4)
check-four =
    let (_, (_, (four-full, _))) = (tables gateway gateway-proper plain full []).check in
    let (_, (_, (four-price, _))) = (tables gateway gateway-proper plain (0 ∷ 0 ∷ 0 ∷ content 8 10000000 ∷ 0 ∷ []) []).check in
    (four-full.1 (((tt, five-cells), plain-odd), full_damaged), four-price.1 (((tt, five-cells), plain-odd), priced_damaged))

enough : count_of two_groups ≤ 6
enough = let e : count_of two_groups ≡ 4 = count-occupied two_groups in omega arith

each-group : (g : ℕ) → g < 2 → In g (1 ∷ 0 ∷ 1 ∷ [])
each-group zero l = inr (inl refl)
each-group (suc zero) l = inl refl
each-group (suc (suc g)) l = let bad : ⊥ = omega arith in absurd bad

-- group 1 has place 3, and the next one would have 4
second-before : (keys_before two_groups 64 ≡ 3) × (keys_before two_groups 128 ≡ 4)
unfolding count
second-before = (refl, refl)

second-places : (place_of two_groups 1 ≡ 3) × (place_of two_groups 2 ≡ 4)
second-places = ((listings two_groups).place 1 ∙ second-before.0, (listings two_groups).place 2 ∙ second-before.1)

second-only : (g : ℕ) → In g (1 ∷ 1 ∷ []) → place_of two_groups g ≤ 2 → 2 < place_of two_groups (suc g) → ⊥
second-only g (inl e) l r = let h : place_of two_groups 1 ≤ 2 = rw e at l in omega (arith, second-places.0)
second-only g (inr (inl e)) l r = let h : place_of two_groups 1 ≤ 2 = rw e at l in omega (arith, second-places.0)
second-only g (inr (inr i)) l r = absurd i

four-counted : count_value (count_call gateway plain four) ≡ 4
four-counted = (tables gateway gateway-proper plain four []).count_true (five-cells, plain-odd, four-in-words) ∙ four-size

-- a refused count has the value 0
gapped-counted : count_value (count_call gateway plain gapped) ≡ 0
gapped-counted = go (count_call gateway plain gapped) ((tables gateway gateway-proper plain gapped []).count_refused ∙ check-gap)
  where
    go : (a : Counted) → count_number a ≡ 17 → count_value a ≡ 0
    go (Ok c) e = absurd (omega arith)
    go (Err why) e = refl

four-before : keys_before four 5 ≡ 4
unfolding count
four-before = refl

-- ---- all of them
pub corollaries : Corollaries
corollaries =
    let lists = tables gateway gateway-proper plain four six_places in
    let step = group-steps four six_places in
    record {
      take_out =
          one_table gateway gateway gateway-proper gateway-proper 2 2 1 plain plain four [] [] (λ x. refl) four-opens.0 four-opens.1 together
          in_sequence take-out-keys take-out-closed.0 take-out-closed.1;
      put_in =
          one_table gateway gateway gateway-proper gateway-proper 1 2 3 plain plain (empty_cells 5) sheet_items three_items (λ x. refl) sheet-opens.0
          sheet-opens.1 (calls_of sheet_puts_in) three_put_in put-in-keys put-in-closed.0 put-in-closed.1;
      one_end =
          one_end 2 5 2 1 (inr (inl refl)) label (spread plain 5) five-rules four four-priced events_together events_in_sequence (λ z. absurd (apart 2 1 tt z))
          events-keys events-idle.0 events-idle.1;
      laid_out =
          take-out-claim.closed take-out-closed.0
          ∙ ap (λ (xs : List ℕ). priced_layout 5 label (spread plain 5) (without_labels label xs four)) take-out-ordered;
      put_in_prices =
          one_table gateway gateway gateway-proper gateway-proper 1 2 3 plain plain (empty_cells 5) price_items more_price_items (λ x. refl) empty-opens.0
          empty-opens.1 two_price three_price prices-keys prices-closed.0 prices-closed.1;
      fixed =
          fixed gateway gateway gateway-proper gateway-proper 2 1 1 2 plain plain with_thirteen (empty_cells 5) [] the_price_items refl (λ x. refl)
          thirteen-opens empty-opens.2 thirteen_out the_prices left_over thirteen-closed the-prices-closed;
      sound =
          subst (λ (n : ℕ). SoundTable n (spread plain n) (after gateway 1 2 plain (empty_cells 5) price_items two_price).table)
          priced-claim.numbers.sized (priced-claim.sound prices-closed.0);
      sound_in_words =
          (sounds.words gateway plain (after gateway 1 2 plain (empty_cells 5) price_items two_price).table).0 (priced-claim.sound prices-closed.0);
      right_cells = half-priced-claim.cells;
      cheapest = (priced-claim.cheapest refl prices-closed.0 (content 8 3) (apart 8 0 tt)).1 eight-least;
      not_dearer = λ i. eight-dearer ((priced-claim.cheapest refl prices-closed.0 (content 8 5) (apart 8 0 tt)).0 i);
      opening_price = (repriced-claim.cheapest refl repriced-closed (content 8 9) (apart 8 0 tt)).1 repriced-least.0;
      lower_price = (repriced-claim.cheapest refl repriced-closed (content 3 2) (apart 3 0 tt)).1 repriced-least.1;
      price_gone = λ i. three-dearer ((repriced-claim.cheapest refl repriced-closed (content 3 7) (apart 3 0 tt)).0 i);
      hands_back = λ os cs. (refused gateway 4 1 plain four os (four-refused os) cs).0;
      full_handed_back = λ cs. (refused gateway 1 1 plain (ones (0 ∷ 7 ∷ [])) (one_line 4 1 0) seven-refused cs).0;
      kept = (keeps_table gateway gateway-proper 2 2 plain four [] four-opens.0).no_orders (turn 0 ∷ handed 1 0 ∷ handed 2 8 ∷ turn 1 ∷ []) none-ordered;
      at_once = (keeps_table gateway gateway-proper 2 2 plain four [] four-opens.0).at_once.0;
      at_once_kept = (keeps_table gateway gateway-proper 2 2 plain four [] four-opens.0).at_once.1;
      counts = take-out-claim.counts ∙ turns-worked;
      bounded =
          subst (λ (xs : List ℕ). (after gateway 2 2 plain four [] together).counted < most_steps 5 2 (length xs)) take-out-ordered take-out-claim.bounded;
      shut = take-out-claim.shut ∙ take-out-closed.0;
      working = λ e. let z = (one-claim.unfinished 0).1 e in omega (arith, one-pending.0, z);
      resting = (one-claim.unfinished 1).0 one-pending.1;
      numbers = take-out-claim.numbers.crew;
      formed = take-out-claim.formed;
      acceptable = λ y i. (priced-claim.acceptable y i).priced refl;
      listed_only = priced-claim.listed refl;
      accepts = half-claim.accepts refl half-open.0 2 (omega arith) half-open.1;
      accepts_again = half-claim.accepts refl half-open.0 0 (omega arith) half-open.1;
      ordering = half-claim.ordering refl;
      union = (half-claim.union refl 3 (λ z. omega arith)).1 (inr half-ordered);
      least_there = (half-priced-claim.prices refl (content 8 3) (apart 8 0 tt)).1 half-least;
      none_else = λ i. never-ordered (half-priced-claim.only refl (content 8 4) (apart 8 0 tt) i);
      untouched = take-out-claim.kept refl (one 3) (apart 3 0 tt) (inr (inl refl)) three-unordered;
      keeps_price = half-taken-claim.kept refl (content 3 7) (apart 3 0 tt) three-there three-kept.1;
      none_new = λ i. no-three (half-taken-claim.none_new refl (content 3 8) (apart (content 3 8) 0 tt) i);
      stays = (taken-claim.remaining refl taken-closed (content 3 7) (apart 3 0 tt)).1 (three-there, three-kept.0);
      gone = λ i. ((taken-claim.remaining refl taken-closed (content 8 9) (apart 8 0 tt)).0 i).1 eight-taken;
      unchanged = look-claim.unchanged refl;
      right = look-claim.right refl;
      price_said = three-costs;
      no_said = four-not-found;
      each = let e = look-claim.each refl 4 (λ z. omega arith) in omega (arith, e, four-looked.0, four-looked.1);
      replies = alike.replies;
      records = alike.records;
      cells = alike.cells 4 refl;
      other_cells = λ c ne. alike.other_cells c (other_place c ne);
      other_workers = alike.other_workers;
      one_layout = (layouts 5 label (spread plain 5) five-rules.blank five-rules.inside).unique four_keys four four-priced four-keys;
      passes = (tables gateway gateway-proper plain four []).passes.1 (five-cells, plain-odd, four-in-words);
      passed_sound = ((tables gateway gateway-proper plain at_prices []).passes.0 prices-pass).2;
      refuses_disorder = check-disorder;
      refuses_gap = check-gap;
      refuses_full = check-four.0;
      refuses_price = check-four.1;
      count = four-counted;
      intact_passes = (flaws.kinds (spread plain 5) disordered).intact.1 disordered-intact;
      gap_passes = (flaws.kinds (spread plain 5) gapped).gapped.1 gapped-is;
      disorder_passes = (flaws.kinds (spread plain 5) disordered).disordered.1 disordered-is;
      intact_said = two-intact;
      gap_said = (flaws.kinds (spread plain 5) (torn 2 old_image (empty_cells 5))).gapped.0 torn-gap;
      disorder_said = (flaws.kinds (spread plain 5) (torn 1 old_image new_image)).disordered.0 torn-disorder;
      not_both = (flaws.kinds (spread plain 5) gapped).apart gapped-is;
      no_kind = (flaws.sound (spread plain 5) two_in_order (λ _. homes)).1 two-kinds;
      no_kind_in_words = (sounds.kinds gateway gateway-proper plain two_in_order).1 two-kinds;
      of_a_kind = λ s. let (_, gapless, _) = (sounds.kinds gateway gateway-proper plain gapped).0 s in gapless gapped-is;
      met_on_way = decides-on-way;
      broken_way =
          ((flaws.ways 5 (spread plain 5) (8 ∷ 0 ∷ 0 ∷ 13 ∷ 0 ∷ []) (λ _. homes)).broken 0 (omega arith) (apart 8 0 tt)).1
          (4, omega arith, decides-on-way.on_path, omega arith);
      full_damaged = full_damaged;
      priced_damaged = priced_damaged;
      listed = ap (λ (i : ℕ). get_or (list_after gateway plain four six_places) i 0) (sym two-before) ∙ lists.listed list-accepted 3 (apart 13 0 tt);
      behind = lists.behind list-accepted 4 (omega (arith, four-size));
      front = ap (λ (i : ℕ). get_or (list_front gateway plain four six_places) i 0) (sym two-before) ∙ lists.front list-accepted 3 (apart 13 0 tt);
      front_long = lists.front_long list-accepted ∙ four-size;
      short = list_short;
      unlisted = (tables gateway gateway-proper plain four (70 ∷ 71 ∷ 72 ∷ [])).unlisted (λ z. let e = list_short in omega arith);
      by_count = lists.list_counts (omega (arith, four-counted));
      short_by_count = (tables gateway gateway-proper plain four []).list_short (omega (arith, four-counted));
      refused_by_count = (tables gateway gateway-proper plain gapped []).list_counts (omega (arith, gapped-counted));
      step_writes = ap (λ (i : ℕ). get_or (filled four six_places) i 0) (sym two-before) ∙ step.writes 3 (apart 13 0 tt);
      step_keeps = step.keeps 4 (omega (arith, four-before));
      step_long = step.long (omega (arith, four-before));
      step_number = step.number ∙ four-before;
      step_ones = step.by_word ∙ four-before;
      in_place = (listings two_groups).in_place 1 six_places (omega (arith, second-places.1));
      one_pass = (listings two_groups).one_pass 1 six_places;
      whole_pass = (listings two_groups).whole six_places;
      any_order = (listings two_groups).any_order (1 ∷ 0 ∷ 1 ∷ []) six_places enough each-group;
      group_fills = (listings two_groups).group_fills 1 3 six_places (omega arith) (omega (arith, second-places.0)) (omega (arith, second-places.1));
      group_keeps = (listings two_groups).group_keeps 1 2 six_places (λ l _. omega (arith, second-places.0));
      groups_fill =
          (listings two_groups).groups_fill (1 ∷ 1 ∷ []) six_places 1 3 (omega arith) (inl refl) (omega (arith, second-places.0)) (omega (arith, second-places.1));
      groups_keep = (listings two_groups).groups_keep (1 ∷ 1 ∷ []) six_places 2 second-only;
      groups_long = (listings two_groups).groups_long (1 ∷ 1 ∷ []) six_places;
      last_group = (listings two_groups).no_more 1;
    }
