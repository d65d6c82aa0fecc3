-- The corollaries on homes that spread, each by its promise. Premises are computed, conclusions are not.
use Rattle.std.specs.Prelude.{Option, ℕ, Some, Ok}
use mathlib.Core.Path.{◌≡◌, refl, sym, ap, ◌∙◌, subst}
use mathlib.Core.Logic.{◌≢◌, ◌⊎◌, inl, inr}
use mathlib.Core.Bool.{Bool, true, false, false≢true}
use mathlib.Core.List.{List, [], ◌∷◌, ◌++◌}
use Prim.Native.Nat.{ℕ, ◌≤◌}
use native.Mathlib.Omega.{arith}
use lib.ListN.{length, get_or}
use Rattle.ring.specs.Counting.{count}
use Rattle.ring.specs.Each.{all, some, first}
use Rattle.ring.specs.Ring.{wrap, probe, dist, prev}
use Rattle.ring.proofs.Split.{by-eq}
use Rattle.layout.specs.Layout.{into, descending, size, listed}
use Rattle.layout.specs.Sound.{OnPath}
use Rattle.homes.specs.Homes.{hash_of, plain, spread}
use Rattle.homes.specs.Promise.{Even, Odd}
use Rattle.homes.specs.declared.Hash.{Hash}
use Rattle.homes.proofs.Theorem.{homes-promise}
use Rattle.prices.specs.Contents.{label, content}
use Rattle.prices.specs.Priced.{labels, lesser, least, SameLeast, priced_layout, without_labels}
use Rattle.flaws.specs.Flaws.{meets_empty, meets_key}
use Rattle.flaws.specs.Promise.{Intact, Gapped}
use Rattle.flaws.proofs.Theorem.{theorem as flaws}
use Rattle.orders.specs.Orders.{line_fault, lines_fault}
use Rattle.orders.specs.declared.Order.{Order}
use Rattle.words.specs.Promise.{keys_before}
use Rattle.activities.specs.declared.Activity.TheVariants.{Reading, WalkingBack, SeekingForward, SeekingBack}
use Rattle.rule.specs.declared.Answer.TheVariants.{WentOn, Finished}
use Rattle.rule.specs.Rule.{settled, absorbed, insert_step, fits, narrow, delete_step, rule}
use Rattle.rule.specs.Schedules.{one, ones}
use Rattle.phases.specs.Promise.{SameOrders}
use Rattle.state.specs.Counts.{count_number}
use Rattle.state.specs.Model.{Proper, gateway}
use Rattle.state.specs.Open.{open_reply, open_call}
use Rattle.state.specs.Refusals.{reply_number}
use Rattle.state.specs.declared.Device.TheVariants.{Gateway}
use Rattle.state.specs.declared.Phase.{Phase}
use Rattle.state.proofs.Model.{gateway-proper}
use Rattle.protocol.specs.Bars.{doing}
use Rattle.protocol.specs.Calls.{turn_number, close_call, order_call, turn_call, turn_check}
use Rattle.protocol.specs.IsWellFormed.{is_well_formed}
use Rattle.protocol.specs.Promise.{with_hash, opened, Soundness}
use Rattle.protocol.specs.Split.{one_turn, SplitTurn}
use Rattle.protocol.specs.WellFormed.{Size, Crew, Kind, WellFormed}
use Rattle.protocol.proofs.Homing.{homing}
use Rattle.protocol.proofs.Keeping.{each-never-spoilt}
use Rattle.protocol.proofs.Soundness.{sounds}
use Rattle.protocol.proofs.Split.{splits}
use Rattle.protocol.proofs.Theorem.{hash_untested, well-formed, opens, orders, turns, closes}
use Rattle.tables.specs.Calls.{check_call, list_call, list_after}
use Rattle.tables.specs.Promise.{Usable}
use Rattle.tables.proofs.Theorem.{theorem as tables}
use Rattle.history.specs.History.{close, call, run, after}
use Rattle.history.specs.Promise.{entries_after, Alike, Claim}
use Rattle.history.proofs.Theorem.{any_lists, fixed, one_table, refused, two_turns}
use Rattle.history.proofs.Theorem as histories
use Rattle.numbered.specs.Numbers.{turn_answer}
use Rattle.protocol.specs.Replies.{TurnReply}
use Rattle.examples.specs.Forms.{empty_cells, phase_by, worker, all_idle, busy_by}
use Rattle.examples.specs.Orders.{one_line}
use Rattle.corollaries.specs.Altered.{three_keys}
use Rattle.examples.specs.Spreading.{six_less, six_less_image, golden, thrice, twice}
use Rattle.examples.specs.Examples.{four, sheet_items}
use Rattle.corollaries.specs.Corollaries.{turns_of, rounds, together, in_sequence, three_items, three_put_in, six_places}
use Rattle.corollaries.specs.Corollaries.{spread_put_in, greater_first, smaller_first, one_by_one, few_spread, many_spread, deleting_by, like_in_four, corner, corner_put_in}
use Rattle.corollaries.specs.Corollaries.{SpreadCorollaries}
use Rattle.examples.proofs.Passing.{well-unspoilt, ill-spoilt}
use Rattle.examples.proofs.Sound.{sound-says}
use Rattle.corollaries.proofs.Members.{apart, all_in, least_in, same-prices, same_keys, same-orders}

-- ---- openings
puts_open : (open_reply gateway 1 2 six_less (empty_cells 5) sheet_items ≡ Ok tt) × (open_reply gateway 1 3 six_less (empty_cells 5) three_items ≡ Ok tt)
unfolding line_fault lines_fault descending into meets_empty meets_key first all some dist probe wrap
puts_open = (refl, refl)

takes-open : (open_reply gateway 2 2 six_less six_less_image [] ≡ Ok tt)
    × (open_reply gateway 2 1 six_less six_less_image [] ≡ Ok tt)
    × (open_reply gateway 3 1 six_less six_less_image [] ≡ Ok tt)
unfolding meets_empty meets_key first all some dist probe wrap
takes-open = (refl, refl, refl)

four-open : (open_reply gateway 1 1 (hash_of 5 4) (empty_cells 4) greater_first ≡ Ok tt) × (open_reply gateway 1 1 plain (empty_cells 4) smaller_first ≡ Ok tt)
unfolding line_fault lines_fault descending into meets_empty meets_key first all some dist probe wrap
four-open = (refl, refl)

two-open : open_reply gateway 1 1 six_less (0 ∷ 0 ∷ []) (one_line 3 1 0) ≡ Ok tt
unfolding line_fault lines_fault descending into meets_empty meets_key first all some dist probe wrap
two-open = refl

opened-number : reply_number (open_call gateway 1 2 six_less (empty_cells 5) sheet_items).reply ≡ 0
unfolding line_fault lines_fault descending into meets_empty meets_key first all some dist probe wrap
opened-number = refl

-- ---- the lists of calls are closed, and order the same keys
puts-closed : ((after gateway 1 2 six_less (empty_cells 5) sheet_items spread_put_in).closed ≡ true)
    × ((after gateway 1 3 six_less (empty_cells 5) three_items three_put_in).closed ≡ true)
unfolding turns_of rounds run call is_well_formed
    line_fault lines_fault descending into meets_empty meets_key first all some dist probe wrap rule settled absorbed insert_step
puts-closed = (refl, refl)

puts-keys : SameOrders 1 label (after gateway 1 2 six_less (empty_cells 5) sheet_items spread_put_in).ordered
    (after gateway 1 3 six_less (empty_cells 5) three_items three_put_in).ordered
unfolding least_in listed lesser least turns_of rounds run call is_well_formed
    line_fault lines_fault descending into meets_empty meets_key first all some dist probe wrap rule settled absorbed insert_step
puts-keys =
    same-orders 1 (after gateway 1 2 six_less (empty_cells 5) sheet_items spread_put_in).ordered
    (after gateway 1 3 six_less (empty_cells 5) three_items three_put_in).ordered tt tt

takes-closed : ((after gateway 2 2 six_less six_less_image [] together).closed ≡ true) × ((after gateway 2 1 six_less six_less_image [] in_sequence).closed ≡ true)
unfolding turns_of rounds run call is_well_formed meets_empty meets_key first all some dist probe wrap prev rule delete_step fits narrow
takes-closed = (refl, refl)

takes-keys : SameOrders 2 label (after gateway 2 2 six_less six_less_image [] together).ordered
    (after gateway 2 1 six_less six_less_image [] in_sequence).ordered
unfolding all_in listed turns_of rounds run call is_well_formed meets_empty meets_key first all some dist probe wrap prev rule delete_step fits narrow
takes-keys =
    same_keys 2 (apart 2 1 tt) (after gateway 2 2 six_less six_less_image [] together).ordered
    (after gateway 2 1 six_less six_less_image [] in_sequence).ordered tt tt

takes-ordered : (after gateway 2 2 six_less six_less_image [] together).ordered ≡ content 8 0 ∷ content 13 0 ∷ []
unfolding turns_of rounds run call is_well_formed meets_empty meets_key first all some dist probe wrap prev rule delete_step fits narrow
takes-ordered = refl

-- what the put-in shift leaves stood in the table of the other, which is opened and closed
shut-closed : (after gateway 3 1 six_less six_less_image [] (close ∷ [])).closed ≡ true
unfolding run call is_well_formed meets_empty meets_key first all some dist probe wrap
shut-closed = refl

same_left : SameLeast label (entries_after 1 (after gateway 1 2 six_less (empty_cells 5) sheet_items spread_put_in).ordered (empty_cells 5))
    (entries_after 3 (after gateway 3 1 six_less six_less_image [] (close ∷ [])).ordered six_less_image)
unfolding least_in listed lesser least turns_of rounds run call is_well_formed
    line_fault lines_fault descending into meets_empty meets_key first all some dist probe wrap rule settled absorbed insert_step
same_left =
    same-prices (entries_after 1 (after gateway 1 2 six_less (empty_cells 5) sheet_items spread_put_in).ordered (empty_cells 5))
    (entries_after 3 (after gateway 3 1 six_less six_less_image [] (close ∷ [])).ordered six_less_image) tt tt

-- four divides 2³²
four-homes : (x : ℕ) → spread (hash_of 5 4) 4 x ≡ spread plain 4 x
four-homes x = omega arith

four-closed : ((after gateway 1 1 (hash_of 5 4) (empty_cells 4) greater_first one_by_one).closed ≡ true)
    × ((after gateway 1 1 plain (empty_cells 4) smaller_first one_by_one).closed ≡ true)
unfolding turns_of rounds run call is_well_formed
    line_fault lines_fault descending into meets_empty meets_key first all some dist probe wrap rule settled absorbed insert_step
four-closed = (refl, refl)

four-keys : SameOrders 1 label (after gateway 1 1 (hash_of 5 4) (empty_cells 4) greater_first one_by_one).ordered
    (after gateway 1 1 plain (empty_cells 4) smaller_first one_by_one).ordered
unfolding least_in listed lesser least turns_of rounds run call is_well_formed
    line_fault lines_fault descending into meets_empty meets_key first all some dist probe wrap rule settled absorbed insert_step
four-keys =
    same-orders 1 (after gateway 1 1 (hash_of 5 4) (empty_cells 4) greater_first one_by_one).ordered
    (after gateway 1 1 plain (empty_cells 4) smaller_first one_by_one).ordered tt tt

puts-claim : Claim gateway 1 2 six_less (empty_cells 5) sheet_items spread_put_in
puts-claim = histories.history gateway gateway-proper 1 2 six_less (empty_cells 5) sheet_items puts_open.0 spread_put_in

takes-claim : Claim gateway 2 2 six_less six_less_image [] together
takes-claim = histories.history gateway gateway-proper 2 2 six_less six_less_image [] takes-open.0 together

-- by another rule
corner-proper : Proper corner
corner-proper = record { some = omega arith; places = omega arith; homes = λ ab n x l. l }

corner-open : open_reply corner 1 2 plain (empty_cells 5) sheet_items ≡ Ok tt
unfolding line_fault lines_fault descending into meets_empty meets_key first all some dist probe wrap
corner-open = refl

corner-left : ((after corner 1 2 plain (empty_cells 5) sheet_items corner_put_in).closed ≡ true)
    × ((after corner 1 2 plain (empty_cells 5) sheet_items corner_put_in).ordered ≡ ones (4 ∷ 13 ∷ 8 ∷ 3 ∷ []))
unfolding turns_of rounds run call is_well_formed
    line_fault lines_fault descending into meets_empty meets_key first all some dist probe wrap rule settled absorbed insert_step
corner-left = (refl, refl)

corner-claim : Claim corner 1 2 plain (empty_cells 5) sheet_items corner_put_in
corner-claim = histories.history corner corner-proper 1 2 plain (empty_cells 5) sheet_items corner-open corner_put_in

-- ---- 21
-- no number is even and odd
not_both : (a : ℕ) → Even a → Odd a → ⊥
not_both a (h, e) (g, f) = omega arith

five-cells : Size gateway 5
five-cells = (omega arith, omega arith)

module _ (ab : Hash) (k m : ℕ) (t : List ℕ) (os : List Order) where
  even-opened : Even ab.a → Kind k → Crew gateway m → Size gateway (length t) → reply_number (open_call gateway k m ab t os).reply ≡ 21
  even-opened even kind crew cells =
      by-eq k 1
      (λ is. let (_, (_, (_, (twentyOne, _)))) = (opens gateway k m ab t os).inserts is in twentyOne.1 ((((tt, cells), crew), kind), even))
      (λ ne. let (_, (_, (_, (twentyOne, _)))) = (opens gateway k m ab t os).others ne in twentyOne.1 ((((tt, cells), crew), kind), even))

  odd-opened : Odd ab.a → reply_number (open_call gateway k m ab t os).reply ≢ 21
  odd-opened odd e =
      by-eq k 1
      (λ is. let (_, (_, (_, (twentyOne, _)))) = (opens gateway k m ab t os).inserts is in not_both ab.a (twentyOne.0 e).1 odd)
      (λ ne. let (_, (_, (_, (twentyOne, _)))) = (opens gateway k m ab t os).others ne in not_both ab.a (twentyOne.0 e).1 odd)

module _ (ab : Hash) (t : List ℕ) where
  even-checked : Even ab.a → Size gateway (length t) → reply_number (check_call gateway ab t) ≡ 21
  even-checked even cells = let (_, (twentyOne, _)) = (tables gateway gateway-proper ab t []).check in twentyOne.1 ((tt, cells), even)

  odd-checked : Odd ab.a → reply_number (check_call gateway ab t) ≢ 21
  odd-checked odd e = let (_, (twentyOne, _)) = (tables gateway gateway-proper ab t []).check in not_both ab.a (twentyOne.0 e).1 odd

  even-listed : (out : List ℕ) → Even ab.a → Size gateway (length t) → count_number (list_call gateway ab t out) ≡ 21
  even-listed out even cells = let (_, (twentyOne, _)) = (tables gateway gateway-proper ab t out).list in twentyOne.1 ((tt, cells), even)

-- kind 4 before all of that
no_kind : (ab : Hash) (os : List Order) → reply_number (open_call gateway 4 1 ab four os).reply ≡ 3
no_kind ab os =
    let (_, (_, (three, _))) = (opens gateway 4 1 ab four os).others (apart 4 1 tt) in
    three.1 (((tt, five-cells), (omega arith, omega arith)), λ (_, l). omega arith)

not_opened : (ab : Hash) (os : List Order) → open_reply gateway 4 1 ab four os ≢ (Ok tt)
not_opened ab os e = let z = ap reply_number ((opens gateway 4 1 ab four os).reply ∙ e) in omega (arith, z, no_kind ab os)

one_cell : (ab : Hash) → reply_number (check_call gateway ab (one 7 ∷ [])) ≡ 1
one_cell ab = let (size, _) = (tables gateway gateway-proper ab (one 7 ∷ []) []).check in size.1 (tt, λ (l, _). omega arith)

-- ---- tables by a and b
image-sound : Soundness gateway six_less six_less_image
unfolding meets_empty meets_key first all some dist probe wrap
image-sound = (sounds.words gateway six_less six_less_image).0 ((sound-says six_less six_less_image).0 tt)

image-usable : Usable gateway six_less six_less_image
image-usable = (five-cells, (2147483647, refl), image-sound)

image-size : size (labels label six_less_image) ≡ 4
unfolding descending into
image-size = refl

one-before : keys_before six_less_image 2 ≡ 1
unfolding count
one-before = refl

image-passes : reply_number (check_call gateway six_less six_less_image) ≡ 0
image-passes = (tables gateway gateway-proper six_less six_less_image []).passes.1 image-usable

image-listed : count_number (list_call gateway six_less six_less_image six_places) ≡ 0
image-listed =
    let (_, (_, (_, (_, (_, (_, none)))))) = (tables gateway gateway-proper six_less six_less_image six_places).list in
    let (cells, odd, sound) = image-usable in
    let (whole, gapless, ordered) = (sounds.kinds gateway gateway-proper six_less six_less_image).0 sound in
    let l : size (labels label six_less_image) ≤ 6 = omega (arith, image-size) in
    none.1 ((((((tt, cells), odd), whole), gapless), ordered), l)

-- 4 in cell 0 of document 01's table has the home 2, which is empty
four-intact : Intact four
unfolding all some
four-intact = (flaws.kinds (spread six_less 5) four).intact.0 refl

four-gapped : Gapped (spread six_less 5) four
unfolding meets_empty first dist probe wrap
four-gapped = (flaws.kinds (spread six_less 5) four).gapped.0 refl

four-refused : reply_number (check_call gateway six_less four) ≡ 17
four-refused =
    let (_, (_, (_, (seventeen, _)))) = (tables gateway gateway-proper six_less four []).check in
    seventeen.1 ((((tt, five-cells), (2147483647, refl)), four-intact), four-gapped)

-- ---- 13
-- a record that close doesn't call spoilt is well formed
formed-if : (p : Phase) → reply_number (close_call gateway p).reply ≢ 13 → WellFormed gateway p
formed-if p ne = go (is_well_formed gateway p) refl
  where
    go : (b : Bool) → is_well_formed gateway p ≡ b → WellFormed gateway p
    go true e = (well-formed gateway p).0 e
    go false e = absurd (ne ((closes gateway p).answers.0.1 (tt, λ g. false≢true (sym e ∙ (well-formed gateway p).1 g))))

-- ---- turns and orders
turns-pass : (turn_check gateway few_spread six_less_image 1 ≡ Ok tt) × (turn_check gateway many_spread like_in_four 7 ≡ Ok tt)
unfolding is_well_formed
turns-pass = (refl, refl)

cell-alike : (c : ℕ) → ◌≡◌ {A = (Option ℕ)} (Some 4) (Some c) → get_or six_less_image c 0 ≡ get_or like_in_four c 0
cell-alike c e = let z : 4 ≡ c = cc in subst (λ (x : ℕ). get_or six_less_image x 0 ≡ get_or like_in_four x 0) z refl

alike : Alike gateway few_spread many_spread six_less_image like_in_four 1 7
alike = two_turns gateway few_spread many_spread six_less_image like_in_four 1 7 turns-pass.0 turns-pass.1 refl refl refl refl cell-alike

few-formed : (ab : Hash) → WellFormed gateway (with_hash few_spread ab)
unfolding is_well_formed
few-formed ab = (well-formed gateway (with_hash few_spread ab)).0 refl

split : (ab : Hash) → SplitTurn gateway (with_hash few_spread ab) six_less_image 1
split ab = splits.turn gateway (with_hash few_spread ab) (few-formed ab) refl six_less_image refl 1 (omega arith)

finished-not-on : ◌≢◌ {A = TurnReply} (Ok Finished) (Ok WentOn)
finished-not-on e = let z : ◌≡◌ {A = ℕ} (turn_answer (Ok Finished)) (turn_answer (Ok WentOn)) = ap turn_answer e in omega arith

-- the worker alone
home_reached : (one_turn gateway 2 six_less 5 six_less_image (worker (WalkingBack (one 8) 4))).reply ≡ Ok Finished
unfolding rule delete_step
home_reached = refl

home_before : (one_turn gateway 2 plain 5 six_less_image (worker (WalkingBack (one 8) 4))).reply ≡ Ok WentOn
unfolding rule delete_step
home_before = refl

order-number : (ab : Hash) → reply_number (order_call gateway (phase_by ab 2 5 2 false all_idle) [] 7 0 9).reply ≡ 0
unfolding is_well_formed
order-number ab = refl

second-number : (ab : Hash) → reply_number (order_call gateway (phase_by ab 2 5 2 false all_idle) [] 0 1 13).reply ≡ 0
unfolding is_well_formed
second-number ab = refl

close-number : (ab : Hash) → reply_number (close_call gateway (phase_by ab 2 5 2 false all_idle)).reply ≡ 0
unfolding is_well_formed
close-number ab = refl

started : (ab : Hash) → doing (order_call gateway (phase_by ab 2 5 2 false all_idle) [] 7 0 9).phase 0 ≡ Reading (content 9 0) (spread ab 5 9)
started ab = ((orders gateway (phase_by ab 2 5 2 false all_idle) [] 7 0 9).other_accepted (apart 2 1 tt) (order-number ab)).starts (omega arith)

-- of a take-out's worker, whatever it is doing there
seeks-number : (turn_number (turn_call gateway (deleting_by twice (WalkingBack (one 8) 4)) (empty_cells 5) 1).reply ≡ 0)
    × (turn_number (turn_call gateway (deleting_by twice (WalkingBack (one 8) 3)) (empty_cells 5) 1).reply ≡ 0)
    × (turn_number (turn_call gateway (deleting_by six_less (SeekingForward (one 13) 4 0)) six_less_image 1).reply ≡ 0)
    × (turn_number (turn_call gateway (deleting_by thrice (SeekingForward (one 13) 4 0)) six_less_image 1).reply ≡ 0)
    × (turn_number (turn_call gateway (deleting_by six_less (SeekingBack 1 (one 7) 0 2 0)) (ones (7 ∷ 6 ∷ 0 ∷ 0 ∷ 0 ∷ [])) 1).reply ≡ 0)
    × (turn_number (turn_call gateway (deleting_by twice (SeekingBack 1 (one 9) 0 2 0)) (ones (9 ∷ 4 ∷ 0 ∷ 0 ∷ 0 ∷ [])) 1).reply ≡ 0)
unfolding is_well_formed
seeks-number = (refl, refl, refl, refl, refl, refl)

eight-passes : OnPath 5 (spread six_less 5) 8 0 4
unfolding dist
eight-passes = omega arith

eight-home : (label (one 8) ≡ 0) ⊎ OnPath 5 (spread thrice 5) 8 0 4 → ⊥
unfolding dist
eight-home (inl e) = omega arith
eight-home (inr l) = omega arith

six-passes : OnPath 5 (spread six_less 5) 6 1 0
unfolding dist
six-passes = omega arith

four-home : (label (one 4) ≡ 0) ⊎ OnPath 5 (spread twice 5) 4 1 0 → ⊥
unfolding dist
four-home (inl e) = omega arith
four-home (inr l) = omega arith

-- ---- all of them
pub spread-corollaries : SpreadCorollaries
unfolding prev wrap
spread-corollaries = record {
  home = homes-promise.is six_less 5 13 12 4294967289 858993457 4 refl (omega arith) refl (omega arith);
  home_of_none = homes-promise.is six_less 5 0 0 6 1 1 refl (omega arith) refl (omega arith);
  home_before = homes-promise.as_before;
  numbers_apart = λ e. apart 100 200 tt (homes-promise.apart golden (1327217884, refl) 100 200 (omega arith) (omega arith) e);
  put_in =
      one_table gateway gateway gateway-proper gateway-proper 1 2 3 six_less six_less (empty_cells 5) sheet_items three_items (λ x. refl) puts_open.0
      puts_open.1 spread_put_in three_put_in puts-keys puts-closed.0 puts-closed.1;
  take_out =
      one_table gateway gateway gateway-proper gateway-proper 2 2 1 six_less six_less six_less_image [] [] (λ x. refl) takes-open.0 takes-open.1 together
      in_sequence takes-keys takes-closed.0 takes-closed.1;
  fixed =
      fixed gateway gateway gateway-proper gateway-proper 1 3 2 1 six_less six_less (empty_cells 5) six_less_image sheet_items [] refl (λ x. refl) puts_open.0
      takes-open.2 spread_put_in (close ∷ []) same_left puts-closed.0 shut-closed;
  same_homes =
      one_table gateway gateway gateway-proper gateway-proper 1 1 1 (hash_of 5 4) plain (empty_cells 4) greater_first smaller_first four-homes four-open.0
      four-open.1 one_by_one one_by_one four-keys four-closed.0 four-closed.1;
  laid_out =
      takes-claim.closed takes-closed.0
      ∙ ap (λ (xs : List ℕ). priced_layout 5 label (spread six_less 5) (without_labels label xs six_less_image)) takes-ordered;
  sound = (sounds.words gateway six_less (after gateway 1 2 six_less (empty_cells 5) sheet_items spread_put_in).table).0 (puts-claim.sound puts-closed.0);
  any_rule = corner-claim.closed corner-left.0
      ∙ ap (λ (xs : List ℕ). priced_layout 5 label (λ (x : ℕ). 0) (xs ++ empty_cells 5)) corner-left.1;
  paths = (any_lists gateway gateway-proper 1 1 six_less (0 ∷ 0 ∷ []) (one_line 3 1 0) two-open three_keys).ordering refl;
  opened = ((opens gateway 1 2 six_less (empty_cells 5) sheet_items).accepted opened-number).hash;
  closed = takes-claim.numbers.hash;
  refused = λ ab os. ((opens gateway 4 1 ab four os).refused (λ z. let e = no_kind ab os in omega (arith, e, z))).hash;
  hands_back = λ ab os cs. (refused gateway 4 1 ab four os (not_opened ab os) cs).0;
  order_leaves = λ ab.
      ((orders gateway (phase_by ab 2 5 2 false all_idle) [] 0 1 13).other_accepted (apart 2 1 tt) (second-number ab)).others.frame.hash;
  turn_leaves = λ ab t w. (turns gateway (busy_by ab 2 5 2 1 (WalkingBack (one 8) 4)) t w).others.frame.hash;
  close_leaves = λ ab. ((closes gateway (phase_by ab 2 5 2 false all_idle)).accepted (close-number ab)).frame.hash;
  even_opens = λ ab even k m t os. even-opened ab k m t os even;
  even_check = λ ab even t. even-checked ab t even;
  even_count = λ ab even t cells. (tables gateway gateway-proper ab t []).count_refused ∙ even-checked ab t even cells;
  even_list = λ ab even t out. even-listed ab t out even;
  odd_opens = λ ab odd k m t os. odd-opened ab k m t os odd;
  odd_check = λ ab odd t. odd-checked ab t odd;
  kind_first = no_kind;
  size_first = one_cell;
  passes_odd = λ ab t e. ((tables gateway gateway-proper ab t []).passes.0 e).1;
  passes = image-passes;
  refuses = four-refused;
  counted = (tables gateway gateway-proper six_less six_less_image []).count_true image-usable ∙ image-size;
  listed =
      ap (λ (i : ℕ). get_or (list_after gateway six_less six_less_image six_places) i 0) (sym one-before)
      ∙ (tables gateway gateway-proper six_less six_less_image six_places).listed image-listed 2 (apart 4 0 tt);
  spoilt_by_others = λ ab p h.
      let (_, _, e) = h [] 0 0 0 [] in
      ill-spoilt (with_hash p ab) (λ g. ((closes gateway p).answers.0.0 e).1 ((hash_untested gateway p ab).0 g));
  unspoilt_by_others = λ ab p h. let (_, _, ne) = h [] 0 0 0 [] in well-unspoilt (with_hash p ab) ((hash_untested gateway p ab).1 (formed-if p ne));
  never_spoilt = λ k m ab t os e.
      let p = (open_call gateway k m ab t os).phase in
      ((closes gateway p).answers.0.0 e).1 (each-never-spoilt Gateway p (opened k m ab t os));
  starts = started six_less;
  starts_even = started twice;
  replies = alike.replies;
  records = alike.records;
  cells = alike.cells 4 refl;
  unlike = λ e. finished-not-on (sym ((split six_less).reply ∙ home_reached) ∙ e ∙ (split plain).reply ∙ home_before);
  ends_at_home = (homing gateway (deleting_by twice (WalkingBack (one 8) 4)) (empty_cells 5) 1 seeks-number.0 refl).ends (one 8) 4 refl (apart 0 8 tt) refl;
  walks_on = (homing gateway (deleting_by twice (WalkingBack (one 8) 3)) (empty_cells 5) 1 seeks-number.1 refl).walks (one 8) 3 refl (apart 0 8 tt)
      (apart 3 4 tt);
  taken = (homing gateway (deleting_by six_less (SeekingForward (one 13) 4 0)) six_less_image 1 seeks-number.2 refl).takes (one 13) 4 0 refl
      (inr eight-passes);
  gone_past = (homing gateway (deleting_by thrice (SeekingForward (one 13) 4 0)) six_less_image 1 seeks-number.3 refl).passes (one 13) 4 0 refl
      eight-home;
  nearer = (homing gateway (deleting_by six_less (SeekingBack 1 (one 7) 0 2 0)) (ones (7 ∷ 6 ∷ 0 ∷ 0 ∷ 0 ∷ [])) 1 seeks-number.4 refl).nearer 1 (one 7) 0 2 0
      refl (inr six-passes);
  not_nearer = (homing gateway (deleting_by twice (SeekingBack 1 (one 9) 0 2 0)) (ones (9 ∷ 4 ∷ 0 ∷ 0 ∷ 0 ∷ [])) 1 seeks-number.5 refl).keeps 1 (one 9) 0 2 0
      refl four-home;
  apart_reply = (split six_less).reply ∙ home_reached;
}
