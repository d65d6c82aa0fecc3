-- The corollaries on single calls, each by its promise. Premises are computed, conclusions are not.
use Rattle.std.specs.Prelude.{Ok}
use mathlib.Core.Path.{◌≡◌, refl, sym, ap, ap₂, ◌∙◌}
use mathlib.Core.Logic.{◌≢◌, ◌⊎◌, inl, inr, ⊎_elim}
use mathlib.Core.Bool.{false}
use mathlib.Core.List.{List, [], ◌∷◌, ◌++◌}
use Prim.Native.Nat.{ℕ, zero, suc, ◌≤◌, ◌<◌}
use native.Mathlib.Omega.{arith}
use lib.ListN.{length, get_or, replicate, length-replicate}
use borrow.Author.Tests.{eqb-true, ne_eqb, leb-true, lt-leb}
use Rattle.ring.specs.Ring.{wrap, probe, dist}
use Rattle.ring.proofs.Split.{by-eq}
use Rattle.layout.specs.Layout.{In, into, descending, size}
use Rattle.ring.specs.Each.{all, some, first}
use Rattle.layout.proofs.Sets.{in-append, subset-size}
use Rattle.homes.specs.Homes.{plain, spread}
use Rattle.homes.specs.declared.Hash.{Hash}
use Rattle.prices.specs.Contents.{label, content}
use Rattle.prices.specs.Priced.{labels}
use Rattle.flaws.specs.Flaws.{meets_empty, meets_key}
use Rattle.flaws.specs.Promise.{Gapped}
use Rattle.flaws.proofs.Theorem.{theorem as flaws}
use Rattle.orders.specs.Orders.{order_with, ordered_keys, line_fault, lines_fault}
use Rattle.orders.specs.declared.Order.{Order}
use Rattle.activities.specs.declared.Activity.TheVariants.{Reading, Replacing, WalkingBack}
use Rattle.rule.specs.declared.Answer.TheVariants.{WentOn, Price}
use Rattle.rule.specs.Rule.{find_step, delete_step, rule}
use Rattle.rule.specs.Schedules.{one, ones}
use Rattle.state.specs.Model.{gateway}
use Rattle.state.specs.Open.{open_call}
use Rattle.state.specs.Refusals.{reply_number}
use Rattle.state.specs.declared.Device.TheVariants.{Gateway}
use Rattle.state.proofs.Model.{gateway-proper}
use Rattle.protocol.specs.Bars.{doing}
use Rattle.protocol.specs.Calls.{turn_number, with_worker, close_call, order_call, turn_call, turn_table}
use Rattle.protocol.specs.Cases.{Decides}
use Rattle.protocol.specs.IsWellFormed.{is_well_formed}
use Rattle.protocol.specs.Lines.{Priced, Mispriced, ShopKey, TestKey, Earliest, Fills}
use Rattle.protocol.specs.Promise.{Made, opened, ordered as madeByOrder, turned, closed, Soundness, Resting, line_order_cases, Starts, Replaces}
use Rattle.protocol.specs.Split.{one_turn, one_cells, SplitTurn, SplitOrder}
use Rattle.protocol.specs.WellFormed.{Size, Crew, WellFormed}
use Rattle.protocol.specs.declared.Moved.{Moved}
use Rattle.protocol.proofs.Keeping.{places, each-never-spoilt}
use Rattle.protocol.proofs.Lines.{fault_number, blank_first, test_first, price-first, worker-first, fills-says}
use Rattle.protocol.proofs.Soundness.{sounds}
use Rattle.protocol.proofs.Split.{splits}
use Rattle.protocol.proofs.Theorem.{well-formed, opens, orders, turns, closes}
use Rattle.examples.specs.Forms.{empty_cells, worker}
use Rattle.examples.specs.Examples.{four, at_prices, sheet_items}
use Rattle.examples.specs.Orders.{one_line, wrong_lines}
use Rattle.examples.specs.Repairs.{gapped, disordered}
use Rattle.corollaries.specs.Corollaries.{few_workers, many_workers, altered, overwritten, overpriced, just_opened, first_line, worker_before_blank}
use Rattle.corollaries.specs.Corollaries.{putting_in, repricing, meeting, emptying, looking_up}
use Rattle.corollaries.specs.Corollaries.{reprice_items, made_on_others, CallCorollaries}
use Rattle.examples.proofs.Sound.{plain-odd, sound-says}
use Rattle.corollaries.proofs.Lending.{worker-earliest, four-fills, seven-once}
use Rattle.corollaries.proofs.Members.{apart}
use Rattle.corollaries.proofs.Unsound.{disordered-intact, gapped-intact, gapped-is, disordered-is}

-- ---- openings
opened-number : reply_number (open_call gateway 1 2 plain (empty_cells 5) sheet_items).reply ≡ 0
unfolding line_fault lines_fault descending into meets_empty meets_key first all some dist probe wrap
opened-number = refl

not_opened : reply_number (open_call gateway 4 1 plain four wrong_lines).reply ≢ 0
unfolding meets_empty meets_key first all some dist probe wrap
not_opened z = omega arith

rests : Resting gateway 1 5 2 false plain just_opened
rests = (opens gateway 1 2 plain (empty_cells 5) sheet_items).accepted opened-number

-- a line that decides gives its own number
module _ (m : ℕ) (os : List Order) (r : ℕ) (e : fault_number (lines_fault m os) ≡ r) where
  not_blank : r ≢ 7 → Earliest m os (λ (o : Order). o.key ≡ 0) → ⊥
  not_blank ne h = ne (sym e ∙ eqb-true (fault_number (lines_fault m os)) 7 ((blank_first m os).1 h))

  not-testing : r ≢ 24 → Earliest m os (λ (o : Order). TestKey o.key) → ⊥
  not-testing ne h = ne (sym e ∙ eqb-true (fault_number (lines_fault m os)) 24 ((test_first m os).1 h))

  not-priceless : r ≢ 14 → Earliest m os (λ (o : Order). (o.key ≢ 0) × ShopKey o.key × Mispriced o.price) → ⊥
  not-priceless ne h = ne (sym e ∙ eqb-true (fault_number (lines_fault m os)) 14 ((price-first m os).1 h))

  not_workless : r ≢ 6 → Earliest m os (λ (o : Order). (o.key ≢ 0) × ShopKey o.key × Priced o.price × (m ≤ o.worker)) → ⊥
  not_workless ne h = ne (sym e ∙ eqb-true (fault_number (lines_fault m os)) 6 ((worker-first m os).1 h))

-- on a table that opens, with good lines: the labels alone decide
module _ (m : ℕ) (t : List ℕ) (os : List Order) (cells : Size gateway (length t)) (crew : Crew gateway m) (few : length os ≤ 65536)
    (sound : Soundness gateway plain t) (good : fault_number (lines_fault m os) ≡ 0) where
  fits : (Fills t os → ⊥) → reply_number (open_call gateway 1 m plain t os).reply ≡ 0
  fits fewer =
      let (_, (_, (_, (_, (_, (_, (_, (_, (_, (_, (_, (_, (_, none))))))))))))) = (opens gateway 1 m plain t os).inserts refl in
      let (whole, gapless, ordered) = (sounds.kinds gateway gateway-proper plain t).0 sound in
      let a = not_blank m os 0 good (λ z. omega arith) in
      let f = not-testing m os 0 good (λ z. omega arith) in
      let b = not-priceless m os 0 good (λ z. omega arith) in
      let c = not_workless m os 0 good (λ z. omega arith) in
      none.1 (((((((((((((tt, cells), crew), (omega arith, omega arith)), plain-odd), few), whole), gapless), ordered), a), f), b), c), fewer)

  overflows : Fills t os → reply_number (open_call gateway 1 m plain t os).reply ≡ 9
  overflows fills =
      let (_, (_, (_, (_, (_, (_, (_, (_, (_, (_, (_, (_, (nine, _))))))))))))) = (opens gateway 1 m plain t os).inserts refl in
      let (whole, gapless, ordered) = (sounds.kinds gateway gateway-proper plain t).0 sound in
      let a = not_blank m os 0 good (λ z. omega arith) in
      let f = not-testing m os 0 good (λ z. omega arith) in
      let b = not-priceless m os 0 good (λ z. omega arith) in
      let c = not_workless m os 0 good (λ z. omega arith) in
      nine.1 (((((((((((((tt, cells), crew), (omega arith, omega arith)), plain-odd), few), whole), gapless), ordered), a), f), b), c), fills)

five-cells : Size gateway 5
five-cells = (omega arith, omega arith)

two-workers : Crew gateway 2
two-workers = (omega arith, omega arith)

not-gapped : Gapped (spread plain 5) disordered → ⊥
not-gapped g = (flaws.kinds (spread plain 5) disordered).apart g disordered-is

-- 2 cells with {7}, and five empty cells
seven-sound : Soundness gateway plain (ones (0 ∷ 7 ∷ []))
unfolding meets_empty meets_key first all some dist probe wrap
seven-sound = (sounds.words gateway plain (ones (0 ∷ 7 ∷ []))).0 ((sound-says plain (ones (0 ∷ 7 ∷ []))).0 tt)

five-sound : Soundness gateway plain (empty_cells 5)
unfolding meets_empty meets_key first all some dist probe wrap
five-sound = (sounds.words gateway plain (empty_cells 5)).0 ((sound-says plain (empty_cells 5)).0 tt)

good-line : (l : ℕ) → l ≢ 0 → ShopKey l → fault_number (lines_fault 1 (one_line l 1 0)) ≡ 0
unfolding line_fault lines_fault
good-line l nz shop = rw (ne_eqb l 0 nz, lt-leb 4000000000 l shop)

seven-fits : reply_number (open_call gateway 1 1 plain (ones (0 ∷ 7 ∷ [])) (one_line 7 1 0)).reply ≡ 0
seven-fits =
    fits 1 (ones (0 ∷ 7 ∷ [])) (one_line 7 1 0) (omega arith, omega arith) (omega arith, omega arith) (omega arith) seven-sound (good-line 7 (apart 7 0 tt) (omega arith))
    seven-once.0

four-overflows : reply_number (open_call gateway 1 1 plain (ones (0 ∷ 7 ∷ [])) (one_line 4 1 0)).reply ≡ 9
four-overflows =
    overflows 1 (ones (0 ∷ 7 ∷ [])) (one_line 4 1 0) (omega arith, omega arith) (omega arith, omega arith) (omega arith) seven-sound (good-line 4 (apart 4 0 tt) (omega arith))
    four-fills

-- a worker that the crew lacks, in the first line
worker-lacks : fault_number (lines_fault 2 worker_before_blank) ≡ 6
unfolding line_fault lines_fault
worker-lacks = refl

worker-decides : reply_number (open_call gateway 1 2 plain (empty_cells 5) worker_before_blank).reply ≡ 6
worker-decides =
    let os = worker_before_blank in
    let (_, (_, (_, (_, (_, (_, (_, (_, (_, (_, (_, (six, _)))))))))))) = (opens gateway 1 2 plain (empty_cells 5) os).inserts refl in
    let (whole, gapless, ordered) = (sounds.kinds gateway gateway-proper plain (empty_cells 5)).0 five-sound in
    let a = not_blank 2 os 6 worker-lacks (λ z. omega arith) in
    let f = not-testing 2 os 6 worker-lacks (λ z. omega arith) in
    let b = not-priceless 2 os 6 worker-lacks (λ z. omega arith) in
    six.1
    ((((((((((((tt, five-cells), two-workers), (omega arith, omega arith)), plain-odd), omega arith), whole), gapless), ordered), a), f), b), worker-earliest)

-- ---- tables that are not sound
gap-opens : reply_number (open_call gateway 1 2 plain gapped wrong_lines).reply ≡ 17
gap-opens =
    let (_, (_, (_, (_, (_, (_, (seventeen, _))))))) = (opens gateway 1 2 plain gapped wrong_lines).inserts refl in
    seventeen.1 (((((((tt, five-cells), two-workers), (omega arith, omega arith)), plain-odd), omega arith), gapped-intact), gapped-is)

disorder-opens : reply_number (open_call gateway 1 2 plain disordered wrong_lines).reply ≡ 18
disorder-opens =
    let (_, (_, (_, (_, (_, (_, (_, (eighteen, _)))))))) = (opens gateway 1 2 plain disordered wrong_lines).inserts refl in
    eighteen.1
    ((((((((tt, five-cells), two-workers), (omega arith, omega arith)), plain-odd), omega arith), disordered-intact), not-gapped), disordered-is)

disorder-looks : reply_number (open_call gateway 3 2 plain disordered wrong_lines).reply ≡ 18
disorder-looks =
    let (_, (_, (_, (_, (_, (_, (eighteen, _))))))) = (opens gateway 3 2 plain disordered wrong_lines).others (λ z. apart 3 1 tt z) in
    eighteen.1 (((((((tt, five-cells), two-workers), (omega arith, omega arith)), plain-odd), disordered-intact), not-gapped), disordered-is)

prices-open : reply_number (open_call gateway 1 2 plain at_prices reprice_items).reply ≡ 0
unfolding line_fault lines_fault descending into meets_empty meets_key first all some dist probe wrap
prices-open = refl

-- many lines, all alike
all-good : (n : ℕ) → fault_number (lines_fault 2 (replicate n (order_with 3 1 0))) ≡ 0
unfolding line_fault lines_fault
all-good zero = refl
all-good (suc n) = all-good n

only-three : (n y : ℕ) → In y (ordered_keys (replicate n (order_with 3 1 0))) → y ≡ 3
only-three zero y i = absurd i
only-three (suc n) y i = ⊎_elim (λ e. e) (only-three n y) i

no_label : (n y : ℕ) → In y (labels label (empty_cells n)) → y ≡ 0
no_label zero y i = absurd i
no_label (suc n) y i = ⊎_elim (λ e. e) (no_label n y) i

one_label : (n : ℕ) → size (labels label (empty_cells 5) ++ ordered_keys (replicate n (order_with 3 1 0))) ≤ 1
unfolding descending into
one_label n =
    let xs = labels label (empty_cells 5) in
    let ys = ordered_keys (replicate n (order_with 3 1 0)) in
    subset-size (xs ++ ys) (3 ∷ []) (λ y nz i. ⊎_elim (λ j. absurd (nz (no_label 5 y j))) (λ j. inl (only-three n y j)) ((in-append xs ys y).0 i))

many-fit : (n : ℕ) → n ≤ 65536 → reply_number (open_call gateway 1 2 plain (empty_cells 5) (replicate n (order_with 3 1 0))).reply ≡ 0
many-fit n l =
    let os = replicate n (order_with 3 1 0) in
    let xs = labels label (empty_cells 5) ++ ordered_keys os in
    fits 2 (empty_cells 5) os (omega arith, omega arith) (omega arith, omega arith) (rw (length-replicate n (order_with 3 1 0)) l) five-sound (all-good n) (λ f.
    let m : 5 ≤ size xs = leb-true 5 (size xs) ((fills-says (empty_cells 5) os).1 f) in omega (arith, m, one_label n))

too_many : (n : ℕ) → 65536 < n → (o : Order) → reply_number (open_call gateway 1 2 plain (empty_cells 5) (replicate n o)).reply ≡ 16
too_many n l o =
    let (_, (_, (_, (_, (sixteen, _))))) = (opens gateway 1 2 plain (empty_cells 5) (replicate n o)).inserts refl in
    let long : 65536 < length (replicate n o) = rw (length-replicate n o) l in
    sixteen.1 (((((tt, (omega arith, omega arith)), (omega arith, omega arith)), (omega arith, omega arith)), plain-odd), long)

-- ---- orders and closes
-- of label 3 at price 7 to worker 0, by an altered list
order-number : reply_number (first_line (one_line 3 7 0)).reply ≡ 0
unfolding is_well_formed line_fault lines_fault descending into meets_empty meets_key first all some dist probe wrap
order-number = refl

started : Starts gateway just_opened 0 3 7 (first_line (one_line 3 7 0)).phase
started = (orders gateway just_opened (one_line 3 7 0) 0 0 0).insert_accepted rests.kind order-number

few-order : reply_number (order_call gateway few_workers [] 7 0 9).reply ≡ 0
unfolding is_well_formed
few-order = refl

-- worker 0 of the record just opened may be given orders
opened-formed : WellFormed gateway just_opened
opened-formed = each-never-spoilt Gateway just_opened (opened 1 2 plain (empty_cells 5) sheet_items)

first-worker : 0 < just_opened.crew
first-worker = rw rests.crew (omega arith)

few-formed : WellFormed gateway few_workers
unfolding is_well_formed
few-formed = (well-formed gateway few_workers).0 refl

-- one line for worker 0 with this label and price
module _ (v cents : ℕ) where
  line-decides : Decides (reply_number (first_line (one_line v cents 0)).reply) (line_order_cases gateway just_opened (one_line v cents 0) 0)
  line-decides = (orders gateway just_opened (one_line v cents 0) 0 0 0).inserts rests.kind

mispriced : (cents : ℕ) → (cents ≡ 0) ⊎ (9999999 < cents) → reply_number (first_line (one_line 3 cents 0)).reply ≡ 14
mispriced cents wrong =
    let (_, (_, (_, (_, (_, (_, (_, (fourteen, _)))))))) = line-decides 3 cents in
    fourteen.1 ((((((((tt, opened-formed), rests.shut), omega arith), first-worker), rests.rest 0), apart 3 0 tt), omega arith), wrong)

dearest : reply_number (first_line (one_line 3 9999999 0)).reply ≡ 0
dearest =
    let (_, (_, (_, (_, (_, (_, (_, (_, none)))))))) = line-decides 3 9999999 in
    none.1 ((((((((tt, opened-formed), rests.shut), omega arith), first-worker), rests.rest 0), apart 3 0 tt), omega arith), (omega arith, omega arith))

-- a label for factory tests, at any price
testing : (v cents : ℕ) → TestKey v → reply_number (first_line (one_line v cents 0)).reply ≡ 24
testing v cents test =
    let (_, (_, (_, (_, (_, (_, (n, _))))))) = line-decides v cents in
    n.1 (((((((tt, opened-formed), rests.shut), omega arith), first-worker), rests.rest 0), λ z. omega arith), test)

-- and the last that a shop adds
last_shop : reply_number (first_line (one_line 3999999999 1 0)).reply ≡ 0
last_shop =
    let (_, (_, (_, (_, (_, (_, (_, (_, none)))))))) = line-decides 3999999999 1 in
    none.1 ((((((((tt, opened-formed), rests.shut), omega arith), first-worker), rests.rest 0), apart 3999999999 0 tt), omega arith), (omega arith, omega arith))

blank-line : reply_number (first_line (one_line 0 0 0)).reply ≡ 7
blank-line =
    let (_, (_, (_, (_, (_, (seven, _)))))) = line-decides 0 0 in
    seven.1 ((((((tt, opened-formed), rests.shut), omega arith), first-worker), rests.rest 0), refl)

no_worker : reply_number (first_line (one_line 0 0 2)).reply ≡ 6
no_worker =
    let (_, (_, (_, (six, _)))) = (orders gateway just_opened (one_line 0 0 2) 0 0 0).inserts rests.kind in
    six.1 ((((tt, opened-formed), rests.shut), omega arith), rw rests.crew (omega arith))

no_line : reply_number (order_call gateway just_opened sheet_items 4 0 3).reply ≡ 15
no_line =
    let (_, (_, (fifteen, _))) = (orders gateway just_opened sheet_items 4 0 3).inserts rests.kind in
    fifteen.1 (((tt, opened-formed), rests.shut), omega arith)

unread : reply_number (order_call gateway few_workers [] 7 0 9).reply ≡ 0
unread =
    let (_, (_, (_, (_, (_, none))))) = (orders gateway few_workers [] 7 0 9).others (λ z. apart 2 1 tt z) in
    none.1 (((((tt, few-formed), refl), omega arith), refl), apart 9 0 tt)

close-number : reply_number (close_call gateway just_opened).reply ≡ 0
unfolding is_well_formed line_fault lines_fault descending into meets_empty meets_key first all some dist probe wrap
close-number = refl

-- turns
puts-number : turn_number (turn_call gateway putting_in (ones (0 ∷ 0 ∷ 0 ∷ 8 ∷ 3 ∷ [])) 0).reply ≡ 0
unfolding is_well_formed
puts-number = refl

reprices-number : turn_number (turn_call gateway repricing at_prices 0).reply ≡ 0
unfolding is_well_formed
reprices-number = refl

meets-number : (turn_number (turn_call gateway (meeting 9) at_prices 0).reply ≡ 0) × (turn_number (turn_call gateway (meeting 8) at_prices 0).reply ≡ 0)
unfolding is_well_formed
meets-number = (refl, refl)

empties-number : turn_number (turn_call gateway emptying at_prices 0).reply ≡ 0
unfolding is_well_formed
empties-number = refl

takes-number : turn_number (turn_call gateway few_workers four 1).reply ≡ 0
unfolding is_well_formed
takes-number = refl

-- a cell keeps its content if what a turn may write does not fit
same-content : (t u : List ℕ) (c : ℕ) → (get_or u c 0 ≢ get_or t c 0 → ⊥) → get_or u c 0 ≡ get_or t c 0
same-content t u c h = by-eq (get_or u c 0) (get_or t c 0) (λ e. e) (λ ne. absurd (h ne))

-- where cell 4 does not hold 8 at price 1, nothing is replaced
not-replaced : (t : List ℕ) → get_or t 4 0 ≢ one 8 → (c after : ℕ) → Replaces 2 (doing few_workers 1) c (get_or t c 0) after → ⊥
not-replaced t other c after (e, or) = ⊎_elim (λ (k, _, _). apart 2 1 tt k) (λ (_, held, _). other (ap (λ (x : ℕ). get_or t x 0) e ∙ held)) or

unwritten : (t : List ℕ) → get_or t 4 0 ≢ one 8 → (c : ℕ) → get_or (turn_table gateway few_workers t 1) c 0 ≡ get_or t c 0
unwritten t other c = same-content t (turn_table gateway few_workers t 1) c (λ ne.
    not-replaced t other c (get_or (turn_table gateway few_workers t 1) c 0) ((turns gateway few_workers t 1).writes c ne))

said-price : (turn_call gateway (looking_up 13 3) four 0).reply ≡ Ok (Price 1)
unfolding is_well_formed rule find_step
said-price = refl

made : Made gateway made_on_others
made =
    let first = madeByOrder _ (opened 1 2 plain (empty_cells 5) sheet_items) sheet_items 0 0 0 in
    closed _ (turned _ (madeByOrder _ (turned _ first four 0) (one_line 8 9 1) 0 0 0) altered 1)

split-turn : SplitTurn gateway few_workers four 1
split-turn = splits.turn gateway few_workers few-formed refl four refl 1 (omega arith)

split-order : SplitOrder gateway few_workers [] 0 0 9
split-order = splits.order gateway few_workers few-formed refl [] 0 0 9 refl (omega arith)

-- the worker alone
one-turn : one_turn gateway 2 plain 5 four (worker (Replacing (one 8) 4 0 (one 4)))
    ≡ record { worker = worker (WalkingBack (one 4) 0); reply = Ok WentOn }
unfolding rule delete_step
one-turn = refl

one-table-left : one_cells gateway 2 plain 5 four (worker (Replacing (one 8) 4 0 (one 4))) ≡ ones (4 ∷ 3 ∷ 0 ∷ 13 ∷ 4 ∷ [])
unfolding rule delete_step
one-table-left = refl

pub call-corollaries : CallCorollaries
call-corollaries =
    let refused = opens gateway 4 1 plain four wrong_lines in
    let ended = (closes gateway just_opened).accepted close-number in
    let takes = turns gateway few_workers four 1 in
    let taken = turns gateway many_workers altered 7 in
    record {
      opened_crew = rests.crew;
      opened_cells = rests.cells;
      opened_idle = rests.rest 1;
      refused_shut = (refused.refused not_opened).shut;
      refused_cells = (refused.refused not_opened).cells;
      opened_sound = (opens gateway 1 2 plain at_prices reprice_items).sound gateway-proper prices-open;
      not_unsound = (opens gateway 1 2 plain (empty_cells 5) worker_before_blank).never_unsound gateway-proper five-sound;
      gap_refused = gap-opens;
      disorder_refused = disorder-opens;
      looks_refused = disorder-looks;
      room = seven-fits;
      full = four-overflows;
      earliest = worker-decides;
      longest = many-fit;
      too_long = too_many;
      lines = (opens gateway 1 2 plain (empty_cells 5) sheet_items).lines refl opened-number;
      list_unread = (opens gateway 2 2 plain four []).unread (λ z. apart 2 1 tt z) wrong_lines;
      starts_priced =
          started.starts (rw rests.places (omega arith))
          ∙ ap₂ (λ (ab : Hash) (n : ℕ). Reading (content 3 7) (spread ab n 3)) rests.hash rests.cells;
      starts = ((orders gateway few_workers [] 7 0 9).other_accepted (λ z. apart 2 1 tt z) few-order).starts (omega arith);
      order_leaves = started.others.others 1 (λ z. omega arith) ∙ rests.rest 1;
      no_line = no_line;
      no_worker = no_worker;
      free = mispriced 0 (inl refl);
      too_dear = mispriced 10000000 (inr (omega arith));
      blank_first = blank-line;
      dearest = dearest;
      first_test = testing 4000000000 0 (omega arith);
      last_test = testing 4294967295 1 (omega arith);
      last_shop = last_shop;
      test_keeps = (orders gateway just_opened (one_line 4000000000 1 0) 0 0 0).refused (λ z. let e = testing 4000000000 1 (omega arith) in omega (arith, z, e));
      mispriced_keeps =
          (orders gateway just_opened (one_line 3 0 0) 0 0 0).refused (λ z. let e = mispriced 0 (inl refl) in omega (arith, z, e));
      insert_unread = (orders gateway just_opened sheet_items 1 0 13).insert_unread rests.kind 9 0;
      unread = unread;
      other_unread = (orders gateway few_workers [] 7 0 9).other_unread (λ z. apart 2 1 tt z) wrong_lines 0;
      never_full = λ os i w v. (orders gateway just_opened os i w v).never_full;
      inserts = (turns gateway putting_in (ones (0 ∷ 0 ∷ 0 ∷ 8 ∷ 3 ∷ [])) 0).inserts puts-number refl (one 13) 3 3 (one 8) refl refl;
      reprices = (turns gateway repricing at_prices 0).inserts reprices-number refl (content 8 2) 3 3 (content 8 9) refl refl;
      deletes = takes.deletes takes-number refl (one 8) 4 0 (one 4) refl refl (apart 4 0 tt);
      stands = (turns gateway (meeting 9) at_prices 0).stands meets-number.0 refl (content 8 9) 3 refl refl (omega arith);
      undercuts = (turns gateway (meeting 8) at_prices 0).undercuts meets-number.1 refl (content 8 8) 3 refl refl (omega arith);
      ends = (turns gateway repricing at_prices 0).ends reprices-number refl (content 8 2) 3 3 (content 8 9) refl refl (inl (refl, omega arith));
      empties = (turns gateway emptying at_prices 0).empties empties-number refl (content 8 9) 3 4 6 refl refl refl;
      differs = unwritten overwritten (apart (one 9) (one 8) tt);
      differs_in_price = unwritten overpriced (apart (content 8 2) (one 8) tt);
      reads = λ c. same-content four (turn_table gateway many_workers four 0) c ((turns gateway many_workers four 0).writes c);
      finished = let (_, _, b) = ((turns gateway (looking_up 13 3) four 0).answered (Price 1) said-price).told.0 (inl (1, refl)) in b;
      says_price = λ q e. sym ((turns gateway (looking_up 3 4) at_prices 0).says_price q e 4 refl).1;
      not_price = λ q e. apart 8 9 tt ((turns gateway (looking_up 9 4) four 0).says_price q e 4 refl).0;
      not_no = λ e. (turns gateway (looking_up 13 3) four 0).says_no e 3 refl refl;
      idle = ((turns gateway few_workers four 0).idle refl).0;
      turn_crew = taken.others.frame.crew;
      turn_open = taken.others.shut;
      turn_leaves = taken.others.others 0 (λ z. omega arith);
      closes = ended.shut;
      close_leaves = ended.workers;
      unspoilt = λ e. let (spoilt, _) = (closes gateway made_on_others).answers in (spoilt.0 e).1 (each-never-spoilt Gateway made_on_others made);
      places = places gateway made_on_others made;
      apart_reply = split-turn.reply ∙ ap (λ (m : Moved). m.reply) one-turn;
      apart_phase = split-turn.phase ∙ ap (λ (m : Moved). with_worker few_workers 1 m.worker.activity) one-turn;
      apart_table = split-turn.table ∙ one-table-left;
      apart_order = split-order.phase;
    }
