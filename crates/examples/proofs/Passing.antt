-- Each example as a test that computes, and the laws that turn a passed test into what the example says.
use Rattle.std.specs.Prelude.{Ok, Err}
use mathlib.Core.Path.{◌≡◌, refl, sym, ap, ap₂, ◌∙◌, subst}
use mathlib.Core.Logic.{◌≢◌}
use mathlib.Core.Bool.{Bool, true, false, not, cond, ◌&&◌}
use mathlib.Core.List.{List, [], ◌∷◌, ◌++◌}
use Prim.Native.Nat.{ℕ, zero, suc, ◌*◌, ◌≤◌, ◌<◌}
use native.Mathlib.Nat.{zero-add, zero-lt-suc, mod-lt}
use native.Mathlib.Omega.{arith}
use borrow.Author.Tests.{le-ltb, lt-leb, eq-eqb, ne_eqb}
use lib.Dec.{T, eqb, ltb, eqb→eq, T_not}
use lib.ListN.{length, get_or, take, drop, length-replicate}
use Rattle.ring.proofs.Split.{by-eq}
use Rattle.ring.proofs.Tests.{within-says}
use Rattle.layout.specs.Layout.{descending, size, place_all, layout}
use Rattle.layout.specs.Sound.{Sound}
use Rattle.layout.proofs.Theorem.{theorem as layouts}
use Rattle.ring.proofs.Each.{and_left, and_right}
use Rattle.homes.specs.Homes.{mixed, spread, is_even}
use Rattle.homes.specs.declared.Hash.{Hash}
use Rattle.prices.specs.Contents.{label, cell_ok, SoundTable}
use Rattle.prices.specs.Priced.{labels, priced_layout}
use Rattle.flaws.specs.Flaws.{is_intact, meets_empty, meets_key}
use Rattle.flaws.specs.Promise.{Intact, Gapped, Disordered, Flaws}
use Rattle.flaws.proofs.Theorem.{theorem as flaws}
use Rattle.orders.specs.Orders.{lines_fault}
use Rattle.orders.specs.declared.Order.{Order}
use Rattle.words.specs.Words.{occupied, entries_of, filled, group, word_of, count_of}
use Rattle.words.proofs.Pass.{one_pass}
use Rattle.words.proofs.Places.{place_is, count-occupied}
use Rattle.activities.specs.declared.Activity.{Activity}
use Rattle.activities.specs.declared.Activity.TheVariants.{Idle, Reading, Replacing, WalkingBack, SeekingForward, SeekingBack}
use Rattle.activities.specs.declared.Worker.{Worker}
use Rattle.rule.specs.declared.Answer.{Answer}
use Rattle.rule.specs.declared.Answer.TheVariants.{WentOn, Finished, Price, No}
use Rattle.rule.specs.declared.Answer.TheVariants as answer
use Rattle.rule.specs.Schedules.{same_table, closes_right}
use Rattle.rule.proofs.Schedules.{same-table, closes}
use Rattle.state.specs.Model.{gateway, size_ok}
use Rattle.state.specs.Open.{hash_bars, sound_bars, table_bars, crowded, opened, open_reply, open_call}
use Rattle.state.specs.Refusals.{reply_number, if, first_of}
use Rattle.state.specs.declared.Phase.{Phase}
use Rattle.state.specs.declared.Refusal.TheVariants.{Size, Unsound, ShortList, Gap, Disorder, Even}
use Rattle.state.specs.Replies.{Reply, Counted}
use Rattle.protocol.specs.Calls.{turn_number, close_call, order_call, turn_call, turn_table}
use Rattle.protocol.specs.IsWellFormed.{is_well_formed}
use Rattle.protocol.specs.WellFormed.{WellFormed}
use Rattle.protocol.specs.Replies.{TurnReply}
use Rattle.protocol.proofs.Theorem.{well-formed, orders, turns, closes as closings}
use Rattle.state.specs.Counts.{count_number, count_value, counted_by, if_counted}
use Rattle.tables.specs.Calls.{check_call, list_bars, list_call}
use Rattle.history.specs.History.{after}
use Rattle.history.specs.History as history
use Rattle.numbered.specs.Lists.{answers_of}
use Rattle.examples.specs.Forms.{Example, laid, unsound, word, stepping, passing, counting, listing, opening, ordering, ending}
use Rattle.examples.specs.Forms.{empties, marked, calling, tracing, refusing, bound, closing}
use Rattle.examples.specs.Forms.{Told, empty_cells, phase_by, all_idle, handed_back, alone_by, calls_of, answers_told, Spoilt, Unspoilt, Says, AllSay}
use Rattle.examples.proofs.Sound.{is_sound, sound-says}

is_true : (b : Bool) → T b → b ≡ true
is_true true p = refl
is_true false p = absurd p

is_false : (b : Bool) → (b ≡ true → ⊥) → b ≡ false
is_false true not-true = absurd (not-true refl)
is_false false not-true = refl

unfoldable pub same_bit : Bool → Bool → Bool
same_bit true b = b
same_bit false b = not b

same_bit_lem : (a b : Bool) → T (same_bit a b) → a ≡ b
unfolding same_bit
same_bit_lem true true p = refl
same_bit_lem true false p = absurd p
same_bit_lem false true p = absurd p
same_bit_lem false false p = refl

-- ---- equal activities, workers and phase states: an activity is told by its numbers
unfoldable pub code_of : Activity → List ℕ
code_of Idle = 0 ∷ []
code_of (Reading v i) = 1 ∷ v ∷ i ∷ []
code_of (Replacing v k j x) = 2 ∷ v ∷ k ∷ j ∷ x ∷ []
code_of (WalkingBack v k) = 3 ∷ v ∷ k ∷ []
code_of (SeekingForward v k j) = 4 ∷ v ∷ k ∷ j ∷ []
code_of (SeekingBack p v k j x) = 5 ∷ v ∷ k ∷ j ∷ x ∷ p ∷ []

abbrev activity-of : List ℕ → Activity
activity-of c =
    let at : ℕ → ℕ = λ i. get_or c i 0 in
    get_or (
    Idle
    ∷ Reading (at 1) (at 2)
    ∷ Replacing (at 1) (at 2) (at 3) (at 4)
    ∷ WalkingBack (at 1) (at 2)
    ∷ SeekingForward (at 1) (at 2) (at 3)
    ∷ SeekingBack (at 5) (at 1) (at 2) (at 3) (at 4)
    ∷ []
    ) (at 0) Idle

told-by-code : (a : Activity) → activity-of (code_of a) ≡ a
unfolding code_of
told-by-code Idle = refl
told-by-code (Reading v i) = refl
told-by-code (Replacing v k j x) = refl
told-by-code (WalkingBack v k) = refl
told-by-code (SeekingForward v k j) = refl
told-by-code (SeekingBack p v k j x) = refl

unfoldable pub same_workers : List Worker → List Worker → Bool
same_workers [] [] = true
same_workers [] (v ∷ vs) = false
same_workers (w ∷ ws) [] = false
same_workers (w ∷ ws) (v ∷ vs) = same_table (code_of w.activity) (code_of v.activity) && same_workers ws vs

pub same-activity : (a b : Activity) → T (same_table (code_of a) (code_of b)) → a ≡ b
same-activity a b p = sym (told-by-code a) ∙ ap activity-of (same-table (code_of a) (code_of b) p) ∙ told-by-code b

same-workers : (ws vs : List Worker) → T (same_workers ws vs) → ws ≡ vs
unfolding same_workers
same-workers [] [] p = refl
same-workers [] (v ∷ vs) p = absurd p
same-workers (w ∷ ws) [] p = absurd p
same-workers (w ∷ ws) (v ∷ vs) p =
    let q = same_table (code_of w.activity) (code_of v.activity) in
    let e : w.activity ≡ v.activity = same-activity w.activity v.activity (and_left q (same_workers ws vs) p) in
    ap₂ (λ (x : Activity) (l : List Worker). record { activity = x } ∷ l) e (same-workers ws vs (and_right q (same_workers ws vs) p))

unfoldable pub same_phase : Phase → Phase → Bool
same_phase p q =
    same_table (p.kind ∷ p.length ∷ p.crew ∷ p.hash.a ∷ p.hash.b ∷ []) (q.kind ∷ q.length ∷ q.crew ∷ q.hash.a ∷ q.hash.b ∷ [])
    && (same_bit p.shut q.shut && same_workers p.workers q.workers)

same-phase : (p q : Phase) → T (same_phase p q) → p ≡ q
unfolding same_phase
same-phase p q h =
    let xs : List ℕ = p.kind ∷ p.length ∷ p.crew ∷ p.hash.a ∷ p.hash.b ∷ [] in
    let ys : List ℕ = q.kind ∷ q.length ∷ q.crew ∷ q.hash.a ∷ q.hash.b ∷ [] in
    let e : xs ≡ ys = same-table xs ys (and_left (same_table xs ys) _ h) in
    let rest = and_right (same_table xs ys) (same_bit p.shut q.shut && same_workers p.workers q.workers) h in
    let shut : p.shut ≡ q.shut = same_bit_lem p.shut q.shut (and_left (same_bit p.shut q.shut) _ rest) in
    let workers : p.workers ≡ q.workers = same-workers p.workers q.workers (and_right (same_bit p.shut q.shut) _ rest) in
    λ i.
    record {
      kind = get_or (e i) 0 0;
      length = get_or (e i) 1 0;
      crew = get_or (e i) 2 0;
      shut = shut i;
      hash = record { a = get_or (e i) 3 0; b = get_or (e i) 4 0 };
      workers = workers i;
    }

-- ---- equal answers: an answer is told by its numbers, and a refusal is none
unfoldable pub answer_code : Answer → List ℕ
answer_code WentOn = 0 ∷ []
answer_code Finished = 1 ∷ []
answer_code (Price q) = 2 ∷ q ∷ []
answer_code No = 3 ∷ []
answer_code answer.Idle = 4 ∷ []

abbrev answer-of : List ℕ → Answer
answer-of c = get_or (WentOn ∷ Finished ∷ Price (get_or c 1 0) ∷ No ∷ answer.Idle ∷ []) (get_or c 0 0) WentOn

answered-by-code : (a : Answer) → answer-of (answer_code a) ≡ a
unfolding answer_code
answered-by-code WentOn = refl
answered-by-code Finished = refl
answered-by-code (Price q) = refl
answered-by-code No = refl
answered-by-code answer.Idle = refl

unfoldable pub answers : TurnReply → Answer → Bool
answers (Ok a) r = same_table (answer_code a) (answer_code r)
answers (Err e) r = false

same_answer : (o : TurnReply) (r : Answer) → T (answers o r) → o ≡ Ok r
unfolding answers
same_answer (Ok a) r p = ap Ok (sym (answered-by-code a) ∙ ap answer-of (same-table (answer_code a) (answer_code r) p) ∙ answered-by-code r)
same_answer (Err e) r p = absurd p

-- ---- check, count and list, with the number of labels for the count of ones
module _ (ab : Hash) (t out : List ℕ) where
  abbrev counts : ℕ → Counted
  counts c = counted_by c (check_call gateway ab t)

  abbrev lists : ℕ → Counted
  lists c = counted_by c (first_of (table_bars gateway ab t ++ if (ltb (length out) c) ShortList ∷ []))

-- ---- n empty cells
blank-length : (n : ℕ) → length (empty_cells n) ≡ n
blank-length n = length-replicate n 0

-- their labels are the layout of no keys, and each is 0
blank-labels : (n : ℕ) → labels label (empty_cells n) ≡ empty_cells n
blank-labels zero = refl
blank-labels (suc n) = ap (λ (l : List ℕ). 0 ∷ l) (blank-labels n)

blank-cell : (n j : ℕ) → get_or (empty_cells n) j 0 ≡ 0
blank-cell zero j = refl
blank-cell (suc n) zero = refl
blank-cell (suc n) (suc j) = blank-cell n j

-- sound, if there are any
blank-table : (ab : Hash) (n : ℕ) → 0 < n → SoundTable n (spread ab n) (empty_cells n)
unfolding layout place_all descending
blank-table ab n some =
    let s : Sound n (spread ab n) (empty_cells n) = (layouts n (spread ab n) (λ x. mod-lt (mixed ab x) some)).sound [] some in
    record {
      paths = subst (Sound n (spread ab n)) (sym (blank-labels n)) s;
      cells = λ j _. subst (λ (c : ℕ). T (cell_ok c)) (sym (blank-cell n j)) tt;
    }

-- of none of the three kinds of unsound
module _ (ab : Hash) (n : ℕ) where
  abbrev cells : List ℕ
  cells = empty_cells (suc n)

  abbrev homes : ℕ → ℕ
  homes = spread ab (length cells)

  abbrev kinds : Flaws homes cells
  kinds = flaws.kinds homes cells

  blank-kinds : Intact cells × (Gapped homes cells → ⊥) × (Disordered homes cells → ⊥)
  blank-kinds =
      let inside : (x : ℕ) → homes x < length cells = λ x. mod-lt (mixed ab x) (zero-lt-suc (length (empty_cells n))) in
      let sound = blank-table ab (suc n) (zero-lt-suc n) in
      (flaws.sound homes cells (λ _. inside)).0 (subst (λ (k : ℕ). SoundTable k (spread ab k) cells) (sym (blank-length (suc n))) sound)

  blank-intact : is_intact cells ≡ true
  blank-intact = kinds.intact.1 blank-kinds.0

  blank-gapless : meets_empty homes cells ≡ false
  blank-gapless = is_false (meets_empty homes cells) (λ e. blank-kinds.1 (kinds.gapped.0 e))

  blank-ordered : meets_key homes cells ≡ false
  blank-ordered = is_false (meets_key homes cells) (λ e. blank-kinds.2 (kinds.disordered.0 e))

-- no labels
blank-count : (n : ℕ) → occupied (empty_cells n) ≡ 0
blank-count zero = refl
blank-count (suc n) = zero-add (occupied (empty_cells n)) ∙ blank-count n

-- by their number and a alone
abbrev sized : Hash → ℕ → Reply
sized ab n = cond (not (size_ok gateway n)) (Err Size) (cond (is_even ab) (Err Even) (Ok tt))

blank-check : (ab : Hash) (n : ℕ) → check_call gateway ab (empty_cells n) ≡ sized ab n
blank-check ab zero = refl
blank-check ab (suc n) = rw (blank-intact ab n, blank-gapless ab n, blank-ordered ab n, blank-length n)

-- without orders there is room
blank-size : (n : ℕ) → size (labels label (empty_cells n) ++ []) ≡ 0
unfolding descending
blank-size zero = refl
blank-size (suc n) = blank-size n

blank-room : (n : ℕ) → crowded (empty_cells (suc n)) [] ≡ false
blank-room n = lt-leb (length (empty_cells (suc n))) (size (labels label (empty_cells (suc n)) ++ [])) (omega (arith, blank-size (suc n), blank-length (suc n)))

blank-opens : (ab : Hash) (n m : ℕ) → (1 ≤ m) × (m ≤ 16) → open_reply gateway 1 m ab (empty_cells (suc n)) [] ≡ sized ab (suc n)
unfolding lines_fault
blank-opens ab n m crew = rw (blank-intact ab n, blank-gapless ab n, blank-ordered ab n, (within-says 1 16 m).1 crew, blank-room n, blank-length n)

blank-open : (ab : Hash) (n k m : ℕ) → (1 ≤ k) × (k ≤ 3) → (1 ≤ m) × (m ≤ 16) → open_reply gateway k m ab (empty_cells n) [] ≡ sized ab n
blank-open ab zero k m kind crew = refl
blank-open ab (suc n) k m kind crew = by-eq k 1
    (λ e. rw e (blank-opens ab n m crew))
    (λ ne.
    rw (ne_eqb k 1 ne, blank-intact ab n, blank-gapless ab n, blank-ordered ab n, (within-says 1 16 m).1 crew, (within-says 1 3 k).1 kind, blank-length n))

no_value : (r : Reply) → count_value (counted_by 0 r) ≡ 0
no_value (Ok _) = refl
no_value (Err r) = refl

blank-value : (ab : Hash) (n : ℕ) → count_value (counted_by (count_of (empty_cells n)) (sized ab n)) ≡ 0
blank-value ab n = ap (λ (c : ℕ). count_value (counted_by c (sized ab n))) (count-occupied (empty_cells n) ∙ blank-count n) ∙ no_value (sized ab n)

blank-lists : (ab : Hash) (n : ℕ) (out : List ℕ) → first_of (list_bars gateway ab (empty_cells n) out) ≡ sized ab n
blank-lists ab zero out = refl
blank-lists ab (suc n) out =
    let none : count_of (empty_cells (suc n)) ≡ 0 = count-occupied (empty_cells (suc n)) ∙ blank-count (suc n) in
    let l : count_of (empty_cells (suc n)) ≤ length out = omega arith in
    rw (blank-intact ab n, blank-gapless ab n, blank-ordered ab n, le-ltb (length out) (count_of (empty_cells (suc n))) l, blank-length n)

no_keys : (n : ℕ) → entries_of (empty_cells n) ≡ []
no_keys zero = refl
no_keys (suc n) = no_keys n

-- nothing is filled in
blank-filled : (n : ℕ) (out : List ℕ) → filled (empty_cells n) out ≡ out
blank-filled n out = ap₂ (λ (l : List ℕ) (c : ℕ). l ++ drop c out) (no_keys n) (blank-count n)

either : (a : Counted) (x y : List ℕ) → x ≡ y → if_counted a x y ≡ y
either (Ok c) x y e = e
either (Err r) x y e = refl

count-number : (c : ℕ) (r : Reply) → count_number (counted_by c r) ≡ reply_number r
count-number c (Ok _) = refl
count-number c (Err r) = refl

-- ---- refused tables
-- 21 and the table's 4, 17 and 18, and the same before any further refusals
abbrev marked_by : Hash → List ℕ → Reply
marked_by ab t = first_of (hash_bars ab ++ sound_bars gateway ab t)

abbrev of_four : (even whole gap disorder : Bool) → Reply → Reply
of_four e w g d further = cond e (Err Even) (cond (not w) (Err Unsound) (cond g (Err Gap) (cond d (Err Disorder) further)))

before-further : (e w g d : Bool) (further : Reply) → reply_number (of_four e w g d (Ok tt)) ≢ 0 → of_four e w g d further ≡ of_four e w g d (Ok tt)
before-further true w g d further ne = refl
before-further false false g d further ne = refl
before-further false true true d further ne = refl
before-further false true false true further ne = refl
before-further false true false false further ne = absurd (ne refl)

-- a refusal gives no count, keeps a list and hands back a shut record
refused-value : (c : ℕ) (r : Reply) → reply_number r ≢ 0 → count_value (counted_by c r) ≡ 0
refused-value c (Ok _) ne = absurd (ne refl)
refused-value c (Err e) ne = refl

refused-list : (c : ℕ) (r : Reply) (x y : List ℕ) → reply_number r ≢ 0 → if_counted (counted_by c r) x y ≡ y
refused-list c (Ok _) x y ne = absurd (ne refl)
refused-list c (Err e) x y ne = refl

module _ (k m : ℕ) (ab : Hash) (t : List ℕ) where
  refused-phase : (r : Reply) → reply_number r ≢ 0 → (opened gateway k m ab t r).phase ≡ handed_back
  refused-phase (Ok _) ne = absurd (ne refl)
  refused-phase (Err e) ne = refl

  opened-reply : (r : Reply) → (opened gateway k m ab t r).reply ≡ r
  opened-reply (Ok _) = refl
  opened-reply (Err e) = refl

-- a table of a length within the limits, refused
module _ (ab : Hash) (t : List ℕ) (cells : size_ok gateway (length t) ≡ true) (bad : reply_number (marked_by ab t) ≢ 0) where
  abbrev home : ℕ → ℕ
  home = spread ab (length t)

  further-bars : (further : Reply) → of_four (is_even ab) (is_intact t) (meets_empty home t) (meets_key home t) further ≡ marked_by ab t
  further-bars further = before-further (is_even ab) (is_intact t) (meets_empty home t) (meets_key home t) further bad

  marked-check : check_call gateway ab t ≡ marked_by ab t
  marked-check = rw cells

  marked-list : (out : List ℕ) → first_of (list_bars gateway ab t out) ≡ marked_by ab t
  marked-list out = rw cells (further-bars _)

  marked-open : (k m : ℕ) (os : List Order) → (1 ≤ k) × (k ≤ 3) → (1 ≤ m) × (m ≤ 16) → length os ≤ 65536 → open_reply gateway k m ab t os ≡ marked_by ab t
  marked-open k m os kind crew few = by-eq k 1
      (λ e. rw (e, cells, (within-says 1 16 m).1 crew, le-ltb 65536 (length os) few) (further-bars _))
      (λ ne. rw (ne_eqb k 1 ne, cells, (within-says 1 16 m).1 crew, (within-says 1 3 k).1 kind))

-- ---- spoilt or not
pub well-unspoilt : (p : Phase) → WellFormed gateway p → Unspoilt p
well-unspoilt p good os i w v t =
    let o = orders gateway p os i w v in (
      λ e. by-eq p.kind 1 (λ is. ((o.inserts is).0.0 e).1 good) (λ ne. ((o.others ne).0.0 e).1 good),
      λ e. ((turns gateway p t w).answers.0.0 e).1 good,
      λ e. ((closings gateway p).answers.0.0 e).1 good,
    )

pub ill-spoilt : (p : Phase) → (WellFormed gateway p → ⊥) → Spoilt p
ill-spoilt p bad os i w v t =
    let o = orders gateway p os i w v in (
      by-eq p.kind 1 (λ is. (o.inserts is).0.1 (tt, bad)) (λ ne. (o.others ne).0.1 (tt, bad)),
      (turns gateway p t w).answers.0.1 (tt, bad),
      (closings gateway p).answers.0.1 (tt, bad),
    )

unspoilt : (p : Phase) → T (is_well_formed gateway p) → Unspoilt p
unspoilt p h = well-unspoilt p ((well-formed gateway p).0 (is_true (is_well_formed gateway p) h))

spoilt : (p : Phase) → T (not (is_well_formed gateway p)) → Spoilt p
spoilt p h = ill-spoilt p (λ g. T_not (is_well_formed gateway p) h (subst T (sym ((well-formed gateway p).1 g)) tt))

-- ---- the test
unfoldable pub passes : Hash → Example → Bool
passes ab (laid n es t) = same_table (priced_layout n label (spread ab n) es) t
passes ab (unsound t) = not (is_sound ab t)
passes ab (word t g w place) = eqb (word_of (group t g)) w && eqb (occupied (take (64 * g) t)) place
passes ab (stepping cells out c u) = eqb (occupied cells) c && same_table (filled cells out) u
passes ab (passing t out g u) = same_table (filled (take (64 * g) t) out) u
passes ab (counting t r c) =
    let a = counts ab t [] (occupied t) in same_table (reply_number (check_call gateway ab t) ∷ count_number a ∷ count_value a ∷ []) (r ∷ r ∷ c ∷ [])
passes ab (listing t out r c u front) =
    let a = lists ab t out (occupied t) in
    same_table (count_number a ∷ count_value a ∷ []) (r ∷ c ∷ [])
    && (same_table (if_counted a (filled t out) out) u && same_table (if_counted a (entries_of t) []) front)
passes ab (opening M k m t os r p) = let o = open_call M k m ab t os in eqb (reply_number o.reply) r && same_phase o.phase p
passes ab (ordering p os i w v r q) = let o = order_call gateway p os i w v in eqb (reply_number o.reply) r && same_phase o.phase q
passes ab (ending p r q) = let o = close_call gateway p in eqb (reply_number o.reply) r && same_phase o.phase q
passes ab (empties n r) = eqb (reply_number (sized ab n)) r
passes ab (marked t r) = size_ok gateway (length t) && (not (eqb r 0) && eqb (reply_number (marked_by ab t)) r)
passes ab (calling k m t os cs i u) =
    let s = after gateway k m ab t os (calls_of cs) in
    same_table (reply_number (open_reply gateway k m ab t os) ∷ answers_of gateway os (calls_of cs) (history.opening gateway k m ab t os)) (0 ∷ answers_told cs)
    && (s.closed && (same_phase s.phase (phase_by ab k (length t) m true all_idle) && same_table (s.counted ∷ s.table) (i ∷ u)))
passes ab (tracing k t a r b u) =
    let o = turn_call gateway (alone_by ab k (length t) a) t 0 in
    same_phase o.phase (alone_by ab k (length t) b) && (answers o.reply r && same_table (turn_table gateway (alone_by ab k (length t) a) t 0) u)
passes ab (refusing p t w r) =
    let o = turn_call gateway p t w in same_phase o.phase p && same_table (turn_number o.reply ∷ turn_table gateway p t w) (r ∷ t)
passes ab (bound p q) = is_well_formed gateway p && not (is_well_formed gateway q)
passes ab (closing s) = closes_right s

-- ---- what a passed test says
abbrev head : List ℕ → ℕ
head xs = get_or xs 0 0

-- of two lists with the same first number and the same others
same_first : (x y : ℕ) (xs ys : List ℕ) → T (same_table (x ∷ xs) (y ∷ ys)) → (x ≡ y) × (xs ≡ ys)
same_first x y xs ys p = let e : x ∷ xs ≡ y ∷ ys = same-table (x ∷ xs) (y ∷ ys) p in (ap head e, ap (λ (l : List ℕ). drop 1 l) e)

listing-says : (ab : Hash) (t out : List ℕ) (r c : ℕ) (u front : List ℕ) → T (passes ab (listing t out r c u front)) → Says ab (listing t out r c u front)
unfolding passes
listing-says ab t out r c u front p =
    let Lists : ℕ → Type 0 = λ x.
    (count_number (lists ab t out x) ≡ r)
    × (count_value (lists ab t out x) ≡ c)
    × (if_counted (lists ab t out x) (filled t out) out ≡ u)
    × (if_counted (lists ab t out x) (entries_of t) [] ≡ front)
    in
    let a = lists ab t out (occupied t) in
    let one = same_table (count_number a ∷ count_value a ∷ []) (r ∷ c ∷ []) in
    let two = same_table (if_counted a (filled t out) out) u in
    let three = same_table (if_counted a (entries_of t) []) front in
    let both = same_first (count_number a) r _ _ (and_left one (two && three) p) in
    let q = and_right one (two && three) p in
    subst Lists (sym (count-occupied t)) (
      both.0,
      ap head both.1,
      same-table (if_counted a (filled t out) out) u (and_left two three q),
      same-table (if_counted a (entries_of t) []) front (and_right two three q),
    )

counting-says : (ab : Hash) (t : List ℕ) (r c : ℕ) → T (passes ab (counting t r c)) → Says ab (counting t r c)
unfolding passes
counting-says ab t r c p =
    let Counts : ℕ → Type 0 = λ x.
    (reply_number (check_call gateway ab t) ≡ r) × (count_number (counts ab t [] x) ≡ r) × (count_value (counts ab t [] x) ≡ c)
    in
    let a = counts ab t [] (occupied t) in
    let e = same_first (reply_number (check_call gateway ab t)) r (count_number a ∷ count_value a ∷ []) (r ∷ c ∷ []) p in
    subst Counts (sym (count-occupied t)) (e.0, ap head e.1, ap (λ (l : List ℕ). get_or l 1 0) e.1)

blank-says : (ab : Hash) (n r : ℕ) → T (passes ab (empties n r)) → Says ab (empties n r)
unfolding passes
blank-says ab n r p =
    let is : reply_number (sized ab n) ≡ r = eqb→eq (reply_number (sized ab n)) r p in
    let check = ap reply_number (blank-check ab n) ∙ is in (
      λ k m kind crew. ap reply_number (blank-open ab n k m kind crew) ∙ is,
      check,
      count-number (count_of (empty_cells n)) (check_call gateway ab (empty_cells n)) ∙ check,
      ap (λ (x : Reply). count_value (counted_by (count_of (empty_cells n)) x)) (blank-check ab n) ∙ blank-value ab n,
      λ out. (
        count-number (count_of (empty_cells n)) (first_of (list_bars gateway ab (empty_cells n) out)) ∙ ap reply_number (blank-lists ab n out) ∙ is,
        either (list_call gateway ab (empty_cells n) out) (filled (empty_cells n) out) out (blank-filled n out),
      ),
    )

marked-says : (ab : Hash) (t : List ℕ) (r : ℕ) → T (passes ab (marked t r)) → Says ab (marked t r)
unfolding passes
marked-says ab t r p =
    let one = size_ok gateway (length t) in
    let two = not (eqb r 0) in
    let three = eqb (reply_number (marked_by ab t)) r in
    let cells : one ≡ true = is_true one (and_left one (two && three) p) in
    let q = and_right one (two && three) p in
    let is : reply_number (marked_by ab t) ≡ r = eqb→eq (reply_number (marked_by ab t)) r (and_right two three q) in
    let bad : reply_number (marked_by ab t) ≢ 0 = λ z. T_not (eqb r 0) (and_left two three q) (subst T (sym (eq-eqb r 0 (sym is ∙ z))) tt) in
    let check : check_call gateway ab t ≡ marked_by ab t = marked-check ab t cells bad in (
      λ k m os kind crew few.
          let opens : open_reply gateway k m ab t os ≡ marked_by ab t = marked-open ab t cells bad k m os kind crew few in (
            ap reply_number (opened-reply k m ab t (open_reply gateway k m ab t os) ∙ opens) ∙ is,
            refused-phase k m ab t (open_reply gateway k m ab t os) (λ z. bad (ap reply_number (sym opens) ∙ z)),
          ),
      ap reply_number check ∙ is,
      count-number (count_of t) (check_call gateway ab t) ∙ ap reply_number check ∙ is,
      refused-value (count_of t) (check_call gateway ab t) (λ z. bad (ap reply_number (sym check) ∙ z)),
      λ out.
          let lists : first_of (list_bars gateway ab t out) ≡ marked_by ab t = marked-list ab t cells bad out in
          let ne : reply_number (first_of (list_bars gateway ab t out)) ≢ 0 = λ z. bad (ap reply_number (sym lists) ∙ z) in (
            count-number (count_of t) (first_of (list_bars gateway ab t out)) ∙ ap reply_number lists ∙ is,
            refused-list (count_of t) (first_of (list_bars gateway ab t out)) (filled t out) out ne,
            refused-list (count_of t) (first_of (list_bars gateway ab t out)) (entries_of t) [] ne,
          ),
    )

-- a call's number and phase state
replied-says : (a r : ℕ) (p q : Phase) → T (eqb a r && same_phase p q) → (a ≡ r) × (p ≡ q)
replied-says a r p q h = (eqb→eq a r (and_left (eqb a r) (same_phase p q) h), same-phase p q (and_right (eqb a r) (same_phase p q) h))

calling-says : (ab : Hash) (k m : ℕ) (t : List ℕ) (os : List Order) (cs : List Told) (i : ℕ) (u : List ℕ) → T (passes ab (calling k m t os cs i u))
    → Says ab (calling k m t os cs i u)
unfolding passes
calling-says ab k m t os cs i u p =
    let s = after gateway k m ab t os (calls_of cs) in
    let answers = answers_of gateway os (calls_of cs) (history.opening gateway k m ab t os) in
    let opens = reply_number (open_reply gateway k m ab t os) in
    let one = same_table (opens ∷ answers) (0 ∷ answers_told cs) in
    let ended = phase_by ab k (length t) m true all_idle in
    let three = same_phase s.phase ended in
    let four = same_table (s.counted ∷ s.table) (i ∷ u) in
    let e = same_first opens 0 answers (answers_told cs) (and_left one (s.closed && (three && four)) p) in
    let q = and_right one (s.closed && (three && four)) p in
    let r = and_right s.closed (three && four) q in
    let f = same_first s.counted i s.table u (and_right three four r) in
    (e.0, e.1, f.0, is_true s.closed (and_left s.closed (three && four) q), same-phase s.phase ended (and_left three four r), f.1)

tracing-says : (ab : Hash) (k : ℕ) (t : List ℕ) (a : Activity) (r : Answer) (b : Activity) (u : List ℕ) → T (passes ab (tracing k t a r b u))
    → Says ab (tracing k t a r b u)
unfolding passes
tracing-says ab k t a r b u p =
    let o = turn_call gateway (alone_by ab k (length t) a) t 0 in
    let cells = turn_table gateway (alone_by ab k (length t) a) t 0 in
    let one = same_phase o.phase (alone_by ab k (length t) b) in
    let two = answers o.reply r in
    let three = same_table cells u in
    let phase : o.phase ≡ alone_by ab k (length t) b = same-phase o.phase (alone_by ab k (length t) b) (and_left one (two && three) p) in
    let q = and_right one (two && three) p in
    let reply : o.reply ≡ Ok r = same_answer o.reply r (and_left two three q) in
    (λ i. record { phase = phase i; reply = reply i }, same-table cells u (and_right two three q))

refusing-says : (ab : Hash) (p : Phase) (t : List ℕ) (w r : ℕ) → T (passes ab (refusing p t w r)) → Says ab (refusing p t w r)
unfolding passes
refusing-says ab p t w r h =
    let o = turn_call gateway p t w in
    let one = same_phase o.phase p in
    let two = same_table (turn_number o.reply ∷ turn_table gateway p t w) (r ∷ t) in
    let e = same_first (turn_number o.reply) r (turn_table gateway p t w) t (and_right one two h) in
    (e.0, same-phase o.phase p (and_left one two h), e.1)

passes-says : (ab : Hash) (e : Example) → T (passes ab e) → Says ab e
unfolding passes
passes-says ab (laid n es t) p = same-table (priced_layout n label (spread ab n) es) t p
passes-says ab (unsound t) p = λ s. T_not (is_sound ab t) p ((sound-says ab t).1 s)
passes-says ab (word t g w place) p =
    let one = eqb (word_of (group t g)) w in
    let two = eqb (occupied (take (64 * g) t)) place in
    (eqb→eq (word_of (group t g)) w (and_left one two p), place_is t g ∙ eqb→eq (occupied (take (64 * g) t)) place (and_right one two p))
passes-says ab (stepping cells out c u) p =
    let one = eqb (occupied cells) c in
    let two = same_table (filled cells out) u in
    (eqb→eq (occupied cells) c (and_left one two p), same-table (filled cells out) u (and_right one two p))
passes-says ab (passing t out g u) p = one_pass t g out ∙ same-table (filled (take (64 * g) t) out) u p
passes-says ab (counting t r c) p = counting-says ab t r c p
passes-says ab (listing t out r c u front) p = listing-says ab t out r c u front p
passes-says ab (opening M k m t os r p) h = let o = open_call M k m ab t os in replied-says (reply_number o.reply) r o.phase p h
passes-says ab (ordering p os i w v r q) h = let o = order_call gateway p os i w v in replied-says (reply_number o.reply) r o.phase q h
passes-says ab (ending p r q) h = let o = close_call gateway p in replied-says (reply_number o.reply) r o.phase q h
passes-says ab (empties n r) p = blank-says ab n r p
passes-says ab (marked t r) p = marked-says ab t r p
passes-says ab (calling k m t os cs i u) p = calling-says ab k m t os cs i u p
passes-says ab (tracing k t a r b u) p = tracing-says ab k t a r b u p
passes-says ab (refusing p t w r) h = refusing-says ab p t w r h
passes-says ab (bound p q) h =
    let one = is_well_formed gateway p in
    let two = not (is_well_formed gateway q) in
    (unspoilt p (and_left one two h), spoilt q (and_right one two h))
passes-says ab (closing s) p = closes s p

-- ---- of a list of examples
unfoldable pub all_pass : Hash → List Example → Bool
all_pass ab [] = true
all_pass ab (e ∷ es) = passes ab e && all_pass ab es

pub all_say : (ab : Hash) (es : List Example) → T (all_pass ab es) → AllSay ab es
unfolding all_pass
all_say ab [] p = tt
all_say ab (e ∷ es) p =
    (passes-says ab e (and_left (passes ab e) (all_pass ab es) p), all_say ab es (and_right (passes ab e) (all_pass ab es) p))
