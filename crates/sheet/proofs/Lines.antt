-- What each line of a sheet does, in a shut phase, in an open one and in either.
use Rattle.std.specs.Prelude.{Ok, Err}
use mathlib.Core.Path.{◌≡◌, refl, sym, ap, ◌∙◌, subst}
use mathlib.Core.Logic.{◌≢◌}
use mathlib.Core.Bool.{Bool, true, false, cond}
use mathlib.Core.List.{List, [], ◌∷◌, ◌++◌, map}
use Prim.Native.Nat.{ℕ, ◌≤◌, ◌<◌}
use native.Mathlib.Omega.{arith}
use borrow.Author.Tests.{lt-ltb, le-ltb, eq-eqb, ne_eqb}
use lib.Dec.{ltb}
use lib.ListN.{length, get_or, take, replicate, length-map}
use Rattle.homes.specs.Homes.{hash_of}
use Rattle.orders.specs.declared.Order.{Order}
use Rattle.words.specs.Words.{entries_of, count_of}
use Rattle.words.proofs.Theorem.{theorem as listing}
use Rattle.words.proofs.Words.{occupied-le}
use Rattle.state.specs.Model.{gateway}
use Rattle.state.specs.Refusals.{reply_number}
use Rattle.state.specs.declared.Refusal.{Refusal}
use Rattle.state.specs.declared.Replied.{Replied}
use Rattle.state.specs.Replies.{Reply, Counted}
use Rattle.tables.specs.Calls.{check_call, list_call}
use Rattle.tables.proofs.Answers.{list-by}
use Rattle.protocol.specs.Calls as protocol
use Rattle.protocol.specs.Calls.{close_reply, close_call, order_call, turn_call}
use Rattle.protocol.proofs.Chain.{by-reply}
use Rattle.protocol.proofs.Theorem.{opens, orders, turns}
use Rattle.text.specs.Bytes.{bytes_of}
use Rattle.text.specs.Digits.{digits_of}
use Rattle.text.specs.Fields.{fields_of}
use Rattle.ring.proofs.Tests.{tested, not_both}
use Rattle.text.proofs.Test.{by-lt}
use Rattle.lines.specs.Grammar.{word_of, most_numbers, padded, reading_of}
use Rattle.lines.specs.declared.Command.{Command}
use Rattle.lines.specs.declared.Line.{Line}
use Rattle.lines.specs.declared.Numbers.{Numbers}
use Rattle.lines.proofs.Words.{by-option}
use Rattle.std.specs.Prelude.{Option, None, Some}
use Rattle.fitting.specs.declared.Handling.{Handling}
use Rattle.fitting.specs.declared.Handling.TheVariants.{Performed}
use Rattle.fitting.specs.declared.Task.{Task}
use Rattle.fitting.specs.declared.Task.TheVariants.{Perform, Refuse}
use Rattle.fitting.specs.Fitting.{most_items, order_numbers, item_handling, row_of, taken_by, handled, handling_in, reading_in}
use Rattle.fitting.proofs.Fitting.{taken-parts, performs}
use Rattle.dealing.specs.Deal as dealing
use Rattle.printing.specs.Fields.{reply_fields, finish_fields, told_fields}
use Rattle.sheet.specs.Replay.{State, Step, Answer, answered, answer_of, no_finishes, most_sheet_cells, cells_task, items_after, commanded, list_told}
use Rattle.sheet.specs.Promise.{line, FirstIs, greatest, InRange, Unreadable, refused_text, workers_text, finish_text, state_with, Does, Bad}
use Rattle.sheet.specs.Promise.{InShut, InOpen, InEither}
use Rattle.sheet.proofs.Hashes.{order-hash, close-hash}
use Rattle.sheet.proofs.Ran.{run-crew, run-hash, run-places}
use Rattle.sheet.proofs.Texts.{reply-text, turn-text, list-text, workers-text}
use Rattle.sheet.proofs.Unreadable.{fields-written}
use Rattle.sheet.proofs.Written.{order-first, name_of, line_with, read-line, fits-form, unreadable-fits, first_says, says_first}

-- ---- what does not fit is bad, unless every line of the command is refused, which is so of `order` in a shut phase alone
bad-item : (c : ℕ) → handled (item_handling c) None Command.Item ≡ None
bad-item c = tested (λ (h : Handling). handled h None Command.Item ≡ None) (ltb c most_items) (λ _. refl) (λ _. refl)

bad-unless : (k c : ℕ) (shut : Bool) (d : Command) → (shut ≡ true → d ≢ Command.Order) → handled (handling_in shut (row_of k c d)) None d ≡ None
bad-unless k c true Command.Cells h = refl
bad-unless k c true Command.Open h = refl
bad-unless k c true Command.Item h = bad-item c
bad-unless k c true Command.Order h = absurd (h refl refl)
bad-unless k c true Command.Turn h = refl
bad-unless k c true Command.Run h = refl
bad-unless k c true Command.Close h = refl
bad-unless k c true Command.List h = refl
bad-unless k c false Command.Cells h = refl
bad-unless k c false Command.Open h = refl
bad-unless k c false Command.Item h = refl
bad-unless k c false Command.Order h = refl
bad-unless k c false Command.Turn h = refl
bad-unless k c false Command.Run h = refl
bad-unless k c false Command.Close h = refl
bad-unless k c false Command.List h = refl

-- the answer that leaves this state and prints this text
abbrev answering : State → List ℕ → Answer
answering s text = record { state = s; printed = text ++ 10 ∷ []; ended = false }

-- carried out whether the phase is shut or not
in-either-way : (shut : Bool) (c : Command) (ns : List ℕ) → handled (cond shut Performed Performed) (Some ns) c ≡ Some (Perform c ns)
in-either-way true c ns = refl
in-either-way false c ns = refl

-- carried out with these numbers
abbrev does : Command → List ℕ → Option Task
does c ns = Some (Perform c (padded ns))

module _ (s : State) where
  abbrev asked : Line → Option Task
  asked x = reading_in s.phase.kind (length s.items) s.phase.shut x

  -- ---- the answer, by what a line asks for
  answer-as : (l : List ℕ) (r : Option Task) → asked (reading_of l) ≡ r → answer_of s (reading_of l) ≡ answered s r
  unfolding answer_of
  answer-as l r e = rw e

  -- of a line in a command's form
  module _ (c : Command) (ns : List ℕ) (few : length ns ≤ most_numbers) (range : InRange ns) where
    answer-written : (r : Option Task) → asked (line_with c ns) ≡ r → answer_of s (reading_of (line (name_of c) ns)) ≡ answered s r
    answer-written r e = answer-as (line (name_of c) ns) r (ap asked (read-line c ns few range) ∙ e)

  is-bad : (l : List ℕ) → asked (reading_of l) ≡ None → Bad s l
  unfolding bytes_of
  is-bad l e = answer-as l None e

  is-refused : (l : List ℕ) → asked (reading_of l) ≡ Some Refuse → Does s l s (refused_text 11)
  unfolding bytes_of
  is-refused l e = answer-as l (Some Refuse) e

  unreadable : (l : List ℕ) → Unreadable s.phase.kind l → (s.phase.shut ≡ true → FirstIs (bytes_of "order") l → ⊥) → Bad s l
  unreadable l u h = by-option (reading_of l).command
      (λ d is. is-bad l (rw (is, unreadable-fits l s.phase.kind (length s.items) u d is)
      (bad-unless s.phase.kind (length s.items) s.phase.shut d (λ e q. h e (says_first l Command.Order (is ∙ ap Some q))))))
      (λ none. is-bad l (rw none))

  -- ---- a shut phase
  module _ (shut : s.phase.shut ≡ true) where
    -- `cells` and a number, by its two tests
    cells-by : (n : ℕ) → n ≤ greatest → answer_of s (reading_of (line "cells" (n ∷ []))) ≡ answered s (does Command.Cells (n ∷ []))
    cells-by n h = answer-written Command.Cells (n ∷ []) (omega arith) (h, tt) (does Command.Cells (n ∷ [])) (rw shut)

    too_many : (n : ℕ) → ((2 ≤ n) × (n ≤ 4096) → ⊥) → 2 ≤ n → 4096 < n
    too_many n h few = by-lt 4096 n (λ more. more) (λ fits. absurd (h (few, fits)))

    -- `open` and its numbers, by what the opening answers
    opens_by_lem : (k m a b : ℕ) → k ≤ greatest → m ≤ greatest → a ≤ greatest → b ≤ greatest
        → answer_of s (reading_of (line "open" (k ∷ m ∷ a ∷ b ∷ []))) ≡ answered s (does Command.Open (k ∷ m ∷ a ∷ b ∷ []))
    opens_by_lem k m a b f g x y =
        answer-written Command.Open (k ∷ m ∷ a ∷ b ∷ []) (omega arith) (f, (g, (x, (y, tt)))) (does Command.Open (k ∷ m ∷ a ∷ b ∷ [])) (rw shut)

    pub in-shut : InShut s
    unfolding bytes_of
    in-shut = record {
      cells = λ n few fits. cells-by n (omega arith) ∙ rw (le-ltb n 2 few, le-ltb 4096 n fits);
      cells_refused = λ n range h. cells-by n range
          ∙ by-lt n 2 (λ fewer. rw (lt-ltb n 2 fewer)) (λ few. rw (le-ltb n 2 few, lt-ltb 4096 n (too_many n h few)));
      opening = λ k m a b f g x y e. opens_by_lem k m a b f g x y ∙ rw e;
      opening_refused = λ k m a b f g x y r e. opens_by_lem k m a b f g x y ∙ rw e;
      opening_hash = λ k m a b e. ((opens gateway k m (hash_of a b) s.table s.items).accepted (ap reply_number e)).hash;
      item = λ w v cents a b d room. answer-written Command.Item (w ∷ v ∷ cents ∷ []) (omega arith) (a, (b, (d, tt))) (does Command.Item (w ∷ v ∷ cents ∷ []))
          (rw (shut, lt-ltb (length s.items) 1024 room));
      item_full = λ full l e. is-bad l (rw (shut, first_says l Command.Item e, le-ltb (length s.items) 1024 full));
      run = answer-written Command.Run [] (omega arith) tt (Some Refuse) (rw shut);
      order = λ l e. is-refused l (rw (shut, first_says l Command.Order e));
      unreadable = λ l u h. unreadable l u (λ _. h);
    }

  -- ---- an open phase
  module _ (up : s.phase.shut ≡ false) where
    abbrev ran : dealing.Dealing
    ran = dealing.run gateway s.phase s.table

    run-text : s.phase.crew ≤ 16
        → finish_fields (take ran.dealt.phase.crew ran.dealt.finishes) ≡ workers_text s.phase.crew (finish_text ran.dealt.finishes)
    run-text few =
        ap (λ (m : ℕ). finish_fields (take m ran.dealt.finishes)) (run-crew gateway s.phase s.table)
        ∙ workers-text ran.dealt.finishes s.phase.crew (omega (arith, run-places gateway s.phase s.table))

    -- the answer of an order call
    abbrev given : Replied → Answer
    given r = answering (state_with r.phase s.table s.items) (reply_fields r.reply)

    -- an order with another number of fields than its shift's kind takes
    misfit : (ns : List ℕ) → length ns ≢ order_numbers s.phase.kind → Bad s (line "order" ns)
    misfit ns many =
        let k = s.phase.kind in
        let n = length s.items in
        let l = line "order" ns in
        let c : (reading_of l).command ≡ Some Command.Order = first_says l Command.Order (order-first ns) in
        let no : taken_by (row_of k n Command.Order) (reading_of l).numbers ≡ None = by-option _
        (λ vs f.
        let w = fits-form l k n Command.Order c vs f in
        let fields : word_of Command.Order ∷ map digits_of ns ≡ word_of Command.Order ∷ map digits_of w.numbers =
        sym (fields-written Command.Order ns) ∙ ap fields_of w.text ∙ fields-written Command.Order w.numbers in
        let long : length (map digits_of ns) ≡ length (map digits_of w.numbers) = omega (arith, ap length fields) in
        absurd (many (sym (length-map ns digits_of) ∙ long ∙ length-map w.numbers digits_of ∙ w.count)))
        (λ f. f) in
        is-bad l (rw (up, c, no))

    pub in-open : InOpen s
    unfolding bytes_of
    in-open = record {
      cells = λ l e. is-bad l (rw (up, first_says l Command.Cells e));
      opening = λ l e. is-bad l (rw (up, first_says l Command.Open e));
      item = λ l e. is-bad l (rw (up, first_says l Command.Item e));
      order_placed = λ is i a w v.
          answer-written Command.Order (i ∷ []) (omega arith) (a, tt) (does Command.Order (i ∷ [])) (rw (up, eq-eqb s.phase.kind 1 is))
          ∙ ap given ((orders gateway s.phase s.items i w v).insert_unread is i 0)
          ∙ rw (reply-text (order_call gateway s.phase s.items i w v).reply);
      order = λ ne w v a b os i.
          answer-written Command.Order (w ∷ v ∷ []) (omega arith) (a, (b, tt)) (does Command.Order (w ∷ v ∷ [])) (rw (up, ne_eqb s.phase.kind 1 ne))
          ∙ ap given ((orders gateway s.phase os i w v).other_unread ne s.items w)
          ∙ rw (reply-text (order_call gateway s.phase os i w v).reply);
      order_misfit = λ is ns many. misfit ns (rw (eq-eqb s.phase.kind 1 is) many);
      order_other_misfit = λ ne ns many. misfit ns (rw (ne_eqb s.phase.kind 1 ne) many);
      run = λ few. answer-written Command.Run [] (omega arith) tt (does Command.Run []) (rw up)
          ∙ ap (answering (state_with ran.dealt.phase ran.table s.items)) (run-text few);
      unreadable = λ l u. unreadable l u (λ e. absurd (not_both s.phase.shut e up));
    }

  -- ---- shut or open
  -- the list call's count is that of the keys: there is always room for them
  all_listed : check_call gateway s.phase.hash s.table ≡ Ok tt → list_call gateway s.phase.hash s.table s.table ≡ Ok (length (entries_of s.table))
  all_listed e =
      let t = s.table in
      let count : count_of t ≡ length (entries_of t) = (listing t).count ∙ sym (listing t).long in
      let fits : count_of t ≤ length t = omega (arith, (listing t).count, occupied-le t) in
      list-by gateway s.phase.hash t t (Ok tt) e ∙ rw (le-ltb (length t) (count_of t) fits, count)

  listed-as : (a : Counted) → list_call gateway s.phase.hash s.table s.table ≡ a
      → answer_of s (reading_of (line "list" [])) ≡ answering s (told_fields (list_told a) s.phase.crew no_finishes s.table)
  listed-as a e = answer-written Command.List [] (omega arith) tt (does Command.List []) (in-either-way s.phase.shut Command.List _)
      ∙ ap (λ (a : Counted). answering s (told_fields (list_told a) s.phase.crew no_finishes s.table)) e

  -- ---- the items
  -- what a close leaves beside these items
  abbrev left : List Order → Replied → Answer
  left os r = answering (state_with r.phase s.table os) (reply_fields r.reply)

  closed : answer_of s (reading_of (line "close" []))
      ≡ left (items_after s.phase.kind (close_call gateway s.phase).reply s.items) (close_call gateway s.phase)
  closed = answer-written Command.Close [] (omega arith) tt (does Command.Close []) (in-either-way s.phase.shut Command.Close _)

  refused-phase : (r : Refusal) → (close_call gateway s.phase).reply ≡ Err r → (close_call gateway s.phase).phase ≡ s.phase
  refused-phase r e = by-reply (close_reply gateway s.phase)
      (λ z. let no : (Ok tt) ≡ Err r = sym (ap (λ (a : Reply). (protocol.closed gateway s.phase a).reply) z) ∙ e in
      absurd (let y : ◌≡◌ {A = ℕ} 0 1 = cc in omega arith))
      (λ q z. ap (λ (a : Reply). (protocol.closed gateway s.phase a).phase) z)

  kept-items : (a : Reply) → s.phase.kind ≢ 1 → items_after s.phase.kind a s.items ≡ s.items
  kept-items (Ok _) ne = rw (ne_eqb s.phase.kind 1 ne)
  kept-items (Err r) ne = refl

  -- `cells` leaves all as it was, or another table
  pub cells-keeps : (P : State → Type 0) (n : ℕ) → P s → ((t : List ℕ) → P (state_with s.phase t s.items)) → P (cells_task s n).state
  cells-keeps P n same other = tested (λ (d : Step). P d.state) (ltb n 2) (λ _. same)
      (λ _. tested (λ (d : Step). P d.state) (ltb most_sheet_cells n) (λ _. same) (λ _. other (replicate n 0)))

  task-items : (d : Command) (ns : List ℕ) → d ≢ Command.Item → d ≢ Command.Close → (commanded s d ns).state.items ≡ s.items
  task-items Command.Cells ns item close = cells-keeps (λ (x : State). x.items ≡ s.items) (get_or ns 0 0) refl (λ t. refl)
  task-items Command.Open ns item close = refl
  task-items Command.Item ns item close = absurd (item refl)
  task-items Command.Order ns item close = refl
  task-items Command.Turn ns item close = refl
  task-items Command.Run ns item close = refl
  task-items Command.Close ns item close = absurd (close refl)
  task-items Command.List ns item close = refl

  -- ---- a and b
  task-hash : (d : Command) (ns : List ℕ) → d ≢ Command.Open → (commanded s d ns).state.phase.hash ≡ s.phase.hash
  task-hash Command.Cells ns other = cells-keeps (λ (x : State). x.phase.hash ≡ s.phase.hash) (get_or ns 0 0) refl (λ t. refl)
  task-hash Command.Open ns other = absurd (other refl)
  task-hash Command.Item ns other = refl
  task-hash Command.Order ns other = order-hash s (get_or ns 0 0) (get_or ns 0 0) (get_or ns 1 0)
  task-hash Command.Turn ns other = (turns gateway s.phase s.table (get_or ns 0 0)).others.frame.hash
  task-hash Command.Run ns other = run-hash gateway s.phase s.table
  task-hash Command.Close ns other = close-hash s
  task-hash Command.List ns other = refl

  -- ---- what a line leaves, by its command where it is carried out
  pub line-keeps : (l : List ℕ) (P : State → Type 0) → P s
      → ((d : Command) (n : Numbers) → (reading_of l).command ≡ Some d → (reading_of l).numbers ≡ Some n → P (commanded s d n.values).state)
      → P (answer_of s (reading_of l)).state
  unfolding answer_of
  line-keeps l P same carried = by-reading (asked (reading_of l)) refl
    where
      by-reading : (r : Option Task) → asked (reading_of l) ≡ r → P (answered s r).state
      by-reading None e = same
      by-reading (Some (Perform d ns)) e =
          let (is, _, takes) = performs s.phase.kind (length s.items) s.phase.shut (reading_of l) d ns e in
          let (n, q, _, valued) = taken-parts (row_of s.phase.kind (length s.items) d) (reading_of l).numbers ns takes in
          subst (λ (vs : List ℕ). P (commanded s d vs).state) valued (carried d n is q)
      by-reading (Some Refuse) e = same

  keeps_items : (l : List ℕ) → (FirstIs (bytes_of "item") l → ⊥) → (FirstIs (bytes_of "close") l → ⊥) → (answer_of s (reading_of l)).state.items ≡ s.items
  keeps_items l item close = line-keeps l (λ (x : State). x.items ≡ s.items) refl (λ d n is _.
      task-items d n.values
      (λ z. item (says_first l Command.Item (is ∙ ap Some z)))
      (λ z. close (says_first l Command.Close (is ∙ ap Some z))))

  keeps_hash : (l : List ℕ) → (FirstIs (bytes_of "open") l → ⊥) → (answer_of s (reading_of l)).state.phase.hash ≡ s.phase.hash
  keeps_hash l other = line-keeps l (λ (x : State). x.phase.hash ≡ s.phase.hash) refl (λ d n is _.
      task-hash d n.values (λ z. other (says_first l Command.Open (is ∙ ap Some z))))

  pub in_either : InEither s
  unfolding bytes_of
  in_either = record {
    turn = λ w a.
        answer-written Command.Turn (w ∷ []) (omega arith) (a, tt) (does Command.Turn (w ∷ [])) (in-either-way s.phase.shut Command.Turn _)
        ∙ rw (turn-text (turn_call gateway s.phase s.table w).reply);
    close = λ ne. closed ∙ ap (λ (os : List Order). left os (close_call gateway s.phase)) (kept-items (close_call gateway s.phase).reply ne)
        ∙ rw (reply-text (close_call gateway s.phase).reply);
    close_refused = λ r e. closed ∙ rw (e, refused-phase r e);
    close_clears = λ is e. closed ∙ rw (e, eq-eqb s.phase.kind 1 is);
    list = λ e. listed-as (Ok (length (entries_of s.table))) (all_listed e) ∙ ap (answering s) (list-text (entries_of s.table));
    list_refused = λ r e. listed-as (Err r) (list-by gateway s.phase.hash s.table s.table (Err r) e);
    keeps_hash = keeps_hash;
    keeps_items = keeps_items;
  }
