-- Lists of calls on a migration given as numbers, and what one call more adds to a list of calls, to what they leave and to their answers.
use Rattle.std.specs.Prelude.{Ok, Err}
use mathlib.Core.Path.{◌≡◌, refl, sym, ap, ◌∙◌}
use mathlib.Core.Logic.{◌≢◌}
use mathlib.Core.List.{List, [], ◌∷◌, ◌++◌, append_assoc}
use Prim.Native.Nat.{ℕ, zero, suc, min, ◌+◌, ◌<◌}
use native.Mathlib.Numerals.{add-one}
use native.Mathlib.Omega.{arith}
use lib.ListN.{length, get_or, set, drop, length-append, length-set, get_or-append}
use lib.Seq.{drop-cons, set_at, get_or-append_seam}
use borrow.Author.Tests.{eq-eqb, ne_eqb}
use Rattle.ring.proofs.Split.{by-lt}
use Rattle.state.specs.Model.{Model}
use Rattle.state.specs.Replies.{Reply}
use Rattle.protocol.specs.Replies.{TurnReply}
use Rattle.numbered.specs.Numbers.{turn_answer, reply_answer}
use Rattle.migration.specs.Calls.{order_call, close_call, turn_call, turn_old, turn_new}
use Rattle.migration.specs.Courses.{Call, order, turn, close, Course, after_order, after_turn, after_close, call, run}
use Rattle.migration.specs.Lists.{call_of, calls_of, calls_lent, CallsPromise, answer_of, answers_of, RunsFrom}
use Rattle.migration.specs.declared.Migrated.{Migrated}
use Rattle.migration.specs.declared.Migration.{Migration}
use Rattle.migration.specs.declared.Stepped.{Stepped}

-- ---- calls as numbers
length-calls : (ops workers : List ℕ) (i : ℕ) → length (calls_of ops workers i) ≡ i
unfolding calls_of
length-calls ops workers zero = refl
length-calls ops workers (suc i) = length-append (calls_of ops workers i) _ ∙ add-one _ ∙ ap suc (length-calls ops workers i)

-- call j of the first i
call_at : (ops workers : List ℕ) (i j : ℕ) → j < i → get_or (calls_of ops workers i) j close ≡ call_of (get_or ops j 0) (get_or workers j 0)
unfolding calls_of
call_at ops workers zero j l = absurd (omega arith)
call_at ops workers (suc i) j l =
    let cs = calls_of ops workers i in
    let c = call_of (get_or ops i 0) (get_or workers i 0) in
    let e : length cs ≡ i = length-calls ops workers i in
    by-lt j i
    (λ l. get_or-append cs (c ∷ []) close j (omega (arith, e)) ∙ call_at ops workers i j l)
    (λ g. let s : i ≡ j = omega arith in rw (sym s) (ap (λ (m : ℕ). get_or (cs ++ c ∷ []) m close) (sym e) ∙ get_or-append_seam cs c [] close))

length-lent : (ops workers out : List ℕ) → length (calls_lent ops workers out) ≡ min (min (length ops) (length workers)) (length out)
length-lent ops workers out = length-calls ops workers (min (min (length ops) (length workers)) (length out))

pub calls : CallsPromise
calls = record {
  orders = λ w. refl;
  turns = λ w. refl;
  closes = λ op w a b. rw (ne_eqb op 1 a, ne_eqb op 2 b);
  each = λ ops workers out i l. call_at ops workers _ i (omega (arith, length-lent ops workers out));
  many = λ ops workers out n.
      let e = length-lent ops workers out in (λ l. (omega (arith, e), omega (arith, e), omega (arith, e)), λ (a, b, c). omega (arith, e));
}

-- ---- whatever the answer, the state and the two tables are those given
order_leaves : (w : ℕ) (p : Migration) (r : Reply) (s : Course)
    → ((after_order w p r s).migration ≡ p) × ((after_order w p r s).old ≡ s.old) × ((after_order w p r s).new ≡ s.new)
order_leaves w p (Ok _) s = (refl, refl, refl)
order_leaves w p (Err r) s = (refl, refl, refl)

turn_leaves : (w : ℕ) (old new : List ℕ) (p : Migration) (r : TurnReply) (s : Course)
    → ((after_turn w old new p r s).migration ≡ p) × ((after_turn w old new p r s).old ≡ old) × ((after_turn w old new p r s).new ≡ new)
turn_leaves w old new p (Ok a) s = (refl, refl, refl)
turn_leaves w old new p (Err r) s = (refl, refl, refl)

close_leaves : (p : Migration) (r : Reply) (s : Course)
    → ((after_close p r s).migration ≡ p) × ((after_close p r s).old ≡ s.old) × ((after_close p r s).new ≡ s.new)
close_leaves p (Ok _) s = (refl, refl, refl)
close_leaves p (Err r) s = (refl, refl, refl)

module _ (M : Model) where
  -- ---- one call more at the end
  pub run-last : (cs : List Call) (c : Call) (s : Course) → run M (cs ++ c ∷ []) s ≡ call M c (run M cs s)
  unfolding run
  run-last [] c s = refl
  run-last (d ∷ cs) c s = run-last cs c (call M d s)

  pub answers-last : (cs : List Call) (c : Call) (s : Course) → answers_of M (cs ++ c ∷ []) s ≡ answers_of M cs s ++ answer_of M c (run M cs s) ∷ []
  unfolding run answers_of
  answers-last [] c s = refl
  answers-last (d ∷ cs) c s = ap (λ (x : List ℕ). answer_of M d s ∷ x) (answers-last cs c (call M d s))

  length-answers : (cs : List Call) (s : Course) → length (answers_of M cs s) ≡ length cs
  unfolding answers_of
  length-answers [] s = refl
  length-answers (c ∷ cs) s = ap suc (length-answers cs (call M c s))

  -- the last answer goes to the first place behind the others
  place : (cs : List Call) (c : Call) (s : Course) (out out' : List ℕ) (i a : ℕ) → length cs ≡ i → i < length out
      → out' ≡ answers_of M cs s ++ drop (length cs) out → a ≡ answer_of M c (run M cs s)
      → set out' i a ≡ answers_of M (cs ++ c ∷ []) s ++ drop (length (cs ++ c ∷ [])) out
  place cs c s out out' i a at below so_far is =
      let before = answers_of M cs s in
      let e : out' ≡ before ++ (get_or out i 0 ∷ drop (suc i) out) = so_far ∙ rw (at, drop-cons out i 0) in
      let n : length (cs ++ c ∷ []) ≡ suc i = length-append cs (c ∷ []) ∙ add-one _ ∙ ap suc at in
      ap (λ (x : List ℕ). set x i a) e
      ∙ set_at before (get_or out i 0) (drop (suc i) out) a i (length-answers cs s ∙ at)
      ∙ rw (n, answers-last, append_assoc, is)

  -- ---- what code gives of one call: the state, the number of the answer, and the two tables
  record CallGives (c : Call) (s : Course) (p : Migration) (a : ℕ) (old new : List ℕ) : Type 0 where
    pub migration : p ≡ (call M c s).migration
    pub answer : a ≡ answer_of M c s
    pub kept : old ≡ (call M c s).old
    pub table : new ≡ (call M c s).new

  -- the same from a state and two tables on, whatever else a course has
  abbrev Applies : Migration → (old new : List ℕ) → Call → Migration → ℕ → (old new : List ℕ) → Type 0
  Applies p old new c p' a old' new' = (s : Course) → s.migration ≡ p → s.old ≡ old → s.new ≡ new → CallGives c s p' a old' new'

  module _ (p : Migration) (old new : List ℕ) where
    order-applies : (w a : ℕ) (r : Migrated) → r ≡ order_call M p w → a ≡ reply_answer r.reply → Applies p old new (order w) r.migration a old new
    unfolding call answer_of
    order-applies w a r is number s same-state same_old same_new =
        let e : r ≡ order_call M s.migration w = is ∙ ap (λ (q : Migration). order_call M q w) (sym same-state) in
        let now = order_call M s.migration w in
        let (state, kept, table) = order_leaves w now.migration now.reply s in
        record {
          migration = ap (λ (x : Migrated). x.migration) e ∙ sym state;
          answer = number ∙ ap (λ (x : Migrated). reply_answer x.reply) e;
          kept = sym same_old ∙ sym kept;
          table = sym same_new ∙ sym table;
        }

    close-applies : (a : ℕ) (r : Migrated) → r ≡ close_call M p → a ≡ reply_answer r.reply → Applies p old new close r.migration a old new
    unfolding call answer_of
    close-applies a r is number s same-state same_old same_new =
        let e : r ≡ close_call M s.migration = is ∙ ap (λ (q : Migration). close_call M q) (sym same-state) in
        let now = close_call M s.migration in
        let (state, kept, table) = close_leaves now.migration now.reply s in
        record {
          migration = ap (λ (x : Migrated). x.migration) e ∙ sym state;
          answer = number ∙ ap (λ (x : Migrated). reply_answer x.reply) e;
          kept = sym same_old ∙ sym kept;
          table = sym same_new ∙ sym table;
        }

    turn-applies : (w a : ℕ) (r : Stepped) (old' new' : List ℕ) → r ≡ turn_call M p old new w → old' ≡ turn_old M p old new w → new' ≡ turn_new M p old new w
        → a ≡ turn_answer r.reply → Applies p old new (turn w) r.migration a old' new'
    unfolding call answer_of
    turn-applies w a r old' new' is kept cells number s same-state same_old same_new =
        let e : r ≡ turn_call M s.migration s.old s.new w = is ∙ sym (λ k. turn_call M (same-state k) (same_old k) (same_new k) w) in
        let o : old' ≡ turn_old M s.migration s.old s.new w = kept ∙ sym (λ k. turn_old M (same-state k) (same_old k) (same_new k) w) in
        let u : new' ≡ turn_new M s.migration s.old s.new w = cells ∙ sym (λ k. turn_new M (same-state k) (same_old k) (same_new k) w) in
        let now = turn_call M s.migration s.old s.new w in
        let before = turn_old M s.migration s.old s.new w in
        let after = turn_new M s.migration s.old s.new w in
        let (state, left, table) = turn_leaves w before after now.migration now.reply s in
        record {
          migration = ap (λ (x : Stepped). x.migration) e ∙ sym state;
          answer = number ∙ ap (λ (x : Stepped). turn_answer x.reply) e;
          kept = o ∙ sym left;
          table = u ∙ sym table;
        }

  -- ---- the first calls of lists of numbers: none, and one more
  module _ (ops workers : List ℕ) where
    none-run : (p : Migration) (old new out : List ℕ) → RunsFrom M p old new (calls_of ops workers 0) out p old new out
    unfolding calls_of run answers_of
    none-run p old new out s same-state same_old same_new = record { migration = sym same-state; kept = sym same_old; table = sym same_new; answers = refl }

    one-more-run : (i : ℕ) (p₀ : Migration) (old₀ new₀ out₀ : List ℕ) (p : Migration) (old new out : List ℕ) (p' : Migration) (a : ℕ) (old' new' : List ℕ)
        → i < length out₀ → RunsFrom M p₀ old₀ new₀ (calls_of ops workers i) out₀ p old new out
        → Applies p old new (call_of (get_or ops i 0) (get_or workers i 0)) p' a old' new'
        → RunsFrom M p₀ old₀ new₀ (calls_of ops workers (i + 1)) out₀ p' old' new' (set out i a)
    unfolding calls_of
    one-more-run i p₀ old₀ new₀ out₀ p old new out p' a old' new' below so_far applies s same-state same_old same_new =
        let cs = calls_of ops workers i in
        let c = call_of (get_or ops i 0) (get_or workers i 0) in
        let h = so_far s same-state same_old same_new in
        let g = applies (run M cs s) (sym h.migration) (sym h.kept) (sym h.table) in
        rw (add-one i)
        record {
          migration = g.migration ∙ ap (λ (x : Course). x.migration) (sym (run-last cs c s));
          kept = g.kept ∙ ap (λ (x : Course). x.old) (sym (run-last cs c s));
          table = g.table ∙ ap (λ (x : Course). x.new) (sym (run-last cs c s));
          answers = place cs c s out₀ out i a (length-calls ops workers i) below h.answers g.answer;
        }

-- ---- the first i calls are run, and the lent lists keep their lengths
pub record Listed (M : Model) (ops workers : List ℕ) (p₀ : Migration) (old₀ new₀ out₀ : List ℕ) (i : ℕ) (p : Migration) (old new out : List ℕ) : Type 0 where
  pub ran : RunsFrom M p₀ old₀ new₀ (calls_of ops workers i) out₀ p old new out
  pub same_old : length old ≡ length old₀
  pub same_new : length new ≡ length new₀
  pub same-answers : length out ≡ length out₀

pub listed-none : (M : Model) (ops workers : List ℕ) (p : Migration) (old new out : List ℕ) → Listed M ops workers p old new out 0 p old new out
listed-none M ops workers p old new out = record { ran = none-run M ops workers p old new out; same_old = refl; same_new = refl; same-answers = refl }

module _ {M : Model} {ops workers : List ℕ} {p₀ : Migration} {old₀ new₀ out₀ : List ℕ} {i : ℕ} {p : Migration} {old new out : List ℕ}
    (h : Listed M ops workers p₀ old₀ new₀ out₀ i p old new out) (room : i < length out₀) where
  -- the next call
  abbrev op : ℕ
  op = get_or ops i 0

  abbrev worker : ℕ
  worker = get_or workers i 0

  one_more : (p' : Migration) (a : ℕ) (old' new' : List ℕ) → Applies M p old new (call_of op worker) p' a old' new'
      → length old' ≡ length old → length new' ≡ length new → Listed M ops workers p₀ old₀ new₀ out₀ (i + 1) p' old' new' (set out i a)
  one_more p' a old' new' applies kept-old kept_new =
      record {
        ran = one-more-run M ops workers i p₀ old₀ new₀ out₀ p old new out p' a old' new' room h.ran applies;
        same_old = kept-old ∙ h.same_old;
        same_new = kept_new ∙ h.same_new;
        same-answers = length-set out i a ∙ h.same-answers;
      }

  pub ordered-next : op ≡ 1 → {r : Migrated} {a : ℕ} → r ≡ order_call M p worker → a ≡ reply_answer r.reply
      → Listed M ops workers p₀ old₀ new₀ out₀ (i + 1) r.migration old new (set out i a)
  ordered-next is gives number = one_more _ _ old new (rw (eq-eqb op 1 is) (order-applies M p old new worker _ _ gives number)) refl refl

  pub turned-next : op ≡ 2 → {r : Stepped} {old' new' : List ℕ} {a : ℕ} → r ≡ turn_call M p old new worker
      → old' ≡ turn_old M p old new worker → new' ≡ turn_new M p old new worker → length old' ≡ length old → length new' ≡ length new → a ≡ turn_answer r.reply
      → Listed M ops workers p₀ old₀ new₀ out₀ (i + 1) r.migration old' new' (set out i a)
  turned-next is {old' = old'} {new' = new'} gives kept cells long-old long-new number =
      let other : op ≢ 1 = λ e. omega arith in
      one_more _ _ old' new' (rw (ne_eqb op 1 other, eq-eqb op 2 is) (turn-applies M p old new worker _ _ old' new' gives kept cells number)) long-old long-new

  pub closed-next : op ≢ 1 → op ≢ 2 → {r : Migrated} {a : ℕ} → r ≡ close_call M p → a ≡ reply_answer r.reply
      → Listed M ops workers p₀ old₀ new₀ out₀ (i + 1) r.migration old new (set out i a)
  closed-next no-order no-turn gives number =
      one_more _ _ old new (rw (ne_eqb op 1 no-order, ne_eqb op 2 no-turn) (close-applies M p old new _ _ gives number)) refl refl
