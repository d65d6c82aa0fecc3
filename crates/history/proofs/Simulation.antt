-- A list of calls runs like a list of events: an order or turn that is not refused is the event of the same name, a refused call and a close are none.
use Rattle.std.specs.Prelude.{Option, ℕ, Some, None, Ok}
use mathlib.Core.Path.{◌≡◌, refl, sym, ap, ap₂, ◌∙◌}
use mathlib.Core.Logic.{◌≢◌, ◌↔◌, ◌⊎◌, inl, inr, ⊎_elim}
use mathlib.Core.Bool.{true, false}
use mathlib.Core.List.{List, [], ◌∷◌, ◌++◌, map}
use Prim.Native.Nat.{ℕ, ◌+◌, ◌<◌}
use native.Mathlib.Omega.{arith}
use lib.Dec.{ltb}
use lib.ListN.{length, get_or, set}
use borrow.Author.Tests.{lt-ltb}
use Rattle.ring.specs.Counting.{bit}
use Rattle.prices.specs.Contents.{label}
use Rattle.orders.specs.Orders.{line_at}
use Rattle.orders.specs.declared.Order.{Order}
use Rattle.rule.specs.Events as events
use Rattle.activities.specs.Activities.{busy, entry_of}
use Rattle.rule.specs.Events.{Run, Event, worker, AllIdle, tells, stepped_at, stepped, accepts, event}
use Rattle.rule.specs.Rule.{touched, rule, start}
use Rattle.rule.specs.declared.Outcome.{Outcome}
use Rattle.rule.proofs.Suits.{nowhere-idle}
use Rattle.state.specs.Model.{Model}
use Rattle.activities.specs.declared.Activity.{Activity}
use Rattle.activities.specs.declared.Activity.TheVariants.{Idle}
use Rattle.protocol.specs.Bars.{doing}
use Rattle.protocol.specs.Calls.{asked, entry_for, with_worker, close_reply, found_reply, turn_check, moved_at, cells_at}
use Rattle.protocol.proofs.Chain.{by-reply}
use Rattle.protocol.proofs.Pricing.{entry_key}
use Rattle.ring.proofs.Tests.{not_both}
use Rattle.homes.specs.declared.Hash.{Hash}
use Rattle.protocol.proofs.Theorem.{order-passed, close_passed, turn-passed}
use Rattle.history.specs.History.{Call, order, turn, close, History, after_turn, call, run, Lent, run_lent}
use Rattle.history.proofs.Pending.{Agrees, agrees-rest, agrees_start, agrees-step, entry_left, Crew, crew-set, crew-left}

-- s, in a phase opened with kind k, n cells and m workers by a and b, is r with a phase state around it
pub record Shows (k n m : ℕ) (ab : Hash) (s : History) (r : Run) : Type 0 where
  pub kind : s.phase.kind ≡ k
  pub cells : s.phase.length ≡ n
  pub count : s.phase.crew ≡ m
  pub hash : s.phase.hash ≡ ab
  pub crew : Crew k m s.phase.workers s.pending r.workers
  pub table : s.table ≡ r.table
  pub ordered : s.ordered ≡ r.ordered
  pub said : k ≡ 3 → s.said ≡ r.said
  pub counted : s.counted ≡ r.counted
  pub shut : s.phase.shut ≡ s.closed
  pub rest : s.closed ≡ true → AllIdle r

-- a worker is idle exactly if it has no unfinished order
pub unfinished-says : {k n m : ℕ} {ab : Hash} {s : History} {r : Run} → Shows k n m ab s r → (w : ℕ) → (get_or s.pending w 0 ≡ 0) ↔ (doing s.phase w ≡ Idle)
unfinished-says {k} {s} {r} h w = rw (h.crew.same w) (agrees-rest k (get_or s.pending w 0) (get_or r.workers w Idle) (h.crew.agree w))

module _ (M : Model) (os : List Order) (k n m : ℕ) (ab : Hash) where
  -- s shows r, or what one event makes of it
  abbrev Follows : History → Run → Type 0
  Follows s r = Shows k n m ab s r ⊎ ((e : Event) × Shows k n m ab s (event k n label (M.home ab n) e r))

  -- ---- close
  close-shows : (s : History) (r : Run) → Shows k n m ab s r → Shows k n m ab (call M os close s) r
  unfolding call
  close-shows s r h = by-reply (close_reply M s.phase)
      (λ e. let (_, _, idle) = close_passed M s.phase e in
      rw e
      (record {
        kind = h.kind;
        cells = h.cells;
        count = h.count;
        hash = h.hash;
        crew = h.crew;
        table = h.table;
        ordered = h.ordered;
        said = h.said;
        counted = h.counted;
        shut = refl;
        rest = λ _ w. sym (h.crew.same w) ∙ idle w;
      }))
      (λ _ e. rw e h)

  -- ---- order
  order_is : (r : Run) (w x : ℕ) → w < length r.workers → worker r w ≡ Idle → label x ≢ 0
      → event k n label (M.home ab n) (events.order w x) r ≡ events.ordered k n label (M.home ab n) r w x
  unfolding event accepts
  order_is r w x l is nz = rw (lt-ltb w (length r.workers) l, is, lt-ltb 0 (label x) (omega arith))

  -- what an order call asks for
  abbrev at : History → (i w v : ℕ) → Order
  at s i w v = asked s.phase.kind (line_at os i) w v

  abbrev entry : History → (i w v : ℕ) → ℕ
  entry s i w v = entry_for s.phase.kind (at s i w v).key (at s i w v).price

  order-shows : (s : History) (r : Run) (i w v : ℕ) → Shows k n m ab s r → found_reply M s.phase (line_at os i) w v ≡ Ok tt
      → Shows k n m ab (call M os (order i w v) s) (event k n label (M.home ab n) (events.order (at s i w v).worker (entry s i w v)) r)
  unfolding call events.ordered
  order-shows s r i w v h e =
      let q = order-passed M s.phase os i w v e in
      let u = (at s i w v).worker in
      let l : u < m = omega (arith, h.count, q.below) in
      let x : ℕ = entry s i w v in
      let nz : label x ≢ 0 = λ z. q.key (sym (entry_key s.phase.kind (at s i w v).key (at s i w v).price q.price) ∙ z) in
      rw (e, order_is r u x (omega (arith, h.crew.all)) (sym (h.crew.same u) ∙ q.free) nz)
      (record {
        kind = h.kind;
        cells = h.cells;
        count = h.count;
        hash = h.hash;
        crew = rw (h.cells, h.hash)
            (crew-set k m s.phase.workers s.pending r.workers u x (start label (M.home ab n) x) l
            (agrees_start k label (M.home ab n) x (λ z. nz (ap label z))) h.crew);
        table = h.table;
        ordered = ap (◌∷◌ x) h.ordered;
        said = h.said;
        counted = h.counted;
        shut = h.shut;
        rest = λ closed. absurd (not_both s.phase.shut (h.shut ∙ closed) q.running);
      })

  -- ---- turn
  -- an outcome at cell c, the same on both sides
  moved-shows : (s : History) (r : Run) (w c : ℕ) (a : Activity) (o : Outcome) → Shows k n m ab s r → s.phase.shut ≡ false → w < m → Agrees k (get_or s.pending w 0) a
      → Agrees k (entry_left o.answer (get_or s.pending w 0)) o.activity
      → Shows k n m ab (after_turn w (set s.table c o.content) (with_worker s.phase w o.activity) (Ok o.answer) s)
      (record {
        table = set r.table c o.content;
        workers = set r.workers w o.activity;
        ordered = r.ordered;
        said = tells (entry_of a) o.answer ++ r.said;
        counted = busy a + r.counted;
      })
  moved-shows s r w c a o h running l before after =
      record {
        kind = h.kind;
        cells = h.cells;
        count = h.count;
        hash = h.hash;
        crew = crew-left k m s.phase.workers s.pending r.workers w o.answer o.activity l after h.crew;
        table = rw h.table;
        ordered = h.ordered;
        said = λ f. ap₂ (λ x l. tells x o.answer ++ l) (before.entry f) (h.said f);
        counted = omega (arith, before.unfinished, h.counted);
        shut = h.shut;
        rest = λ closed. absurd (not_both s.phase.shut (h.shut ∙ closed) running);
      }

  step_is : (r : Run) (w : ℕ) (a : Activity) → w < length r.workers → worker r w ≡ a
      → event k n label (M.home ab n) (events.step w) r ≡ stepped_at k n label (M.home ab n) r w a (touched a)
  unfolding event stepped
  step_is r w a l is = rw (lt-ltb w (length r.workers) l, is)

  turned-shows : (s : History) (r : Run) (w : ℕ) (q : Option ℕ) → Shows k n m ab s r → s.phase.shut ≡ false → w < m → touched (doing s.phase w) ≡ q
      → let u = moved_at M s.phase s.table w q in
      Shows k n m ab (after_turn w (cells_at M s.phase s.table w q) u.phase u.reply s) (stepped_at k n label (M.home ab n) r w (doing s.phase w) q)
  turned-shows s r w None h running l is =
      let i : worker r w ≡ Idle = sym (h.crew.same w) ∙ nowhere-idle (doing s.phase w) is in
      let z : bit (ltb 0 (get_or s.pending w 0)) + s.counted ≡ s.counted = omega (arith, (h.crew.agree w).unfinished, ap busy i) in
      rw z h
  turned-shows s r w (Some c) h running l is =
      let a = doing s.phase w in
      let same : rule s.phase.kind s.phase.length label (M.home s.phase.hash s.phase.length) a (get_or s.table c 0)
      ≡ rule k n label (M.home ab n) a (get_or r.table c 0)
      = rw (h.kind, h.cells, h.hash, h.table) in
      let before : Agrees k (get_or s.pending w 0) a = rw (h.crew.same w) (h.crew.agree w) in
      rw same
      (moved-shows s r w c a (rule k n label (M.home ab n) a (get_or r.table c 0)) h running l before
      (agrees-step k n label (M.home ab n) (get_or s.pending w 0) a (get_or r.table c 0) before))

  pub turn-shows : (s : History) (r : Run) (w : ℕ) → Shows k n m ab s r → turn_check M s.phase s.table w ≡ Ok tt
      → Shows k n m ab (call M os (turn w) s) (event k n label (M.home ab n) (events.step w) r)
  unfolding call
  turn-shows s r w h e =
      let (_, running, _, below) = turn-passed M s.phase s.table w e in
      let l : w < m = omega (arith, h.count) in
      rw (e, step_is r w (doing s.phase w) (omega (arith, h.crew.all)) (sym (h.crew.same w)))
      (turned-shows s r w (touched (doing s.phase w)) h running l refl)

  -- ---- every call, and every list of calls
  pub follows : (c : Call) (s : History) (r : Run) → Shows k n m ab s r → Follows (call M os c s) r
  unfolding call
  follows (order i w v) s r h =
      by-reply (found_reply M s.phase (line_at os i) w v) (λ e. inr (events.order (at s i w v).worker (entry s i w v), order-shows s r i w v h e)) (λ _ e. inl (rw e h))
  follows (turn w) s r h =
      by-reply (turn_check M s.phase s.table w) (λ e. inr (events.step w, turn-shows s r w h e)) (λ _ e. inl (rw e h))
  follows close s r h = inl (close-shows s r h)

-- ---- every list of calls, also where each is lent a list of its own
module _ (M : Model) (k n m : ℕ) (ab : Hash) where
  pub simulates-lent : (cs : List Lent) (s : History) (r : Run) → Shows k n m ab s r
      → (es : List Event) × Shows k n m ab (run_lent M cs s) (events.run k n label (M.home ab n) es r)
  unfolding run_lent events.run
  simulates-lent [] s r h = ([], h)
  simulates-lent (c ∷ cs) s r h =
      let u = call M c.list c.asks s in
      ⊎_elim
      (λ (g : Shows k n m ab u r). simulates-lent cs u r g)
      (λ (g : (e : Event) × Shows k n m ab u (event k n label (M.home ab n) e r)).
      let (es, f) = simulates-lent cs u (event k n label (M.home ab n) g.0 r) g.1 in (g.0 ∷ es, f))
      (follows M c.list k n m ab c.asks s r h)

  -- a call that is lent os
  abbrev lends : List Order → Call → Lent
  lends os c = record { list = os; asks = c }

  run-lends : (os : List Order) (cs : List Call) (s : History) → run_lent M (map (lends os) cs) s ≡ run M os cs s
  unfolding run run_lent
  run-lends os [] s = refl
  run-lends os (c ∷ cs) s = run-lends os cs (call M os c s)

  pub simulates : (os : List Order) (cs : List Call) (s : History) (r : Run) → Shows k n m ab s r
      → (es : List Event) × Shows k n m ab (run M os cs s) (events.run k n label (M.home ab n) es r)
  simulates os cs s r h = let (es, f) = simulates-lent (map (lends os) cs) s r h in (es, rw (run-lends os cs s) at f)
