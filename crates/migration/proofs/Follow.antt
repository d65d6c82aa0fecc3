-- A migration, seen at its new table, is an insert phase (put-in shift): the turn that reads an old cell with a label is the insert operation for its content,
-- a turn at the new table is the insert's step, and every other call is nothing there. So every list of calls leaves what some list of events of an insert
-- phase leaves.
use Rattle.std.specs.Prelude.{Option, ℕ, Some, None, Ok}
use mathlib.Core.Path.{◌≡◌, refl, sym, ap, ◌∙◌}
use mathlib.Core.Logic.{◌≢◌, ◌⊎◌, inl, inr, ⊎_elim}
use mathlib.Core.Bool.{true, false}
use mathlib.Core.List.{List, [], ◌∷◌}
use Prim.Native.Nat.{ℕ, suc, ◌+◌, ◌≤◌, ◌<◌}
use native.Mathlib.Omega.{arith}
use lib.ListN.{length, get_or, set, length-set}
use lib.Seq.{get_or-set_same, set-get_or}
use borrow.Author.Tests.{lt-ltb, eq-eqb, ne_eqb}
use Rattle.ring.specs.Counting.{bit}
use Rattle.ring.proofs.Split.{by-eq}
use Rattle.ring.proofs.Tests.{not_both}
use Rattle.layout.specs.Layout.{In}
use Rattle.homes.specs.declared.Hash.{Hash}
use Rattle.prices.specs.Contents.{label}
use Rattle.activities.specs.Activities.{busy}
use Rattle.activities.specs.declared.Activity.{Activity}
use Rattle.activities.specs.declared.Activity.TheVariants.{Idle}
use Rattle.rule.specs.Events as events
use Rattle.rule.specs.Events.{Run, Event, worker, stepped_at, stepped, accepts, event}
use Rattle.rule.specs.Rule.{touched, rule, start}
use Rattle.rule.specs.declared.Answer.{Answer}
use Rattle.rule.specs.declared.Answer.TheVariants.{WentOn, Finished}
use Rattle.rule.specs.declared.Answer.TheVariants as answer
use Rattle.rule.proofs.Suits.{nowhere-idle}
use Rattle.rule.proofs.Telling.{settles}
use Rattle.state.specs.Model.{Model}
use Rattle.protocol.specs.Split.{one_at, one_cells_at}
use Rattle.protocol.proofs.Chain.{by-reply}
use Rattle.migration.specs.Calls.{task_at, with_task, order_reply, close_reply, turn_check}
use Rattle.migration.specs.Claim.{Fetched, AsOpened}
use Rattle.migration.specs.Courses.{Call, order, turn, close, Course, after_turn, call, run}
use Rattle.migration.specs.Tasks.{free, carrier, fetched, one_carry, old_after, new_after}
use Rattle.migration.specs.declared.Carrier.{Carrier}
use Rattle.migration.specs.declared.Task.{Task}
use Rattle.migration.specs.declared.Task.TheVariants.{Fetching, Inserting}
use Rattle.migration.proofs.Counting.{inserting, occupied, fetch, old_cell, not-fetching, agrees-fetching, flag_left}
use Rattle.migration.proofs.Counting.{flag-left, Crew, crew-set, crew-left, Awaited, fetching, awaited-stays, fetching-set}
use Rattle.migration.proofs.Frames.{task-set, but-task}
use Rattle.migration.proofs.Passing.{order-passed, turn-passed, close_passed}

-- the migration s from the old table into one of l cells, opened with m workers by a and b, is at its new table the insert phase r
pub record Follows (l m : ℕ) (ab : Hash) (old : List ℕ) (s : Course) (r : Run) : Type 0 where
  pub unchanged : s.old ≡ old
  pub table : s.new ≡ r.table
  pub frame : AsOpened (length old) l m ab s
  pub crew : Crew (length old) m s.migration.carriers s.unfinished r.workers
  pub one_each : s.migration.next ≡ s.accepted
  pub at_most : s.accepted ≤ length old
  -- one turn for each old cell read, besides the insert's steps; and an operation at most
  pub turns : s.counted + fetching m s.migration.carriers ≡ r.counted + s.accepted
  pub orders : length r.ordered + fetching m s.migration.carriers ≤ s.accepted
  -- the operations are for labels of the old table, and each one handed out is among them or yet to be read
  pub known : (v : ℕ) → In v r.ordered → (label v ≢ 0) × ((c : ℕ) × Fetched s.migration c × (get_or old c 0 ≡ v))
  -- a worker's old cell was handed out, and to no other
  pub handed : (u c : ℕ) → task_at s.migration u ≡ Fetching c → c < s.migration.next
  pub once : (u v c : ℕ) → task_at s.migration u ≡ Fetching c → task_at s.migration v ≡ Fetching c → u ≡ v
  pub given : (c : ℕ) → c < s.migration.next → label (get_or old c 0) ≢ 0 → In (get_or old c 0) r.ordered ⊎ Awaited s.migration.carriers c
  pub shut : s.migration.shut ≡ s.closed
  pub rest : s.closed ≡ true → (w : ℕ) → task_at s.migration w ≡ free
  pub whole : s.closed ≡ true → s.accepted ≡ length old

-- the turn of worker w makes t of the new table and r' of the insert phase, and leaves the worker there with activity a and answer x
record Goes (l : ℕ) (old : List ℕ) (s : Course) (r : Run) (w : ℕ) (t : List ℕ) (a : Activity) (x : Answer) (r' : Run) : Type 0 where
  table : t ≡ r'.table
  sized : length t ≡ l
  workers : r'.workers ≡ set r.workers w a
  flag : bit (flag_left x (get_or s.unfinished w false)) ≡ busy a
  counted : occupied (task_at s.migration w) + r.counted ≡ r'.counted + fetch (task_at s.migration w)
  ordered : length r'.ordered ≤ length r.ordered + fetch (task_at s.migration w)
  known : (v : ℕ) → In v r'.ordered → In v r.ordered ⊎ ((label v ≢ 0) × ((c : ℕ) × (task_at s.migration w ≡ Fetching c) × (get_or old c 0 ≡ v)))
  kept : (v : ℕ) → In v r.ordered → In v r'.ordered
  given : (c : ℕ) → task_at s.migration w ≡ Fetching c → label (get_or old c 0) ≢ 0 → In (get_or old c 0) r'.ordered

-- a worker that goes on as it was
stays : (acts : List Activity) (w : ℕ) (a : Activity) → get_or acts w Idle ≡ a → set acts w a ≡ acts
stays acts w a e = ap (set acts w) (sym e) ∙ set-get_or acts w Idle

module _ (M : Model) (l m : ℕ) (ab : Hash) (old : List ℕ) where
  -- ---- events of the insert phase
  order_is : (r : Run) (w x : ℕ) → w < length r.workers → worker r w ≡ Idle → label x ≢ 0
      → event 1 l label (M.home ab l) (events.order w x) r ≡ events.ordered 1 l label (M.home ab l) r w x
  unfolding event accepts
  order_is r w x low is nz = rw (lt-ltb w (length r.workers) low, is, lt-ltb 0 (label x) (omega arith))

  step_is : (r : Run) (w : ℕ) (a : Activity) (c : ℕ) → w < length r.workers → worker r w ≡ a → touched a ≡ Some c
      → event 1 l label (M.home ab l) (events.step w) r ≡ stepped_at 1 l label (M.home ab l) r w a (Some c)
  unfolding event stepped
  step_is r w a c low is z = rw (lt-ltb w (length r.workers) low, is, z)

  -- ---- order
  -- a worker yet to read old cell c after worker w has taken the next one, of a migration in which each such cell was handed out: it is worker w with the next
  -- cell, or was yet to read it before
  module _ (s : Course) (w : ℕ) where
    abbrev Taken : (u c : ℕ) → Type 0
    Taken u c = (u ≡ w) × (s.migration.next ≡ c)

    abbrev Before : (u c : ℕ) → Type 0
    Before u c = (task_at s.migration u ≡ Fetching c) × (c < s.migration.next)

    taken_at : w < length s.migration.carriers → ((u c : ℕ) → task_at s.migration u ≡ Fetching c → c < s.migration.next) → (u c : ℕ)
        → task_at (with_task s.migration (suc s.migration.next) w (Fetching s.migration.next)) u ≡ Fetching c → Taken u c ⊎ Before u c
    taken_at low handed u c z =
        let p = s.migration in
        let q = with_task p (suc p.next) w (Fetching p.next) in
        by-eq u w
        (λ e. inl (e, ap old_cell (sym (task-set p (suc p.next) w (Fetching p.next) low) ∙ ap (task_at q) (sym e) ∙ z)))
        (λ ne. let g = sym ((but-task p (suc p.next) w (Fetching p.next)).others u ne) ∙ z in inr (g, handed u c g))

  order-follows : (s : Course) (r : Run) (w : ℕ) → Follows l m ab old s r → order_reply M s.migration w ≡ Ok tt → Follows l m ab old (call M (order w) s) r
  unfolding call
  order-follows s r w f e =
      let p = s.migration in
      let q = order-passed M p w e in
      let next = p.next in
      let low : w < m = omega (arith, f.frame.crew, q.below) in
      let inside : next < length old = omega (arith, f.frame.from, q.remains) in
      let sum = fetching-set p.carriers w (Fetching next) m low f.crew.records in
      let was : fetch (task_at p w) ≡ 0 = ap fetch q.idle in
      let at = taken_at s w (omega (arith, low, f.crew.records)) f.handed in
      rw e
      (record {
        unchanged = f.unchanged;
        table = f.table;
        frame = record { kind = f.frame.kind; from = f.frame.from; to = f.frame.to; crew = f.frame.crew; hash = f.frame.hash; sized = f.frame.sized };
        crew = rw (stays r.workers w Idle ((f.crew.each w).same ∙ ap inserting q.idle)) at
            (crew-set (length old) m p.carriers s.unfinished r.workers w (Fetching next) Idle true low (agrees-fetching (length old) m w next low inside) f.crew);
        one_each = ap suc f.one_each;
        at_most = omega (arith, f.one_each);
        turns = omega (arith, sum, was, f.turns);
        orders = omega (arith, sum, was, f.orders);
        known = λ v i.
            let (nz, (c, (below, none), is)) = f.known v i in
            (nz, (c, (omega arith, λ u z. ⊎_elim (λ (e : Taken s w u c). omega (arith, e.1)) (λ (e : Before s w u c). none u e.0) (at u c z)), is));
        handed = λ u c z. ⊎_elim (λ (e : Taken s w u c). omega (arith, e.1)) (λ (e : Before s w u c). omega (arith, e.1)) (at u c z);
        once = λ u v c y z. ⊎_elim
            (λ (e : Taken s w u c). ⊎_elim (λ (d : Taken s w v c). e.0 ∙ sym d.0) (λ (d : Before s w v c). absurd (omega (arith, e.1, d.1))) (at v c z))
            (λ (e : Before s w u c). ⊎_elim (λ (d : Taken s w v c). absurd (omega (arith, d.1, e.1))) (λ (d : Before s w v c). f.once u v c e.0 d.0) (at v c z))
            (at u c y);
        given = λ c below nz. by-eq c next
            (λ z. inr (
              w,
              ap (λ (x : Carrier). x.task) (get_or-set_same p.carriers w (carrier (Fetching next)) (carrier free) (omega (arith, f.crew.records)))
                  ∙ ap Fetching (sym z),
            ))
            (λ z. ⊎_elim inl
            (λ g. ⊎_elim (λ y. absurd (not-fetching Idle c (sym q.idle ∙ y))) inr (awaited-stays p.carriers w (Fetching next) c g))
            (f.given c (omega arith) nz));
        shut = f.shut;
        rest = λ closed. absurd (not_both p.shut (f.shut ∙ closed) q.running);
        whole = λ closed. absurd (not_both p.shut (f.shut ∙ closed) q.running);
      })

  -- ---- close
  close_follows : (s : Course) (r : Run) → Follows l m ab old s r → close_reply M s.migration ≡ Ok tt → Follows l m ab old (call M close s) r
  unfolding call
  close_follows s r f e =
      let q = close_passed M s.migration e in
      rw e
      (record {
        unchanged = f.unchanged;
        table = f.table;
        frame = record { kind = f.frame.kind; from = f.frame.from; to = f.frame.to; crew = f.frame.crew; hash = f.frame.hash; sized = f.frame.sized };
        crew = f.crew;
        one_each = f.one_each;
        at_most = f.at_most;
        turns = f.turns;
        orders = f.orders;
        known = f.known;
        handed = f.handed;
        once = f.once;
        given = f.given;
        shut = refl;
        rest = λ _. q.rest;
        whole = λ _. omega (arith, f.one_each, f.frame.from, q.done);
      })

  -- ---- turn
  goes-follows : (s : Course) (r : Run) (w : ℕ) (u t : List ℕ) (a : Activity) (x : Answer) (r' : Run) → Follows l m ab old s r → w < m → s.migration.shut ≡ false
      → u ≡ s.old → Goes l old s r w t a x r'
      → Follows l m ab old (after_turn w u t (with_task s.migration s.migration.next w (Inserting a)) (Ok x) s) r'
  goes-follows s r w u t a x r' f low running same g =
      let p = s.migration in
      let sum = fetching-set p.carriers w (Inserting a) m low f.crew.records in
      let before : (u c : ℕ) → task_at (with_task p p.next w (Inserting a)) u ≡ Fetching c → (task_at p u ≡ Fetching c) × (u ≢ w)
      = λ u c z. by-eq u w
      (λ e. absurd (not-fetching a c (sym (task-set p p.next w (Inserting a) (omega (arith, low, f.crew.records))) ∙ ap (task_at (with_task p p.next w (Inserting a))) (sym e) ∙ z)))
      (λ ne. (sym ((but-task p p.next w (Inserting a)).others u ne) ∙ z, ne)) in
      record {
        unchanged = same ∙ f.unchanged;
        table = g.table;
        frame = record { kind = f.frame.kind; from = f.frame.from; to = f.frame.to; crew = f.frame.crew; hash = f.frame.hash; sized = g.sized };
        crew = rw g.workers (crew-left (length old) m p.carriers s.unfinished r.workers w x a low g.flag f.crew);
        one_each = f.one_each;
        at_most = f.at_most;
        turns = omega (arith, sum, f.turns, g.counted, (f.crew.each w).flag);
        orders = omega (arith, sum, f.orders, g.ordered);
        known = λ v i. ⊎_elim
            (λ d. let (nz, (c, (below, none), is)) = f.known v d in (nz, (c, (below, λ u z. none u (before u c z).0), is)))
            (λ (d : (label v ≢ 0) × ((c : ℕ) × (task_at s.migration w ≡ Fetching c) × (get_or old c 0 ≡ v))).
            let (nz, (c, on, is)) = d in
            (nz, (c, (f.handed w c on, λ u z. let (was, ne) = before u c z in ne (f.once u w c was on)), is)))
            (g.known v i);
        handed = λ u c z. f.handed u c (before u c z).0;
        once = λ u v c y z. f.once u v c (before u c y).0 (before v c z).0;
        given = λ c below nz. ⊎_elim (λ i. inl (g.kept _ i))
            (λ i. ⊎_elim (λ y. inl (g.given c y nz)) inr (awaited-stays p.carriers w (Inserting a) c i))
            (f.given c below nz);
        shut = f.shut;
        rest = λ closed. absurd (not_both p.shut (f.shut ∙ closed) running);
        whole = λ closed. absurd (not_both p.shut (f.shut ∙ closed) running);
      }

  -- s shows r, or what one event makes of it
  abbrev Next : Course → Run → Type 0
  Next s r = Follows l m ab old s r ⊎ ((e : Event) × Follows l m ab old s (event 1 l label (M.home ab l) e r))

  module _ (s : Course) (r : Run) (w : ℕ) (f : Follows l m ab old s r) (low : w < m) (running : s.migration.shut ≡ false) where
    manned : w < length r.workers
    manned = omega (arith, f.crew.all)

    -- ---- the turn of a worker with task a
    abbrev Turned : Task → Type 0
    Turned a =
        let p = s.migration in
        let x = one_carry M p.hash p.length s.old s.new a in
        Next (after_turn w (old_after M p.hash p.length s.old s.new a) (new_after M p.hash p.length s.old s.new a)
        (with_task p p.next w x.carrier.task) x.reply s) r

    -- that reads old cell c
    module _ (c : ℕ) (is : task_at s.migration w ≡ Fetching c) where
      abbrev x : ℕ
      x = get_or s.old c 0

      here : x ≡ get_or old c 0
      here = ap (λ (t : List ℕ). get_or t c 0) f.unchanged

      idle : worker r w ≡ Idle
      idle = (f.crew.each w).same ∙ ap inserting is

      -- without a label
      empty-turned : label x ≡ 0 → Turned (Fetching c)
      unfolding fetched
      empty-turned z = rw (eq-eqb (label x) 0 z)
          (inl (goes-follows s r w (set s.old c x) s.new Idle Finished r f low running (set-get_or s.old c 0)
          (record {
            table = f.table;
            sized = f.frame.sized;
            workers = sym (stays r.workers w Idle idle);
            flag = refl;
            counted = omega (arith, ap occupied is, ap fetch is);
            ordered = omega arith;
            known = λ v i. inl i;
            kept = λ v i. i;
            given = λ d y nz. absurd (nz (ap (λ (i : ℕ). label (get_or old i 0)) (sym (ap old_cell (sym is ∙ y))) ∙ ap label (sym here) ∙ z));
          })))

      -- with one
      some-turned : label x ≢ 0 → Turned (Fetching c)
      unfolding fetched events.ordered
      some-turned nz = rw (ne_eqb (label x) 0 nz)
          (inr (
            events.order w x,
            rw (order_is r w x manned idle nz)
                (goes-follows s r w (set s.old c x) s.new (start label (M.home s.migration.hash s.migration.length) x) WentOn
                (events.ordered 1 l label (M.home ab l) r w x) f low running (set-get_or s.old c 0)
                (record {
                  table = f.table;
                  sized = f.frame.sized;
                  workers = rw (f.frame.hash, f.frame.to);
                  flag = (f.crew.each w).flag ∙ ap occupied is;
                  counted = omega (arith, ap occupied is, ap fetch is);
                  ordered = omega (arith, ap fetch is);
                  known = λ v. ⊎_elim
                      (λ (e : v ≡ x). inr (λ z. nz (ap label (sym e) ∙ z), (c, is, sym here ∙ sym e)))
                      inl;
                  kept = λ v i. inr i;
                  given = λ d y _. inl (ap (λ (i : ℕ). get_or old i 0) (sym (ap old_cell (sym is ∙ y))) ∙ sym here);
                })),
          ))

    -- at place q of the new table
    module _ (a : Activity) (is : task_at s.migration w ≡ Inserting a) where
      same : worker r w ≡ a
      same = (f.crew.each w).same ∙ ap inserting is

      -- no old cell is awaited of it
      none-given : (d : ℕ) → task_at s.migration w ≡ Fetching d → ⊥
      none-given d y = not-fetching a d (sym is ∙ y)

      work-turned : (q : Option ℕ) → touched a ≡ q
          → let p = s.migration in
          let x = one_at M 1 p.hash p.length s.new (record { activity = a }) q in
          Next (after_turn w s.old (one_cells_at M 1 p.hash p.length s.new (record { activity = a }) q)
          (with_task p p.next w (Inserting x.worker.activity)) x.reply s) r
      work-turned None z =
          inl (goes-follows s r w s.old s.new a answer.Idle r f low running refl
          (record {
            table = f.table;
            sized = f.frame.sized;
            workers = sym (stays r.workers w a same);
            flag = (f.crew.each w).flag ∙ ap occupied is;
            counted = omega (arith, ap occupied is, ap fetch is, ap busy (nowhere-idle a z));
            ordered = omega arith;
            known = λ v i. inl i;
            kept = λ v i. i;
            given = λ d y _. absurd (none-given d y);
          }))
      work-turned (Some c) z =
          let p = s.migration in
          let o = rule 1 l label (M.home ab l) a (get_or r.table c 0) in
          let one : rule 1 p.length label (M.home p.hash p.length) a (get_or s.new c 0) ≡ rule 1 l label (M.home ab l) a (get_or r.table c 0)
          = rw (f.frame.to, f.frame.hash, f.table) in
          rw one
          (inr (
            events.step w,
            rw (step_is r w a c manned same z)
                (goes-follows s r w s.old (set s.new c o.content) o.activity o.answer (stepped_at 1 l label (M.home ab l) r w a (Some c)) f low running refl
                (record {
                  table = ap (λ (t : List ℕ). set t c o.content) f.table;
                  sized = length-set s.new c o.content ∙ f.frame.sized;
                  workers = refl;
                  flag = flag-left o.answer (get_or s.unfinished w false) (busy a) (busy o.activity) ((f.crew.each w).flag ∙ ap occupied is)
                      (settles 1 l label (M.home ab l) a (get_or r.table c 0));
                  counted = omega (arith, ap occupied is, ap fetch is);
                  ordered = omega arith;
                  known = λ v i. inl i;
                  kept = λ v i. i;
                  given = λ d y _. absurd (none-given d y);
                })),
          ))

    turned-next : (a : Task) → task_at s.migration w ≡ a → Turned a
    turned-next (Fetching c) is = by-eq (label (get_or s.old c 0)) 0 (empty-turned c is) (some-turned c is)
    turned-next (Inserting a) is = work-turned a is (touched a) refl

  -- ---- every call, and every list of calls
  pub next : (c : Call) (s : Course) (r : Run) → Follows l m ab old s r → Next (call M c s) r
  unfolding call
  next (order w) s r f = by-reply (order_reply M s.migration w) (λ e. inl (order-follows s r w f e)) (λ _ e. inl (rw e f))
  next (turn w) s r f =
      let p = s.migration in
      by-reply (turn_check M p s.old s.new w)
      (λ e. let q = turn-passed M p s.old s.new w e in
      rw e (turned-next s r w f (omega (arith, f.frame.crew, q.below)) q.running (task_at p w) refl))
      (λ _ e. inl (rw e f))
  next close s r f = by-reply (close_reply M s.migration) (λ e. inl (close_follows s r f e)) (λ _ e. inl (rw e f))

  pub follows : (cs : List Call) (s : Course) (r : Run) → Follows l m ab old s r
      → (es : List Event) × Follows l m ab old (run M cs s) (events.run 1 l label (M.home ab l) es r)
  unfolding run events.run
  follows [] s r f = ([], f)
  follows (c ∷ cs) s r f =
      ⊎_elim
      (λ (g : Follows l m ab old (call M c s) r). follows cs (call M c s) r g)
      (λ (g : (e : Event) × Follows l m ab old (call M c s) (event 1 l label (M.home ab l) e r)).
      let (es, h) = follows cs (call M c s) (event 1 l label (M.home ab l) g.0 r) g.1 in (g.0 ∷ es, h))
      (next c s r f)
