-- The promises on turns: their refusals, and what a turn that is not refused answers, changes and leaves.
use Rattle.std.specs.Prelude.{Option, ℕ, Some, None, Ok}
use mathlib.Core.Path.{◌≡◌, refl, sym, ap, ◌∙◌}
use mathlib.Core.Logic.{◌≢◌, ◌↔◌}
use mathlib.Core.Bool.{false}
use mathlib.Core.List.{List, [], ◌∷◌}
use Prim.Native.Nat.{ℕ, zero, suc, ◌≤◌, ◌<◌}
use native.Mathlib.Omega.{arith}
use lib.Dec.{eqb}
use lib.ListN.{length, get_or, set, get_or-eq_default}
use lib.Seq.{set-get_or, set_out}
use borrow.Author.Tests.{eq-eqb, ne_eqb}
use Rattle.ring.proofs.Split.{by-lt}
use Rattle.ring.proofs.Tests.{tested}
use Rattle.homes.specs.declared.Hash.{Hash}
use Rattle.prices.specs.Contents.{label}
use Rattle.activities.specs.Activities.{idle, Suits}
use Rattle.activities.specs.declared.Activity.{Activity}
use Rattle.activities.specs.declared.Activity.TheVariants.{Idle}
use Rattle.activities.specs.declared.Worker.{Worker}
use Rattle.activities.proofs.Activities.{idle-says}
use Rattle.rule.specs.Rule.{touched, start}
use Rattle.rule.specs.declared.Answer.{Answer}
use Rattle.rule.specs.declared.Answer.TheVariants.{WentOn, Finished}
use Rattle.rule.specs.declared.Answer.TheVariants as answer
use Rattle.state.specs.Model.{Model}
use Rattle.state.specs.Refusals.{reply_number}
use Rattle.state.specs.declared.Phase.{Phase}
use Rattle.protocol.specs.Bars.{doing}
use Rattle.protocol.specs.Calls as phase
use Rattle.protocol.specs.Calls.{turn_number}
use Rattle.protocol.specs.Promise as promise
use Rattle.protocol.specs.WellFormed as plain
use Rattle.protocol.specs.Split.{one_at, one_turn, one_cells}
use Rattle.protocol.specs.declared.Moved.{Moved}
use Rattle.protocol.proofs.Answering.{moved-answers}
use Rattle.protocol.proofs.Chain.{decides, by-reply, none-accepted}
use Rattle.protocol.proofs.Frames.{present, moved}
use Rattle.protocol.proofs.Split.{splits}
use Rattle.protocol.proofs.Theorem as theorem
use Rattle.migration.specs.Calls.{task_at, with_task, turn_check, turn_call}
use Rattle.migration.specs.Promise.{Answers, AsInsert, beside, TurnPromise}
use Rattle.migration.specs.Tasks.{free, carrier, is_free, Allowed, fetched, one_carry, old_after, new_after}
use Rattle.migration.specs.declared.Carried.{Carried}
use Rattle.migration.specs.declared.Carrier.{Carrier}
use Rattle.migration.specs.declared.Migration.{Migration}
use Rattle.migration.specs.declared.Task.{Task}
use Rattle.migration.specs.declared.Task.TheVariants.{Fetching, Inserting}
use Rattle.migration.proofs.Formed.{fetching-busy, suits-allowed}
use Rattle.migration.proofs.Frames.{task-set, but-self, but-task}
use Rattle.migration.proofs.Passing.{turn_steps, turn-passed}

-- ---- answers of three sorts, and the others
abbrev sort : Answer → ℕ
sort answer.Idle = 0
sort WentOn = 1
sort Finished = 2
sort (answer.Price q) = 3
sort answer.No = 3

-- a worker that inserts is free exactly if it is idle
idle-free : (a : Activity) → (a ≡ Idle) ↔ (Inserting a ≡ free)
idle-free a = (λ e. ap Inserting e, λ e. (idle-says a).0 (ap is_free e))

module _ (a b : Task) (r : Answer) (z : a ≢ free) where
  answers-on : b ≢ free → r ≡ WentOn → Answers a b r
  answers-on d is =
      record {
        idle = (λ e. absurd (omega (arith, ap sort is, ap sort e)), λ i. absurd (z i));
        on = (λ _. (z, d), λ _. is);
        finished = (λ e. absurd (omega (arith, ap sort is, ap sort e)), λ h. absurd (d h.1));
      }

  answers-finished : b ≡ free → r ≡ Finished → Answers a b r
  answers-finished d is =
      record {
        idle = (λ e. absurd (omega (arith, ap sort is, ap sort e)), λ i. absurd (z i));
        on = (λ e. absurd (omega (arith, ap sort is, ap sort e)), λ h. absurd (h.1 d));
        finished = (λ _. (z, d), λ _. is);
      }

-- as the worker of an insert phase answers
answers-inserting : (a b : Activity) (r : Answer) → promise.Answers 1 a b r → Answers (Inserting a) (Inserting b) r
answers-inserting a b r h =
    let (from, to) = idle-free a in
    let (back, there) = idle-free b in
    record {
      idle = (λ e. from (h.idle.0 e), λ i. h.idle.1 (to i));
      on = (λ e. let (x, y) = h.on.0 e in (λ i. x (to i), λ i. y (there i)), λ (x, y). h.on.1 (λ i. x (from i), λ i. y (back i)));
      finished = (
        λ e. let (_, x, y) = h.finished.0 e in (λ i. x (to i), back y),
        λ (x, y). h.finished.1 (λ e. omega arith, λ i. x (from i), there y),
      );
    }

-- ---- the turn of one worker
module _ (M : Model) (ab : Hash) (m : ℕ) where
  module _ (x : ℕ) where
    fetched-number : turn_number (fetched M ab m x).reply ≡ 0
    unfolding fetched
    fetched-number = tested (λ (o : Carried). turn_number o.reply ≡ 0) (eqb (label x) 0) (λ _. refl) (λ _. refl)

    fetched-answers : (c : ℕ) (r : Answer) → (fetched M ab m x).reply ≡ Ok r → Answers (Fetching c) (fetched M ab m x).carrier.task r
    unfolding fetched
    fetched-answers c r = tested (λ (o : Carried). o.reply ≡ Ok r → Answers (Fetching c) o.carrier.task r) (eqb (label x) 0)
        (λ _ e. answers-finished (Fetching c) free r (fetching-busy c) refl (cc))
        (λ _ e. answers-on (Fetching c) (Inserting (start label (M.home ab m) x)) r (fetching-busy c) (λ f. let z : ◌≡◌ {A = ℕ} 0 1 = cc in omega arith) (cc))

    fetched-empty : label x ≡ 0 → (fetched M ab m x).reply ≡ Ok Finished
    unfolding fetched
    fetched-empty e = rw (eq-eqb (label x) 0 e)

    fetched-carries : label x ≢ 0 → (fetched M ab m x).carrier.task ≡ Inserting (start label (M.home ab m) x)
    unfolding fetched
    fetched-carries ne = rw (ne_eqb (label x) 0 ne)

  module _ (old new : List ℕ) where
    one_number : (a : Activity) (q : Option ℕ) → turn_number (one_at M 1 ab m new (record { activity = a }) q).reply ≡ 0
    one_number a None = refl
    one_number a (Some c) = refl

    carry-number : (a : Task) → turn_number (one_carry M ab m old new a).reply ≡ 0
    carry-number (Fetching c) = fetched-number (get_or old c 0)
    carry-number (Inserting a) = one_number a (touched a)

    -- an insert phase with this worker alone
    abbrev alone : Activity → Phase
    alone a = record { kind = 1; length = m; crew = 1; shut = false; hash = ab; workers = record { activity = a } ∷ [] }

    carry-answers : (n : ℕ) (a : Task) → Allowed n m a → (r : Answer) → (one_carry M ab m old new a).reply ≡ Ok r
        → Answers a (one_carry M ab m old new a).carrier.task r
    carry-answers n (Fetching c) h r e = fetched-answers (get_or old c 0) c r e
    carry-answers n (Inserting a) h r e = inserts (touched a) refl e
      where
        inserts : (q : Option ℕ) → touched a ≡ q → (one_at M 1 ab m new (record { activity = a }) q).reply ≡ Ok r
            → Answers (Inserting a) (Inserting (one_at M 1 ab m new (record { activity = a }) q).worker.activity) r
        inserts None is f =
            answers-inserting a a r (moved-answers M (alone a) new 0 (omega arith, omega arith) ((suits-allowed n m a).1 h) None is r f)
        inserts (Some c) is f =
            answers-inserting a _ r (moved-answers M (alone a) new 0 (omega arith, omega arith) ((suits-allowed n m a).1 h) (Some c) is r f)

    -- the old table stays as it is
    old-kept : (a : Task) → old_after M ab m old new a ≡ old
    old-kept (Fetching c) = set-get_or old c 0
    old-kept (Inserting a) = refl

-- ---- the turn of a worker of a migration
module _ (M : Model) (p : Migration) (old new : List ℕ) (w : ℕ) where
  turn-number : turn_number (turn_call M p old new w).reply ≡ reply_number (turn_check M p old new w)
  turn-number = by-reply (turn_check M p old new w) (λ e. rw e (carry-number M p.hash p.length old new (task_at p w))) (λ _ e. rw e)

  turn-accepted : turn_number (turn_call M p old new w).reply ≡ 0 → turn_check M p old new w ≡ Ok tt
  turn-accepted z = none-accepted (turn_check M p old new w) (sym turn-number ∙ z)

  -- a worker in the list does what its turn says, and one that is not in it stays free
  carried-task : task_at (with_task p p.next w (one_carry M p.hash p.length old new (task_at p w)).carrier.task) w
      ≡ (one_carry M p.hash p.length old new (task_at p w)).carrier.task
  carried-task = by-lt w (length p.carriers) (task-set p p.next w _)
      (λ l.
      let e : get_or p.carriers w (carrier free) ≡ carrier free = get_or-eq_default p.carriers (carrier free) l in
      rw (set_out p.carriers w (one_carry M p.hash p.length old new (task_at p w)).carrier l, e) (ap (λ (x : Carrier). x.task) e))

  pub turned-task : turn_check M p old new w ≡ Ok tt
      → task_at (turn_call M p old new w).migration w ≡ (one_carry M p.hash p.length old new (task_at p w)).carrier.task
  turned-task e = rw e carried-task

  -- with a free worker put back nothing is changed
  pub put_back : task_at p w ≡ free → with_task p p.next w free ≡ p
  put_back is =
      let e : set p.carriers w (carrier free) ≡ p.carriers
      = ap (λ (a : Task). set p.carriers w (carrier a)) (sym is) ∙ set-get_or p.carriers w (carrier free) in
      rw e

  answer-told : (r : Answer) → (turn_call M p old new w).reply ≡ Ok r → Answers (task_at p w) (task_at (turn_call M p old new w).migration w) r
  answer-told r e = by-reply (turn_check M p old new w)
      (λ ok.
      let q = turn-passed M p old new w ok in
      rw (turned-task ok)
      (carry-answers M p.hash p.length old new p.source (task_at p w) (q.formed.workers w q.below) r (rw ok at e)))
      (λ q no. absurd (let z : ◌≡◌ {A = ℕ} 0 1 = cc in omega arith))

-- ---- beside a worker of an insert phase
-- what it does after its turn is what its turn alone says
inserted-doing : (M : Model) (q : Phase) (t : List ℕ) (u : ℕ) → phase.turn_check M q t u ≡ Ok tt
    → doing (phase.turn_call M q t u).phase u ≡ (one_turn M q.kind q.hash q.length t (get_or q.workers u idle)).worker.activity
inserted-doing M q t u ok = rw ok (at_place (touched (doing q u)) refl)
  where
    at_place : (c : Option ℕ) → touched (doing q u) ≡ c
        → doing (phase.moved_at M q t u c).phase u ≡ (one_at M q.kind q.hash q.length t (get_or q.workers u idle) c).worker.activity
    at_place None is = refl
    at_place (Some c) is = moved q u _ (present q u c is)

-- a worker of a migration that does the same on the same table
module _ (M : Model) (p : Migration) (old new : List ℕ) (w : ℕ) (a : Activity) (on : task_at p w ≡ Inserting a) (ok : turn_check M p old new w ≡ Ok tt)
    (q : Phase) (u : ℕ) (kind : q.kind ≡ 1) (hash : q.hash ≡ p.hash) (does : doing q u ≡ a) (fine : phase.turn_check M q new u ≡ Ok tt) where
  as-insert : AsInsert M p old new w q u
  as-insert =
      let (formed, up, fits, below) = theorem.turn-passed M q new u fine in
      let s = splits.turn M q formed up new fits u below in
      let long : q.length ≡ p.length = fits ∙ sym (turn-passed M p old new w ok).to in
      let worker : ◌≡◌ {A = Worker} (get_or q.workers u idle) (record { activity = a }) = ap (λ (x : Activity). record { activity = x }) does in
      let one : one_turn M q.kind q.hash q.length new (get_or q.workers u idle) ≡ one_turn M 1 p.hash p.length new (record { activity = a })
      = λ k. one_turn M (kind k) (hash k) (long k) new (worker k) in
      let left : one_cells M q.kind q.hash q.length new (get_or q.workers u idle) ≡ one_cells M 1 p.hash p.length new (record { activity = a })
      = λ k. one_cells M (kind k) (hash k) (long k) new (worker k) in
      let carried : one_carry M p.hash p.length old new (task_at p w) ≡ one_carry M p.hash p.length old new (Inserting a)
      = ap (λ (b : Task). one_carry M p.hash p.length old new b) on in
      let same : new_after M p.hash p.length old new (task_at p w) ≡ new_after M p.hash p.length old new (Inserting a)
      = ap (λ (b : Task). new_after M p.hash p.length old new b) on in
      record {
        reply = rw ok (ap (λ (r : Carried). r.reply) carried) ∙ sym (ap (λ (r : Moved). r.reply) one) ∙ sym s.reply;
        task = turned-task M p old new w ok
            ∙ ap (λ (r : Carried). r.carrier.task) carried
            ∙ sym (ap (λ (r : Moved). Inserting r.worker.activity) one)
            ∙ sym (ap Inserting (inserted-doing M q new u fine));
        cells = rw ok same ∙ sym left ∙ sym s.table;
      }

-- there is one: of a crew as large, with this worker first
module _ (M : Model) (p : Migration) (old new : List ℕ) (w : ℕ) (a : Activity) (on : task_at p w ≡ Inserting a) (ok : turn_check M p old new w ≡ Ok tt) where
  beside-passes : phase.turn_check M (beside p a) new 0 ≡ Ok tt
  beside-passes =
      let t = turn-passed M p old new w ok in
      let suits : Suits 1 p.length label a = (suits-allowed p.source p.length a).1 (rw on at (t.formed.workers w t.below)) in
      let formed : plain.WellFormed M (beside p a) = record {
        kind = (omega arith, omega arith);
        size = t.formed.to;
        crew = t.formed.crew;
        past = λ (u : ℕ). idle-past u;
        workers = λ (u : ℕ) (l : u < p.crew). suited u suits;
      } in
      let (_, (_, (_, (_, none)))) = (theorem.turns M (beside p a) new 0).answers in
      theorem.turn-accepted M (beside p a) new 0 (none.1 ((((tt, formed), refl), t.to), omega (arith, t.below)))
    where
      idle-past : (u : ℕ) → p.crew ≤ u → doing (beside p a) u ≡ Idle
      idle-past zero l = absurd (let t = turn-passed M p old new w ok in omega (arith, t.below, l))
      idle-past (suc u) l = refl

      suited : (u : ℕ) → Suits 1 p.length label a → Suits 1 p.length label (doing (beside p a) u)
      suited zero h = h
      suited (suc u) h = tt

pub turns : TurnPromise
turns M p old new w =
    let is = turn-number M p old new w in
    let check = turn_check M p old new w in
    record {
      answers = decides (turn_steps M p old new w) refl (turn_number (turn_call M p old new w).reply) is;
      refused = λ z. by-reply check (λ e. absurd (z (is ∙ ap reply_number e))) (λ _ e. rw e (refl, refl));
      unchanged = by-reply check (λ e. rw e (old-kept M p.hash p.length old new (task_at p w))) (λ _ e. rw e);
      idle = λ i. by-reply check (λ e. rw (e, i) (put_back M p old new w i, refl)) (λ _ e. rw e (refl, refl));
      idle_answer = λ i z. rw (turn-accepted M p old new w z, i);
      answered = answer-told M p old new w;
      empty = λ c on z e. rw (turn-accepted M p old new w z, on) (fetched-empty M p.hash p.length (get_or old c 0) e);
      carries = λ c on z ne.
          let ok = turn-accepted M p old new w z in
          turned-task M p old new w ok ∙ rw on (fetched-carries M p.hash p.length (get_or old c 0) ne);
      reads = λ c on. by-reply check (λ e. rw (e, on)) (λ _ e. rw e);
      some_insert = λ a on z.
          let ok = turn-accepted M p old new w z in
          let fine = beside-passes M p old new w a on ok in
          (fine, as-insert M p old new w a on ok (beside p a) 0 refl refl refl fine);
      inserts = λ a on z. as-insert M p old new w a on (turn-accepted M p old new w z);
      others = by-reply check (λ e. rw e (but-task p p.next w _)) (λ _ e. rw e (but-self w p));
      next = by-reply check (λ e. rw e) (λ _ e. rw e);
    }
