-- A call keeps a well-formed migration well formed, also one that no opening and no calls lead to; and what an opening hands back is well formed.
use Rattle.std.specs.Prelude.{Option, ℕ, Some, None}
use mathlib.Core.Path.{◌≡◌, refl, ap, ◌∙◌}
use mathlib.Core.Bool.{Bool}
use mathlib.Core.List.{List}
use Prim.Native.Nat.{ℕ, suc, ◌≤◌, ◌<◌}
use native.Mathlib.Omega.{arith}
use lib.Dec.{eqb}
use lib.ListN.{length, get_or, set, length-set, length-replicate}
use lib.Seq.{get_or-set_same, get_or-set_other, set_out}
use borrow.Author.Tests.{eqb-false}
use Rattle.ring.proofs.Split.{by-lt, by-eq}
use Rattle.ring.proofs.Tests.{tested}
use Rattle.homes.specs.Homes.{plain}
use Rattle.homes.specs.declared.Hash.{Hash}
use Rattle.prices.specs.Contents.{label}
use Rattle.activities.specs.Activities.{Suits}
use Rattle.activities.specs.declared.Activity.{Activity}
use Rattle.rule.specs.Rule.{touched}
use Rattle.rule.proofs.Crew.{replicate-at}
use Rattle.rule.proofs.Suits.{rule-suits}
use Rattle.state.specs.Model.{Model, Proper, model_of}
use Rattle.state.proofs.Model.{proper, fewest-most}
use Rattle.protocol.specs.Split.{one_at, one_turn}
use Rattle.protocol.specs.WellFormed.{Size, Crew}
use Rattle.protocol.proofs.Chain.{by-reply}
use Rattle.migration.specs.Calls.{task_at, with_task, fresh, open_reply, open_call, order_reply, order_call, close_reply, close_call, turn_check, turn_call}
use Rattle.migration.specs.Promise.{WellFormed, KeepsPromise, opened, ordered, turned, closed, NeverSpoiltPromise, PlacesPromise, EachNeverSpoilt}
use Rattle.migration.specs.Tasks.{free, carrier, Allowed, fetched, one_carry}
use Rattle.migration.specs.declared.Carried.{Carried}
use Rattle.migration.specs.declared.Carrier.{Carrier}
use Rattle.migration.specs.declared.Migration.{Migration}
use Rattle.migration.specs.declared.Task.{Task}
use Rattle.migration.specs.declared.Task.TheVariants.{Fetching, Inserting}
use Rattle.migration.proofs.Formed.{suits-allowed}
use Rattle.migration.proofs.Passing.{open-passed, order-passed, turn-passed}

-- ---- one worker
-- what it does after a turn it may do, if it could before
module _ (M : Model) (ab : Hash) (n m : ℕ) (at_home : (v : ℕ) → M.home ab m v < m) (old new : List ℕ) where
  fetched-allowed : (x : ℕ) → Allowed n m (fetched M ab m x).carrier.task
  unfolding fetched
  fetched-allowed x = tested (λ (r : Carried). Allowed n m r.carrier.task) (eqb (label x) 0) (λ _. tt) (λ e. (eqb-false (label x) 0 e, at_home (label x)))

  moved-suits : (a : Activity) → Suits 1 m label a → (q : Option ℕ) → Suits 1 m label (one_at M 1 ab m new (record { activity = a }) q).worker.activity
  moved-suits a h None = h
  moved-suits a h (Some c) = rule-suits 1 m label (M.home ab m) a (get_or new c 0) h

  carry-allowed : (a : Task) → Allowed n m a → Allowed n m (one_carry M ab m old new a).carrier.task
  carry-allowed (Fetching c) h = fetched-allowed (get_or old c 0)
  carry-allowed (Inserting a) h = (suits-allowed n m (one_turn M 1 ab m new (record { activity = a })).worker.activity).0 (moved-suits a ((suits-allowed n m a).1 h) (touched a))

-- ---- the migration, with one worker changed
-- what holds of every worker holds after a change of one, if it holds of what that one does now
changed : (C : ℕ → Task → Type 0) (cs : List Carrier) (w : ℕ) (a : Task) → C w a → ((u : ℕ) → C u (get_or cs u (carrier free)).task)
    → (u : ℕ) → C u (get_or (set cs w (carrier a)) u (carrier free)).task
changed C cs w a new h u = by-eq u w
    (λ z. by-lt w (length cs) (λ l. rw (z, get_or-set_same cs w _ (carrier free) l) new) (λ l. rw (set_out cs w _ l) (h u)))
    (λ z. rw (get_or-set_other cs w u _ (carrier free) z) (h u))

module _ (M : Model) (p : Migration) (good : WellFormed M p) where
  with-task : (next w : ℕ) (a : Task) → next ≤ p.source → w < p.crew → Allowed p.source p.length a → WellFormed M (with_task p next w a)
  with-task next w a handed below new =
      record {
        kind = good.kind;
        from = good.from;
        to = good.to;
        crew = good.crew;
        handed = handed;
        past = changed (λ u b. p.crew ≤ u → b ≡ free) p.carriers w a (λ l. absurd (omega arith)) good.past;
        workers = changed (λ u b. u < p.crew → Allowed p.source p.length b) p.carriers w a (λ _. new) good.workers;
      }

  order-keeps : (w : ℕ) → WellFormed M (order_call M p w).migration
  order-keeps w = by-reply (order_reply M p w)
      (λ e. let q = order-passed M p w e in rw e (with-task (suc p.next) w (Fetching p.next) (omega (arith, q.remains)) q.below q.remains))
      (λ _ e. rw e good)

  turn-keeps : ((v : ℕ) → M.home p.hash p.length v < p.length) → (old new : List ℕ) (w : ℕ) → WellFormed M (turn_call M p old new w).migration
  turn-keeps at_home old new w = by-reply (turn_check M p old new w)
      (λ e.
      let below = (turn-passed M p old new w e).below in
      rw e
      (with-task p.next w _ good.handed below
      (carry-allowed M p.hash p.source p.length at_home old new (task_at p w) (good.workers w below))))
      (λ _ e. rw e good)

  close-keeps : WellFormed M (close_call M p).migration
  close-keeps = by-reply (close_reply M p)
      (λ e. rw e
      (record {
        kind = good.kind;
        from = good.from;
        to = good.to;
        crew = good.crew;
        handed = good.handed;
        past = good.past;
        workers = good.workers;
      }))
      (λ _ e. rw e good)

pub keeps : KeepsPromise
keeps M proper p good =
    record {
      order = order-keeps M p good;
      turn = turn-keeps M p good (λ v. proper.homes p.hash p.length v (omega (arith, proper.some, good.to)));
      close = close-keeps M p good;
    }

-- ---- openings, accepted or refused
pub fresh-rest : (M : Model) (n l m : ℕ) (shut : Bool) (ab : Hash) (w : ℕ) → task_at (fresh M n l m shut ab) w ≡ free
fresh-rest M n l m shut ab w = ap (λ (x : Carrier). x.task) (replicate-at (carrier free) M.room w)

fresh-formed : (M : Model) (n l m : ℕ) (shut : Bool) (ab : Hash) → Size M n → Size M l → Crew M m → WellFormed M (fresh M n l m shut ab)
fresh-formed M n l m shut ab from into crew =
    record {
      kind = refl;
      from = from;
      to = into;
      crew = crew;
      handed = omega arith;
      past = λ w _. fresh-rest M n l m shut ab w;
      workers = λ w _. rw (fresh-rest M n l m shut ab w) tt;
    }

open-formed : (M : Model) → Proper M → Size M 2 → Crew M 1 → (m : ℕ) (ab : Hash) (old new : List ℕ) → WellFormed M (open_call M m ab old new).migration
open-formed M proper two one m ab old new = by-reply (open_reply M m ab old new)
    (λ e. let p = open-passed M proper m ab old new e in rw e (fresh-formed M (length old) (length new) m _ ab p.from p.to p.crew))
    (λ _ e. rw e (fresh-formed M 2 2 1 _ plain two two one))

-- ---- and later calls
pub never_spoilt : NeverSpoiltPromise
never_spoilt M proper two one p (opened m ab old new) = open-formed M proper two one m ab old new
never_spoilt M proper two one p (ordered q h w) = (keeps M proper q (never_spoilt M proper two one q h)).order w
never_spoilt M proper two one p (turned q h old new w) = (keeps M proper q (never_spoilt M proper two one q h)).turn old new w
never_spoilt M proper two one p (closed q h) = (keeps M proper q (never_spoilt M proper two one q h)).close

-- a call keeps the places
pub places : PlacesPromise
places M p (opened m ab old new) =
    by-reply (open_reply M m ab old new) (λ e. rw e (length-replicate M.room (carrier free))) (λ _ e. rw e (length-replicate M.room (carrier free)))
places M p (ordered q h w) = by-reply (order_reply M q w) (λ e. rw e (length-set q.carriers w _ ∙ places M q h)) (λ _ e. rw e (places M q h))
places M p (turned q h old new w) =
    by-reply (turn_check M q old new w) (λ e. rw e (length-set q.carriers w _ ∙ places M q h)) (λ _ e. rw e (places M q h))
places M p (closed q h) = by-reply (close_reply M q) (λ e. rw e (places M q h)) (λ _ e. rw e (places M q h))

pub each-never-spoilt : EachNeverSpoilt
each-never-spoilt d = never_spoilt (model_of d) (proper d) (omega arith, (fewest-most d).0) (omega arith, (fewest-most d).1)
