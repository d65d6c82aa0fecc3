-- One turn of a migration, in any state: what its answer tells, what it goes by, and what it leaves alone.
use Rattle.std.specs.Prelude.{Option, ℕ, Some, None, Ok}
use mathlib.Core.Path.{◌≡◌, refl, sym, ap, ◌∙◌}
use mathlib.Core.Logic.{◌≢◌}
use mathlib.Core.List.{List}
use Prim.Native.Nat.{ℕ, ◌<◌}
use native.Mathlib.Omega.{arith}
use lib.Dec.{eqb}
use lib.ListN.{length, get_or, length-set}
use lib.Seq.{get_or-set_same, get_or-set_other, set-get_or}
use Rattle.ring.specs.Counting.{bit}
use Rattle.ring.proofs.Tests.{tested}
use Rattle.homes.specs.declared.Hash.{Hash}
use Rattle.prices.specs.Contents.{label}
use Rattle.activities.specs.Activities.{busy, Suits}
use Rattle.activities.specs.declared.Activity.{Activity}
use Rattle.activities.proofs.Activities.{cells-below}
use Rattle.rule.specs.Rule.{touched, rule}
use Rattle.rule.specs.declared.Outcome.{Outcome}
use Rattle.rule.proofs.Suits.{touched-below, nowhere-idle}
use Rattle.rule.proofs.Telling.{Tells, on, done, found, missed, still, rule-tells}
use Rattle.state.specs.Model.{Model}
use Rattle.protocol.specs.Split.{one_at, one_cells_at}
use Rattle.history.specs.History.{worked}
use Rattle.migration.specs.Calls.{task_at}
use Rattle.migration.specs.Claim.{seen, TwoTurnsPromise}
use Rattle.migration.specs.Tasks.{Allowed, in_new, new_at, spot_of, fetched, inserted, one_carry, old_after, new_after}
use Rattle.migration.specs.declared.Carried.{Carried}
use Rattle.migration.specs.declared.Task.{Task}
use Rattle.migration.specs.declared.Task.TheVariants.{Fetching, Inserting}
use Rattle.migration.proofs.Counting.{occupied}
use Rattle.migration.proofs.Formed.{suits-allowed}
use Rattle.migration.proofs.Passing.{turn-passed}
use Rattle.migration.proofs.Turning.{turned-task, turns}

module _ (M : Model) (ab : Hash) (l : ℕ) where
  -- ---- the answer tells whether the worker had an unfinished order, if it may have its task
  fetch-told : (x : ℕ) → bit (worked (fetched M ab l x).reply) ≡ 1
  unfolding fetched
  fetch-told x = tested (λ (r : Carried). bit (worked r.reply) ≡ 1) (eqb (label x) 0) (λ _. refl) (λ _. refl)

  step-told : (a : Activity) (x : ℕ) (o : Outcome) → Suits 1 l label a → Tells 1 l label a x o → bit (worked (Ok o.answer)) ≡ busy a
  step-told a x o h (on b _ e) = rw e (sym b)
  step-told a x o h (done _ b _ e) = rw e (sym b)
  step-told a x o h (found _ _ _ b _ e _ _) = rw e (sym b)
  step-told a x o h (missed _ _ b _ e _) = rw e (sym b)
  step-told a x o h (still rest _ e) = rw e (ap busy (sym (rest (omega arith) (omega arith) h)))

  module _ (old new : List ℕ) where
    work-told : (a : Activity) → Suits 1 l label a → (q : Option ℕ) → touched a ≡ q → bit (worked (one_at M 1 ab l new (record { activity = a }) q).reply) ≡ busy a
    work-told a h None z = ap busy (sym (nowhere-idle a z))
    work-told a h (Some c) z = step-told a (get_or new c 0) _ h (rule-tells 1 l label (M.home ab l) a (get_or new c 0))

    pub turn-told : (n : ℕ) (a : Task) → Allowed n l a → bit (worked (one_carry M ab l old new a).reply) ≡ occupied a
    turn-told n (Fetching c) h = fetch-told (get_or old c 0)
    turn-told n (Inserting a) h = work-told a ((suits-allowed n l a).1 h) (touched a) refl

    -- ---- what a turn leaves alone
    -- at place q of the new table
    others-at : (a : Activity) (q : Option ℕ) (c : ℕ) → new_at q ≢ in_new c → get_or (one_cells_at M 1 ab l new (record { activity = a }) q) c 0 ≡ get_or new c 0
    others-at a None c ne = refl
    others-at a (Some d) c ne = get_or-set_other new d c _ 0 (λ e. ne (ap in_new (sym e)))

    sized-at : (a : Activity) (q : Option ℕ) → length (one_cells_at M 1 ab l new (record { activity = a }) q) ≡ length new
    sized-at a None = refl
    sized-at a (Some d) = length-set new d _

    others-kept : (a : Task) (c : ℕ) → spot_of a ≢ in_new c → get_or (new_after M ab l old new a) c 0 ≡ get_or new c 0
    others-kept (Fetching d) c ne = refl
    others-kept (Inserting a) c ne = others-at a (touched a) c ne

    length-kept : (a : Task) → length (new_after M ab l old new a) ≡ length new
    length-kept (Fetching d) = refl
    length-kept (Inserting a) = sized-at a (touched a)

  -- ---- two turns with the same task and the same content of the touched cell
  module _ (old old' new new' : List ℕ) where
    same_at : (a : Activity) (q : Option ℕ) → seen old new (new_at q) ≡ seen old' new' (new_at q)
        → one_at M 1 ab l new (record { activity = a }) q ≡ one_at M 1 ab l new' (record { activity = a }) q
    same_at a None e = refl
    same_at a (Some c) e = ap (λ (x : ℕ). let o = rule 1 l label (M.home ab l) a x in
        record { worker = record { activity = o.activity }; reply = Ok o.answer }) e

    same-carry : (a : Task) → seen old new (spot_of a) ≡ seen old' new' (spot_of a) → one_carry M ab l old new a ≡ one_carry M ab l old' new' a
    same-carry (Fetching c) e = ap (fetched M ab l) e
    same-carry (Inserting a) e = ap (inserted M ab l) (same_at a (touched a) e)

    -- they leave it alike
    cells_at_lem : (a : Activity) (q : Option ℕ) → ((c : ℕ) → q ≡ Some c → (c < length new) × (c < length new')) → seen old new (new_at q) ≡ seen old' new' (new_at q)
        → seen old (one_cells_at M 1 ab l new (record { activity = a }) q) (new_at q) ≡ seen old' (one_cells_at M 1 ab l new' (record { activity = a }) q) (new_at q)
    cells_at_lem a None inside e = refl
    cells_at_lem a (Some c) inside e =
        let (low, low') = inside c refl in
        get_or-set_same new c _ 0 low ∙ ap (λ (x : ℕ). (rule 1 l label (M.home ab l) a x).content) e ∙ sym (get_or-set_same new' c _ 0 low')

    same-cell : (n : ℕ) (a : Task) → Allowed n l a → l ≡ length new → l ≡ length new' → seen old new (spot_of a) ≡ seen old' new' (spot_of a)
        → seen (old_after M ab l old new a) (new_after M ab l old new a) (spot_of a) ≡ seen (old_after M ab l old' new' a) (new_after M ab l old' new' a) (spot_of a)
    same-cell n (Fetching c) h to to' e =
        ap (λ (t : List ℕ). get_or t c 0) (set-get_or old c 0) ∙ e ∙ sym (ap (λ (t : List ℕ). get_or t c 0) (set-get_or old' c 0))
    same-cell n (Inserting a) h to to' e = cells_at_lem a (touched a)
        (λ c z. let low = touched-below l a c (cells-below 1 l label a ((suits-allowed n l a).1 h)) z in (omega arith, omega arith)) e

pub alike : TwoTurnsPromise
alike M p q old old' new new' w z a b hash from into same held =
    let x = turn-passed M p old new w a in
    let y = turn-passed M q old' new' z b in
    let l : p.length ≡ q.length = omega (arith, x.to, y.to) in
    let first = one_carry M p.hash p.length old new (task_at p w) in
    let second = one_carry M q.hash q.length old' new' (task_at q z) in
    let one : first ≡ second = same-carry M p.hash p.length old old' new new' (task_at p w) held ∙ (λ i. one_carry M (hash i) (l i) old' new' (same i)) in
    record {
      replies = rw (a, b) (ap (λ (r : Carried). r.reply) one);
      records = turned-task M p old new w a ∙ ap (λ (r : Carried). r.carrier.task) one ∙ sym (turned-task M q old' new' z b);
      cells = rw (a, b)
          (same-cell M p.hash p.length old old' new new' p.source (task_at p w) (x.formed.workers w x.below) x.to (x.to ∙ into) held
          ∙ (λ i. seen (old_after M (hash i) (l i) old' new' (same i)) (new_after M (hash i) (l i) old' new' (same i)) (spot_of (task_at p w))));
      unchanged = (turns M p old new w).unchanged;
      other_cells = λ c ne. rw a (others-kept M p.hash p.length old new (task_at p w) c ne);
      other_workers = (turns M p old new w).others.others;
      sized = rw a (length-kept M p.hash p.length old new (task_at p w));
    }
