-- One worker's turn, and what a call relies on once its tests are passed.
use Rattle.std.specs.Prelude.{Ok, Err}
use mathlib.Core.Path.{◌≡◌, refl, sym, ap, ◌∙◌}
use mathlib.Core.Bool.{true, false}
use mathlib.Core.List.{List, [], ◌∷◌, ◌++◌}
use Prim.Native.Nat.{ℕ, ◌+◌, ◌≤◌, ◌<◌}
use native.Mathlib.Numerals.{add-one}
use native.Mathlib.Omega.{arith}
use lib.ListN.{length, get_or}
use lib.Seq.{set-get_or}
use borrow.Author.Tests.{ltb-true, eq-eqb, lt-leb}
use Rattle.homes.specs.declared.Hash.{Hash}
use Rattle.prices.specs.Contents.{label}
use Rattle.activities.specs.Activities.{activity_ok}
use Rattle.activities.specs.declared.Activity.{Activity}
use Rattle.state.specs.Model.{Model, gateway, model_of, crew_ok}
use Rattle.state.specs.Open.{hash_bars, sound_bars, table_bars}
use Rattle.state.specs.Refusals.{first_of, if}
use Rattle.state.specs.declared.Device.{Device}
use Rattle.state.specs.declared.Refusal.{Refusal}
use Rattle.state.specs.declared.Refusal.TheVariants.{Spoilt, Unfit}
use Rattle.state.proofs.Model.{most-workers, most-cells}
use Rattle.state.proofs.Sequence.{or_else, first-append}
use Rattle.ring.proofs.Tests.{by-test, both_say, within-says}
use Rattle.protocol.specs.Split.{one_turn, one_cells}
use Rattle.migration.specs.Calls.{task_at, with_task, state_bars, is_well_formed, is_unfit, fresh, refused_migration, sizes_ok, open_reply, open_call, order_reply, order_call, turn_check, stepped, turn_call, turn_old, turn_new}
use Rattle.migration.specs.Tasks.{is_free, task_ok, fetched, inserted, one_carry, old_after, new_after}
use Rattle.migration.specs.declared.Carried.{Carried}
use Rattle.migration.specs.declared.Migrated.{Migrated}
use Rattle.migration.specs.declared.Migration.{Migration}
use Rattle.migration.specs.declared.Stepped.{Stepped}
use Rattle.migration.specs.declared.Task.{Task}
use Rattle.migration.specs.declared.Task.TheVariants.{Fetching, Inserting}
use Rattle.migration.specs.Promise.{WellFormed}
use Rattle.migration.proofs.Formed.{well-formed-says, allowed-says}
use Rattle.migration.proofs.Passing.{order-passed, TurnPassed, turn-passed}

-- ---- one worker's turn
module _ (n m : ℕ) (a : Task) (ok : task_ok n m a ≡ true) where
  pub below-source : (c : ℕ) → a ≡ Fetching c → c < n
  below-source c is = ltb-true c n (rw is at ok)

  pub may-insert : (b : Activity) → a ≡ Inserting b → activity_ok 1 m label b ≡ true
  may-insert b is = rw is at ok

module _ (M : Model) (ab : Hash) (m : ℕ) (old new : List ℕ) (a : Task) (r : Carried) where
  -- the turn's result, and the two tables afterwards
  abbrev Carries : (t : List ℕ) → Type 0
  Carries t = (r ≡ one_carry M ab m old new a) × (old ≡ old_after M ab m old new a) × (t ≡ new_after M ab m old new a)

  pub fetch-carries : (c : ℕ) → a ≡ Fetching c → r ≡ fetched M ab m (get_or old c 0) → Carries new
  fetch-carries c is e = rw is (e, sym (set-get_or old c 0), refl)

  pub insert-carries : (b : Activity) (t : List ℕ) → a ≡ Inserting b → r ≡ inserted M ab m (one_turn M 1 ab m new (record { activity = b }))
      → t ≡ one_cells M 1 ab m new (record { activity = b }) → Carries t
  insert-carries b t is e f = rw is (e, refl, f)

-- no limit is read: it is the same in each model
pub same-carry : (d : Device) (ab : Hash) (m : ℕ) (old new : List ℕ) (a : Task) → one_carry gateway ab m old new a ≡ one_carry (model_of d) ab m old new a
unfolding fetched
same-carry d ab m old new (Fetching c) = refl
same-carry d ab m old new (Inserting a) = refl

-- ---- a well-formed migration
module _ (d : Device) (p : Migration) (good : is_well_formed (model_of d) p ≡ true) where
  pub good-crew : p.crew ≤ 16
  good-crew = omega (arith, ((well-formed-says (model_of d) p).0 good).crew, most-workers d)

  pub good-cells : (p.source ≤ 8192) × (0 < p.length)
  good-cells = let h = (well-formed-says (model_of d) p).0 good in (omega (arith, h.from, most-cells d), omega (arith, h.to))

  pub good-task : (w n : ℕ) → w < p.crew → p.source ≡ n → task_ok n p.length (task_at p w) ≡ true
  good-task w n l e = rw (← e) ((allowed-says p.source p.length (task_at p w)).1 (((well-formed-says (model_of d) p).0 good).workers w l))

-- ---- opening
pub sizes-bounded : (d : Device) (n m : ℕ) → sizes_ok (model_of d) n m ≡ true → (n ≤ 8192) × (m ≤ 8192)
sizes-bounded d n m e =
    let (a, b) = (both_say _ _ (within-says _ _ n) (within-says _ _ m)).0 e in (omega (arith, most-cells d), omega (arith, most-cells d))

module _ (M : Model) (crew : ℕ) (ab : Hash) (old new : List ℕ) where
  pub open-refused : (r : Migrated) (why : Refusal) → r ≡ record { migration = refused_migration M; reply = Err why } → open_reply M crew ab old new ≡ Err why
      → r ≡ open_call M crew ab old new
  open-refused r why e h = rw (e, h)

  pub open-accepted : (p : Migration) → p ≡ fresh M (length old) (length new) crew false ab → open_reply M crew ab old new ≡ Ok tt
      → record { migration = p; reply = Ok tt } ≡ open_call M crew ab old new
  open-accepted p e h = rw (e, h)

  -- behind the lengths and the worker count, the old table's check decides, and then whether the new one is fit
  pub open_by : sizes_ok M (length old) (length new) ≡ true → crew_ok M crew ≡ true
      → open_reply M crew ab old new ≡ or_else (first_of (table_bars M ab old)) (first_of (if (is_unfit old new) Unfit ∷ []))
  open_by sizes crews =
      let (cells, _) = (both_say _ _ (within-says _ _ (length old)) (within-says _ _ (length new))).0 sizes in
      let one = (within-says _ _ (length old)).1 cells in
      rw (sizes, crews, one) (first-append (hash_bars ab ++ sound_bars M ab old) (if (is_unfit old new) Unfit ∷ []))

-- ---- order
pub order-by : (M : Model) (p : Migration) (w : ℕ) → is_well_formed M p ≡ true → p.shut ≡ false → w < p.crew → is_free (task_at p w) ≡ true → p.next < p.source
    → record { migration = with_task p (p.next + 1) w (Fetching p.next); reply = Ok tt } ≡ order_call M p w
order-by M p w good up below idle more =
    let all : order_reply M p w ≡ Ok tt = simp (good, up, lt-leb _ _ below, idle, lt-leb _ _ more) in
    rw (all, add-one p.next)

-- ---- turn
module _ (M : Model) (p : Migration) (old new : List ℕ) (w : ℕ) where
  pub turn-refused : (r : Stepped) (why : Refusal) → r ≡ record { migration = p; reply = Err why } → turn_check M p old new w ≡ Err why
      → (r ≡ turn_call M p old new w) × (old ≡ turn_old M p old new w) × (new ≡ turn_new M p old new w)
  turn-refused r why e h = (rw (e, h), rw h, rw h)

  -- a turn that is not refused is its worker's, in any model
  pub turn-by-worker : is_well_formed M p ≡ true → p.shut ≡ false → p.source ≡ length old → p.length ≡ length new → w < p.crew
      → (r : Carried) (t u : List ℕ)
      → (r ≡ one_carry M p.hash p.length old new (task_at p w))
      × (t ≡ old_after M p.hash p.length old new (task_at p w)) × (u ≡ new_after M p.hash p.length old new (task_at p w))
      → (stepped M p old new w r ≡ turn_call M p old new w) × (t ≡ turn_old M p old new w) × (u ≡ turn_new M p old new w)
  turn-by-worker good up from to below r t u (e, f, g) =
      let all : turn_check M p old new w ≡ Ok tt = simp (good, up, eq-eqb _ _ from, eq-eqb _ _ to, lt-leb _ _ below) in
      (ap (stepped M p old new w) e ∙ rw all, f ∙ rw all, g ∙ rw all)

-- ---- a migration that a call has found well formed
module _ (d : Device) (p : Migration) where
  manned : WellFormed (model_of d) p → p.crew ≤ 16
  manned h = omega (arith, h.crew, most-workers d)

  pub state-manned : Ok tt ≡ first_of (state_bars (model_of d) p) → p.crew ≤ 16
  state-manned e = by-test (is_well_formed (model_of d) p)
      (λ good. manned ((well-formed-says (model_of d) p).0 good))
      (λ bad. absurd (let z : Ok tt ≡ Err Spoilt = rw bad at e in let y : ◌≡◌ {A = ℕ} 0 1 = cc in omega arith))

  pub order-within : (w : ℕ) → order_reply (model_of d) p w ≡ Ok tt → w < 16
  order-within w e = let q = order-passed (model_of d) p w e in omega (arith, manned q.formed, q.below)

  module _ (old new : List ℕ) (w : ℕ) (e : turn_check (model_of d) p old new w ≡ Ok tt) where
    passed : TurnPassed (model_of d) p old new w
    passed = turn-passed (model_of d) p old new w e

    pub turn-within : w < 16
    turn-within = omega (arith, manned passed.formed, passed.below)

    -- what its worker's turn asks for
    pub turn-good : (task_ok (length old) p.length (task_at p w) ≡ true) × (p.length ≡ length new) × (0 < p.length)
    turn-good =
        let q = passed in (
          rw (← q.from) ((allowed-says p.source p.length (task_at p w)).1 (q.formed.workers w q.below)),
          q.to,
          omega (arith, q.formed.to),
        )

    -- and it is that turn
    pub turn-by-one : (r : Carried) (t u : List ℕ)
        → (r ≡ one_carry gateway p.hash p.length old new (task_at p w))
        × (t ≡ old_after gateway p.hash p.length old new (task_at p w)) × (u ≡ new_after gateway p.hash p.length old new (task_at p w))
        → (stepped (model_of d) p old new w r ≡ turn_call (model_of d) p old new w)
        × (t ≡ turn_old (model_of d) p old new w) × (u ≡ turn_new (model_of d) p old new w)
    turn-by-one r t u (a, b, c) = (ap (stepped (model_of d) p old new w) (a ∙ same-carry d p.hash p.length old new (task_at p w)) ∙ rw e, b ∙ rw e, c ∙ rw e)
