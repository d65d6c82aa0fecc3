-- The calls' sequences of refusals, each test with what it says, and what a call that is not refused has passed.
use Rattle.std.specs.Prelude.{Ok}
use mathlib.Core.Path.{◌≡◌, refl, ap}
use mathlib.Core.Logic.{◌≢◌, ◌⊎◌, inl, inr, ⊎_elim}
use mathlib.Core.Bool.{true, false, not}
use mathlib.Core.List.{List, [], ◌∷◌, ◌++◌}
use Prim.Native.Nat.{ℕ, ◌≤◌, ◌<◌}
use native.Mathlib.Omega.{arith}
use lib.Dec.{eqb}
use lib.ListN.{length, get_or}
use borrow.Author.Tests.{leb-true, leb-false, not-true, not-false}
use Rattle.ring.proofs.Tests.{tested, by-test, not_both, equal-says, both_say, within-says}
use Rattle.homes.specs.declared.Hash.{Hash}
use Rattle.words.specs.Words.{count_of}
use Rattle.state.specs.Model.{Model, Proper, size_ok, crew_ok}
use Rattle.state.specs.Refusals.{reply_number}
use Rattle.state.specs.declared.Refusal.TheVariants as refusal
use Rattle.protocol.specs.Promise.{SoundIn}
use Rattle.protocol.specs.WellFormed.{Size, Crew}
use Rattle.protocol.proofs.Calls.{even_steps, sound_steps}
use Rattle.protocol.proofs.Chain.{Step, wanting, testing, reaching, decides}
use Rattle.protocol.proofs.Soundness.{sounds}
use Rattle.tables.proofs.Theorem.{counts-keys}
use Rattle.migration.specs.Calls.{task_at, all_free, is_well_formed, all_empty, is_unfit, sizes_ok, open_reply, order_reply, tables_fit, turn_check, is_done, close_reply}
use Rattle.migration.specs.Promise.{WellFormed, Fit}
use Rattle.migration.specs.Tasks.{free, is_free}
use Rattle.migration.specs.declared.Migration.{Migration}
use Rattle.migration.proofs.Formed.{free-says, all-free-says, some-busy, well-formed-says, all-empty-says, some-taken}

-- ---- open
-- by the count of the old table's taken cells: the new table is all empty and has more cells, or it is not or has no more
module _ (old new : List ℕ) where
  abbrev pub Roomy : Type 0
  Roomy = ((j : ℕ) → j < length new → get_or new j 0 ≡ 0) × (count_of old < length new)

  abbrev pub Cramped : Type 0
  Cramped = ((j : ℕ) × (j < length new) × (get_or new j 0 ≢ 0)) ⊎ (length new ≤ count_of old)

  abbrev fit_steps : List Step
  fit_steps =
      record {
        when = is_unfit old new;
        why = refusal.Unfit;
        passes = Roomy;
        applies = Cramped;
        if-true = tested (λ b. b ≡ true → Cramped) (all_empty new) (λ _ f. inr (leb-true (length new) (count_of old) f)) (λ e _. inl (some-taken new e));
        if-false = tested (λ b. b ≡ false → Roomy) (all_empty new)
            (λ e f. ((all-empty-says new).0 e, leb-false (length new) (count_of old) f))
            (λ _ f. absurd (not_both true refl f));
        apart = λ (none, l). ⊎_elim (λ (j, below, z). z (none j below)) (λ (g : length new ≤ count_of old). omega arith);
      }
      ∷ []

module _ (M : Model) (m : ℕ) (ab : Hash) (old new : List ℕ) where
  abbrev pub open_steps : List Step
  open_steps =
      wanting (sizes_ok M (length old) (length new))
      (both_say (size_ok M (length old)) (size_ok M (length new))
      (within-says M.fewest_cells M.most_cells (length old)) (within-says M.fewest_cells M.most_cells (length new)))
      refusal.Size
      ∷ wanting (crew_ok M m) (within-says M.fewest_workers M.most_workers m) refusal.Crew
      ∷ even_steps ab
      ++ sound_steps M ab old
      ++ fit_steps old new

-- what an accepted opening has passed
pub record OpenPassed (M : Model) (m : ℕ) (ab : Hash) (old new : List ℕ) : Type 0 where
  pub from : Size M (length old)
  pub to : Size M (length new)
  pub crew : Crew M m
  pub sound : SoundIn M ab old
  pub fit : Fit old new

pub open-passed : (M : Model) → Proper M → (m : ℕ) (ab : Hash) (old new : List ℕ) → open_reply M m ab old new ≡ Ok tt → OpenPassed M m ab old new
open-passed M proper m ab old new e =
    let (_, (_, (_, (_, (_, (_, (_, none))))))) = decides (open_steps M m ab old new) refl (reply_number (open_reply M m ab old new)) refl in
    let (((((((_, (from, into)), crew), _), w), g), d), (empty, room)) = none.0 (ap reply_number e) in
    let sound = (sounds.kinds M proper ab old).1 (w, g, d) in
    let many = counts-keys M proper ab old sound in
    record { from = from; to = into; crew = crew; sound = (sounds.words M ab old).1 sound; fit = (empty, omega arith) }

-- ---- the other calls
module _ (M : Model) (p : Migration) where
  abbrev state_steps : List Step
  state_steps = wanting (is_well_formed M p) (well-formed-says M p) refusal.Spoilt ∷ testing p.shut refusal.Shut ∷ []

  abbrev number_steps : ℕ → List Step
  number_steps w = reaching p.crew w refusal.NoWorker ∷ []

  -- ---- order
  abbrev pub order_steps : ℕ → List Step
  order_steps w =
      state_steps
      ++ number_steps w
      ++ wanting (is_free (task_at p w)) (free-says (task_at p w)) refusal.Busy
      ∷ reaching p.source p.next refusal.Full
      ∷ []

  -- ---- turn
  abbrev pub turn_steps : (old new : List ℕ) → ℕ → List Step
  turn_steps old new w =
      state_steps
      ++ wanting (tables_fit M p old new)
      (both_say (eqb p.source (length old)) (eqb p.length (length new)) (equal-says p.source (length old)) (equal-says p.length (length new)))
      refusal.OtherTable
      ∷ number_steps w

  -- ---- close: all workers are free and no old cell remains, or one worker isn't, or one cell does
  abbrev pub Done : Type 0
  Done = ((w : ℕ) → task_at p w ≡ free) × (p.source ≤ p.next)

  abbrev pub Undone : Type 0
  Undone = ((w : ℕ) × (task_at p w ≢ free)) ⊎ (p.next < p.source)

  pub done-says : (is_done M p ≡ false → Undone) × (is_done M p ≡ true → Done)
  done-says = by-test (all_free p.carriers)
      (λ e. rw e (λ f. inr (leb-false p.source p.next f), λ f. ((all-free-says p.carriers).0 e, leb-true p.source p.next f)))
      (λ e. rw e (λ _. inl (some-busy p.carriers e), λ f. absurd (not_both false f refl)))

  abbrev pub close_steps : List Step
  close_steps =
      state_steps
      ++ record {
        when = not (is_done M p);
        why = refusal.Working;
        passes = Done;
        applies = Undone;
        if-true = λ e. done-says.0 (not-true (is_done M p) e);
        if-false = λ e. done-says.1 (not-false (is_done M p) e);
        apart = λ (rest, l). ⊎_elim (λ (w, z). z (rest w)) (λ (g : p.next < p.source). omega arith);
      }
      ∷ []

-- what an accepted order has passed
pub record OrderPassed (M : Model) (p : Migration) (w : ℕ) : Type 0 where
  pub formed : WellFormed M p
  pub running : p.shut ≡ false
  pub below : w < p.crew
  pub idle : task_at p w ≡ free
  pub remains : p.next < p.source

pub order-passed : (M : Model) (p : Migration) (w : ℕ) → order_reply M p w ≡ Ok tt → OrderPassed M p w
order-passed M p w e =
    let (_, (_, (_, (_, (_, none))))) = decides (order_steps M p w) refl (reply_number (order_reply M p w)) refl in
    let (((((_, formed), running), below), idle), remains) = none.0 (ap reply_number e) in
    record { formed = formed; running = running; below = below; idle = idle; remains = remains }

-- a turn that is not refused
pub record TurnPassed (M : Model) (p : Migration) (old new : List ℕ) (w : ℕ) : Type 0 where
  pub formed : WellFormed M p
  pub running : p.shut ≡ false
  pub from : p.source ≡ length old
  pub to : p.length ≡ length new
  pub below : w < p.crew

pub turn-passed : (M : Model) (p : Migration) (old new : List ℕ) (w : ℕ) → turn_check M p old new w ≡ Ok tt → TurnPassed M p old new w
turn-passed M p old new w e =
    let (_, (_, (_, (_, none)))) = decides (turn_steps M p old new w) refl (reply_number (turn_check M p old new w)) refl in
    let ((((_, formed), running), (from, into)), below) = none.0 (ap reply_number e) in
    record { formed = formed; running = running; from = from; to = into; below = below }

-- and an accepted close
pub record ClosePassed (M : Model) (p : Migration) : Type 0 where
  pub formed : WellFormed M p
  pub running : p.shut ≡ false
  pub rest : (w : ℕ) → task_at p w ≡ free
  pub done : p.next ≡ p.source

pub close_passed : (M : Model) (p : Migration) → close_reply M p ≡ Ok tt → ClosePassed M p
close_passed M p e =
    let (_, (_, (_, none))) = decides (close_steps M p) refl (reply_number (close_reply M p)) refl in
    let (((_, formed), running), (rest, all)) = none.0 (ap reply_number e) in
    record { formed = formed; running = running; rest = rest; done = omega (arith, formed.handed) }
