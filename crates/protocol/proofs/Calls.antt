-- The calls' sequences of refusals, each test with what it says.
use Rattle.std.specs.Prelude.{Option, ℕ, Some, None}
use mathlib.Core.Path.{◌≡◌, refl}
use mathlib.Core.Logic.{◌≢◌, ⊎_elim}
use mathlib.Core.Bool.{not}
use mathlib.Core.List.{List, [], ◌∷◌, ◌++◌}
use Prim.Native.Nat.{ℕ, ◌≤◌, ◌<◌}
use native.Mathlib.Omega.{arith}
use lib.Dec.{ltb, eqb}
use lib.ListN.{length, get_or}
use borrow.Author.Tests.{ltb-true, ltb-false, not-true, not-false}
use Rattle.ring.proofs.Tests.{not_both, equal-says, within-says, by-test}
use Rattle.homes.specs.declared.Hash.{Hash}
use Rattle.prices.specs.Contents.{price_ok}
use Rattle.homes.specs.Homes.{is_even}
use Rattle.homes.specs.Promise as promise
use Rattle.homes.proofs.Theorem.{homes-promise as homes}
use Rattle.flaws.specs.Flaws.{is_intact, meets_empty, meets_key}
use Rattle.flaws.specs.Promise.{Intact, Damaged}
use Rattle.flaws.proofs.Theorem.{theorem as flaws}
use Rattle.orders.specs.Orders.{blank, lines_fault}
use Rattle.orders.specs.declared.Order.{Order}
use Rattle.activities.specs.Activities.{is_idle}
use Rattle.activities.specs.Kinds.{kind_ok}
use Rattle.activities.specs.declared.Activity.TheVariants.{Idle}
use Rattle.activities.proofs.Activities.{idle-says}
use Rattle.rule.specs.Rule.{touched}
use Rattle.state.specs.Model.{Model, size_ok, crew_ok}
use Rattle.state.specs.Open.{crowded}
use Rattle.state.specs.Refusals.{reply_number}
use Rattle.state.specs.declared.Phase.{Phase}
use Rattle.state.specs.declared.Refusal.TheVariants.{Size, Crew, Kind, Unsound, OtherTable, NoWorker, Blank, Busy, Full, Working, Shut, Spoilt, WrongPrice, NoLine, LongList, Gap, Disorder, Even, TestNumber}
use Rattle.protocol.specs.Bars.{doing, all_idle}
use Rattle.protocol.specs.Calls.{turn_number, moved_at, turn_check, turn_call}
use Rattle.protocol.specs.IsWellFormed.{is_well_formed}
use Rattle.protocol.specs.Lines.{Priced, Mispriced}
use Rattle.protocol.proofs.Lines.{fault_number, apart, blank_first, test_first, price-first, worker-first, fills-says}
use Rattle.protocol.proofs.Pricing.{price-says, wrong-says}
use Rattle.protocol.proofs.Chain.{Step, barring, wanting, testing, reaching, by-reply}
use Rattle.protocol.proofs.WellFormed.{all-idle-says, some-busy, well-formed-says}

-- ---- open
abbrev pub size_steps : Model → List ℕ → List Step
size_steps M t = wanting (size_ok M (length t)) (within-says M.fewest_cells M.most_cells (length t)) Size ∷ []

abbrev pub even_steps : Hash → List Step
even_steps ab =
    record {
      when = is_even ab;
      why = Even;
      passes = promise.Odd ab.a;
      applies = promise.Even ab.a;
      if-true = (homes.even ab).0;
      if-false = (homes.odd ab).0;
      apart = λ o e. not_both (is_even ab) ((homes.even ab).1 e) ((homes.odd ab).1 o);
    }
    ∷ []

module _ (M : Model) (ab : Hash) (t : List ℕ) where
  abbrev pub sound_steps : List Step
  sound_steps =
      let home = M.home ab (length t) in
      let kinds = flaws.kinds home t in
      record {
        when = not (is_intact t);
        why = Unsound;
        passes = Intact t;
        applies = Damaged t;
        if-true = λ e. ⊎_elim (λ w. absurd (not_both (is_intact t) (kinds.intact.1 w) (not-true (is_intact t) e))) (λ d. d) kinds.one_of;
        if-false = λ e. kinds.intact.0 (not-false (is_intact t) e);
        apart = kinds.not_damaged;
      }
      ∷ barring (meets_empty home t) kinds.gapped Gap
      ∷ barring (meets_key home t) kinds.disordered Disorder
      ∷ []

module _ (M : Model) (k m : ℕ) (ab : Hash) (t : List ℕ) where
  abbrev limit_steps : List Step
  limit_steps =
      size_steps M t
      ++ wanting (crew_ok M m) (within-says M.fewest_workers M.most_workers m) Crew
      ∷ wanting (kind_ok k) (within-says 1 3 k) Kind
      ∷ even_steps ab

  -- an insert phase, and any other
  abbrev pub insert_steps : List Order → List Step
  insert_steps os =
      limit_steps
      ++ record {
        when = ltb M.most_lines (length os);
        why = LongList;
        passes = length os ≤ M.most_lines;
        applies = M.most_lines < length os;
        if-true = ltb-true M.most_lines (length os);
        if-false = ltb-false M.most_lines (length os);
        apart = λ l h. omega arith;
      }
      ∷ sound_steps M ab t
      ++ barring (eqb (fault_number (lines_fault m os)) 7) (blank_first m os) Blank
      ∷ barring (eqb (fault_number (lines_fault m os)) 24) (test_first m os) TestNumber
      ∷ barring (eqb (fault_number (lines_fault m os)) 14) (price-first m os) WrongPrice
      ∷ barring (eqb (fault_number (lines_fault m os)) 6) (worker-first m os) NoWorker
      ∷ barring (crowded t os) (fills-says t os) Full
      ∷ []

  abbrev pub other_steps : List Step
  other_steps = limit_steps ++ sound_steps M ab t

module _ (M : Model) (p : Phase) where
  abbrev phase_steps : List Step
  phase_steps = wanting (is_well_formed M p) (well-formed-says M p) Spoilt ∷ testing p.shut Shut ∷ []

  abbrev number_steps : ℕ → List Step
  number_steps w = reaching p.crew w NoWorker ∷ []

  -- ---- order
  abbrev worker_steps : (w v : ℕ) → List Step
  worker_steps w v = number_steps w ++ wanting (is_idle (doing p w)) (idle-says (doing p w)) Busy ∷ barring (eqb v 0) (equal-says v 0) Blank ∷ []

  -- an insert phase, by a line, and any other, by a worker and a key handed in
  abbrev pub line_order_steps : List Order → ℕ → List Step
  line_order_steps os i =
      phase_steps
      ++ record {
        when = not (ltb i (length os));
        why = NoLine;
        passes = i < length os;
        applies = length os ≤ i;
        if-true = λ e. ltb-false i (length os) (not-true (ltb i (length os)) e);
        if-false = λ e. ltb-true i (length os) (not-false (ltb i (length os)) e);
        apart = λ l h. omega arith;
      }
      ∷ worker_steps (get_or os i blank).worker (get_or os i blank).key
      ++ reaching 4000000000 (get_or os i blank).key TestNumber
      ∷ record {
        when = not (price_ok (get_or os i blank).price);
        why = WrongPrice;
        passes = Priced (get_or os i blank).price;
        applies = Mispriced (get_or os i blank).price;
        if-true = (wrong-says (get_or os i blank).price).0;
        if-false = λ e. (price-says (get_or os i blank).price).0 (not-false (price_ok (get_or os i blank).price) e);
        apart = λ ok wrong. apart (get_or os i blank).price wrong ok;
      }
      ∷ []

  abbrev pub handed_steps : (w v : ℕ) → List Step
  handed_steps w v = phase_steps ++ worker_steps w v

  -- ---- turn
  module _ (t : List ℕ) (w : ℕ) where
    abbrev pub turn_steps : List Step
    turn_steps = phase_steps ++ wanting (eqb p.length (length t)) (equal-says p.length (length t)) OtherTable ∷ number_steps w

    moved-number : (c : Option ℕ) → turn_number (moved_at M p t w c).reply ≡ 0
    moved-number None = refl
    moved-number (Some c) = refl

    pub turn-number : turn_number (turn_call M p t w).reply ≡ reply_number (turn_check M p t w)
    turn-number = by-reply (turn_check M p t w) (λ e. rw e (moved-number (touched (doing p w)))) (λ _ e. rw e)

  -- ---- close: all workers are idle, or one isn't
  abbrev pub close_steps : List Step
  close_steps =
      phase_steps
      ++ record {
        when = not (all_idle p.workers);
        why = Working;
        passes = (w : ℕ) → doing p w ≡ Idle;
        applies = (w : ℕ) × (doing p w ≢ Idle);
        if-true = λ e. by-test (all_idle p.workers) (λ f. absurd (not_both (not (all_idle p.workers)) e (rw f))) (some-busy p.workers);
        if-false = λ e. by-test (all_idle p.workers) (all-idle-says p.workers).0 (λ f. absurd (not_both (not (all_idle p.workers)) (rw f) e));
        apart = λ h (w, z). z (h w);
      }
      ∷ []
