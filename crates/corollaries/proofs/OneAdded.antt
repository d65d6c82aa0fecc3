-- The shifts of specs/OneAdded, computed and by the promises.
use Rattle.std.specs.Prelude.{Ok}
use mathlib.Core.Path.{◌≡◌, refl, sym, ap, ◌∙◌, subst}
use mathlib.Core.Logic.{inl, inr}
use mathlib.Core.Bool.{true}
use mathlib.Core.List.{List, [], ◌∷◌}
use Prim.Native.Nat.{ℕ, zero, suc, ◌≤◌, ◌<◌}
use native.Mathlib.Omega.{arith}
use lib.Dec.{T}
use lib.ListN.{length, get_or}
use Rattle.ring.specs.Counting.{count}
use Rattle.ring.specs.Each.{all, some, first}
use Rattle.ring.specs.Ring.{wrap, probe, dist, prev}
use Rattle.layout.specs.Layout.{In, into, descending, listed}
use Rattle.homes.specs.Homes.{plain}
use Rattle.prices.specs.Contents.{label, content}
use Rattle.prices.specs.Priced.{labels}
use Rattle.flaws.specs.Flaws.{meets_empty, meets_key}
use Rattle.reach.specs.Examples.{five, with_eight}
use Rattle.reach.specs.Reach.{vacant}
use Rattle.orders.specs.Orders.{blank, line_fault, lines_fault}
use Rattle.rule.specs.Rule.{settled, absorbed, insert_step, find_step, fits, narrow, delete_step, rule}
use Rattle.rule.specs.Schedules.{same_table}
use Rattle.rule.proofs.Schedules.{same-table}
use Rattle.state.specs.Model.{model_of}
use Rattle.state.specs.Open.{open_reply}
use Rattle.state.specs.declared.Device.{Device}
use Rattle.state.specs.declared.Device.TheVariants.{Gateway, Kiosk}
use Rattle.state.proofs.Model.{proper}
use Rattle.protocol.specs.IsWellFormed.{is_well_formed}
use Rattle.protocol.specs.Lines.{Good}
use Rattle.protocol.specs.Promise.{Soundness}
use Rattle.protocol.specs.WellFormed.{Size, Crew}
use Rattle.protocol.proofs.Soundness.{sounds}
use Rattle.history.specs.History.{History, call, run, after}
use Rattle.addition.specs.Promise.{Alone, Added, ForOne, Opens}
use Rattle.addition.proofs.Adding.{addition}
use Rattle.addition.proofs.Opening.{opening}
use Rattle.examples.specs.Orders.{one_line}
use Rattle.examples.proofs.Sound.{plain-odd, is_sound, sound-says}
use Rattle.corollaries.specs.Corollaries.{turns_of, rounds}
use Rattle.corollaries.specs.OneAdded.{eights, put_in, take_one_out, added, removed, OneAdded}
use Rattle.corollaries.proofs.Members.{not_in}

lists-open : (d : Device) → open_reply (model_of d) 1 2 plain five eights ≡ Ok tt
unfolding line_fault lines_fault descending into meets_empty meets_key first all some dist probe wrap
lists-open Gateway = refl
lists-open Kiosk = refl

-- the put-in shift: closed, what was ordered, and the table
put-in-tested : (d : Device) → T (same_table (added d).ordered (content 8 12 ∷ content 8 9 ∷ content 8 12 ∷ [])) × T (same_table (added d).table with_eight) × ((added d).closed ≡ true)
unfolding same_table turns_of rounds call run is_well_formed rule settled absorbed insert_step find_step delete_step fits narrow meets_empty meets_key first all some dist
    probe prev wrap count into descending line_fault lines_fault
put-in-tested Gateway = (tt, tt, refl)
put-in-tested Kiosk = (tt, tt, refl)

-- the take-out shift, on that table
take-out-tested : (d : Device)
    → T (same_table (after (model_of d) 2 3 plain with_eight [] take_one_out).ordered (content 8 0 ∷ content 8 0 ∷ []))
    × T (same_table (after (model_of d) 2 3 plain with_eight [] take_one_out).table five)
    × ((after (model_of d) 2 3 plain with_eight [] take_one_out).closed ≡ true)
unfolding same_table turns_of rounds call run is_well_formed rule settled absorbed insert_step find_step delete_step fits narrow meets_empty meets_key first all some dist
    probe prev wrap count into descending line_fault lines_fault
take-out-tested Gateway = (tt, tt, refl)
take-out-tested Kiosk = (tt, tt, refl)

-- the two tables
are-sound : T (is_sound plain five) × T (is_sound plain with_eight)
unfolding meets_empty meets_key first all some dist probe wrap
are-sound = (tt, tt)

vacancies : (2 ≤ vacant five) × (vacant with_eight < 2)
unfolding count
vacancies = (omega arith, omega arith)

lacks-eight : In 8 (labels label five) → ⊥
unfolding listed
lacks-eight = not_in 8 (labels label five) tt

lacks-six : (In 6 (labels label five) → ⊥) × (In 6 (labels label with_eight) → ⊥)
unfolding listed
lacks-six = (not_in 6 (labels label five) tt, not_in 6 (labels label with_eight) tt)

module _ (d : Device) where
  table_is : (added d).table ≡ with_eight
  table_is = same-table (added d).table with_eight (put-in-tested d).1

  -- the take-out shift on the table that was left is that one
  removed-is : removed d ≡ after (model_of d) 2 3 plain with_eight [] take_one_out
  removed-is = ap (λ (t : List ℕ). after (model_of d) 2 3 plain t [] take_one_out) table_is

  put-in-alone : Alone 8 (added d).ordered
  put-in-alone = rw (same-table (added d).ordered (content 8 12 ∷ content 8 9 ∷ content 8 12 ∷ []) (put-in-tested d).0)
      (record { some = inl refl; only = λ y i. each y i })
    where
      each : (y : ℕ) → In y (content 8 12 ∷ content 8 9 ∷ content 8 12 ∷ []) → label y ≡ 8
      each y (inl e) = ap label e
      each y (inr (inl e)) = ap label e
      each y (inr (inr (inl e))) = ap label e
      each y (inr (inr (inr h))) = elim h [ ]

  take-out-alone : Alone 8 (removed d).ordered
  take-out-alone =
      subst (Alone 8) (sym (ap (λ (s : History). s.ordered) removed-is ∙ same-table _ (content 8 0 ∷ content 8 0 ∷ []) (take-out-tested d).0))
      (record { some = inl refl; only = λ y i. each y i })
    where
      each : (y : ℕ) → In y (content 8 0 ∷ content 8 0 ∷ []) → label y ≡ 8
      each y (inl e) = ap label e
      each y (inr (inl e)) = ap label e
      each y (inr (inr h)) = elim h [ ]

  reached : Added (model_of d) plain five 8 (added d).ordered (added d).table
  reached = addition (model_of d) (proper d) 2 plain five eights (lists-open d) 8 lacks-eight put_in (put-in-tested d).2 put-in-alone

  -- a list of one line for 6, on a sound table of five cells without 6
  for-six : (t : List ℕ) → Soundness (model_of d) plain t → length t ≡ 5 → (In 6 (labels label t) → ⊥) → ForOne (model_of d) 1 plain t (one_line 6 1 0) 6
  for-six t s long lacks = record {
    size = five-fit d;
    crew = one-fits d;
    odd = plain-odd;
    sound = s;
    some = omega arith;
    long = omega arith;
    lines = lines;
    keys = keys;
    lacks = lacks;
  }
    where
      five-fit : (d : Device) → Size (model_of d) (length t)
      five-fit Gateway = (omega arith, omega arith)
      five-fit Kiosk = (omega arith, omega arith)

      one-fits : (d : Device) → Crew (model_of d) 1
      one-fits Gateway = (omega arith, omega arith)
      one-fits Kiosk = (omega arith, omega arith)

      lines : (i : ℕ) → i < 1 → Good 1 (get_or (one_line 6 1 0) i blank)
      lines zero l = record { key = λ e. omega arith; shop = omega arith; price = (omega arith, omega arith); worker = omega arith }
      lines (suc i) l = absurd (omega arith)

      keys : (i : ℕ) → i < 1 → (get_or (one_line 6 1 0) i blank).key ≡ 6
      keys zero l = refl
      keys (suc i) l = absurd (omega arith)

  six : (t : List ℕ) → T (is_sound plain t) → length t ≡ 5 → (In 6 (labels label t) → ⊥) → Opens (model_of d) 1 plain t (one_line 6 1 0) 6
  six t tested long lacks =
      opening (model_of d) (proper d) 1 plain t (one_line 6 1 0) 6 (for-six t ((sounds.words (model_of d) plain t).0 ((sound-says plain t).0 tested)) long lacks)

pub one-added : (d : Device) → OneAdded d
one-added d =
    record {
      table = table_is d;
      again = ap (λ (s : History). s.table) (removed-is d) ∙ same-table _ five (take-out-tested d).1;
      reaches = reached d;
      restored = (reached d).restored 3 [] ((reached d).opens 3 (three-fit d) []) take_one_out (ap (λ (s : History). s.closed) (removed-is d) ∙ (take-out-tested d).2) (take-out-alone d);
      opens = (six d five are-sound.0 refl lacks-six.0).two vacancies.0;
      full = (six d with_eight are-sound.1 refl lacks-six.1).fewer vacancies.1;
    }
  where
    three-fit : (d : Device) → Crew (model_of d) 3
    three-fit Gateway = (omega arith, omega arith)
    three-fit Kiosk = (omega arith, omega arith)
