-- The kind of unsound by the code's steps: an empty cell is looked for, the pass ends at the first faulty cell, then all cells are tested by themselves.
use mathlib.Core.Path.{◌≡◌, sym, ap, ◌∙◌}
use mathlib.Core.Logic.{◌≢◌}
use mathlib.Core.Bool.{Bool, true, false}
use mathlib.Core.List.{List}
use Prim.Native.Nat.{ℕ, ◌≤◌, ◌<◌}
use native.Mathlib.Omega.{arith}
use lib.Dec.{eqb}
use lib.ListN.{length, get_or}
use borrow.Author.Tests.{eq-eqb, ne_eqb, lt-ltb, le-ltb}
use Rattle.std.specs.Prelude.{Ok, Err}
use Rattle.ring.proofs.Tests.{true-says, by-test, not_both}
use Rattle.ring.specs.Each.{all, some}
use Rattle.ring.proofs.Each.{First, first-is, first_of, all-at}
use Rattle.prices.specs.Contents.{label, cell_ok}
use Rattle.prices.specs.Priced.{labels}
use Rattle.flaws.specs.Flaws.{breaks, lowest, deciding, meets_empty, meets_key}
use Rattle.soundness.specs.declared.Flaw.TheVariants.{Cells, Gap, Disorder}
use Rattle.soundness.specs.Faulty.{is_faulty, first_faulty, first_met}
use Rattle.soundness.specs.Flaw.{flaw_of}
use Rattle.soundness.proofs.Passing.{all-ends}

module _ (home : ℕ → ℕ) (t : List ℕ) where
  abbrev n : ℕ
  n = length t

  abbrev keys : List ℕ
  keys = labels label t

  abbrev ok_at : ℕ → Bool
  ok_at j = cell_ok (get_or t j 0)

  abbrev some_empty : Bool
  some_empty = some (λ j. eqb (get_or t j 0) 0) n

  abbrev all_ok : Bool
  all_ok = all ok_at n

  pub is-full : some_empty ≡ false → Err Cells ≡ flaw_of home t
  is-full e = rw e

  module _ (some_is : some_empty ≡ true) where
    pub not-ok : all_ok ≡ false → Err Cells ≡ flaw_of home t
    not-ok e = rw (some_is, e)

    module _ {j : ℕ} (is : j ≡ first_faulty home t) where
      found : First (is_faulty home t) n j
      found = rw is (first-is (is_faulty home t) n)

      -- a cell that is right by itself is faulty if its key breaks the order, and only then
      by_order : (i : ℕ) → ok_at i ≡ true → is_faulty home t i ≡ breaks n home keys i
      unfolding is_faulty
      by_order i e = rw e

      -- a cell that is not faulty is right by itself
      right : (i : ℕ) → is_faulty home t i ≡ false → ok_at i ≡ true
      unfolding is_faulty
      right i e = by-test (ok_at i) (λ h. h) (λ h. absurd (not_both (is_faulty home t i) (rw h) e))

      lowest-is : ((i : ℕ) → i ≤ j → i < n → ok_at i ≡ true) → j ≡ lowest n home keys
      lowest-is ok = first_of (record {
        within = found.within;
        before = λ i l. sym (by_order i (ok i (omega arith) (omega (arith, found.within)))) ∙ found.before i l;
        found = λ l. sym (by_order j (ok j (omega arith) l)) ∙ found.found l;
      })

      pub is-sound : j ≡ n → Ok tt ≡ flaw_of home t
      unfolding meets_empty meets_key
      is-sound e =
          let ok : (i : ℕ) → i < j → ok_at i ≡ true = λ i l. right i (found.before i l) in
          let low : lowest n home keys ≡ n = sym (lowest-is (λ i _ l. ok i (omega arith))) ∙ e in
          rw (some_is, ← all-ends ok_at {n = n} {j = j} ok (omega arith), le-ltb (lowest n home keys) n (omega arith))

      module _ (ok : all_ok ≡ true) (ne : j ≢ n) where
        same : j ≡ lowest n home keys
        same = lowest-is (λ i _ l. (true-says (ok_at i)).1 (all-at ok_at n ((true-says all_ok).0 ok) i l))

        broken : lowest n home keys < n
        broken = omega (arith, same, found.within)

        -- c is what the key of j meets first
        module _ {c : ℕ} (em : c ≡ first_met home t j) where
          deciding-is : c ≡ deciding home t
          deciding-is = em ∙ ap (first_met home t) same

          pub is-gap : c ≡ 0 → Err Gap ≡ flaw_of home t
          unfolding meets_empty
          is-gap z = rw (some_is, ok, lt-ltb (lowest n home keys) n broken, eq-eqb (deciding home t) 0 (sym deciding-is ∙ z))

          pub is-disorder : c ≢ 0 → Err Disorder ≡ flaw_of home t
          unfolding meets_empty meets_key
          is-disorder z = rw (some_is, ok, lt-ltb (lowest n home keys) n broken, ne_eqb (deciding home t) 0 (λ q. z (deciding-is ∙ q)))
