-- What check, count and list promise.
use Rattle.std.specs.Prelude.{Ok, Err}
use mathlib.Core.Path.{◌≡◌, refl, sym, ap, ◌∙◌}
use mathlib.Core.Logic.{◌≢◌, ◌↔◌}
use mathlib.Core.List.{List, [], ◌∷◌, ◌++◌}
use Prim.Native.Nat.{ℕ, ◌≤◌, ◌<◌}
use native.Mathlib.Omega.{arith}
use lib.Dec.{ltb}
use lib.ListN.{length, get_or}
use borrow.Author.Tests.{ltb-true, ltb-false, le-ltb}
use Rattle.ring.proofs.Split.{by-eq}
use Rattle.layout.specs.Layout.{size}
use Rattle.homes.specs.Promise.{Odd}
use Rattle.homes.specs.declared.Hash.{Hash}
use Rattle.prices.specs.Contents.{label}
use Rattle.prices.specs.Priced.{labels}
use Rattle.flaws.specs.Promise.{Intact}
use Rattle.words.specs.Words.{entries_of, filled, count_of}
use Rattle.words.specs.Promise.{InCellOrder, keys_before}
use Rattle.words.proofs.Order.{filled-in-order, filled-behind, length-filled}
use Rattle.words.proofs.Theorem.{theorem as listing}
use Rattle.state.specs.Counts.{count_number, count_value, counted_by, if_counted}
use Rattle.state.specs.Model.{Model, Proper}
use Rattle.state.specs.Refusals.{reply_number, first_of}
use Rattle.state.specs.Replies.{Counted, Reply}
use Rattle.state.specs.declared.Refusal.TheVariants.{ShortList}
use Rattle.state.proofs.Counts.{count-number, kept}
use Rattle.protocol.specs.Cases.{Decides}
use Rattle.protocol.specs.Promise.{Soundness, GappedIn, DisorderedIn}
use Rattle.protocol.specs.WellFormed.{Size}
use Rattle.protocol.proofs.Calls.{size_steps, even_steps, sound_steps}
use Rattle.protocol.proofs.Chain.{Step, cases_of, decides, none-accepted}
use Rattle.protocol.proofs.Soundness.{sounds}
use Rattle.tables.specs.Calls.{check_call, count_call, list_bars, list_call, list_after, list_front}
use Rattle.tables.specs.Promise.{Usable, check_cases, list_cases, AtRest, AtRestPromise}
use Rattle.tables.proofs.Answers.{list-by, refused-alike, short, full as full-list}

-- a sound table has as many ones as keys
pub counts-keys : (M : Model) → Proper M → (ab : Hash) (t : List ℕ) → Soundness M ab t → count_of t ≡ size (labels label t)
counts-keys M proper ab t sound =
    (listing t).number (length t) (M.home ab (length t)) (λ x. proper.homes ab (length t) x (omega (arith, sound.intact.empty.inside)))
    ((sounds.words M ab t).1 sound).paths

module _ (M : Model) (proper : Proper M) (ab : Hash) (t : List ℕ) where
  -- so has one that the check accepts
  counts : Usable M ab t → count_of t ≡ size (labels label t)
  counts (_, _, sound) = counts-keys M proper ab t sound

  check-decides : Decides (reply_number (check_call M ab t)) (check_cases M ab t)
  check-decides = decides (size_steps M t ++ even_steps ab ++ sound_steps M ab t) refl (reply_number (check_call M ab t)) refl

  -- behind its size and an odd a, a table of none of the kinds of unsound is one that it accepts
  usable : Size M (length t) → Odd ab.a → Intact t → (GappedIn M ab t → ⊥) → (DisorderedIn M ab t → ⊥) → Usable M ab t
  usable sized odd w g d = (sized, odd, (sounds.kinds M proper ab t).1 (w, g, d))

  passes : reply_number (check_call M ab t) ≡ 0 ↔ Usable M ab t
  passes =
      let (_, (_, (_, (_, (_, (to, from)))))) = check-decides in (
        λ z. let (((((_, sized), odd), w), g), d) = to z in usable sized odd w g d,
        λ (sized, odd, sound). let (w, g, d) = (sounds.kinds M proper ab t).0 sound in from (((((tt, sized), odd), w), g), d),
      )

  accepted : Usable M ab t → check_call M ab t ≡ Ok tt
  accepted u = none-accepted (check_call M ab t) (passes.1 u)

  count_true : Usable M ab t → count_value (count_call M ab t) ≡ size (labels label t)
  count_true u = ap (λ (r : Reply). count_value (counted_by (count_of t) r)) (accepted u) ∙ counts u

  module _ (out : List ℕ) where
    abbrev list_steps : List Step
    list_steps =
        size_steps M t
        ++ even_steps ab
        ++ sound_steps M ab t
        ++ record {
          when = ltb (length out) (count_of t);
          why = ShortList;
          passes = count_of t ≤ length out;
          applies = length out < count_of t;
          if-true = ltb-true (length out) (count_of t);
          if-false = ltb-false (length out) (count_of t);
          apart = λ h l. omega arith;
        }
        ∷ []

    abbrev number : ℕ
    number = count_number (list_call M ab t out)

    by_tests : Decides number (cases_of list_steps)
    by_tests = decides list_steps refl number (count-number (count_of t) (first_of (list_bars M ab t out)))

    list : Decides number (list_cases M ab t out)
    list =
        let (one, (odd, (four, (seventeen, (eighteen, (twelve, none)))))) = by_tests in (
          one,
          (
            odd,
            (
              four,
              (
                seventeen,
                (
                  eighteen,
                  (
                    (
                      λ e. let (b, l) = twelve.0 e in (b, omega (arith, counts (behind-check b))),
                      λ (b, l). twelve.1 (b, omega (arith, counts (behind-check b))),
                    ),
                    (
                      λ e. let (b, l) = none.0 e in (b, omega (arith, counts (behind-check b))),
                      λ (b, l). none.1 (b, omega (arith, counts (behind-check b))),
                    ),
                  ),
                ),
              ),
            ),
          ),
        )
      where
        behind-check : (((((Unit {0} × Size M (length t)) × Odd ab.a) × Intact t) × (GappedIn M ab t → ⊥)) × (DisorderedIn M ab t → ⊥)) → Usable M ab t
        behind-check (((((_, sized), odd), w), g), d) = usable sized odd w g d

    -- ---- by what count answers
    list_counts : count_value (count_call M ab t) ≤ length out → list_call M ab t out ≡ count_call M ab t
    list_counts = go (count_call M ab t) refl
      where
        go : (a : Counted) → count_call M ab t ≡ a → count_value a ≤ length out → list_call M ab t out ≡ a
        go (Ok c) e h = full-list M ab t out c e h
        go (Err why) e h = refused-alike M ab t out why e

    list_short : length out < count_value (count_call M ab t) → number ≡ 12
    list_short = go (count_call M ab t) refl
      where
        go : (a : Counted) → count_call M ab t ≡ a → length out < count_value a → number ≡ 12
        go (Ok c) e h = ap count_number (short M ab t out c e h)
        go (Err why) e h = absurd (omega arith)

    -- a list call that is not refused
    module _ (z : number ≡ 0) where
      passed : Usable M ab t × (count_of t ≤ length out)
      passed =
          let (_, (_, (_, (_, (_, (_, none)))))) = by_tests in
          let ((((((_, sized), odd), w), g), d), l) = none.0 z in
          (usable sized odd w g d, l)

      full : list_call M ab t out ≡ Ok (count_of t)
      full = list-by M ab t out (Ok tt) (accepted passed.0) ∙ rw (le-ltb (length out) (count_of t) passed.1)

      is-size : count_of t ≡ size (labels label t)
      is-size = counts passed.0

      room : count_of t ≤ length out
      room = passed.1

      after_filled : list_after M ab t out ≡ filled t out
      after_filled = ap (λ (a : Counted). if_counted a (filled t out) out) full

      listed : InCellOrder t (list_after M ab t out)
      listed i key = ap (λ (l : List ℕ). get_or l (keys_before t i) 0) after_filled ∙ filled-in-order t out i key

      behind : (j : ℕ) → size (labels label t) ≤ j → get_or (list_after M ab t out) j 0 ≡ get_or out j 0
      behind j h = ap (λ (l : List ℕ). get_or l j 0) after_filled ∙ filled-behind t out j (omega (arith, is-size, (listing t).count))

      front-entries : list_front M ab t out ≡ entries_of t
      front-entries = ap (λ (a : Counted). if_counted a (entries_of t) []) full

      front : InCellOrder t (list_front M ab t out)
      front i key = ap (λ (l : List ℕ). get_or l (keys_before t i) 0) front-entries ∙ (listing t).listed i key

      front_long : length (list_front M ab t out) ≡ size (labels label t)
      front_long = ap length front-entries ∙ (listing t).long ∙ sym (listing t).count ∙ is-size

    unlisted : number ≢ 0 → list_after M ab t out ≡ out
    unlisted = kept (list_call M ab t out) (filled t out) out

    long : length (list_after M ab t out) ≡ length out
    long = by-eq number 0 (λ z. ap length (after_filled z) ∙ length-filled t out (omega (arith, room z, (listing t).count))) (λ r. ap length (unlisted r))

    at_rest : AtRest M ab t out
    at_rest =
        record {
          check = check-decides;
          passes = passes;
          count_refused = count-number (count_of t) (check_call M ab t);
          count_true = count_true;
          list = list;
          list_counts = list_counts;
          list_short = list_short;
          list_true = λ z. ap count_value (full z) ∙ is-size z;
          listed = listed;
          behind = behind;
          long = long;
          unlisted = unlisted;
          front = front;
          front_long = front_long;
          no_front = kept (list_call M ab t out) (entries_of t) [];
        }

pub theorem : AtRestPromise
theorem = at_rest
