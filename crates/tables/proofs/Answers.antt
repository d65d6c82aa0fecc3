-- The calls' answers, by the tests that lead to them.
use Rattle.std.specs.Prelude.{Ok, Err}
use mathlib.Core.Path.{◌≡◌, refl, sym, ap, ◌∙◌}
use mathlib.Core.Bool.{cond}
use mathlib.Core.List.{List, [], ◌∷◌}
use Prim.Native.Nat.{ℕ, ◌≤◌, ◌<◌}
use native.Mathlib.Omega.{arith}
use lib.Dec.{ltb}
use lib.ListN.{length, take, drop}
use lib.Seq.{take_at}
use borrow.Author.Tests.{lt-ltb, le-ltb}
use Rattle.homes.specs.declared.Hash.{Hash}
use Rattle.words.specs.Words.{occupied, entries_of, filled, count_of}
use Rattle.words.proofs.Theorem.{theorem}
use Rattle.state.specs.Model.{Model}
use Rattle.state.specs.Open.{table_bars}
use Rattle.state.specs.Refusals.{Bar, if, first_of}
use Rattle.state.proofs.Sequence.{or_else, first-append}
use Rattle.state.specs.declared.Refusal.{Refusal}
use Rattle.state.specs.declared.Refusal.TheVariants.{ShortList}
use Rattle.state.specs.Replies.{Reply, Counted}
use Rattle.state.specs.Counts.{counted_by, if_counted}
use Rattle.tables.specs.Calls.{check_call, count_call, list_bars, list_call, list_after, list_front}

-- an answer with a count has the sum of the ones, after a check that accepts; one without, its refusal
is-count : (r : Reply) (x c : ℕ) → counted_by x r ≡ Ok c → (r ≡ Ok tt) × (c ≡ x)
is-count (Ok _) x c e = (refl, cc)
is-count (Err r) x c e = let z : ◌≡◌ {A = ℕ} 0 1 = cc in absurd (omega arith)

is-refused : (r : Reply) (x : ℕ) (why : Refusal) → counted_by x r ≡ Err why → r ≡ Err why
is-refused (Ok _) x why e = let z : ◌≡◌ {A = ℕ} 0 1 = cc in absurd (omega arith)
is-refused (Err r) x why e = ap Err cc

module _ (M : Model) (ab : Hash) (t : List ℕ) where
  pub count_by : (r : Reply) → check_call M ab t ≡ r → count_call M ab t ≡ counted_by (count_of t) r
  count_by r e = ap (counted_by (count_of t)) e

  module _ (out : List ℕ) where
    -- the answer fixes the lent list and its front part
    module _ (a : Counted) (e : list_call M ab t out ≡ a) where
      pub listed-as : (l : List ℕ) → l ≡ if_counted a (filled t out) out → (a ≡ list_call M ab t out) × (l ≡ list_after M ab t out)
      listed-as l f = (sym e, f ∙ sym (ap (λ (a : Counted). if_counted a (filled t out) out) e))

      pub front-as : list_front M ab t out ≡ if_counted a (entries_of t) []
      front-as = ap (λ (a : Counted). if_counted a (entries_of t) []) e

    -- the check's refusals come first; where it accepts, the room decides
    pub list-by : (r : Reply) → check_call M ab t ≡ r
        → list_call M ab t out ≡ counted_by (count_of t) (or_else r (cond (ltb (length out) (count_of t)) (Err ShortList) (Ok tt)))
    list-by r e =
        let room : List Bar = if (ltb (length out) (count_of t)) ShortList ∷ [] in
        ap (counted_by (count_of t)) (first-append (table_bars M ab t) room ∙ ap (λ (a : Reply). or_else a (first_of room)) e)

    -- ---- by what count answers
    pub refused-alike : (why : Refusal) → count_call M ab t ≡ Err why → list_call M ab t out ≡ Err why
    refused-alike why e = list-by (Err why) (is-refused (check_call M ab t) (count_of t) why e)

    module _ (c : ℕ) (e : count_call M ab t ≡ Ok c) where
      counted-by : (check_call M ab t ≡ Ok tt) × (c ≡ count_of t)
      counted-by = is-count (check_call M ab t) (count_of t) c e

      pub short : length out < c → list_call M ab t out ≡ Err ShortList
      short h =
          let h' : length out < count_of t = omega (arith, counted-by.1) in
          list-by (Ok tt) counted-by.0 ∙ rw (lt-ltb (length out) (count_of t) h')

      pub full : c ≤ length out → list_call M ab t out ≡ Ok c
      full h =
          let h' : count_of t ≤ length out = omega (arith, counted-by.1) in
          list-by (Ok tt) counted-by.0 ∙ rw (le-ltb (length out) (count_of t) h', counted-by.1)

      pub room : c ≤ length out → count_of t ≤ length out
      room h = omega (arith, counted-by.1)

    -- ---- where the list call gave the count c and left the list l, its first c places are the entries
    module _ (c : ℕ) (l : List ℕ) (e : list_call M ab t out ≡ Ok c) (left : l ≡ list_after M ab t out) where
      counts : c ≡ length (entries_of t)
      counts = (is-count (first_of (list_bars M ab t out)) (count_of t) c e).1 ∙ (theorem t).count ∙ sym (theorem t).long

      pub front : take c l ≡ list_front M ab t out
      front =
          ap (take c) (left ∙ ap (λ (a : Counted). if_counted a (filled t out) out) e) ∙ take_at (entries_of t) (drop (occupied t) out) c (sym counts) ∙ sym (front-as (Ok c) e)

      pub front_length : c ≡ length (take c l)
      front_length = counts ∙ sym (ap length (front ∙ front-as (Ok c) e))
