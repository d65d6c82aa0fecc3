-- What the functions learn of a text by places: how the reading goes on behind a record, and that the orders dealt one by one are the call's.
use mathlib.Core.Path.{◌≡◌, refl, sym, ◌∙◌, ap}
use mathlib.Core.Bool.{true, false}
use mathlib.Core.List.{List, [], ◌∷◌}
use Prim.Native.Nat.{ℕ, ◌+◌, ◌≤◌, ◌<◌}
use native.Mathlib.Omega.{arith}
use borrow.Author.Tests.{lt-ltb, le-ltb}
use lib.Dec.{ltb}
use lib.ListN.{length, drop, length-drop, drop_of_length-le}
use lib.Seq.{drop-drop}
use Rattle.ring.proofs.Split.{by-lt}
use Rattle.ring.proofs.Tests.{by-test}
use Rattle.orders.specs.Orders.{order_with}
use Rattle.orders.specs.declared.Order.{Order}
use Rattle.state.specs.Counts.{counted_by, if_counted}
use Rattle.state.specs.Model.{Model, crew_ok}
use Rattle.state.specs.Refusals.{if, first_of}
use Rattle.state.specs.Replies.{Counted}
use Rattle.state.specs.declared.Refusal.{Refusal}
use Rattle.state.specs.declared.Refusal.TheVariants.{Crew, ShortList, BadRecord, BadField}
use Rattle.till.specs.declared.Begun.{Begun}
use Rattle.till.specs.declared.Record.{Record}
use Rattle.till.specs.declared.Bad.{Bad}
use Rattle.till.specs.declared.Bad.TheVariants.{Broken, Wrong}
use Rattle.std.specs.Prelude.{Result, Ok, Err}
use Rattle.till.specs.Till.{Line, line, Front, front_of, Reading, in_front, read_behind, reading_of, following, dealt, is_broken, is_wrong, lines_of, till_call, till_orders}
use Rattle.till.specs.Places.{placed, record_at, records_of, start, dealt_at, dealt_from, begun_by, begun_of}
use Rattle.till.specs.Refused.{refusal_of}
use Rattle.till.proofs.Fronts.{IsLine, front-is}
use Rattle.till.proofs.Reading.{read-end, read-broken, read-wrong, read-line, read_some, read_none}
use Rattle.till.proofs.Dealing.{length-dealt}

-- ---- the reading from a place on
abbrev pub read_from : List ℕ → ℕ → Reading
read_from text at = read_behind (drop at text) 0

pub from_end : (text : List ℕ) (at : ℕ) → length text ≤ at → read_from text at ≡ Reading.lines []
from_end text at h = rw (drop_of_length-le text h) (read-end 0)

-- by what is found there
is-broken : (f : Front) (at : ℕ) → Err Broken ≡ placed at f → f ≡ Front.broken
is-broken Front.broken at e = refl
is-broken Front.wrong at e = cc
is-broken (Front.front (line k p) n) at e = cc

is-wrong : (f : Front) (at : ℕ) → Err Wrong ≡ placed at f → f ≡ Front.wrong
is-wrong Front.broken at e = cc
is-wrong Front.wrong at e = refl
is-wrong (Front.front (line k p) n) at e = cc

is-line : (f : Front) (at : ℕ) (r : Record) → Ok r ≡ placed at f → (n : ℕ) × (f ≡ Front.front (line r.key r.price) n) × (r.next ≡ at + n)
is-line Front.broken at r e = cc
is-line Front.wrong at r e = cc
is-line (Front.front (line x y) n) at r e =
    let q : r ≡ record { key = x; price = y; next = at + n } = cc in
    (n, rw q, rw q)

module _ (text : List ℕ) (at : ℕ) (h : at < length text) where
  left : 0 < length (drop at text)
  left = omega (arith, length-drop at text)

  pub from-broken : Err Broken ≡ record_at text at → read_from text at ≡ Reading.broken
  from-broken e = read-broken (drop at text) left (is-broken (front_of (drop at text)) at e)

  pub from_wrong : Err Wrong ≡ record_at text at → read_from text at ≡ Reading.wrong
  from_wrong e = read-wrong (drop at text) left (is-wrong (front_of (drop at text)) at e)

  pub from-line : (r : Record) → Ok r ≡ record_at text at
      → (at < r.next) × (r.next ≤ length text) × (read_from text at ≡ in_front (line r.key r.price) (read_from text r.next))
  from-line r e =
      let (n, f, q) = is-line (front_of (drop at text)) at r e in
      let i : IsLine (drop at text) (line r.key r.price) n = rw f at (front-is (drop at text)) in (
        omega (arith, i.some),
        omega (arith, i.within, length-drop at text),
        read-line (drop at text) left f
            ∙ ap (λ (t : List ℕ). in_front (line r.key r.price) (read_behind t 0)) (drop-drop n at text ∙ ap (λ (j : ℕ). drop j text) (sym q)),
      )

-- ---- orders dealt one by one
front-lines : (l : Line) (r : Reading) (ls : List Line) → in_front l r ≡ Reading.lines ls → (us : List Line) × (r ≡ Reading.lines us) × (l ∷ us ≡ ls)
front-lines l Reading.broken ls e = cc
front-lines l Reading.wrong ls e = cc
front-lines l (Reading.lines us) ls e = (us, refl, (cc))

-- the record with which the lines go on
record Next (text : List ℕ) (at k p : ℕ) (ls : List Line) : Type 0 where
  next : ℕ
  found : record_at text at ≡ Ok (record { key = k; price = p; next = next })
  rest : read_from text next ≡ Reading.lines ls

module _ (text : List ℕ) (at k p : ℕ) (ls : List Line) (e : read_from text at ≡ Reading.lines (line k p ∷ ls)) where
  more_left : at < length text
  more_left = by-lt at (length text) (λ h. h) (λ h. let z : Reading.lines [] ≡ Reading.lines (line k p ∷ ls) = sym (from_end text at h) ∙ e in cc)

  next-by : (r : Result Record Bad) → record_at text at ≡ r → Next text at k p ls
  next-by (Err Broken) f = let z : Reading.broken ≡ Reading.lines (line k p ∷ ls) = sym (from-broken text at more_left (sym f)) ∙ e in cc
  next-by (Err Wrong) f = let z : Reading.wrong ≡ Reading.lines (line k p ∷ ls) = sym (from_wrong text at more_left (sym f)) ∙ e in cc
  next-by (Ok r) f =
      let g = (from-line text at more_left r (sym f)).2 in
      let (us, q, same) = front-lines (line r.key r.price) (read_from text r.next) (line k p ∷ ls) (sym g ∙ e) in
      let a : r.key ≡ k = cc in
      let b : r.price ≡ p = cc in
      let c : us ≡ ls = cc in
      record { next = r.next; found = f ∙ rw (← a, ← b); rest = q ∙ ap Reading.lines c }

dealt-lines : (m : ℕ) (text : List ℕ) (ls : List Line) (at w : ℕ) → read_from text at ≡ Reading.lines ls
    → dealt_from m text (record { at = at; worker = w }) (length ls) ≡ dealt m w ls
unfolding dealt_from dealt_at dealt
dealt-lines m text [] at w e = refl
dealt-lines m text (line k p ∷ ls) at w e =
    let n = next-by text at k p ls e (record_at text at) refl in
    rw n.found (ap (λ (os : List Order). order_with k p w ∷ os) (dealt-lines m text ls n.next (following m w) n.rest))

-- ---- the call by its refusals
-- what is known before the first order is written: so many orders from the start of the text on are those to write
pub record Ready (M : Model) (text : List ℕ) (m places : ℕ) (b : Begun) : Type 0 where
  pub counted : Ok b.lines ≡ till_call M text m places
  pub lines : b.lines ≡ length (till_orders M text m places)
  pub orders : dealt_from b.crew text start b.lines ≡ till_orders M text m places
  pub room : b.lines ≤ places

module _ (M : Model) (text : List ℕ) (m places : ℕ) where
  begun : (a : Counted) → till_call M text m places ≡ a → begun_by m a ≡ begun_of M text m places
  unfolding begun_of
  begun a e = rw e

  pub no_crew : crew_ok M m ≡ false → Err Crew ≡ begun_of M text m places
  no_crew e = begun (Err Crew) (rw e)

  module _ (crew : crew_ok M m ≡ true) where
    -- what the text's own reading leads to, with so many places
    abbrev by : Reading → Counted
    by r =
        counted_by (length (lines_of r))
        (first_of (if (is_broken r) BadRecord ∷ if (is_wrong r) BadField ∷ if (ltb places (length (lines_of r))) ShortList ∷ []))

    with-crew : till_call M text m places ≡ by (reading_of text)
    with-crew = rw crew

    refused-by : (r : Reading) (bad : Bad) → Err bad ≡ records_of r → by r ≡ Err (refusal_of bad)
    refused-by Reading.broken bad e = let q : bad ≡ Broken = cc in rw q
    refused-by Reading.wrong bad e = let q : bad ≡ Wrong = cc in rw q
    refused-by (Reading.lines ls) bad e = cc

    pub bad-text : (bad : Bad) → Err bad ≡ records_of (reading_of text) → Err (refusal_of bad) ≡ begun_of M text m places
    bad-text bad e = begun (Err (refusal_of bad)) (with-crew ∙ refused-by (reading_of text) bad e)

    lines-by : (r : Reading) (n : ℕ) → Ok n ≡ records_of r → (ls : List Line) × (r ≡ Reading.lines ls) × (n ≡ length ls)
    lines-by Reading.broken n e = cc
    lines-by Reading.wrong n e = cc
    lines-by (Reading.lines ls) n e = (ls, refl, (cc))

    module _ (n : ℕ) (e : Ok n ≡ records_of (reading_of text)) where
      pub too_short : places < n → Err ShortList ≡ begun_of M text m places
      too_short h =
          let (ls, r, q) = lines-by (reading_of text) n e in
          let s : places < length ls = omega arith in
          begun (Err ShortList) (with-crew ∙ ap by r ∙ rw (lt-ltb places (length ls) s))

      counts : n ≤ places → till_call M text m places ≡ Ok n
      counts h =
          let (ls, r, q) = lines-by (reading_of text) n e in
          let s : length ls ≤ places = omega arith in
          with-crew ∙ ap by r ∙ rw (le-ltb places (length ls) s, ← q)

      pub begun_all : n ≤ places → Ok (record { lines = n; crew = m }) ≡ begun_of M text m places
      begun_all h = begun (Ok n) (counts h)

      has_room : n ≤ places → Ready M text m places (record { lines = n; crew = m })
      has_room h =
          let (ls, r, q) = lines-by (reading_of text) n e in
          let orders : till_orders M text m places ≡ dealt m 0 ls =
          ap (λ (a : Counted). if_counted a (dealt m 0 (lines_of (reading_of text))) []) (counts h) ∙ ap (λ (x : Reading). dealt m 0 (lines_of x)) r in
          let from : read_from text 0 ≡ Reading.lines ls = sym (read_some text (some-text text ls r)) ∙ r in
          record {
            counted = sym (counts h);
            lines = q ∙ sym (length-dealt m 0 ls) ∙ sym (ap length orders);
            orders = ap (dealt_from m text start) q ∙ dealt-lines m text ls 0 0 from ∙ sym orders;
            room = h;
          }
        where
          some-text : (s : List ℕ) (ls : List Line) → reading_of s ≡ Reading.lines ls → 0 < length s
          some-text [] ls r = let z : Reading.broken ≡ Reading.lines ls = sym (read_none [] refl) ∙ r in cc
          some-text (b ∷ s) ls r = omega arith

  -- a refusal writes nothing
  refusal-by : (q : Refusal) (a : Counted) → Err q ≡ begun_by m a → Err q ≡ a
  refusal-by q (Ok n) e = cc
  refusal-by q (Err r) e = cc

  pub refused : (q : Refusal) → Err q ≡ begun_of M text m places → Err q ≡ till_call M text m places
  unfolding begun_of
  refused q e = refusal-by q (till_call M text m places) e

  pub none : (q : Refusal) → Err q ≡ begun_of M text m places → till_orders M text m places ≡ []
  none q e = ap (λ (a : Counted). if_counted a (dealt m 0 (lines_of (reading_of text))) []) (sym (refused q e))

  -- what is written otherwise
  ready-by : crew_ok M m ≡ true → (b : Begun) → Ok b ≡ begun_of M text m places → (a : Result ℕ Bad) → a ≡ records_of (reading_of text) → Ready M text m places b
  ready-by crew b e (Err bad) r = let z : Ok b ≡ Err (refusal_of bad) = e ∙ sym (bad-text crew bad r) in cc
  ready-by crew b e (Ok n) r = by-lt places n
      (λ h. let z : Ok b ≡ Err ShortList = e ∙ sym (too_short crew n r h) in cc)
      (λ h.
      let z : Ok b ≡ Ok (record { lines = n; crew = m }) = e ∙ sym (begun_all crew n r h) in
      let same : b ≡ record { lines = n; crew = m } = cc in
      rw same (has_room crew n r h))

  pub ready : (b : Begun) → Ok b ≡ begun_of M text m places → Ready M text m places b
  ready b e = by-test (crew_ok M m)
      (λ crew. ready-by crew b e (records_of (reading_of text)) refl)
      (λ crew. let z : Ok b ≡ Err Crew = e ∙ sym (no_crew crew) in cc)
