-- What specs/Promise promises.
use Rattle.std.specs.Prelude.{Ok}
use mathlib.Core.Path.{◌≡◌, refl, sym, ◌∙◌, ap}
use mathlib.Core.Logic.{◌≢◌, ◌↔◌}
use mathlib.Core.Bool.{true, false}
use mathlib.Core.List.{List, [], ◌∷◌, map}
use Prim.Native.Nat.{ℕ, ◌+◌, ◌≤◌, ◌<◌}
use native.Mathlib.Omega.{arith}
use borrow.Author.Tests.{ltb-true, lt-ltb}
use lib.Dec.{ltb}
use lib.ListN.{length, get_or, length-map}
use Rattle.ring.proofs.Split.{by-lt, by-eq}
use Rattle.ring.proofs.Tests.{not_both, within-says}
use Rattle.orders.specs.Orders.{blank, orders_of}
use Rattle.orders.specs.declared.Order.{Order}
use Rattle.parallel.proofs.Lists.{orders-length}
use Rattle.state.specs.Counts.{count_number, count_value, counted_by, if_counted}
use Rattle.state.specs.Model.{Model, crew_ok}
use Rattle.state.specs.Refusals.{reply_number, first_of}
use Rattle.state.specs.declared.Refusal.TheVariants.{Crew, ShortList, BadRecord, BadField}
use Rattle.state.specs.Replies.{Reply}
use Rattle.state.proofs.Counts.{count-number, kept}
use Rattle.protocol.specs.Cases.{Decides}
use Rattle.protocol.specs.WellFormed.{Crew as CrewOf}
use Rattle.protocol.proofs.Chain.{Step, barring, wanting, decides, none-accepted}
use Rattle.till.specs.Till.{Line, Reading, reading_of, dealt, is_broken, is_wrong, lines_of, till_bars, till_call, till_orders, over, till_after}
use Rattle.till.specs.Promise.{Holds, Broken, Wrong, Short, till_cases, order_at, Answers, Fills, FillsThree, TillPromise}
use Rattle.till.proofs.Saying.{file-unbroken, broken-read, wrong-read, read-broken-is, read-wrong-is, holds_read, read-holds}
use Rattle.till.proofs.Dealing.{length-dealt, dealt-at, length_over, over-front, over-behind, over-three}

-- ---- the tests say what is wrong with a text
by-reading {ℓ} : {C : Type ℓ} (r : Reading) → (r ≡ Reading.broken → C) → (r ≡ Reading.wrong → C) → ((ls : List Line) → r ≡ Reading.lines ls → C) → C
by-reading Reading.broken f g h = f refl
by-reading Reading.wrong f g h = g refl
by-reading (Reading.lines ls) f g h = h ls refl

module _ (text : List ℕ) where
  broken-says : is_broken (reading_of text) ≡ true ↔ Broken text
  broken-says = (
    λ e. by-reading (reading_of text)
        (λ r. read-broken-is text r)
        (λ r. absurd (not_both false (rw r at e) refl))
        (λ ls r. absurd (not_both false (rw r at e) refl)),
    λ w. rw (broken-read text w),
  )

  wrong-says : is_wrong (reading_of text) ≡ true ↔ Wrong text
  wrong-says = (
    λ e. by-reading (reading_of text)
        (λ r. absurd (not_both false (rw r at e) refl))
        (λ r. read-wrong-is text r)
        (λ ls r. absurd (not_both false (rw r at e) refl)),
    λ w. rw (wrong-read text w),
  )

  short-says : (places : ℕ) → ltb places (length (lines_of (reading_of text))) ≡ true ↔ Short text places
  short-says places = (
    λ e. by-reading (reading_of text)
        (λ r. none (ap (λ (q : Reading). length (lines_of q)) r) e)
        (λ r. none (ap (λ (q : Reading). length (lines_of q)) r) e)
        (λ ls r.
        let l : places < length (lines_of (reading_of text)) = ltb-true places (length (lines_of (reading_of text))) e in
        let q : length (lines_of (reading_of text)) ≡ length ls = rw r in
        record { lines = ls; holds = read-holds text ls r; short = omega arith }),
    λ s. rw (holds_read text s.lines s.holds) (lt-ltb places (length s.lines) s.short),
  )
    where
      none : {C : Type 0} {n : ℕ} → n ≡ 0 → ltb places n ≡ true → C
      none {n = n} z e = absurd (omega (arith, ltb-true places n e))

-- ---- the answer
module _ (M : Model) (text : List ℕ) (m places : ℕ) where
  abbrev steps : List Step
  steps =
      wanting (crew_ok M m) (within-says M.fewest_workers M.most_workers m) Crew
      ∷ barring (is_broken (reading_of text)) (broken-says text) BadRecord
      ∷ barring (is_wrong (reading_of text)) (wrong-says text) BadField
      ∷ barring (ltb places (length (lines_of (reading_of text)))) (short-says text places) ShortList
      ∷ []

  abbrev reply : Reply
  reply = first_of (till_bars M text m places)

  abbrev number : ℕ
  number = count_number (till_call M text m places)

  is-number : number ≡ reply_number reply
  is-number = count-number (length (lines_of (reading_of text))) reply

  decided : Decides number (till_cases M text m places)
  decided = decides steps refl number is-number

  -- a call that is not refused
  record Passed : Type 0 where
    crew : CrewOf M m
    lines : List Line
    read : reading_of text ≡ Reading.lines lines
    room : length lines ≤ places

  passed : number ≡ 0 → Passed
  passed z =
      let (_, (_, (_, (_, (to, _))))) = decided in
      let ((((_, crew), unbroken), right), room) = to z in
      by-reading (reading_of text)
      (λ r. absurd (unbroken (read-broken-is text r)))
      (λ r. absurd (right (read-wrong-is text r)))
      (λ ls r. record {
        crew = crew;
        lines = ls;
        read = r;
        room = by-lt places (length ls) (λ l. absurd (room (record { lines = ls; holds = read-holds text ls r; short = l }))) (λ l. l);
      })

  accepted : number ≡ 0 → reply ≡ Ok tt
  accepted z = none-accepted reply (sym is-number ∙ z)

  passes : CrewOf M m × ((ls : List Line) × Holds text ls × (length ls ≤ places)) → number ≡ 0
  passes (crew, (ls, holds, room)) =
      let (_, (_, (_, (_, (_, from))))) = decided in
      let r = holds_read text ls holds in
      from (
        (
          ((tt, crew), λ w. let z : Reading.lines ls ≡ Reading.broken = sym r ∙ broken-read text w in cc),
          λ w. let z : Reading.lines ls ≡ Reading.wrong = sym r ∙ wrong-read text w in cc,
        ),
        λ s.
            let z : Reading.lines ls ≡ Reading.lines s.lines = sym r ∙ holds_read text s.lines s.holds in
            let q : ls ≡ s.lines = cc in
            omega (arith, s.short, ap length q),
      )

  counted : (ls : List Line) → Holds text ls → number ≡ 0 → count_value (till_call M text m places) ≡ length ls
  counted ls holds z =
      ap (λ (a : Reply). count_value (counted_by (length (lines_of (reading_of text))) a)) (accepted z)
      ∙ ap (λ (r : Reading). length (lines_of r)) (holds_read text ls holds)

  pub answers : Answers M text m places
  answers = record {
    decides = decided;
    accepts = (λ z. let p = passed z in (p.crew, (p.lines, read-holds text p.lines p.read, p.room)), passes);
    count = counted;
  }

  -- the orders that are written: those of the lines, or none
  orders-accepted : number ≡ 0 → (ls : List Line) → Holds text ls → till_orders M text m places ≡ dealt m 0 ls
  orders-accepted z ls holds =
      ap (λ (a : Reply). if_counted (counted_by (length (lines_of (reading_of text))) a) (dealt m 0 (lines_of (reading_of text))) []) (accepted z)
      ∙ ap (λ (r : Reading). dealt m 0 (lines_of r)) (holds_read text ls holds)

  orders-refused : number ≢ 0 → till_orders M text m places ≡ []
  orders-refused h = kept (till_call M text m places) (dealt m 0 (lines_of (reading_of text))) [] h

  -- there is room for them, and they are no more than the lines
  few : (length (till_orders M text m places) ≤ places) × ((ls : List Line) → Holds text ls → length (till_orders M text m places) ≤ length ls)
  few = by-eq number 0
      (λ z.
      let p = passed z in
      let e = ap length (orders-accepted z p.lines (read-holds text p.lines p.read)) in (
        omega (arith, e, length-dealt m 0 p.lines, p.room),
        λ ls holds. omega (arith, ap length (orders-accepted z ls holds), length-dealt m 0 ls),
      ))
      (λ h. let e = ap length (orders-refused h) in (omega arith, λ ls holds. omega arith))

-- ---- the lent list
module _ (M : Model) (text : List ℕ) (m : ℕ) (old : List Order) where
  abbrev written : List Order
  written = till_orders M text m (length old)

  orders : (ls : List Line) → Holds text ls → number M text m (length old) ≡ 0 → 0 < m → (i : ℕ) → i < length ls → get_or (till_after M text m old) i blank ≡ order_at ls m i
  orders ls holds z some i h =
      let e = orders-accepted M text m (length old) z ls holds in
      let l : i < length written = omega (arith, ap length e, length-dealt m 0 ls) in
      let start : 0 + i ≡ i = omega arith in
      over-front written old blank i l ∙ ap (λ (os : List Order). get_or os i blank) e ∙ dealt-at m 0 ls i some h ∙ rw start

  fills : Fills M text m old
  fills = record {
    answers = answers M text m (length old);
    orders = orders;
    behind = λ ls holds i h. over-behind written old blank i (omega (arith, (few M text m (length old)).1 ls holds));
    long = length_over written old (few M text m (length old)).0;
    refused = λ h. ap (λ (os : List Order). over os old) (orders-refused M text m (length old) h);
  }

-- ---- the same as three lists
module _ (M : Model) (text : List ℕ) (m : ℕ) (keys prices workers : List ℕ) where
  abbrev room : ℕ
  room = length (orders_of keys prices workers)

  abbrev three : List Order
  three = till_orders M text m room

  -- a list of something of each order over the front of another
  module _ (of : Order → ℕ) (old : List ℕ) where
    behind-one : (ls : List Line) → Holds text ls → (i : ℕ) → length ls ≤ i → get_or (over (map of three) old) i 0 ≡ get_or old i 0
    behind-one ls holds i h = over-behind (map of three) old 0 i (omega (arith, length-map three of, (few M text m room).1 ls holds))

    long-one : room ≤ length old → length (over (map of three) old) ≡ length old
    long-one h = length_over (map of three) old (omega (arith, length-map three of, (few M text m room).0))

    refused-one : number M text m room ≢ 0 → over (map of three) old ≡ old
    refused-one h = ap (λ (os : List Order). over (map of os) old) (orders-refused M text m room h)

  abbrev key : Order → ℕ
  key o = o.key

  abbrev price : Order → ℕ
  price o = o.price

  abbrev worker : Order → ℕ
  worker o = o.worker

  fills_three : FillsThree M text m keys prices workers
  fills_three =
      let e = orders-length keys prices workers in
      record {
        answers = answers M text m room;
        same = over-three three keys prices workers (few M text m room).0;
        behind = λ ls holds i h. (behind-one key keys ls holds i h, behind-one price prices ls holds i h, behind-one worker workers ls holds i h);
        long = (long-one key keys (omega arith), long-one price prices (omega arith), long-one worker workers (omega arith));
        refused = λ h. (refused-one key keys h, refused-one price prices h, refused-one worker workers h);
      }

-- a text holds one list of lines
one_list : (text : List ℕ) (ls ls' : List Line) → Holds text ls → Holds text ls' → ls ≡ ls'
one_list text ls ls' s s' = let e : Reading.lines ls ≡ Reading.lines ls' = sym (holds_read text ls s) ∙ holds_read text ls' s' in cc

-- and one thing is wrong with it at most
both-wrong : (text : List ℕ) → Broken text → Wrong text → ⊥
both-wrong text b w = let e : Reading.broken ≡ Reading.wrong = sym (broken-read text b) ∙ wrong-read text w in cc

pub till-promise : TillPromise
till-promise = record {
  one = one_list;
  apart = both-wrong;
  unbroken = λ text ps f b. file-unbroken text ps f (broken-read text b);
  fills = fills;
  three = fills_three;
}
