-- The promises on fitting a line.
use mathlib.Core.Path.{◌≡◌, refl, sym, ap, ◌∙◌}
use mathlib.Core.Logic.{◌≢◌}
use mathlib.Core.Bool.{Bool, true, false}
use mathlib.Core.List.{List, [], ◌∷◌, ◌++◌, map}
use Prim.Native.Nat.{ℕ, zero, suc, ◌≤◌, ◌<◌}
use native.Mathlib.Omega.{arith}
use lib.ListN.{length, get_or, drop, length-append}
use lib.Seq.{get_or_at}
use borrow.Author.Tests.{ne_eqb, lt-ltb, le-ltb}
use Rattle.text.specs.Bytes.{same, bytes_of}
use Rattle.text.specs.Fields.{fields_of}
use Rattle.text.specs.Numbers.{digits, leads, value_from, is_number}
use Rattle.text.proofs.Test.{by-lt}
use Rattle.orders.specs.Orders.{blank}
use Rattle.std.specs.Prelude.{Option, None, Some, is_some}
use Rattle.std.proofs.lemmas.Option.{same_Some, slice_get-get_or, slice_get_past}
use Rattle.lines.specs.Grammar.{command_of, numbered, are_numbers, numbers_of, reading_of}
use Rattle.lines.specs.Text.{numbers_in}
use Rattle.lines.specs.declared.Command.{Command}
use Rattle.lines.specs.declared.Line.{Line}
use Rattle.lines.specs.declared.Numbers.{Numbers}
use Rattle.lines.proofs.Words.{by-option}
use Rattle.lines.proofs.Theorem.{lines-promise}
use Rattle.fitting.specs.Examples.{Tried, lines, AsTried, AllAsTried}
use Rattle.fitting.specs.Fitting.{most_items, order_numbers, item_handling, row_of, handling_in, reading_in}
use Rattle.fitting.specs.Promise.{Fitted, line_with, Opened, Itemed, Ordered, Placed, FittingPromise}
use Rattle.fitting.specs.declared.Handling.TheVariants.{Performed, Bad}
use Rattle.fitting.specs.declared.Task.{Task}
use Rattle.fitting.proofs.Fitting.{taken-parts, performs}

-- a line is read by its command's row
by_row : (k e c f : ℕ) (shut : Bool) (x : Line) → ((d : Command) → x.command ≡ Some d → row_of k c d ≡ row_of e f d) → reading_in k c shut x ≡ reading_in e f shut x
by_row k e c f shut x h = by-option x.command (λ d q. rw (q, h d q)) (λ q. rw q)

-- all kinds but one have the same rows
pub other-kind : (k : ℕ) → k ≢ 1 → order_numbers k ≡ 2
other-kind k h = rw (ne_eqb k 1 h)

pub same_rows : (k : ℕ) → k ≢ 1 → (c : ℕ) (d : Command) → row_of k c d ≡ row_of 2 c d
same_rows k h c Command.Cells = refl
same_rows k h c Command.Open = refl
same_rows k h c Command.Item = refl
same_rows k h c Command.Order = rw (other-kind k h)
same_rows k h c Command.Turn = refl
same_rows k h c Command.Run = refl
same_rows k h c Command.Close = refl
same_rows k h c Command.List = refl

same-reading : (k : ℕ) → k ≢ 1 → (c : ℕ) (shut : Bool) (x : Line) → reading_in k c shut x ≡ reading_in 2 c shut x
same-reading k h c shut x = by_row k 2 c c shut x (λ d _. same_rows k h c d)

-- ---- how many items are kept
room-left : (c : ℕ) → c < most_items → item_handling c ≡ Performed
room-left c h = rw (lt-ltb c most_items h)

no_room : (c : ℕ) → most_items ≤ c → item_handling c ≡ Bad
no_room c h = rw (le-ltb c most_items h)

-- it matters only to an item
same-items : (k c e : ℕ) (d : Command) → (d ≡ Command.Item → item_handling c ≡ item_handling e) → row_of k c d ≡ row_of k e d
same-items k c e Command.Cells h = refl
same-items k c e Command.Open h = refl
same-items k c e Command.Item h = rw (h refl)
same-items k c e Command.Order h = refl
same-items k c e Command.Turn h = refl
same-items k c e Command.Run h = refl
same-items k c e Command.Close h = refl
same-items k c e Command.List h = refl

same_kept : (k c e : ℕ) (shut : Bool) (x : Line) → (x.command ≡ Some Command.Item → item_handling c ≡ item_handling e) → reading_in k c shut x ≡ reading_in k e shut x
same_kept k c e shut x h = by_row k k c e shut x (λ d q. same-items k c e d (λ i. h (q ∙ ap Some i)))

no_item : (k c e : ℕ) (shut : Bool) (x : Line) → x.command ≢ Some Command.Item → reading_in k c shut x ≡ reading_in k e shut x
no_item k c e shut x h = same_kept k c e shut x (λ i. absurd (h i))

item_open : (k c : ℕ) (x : Line) → x.command ≡ Some Command.Item → reading_in k c false x ≡ None
item_open k c x e = rw e

item_full : (k c : ℕ) (shut : Bool) (x : Line) → x.command ≡ Some Command.Item → most_items ≤ c → reading_in k c shut x ≡ None
item_full k c true x e h = rw (e, no_room c h)
item_full k c false x e h = item_open k c x e

-- in an open shift it matters to no line
open_rows : (k c e : ℕ) (n : Option Numbers) (d : Command) → reading_in k c false (record { command = Some d; numbers = n }) ≡ reading_in k e false (record { command = Some d; numbers = n })
open_rows k c e n Command.Cells = refl
open_rows k c e n Command.Open = refl
open_rows k c e n Command.Item = refl
open_rows k c e n Command.Order = refl
open_rows k c e n Command.Turn = refl
open_rows k c e n Command.Run = refl
open_rows k c e n Command.Close = refl
open_rows k c e n Command.List = refl

open_kept : (k c e : ℕ) (x : Line) → reading_in k c false x ≡ reading_in k e false x
open_kept k c e x = by-option x.command (λ d q. rw q (open_rows k c e x.numbers d)) (λ q. rw q)

-- ---- an opening
open_open : (k c : ℕ) (x : Line) → x.command ≡ Some Command.Open → reading_in k c false x ≡ None
open_open k c x e = rw e

-- ---- a line that is carried out
not-bad : Bad ≡ Performed → ⊥
not-bad e = let z : ◌≡◌ {A = ℕ} 0 1 = cc in omega arith

item-performed : (c : ℕ) (shut : Bool) → handling_in shut (row_of 1 c Command.Item) ≡ Performed → (shut ≡ true) × (c < most_items)
item-performed c true h = by-lt c most_items (λ l. (refl, l)) (λ l. absurd (not-bad (sym (no_room c l) ∙ h)))
item-performed c false h = absurd (not-bad h)

open-performed : (shut : Bool) → handling_in shut (row_of 1 0 Command.Open) ≡ Performed → shut ≡ true
open-performed true h = refl
open-performed false h = absurd (not-bad h)

fitted : (k c : ℕ) (shut : Bool) (l : List ℕ) (d : Command) (ns : List ℕ) → reading_in k c shut (reading_of l) ≡ Some (Task.Perform d ns)
    → Fitted k c shut l d ns
fitted k c shut l d ns e =
    let x : Line = reading_of l in
    let (is, does, takes) = performs k c shut x d ns e in
    let (n, q, counted, valued) = taken-parts (row_of k c d) x.numbers ns takes in
    let readable : is_some x.numbers ≡ true = ap (λ (o : Option Numbers). is_some o) q in
    let same : n ≡ numbered (numbers_in x) = same_Some _ _ (sym q ∙ ((lines-promise.reading l).readable readable).zeros) in
    let many : length (numbers_in x) ≡ (row_of k c d).takes = ap (λ (m : Numbers). m.count) (sym same) ∙ counted in
    record {
      command = is;
      numbers = many;
      values = sym valued ∙ ap (λ (m : Numbers). m.values) same;
      canonical = (lines-promise.reading l).canonical readable;
      placed = λ o q. many ∙ rw (o, q);
      named = λ o q. many ∙ rw (o, other-kind k q);
      opens = λ o. many ∙ rw o;
      opens_shut = λ o. open-performed shut (rw o at does);
      item = λ i. many ∙ rw i;
      item_shut = λ i. (item-performed c shut (rw i at does)).0;
      item_room = λ i. (item-performed c shut (rw i at does)).1;
    }

-- ---- a line of a command and so many numbers
line_read : (d : Command) (ns : List ℕ) → length ns ≤ 4 → ((i : ℕ) → get_or ns i 0 ≤ 4294967295)
    → line_with d ns ≡ record { command = Some d; numbers = Some (numbered ns) }
line_read d ns few range = lines-promise.read_back _ (lines-promise.has_writing d ns few range)

in-range : (n : ℕ) → n ≤ 4294967295 → (ns : List ℕ) → ((i : ℕ) → get_or ns i 0 ≤ 4294967295) → (i : ℕ) → get_or (n ∷ ns) i 0 ≤ 4294967295
in-range n h ns r zero = h
in-range n h ns r (suc i) = r i

none : (i : ℕ) → get_or [] i 0 ≤ 4294967295
none i = omega arith

module _ (k m a b : ℕ) (x : k ≤ 4294967295) (y : m ≤ 4294967295) (z : a ≤ 4294967295) (u : b ≤ 4294967295) where
  open-line : line_with Command.Open (k ∷ m ∷ a ∷ b ∷ []) ≡ record { command = Some Command.Open; numbers = Some (numbered (k ∷ m ∷ a ∷ b ∷ [])) }
  open-line = line_read Command.Open (k ∷ m ∷ a ∷ b ∷ []) (omega arith)
      (in-range k x (m ∷ a ∷ b ∷ []) (in-range m y (a ∷ b ∷ []) (in-range a z (b ∷ []) (in-range b u [] none))))

  opened : Opened k m a b
  opened = record {
    taken = λ before c. rw open-line;
  }

module _ (w v p : ℕ) (a : w ≤ 4294967295) (b : v ≤ 4294967295) (c : p ≤ 4294967295) where
  item-line : line_with Command.Item (w ∷ v ∷ p ∷ []) ≡ record { command = Some Command.Item; numbers = Some (numbered (w ∷ v ∷ p ∷ [])) }
  item-line = line_read Command.Item (w ∷ v ∷ p ∷ []) (omega arith) (in-range w a (v ∷ p ∷ []) (in-range v b (p ∷ []) (in-range p c [] none)))

  itemed : Itemed w v p
  itemed = record {
    taken = λ k n h. rw item-line (rw (room-left n h));
  }

module _ (w v : ℕ) (a : w ≤ 4294967295) (b : v ≤ 4294967295) where
  named-line : line_with Command.Order (w ∷ v ∷ []) ≡ record { command = Some Command.Order; numbers = Some (numbered (w ∷ v ∷ [])) }
  named-line = line_read Command.Order (w ∷ v ∷ []) (omega arith) (in-range w a (v ∷ []) (in-range v b [] none))

  ordered : Ordered w v
  ordered = record {
    named = λ k c h. same-reading k h c false (line_with Command.Order (w ∷ v ∷ [])) ∙ rw named-line;
    named_aim = λ k h m os l. rw named-line (rw (ne_eqb k 1 h, lt-ltb w m l));
    named_past = λ k h m os l. rw named-line (rw (ne_eqb k 1 h, le-ltb w m l));
  }

module _ (i : ℕ) (a : i ≤ 4294967295) where
  placed-line : line_with Command.Order (i ∷ []) ≡ record { command = Some Command.Order; numbers = Some (numbered (i ∷ [])) }
  placed-line = line_read Command.Order (i ∷ []) (omega arith) (in-range i a [] none)

  placed : Placed i
  placed = record {
    placed = λ c. rw placed-line;
    placed_aim = λ before o behind e m h.
        let n : i < length (before ++ o ∷ behind) = omega (arith, length-append before (o ∷ behind)) in
        rw (placed-line, slice_get-get_or (before ++ o ∷ behind) i blank n, get_or_at before o behind blank i e, lt-ltb o.worker m h);
    placed_past = λ before o behind e m h.
        let n : i < length (before ++ o ∷ behind) = omega (arith, length-append before (o ∷ behind)) in
        rw (placed-line, slice_get-get_or (before ++ o ∷ behind) i blank n, get_or_at before o behind blank i e, le-ltb o.worker m h);
    past_aim = λ m os h. rw placed-line (rw (slice_get_past os i h));
  }

-- ---- the lines tried, computed for one of the other kinds, and for no items and as many as are kept
-- shut with room and without, open for put-in and for another kind: the line is read once for all four
abbrev Answers : Type 0
Answers = Option Task × Option Task × Option Task × Option Task

abbrev said : ℕ → Tried → Answers
said k t =
    let x = reading_of (bytes_of t.line) in
    (reading_in k 0 true x, reading_in k most_items true x, reading_in 1 0 false x, reading_in 2 0 false x)

-- what the table says of it
abbrev due : Tried → Answers
due t = (t.shut, t.full, t.insert, t.other)

one : (t : Tried) → ((k : ℕ) → said k t ≡ due t) → AsTried t
one t h =
    let x = reading_of (bytes_of t.line) in
    record {
      shut = λ k c l. same_kept k c 0 true x (λ i. room-left c l) ∙ ap (λ (a : Answers). a.0) (h k);
      full = λ k c l. same_kept k c most_items true x (λ i. no_room c l) ∙ ap (λ (a : Answers). a.1) (h k);
      insert = λ c. open_kept 1 c 0 x ∙ ap (λ (a : Answers). a.2) (h 1);
      other = λ k c n. same-reading k n c false x ∙ open_kept 2 c 0 x ∙ ap (λ (a : Answers). a.3) (h 2);
    }

-- both computed for the whole table
each : (ts : List Tried) → ((k : ℕ) → map (said k) ts ≡ map due ts) → AllAsTried ts
each [] h = tt
each (t ∷ ts) h = (one t (λ k. ap (λ (l : List Answers). get_or l 0 (due t)) (h k)), each ts (λ k. ap (drop 1) (h k)))

as_tried : AllAsTried lines
unfolding bytes_of reading_of command_of same numbers_of are_numbers is_number value_from leads digits fields_of
as_tried = each lines (λ k. refl)

pub fitting-promise : FittingPromise
fitting-promise = record {
  fitted = fitted;
  opened = opened;
  itemed = itemed;
  ordered = ordered;
  placed = placed;
  open_open = open_open;
  item_open = item_open;
  item_full = item_full;
  no_item = no_item;
  as_tried = as_tried;
}
