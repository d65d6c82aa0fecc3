-- Lines as they are written: what is read of each, and which lines are in none of the forms.
use mathlib.Core.Path.{◌≡◌, refl, sym, ap, ◌∙◌}
use mathlib.Core.Logic.{inl, inr}
use mathlib.Core.List.{List, [], ◌∷◌, ◌++◌, map, append-nil}
use Prim.Native.Nat.{ℕ, zero, suc, ◌≤◌}
use Prim.Native.String.{String}
use native.Mathlib.Omega.{arith}
use lib.Dec.{eqb}
use lib.ListN.{length, get_or, take}
use Rattle.text.specs.Bytes.{bytes_of, byte_at}
use Rattle.text.specs.Digits.{digits_of}
use Rattle.text.specs.Fields.{first_field, joined}
use Rattle.text.proofs.Bytes.{byte-here, byte-later}
use Rattle.text.proofs.Fields.{first_field_lem, first-here, first-later, first-whole, joined-fields}
use Rattle.std.specs.Prelude.{Option, None, Some, IsSome, is_some}
use Rattle.std.proofs.lemmas.Option.{same_Some}
use Rattle.text.proofs.Test.{by-test}
use Rattle.lines.specs.Grammar.{word_of, most_numbers, padded, numbered, reading_of}
use Rattle.lines.specs.Promise.{Says}
use Rattle.lines.specs.Text.{numbers_in, Readable}
use Rattle.lines.specs.declared.Command.{Command}
use Rattle.lines.specs.declared.Line.{Line}
use Rattle.lines.specs.declared.Numbers.{Numbers}
use Rattle.lines.proofs.Lists.{numbers-in}
use Rattle.lines.proofs.Theorem.{lines-promise}
use Rattle.lines.proofs.Words.{by-option, tabless-word}
use Rattle.fitting.specs.Fitting.{row_of, taken_by}
use Rattle.fitting.proofs.Fitting.{taken-parts}
use Rattle.sheet.specs.Promise.{line, greatest, InRange, Form, form, numbers_text, FirstIs, WrittenIn, Unreadable}

-- ---- the form of a command in a shift of kind k, whatever number c of items is kept
abbrev pub name_of : Command → String
name_of Command.Cells = "cells"
name_of Command.Open = "open"
name_of Command.Item = "item"
name_of Command.Order = "order"
name_of Command.Turn = "turn"
name_of Command.Run = "run"
name_of Command.Close = "close"
name_of Command.List = "list"

abbrev pub form_of : (k c : ℕ) → Command → Form
form_of k c d = form (name_of d) (row_of k c d).takes

pub same_word : (c : Command) → bytes_of (name_of c) ≡ word_of c
unfolding bytes_of
same_word Command.Cells = refl
same_word Command.Open = refl
same_word Command.Item = refl
same_word Command.Order = refl
same_word Command.Turn = refl
same_word Command.Run = refl
same_word Command.Close = refl
same_word Command.List = refl

-- an unreadable line is not in it
no-form : (k c : ℕ) (d : Command) (l : List ℕ) → Unreadable k l → WrittenIn (form_of k c d) l → ⊥
no-form k c Command.Cells l u = u.0
no-form k c Command.Open l u = u.1.0
no-form k c Command.Item l u = u.1.1.0
no-form k c Command.Order l u = u.1.1.1.0
no-form k c Command.Turn l u = u.1.1.1.1.0
no-form k c Command.Run l u = u.1.1.1.1.1.0
no-form k c Command.Close l u = u.1.1.1.1.1.1.0
no-form k c Command.List l u = u.1.1.1.1.1.1.1.0

-- ---- what is read of a line in a form
pub line-joined : (word : List ℕ) (ns : List ℕ) → word ++ numbers_text ns ≡ joined (word ∷ map digits_of ns)
unfolding bytes_of
line-joined word [] = append-nil word
line-joined word (n ∷ ns) = rw (line-joined (digits_of n) ns)

in-range : (ns : List ℕ) → InRange ns → (i : ℕ) → get_or ns i 0 ≤ greatest
in-range [] r i = omega arith
in-range (n ∷ ns) r zero = r.0
in-range (n ∷ ns) r (suc i) = in-range ns r.1 i

abbrev pub line_with : Command → List ℕ → Line
line_with c ns = record { command = Some c; numbers = Some (numbered ns) }

pub read-line : (c : Command) (ns : List ℕ) → length ns ≤ most_numbers → InRange ns
    → reading_of (line (name_of c) ns) ≡ line_with c ns
read-line c ns few r =
    let e : take (length ns) (padded ns) ≡ ns = numbers-in ns in
    let readable : Readable (line_with c ns) = record { command = refl; few = rw e few; range = rw e (in-range ns r); zeros = rw e } in
    rw (same_word, line-joined) (rw e at (lines-promise.read_back (line_with c ns) readable))

-- ---- and back: a line whose numbers fit its command is in the command's form
range-of : (ns : List ℕ) → ((i : ℕ) → get_or ns i 0 ≤ greatest) → InRange ns
range-of [] h = tt
range-of (n ∷ ns) h = (h 0, range-of ns (λ i. h (suc i)))

module _ (l : List ℕ) where
  abbrev read : Line
  read = reading_of l

  pub fits-form : (k c : ℕ) (d : Command) → read.command ≡ Some d → (vs : List ℕ) → taken_by (row_of k c d) read.numbers ≡ Some vs → WrittenIn (form_of k c d) l
  fits-form k c d is vs f =
      let (n, q, count, _) = taken-parts (row_of k c d) read.numbers vs f in
      let some : IsSome read.numbers = ap (λ (o : Option Numbers). is_some o) q in
      let readable : Readable read = (lines-promise.reading l).readable some in
      let same : n ≡ numbered (numbers_in read) = same_Some _ _ (sym q ∙ readable.zeros) in
      record {
        numbers = numbers_in read;
        count = ap (λ (x : Numbers). x.count) (sym same) ∙ count;
        range = range-of (numbers_in read) readable.range;
        text = sym ((lines-promise.reading l).canonical some) ∙ rw (is, same_word, line-joined);
      }

  pub unreadable-fits : (k c : ℕ) → Unreadable k l → (d : Command) → read.command ≡ Some d → taken_by (row_of k c d) read.numbers ≡ None
  unreadable-fits k c u d is = by-option (taken_by (row_of k c d) read.numbers)
      (λ vs f. absurd (no-form k c d l u (fits-form k c d is vs f)))
      (λ e. e)

-- ---- the first field says the command
-- a word without a tab is cut off at the tab behind it
before-tab : (w rest : List ℕ) → byte_at 9 w ≡ length w → first_field (w ++ 9 ∷ rest) ≡ w
before-tab [] rest h = first-here 9 rest refl
before-tab (b ∷ w) rest h = by-test (eqb b 9)
    (λ e. absurd (omega (arith, byte-here 9 b w e)))
    (λ e. first-later b (w ++ 9 ∷ rest) e ∙ ap (λ (x : List ℕ). b ∷ x) (before-tab w rest (omega (arith, byte-later 9 b w e))))

pub first-is : (f l : List ℕ) → byte_at 9 f ≡ length f → FirstIs f l → first_field l ≡ f
unfolding bytes_of
first-is f l h (inl e) = rw e (first-whole f h)
first-is f l h (inr p) = rw p.1 (before-tab f p.0 h)

is-first : (f l : List ℕ) (fs : List (List ℕ)) → l ≡ joined (f ∷ fs) → FirstIs f l
unfolding bytes_of
is-first f l [] e = inl e
is-first f l (g ∷ fs) e = inr (joined (g ∷ fs), e)

-- the word of a line is its first field
pub order-first : (ns : List ℕ) → FirstIs (bytes_of "order") (line "order" ns)
order-first ns = is-first (bytes_of "order") (line "order" ns) (map digits_of ns) (line-joined (bytes_of "order") ns)

module _ (l : List ℕ) (c : Command) where
  said : Says (first_field l) (reading_of l).command
  said = (lines-promise.reading l).command (first_field l) (first_field_lem l).0 (first_field_lem l).1

  pub first_says : FirstIs (bytes_of (name_of c)) l → (reading_of l).command ≡ Some c
  first_says e = said.says c (first-is (word_of c) l (tabless-word c) (rw same_word at e))

  pub says_first : (reading_of l).command ≡ Some c → FirstIs (bytes_of (name_of c)) l
  says_first e =
      let w : first_field l ≡ word_of c = said.word c e in
      rw (same_word, ← w) (is-first (first_field l) l (first_field_lem l).0 (sym (joined-fields l) ∙ ap joined (first_field_lem l).1))
