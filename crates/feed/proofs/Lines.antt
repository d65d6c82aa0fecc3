-- The lines of an input, and a line as a stretch of bytes without a newline.
use mathlib.Core.Path.{◌≡◌, refl, sym, ap, ap₂, ◌∙◌}
use mathlib.Core.Bool.{false}
use mathlib.Core.List.{List, [], ◌∷◌, ◌++◌, append_assoc, append-nil}
use Prim.Native.Nat.{ℕ, suc, ◌≤◌, ◌<◌}
use native.Mathlib.Omega.{arith}
use lib.ListN.{length, take, length-take}
use lib.Seq.{take_all, take-suc}
use lib.Dec.{eqb}
use borrow.Author.Tests.{eqb-true, eqb-false, ne_eqb, eq-eqb}
use Rattle.text.specs.Bytes.{byte_at}
use Rattle.text.specs.Fields.{in_front}
use Rattle.lines.specs.Grammar.{kept_bytes}
use Rattle.text.proofs.Bytes.{byte-nil, byte-here, byte-later, byte-found}
use Rattle.text.proofs.Test.{by-test}
use Rattle.feed.specs.Feed.{Kept, behind_line, line_output, with_byte, fed, printed}
use Rattle.feed.specs.Promise.{Plain, AllPlain, written}
use Rattle.feed.specs.Whole.{lines_of}
use Rattle.feed.proofs.Parts.{front-more, fed-append, printed-append, behind-newline, newline-output, behind-byte, byte-output}

-- ---- the first newline
at-newline : (b : ℕ) (bs : List ℕ) → b ≡ 10 → byte_at 10 (b ∷ bs) ≡ 0
at-newline b bs e = byte-here 10 b bs (eq-eqb b 10 e)

at_other : (b : ℕ) (bs : List ℕ) → (b ≡ 10 → ⊥) → byte_at 10 (b ∷ bs) ≡ suc (byte_at 10 bs)
at_other b bs e = byte-later 10 b bs (ne_eqb b 10 e)

-- a list without a newline: its first byte and the others
plain-first : (b : ℕ) (bs : List ℕ) → Plain (b ∷ bs) → b ≡ 10 → ⊥
plain-first b bs h e = omega (arith, at-newline b bs e)

plain-rest : (b : ℕ) (bs : List ℕ) → Plain (b ∷ bs) → Plain bs
plain-rest b bs h = omega (arith, at_other b bs (plain-first b bs h))

plain_more : (b : ℕ) (bs : List ℕ) → (b ≡ 10 → ⊥) → Plain bs → Plain (b ∷ bs)
plain_more b bs e h = at_other b bs e ∙ ap suc h

none-plain : Plain []
none-plain = byte-nil 10

-- up to its first newline a list has none, and there it has one
one-front : (b : ℕ) (bs : List ℕ) → Plain (take (byte_at 10 bs) bs) → Plain (take (byte_at 10 (b ∷ bs)) (b ∷ bs))
one-front b bs h = by-test (eqb b 10)
    (λ t. rw (at-newline b bs (eqb-true b 10 t)) none-plain)
    (λ t. rw (at_other b bs (eqb-false b 10 t)) (plain_more b _ (eqb-false b 10 t) h))

pub front-plain : (bs : List ℕ) → Plain (take (byte_at 10 bs) bs)
unfolding byte_at
front-plain [] = refl
front-plain (b ∷ bs) = one-front b bs (front-plain bs)

-- ---- the lines that are written
pub lines-newline : (b : ℕ) (bs : List ℕ) → b ≡ 10 → lines_of (b ∷ bs) ≡ [] ∷ lines_of bs
unfolding lines_of
lines-newline b bs e = rw (eq-eqb b 10 e)

pub lines-byte : (b : ℕ) (bs : List ℕ) → (b ≡ 10 → ⊥) → lines_of (b ∷ bs) ≡ in_front b (lines_of bs)
unfolding lines_of
lines-byte b bs e = rw (ne_eqb b 10 e)

one_line_lem : (l rest : List ℕ) → Plain l → lines_of (l ++ 10 ∷ rest) ≡ l ∷ lines_of rest
one_line_lem [] rest h = lines-newline 10 rest refl
one_line_lem (b ∷ l) rest h = lines-byte b (l ++ 10 ∷ rest) (plain-first b l h) ∙ ap (in_front b) (one_line_lem l rest (plain-rest b l h))

no_lines : lines_of [] ≡ []
unfolding lines_of
no_lines = refl

open-line : (b : ℕ) (l : List ℕ) → Plain (b ∷ l) → lines_of (b ∷ l) ≡ (b ∷ l) ∷ []
open-line b [] h = lines-byte b [] (plain-first b [] h) ∙ ap (in_front b) no_lines
open-line b (c ∷ l) h = lines-byte b (c ∷ l) (plain-first b (c ∷ l) h) ∙ ap (in_front b) (open-line c l (plain-rest b (c ∷ l) h))

pub written-lines : (ls : List (List ℕ)) → AllPlain ls → lines_of (written ls) ≡ ls
unfolding written
written-lines [] h = no_lines
written-lines (l ∷ ls) h = one_line_lem l (written ls) h.0 ∙ ap (◌∷◌ l) (written-lines ls h.1)

last-open : (l : List ℕ) → Plain l → 0 < length l → lines_of l ≡ l ∷ []
last-open [] h some = absurd (omega arith)
last-open (b ∷ l) h some = open-line b l h

pub last_written : (ls : List (List ℕ)) (l : List ℕ) → AllPlain ls → Plain l → 0 < length l → lines_of (written ls ++ l) ≡ ls ++ l ∷ []
unfolding written
last_written [] l h p some = last-open l p some
last_written (x ∷ ls) l h p some =
    ap lines_of (append_assoc x (10 ∷ written ls) l) ∙ one_line_lem x (written ls ++ l) h.0 ∙ ap (◌∷◌ x) (last_written ls l h.1 p some)

-- ---- a replay that goes on, with the first bytes of a line
abbrev pub with_line : Kept → List ℕ → Kept
with_line k l = record { state = k.state; number = k.number; line = l; ended = k.ended }

-- bytes without a newline make the line longer and print nothing
pub fed-plain : (bs : List ℕ) (k : Kept) → k.ended ≡ false → length k.line ≤ kept_bytes → Plain bs → fed k bs ≡ with_line k (take kept_bytes (k.line ++ bs))
unfolding fed
fed-plain [] k goes few h = ap (with_line k) (sym (ap (take kept_bytes) (append-nil k.line) ∙ take_all kept_bytes k.line few))
fed-plain (b ∷ bs) k goes few h =
    ap (λ (x : Kept). fed x bs) (behind-byte k goes b (plain-first b bs h))
    ∙ fed-plain bs (with_byte k b) goes (rw (length-take kept_bytes (k.line ++ b ∷ [])) (omega arith)) (plain-rest b bs h)
    ∙ ap (with_line k) (front-more kept_bytes (k.line ++ b ∷ []) bs ∙ ap (take kept_bytes) (append_assoc k.line (b ∷ []) bs))

pub printed-plain : (bs : List ℕ) (k : Kept) → k.ended ≡ false → Plain bs → printed k bs ≡ []
unfolding printed
printed-plain [] k goes h = refl
printed-plain (b ∷ bs) k goes h =
    ap₂ (λ (x : List ℕ) (y : Kept). x ++ printed y bs) (byte-output k goes b (plain-first b bs h)) (behind-byte k goes b (plain-first b bs h))
    ∙ printed-plain bs (with_byte k b) goes (plain-rest b bs h)

-- bytes up to the first newline and the newline answer the line
module _ (bs : List ℕ) (k : Kept) (goes : k.ended ≡ false) (few : length k.line ≤ kept_bytes) (some : byte_at 10 bs < length bs) where
  abbrev end : ℕ
  end = byte_at 10 bs

  abbrev full : Kept
  full = with_line k (take kept_bytes (k.line ++ take end bs))

  cut : take (suc end) bs ≡ take end bs ++ 10 ∷ []
  cut = take-suc bs end 0 some ∙ ap (λ (b : ℕ). take end bs ++ b ∷ []) (byte-found 10 bs some)

  until : fed k (take end bs) ≡ full
  until = fed-plain (take end bs) k goes few (front-plain bs)

  pub line-fed : fed k (take (suc end) bs) ≡ behind_line full
  unfolding fed
  line-fed = ap (fed k) cut ∙ fed-append k (take end bs) (10 ∷ []) ∙ ap (λ (x : Kept). fed x (10 ∷ [])) until ∙ behind-newline full goes 10 refl

  pub line-printed : printed k (take (suc end) bs) ≡ line_output full
  unfolding printed
  line-printed =
      ap (printed k) cut
      ∙ printed-append k (take end bs) (10 ∷ [])
      ∙ ap₂ (λ (x : List ℕ) (y : Kept). x ++ printed y (10 ∷ [])) (printed-plain (take end bs) k goes (front-plain bs)) until
      ∙ ap (λ (x : List ℕ). x ++ []) (newline-output full goes 10 refl)
      ∙ append-nil (line_output full)
