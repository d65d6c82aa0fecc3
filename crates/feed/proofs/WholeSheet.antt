-- The whole input, fed in parts, prints the output of the sheet.
use mathlib.Core.Path.{◌≡◌, refl, sym, ap, ap₂, ◌∙◌}
use mathlib.Core.Bool.{Bool, true, false, cond}
use mathlib.Core.List.{List, [], ◌∷◌, ◌++◌, append_assoc, append-nil}
use Prim.Native.Nat.{ℕ, suc}
use native.Mathlib.Omega.{arith}
use lib.ListN.{length, take}
use lib.Dec.{eqb}
use borrow.Author.Tests.{eqb-true, eqb-false, ne_eqb}
use Rattle.text.specs.Fields.{in_front}
use Rattle.lines.specs.Grammar.{reading_of, kept_bytes}
use Rattle.text.proofs.Test.{by-test}
use Rattle.lines.proofs.Theorem.{lines-promise}
use Rattle.sheet.specs.Replay.{State, Answer, answer_of, rendered}
use Rattle.feed.specs.Feed.{Kept, begin, longer, answer_to, behind_line, line_output, with_byte, behind, byte_output, fed, printed, last_output, replayed, concatenated}
use Rattle.feed.specs.Whole.{lines_of, printed_from, output_of}
use Rattle.feed.proofs.Lines.{lines-newline, lines-byte}
use Rattle.feed.proofs.Parts.{front-more, fed-append, printed-append, ended-output, behind-newline, newline-output, behind-byte, byte-output}

-- ---- the bytes p of an unfinished line in front of what follows
with_front : List ℕ → List (List ℕ) → List (List ℕ)
with_front [] ls = ls
with_front (b ∷ p) ls = in_front b (with_front p ls)

front-whole : (p : List ℕ) (ls : List (List ℕ)) → with_front p ([] ∷ ls) ≡ p ∷ ls
unfolding with_front
front-whole [] ls = refl
front-whole (b ∷ p) ls = ap (in_front b) (front-whole p ls)

front-byte : (p : List ℕ) (b : ℕ) (ls : List (List ℕ)) → with_front p (in_front b ls) ≡ with_front (p ++ b ∷ []) ls
unfolding with_front
front-byte [] b ls = refl
front-byte (x ∷ p) b ls = ap (in_front x) (front-byte p b ls)

front-last : (b : ℕ) (p : List ℕ) → with_front (b ∷ p) [] ≡ (b ∷ p) ∷ []
unfolding with_front
front-last b [] = refl
front-last b (x ∷ p) = ap (in_front b) (front-last x p)

-- ---- the bytes kept of it are enough
pub answer-front : (k : Kept) (p : List ℕ) → k.line ≡ take kept_bytes p → answer_to k ≡ answer_of k.state (reading_of p)
answer-front k p e = ap (λ (l : List ℕ). answer_of k.state (reading_of l)) e ∙ ap (answer_of k.state) (lines-promise.reading p).front

-- ---- the end
pub last_none : (k : Kept) → k.ended ≡ false → k.line ≡ [] → last_output k ≡ []
unfolding last_output
last_none k goes e = rw (goes, e)

pub last_some : (k : Kept) → k.ended ≡ false → (length k.line ≡ 0 → ⊥) → last_output k ≡ line_output k
unfolding last_output
last_some k goes e =
    let n : eqb (length k.line) 0 ≡ false = ne_eqb (length k.line) 0 e in
    rw (goes, n)

-- ---- all that follows
pub one_line_lem : (s : State) (n : ℕ) (l : List ℕ) (ls : List (List ℕ))
    → printed_from s n (l ∷ ls) ≡ rendered n (answer_of s (reading_of l)) ++ cond (answer_of s (reading_of l)).ended [] (printed_from (answer_of s (reading_of l)).state (suc n) ls)
unfolding printed_from
one_line_lem s n l ls = refl

pub no_line : (s : State) (n : ℕ) → printed_from s n [] ≡ []
unfolding printed_from
no_line s n = refl

pub cond_same : {A : Type 0} (b : Bool) (x : A) → cond b x x ≡ x
cond_same true x = refl
cond_same false x = refl

at-end : (k : Kept) (p : List ℕ) → k.ended ≡ false → k.line ≡ take kept_bytes p → last_output k ≡ printed_from k.state (suc k.number) (with_front p [])
unfolding with_front kept_bytes
at-end k [] goes e = last_none k goes e ∙ sym (no_line _ _)
at-end k (x ∷ p) goes e =
    last_some k goes (rw e (omega arith))
    ∙ ap (rendered (suc k.number)) (answer-front k (x ∷ p) e)
    ∙ sym (rw (front-last x p, one_line_lem, no_line, cond_same, append-nil))

-- what is printed from now on
abbrev output : Kept → List ℕ → List ℕ
output k bs = printed k bs ++ last_output (fed k bs)

output-byte : (k : Kept) (b : ℕ) (bs : List ℕ) → output k (b ∷ bs) ≡ byte_output k b ++ output (behind k b) bs
unfolding fed printed
output-byte k b bs = append_assoc (byte_output k b) (printed (behind k b) bs) (last_output (fed (behind k b) bs))

abbrev Follows : List ℕ → Type 0
Follows bs = (k : Kept) (p : List ℕ) → k.ended ≡ false → k.line ≡ take kept_bytes p → output k bs ≡ printed_from k.state (suc k.number) (with_front p (lines_of bs))

one_byte : (b : ℕ) (bs : List ℕ) → Follows bs → Follows (b ∷ bs)
unfolding with_front kept_bytes
one_byte b bs next k p goes e = by-test (eqb b 10) newline other
  where
    all : output (behind_line k) bs ≡ cond (answer_to k).ended [] (printed_from (answer_to k).state (suc (suc k.number)) (lines_of bs))
    all = by-test (answer_to k).ended (λ f. ended-output (behind_line k) f bs ∙ sym (rw f)) (λ f. next (behind_line k) [] f refl ∙ sym (rw f))

    newline : eqb b 10 ≡ true → output k (b ∷ bs) ≡ printed_from k.state (suc k.number) (with_front p (lines_of (b ∷ bs)))
    newline t =
        let n : b ≡ 10 = eqb-true b 10 t in
        output-byte k b bs
        ∙ ap₂ (λ (x : List ℕ) (y : Kept). x ++ output y bs) (newline-output k goes b n) (behind-newline k goes b n)
        ∙ ap (λ (x : List ℕ). line_output k ++ x) all
        ∙ ap (λ (a : Answer). rendered (suc k.number) a ++ cond a.ended [] (printed_from a.state (suc (suc k.number)) (lines_of bs))) (answer-front k p e)
        ∙ sym (one_line_lem k.state (suc k.number) p (lines_of bs))
        ∙ ap (printed_from k.state (suc k.number)) (sym (ap (with_front p) (lines-newline b bs n) ∙ front-whole p (lines_of bs)))

    other : eqb b 10 ≡ false → output k (b ∷ bs) ≡ printed_from k.state (suc k.number) (with_front p (lines_of (b ∷ bs)))
    other t =
        let n : b ≡ 10 → ⊥ = eqb-false b 10 t in
        output-byte k b bs
        ∙ ap₂ (λ (x : List ℕ) (y : Kept). x ++ output y bs) (byte-output k goes b n) (behind-byte k goes b n)
        ∙ next (with_byte k b) (p ++ b ∷ []) goes (ap (λ (l : List ℕ). longer l b) e ∙ front-more kept_bytes p (b ∷ []))
        ∙ ap (printed_from k.state (suc k.number)) (sym (ap (with_front p) (lines-byte b bs n) ∙ front-byte p b (lines_of bs)))

follows : (bs : List ℕ) → Follows bs
unfolding fed printed lines_of
follows [] = at-end
follows (b ∷ bs) = one_byte b bs (follows bs)

pub whole-sheet : (input : List ℕ) → printed begin input ++ last_output (fed begin input) ≡ output_of input
unfolding output_of with_front kept_bytes
whole-sheet input = follows input begin [] refl refl

-- ---- in parts
one-part : (k : Kept) (a b x : List ℕ) → x ≡ output (fed k a) b → printed k a ++ x ≡ output k (a ++ b)
one-part k a b x e =
    ap (λ (y : List ℕ). printed k a ++ y) e
    ∙ sym (append_assoc (printed k a) (printed (fed k a) b) (last_output (fed (fed k a) b)))
    ∙ sym (ap₂ (λ (y : List ℕ) (z : Kept). y ++ last_output z) (printed-append k a b) (fed-append k a b))

in_parts : (k : Kept) (ps : List (List ℕ)) → replayed k ps ≡ output k (concatenated ps)
unfolding replayed fed printed
in_parts k [] = refl
in_parts k (a ∷ ps) = one-part k a (concatenated ps) (replayed (fed k a) ps) (in_parts (fed k a) ps)

pub parts : (ps : List (List ℕ)) → replayed begin ps ≡ output_of (concatenated ps)
parts ps = in_parts begin ps ∙ whole-sheet (concatenated ps)

pub over-parts : (k : Kept) → k.ended ≡ true → (ps : List (List ℕ)) → replayed k ps ≡ []
over-parts k e ps = in_parts k ps ∙ ended-output k e (concatenated ps)
