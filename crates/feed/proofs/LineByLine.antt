-- One line more at the end of a sheet.
use mathlib.Core.Path.{◌≡◌, refl, sym, ap, ◌∙◌}
use mathlib.Core.Bool.{Bool, true, false, ◌||◌}
use mathlib.Core.List.{List, [], ◌∷◌, ◌++◌, append_assoc, append-nil}
use Prim.Native.Nat.{ℕ, suc, ◌+◌, ◌<◌}
use native.Mathlib.Nat.{add-zero}
use native.Mathlib.Omega.{arith}
use lib.ListN.{length}
use Rattle.ring.proofs.Tests.{not_both}
use Rattle.text.proofs.Test.{by-test}
use Rattle.lines.specs.Grammar.{reading_of}
use Rattle.sheet.specs.Replay.{State, blank, answer_of, rendered}
use Rattle.feed.specs.Promise.{Plain, AllPlain, written, state_behind, ends_in}
use Rattle.feed.specs.Whole.{lines_of, printed_from, output_of}
use Rattle.feed.proofs.Lines.{written-lines, last_written}
use Rattle.feed.proofs.WholeSheet.{one_line_lem, no_line, cond_same}

-- lines without newlines, and one more
all_plain : (ls : List (List ℕ)) (l : List ℕ) → AllPlain ls → Plain l → AllPlain (ls ++ l ∷ [])
all_plain [] l h p = (p, tt)
all_plain (x ∷ ls) l h p = (h.0, all_plain ls l h.1 p)

-- what a line prints, where the replay goes on behind it and where it ends there
goes_on : (s : State) (n : ℕ) (x : List ℕ) (ls : List (List ℕ)) → (answer_of s (reading_of x)).ended ≡ false
    → printed_from s n (x ∷ ls) ≡ rendered n (answer_of s (reading_of x)) ++ printed_from (answer_of s (reading_of x)).state (suc n) ls
goes_on s n x ls f = one_line_lem s n x ls ∙ rw f

stops : (s : State) (n : ℕ) (x : List ℕ) (ls : List (List ℕ)) → (answer_of s (reading_of x)).ended ≡ true
    → printed_from s n (x ∷ ls) ≡ rendered n (answer_of s (reading_of x))
stops s n x ls f = one_line_lem s n x ls ∙ rw f (append-nil _)

neither : (a b : Bool) → (a || b) ≡ false → (a ≡ false) × (b ≡ false)
neither true b e = absurd (not_both true refl e)
neither false b e = (refl, e)

module _ (l : List ℕ) where
  -- behind lines none of which ends the replay the line is answered
  pub next : (ls : List (List ℕ)) (s : State) (n : ℕ) → ends_in s ls ≡ false
      → printed_from s n (ls ++ l ∷ []) ≡ printed_from s n ls ++ rendered (n + length ls) (answer_of (state_behind s ls) (reading_of l))
  unfolding state_behind ends_in
  next [] s n e = one_line_lem s n l [] ∙ rw (no_line (answer_of s (reading_of l)).state (suc n), no_line s n, cond_same, append-nil, add-zero)
  next (x ∷ ls) s n e =
      let a = answer_of s (reading_of x) in
      let (goes, on) = neither a.ended (ends_in a.state ls) e in
      let number : suc n + length ls ≡ n + length (x ∷ ls) = omega arith in
      goes_on s n x (ls ++ l ∷ []) goes
      ∙ ap (λ (o : List ℕ). rendered n a ++ o) (next ls a.state (suc n) on)
      ∙ sym (append_assoc (rendered n a) (printed_from a.state (suc n) ls) _)
      ∙ rw (goes_on s n x ls goes, number)

  -- behind a line that ended it nothing is
  pub past : (ls : List (List ℕ)) (s : State) (n : ℕ) → ends_in s ls ≡ true → printed_from s n (ls ++ l ∷ []) ≡ printed_from s n ls
  unfolding ends_in
  past [] s n e = absurd (not_both false e refl)
  past (x ∷ ls) s n e =
      let a = answer_of s (reading_of x) in
      by-test a.ended
      (λ f. stops s n x (ls ++ l ∷ []) f ∙ sym (stops s n x ls f))
      (λ f. goes_on s n x (ls ++ l ∷ []) f ∙ ap (λ (o : List ℕ). rendered n a ++ o) (past ls a.state (suc n) (rw f at e)) ∙ sym (goes_on s n x ls f))

-- ---- said of the output
module _ (ls : List (List ℕ)) (l : List ℕ) (h : AllPlain ls) (p : Plain l) where
  longer : output_of (written (ls ++ l ∷ [])) ≡ printed_from blank 1 (ls ++ l ∷ [])
  unfolding output_of
  longer = ap (printed_from blank 1) (written-lines (ls ++ l ∷ []) (all_plain ls l h p))

  shorter : output_of (written ls) ≡ printed_from blank 1 ls
  unfolding output_of
  shorter = ap (printed_from blank 1) (written-lines ls h)

  pub next_line : ends_in blank ls ≡ false
      → output_of (written (ls ++ l ∷ [])) ≡ output_of (written ls) ++ rendered (suc (length ls)) (answer_of (state_behind blank ls) (reading_of l))
  next_line e = let number : 1 + length ls ≡ suc (length ls) = omega arith in longer ∙ next l ls blank 1 e ∙ rw (shorter, number)

  pub line_past : ends_in blank ls ≡ true → output_of (written (ls ++ l ∷ [])) ≡ output_of (written ls)
  line_past e = longer ∙ past l ls blank 1 e ∙ sym shorter

module _ (ls : List (List ℕ)) (l : List ℕ) (h : AllPlain ls) (p : Plain l) where
  pub unended : 0 < length l → output_of (written ls ++ l) ≡ output_of (written (ls ++ l ∷ []))
  unfolding output_of
  unended some = ap (printed_from blank 1) (last_written ls l h p some) ∙ sym (longer ls l h p)

pub no_lines : output_of (written []) ≡ []
unfolding output_of written printed_from lines_of
no_lines = refl
