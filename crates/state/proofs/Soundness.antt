-- The refusals of a table: its length, an even a, and its flaw.
use mathlib.Core.Path.{◌≡◌, refl, sym, ap, ◌∙◌}
use mathlib.Core.Bool.{Bool, true, false, cond}
use mathlib.Core.List.{List, [], ◌∷◌}
use Prim.Native.Nat.{ℕ}
use lib.ListN.{length}
use Rattle.std.specs.Prelude.{Result, Ok, Err}
use Rattle.homes.specs.Homes.{is_even}
use Rattle.homes.specs.declared.Hash.{Hash}
use Rattle.flaws.specs.Flaws.{is_intact, meets_empty, meets_key}
use Rattle.soundness.specs.Flaw.{flaw_of}
use Rattle.soundness.specs.declared.Flaw.{Flaw}
use Rattle.soundness.specs.declared.Flaw.TheVariants as flaw
use Rattle.state.specs.Model.{Model, size_ok}
use Rattle.state.proofs.Model.{cells-bounded}
use Rattle.state.specs.Open.{sound_bars, table_bars}
use Rattle.state.specs.Refusals.{refusal_of, if, unless, first_of}
use Rattle.state.specs.declared.Refusal.TheVariants.{Size, Unsound, Gap, Disorder, Even}
use Rattle.state.specs.Replies.{Reply}

abbrev reply_for : Result (Unit {0}) Flaw → Reply
reply_for (Ok _) = Ok tt
reply_for (Err f) = Err (refusal_of f)

by_tests : (w g d : Bool) → reply_for (cond w (cond g (Err flaw.Gap) (cond d (Err flaw.Disorder) (Ok tt))) (Err flaw.Cells))
    ≡ first_of (unless w Unsound ∷ if g Gap ∷ if d Disorder ∷ [])
by_tests false g d = refl
by_tests true true d = refl
by_tests true false true = refl
by_tests true false false = refl

-- the flaw found is f
pub flaw-reply : (M : Model) (ab : Hash) (t : List ℕ) (f r : Result (Unit {0}) Flaw) → r ≡ f → r ≡ flaw_of (M.home ab (length t)) t
    → reply_for f ≡ first_of (sound_bars M ab t)
flaw-reply M ab t f r is found = ap reply_for (sym is ∙ found) ∙ by_tests (is_intact t) (meets_empty (M.home ab (length t)) t) (meets_key (M.home ab (length t)) t)

-- ---- behind the length, and behind a
module _ (M : Model) (ab : Hash) (t : List ℕ) where
  pub size-refused : size_ok M (length t) ≡ false → first_of (table_bars M ab t) ≡ Err Size
  size-refused e = rw e

  pub hash-refused : size_ok M (length t) ≡ true → is_even ab ≡ true → first_of (table_bars M ab t) ≡ Err Even
  hash-refused e f = rw (e, f)

  pub hash-passed : size_ok M (length t) ≡ true → is_even ab ≡ false → first_of (table_bars M ab t) ≡ first_of (sound_bars M ab t)
  hash-passed e f = rw (e, f)

-- for the check: the table's reply, and the whole
pub ruleset flaw_rules = (flaw-reply)

pub ruleset check_rules = (size-refused, hash-refused, hash-passed, cells-bounded)
