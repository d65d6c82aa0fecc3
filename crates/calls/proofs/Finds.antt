-- A find's step is the rule of kind 3, and no such step changes what a cell holds.
use Rattle.std.specs.Prelude.{Ok}
use mathlib.Core.Path.{◌≡◌, refl, sym, ◌∙◌, ap}
use mathlib.Core.Bool.{Bool, true, false, cond}
use mathlib.Core.List.{List}
use Prim.Native.Nat.{ℕ}
use lib.Dec.{ltb}
use lib.ListN.{get_or, set}
use lib.Seq.{set-get_or}
use Rattle.prices.specs.Contents.{label}
use Rattle.homes.specs.declared.Hash.{Hash}
use Rattle.activities.specs.declared.Activity.{Activity}
use Rattle.activities.specs.declared.Activity.TheVariants.{Reading}
use Rattle.activities.specs.declared.Worker.{Worker}
use Rattle.rule.specs.Rule.{touched, goes, ends, find_step, rule}
use Rattle.rule.specs.declared.Answer.{Answer}
use Rattle.rule.specs.declared.Outcome.{Outcome}
use Rattle.state.specs.Model.{Model}
use Rattle.protocol.specs.Split.{one_turn, one_cells}
use Rattle.protocol.specs.declared.Moved.{Moved}
use Rattle.protocol.proofs.Turning.{one-made}

by-rule : (home : ℕ → ℕ) (n x v c : ℕ) (a : Activity) (o : Outcome) → a ≡ Reading v c → o ≡ find_step n label home (Reading v c) x
    → o ≡ rule 3 n label home a x
unfolding rule
by-rule home n x v c a o e f = rw e f

-- what it leaves in the cell
either : (b : Bool) (a : Activity) (r : Answer) (x : ℕ) → (cond b (goes a x) (ends r x)).content ≡ x
either true a r x = refl
either false a r x = refl

same-content : (home : ℕ → ℕ) (n x v c : ℕ) (o : Outcome) → o ≡ find_step n label home (Reading v c) x → o.content ≡ x
unfolding find_step
same-content home n x v c o f = ap (λ (q : Outcome). q.content) f ∙ either (ltb (label v) (label x)) _ _ x

-- so the table is the one that it found
unwritten : (t : List ℕ) (c x : ℕ) (u : List ℕ) → x ≡ get_or t c 0 → set t c x ≡ u → t ≡ u
unwritten t c x u e h = sym (set-get_or t c 0) ∙ ap (set t c) (sym e) ∙ h

-- the step of a reading worker is its turn
pub found-one : (M : Model) (ab : Hash) (n : ℕ) (t : List ℕ) (w : Worker) (v c : ℕ) (o : Outcome) → w.activity ≡ Reading v c
    → o ≡ find_step n label (M.home ab n) (Reading v c) (get_or t c 0)
    → (◌≡◌ {A = Moved} (record { worker = record { activity = o.activity }; reply = Ok o.answer }) (one_turn M 3 ab n t w))
    × (t ≡ one_cells M 3 ab n t w)
found-one M ab n t w v c o reads e =
    let made = one-made M 3 ab n t w c o (ap touched reads) (by-rule (M.home ab n) n (get_or t c 0) v c w.activity o reads e) in
    (made.0, unwritten t c o.content _ (same-content (M.home ab n) n (get_or t c 0) v c o e) made.1)
