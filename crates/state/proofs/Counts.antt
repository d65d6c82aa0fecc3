-- Answers that give a count: their number, and what a refusal leaves.
use Rattle.std.specs.Prelude.{Ok, Err}
use mathlib.Core.Path.{◌≡◌, refl}
use mathlib.Core.Logic.{◌≢◌}
use Prim.Native.Nat.{ℕ}
use Rattle.state.specs.Counts.{count_number, counted_by, if_counted}
use Rattle.state.specs.Refusals.{reply_number}
use Rattle.state.specs.Replies.{Counted, Reply}

pub count-number : (x : ℕ) (r : Reply) → count_number (counted_by x r) ≡ reply_number r
count-number x (Ok _) = refl
count-number x (Err r) = refl

pub kept : {A : Type 0} (a : Counted) (x y : A) → count_number a ≢ 0 → if_counted a x y ≡ y
kept (Ok c) x y h = absurd (h refl)
kept (Err r) x y h = refl
