-- Sequences of refusals, one behind the other.
use Rattle.std.specs.Prelude.{Ok, Err}
use mathlib.Core.Path.{◌≡◌, refl}
use mathlib.Core.Bool.{Bool, true, false, cond}
use mathlib.Core.List.{List, [], ◌∷◌, ◌++◌}
use Rattle.state.specs.Refusals.{Bar, first_of}
use Rattle.state.specs.declared.Refusal.{Refusal}
use Rattle.state.specs.Replies.{Reply}

-- the first reply if it is a refusal, else the second
abbrev pub or_else : Reply → Reply → Reply
or_else (Ok _) r = r
or_else (Err q) r = Err q

settled : (b : Bool) (q : Refusal) (x y r : Reply) → x ≡ or_else y r → cond b (Err q) x ≡ or_else (cond b (Err q) y) r
settled true q x y r e = refl
settled false q x y r e = e

pub first-append : (xs ys : List Bar) → first_of (xs ++ ys) ≡ or_else (first_of xs) (first_of ys)
first-append [] ys = refl
first-append (b ∷ xs) ys = settled b.when b.why (first_of (xs ++ ys)) (first_of xs) (first_of ys) (first-append xs ys)
