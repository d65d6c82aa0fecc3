-- Kinds of phase: 1 insert (put in), 2 delete (take out), 3 find (look up).
use Rattle.std.specs.Prelude.{Bool, false, cond, ℕ, leb, ltb}

abbrev pub kind_ok : ℕ → Bool
kind_ok k = cond (ltb k 1) false (leb k 3)
