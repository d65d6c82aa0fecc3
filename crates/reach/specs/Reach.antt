-- How far one key reaches (document 02, point 11): from its home to the first empty cell, that one included.
use Rattle.std.specs.Prelude.{ℕ, ◌≤◌, List, eqb}
use Rattle.ring.specs.Counting.{count}
use Rattle.ring.specs.Ring.{probe, dist}
use Rattle.layout.specs.Layout.{first_empty}

-- how many cells of t are empty
abbrev pub vacant : List ℕ → ℕ
vacant t = count (λ c. eqb c 0) t

-- the first empty cell of t from cell h on, where after the last cell comes cell 0
abbrev pub next_empty : ℕ → ℕ → List ℕ → ℕ
next_empty n h t = probe n h (first_empty n h t)

-- cell c is one of those from cell h to the first empty cell, that one included
abbrev pub InReach : ℕ → ℕ → List ℕ → ℕ → Type 0
InReach n h t c = dist n h c ≤ dist n h (next_empty n h t)
