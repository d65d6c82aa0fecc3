-- Occupancy words (document 01: taken words), and the entries of a table in cell order: the contents of the cells that hold a label.
use Rattle.std.specs.Prelude.{cond, List, [], ◌∷◌, ◌++◌, ℕ, zero, suc, ◌+◌, ◌*◌, ◌/◌, eqb, length, take, drop}
use Rattle.std.specs.Int.Count.{ones}
use Rattle.std.proofs.lemmas.List.Edits.{sets}
use Rattle.ring.specs.Counting.{tally}
use Rattle.prices.specs.Contents.{label}

-- ---- the entries of a list of cells
-- 1 where a cell holds a label, else 0
abbrev pub taken : ℕ → ℕ
taken x = cond (eqb (label x) 0) 0 1

-- how many cells hold a label
abbrev pub occupied : List ℕ → ℕ
occupied [] = 0
occupied (x ∷ xs) = taken x + occupied xs

-- the entries in cell order, each whole
abbrev pub entries_of : List ℕ → List ℕ
entries_of [] = []
entries_of (x ∷ xs) = cond (eqb (label x) 0) (entries_of xs) (x ∷ entries_of xs)

-- a lent list with the entries at its front; places behind keep their contents
abbrev pub filled : List ℕ → List ℕ → List ℕ
filled t out = entries_of t ++ drop (occupied t) out

-- ---- groups of 64 cells, the last with what is left
abbrev pub groups : List ℕ → ℕ
groups t = (length t + 63) / 64

abbrev pub group : List ℕ → ℕ → List ℕ
group t g = take 64 (drop (64 * g) t)

-- the occupancy word of a group: bit b is 1 if its cell b holds a label
abbrev pub word_of : List ℕ → ℕ
word_of [] = 0
word_of (x ∷ xs) = 2 * word_of xs + taken x

-- as many as there are ones in the words before group g: where its entries start in the list
unfoldable pub place_of : List ℕ → ℕ → ℕ
place_of t g = tally (λ i. ones (word_of (group t i))) g

-- the sum of all ones
abbrev pub count_of : List ℕ → ℕ
count_of t = place_of t (groups t)

-- the list after group g has been listed in its place
abbrev pub group_listed : List ℕ → ℕ → List ℕ → List ℕ
group_listed t g out = sets out (place_of t g) (entries_of (group t g))

-- the same for several groups, one after the other
unfoldable pub groups_listed : List ℕ → List ℕ → List ℕ → List ℕ
groups_listed t [] out = out
groups_listed t (g ∷ gs) out = groups_listed t gs (group_listed t g out)

-- ---- listing in one pass
-- the list after the step for group g: that is lent the group's cells and the list from the group's place on, and fills the front of what it is lent
abbrev pub stepped : List ℕ → ℕ → List ℕ → List ℕ
stepped t g out = take (place_of t g) out ++ filled (group t g) (drop (place_of t g) out)

-- the list after the steps for groups 0 to g - 1, one after the other
unfoldable pub passed : List ℕ → ℕ → List ℕ → List ℕ
passed t zero out = out
passed t (suc g) out = stepped t g (passed t g out)
