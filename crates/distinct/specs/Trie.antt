-- Distinct keys counted by a hash trie in one list of numbers. Cells 0 to 16,383 are the roots, cells 16,384 to 32,767 the links of the nodes, two for
-- each, and cells 32,768 to 40,959 the nodes' keys. A link is the number of its node's first link cell; 0 is no link.
-- Only the contracts of helpers cite what is defined here: `crowded` and `lines_crowded` say by `size` what is counted.
use Rattle.std.specs.Prelude.{cond, List, [], ◌∷◌, ℕ, zero, suc, ◌+◌, ◌*◌, ◌/◌, ◌%◌, leb, ltb, eqb, get_or, set, replicate}

-- no key is met yet
abbrev pub no_nodes : List ℕ
no_nodes = replicate 40960 0

-- the cell where the search for a key begins
unfoldable pub root_of : ℕ → ℕ
root_of key = key * 2654435769 % 4294967296 / 262144

-- the key of the node that a link leads to
abbrev pub key_at : List ℕ → ℕ → ℕ
key_at t link = get_or t (24576 + link / 2) 0

-- the cell where a search that has come to cell `at` ends, after f steps at most: one with no link, or with the link to the key's node. A link to another
-- key is followed, and the next bit of the key says on which side of that node the search goes on. Links lead upwards, so that 32,768 steps are enough.
unfoldable pub seek : (t : List ℕ) (key f bits at : ℕ) → ℕ
seek t key zero bits at = at
seek t key (suc f) bits at =
    cond (ltb at (get_or t at 0))
    (cond (leb 32768 (get_or t at 0)) at (cond (eqb (key_at t (get_or t at 0)) key) at (seek t key f (bits / 2) (get_or t at 0 + bits % 2)))) at

unfoldable pub link_of : List ℕ → ℕ → ℕ
link_of t key = seek t key 32768 key (root_of key)

-- ---- the count, and the trie, after a key: counted no further than the limit; 0 is not counted
unfoldable pub counted : List ℕ → ℕ → ℕ → ℕ → ℕ
counted t count limit key = cond (leb limit count) count (cond (eqb key 0) count (cond (eqb (get_or t (link_of t key) 0) 0) (count + 1) count))

unfoldable pub marked : List ℕ → ℕ → ℕ → ℕ → List ℕ
marked t count limit key =
    cond (leb limit count) t
    (cond (eqb key 0) t (cond (eqb (get_or t (link_of t key) 0) 0) (set (set t (32768 + count) key) (link_of t key) (16384 + 2 * count)) t))

-- the same after a list of keys
unfoldable pub total : List ℕ → ℕ → ℕ → List ℕ → ℕ
total t count limit [] = count
total t count limit (y ∷ ys) = total (marked t count limit y) (counted t count limit y) limit ys

unfoldable pub all_marked : List ℕ → ℕ → ℕ → List ℕ → List ℕ
all_marked t count limit [] = t
all_marked t count limit (y ∷ ys) = all_marked (marked t count limit y) (counted t count limit y) limit ys
