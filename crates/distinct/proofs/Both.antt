-- The keys of a table and of a list, counted one after the other from no nodes on.
use mathlib.Core.Path.{◌≡◌, ap, ◌∙◌}
use mathlib.Core.List.{List, ◌++◌}
use Prim.Native.Nat.{ℕ, ◌≤◌}
use lib.Dec.{leb}
use Rattle.layout.specs.Layout.{size}
use Rattle.distinct.specs.Trie.{no_nodes, total, all_marked}
use Rattle.distinct.proofs.Theorem.{crowded-keys}
use Rattle.distinct.proofs.Marks.{total-append}

pub both-counted : (ks ls : List ℕ) (limit : ℕ) (t : List ℕ) (start count : ℕ) → limit ≤ 8192
    → start ≡ total no_nodes 0 limit ks → t ≡ all_marked no_nodes 0 limit ks → count ≡ total t start limit ls → leb limit count ≡ leb limit (size (ks ++ ls))
both-counted ks ls limit t start count l a b e = ap (leb limit) (e ∙ rw (a, b) (total-append no_nodes 0 limit ks ls)) ∙ crowded-keys limit l (ks ++ ls)
