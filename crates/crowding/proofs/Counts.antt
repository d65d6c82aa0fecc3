-- The keys of the orders, counted one order after the other.
use mathlib.Core.Path.{◌≡◌, sym, ap, ◌∙◌}
use mathlib.Core.List.{List, ◌∷◌, ◌++◌}
use Prim.Native.Nat.{ℕ, ◌+◌, ◌≤◌, ◌<◌}
use lib.Dec.{leb}
use lib.ListN.{length, drop, drop_of_length-le}
use Rattle.std.specs.Prelude.{Some}
use Rattle.std.proofs.lemmas.Option.{slice_get_within, get_or_from_slice_get}
use lib.Seq.{drop-cons}
use native.Mathlib.Numerals.{add-one}
use Rattle.layout.specs.Layout.{size}
use Rattle.prices.specs.Priced.{labels}
use Rattle.prices.specs.Contents.{label}
use Rattle.orders.specs.declared.Order.{Order}
use Rattle.orders.specs.Orders.{blank, line_at, ordered_keys}
use Rattle.distinct.specs.Trie.{no_nodes, total, all_marked, marked, counted}
use Rattle.distinct.proofs.Marks.{next-key, no_keys, total-append}
use Rattle.distinct.proofs.Theorem.{crowded-keys}

-- the count of all keys, up to the limit
abbrev pub all : List ℕ → List Order → ℕ
all cells orders = total no_nodes 0 (length cells) (labels label cells ++ ordered_keys orders)

pub counts_start : (cells : List ℕ) (orders : List Order) (t : List ℕ) (start : ℕ)
    → start ≡ total no_nodes 0 (length cells) (labels label cells) → t ≡ all_marked no_nodes 0 (length cells) (labels label cells)
    → total t start (length cells) (ordered_keys orders) ≡ all cells orders
counts_start cells orders t start a b = rw (a, b) (total-append no_nodes 0 (length cells) (labels label cells) (ordered_keys orders))

-- line i is o
keys-left : (orders : List Order) (i : ℕ) (o : Order) → Some o ≡ line_at orders i → ordered_keys (drop i orders) ≡ o.key ∷ ordered_keys (drop (i + 1) orders)
keys-left orders i o e =
    let l : i < length orders = slice_get_within orders i o (sym e) in rw (add-one, drop-cons orders i blank, get_or_from_slice_get orders i o blank (sym e))

pub counts-more : (orders : List Order) (i : ℕ) (t t' : List ℕ) (count count' limit : ℕ) (o : Order) → Some o ≡ line_at orders i
    → count' ≡ counted t count limit o.key → t' ≡ marked t count limit o.key
    → total t' count' limit (ordered_keys (drop (i + 1) orders)) ≡ total t count limit (ordered_keys (drop i orders))
counts-more orders i t t' count count' limit o l a b =
    (next-key t t' count count' limit o.key (ordered_keys (drop (i + 1) orders)) (ordered_keys (drop i orders)) a b (keys-left orders i o l)).0

pub counts_end : (orders : List Order) (i : ℕ) (t : List ℕ) (count limit : ℕ) → length orders ≤ i → total t count limit (ordered_keys (drop i orders)) ≡ count
counts_end orders i t count limit l = (no_keys t count limit (ordered_keys (drop i orders)) (ap ordered_keys (drop_of_length-le orders l))).0

pub counts-verdict : (cells : List ℕ) (orders : List Order) (count : ℕ) → length cells ≤ 8192 → count ≡ all cells orders
    → leb (length cells) count ≡ leb (length cells) (size (labels label cells ++ ordered_keys orders))
counts-verdict cells orders count l e = ap (leb (length cells)) e ∙ crowded-keys (length cells) l (labels label cells ++ ordered_keys orders)

-- for the check
pub ruleset count_rules = (counts_start, counts-more, counts_end, counts-verdict)
