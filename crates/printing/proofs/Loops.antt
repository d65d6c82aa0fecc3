-- What the loops over the workers and over the cells have printed so far.
use mathlib.Core.Path.{◌≡◌, refl, sym}
use mathlib.Core.Logic.{◌≢◌}
use mathlib.Core.List.{List, [], ◌∷◌, ◌++◌, append-nil, append_assoc}
use Prim.Native.Nat.{ℕ, ◌+◌, ◌*◌, ◌/◌, ◌%◌, ◌^◌, ◌≤◌, ◌<◌}
use native.Mathlib.Numerals.{add-one}
use native.Mathlib.Omega.{arith}
use lib.ListN.{length, take, get_or, length-append}
use lib.Seq.{take-suc}
use borrow.Author.Tests.{ne_eqb}
use Rattle.text.specs.Digits.{digits_of}
use Rattle.text.specs.Numbers.{longest_number}
use Rattle.prices.specs.Contents.{label, price}
use Rattle.words.specs.Words.{entries_of}
use Rattle.words.proofs.Words.{entries-append}
use Rattle.std.specs.Prelude.{Option}
use Rattle.dealing.specs.declared.Ended.{Ended}
use Rattle.printing.specs.Widths.{word_width, entry_width}
use Rattle.printing.specs.Fields.{PrintedWithin, field, finish_word, finish_fields, entry_fields}
use Rattle.printing.proofs.Printing.{printed-on, ten-digits}

-- ---- the last of a list
finish-last : (fs : List (Option Ended)) (f : Option Ended) → finish_fields (fs ++ f ∷ []) ≡ finish_fields fs ++ field (finish_word f)
finish-last [] f = append-nil (field (finish_word f))
finish-last (e ∷ fs) f = rw (finish-last fs f) (sym (append_assoc (field (finish_word e)) (finish_fields fs) (field (finish_word f))))

entries-fields : (xs ys : List ℕ) → entry_fields (xs ++ ys) ≡ entry_fields xs ++ entry_fields ys
entries-fields [] ys = refl
entries-fields (x ∷ xs) ys =
    rw (
      entries-fields xs ys,
      append_assoc (field (digits_of (label x))) (field (digits_of (price x)) ++ entry_fields xs) (entry_fields ys),
      append_assoc (field (digits_of (price x))) (entry_fields xs) (entry_fields ys),
    )

-- ---- over the cells
pub one_entry : (x : ℕ) → label x ≢ 0 → entry_fields (entries_of (x ∷ [])) ≡ field (digits_of (label x)) ++ field (digits_of (price x))
one_entry x nz = rw (ne_eqb (label x) 0 nz) (rw (append-nil (field (digits_of (price x)))))

-- how many bytes: a key and a price are numbers of 32 bits
pub label-short : (x : ℕ) → x < 2 ^ 64 → length (digits_of (x / 4294967296)) ≤ longest_number
label-short x fits = ten-digits (x / 4294967296) (omega arith)

pub price-short : (x : ℕ) → length (digits_of (x % 4294967296)) ≤ longest_number
price-short x = ten-digits (x % 4294967296) (omega arith)

pub entry-short : (x : ℕ) → x < 2 ^ 64 → length (field (digits_of (label x)) ++ field (digits_of (price x))) ≤ entry_width
entry-short x fits = omega (arith, length-append (field (digits_of (label x))) (field (digits_of (price x))), label-short x fits, price-short x)

pub no-entry : (x : ℕ) → label x ≡ 0 → entry_fields (entries_of (x ∷ [])) ≡ []
no-entry x z = rw z

-- ---- one more
pub one_finish : (fs : List (Option Ended)) {out₀ out out' : List ℕ} {at place place' w : ℕ} (d : Option Ended) → w < length fs
    → PrintedWithin (word_width * w) (finish_fields (take w fs)) out₀ at out place
    → PrintedWithin word_width (field (finish_word (get_or fs w d))) out place out' place'
    → PrintedWithin (word_width * (w + 1)) (finish_fields (take (w + 1) fs)) out₀ at out' place'
one_finish fs {w = w} d l (p, near) (q, next) =
    let e : finish_fields (take (w + 1) fs) ≡ finish_fields (take w fs) ++ field (finish_word (get_or fs w d)) =
    rw (add-one, take-suc fs w d l) (finish-last (take w fs) (get_or fs w d)) in
    (rw e (printed-on p q), omega (arith, near, next))

pub one_cell : (cells : List ℕ) {out₀ out out' : List ℕ} {at place place' i : ℕ} → i < length cells
    → PrintedWithin (entry_width * i) (entry_fields (entries_of (take i cells))) out₀ at out place
    → PrintedWithin entry_width (entry_fields (entries_of (get_or cells i 0 ∷ []))) out place out' place'
    → PrintedWithin (entry_width * (i + 1)) (entry_fields (entries_of (take (i + 1) cells))) out₀ at out' place'
one_cell cells {i = i} l (p, near) (q, next) =
    let x = get_or cells i 0 in
    let e : entry_fields (entries_of (take (i + 1) cells)) ≡ entry_fields (entries_of (take i cells)) ++ entry_fields (entries_of (x ∷ [])) =
    rw (add-one, take-suc cells i 0 l, entries-append (take i cells) (x ∷ [])) (entries-fields (entries_of (take i cells)) (entries_of (x ∷ []))) in
    (rw e (printed-on p q), omega (arith, near, next))
