-- Records one behind the other are a file, and a record of two fields has at least its comma.
use mathlib.Core.Path.{◌≡◌, refl, sym, ◌∙◌, ap}
use mathlib.Core.List.{List, [], ◌∷◌, ◌++◌}
use Prim.Native.Nat.{ℕ, suc, ◌+◌, ◌<◌}
use native.Mathlib.Omega.{arith}
use lib.Dec.{eqb}
use lib.ListN.{length, drop}
use Rattle.text.proofs.Test.{by-test}
use Rattle.rfc4180.specs.Grammar.{Record, Tail, File, RecordEnd, Begins, Pair, values, rows}
use Rattle.rfc4180.specs.Reader.{Scan, field_of, Parsed, end_of, with_end, with_second, with_comma, with_first, record_of}
use Rattle.rfc4180.specs.Promise.{Chain}
use Rattle.rfc4180.proofs.Complete.{begins-complete}

-- ---- how long a record is
abbrev size : Parsed → ℕ
size Parsed.broken = 1
size (Parsed.parsed p n) = n

size-end : (a b : List ℕ) (n : ℕ) (x : Scan) → 0 < n → 0 < size (with_end a b n x)
size-end a b n Scan.broken h = omega arith
size-end a b n (Scan.found v m) h = omega arith

size-second : (a : List ℕ) (n : ℕ) (x : Scan) (t : List ℕ) → 0 < n → 0 < size (with_second a n x t)
size-second a n Scan.broken t h = omega arith
size-second a n (Scan.found b m) t h = size-end a b (n + m) (end_of (drop m t)) (omega arith)

size-comma : (a : List ℕ) (n : ℕ) (s : List ℕ) → 0 < size (with_comma a n s)
size-comma a n [] = omega arith
size-comma a n (c ∷ t) = by-test (eqb c 0x2C)
    (λ e. rw e (size-second a (suc n) (field_of t) t (omega arith)))
    (λ e. rw e (omega arith))

size_first : (x : Scan) (s : List ℕ) → 0 < size (with_first x s)
size_first Scan.broken s = omega arith
size_first (Scan.found a n) s = size-comma a n (drop n s)

pub record-size : (s : List ℕ) {p : Pair} {n : ℕ} → record_of s ≡ Parsed.parsed p n → 0 < n
unfolding record_of
record-size s e = omega (arith, size_first (field_of s) s, ap size e)

none-empty : record_of [] ≡ Parsed.broken
unfolding record_of field_of
none-empty = refl

different : {p : Pair} {n : ℕ} {C : Type 0} → Parsed.broken ≡ Parsed.parsed p n → C
different e = cc

-- no record of two fields begins an empty text
pub begins-some : (s : List ℕ) {next : List ℕ} (p : Pair) → Begins s (values p) next → 0 < length s
begins-some [] p b = different (sym none-empty ∙ (begins-complete p b).is)
begins-some (c ∷ s) p b = omega arith

-- ---- a file is a chain
tail-chain : {r t : List ℕ} (p : Pair) (ps : List Pair) → Record r (values p) → Tail t (rows ps) → Chain (r ++ t) (p ∷ ps)
tail-chain p [] x Tail.end = Chain.last (Begins.begins x RecordEnd.end)
tail-chain p [] x Tail.crlf = Chain.last (Begins.begins x RecordEnd.crlf)
tail-chain p (q ∷ ps) x (Tail.crlf_record y k) = Chain.more (Begins.begins x RecordEnd.crlf) (tail-chain q ps y k)

pub file-chain : {s : List ℕ} (ps : List Pair) → File s (rows ps) → Chain s ps
file-chain [] x = elim x [ ]
file-chain (p ∷ ps) (File.records x k) = tail-chain p ps x k

-- ---- and a chain is a file
begins-last : {s next : List ℕ} (p : Pair) → Begins s (values p) next → next ≡ [] → File s (rows (p ∷ []))
begins-last p (Begins.begins x RecordEnd.end) z = File.records x Tail.end
begins-last p (Begins.begins x RecordEnd.crlf) z = rw z (File.records x Tail.crlf)

add-record : {r next : List ℕ} (p : Pair) (ps : List Pair) → Record r (values p) → File next (rows ps) → File (r ++ 0x0D ∷ 0x0A ∷ next) (rows (p ∷ ps))
add-record p [] x y = elim y [ ]
add-record p (q ∷ ps) x (File.records y k) = File.records x (Tail.crlf_record y k)

begins-more : {s next : List ℕ} (p : Pair) (ps : List Pair) → Begins s (values p) next → 0 < length next → File next (rows ps) → File s (rows (p ∷ ps))
begins-more p ps (Begins.begins x RecordEnd.end) h f = absurd (omega arith)
begins-more p ps (Begins.begins x RecordEnd.crlf) h f = add-record p ps x f

pub chain-some : {s : List ℕ} {ps : List Pair} → Chain s ps → 0 < length s
chain-some (Chain.last {s} {p} b) = begins-some s p b
chain-some (Chain.more {s} {next} {p} b k) = begins-some s p b

pub chain-file : {s : List ℕ} {ps : List Pair} → Chain s ps → File s (rows ps)
chain-file (Chain.last {s} {p} b) = begins-last p b refl
chain-file (Chain.more {s} {next} {p} {ps} b k) = begins-more p ps b (chain-some k) (chain-file k)
