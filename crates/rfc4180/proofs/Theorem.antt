-- What specs/Promise promises.
use mathlib.Core.Path.{◌≡◌, refl, sym, ◌∙◌, ap, subst}
use mathlib.Core.Logic.{◌≢◌}
use mathlib.Core.List.{List, []}
use Prim.Native.Nat.{ℕ, ◌≤◌}
use native.Mathlib.Omega.{arith}
use borrow.Author.Tests.{leb-true, leb-false}
use lib.Dec.{leb}
use lib.ListN.{length}
use Rattle.text.specs.Bytes.{bytes_of}
use Rattle.text.proofs.Test.{by-test}
use Rattle.rfc4180.specs.Grammar.{TextData, Begins, Pair, pair, values}
use Rattle.rfc4180.specs.Reader.{is_text, is_inside, plain_of, inside_of, field_of, end_of, Parsed, record_of}
use Rattle.rfc4180.specs.Promise.{Chain, Reads, CsvPromise}
use Rattle.rfc4180.proofs.Sound.{record-sound}
use Rattle.rfc4180.proofs.Complete.{begins-complete}
use Rattle.rfc4180.proofs.Records.{record-size, begins-some, file-chain, chain-file}
use Rattle.rfc4180.proofs.Unique.{one_record, one_split, one_kind}

record-within : (s : List ℕ) (p : Pair) (n : ℕ) → record_of s ≡ Parsed.parsed p n → n ≤ length s
record-within s p n e =
    let r = begins-complete p (record-sound s e) in
    let q : Parsed.parsed p n ≡ Parsed.parsed p r.count = sym e ∙ r.is in
    let k : n ≡ r.count = cc in
    omega (arith, r.within)

reads : (s : List ℕ) → Reads s
reads s = record {
  sound = λ p n e. record-sound s e;
  complete = λ p next b. let r = begins-complete p b in (r.count, r.is, r.left);
  some = λ p n e. (record-size s e, record-within s p n e);
}

one-pair : (p q : Pair) → values p ≡ values q → p ≡ q
one-pair (pair a b) (pair c d) e =
    let x : a ≡ c = cc in
    let y : b ≡ d = cc in
    rw (x, y)

-- nothing begins an empty text, so one chain does not end before the other
not-empty : {C : Type 0} (s : List ℕ) {ps : List Pair} → Chain s ps → s ≡ [] → C
not-empty s (Chain.last {p = p} b) e = absurd (omega (arith, begins-some s p b, ap length e))
not-empty s (Chain.more {p = p} b k) e = absurd (omega (arith, begins-some s p b, ap length e))

one-chain : {s : List ℕ} {ps qs : List Pair} → Chain s ps → (t : List ℕ) → s ≡ t → Chain t qs → ps ≡ qs
one-chain (Chain.last {s} {p} b) t e (Chain.last {p = q} c) =
    rw (one-pair p q (one_record t (values p) (values q) [] [] (subst (λ (l : List ℕ). Begins l (values p) []) e b) c).0)
one-chain (Chain.last {s} {p} b) t e (Chain.more {next = u} {p = q} c k) =
    not-empty u k (sym (one_record t (values p) (values q) [] u (subst (λ (l : List ℕ). Begins l (values p) []) e b) c).1)
one-chain (Chain.more {s} {next = v} {p} b k) t e (Chain.last {p = q} c) =
    not-empty v k (one_record t (values p) (values q) v [] (subst (λ (l : List ℕ). Begins l (values p) v) e b) c).1
one-chain (Chain.more {s} {next = v} {p} b k) t e (Chain.more {next = u} {p = q} c j) =
    let o = one_record t (values p) (values q) v u (subst (λ (l : List ℕ). Begins l (values p) v) e b) c in
    rw (one-pair p q o.0, one-chain k u o.1 j)

-- ---- TEXTDATA
text-range : {b : ℕ} → TextData b → (0x20 ≤ b) × (b ≤ 0x7E) × (b ≢ 0x22) × (b ≢ 0x2C)
text-range (TextData.low l u) = (l, omega arith, λ e. omega arith, λ e. omega arith)
text-range (TextData.middle l u) = (omega arith, omega arith, λ e. omega arith, λ e. omega arith)
text-range (TextData.high l u) = (omega arith, u, λ e. omega arith, λ e. omega arith)

range-text : (b : ℕ) → 0x20 ≤ b → b ≤ 0x7E → b ≢ 0x22 → b ≢ 0x2C → TextData b
range-text b l u q c = by-test (leb b 0x21)
    (λ t. TextData.low l (leb-true b 0x21 t))
    (λ t.
    let m : 0x22 ≤ b = leb-false b 0x21 t in
    by-test (leb b 0x2B)
    (λ v. TextData.middle (omega arith) (leb-true b 0x2B v))
    (λ v. let h : 0x2C ≤ b = leb-false b 0x2B v in TextData.high (omega arith) u))

pub csv-promise : CsvPromise
unfolding record_of end_of field_of inside_of plain_of is_text is_inside bytes_of
csv-promise = record {
  reads = reads;
  chain = λ s ps. (file-chain ps, chain-file);
  one_file = λ s ps qs f g. one-chain (file-chain ps f) s refl (file-chain qs g);
  one_record = one_record;
  one_split = one_split;
  one_kind = one_kind;
  textdata = λ b. (λ d. text-range d, λ h. range-text b h.0 h.1 h.2 h.3);
  plain = refl;
  breaks = refl;
  doubled = refl;
}
