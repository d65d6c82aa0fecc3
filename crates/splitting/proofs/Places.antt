-- A record, scan by scan: from places back to parts.
use Rattle.std.specs.Prelude.{Option, Some, None, Result, Err, IsErrAnd, ok_or}
use Rattle.std.proofs.lemmas.Result.{err_from_is_err_and}
use mathlib.Core.Path.{◌≡◌, refl, sym, ◌∙◌, ap}
use mathlib.Core.List.{List}
use Prim.Native.Nat.{ℕ, suc, ◌+◌, ◌≤◌, ◌<◌}
use native.Mathlib.Omega.{arith}
use native.Mathlib.Numerals.{add-one}
use lib.Dec.{eqb}
use lib.ListN.{length, get_or, drop, drop_of_length-le}
use lib.Seq.{drop-cons, drop-drop}
use Rattle.text.specs.declared.Run.{Run}
use Rattle.text.specs.Numbers.{number_of}
use mathlib.Core.Bool.{true, false}
use Rattle.text.proofs.Test.{by-lt}
use Rattle.rfc4180.specs.Grammar.{pair}
use Rattle.rfc4180.specs.Reader.{Scan, Parsed, field_of, end_of, with_end, with_second, with_comma, record_of}
use Rattle.till.specs.declared.Bad.{Bad}
use Rattle.till.specs.declared.Bad.TheVariants.{Broken}
use Rattle.till.specs.declared.Record.{Record}
use Rattle.till.specs.Till.{front_by, front_with, front_of}
use Rattle.till.specs.Places.{placed, record_at}
use Rattle.splitting.specs.Fields.{end_from, field_from, field_at, line_by}

-- ---- what was scanned
record Found (x : Scan) (at : ℕ) (r : Run) : Type 0 where
  value : List ℕ
  count : ℕ
  scan : x ≡ Scan.found value count
  writes : r.number ≡ number_of value
  place : r.end ≡ at + count

field_found : (x : Scan) (at : ℕ) {r : Run} → Some r ≡ field_from at x → Found x at r
field_found Scan.broken at {r} e = cc
field_found (Scan.found v n) at {r} e =
    let q : r ≡ record { number = number_of v; end = at + n } = cc in
    record { value = v; count = n; scan = refl; writes = rw q; place = rw q }

field-broken : (x : Scan) (at : ℕ) → None ≡ field_from at x → x ≡ Scan.broken
field-broken Scan.broken at e = refl
field-broken (Scan.found v n) at e = cc

record Ended (x : Scan) (at behind : ℕ) : Type 0 where
  value : List ℕ
  count : ℕ
  scan : x ≡ Scan.found value count
  place : behind ≡ at + count

end-found : (x : Scan) (at : ℕ) {behind : ℕ} → Some behind ≡ end_from at x → Ended x at behind
end-found Scan.broken at {behind} e = cc
end-found (Scan.found v n) at {behind} e = record { value = v; count = n; scan = refl; place = cc }

end-broken : (x : Scan) (at : ℕ) → None ≡ end_from at x → x ≡ Scan.broken
end-broken Scan.broken at e = refl
end-broken (Scan.found v n) at e = cc

-- where a part is missing, the record is broken
pub missing : {A : Type 0} {o : Option A} {bad : Bad} (r : Result Record Bad) → IsErrAnd r (λ x. x ≡ bad) → ◌≡◌ {A = Result A Bad} (Err bad) (ok_or o Broken) → o ≡ None
    → r ≡ Err Broken
missing {A} {o} {bad} r h e n =
    let (x, is, same) = err_from_is_err_and r h in
    let f : ◌≡◌ {A = Result A Bad} (Err bad) (Err Broken) = rw n at e in
    cc

-- ---- a record
first-broken : (s : List ℕ) → field_of s ≡ Scan.broken → record_of s ≡ Parsed.broken
unfolding record_of
first-broken s e = rw e

first_found : (s a : List ℕ) (n : ℕ) → field_of s ≡ Scan.found a n → record_of s ≡ with_comma a n (drop n s)
unfolding record_of
first_found s a n e = rw e

drop-to : (text : List ℕ) (at n p : ℕ) → p ≡ at + n → drop n (drop at text) ≡ drop p text
drop-to text at n p e = drop-drop n at text ∙ ap (λ (q : ℕ). drop q text) (sym e)

numbers-placed : (a b : Option ℕ) (at n next : ℕ) → next ≡ at + n → line_by a b next ≡ placed at (front_by a b n)
numbers-placed (Some k) (Some p) at n next e = rw e
numbers-placed (Some k) None at n next e = refl
numbers-placed None b at n next e = refl

line-placed : (a b : Option ℕ) (u v : List ℕ) (at n next : ℕ) (x : Parsed) → a ≡ number_of u → b ≡ number_of v → next ≡ at + n → x ≡ Parsed.parsed (pair u v) n
    → line_by a b next ≡ placed at (front_with x)
line-placed a b u v at n next x p q e r = rw (p, q, r) (numbers-placed (number_of u) (number_of v) at n next e)

module _ (text : List ℕ) (at : ℕ) where
  record-broken : record_of (drop at text) ≡ Parsed.broken → Err Broken ≡ record_at text at
  unfolding front_of
  record-broken e = rw e

  pub no-first : None ≡ field_at text at → Err Broken ≡ record_at text at
  no-first e = record-broken (first-broken (drop at text) (field-broken (field_of (drop at text)) at e))

  module _ {a : Run} (first : Some a ≡ field_at text at) where
    f : Found (field_of (drop at text)) at a
    f = field_found (field_of (drop at text)) at first

    comma-next : record_of (drop at text) ≡ with_comma f.value f.count (drop a.end text)
    comma-next =
        first_found (drop at text) f.value f.count f.scan
        ∙ ap (λ (t : List ℕ). with_comma f.value f.count t) (drop-to text at f.count a.end f.place)

    pub nothing-behind : length text ≤ a.end → Err Broken ≡ record_at text at
    nothing-behind h = record-broken (comma-next ∙ rw (drop_of_length-le text h))

    pub no-comma : eqb (get_or text a.end 0) 44 ≡ false → Err Broken ≡ record_at text at
    no-comma n = by-lt a.end (length text) (λ h. record-broken (comma-next ∙ rw (drop-cons text a.end 0 h, n))) nothing-behind

    module _ (h : a.end < length text) (comma : eqb (get_or text a.end 0) 44 ≡ true) where
      second-next : record_of (drop at text) ≡ with_second f.value (suc f.count) (field_of (drop (a.end + 1) text)) (drop (a.end + 1) text)
      second-next = comma-next ∙ rw (drop-cons text a.end 0 h, comma, add-one a.end)

      pub no_second : None ≡ field_at text (a.end + 1) → Err Broken ≡ record_at text at
      no_second e = record-broken (second-next ∙ rw (field-broken (field_of (drop (a.end + 1) text)) (a.end + 1) e))

      module _ {b : Run} (second : Some b ≡ field_at text (a.end + 1)) where
        g : Found (field_of (drop (a.end + 1) text)) (a.end + 1) b
        g = field_found (field_of (drop (a.end + 1) text)) (a.end + 1) second

        end-next : record_of (drop at text) ≡ with_end f.value g.value (suc f.count + g.count) (end_of (drop b.end text))
        end-next =
            second-next
            ∙ ap (λ (x : Scan). with_second f.value (suc f.count) x (drop (a.end + 1) text)) g.scan
            ∙ ap (λ (t : List ℕ). with_end f.value g.value (suc f.count + g.count) (end_of t)) (drop-to text (a.end + 1) g.count b.end g.place)

        pub no_end : None ≡ end_from b.end (end_of (drop b.end text)) → Err Broken ≡ record_at text at
        no_end e = record-broken (end-next ∙ rw (end-broken (end_of (drop b.end text)) b.end e))

        pub whole : {next : ℕ} → Some next ≡ end_from b.end (end_of (drop b.end text)) → line_by a.number b.number next ≡ record_at text at
        unfolding front_of
        whole {next} e =
            let k = end-found (end_of (drop b.end text)) b.end e in
            let n : next ≡ at + (suc f.count + g.count + k.count) = omega (arith, f.place, g.place, k.place) in
            line-placed _ _ _ _ at _ next _ f.writes g.writes n (end-next ∙ ap (with_end f.value g.value (suc f.count + g.count)) k.scan)
