-- What the grammar derives, the reader finds.
use mathlib.Core.Path.{◌≡◌, refl, sym, ◌∙◌, ap}
use mathlib.Core.Bool.{false}
use mathlib.Core.List.{List, [], ◌∷◌, ◌++◌, append_assoc}
use Prim.Native.Nat.{ℕ, suc, ◌+◌, ◌≤◌}
use native.Mathlib.Omega.{arith}
use lib.Dec.{eqb}
use lib.ListN.{length, drop, length-append}
use lib.Seq.{append_snoc, drop-append_seam, drop-append-add}
use Rattle.rfc4180.specs.Grammar.{NonEscaped, Quoted, Escaped, Field, Record, RecordEnd, Begins, Pair, pair, values}
use Rattle.rfc4180.specs.Reader.{is_text, Scan, push, skip, plain_of, inside_of, field_of, Parsed, end_of, with_end, with_second, with_comma, with_first, record_of}
use Rattle.rfc4180.proofs.Bytes.{is-text, text-no-quote, text-inside, comma-inside, cr-inside, lf-inside, comma-no-text, cr-no-text}
use Rattle.rfc4180.proofs.Laws.{plain-nil, plain_more, plain-stop, inside-last, inside-close, inside-two, inside-more, field-nil, field-quote, field_plain}

-- what may stand behind a field: nothing, or a byte that no field goes on with
pub data Stop : List ℕ → Type 0 where
  nothing : Stop []
  byte : {c : ℕ} {t : List ℕ} → is_text c ≡ false → eqb c 0x22 ≡ false → Stop (c ∷ t)

pub stop-comma : (t : List ℕ) → Stop (0x2C ∷ t)
stop-comma t = Stop.byte comma-no-text refl

pub stop-end : {e next : List ℕ} → RecordEnd e next → Stop e
stop-end RecordEnd.end = Stop.nothing
stop-end RecordEnd.crlf = Stop.byte cr-no-text refl

-- ---- fields
plain-stops : {t : List ℕ} → Stop t → plain_of t ≡ Scan.found [] 0
plain-stops Stop.nothing = plain-nil
plain-stops (Stop.byte {c} {t} e f) = plain-stop c t e

plain-complete : {s t : List ℕ} → NonEscaped s → Stop t → plain_of (s ++ t) ≡ Scan.found s (length s)
plain-complete NonEscaped.none z = plain-stops z
plain-complete {t = t} (NonEscaped.textdata {b} {s} x p) z = plain_more b (s ++ t) (is-text x) ∙ ap (push b) (plain-complete p z)

inside-closes : {t : List ℕ} → Stop t → inside_of (0x22 ∷ t) ≡ Scan.found [] 1
inside-closes Stop.nothing = inside-last 0x22 refl
inside-closes (Stop.byte {c} {t} e f) = inside-close 0x22 c t refl f

quoted-complete : {s v t : List ℕ} → Quoted s v → Stop t → inside_of (s ++ 0x22 ∷ t) ≡ Scan.found v (suc (length s))
quoted-complete Quoted.none z = inside-closes z
quoted-complete {t = t} (Quoted.textdata {b} {s} x q) z =
    inside-more b (s ++ 0x22 ∷ t) (text-no-quote x) (text-inside b (is-text x)) ∙ ap (push b) (quoted-complete q z)
quoted-complete {t = t} (Quoted.comma {s} q) z = inside-more 0x2C (s ++ 0x22 ∷ t) refl comma-inside ∙ ap (push 0x2C) (quoted-complete q z)
quoted-complete {t = t} (Quoted.cr {s} q) z = inside-more 0x0D (s ++ 0x22 ∷ t) refl cr-inside ∙ ap (push 0x0D) (quoted-complete q z)
quoted-complete {t = t} (Quoted.lf {s} q) z = inside-more 0x0A (s ++ 0x22 ∷ t) refl lf-inside ∙ ap (push 0x0A) (quoted-complete q z)
quoted-complete {t = t} (Quoted.2dquote {s} q) z =
    inside-two 0x22 0x22 (s ++ 0x22 ∷ t) refl refl ∙ ap (λ (x : Scan). skip (push 0x22 x)) (quoted-complete q z)

escaped-complete : {f v t : List ℕ} → Escaped f v → Stop t → field_of (f ++ t) ≡ Scan.found v (length f)
escaped-complete {v = v} {t = t} (Escaped.dquotes {s} q) z =
    let n : suc (suc (length s)) ≡ suc (length (s ++ 0x22 ∷ [])) = rw (length-append s (0x22 ∷ [])) (omega arith) in
    field-quote 0x22 (s ++ (0x22 ∷ []) ++ t) refl
    ∙ ap (λ (x : List ℕ). skip (inside_of x)) (append_snoc s 0x22 t)
    ∙ ap skip (quoted-complete q z)
    ∙ ap (Scan.found v) n

field-stops : {t : List ℕ} → Stop t → field_of t ≡ Scan.found [] 0
field-stops Stop.nothing = field-nil
field-stops (Stop.byte {c} {t} e f) = field_plain c t f ∙ plain-stop c t e

plain-field : {s t : List ℕ} → NonEscaped s → Stop t → field_of (s ++ t) ≡ plain_of (s ++ t)
plain-field NonEscaped.none z = field-stops z ∙ sym (plain-stops z)
plain-field {t = t} (NonEscaped.textdata {b} {s} x p) z = field_plain b (s ++ t) (text-no-quote x)

pub field-complete : {f v t : List ℕ} → Field f v → Stop t → field_of (f ++ t) ≡ Scan.found v (length f)
field-complete (Field.escaped x) z = escaped-complete x z
field-complete (Field.non_escaped p) z = plain-field p z ∙ plain-complete p z

-- ---- records
record Ends (e next : List ℕ) : Type 0 where
  count : ℕ
  scan : end_of e ≡ Scan.found [] count
  left : drop count e ≡ next
  within : count ≤ length e

end-complete : {e next : List ℕ} → RecordEnd e next → Ends e next
unfolding end_of
end-complete RecordEnd.end = record { count = 0; scan = refl; left = refl; within = omega arith }
end-complete RecordEnd.crlf = record { count = 2; scan = refl; left = refl; within = omega arith }

pub record Read (s : List ℕ) (p : Pair) (next : List ℕ) : Type 0 where
  pub count : ℕ
  pub is : record_of s ≡ Parsed.parsed p count
  pub left : drop count s ≡ next
  pub within : count ≤ length s

-- the text of a record, cut behind its first field
cut : (s t e : List ℕ) → (s ++ 0x2C ∷ t) ++ e ≡ s ++ 0x2C ∷ (t ++ e)
cut s t e = append_assoc s (0x2C ∷ t) e

read-fields : {s t a b e next : List ℕ} → Field s a → Field t b → RecordEnd e next → Read (s ++ 0x2C ∷ (t ++ e)) (pair a b) next
unfolding record_of
read-fields {s} {t} {a} {b} {e} {next} x y z =
    let q = end-complete z in
    let first : field_of (s ++ 0x2C ∷ (t ++ e)) ≡ Scan.found a (length s) = field-complete x (stop-comma (t ++ e)) in
    let second : field_of (t ++ e) ≡ Scan.found b (length t) = field-complete y (stop-end z) in
    let n : suc (length s) + length t + q.count ≡ length s + suc (length t + q.count) = omega arith in
    record {
      count = suc (length s) + length t + q.count;
      is =
          ap (λ (v : Scan). with_first v (s ++ 0x2C ∷ (t ++ e))) first
          ∙ ap (with_comma a (length s)) (drop-append_seam s (0x2C ∷ (t ++ e)))
          ∙ ap (λ (v : Scan). with_second a (suc (length s)) v (t ++ e)) second
          ∙ ap (λ (l : List ℕ). with_end a b (suc (length s) + length t) (end_of l)) (drop-append_seam t e)
          ∙ ap (with_end a b (suc (length s) + length t)) q.scan;
      left =
          ap (λ (k : ℕ). drop k (s ++ 0x2C ∷ (t ++ e))) n
          ∙ drop-append-add s (0x2C ∷ (t ++ e)) (suc (length t + q.count))
          ∙ drop-append-add t e q.count
          ∙ q.left;
      within = omega (arith, q.within, length-append s (0x2C ∷ (t ++ e)), length-append t e);
    }

-- a record of two fields is one, a comma and another
read-record : {r e next a b : List ℕ} → Record r (a ∷ b ∷ []) → RecordEnd e next → Read (r ++ e) (pair a b) next
read-record {e = e} (Record.more {s} x (Record.last {s = t} y)) z = rw (cut s t e) (read-fields x y z)
read-record (Record.more x (Record.more y w)) z = elim w [ ]

begins-two : {s next a b : List ℕ} → Begins s (a ∷ b ∷ []) next → Read s (pair a b) next
begins-two (Begins.begins x z) = read-record x z

pub begins-complete : {s next : List ℕ} (p : Pair) → Begins s (values p) next → Read s p next
begins-complete (pair a b) x = begins-two x
