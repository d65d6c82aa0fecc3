-- What the reader finds, the grammar derives.
use mathlib.Core.Path.{◌≡◌, refl, sym, ◌∙◌, ap, subst}
use mathlib.Core.Bool.{true, false}
use mathlib.Core.List.{List, [], ◌∷◌, ◌++◌, append_assoc}
use Prim.Native.Nat.{ℕ, suc, ◌+◌}
use native.Mathlib.Omega.{arith}
use borrow.Author.Tests.{eqb-true}
use lib.Dec.{eqb}
use lib.ListN.{drop}
use lib.Seq.{drop-drop, append_snoc}
use Rattle.rfc4180.specs.Grammar.{TextData, NonEscaped, Quoted, Escaped, Field, Record, RecordEnd, Begins, Pair, values}
use Rattle.rfc4180.specs.Reader.{is_text, is_inside, Scan, push, skip, plain_of, inside_of, field_of, Parsed, end_of, with_end, with_second, with_comma, with_first, record_of}
use Rattle.text.proofs.Test.{by-test}
use Rattle.rfc4180.proofs.Bytes.{text-data, inside-cases}
use Rattle.rfc4180.proofs.Laws.{plain-nil, plain_more, plain-stop, inside-nil, inside-last, inside-close, inside-two, inside-break, inside-more, field-nil, field-quote, field_plain}

-- ---- without quotes
abbrev PlainOk : List ℕ → Scan → Type 0
PlainOk s Scan.broken = ⊥
PlainOk s (Scan.found v n) = NonEscaped v × (s ≡ v ++ drop n s)

plain_push : (b : ℕ) (s : List ℕ) (x : Scan) → TextData b → PlainOk s x → PlainOk (b ∷ s) (push b x)
plain_push b s Scan.broken d k = k
plain_push b s (Scan.found v n) d k = (NonEscaped.textdata d k.0, ap (λ (t : List ℕ). b ∷ t) k.1)

plain-sound : (s : List ℕ) → PlainOk s (plain_of s)
plain-sound [] = rw plain-nil (NonEscaped.none, refl)
plain-sound (b ∷ s) = by-test (is_text b)
    (λ e. rw (plain_more b s e) (plain_push b s (plain_of s) (text-data b e) (plain-sound s)))
    (λ e. rw (plain-stop b s e) (NonEscaped.none, refl))

-- ---- between quotes
abbrev InsideOk : List ℕ → Scan → Type 0
InsideOk s Scan.broken = Unit {0}
InsideOk s (Scan.found v n) = (q : List ℕ) × Quoted q v × (s ≡ q ++ 0x22 ∷ drop n s)

quoted-push : (b : ℕ) {q v : List ℕ} → is_inside b ≡ true → Quoted q v → Quoted (b ∷ q) (b ∷ v)
quoted-push b {q} {v} e k = inside-cases b e
    (λ p. rw p (Quoted.comma k))
    (λ p. rw p (Quoted.cr k))
    (λ p. rw p (Quoted.lf k))
    (λ d. Quoted.textdata d k)

inside-push : (b : ℕ) (s : List ℕ) (x : Scan) → is_inside b ≡ true → InsideOk s x → InsideOk (b ∷ s) (push b x)
inside-push b s Scan.broken e k = k
inside-push b s (Scan.found v n) e k = (b ∷ k.0, quoted-push b e k.1, ap (λ (t : List ℕ). b ∷ t) k.2)

inside-double : (s : List ℕ) (x : Scan) → InsideOk s x → InsideOk (0x22 ∷ 0x22 ∷ s) (skip (push 0x22 x))
inside-double s Scan.broken k = k
inside-double s (Scan.found v n) k = (0x22 ∷ 0x22 ∷ k.0, Quoted.2dquote k.1, ap (λ (t : List ℕ). 0x22 ∷ 0x22 ∷ t) k.2)

inside-quote : (s : List ℕ) → InsideOk (0x22 ∷ s) (Scan.found [] 1)
inside-quote s = ([], Quoted.none, refl)

inside-other : (b : ℕ) (s : List ℕ) → eqb b 0x22 ≡ false → InsideOk s (inside_of s) → InsideOk (b ∷ s) (inside_of (b ∷ s))
inside-other b s e k = by-test (is_inside b)
    (λ t. rw (inside-more b s e t) (inside-push b s (inside_of s) t k))
    (λ t. rw (inside-break b s e t) tt)

inside-sound : (s : List ℕ) → InsideOk s (inside_of s)
inside-sound [] = rw inside-nil tt
inside-sound (b ∷ []) = by-test (eqb b 0x22)
    (λ e. rw (inside-last b e, eqb-true b 0x22 e) (inside-quote []))
    (λ e. inside-other b [] e (rw inside-nil tt))
inside-sound (b ∷ c ∷ s) = by-test (eqb b 0x22)
    (λ e. by-test (eqb c 0x22)
    (λ f. rw (inside-two b c s e f, eqb-true b 0x22 e, eqb-true c 0x22 f) (inside-double s (inside_of s) (inside-sound s)))
    (λ f. rw (inside-close b c s e f, eqb-true b 0x22 e) (inside-quote (c ∷ s))))
    (λ e. inside-other b (c ∷ s) e (inside-sound (c ∷ s)))

-- ---- a field
abbrev FieldOk : List ℕ → Scan → Type 0
FieldOk s Scan.broken = Unit {0}
FieldOk s (Scan.found v n) = (f : List ℕ) × Field f v × (s ≡ f ++ drop n s)

plain-field : (s : List ℕ) (x : Scan) → PlainOk s x → FieldOk s x
plain-field s Scan.broken k = absurd k
plain-field s (Scan.found v n) k = (v, Field.non_escaped k.0, k.1)

quoted-field : (s : List ℕ) (x : Scan) → InsideOk s x → FieldOk (0x22 ∷ s) (skip x)
quoted-field s Scan.broken k = k
quoted-field s (Scan.found v n) k = (
  0x22 ∷ (k.0 ++ 0x22 ∷ []),
  Field.escaped (Escaped.dquotes k.1),
  ap (λ (t : List ℕ). 0x22 ∷ t) (k.2 ∙ sym (append_snoc k.0 0x22 (drop n s))),
)

field-sound : (s : List ℕ) → FieldOk s (field_of s)
field-sound [] = rw field-nil ([], Field.non_escaped NonEscaped.none, refl)
field-sound (b ∷ s) = by-test (eqb b 0x22)
    (λ e. rw (field-quote b s e, eqb-true b 0x22 e) (quoted-field s (inside_of s) (inside-sound s)))
    (λ e. rw (field_plain b s e) (plain-field (b ∷ s) (plain_of (b ∷ s)) (plain-sound (b ∷ s))))

-- ---- a record
abbrev EndOk : List ℕ → Scan → Type 0
EndOk s Scan.broken = Unit {0}
EndOk s (Scan.found v n) = RecordEnd s (drop n s)

end-sound : (s : List ℕ) → EndOk s (end_of s)
unfolding end_of
end-sound [] = RecordEnd.end
end-sound (b ∷ []) = tt
end-sound (b ∷ c ∷ s) = by-test (eqb b 0x0D)
    (λ e. by-test (eqb c 0x0A)
    (λ f. rw (e, f) (rw (eqb-true b 0x0D e, eqb-true c 0x0A f) RecordEnd.crlf))
    (λ f. rw (e, f) tt))
    (λ e. rw e tt)

abbrev RecordOk : List ℕ → Parsed → Type 0
RecordOk s Parsed.broken = Unit {0}
RecordOk s (Parsed.parsed p n) = Begins s (values p) (drop n s)

module _ (s f a : List ℕ) (n : ℕ) (x : Field f a) (first : s ≡ f ++ drop n s) where
  module _ (t g b : List ℕ) (m : ℕ) (comma : drop n s ≡ 0x2C ∷ t) (y : Field g b) (second : t ≡ g ++ drop m t) where
    -- what is left behind both fields
    behind : drop (suc n + m) s ≡ drop m t
    behind =
        let e : suc n + m ≡ n + suc m = omega arith in
        ap (λ (k : ℕ). drop k s) e ∙ sym (drop-drop (suc m) n s) ∙ ap (drop (suc m)) comma

    text : s ≡ (f ++ 0x2C ∷ g) ++ drop (suc n + m) s
    text =
        first
        ∙ ap (λ (l : List ℕ). f ++ l) (comma ∙ ap (λ (l : List ℕ). 0x2C ∷ l) (second ∙ ap (λ (l : List ℕ). g ++ l) (sym behind)))
        ∙ sym (append_assoc f (0x2C ∷ g) (drop (suc n + m) s))

    end-ok : (z : Scan) → EndOk (drop (suc n + m) s) z → RecordOk s (with_end a b (suc n + m) z)
    end-ok Scan.broken k = tt
    end-ok (Scan.found v j) k =
        let e : drop j (drop (suc n + m) s) ≡ drop (suc n + m + j) s = drop-drop j (suc n + m) s in
        let w : RecordEnd (drop (suc n + m) s) (drop (suc n + m + j) s) = rw (← e) k in
        let r : Begins ((f ++ 0x2C ∷ g) ++ drop (suc n + m) s) (a ∷ b ∷ []) (drop (suc n + m + j) s) = Begins.begins (Record.more x (Record.last y)) w in
        subst (λ (l : List ℕ). Begins l (a ∷ b ∷ []) (drop (suc n + m + j) s)) (sym text) r

  second-ok : (t : List ℕ) (z : Scan) → drop n s ≡ 0x2C ∷ t → FieldOk t z → RecordOk s (with_second a (suc n) z t)
  second-ok t Scan.broken c k = tt
  second-ok t (Scan.found b m) c k =
      rw (← behind t k.0 b m c k.1 k.2)
      (end-ok t k.0 b m c k.1 k.2 (end_of (drop (suc n + m) s)) (end-sound (drop (suc n + m) s)))

  comma-ok : (l : List ℕ) → drop n s ≡ l → RecordOk s (with_comma a n l)
  comma-ok [] e = tt
  comma-ok (c ∷ t) e = by-test (eqb c 0x2C)
      (λ q. rw q (second-ok t (field_of t) (e ∙ ap (λ (d : ℕ). d ∷ t) (eqb-true c 0x2C q)) (field-sound t)))
      (λ q. rw q tt)

first-ok : (s : List ℕ) (z : Scan) → FieldOk s z → RecordOk s (with_first z s)
first-ok s Scan.broken k = tt
first-ok s (Scan.found a n) k = comma-ok s k.0 a n k.1 k.2 (drop n s) refl

record-ok : (s : List ℕ) → RecordOk s (record_of s)
unfolding record_of
record-ok s = first-ok s (field_of s) (field-sound s)

pub record-sound : (s : List ℕ) {p : Pair} {n : ℕ} → record_of s ≡ Parsed.parsed p n → Begins s (values p) (drop n s)
record-sound s e = rw e at (record-ok s)
