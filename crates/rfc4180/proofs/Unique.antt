-- A record is derived in one way only.
use mathlib.Core.Path.{◌≡◌, refl, sym, ◌∙◌, ap}
use mathlib.Core.List.{List, [], ◌∷◌, ◌++◌, append-nil, append_assoc}
use Prim.Native.Nat.{ℕ}
use native.Mathlib.Omega.{arith}
use lib.ListN.{length, take, drop}
use lib.Seq.{take-append_seam, drop-append_seam}
use Rattle.rfc4180.specs.Grammar.{TextData, NonEscaped, Escaped, Field, Record, RecordEnd, Begins}
use Rattle.rfc4180.specs.Reader.{Scan, field_of}
use Rattle.rfc4180.proofs.Complete.{Stop, stop-comma, stop-end, field-complete}

one_field : (s t a s' t' a' : List ℕ) → Field s a → Stop t → Field s' a' → Stop t' → s ++ t ≡ s' ++ t' → (s ≡ s') × (a ≡ a') × (t ≡ t')
one_field s t a s' t' a' x z x' z' e =
    let f : Scan.found a (length s) ≡ Scan.found a' (length s') = sym (field-complete x z) ∙ ap field_of e ∙ field-complete x' z' in
    let n : length s ≡ length s' = cc in (
      sym (take-append_seam s t) ∙ ap (take (length s)) e ∙ ap (λ (k : ℕ). take k (s' ++ t')) n ∙ take-append_seam s' t',
      cc,
      sym (drop-append_seam s t) ∙ ap (drop (length s)) e ∙ ap (λ (k : ℕ). drop k (s' ++ t')) n ∙ drop-append_seam s' t',
    )

pub one_split : (s t a b s' t' a' b' : List ℕ) → Field s a → Field t b → Field s' a' → Field t' b' → s ++ 0x2C ∷ t ≡ s' ++ 0x2C ∷ t'
    → (s ≡ s') × (a ≡ a') × (t ≡ t') × (b ≡ b')
one_split s t a b s' t' a' b' x y x' y' e =
    let f = one_field s (0x2C ∷ t) a s' (0x2C ∷ t') a' x (stop-comma t) x' (stop-comma t') e in
    let q : t ≡ t' = ap (drop 1) f.2 in
    let g = one_field t [] b t' [] b' y Stop.nothing y' Stop.nothing (append-nil t ∙ q ∙ sym (append-nil t')) in
    (f.0, f.1, q, g.1)

-- ---- a record of any number of fields
-- behind its last field stands its end, which is no comma
no-comma : {e next t : List ℕ} → RecordEnd e next → e ≡ 0x2C ∷ t → ⊥
no-comma RecordEnd.end e = cc
no-comma (RecordEnd.crlf {s}) e = let z : ◌≡◌ {A = ℕ} 0x0D 0x2C = cc in omega arith

one-values : {r s e f t u : List ℕ} {vs ws : List (List ℕ)} → Record r vs → RecordEnd e t → Record s ws → RecordEnd f u → r ++ e ≡ s ++ f → (vs ≡ ws) × (e ≡ f)
one-values {e = e} {f = f} (Record.last {s} {v} x) y (Record.last {s = s'} {v = v'} x') y' q =
    let o = one_field s e v s' f v' x (stop-end y) x' (stop-end y') q in
    (rw o.1, o.2)
one-values {e = e} {f = f} (Record.last {s} {v} x) y (Record.more {s = s'} {t = t'} {v = v'} x' k') y' q =
    let o = one_field s e v s' (0x2C ∷ (t' ++ f)) v' x (stop-end y) x' (stop-comma (t' ++ f)) (q ∙ append_assoc s' (0x2C ∷ t') f) in
    absurd (no-comma y o.2)
one-values {e = e} {f = f} (Record.more {s} {t} {v} x k) y (Record.last {s = s'} {v = v'} x') y' q =
    let o = one_field s (0x2C ∷ (t ++ e)) v s' f v' x (stop-comma (t ++ e)) x' (stop-end y') (sym (append_assoc s (0x2C ∷ t) e) ∙ q) in
    absurd (no-comma y' (sym o.2))
one-values {e = e} {f = f} (Record.more {s} {t} {v} x k) y (Record.more {s = s'} {t = t'} {v = v'} x' k') y' q =
    let o = one_field s (0x2C ∷ (t ++ e)) v s' (0x2C ∷ (t' ++ f)) v' x (stop-comma (t ++ e)) x' (stop-comma (t' ++ f))
    (sym (append_assoc s (0x2C ∷ t) e) ∙ q ∙ append_assoc s' (0x2C ∷ t') f) in
    let w = one-values k y k' y' (ap (drop 1) o.2) in
    (rw (o.1, w.0), w.1)

one_end : {e f t u : List ℕ} → RecordEnd e t → RecordEnd f u → e ≡ f → t ≡ u
one_end RecordEnd.end RecordEnd.end q = refl
one_end RecordEnd.end RecordEnd.crlf q = cc
one_end RecordEnd.crlf RecordEnd.end q = cc
one_end RecordEnd.crlf RecordEnd.crlf q = ap (drop 2) q

one-beginning : {s s' t u : List ℕ} {vs ws : List (List ℕ)} → Begins s vs t → Begins s' ws u → s ≡ s' → (vs ≡ ws) × (t ≡ u)
one-beginning (Begins.begins x y) (Begins.begins x' y') q = let o = one-values x y x' y' q in (o.0, one_end y y' o.1)

pub one_record : (s : List ℕ) (vs ws : List (List ℕ)) (t u : List ℕ) → Begins s vs t → Begins s ws u → (vs ≡ ws) × (t ≡ u)
one_record s vs ws t u x y = one-beginning x y refl

-- ---- escaped or not
quote-first : (s : List ℕ) → NonEscaped (0x22 ∷ s) → ⊥
quote-first s (NonEscaped.textdata d p) = no-quote d refl
  where
    no-quote : {b : ℕ} → TextData b → b ≡ 0x22 → ⊥
    no-quote (TextData.low l u) e = omega arith
    no-quote (TextData.middle l u) e = omega arith
    no-quote (TextData.high l u) e = omega arith

pub one_kind : (s v : List ℕ) → Escaped s v → NonEscaped s → ⊥
one_kind s v (Escaped.dquotes {s = q} k) p = quote-first (q ++ 0x22 ∷ []) p
