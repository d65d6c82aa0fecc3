-- A field begins with a quote or not; digits at its start are all of it where no field goes on behind them.
use Rattle.std.specs.Prelude.{Some, None}
use mathlib.Core.Path.{◌≡◌, refl, sym, ◌∙◌}
use mathlib.Core.Bool.{Bool, true, false}
use mathlib.Core.Logic.{◌≢◌}
use mathlib.Core.List.{List, [], ◌∷◌}
use Prim.Native.Nat.{ℕ, suc, ◌+◌, ◌<◌}
use native.Mathlib.Omega.{arith}
use native.Mathlib.Nat.{add-zero}
use native.Mathlib.Numerals.{add-one}
use borrow.Author.Tests.{ne_eqb, eqb-true}
use lib.Dec.{eqb}
use lib.ListN.{length, get_or, drop, drop_of_length-le, get_or-eq_default}
use lib.Seq.{drop-cons, get_or-drop}
use Rattle.text.specs.declared.Run.{Run}
use Rattle.text.specs.Numbers.{run_at}
use Rattle.text.proofs.Test.{by-test, by-lt}
use Rattle.rfc4180.specs.Reader.{is_text, Scan, plain_of, inside_of, end_of}
use Rattle.rfc4180.proofs.Laws.{plain-nil, plain-stop, inside-last, inside-close, field-nil, field-quote, field_plain}
use Rattle.splitting.specs.Fields.{end_from, field_from, field_at, Stops}
use Rattle.splitting.proofs.Scans.{field_skip, end-nothing, plain-scanner, inside-scanner, field-digits}

-- ---- how it begins
module _ (text : List ℕ) (at : ℕ) {opens : Bool} (o : opens ≡ eqb (get_or text at 0) 0x22) where
  pub inside : opens ≡ true → at < length text
  inside t = by-lt at (length text)
      (λ h. h)
      (λ h. absurd (omega (arith, eqb-true (get_or text at 0) 0x22 (sym o ∙ t), get_or-eq_default text 0 h)))

  pub quoted : opens ≡ true → field_from (at + 1) (inside_of (drop (at + 1) text)) ≡ field_at text at
  quoted t =
      rw (add-one at, drop-cons text at 0 (inside t), field-quote (get_or text at 0) (drop (suc at) text) (sym o ∙ t))
      (sym (field_skip at (inside_of (drop (suc at) text))))

  pub plain : opens ≡ false → field_from at (plain_of (drop at text)) ≡ field_at text at
  plain t = by-lt at (length text)
      (λ h. rw (drop-cons text at 0 h, field_plain (get_or text at 0) (drop (suc at) text) (sym o ∙ t)))
      (λ h. rw (drop_of_length-le text h, plain-nil, field-nil))

-- ---- where no field goes on
pub first_byte : (text : List ℕ) (at : ℕ) → get_or (drop at text) 0 0 ≡ get_or text at 0
first_byte text at = get_or-drop at text 0 0 ∙ rw (add-zero at)

plain-stops : (s : List ℕ) → is_text (get_or s 0 0) ≡ false → plain_of s ≡ Scan.found [] 0
plain-stops [] e = plain-nil
plain-stops (b ∷ s) e = plain-stop b s e

pub quote-closes : (b : ℕ) (s : List ℕ) → eqb b 0x22 ≡ true → get_or s 0 0 ≢ 0x22 → inside_of (b ∷ s) ≡ Scan.found [] 1
quote-closes b [] e n = inside-last b e
quote-closes b (c ∷ s) e n = inside-close b c s e (ne_eqb c 0x22 n)

-- a comma
pub comma-stops : (text : List ℕ) (at : ℕ) → eqb (get_or text at 0) 44 ≡ true → Stops text at
unfolding is_text
comma-stops text at t = let e = eqb-true (get_or text at 0) 44 t in (rw e, λ q. omega (arith, e, q))

-- the end of a record
byte-stops : (s : List ℕ) (at : ℕ) {next : ℕ} → Some next ≡ end_from at (end_of s) → (is_text (get_or s 0 0) ≡ false) × (get_or s 0 0 ≢ 0x22)
unfolding is_text end_of
byte-stops [] at e = (refl, λ q. omega (arith, q))
byte-stops (b ∷ []) at {next} e = cc
byte-stops (b ∷ c ∷ s) at {next} e = by-test (eqb b 0x0D)
    (λ t. let q = eqb-true b 0x0D t in (rw q, λ k. omega (arith, q, k)))
    (λ t. let r : Some next ≡ None = rw t at e in cc)

pub end-stops : (text : List ℕ) (at : ℕ) {next : ℕ} → Some next ≡ end_from at (end_of (drop at text)) → Stops text at
end-stops text at e = rw (first_byte text at) at (byte-stops (drop at text) at e)

-- ---- digits that are all of a field
module _ (text : List ℕ) (at : ℕ) {r : Run} (p : r ≡ run_at text at) where
  plain_end : Stops text r.end → Some r.end ≡ end_from r.end (plain_of (drop r.end text))
  plain_end t = rw (plain-stops (drop r.end text) (rw (first_byte text r.end) t.0)) (sym (end-nothing r.end))

  pub plain-digits : Stops text r.end → Some r ≡ field_from at (plain_of (drop at text))
  plain-digits t = field-digits plain-scanner text at p (plain_end t) (omega arith)

  quoted-end : r.end < length text → eqb (get_or text r.end 0) 34 ≡ true → Stops text (r.end + 1)
      → Some (r.end + 1) ≡ end_from r.end (inside_of (drop r.end text))
  quoted-end h q t =
      let n : get_or (drop (suc r.end) text) 0 0 ≢ 0x22 = rw (first_byte text (suc r.end), ← add-one r.end) t.1 in
      rw (drop-cons text r.end 0 h, quote-closes (get_or text r.end 0) (drop (suc r.end) text) q n)

  pub quoted-digits : r.end < length text → eqb (get_or text r.end 0) 34 ≡ true → Stops text (r.end + 1)
      → Some (record { number = r.number; end = r.end + 1 }) ≡ field_from at (inside_of (drop at text))
  quoted-digits h q t = field-digits inside-scanner text at p (quoted-end h q t) (omega arith)
