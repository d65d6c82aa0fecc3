-- The next field is a number or not; with it the fields end, go on, or are too many.
use Rattle.std.proofs.Common.{◌≡◌, ◌+◌, ◌≤◌, ◌<◌, ◌++◌, ℕ, suc, true, false, List, [], ◌∷◌, length, drop, set, map, refl, sym, ap, ◌∙◌, arith, length-append, length-drop}
use lib.ListN.{length-map}
use lib.Seq.{append_snoc, drop-drop}
use Rattle.std.specs.Prelude.{None, Some}
use Rattle.text.specs.Bytes.{byte_at}
use Rattle.text.specs.Fields.{fields_of, first_field}
use Rattle.text.specs.Numbers.{value_of, is_number}
use Rattle.text.proofs.Bytes.{byte_le}
use Rattle.text.proofs.Fields.{only-field, first-whole, fields-cut, first_field_lem}
use Rattle.text.proofs.Values.{unreadable-scan, number-scan}
use Rattle.lines.specs.Grammar.{most_numbers, padded, are_numbers, numbers_of}
use Rattle.lines.proofs.Lists.{numbers-all, numbers-wrong, numbers-many, are-none, are-more, are-wrong, stored_more}
use Rattle.parsing.proofs.numbers_of.Invariants.{SoFar}
use Rattle.parsing.proofs.numbers_of.Goals as goal

module _ {s : List ℕ} {from : ℕ} {values : List ℕ} {count at : ℕ} (v : SoFar s from values count at) where
  -- the next field, and those behind it
  first : List ℕ
  first = first_field (drop at s)

  rest : List (List ℕ)
  rest = (first_field_lem (drop at s)).0

  cut-here : fields_of (drop from s) ≡ v.fields ++ first ∷ rest
  unfolding first rest
  cut-here = v.cut ∙ ap (λ (fs : List (List ℕ)). v.fields ++ fs) (first_field_lem (drop at s)).1

  wrong : is_number (first_field (drop at s)) ≡ false → None ≡ numbers_of (fields_of (drop from s))
  unfolding first
  wrong e = sym (ap numbers_of cut-here ∙ numbers-wrong (v.fields ++ first ∷ rest) (are-wrong v.fields first rest e))

  many : most_numbers ≤ count → None ≡ numbers_of (fields_of (drop from s))
  many h =
      let k : most_numbers < length (v.fields ++ first ∷ rest) = omega (arith, v.counted, length-append v.fields (first ∷ rest)) in
      sym (ap numbers_of cut-here ∙ numbers-many (v.fields ++ first ∷ rest) k)

  module _ (h : count < most_numbers) {n end : ℕ}
      (p : (is_number (first_field (drop at s)) ≡ true) × (value_of (first_field (drop at s)) ≡ n) × (end ≡ at + byte_at 9 (drop at s))) where
    -- the fields with this one
    more : List (List ℕ)
    more = v.fields ++ first ∷ []

    more-each : are_numbers more ≡ true
    unfolding more first
    more-each = are-more v.fields first v.each p.0

    more-counted : count + 1 ≡ length more
    unfolding more
    more-counted = omega (arith, v.counted, length-append v.fields (first ∷ []))

    more-stored : set values count n ≡ padded (map value_of more)
    unfolding more first
    more-stored =
        let k : length v.fields < most_numbers = omega (arith, v.counted) in
        rw (v.stored, v.counted, ← p.1) (stored_more v.fields first k)

    last : length s ≤ end → Some (record { count = count + 1; values = set values count n }) ≡ numbers_of (fields_of (drop from s))
    unfolding more first
    last k =
        let e : byte_at 9 (drop at s) ≡ length (drop at s) = omega (arith, p.2, byte_le 9 (drop at s), length-drop at s) in
        let f : fields_of (drop from s) ≡ more = v.cut ∙ rw (only-field (drop at s) e, first-whole (drop at s) e) in
        rw (more-counted ∙ sym (length-map more value_of), more-stored) (sym (ap numbers_of f ∙ numbers-all more (omega (arith, more-counted)) more-each))

    next : end < length s → SoFar s from (set values count n) (count + 1) (end + 1)
    unfolding more first
    next k =
        let e : byte_at 9 (drop at s) < length (drop at s) = omega (arith, p.2, length-drop at s) in
        let j : at + suc (byte_at 9 (drop at s)) ≡ end + 1 = omega (arith, p.2) in
        let g : drop (suc (byte_at 9 (drop at s))) (drop at s) ≡ drop (end + 1) s = drop-drop (suc (byte_at 9 (drop at s))) at s ∙ ap (λ (m : ℕ). drop m s) j in
        record {
          fields = more;
          cut = v.cut ∙ rw (fields-cut (drop at s) e, g) (sym (append_snoc v.fields first (fields_of (drop (end + 1) s))));
          each = more-each;
          counted = more-counted;
          stored = more-stored;
        }

pub loop-count-init : goal.loop-count-init
loop-count-init c = record { fields = []; cut = refl; each = are-none; counted = refl; stored = refl }

pub returns-in_err-number : goal.returns-in_err-number
returns-in_err-number c = rw c.from_residual.ensures (wrong c.loop-count.invariant (unreadable-scan _ _ c.in_err-number.ensures))

pub returns-then-s-end : goal.returns-then-s-end
returns-then-s-end c = last c.loop-count.invariant c.loop-count-test.true (number-scan _ _ _ c.in_ok-number.ensures) c.if-s-end.true

pub loop-count-preserved : goal.loop-count-preserved
loop-count-preserved c = next c.loop-count.invariant c.loop-count-test.true (number-scan _ _ _ c.in_ok-number.ensures) c.if-s-end.false

pub returns : goal.returns
returns c = many c.loop-count.invariant (omega arith)
