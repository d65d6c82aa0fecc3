-- One byte further: a quote that closes or is doubled, a byte of the value, or one that is not allowed.
use mathlib.Core.Path.{◌≡◌, sym, ◌∙◌}
use mathlib.Core.Bool.{Bool, true, false}
use mathlib.Core.List.{List, ◌∷◌}
use Prim.Native.Nat.{ℕ, suc, ◌+◌, ◌≤◌, ◌<◌}
use native.Mathlib.Omega.{arith}
use native.Mathlib.Numerals.{add-one}
use borrow.Author.Tests.{eq-eqb, ne_eqb, eqb-false}
use lib.Dec.{eqb}
use lib.ListN.{length, get_or, drop, drop_of_length-le}
use lib.Seq.{drop-cons}
use Rattle.std.specs.Prelude.{Option, Some, None}
use Rattle.rfc4180.specs.Reader.{is_inside, push, skip, inside_of}
use Rattle.rfc4180.proofs.Laws.{inside-nil, inside-two, inside-break, inside-more}
use Rattle.splitting.specs.Fields.{end_from}
use Rattle.splitting.proofs.Scans.{Going, end-push, end-skip}
use Rattle.splitting.proofs.Parts.{first_byte, quote-closes}
use Rattle.splitting.proofs.quoted_end.Goals as goal

module _ {text : List ℕ} {goal : Option ℕ} {i : ℕ} (v : Going inside_of text goal i) where
  module _ (h : i < length text) where
    front : end_from i (inside_of (get_or text i 0 ∷ drop (suc i) text)) ≡ goal
    front = rw (drop-cons text i 0) at v.same

    module _ (q : get_or text i 0 ≡ 34) {t : Bool} (e : t ≡ eqb (get_or text (i + 1) 0) 34) where
      quote : eqb (get_or text i 0) 34 ≡ true
      quote = eq-eqb (get_or text i 0) 34 q

      closes : t ≡ false → Some (i + 1) ≡ goal
      closes n =
          let m : get_or (drop (suc i) text) 0 0 ≡ 34 → ⊥ = rw (first_byte text (suc i), ← add-one i) (eqb-false (get_or text (i + 1) 0) 34 (sym e ∙ n)) in
          rw (quote-closes (get_or text i 0) (drop (suc i) text) quote m) at front

      doubled : t ≡ true → i + 1 < length text → Going inside_of text goal (i + 1 + 1)
      doubled n k =
          let l : suc i < length text = omega arith in
          let m : eqb (get_or text (suc i) 0) 34 ≡ true = rw (← add-one i) (sym e ∙ n) in
          let two : end_from i (inside_of (get_or text i 0 ∷ get_or text (suc i) 0 ∷ drop (suc (suc i)) text)) ≡ goal = rw (drop-cons text (suc i) 0 l) at front in
          let f : end_from i (skip (push 34 (inside_of (drop (suc (suc i)) text)))) ≡ goal =
          rw (inside-two (get_or text i 0) (get_or text (suc i) 0) (drop (suc (suc i)) text) quote m) at two in
          rw (add-one (i + 1), add-one i)
          (record { same = sym (end-push (suc i) 34 (inside_of (drop (suc (suc i)) text))) ∙ sym (end-skip i (push 34 (inside_of (drop (suc (suc i)) text)))) ∙ f })

    module _ (q : get_or text i 0 ≡ 34 → ⊥) {t : Bool} (e : t ≡ is_inside (get_or text i 0)) where
      breaks : t ≡ false → None ≡ goal
      breaks n = rw (inside-break (get_or text i 0) (drop (suc i) text) (ne_eqb (get_or text i 0) 34 q) (sym e ∙ n)) at front

      goes_on : t ≡ true → Going inside_of text goal (i + 1)
      goes_on n =
          let f : end_from i (push (get_or text i 0) (inside_of (drop (suc i) text))) ≡ goal =
          rw (inside-more (get_or text i 0) (drop (suc i) text) (ne_eqb (get_or text i 0) 34 q) (sym e ∙ n)) at front in
          rw (add-one i) (record { same = sym (end-push i (get_or text i 0) (inside_of (drop (suc i) text))) ∙ f })

  unclosed : length text ≤ i → None ≡ goal
  unclosed h = rw (drop_of_length-le text h, inside-nil) at v.same

pub returns-then-not-stands : goal.returns-then-not-stands
returns-then-not-stands c = closes c.loop-end.invariant c.loop-end-test.true c.if-b-eq34.true c.stands.ensures.there c.if-not-stands.true

pub loop-end-preserved-then-b-eq34 : goal.loop-end-preserved-then-b-eq34
loop-end-preserved-then-b-eq34 c =
    doubled c.loop-end.invariant c.loop-end-test.true c.if-b-eq34.true c.stands.ensures.there c.if-not-stands.false c.if-not-stands.ensures.within

pub returns-then-not-is_inside : goal.returns-then-not-is_inside
returns-then-not-is_inside c = breaks c.loop-end.invariant c.loop-end-test.true c.if-b-eq34.false c.is_inside.ensures c.if-not-is_inside.true

pub loop-end-preserved : goal.loop-end-preserved
loop-end-preserved c =
    goes_on c.loop-end.invariant c.loop-end-test.true c.if-b-eq34.false c.is_inside.ensures c.if-not-is_inside.false

pub returns : goal.returns
returns c = unclosed c.loop-end.invariant c.loop-end-test.false
