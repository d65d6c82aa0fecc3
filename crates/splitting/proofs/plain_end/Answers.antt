-- One byte further: it is TEXTDATA, or the field ends there.
use mathlib.Core.Path.{◌≡◌, sym, ◌∙◌}
use mathlib.Core.Bool.{Bool, true, false}
use mathlib.Core.List.{List, ◌∷◌}
use Prim.Native.Nat.{ℕ, suc, ◌+◌, ◌≤◌, ◌<◌}
use native.Mathlib.Numerals.{add-one}
use lib.ListN.{length, get_or, drop, drop_of_length-le}
use lib.Seq.{drop-cons}
use Rattle.std.specs.Prelude.{Option, Some}
use Rattle.rfc4180.specs.Reader.{is_text, push, plain_of}
use Rattle.rfc4180.proofs.Laws.{plain-nil, plain_more, plain-stop}
use Rattle.splitting.specs.Fields.{end_from}
use Rattle.splitting.proofs.Scans.{Going, end-nothing, end-push}
use Rattle.splitting.proofs.plain_end.Goals as goal

module _ {text : List ℕ} {goal : Option ℕ} {end : ℕ} (v : Going plain_of text goal end) where
  module _ (h : end < length text) {t : Bool} (e : t ≡ is_text (get_or text end 0)) where
    front : end_from end (plain_of (get_or text end 0 ∷ drop (suc end) text)) ≡ goal
    front = rw (drop-cons text end 0) at v.same

    stops : t ≡ false → Some end ≡ goal
    stops n = sym (end-nothing end) ∙ rw (plain-stop (get_or text end 0) (drop (suc end) text) (sym e ∙ n)) at front

    goes_on : t ≡ true → Going plain_of text goal (end + 1)
    goes_on n =
        let f : end_from end (push (get_or text end 0) (plain_of (drop (suc end) text))) ≡ goal =
        rw (plain_more (get_or text end 0) (drop (suc end) text) (sym e ∙ n)) at front in
        rw (add-one end) (record { same = sym (end-push end (get_or text end 0) (plain_of (drop (suc end) text))) ∙ f })

  ends : length text ≤ end → Some end ≡ goal
  ends h = sym (end-nothing end) ∙ rw (drop_of_length-le text h, plain-nil) at v.same

pub loop-end-preserved : goal.loop-end-preserved
loop-end-preserved c = goes_on c.loop-end.invariant c.loop-end-test.true c.is_text.ensures c.if-is_text.true

pub returns-else-is_text : goal.returns-else-is_text
returns-else-is_text c = stops c.loop-end.invariant c.loop-end-test.true c.is_text.ensures c.if-is_text.false

pub returns-after-loop-end : goal.returns-after-loop-end
returns-after-loop-end c = ends c.loop-end.invariant c.loop-end-test.false
