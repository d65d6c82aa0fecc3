-- A digit stored leaves the digits of a tenth to be stored.
use Rattle.std.proofs.Common.{◌≡◌, ◌+◌, ◌-◌, ◌/◌, ◌%◌, ◌<◌, ℕ, List, length, set, sym, ◌∙◌, arith}
use Rattle.text.specs.Digits.{digits_of}
use Rattle.text.proofs.Digits.{one-digit, more-digits, some-digit}
use Rattle.text.proofs.Test.{by-lt}
use Rattle.writing.proofs.Counts.{one_place, place-more, sets_last}
use Rattle.writing.proofs.put_number.Invariants.{Left}
use Rattle.writing.proofs.put_number.Goals as goal

stores : {goal out : List ℕ} {at place rest : ℕ} → Left goal at out place rest → at < place
    → Left goal at (set out (place - 1) (48 + rest % 10)) (place - 1) (rest / 10)
stores {goal} {out} {at} {place} {rest} v h = by-lt rest 10
    (λ l.
    let here : place - 1 ≡ at = omega (arith, v.fill h, one_place rest l) in
    let last : rest % 10 ≡ rest = omega arith in
    record {
      fill = λ k. absurd (omega arith);
      same = λ k. absurd (omega arith);
      done = λ k. rw (here, last) (rw (one-digit rest l) at (v.same h));
    })
    (λ m.
    let more = place-more rest m in
    let here : at + length (digits_of (rest / 10)) ≡ place - 1 = omega (arith, v.fill h) in
    record {
      fill = λ k. sym here;
      same = λ k. rw (← here) (sym (sets_last (digits_of (rest / 10)) out at (48 + rest % 10)) ∙ (rw (more-digits rest m) at (v.same h)));
      done = λ k. absurd (omega (arith, some-digit (rest / 10)));
    })

pub loop-place-preserved : goal.loop-place-preserved
loop-place-preserved c = stores c.loop-place.invariant c.loop-place-test.true
