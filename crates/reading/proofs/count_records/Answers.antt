-- One record further: it is bad, or counted.
use mathlib.Core.Path.{◌≡◌, refl, sym, ◌∙◌, ap}
use mathlib.Core.List.{List, []}
use Prim.Native.Nat.{ℕ, suc, ◌+◌, ◌≤◌, ◌<◌}
use native.Mathlib.Omega.{arith}
use lib.ListN.{length}
use Rattle.std.specs.Prelude.{Result, Ok, Err}
use Rattle.std.proofs.lemmas.Result.{err_from_is_err_and}
use Rattle.till.specs.declared.Bad.{Bad}
use Rattle.till.specs.declared.Bad.TheVariants.{Broken, Wrong}
use Rattle.till.specs.declared.Record.{Record}
use Rattle.till.specs.Places.{record_at, records_of}
use Rattle.till.specs.Till.{Line, line, Reading, in_front, reading_of}
use Rattle.till.proofs.Places.{read_from, from_end, from-broken, from_wrong, from-line}
use Rattle.till.proofs.Reading.{read_some, read_none}
use Rattle.reading.proofs.count_records.Invariants.{count_from, Counting}
use Rattle.reading.proofs.count_records.Goals as goal

count-zero : (r : Reading) → count_from 0 r ≡ records_of r
count-zero Reading.broken = refl
count-zero Reading.wrong = refl
count-zero (Reading.lines ls) = let e : 0 + length ls ≡ length ls = omega arith in rw e

count-more : (n : ℕ) (l : Line) (r : Reading) → count_from n (in_front l r) ≡ count_from (n + 1) r
count-more n l Reading.broken = refl
count-more n l Reading.wrong = refl
count-more n l (Reading.lines ls) = let e : n + suc (length ls) ≡ n + 1 + length ls = omega arith in rw e

starts : (text : List ℕ) → (length text ≡ 0 → ⊥) → Counting text (records_of (reading_of text)) 0 0
starts text n =
    let h : 0 < length text = omega arith in
    record { few = omega arith; same = ap (count_from 0) (sym (read_some text h)) ∙ count-zero (reading_of text) }

module _ {text : List ℕ} {goal : Result ℕ Bad} {at count : ℕ} (v : Counting text goal at count) where
  module _ (h : at < length text) where
    bad : (b : Bad) → Err b ≡ record_at text at → Err b ≡ goal
    bad Broken e = rw (from-broken text at h e) at v.same
    bad Wrong e = rw (from_wrong text at h e) at v.same

    module _ {r : Record} (e : Ok r ≡ record_at text at) where
      forward : at < r.next
      forward = (from-line text at h r e).0

      counts : Counting text goal r.next (count + 1)
      counts =
          record {
            few = omega (arith, forward, v.few);
            same = sym (count-more count (line r.key r.price) (read_from text r.next)) ∙ (rw (from-line text at h r e).2 at v.same);
          }

  ends : length text ≤ at → Ok count ≡ goal
  ends h =
      let e : count_from count (Reading.lines []) ≡ goal = rw (from_end text at h) at v.same in
      let z : count + 0 ≡ count = omega arith in
      rw z at e

pub returns-then-is_empty : goal.returns-then-is_empty
returns-then-is_empty c = sym (ap records_of (read_none _ (grind arith)))

pub loop-at-init : goal.loop-at-init
loop-at-init c = starts _ (λ e. grind arith)

pub returns-in_err-record : goal.returns-in_err-record
returns-in_err-record c =
    let (x, is, same) = err_from_is_err_and c.from_residual.result c.from_residual.ensures.1 in
    is ∙ ap Err same ∙ bad c.loop-at.invariant c.loop-at-test.true _ c.in_err-record.ensures

pub loop-at-smaller : goal.loop-at-smaller
loop-at-smaller c = let f = forward c.loop-at.invariant c.loop-at-test.true c.in_ok-record.ensures in omega arith

pub loop-at-preserved : goal.loop-at-preserved
loop-at-preserved c = counts c.loop-at.invariant c.loop-at-test.true c.in_ok-record.ensures

pub returns : goal.returns
returns c = ends c.loop-at.invariant c.loop-at-test.false
