-- One byte further: a digit is taken, or the digits end there.
use Rattle.std.proofs.Common.{◌≡◌, drop, arith}
use Rattle.text.specs.Numbers.{digits_in}
use Rattle.scanning.proofs.Gathered.{taken, past, lower, higher, empty, zeros, too_many, too-big, led, done}
use Rattle.scanning.proofs.digits_at.Goals as goal

pub loop-end-preserved : goal.loop-end-preserved
loop-end-preserved c = let d = c.if-is_ascii_digit.ensures.cases in taken c.loop-end.invariant c.loop-end-test.true d.0 d.1

pub returns-then-count-eq0 : goal.returns-then-count-eq0
returns-then-count-eq0 c =
    let s = c.args.s.now in
    let z : digits_in (drop c.loop-end.end s) ≡ 0 = grind (arith, past s c.loop-end.end, lower s c.loop-end.end, higher s c.loop-end.end) in
    let v = c.loop-end.invariant in
    grind (arith, empty v z, too_many v z, too-big v z, zeros v z)

pub returns : goal.returns
returns c =
    let s = c.args.s.now in
    let z : digits_in (drop c.loop-end.end s) ≡ 0 = grind (arith, past s c.loop-end.end, lower s c.loop-end.end, higher s c.loop-end.end) in
    let v = c.loop-end.invariant in
    grind (arith, led v z, done v z)
