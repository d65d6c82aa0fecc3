-- The one bound on the counted steps covers an operation that takes at most W (5n + 2) + 1 steps and 5n + 2 more.
use mathlib.Core.Path.{refl}
use Prim.Native.Nat.{ℕ, suc, ◌+◌, ◌*◌, ◌^◌, ◌≤◌, ◌<◌}
use native.Mathlib.Nat.{zero-mul, mul-le-mul_left, one-le-pow}
use native.Mathlib.Omega.{arith}
use Rattle.phases.specs.Promise.{most_steps, FormulaPromise}

pub under : (n W K a : ℕ) → a ≤ W * (5 * n + 2) + 1 + (5 * n + 2) → K * a < most_steps n W K
under n W K a l =
    let m = W * (5 * n + 2) + 1 in
    let b = (n + 1) * (W * (W + 1) ^ suc W + 1) + (W + 1) ^ W in
    let one : 1 ≤ b = omega (arith, one-le-pow W (W + 1) (omega arith)) in
    let p : a ≤ m * b + (5 * n + 2) = omega (arith, mul-le-mul_left m one) in
    omega (arith, mul-le-mul_left K p)

pub formula-promise : FormulaPromise
formula-promise = record { none = λ n W. rw zero-mul; five = refl }
