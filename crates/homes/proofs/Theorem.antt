-- The promise on homes.
use mathlib.Core.Path.{refl}
use Prim.Native.Nat.{◌/◌, ◌%◌}
use native.Mathlib.Omega.{arith}
use borrow.Author.Tests.{eqb-true, eqb-false, eq-eqb, ne_eqb}
use Rattle.homes.specs.Promise.{HomesPromise}
use Rattle.homes.proofs.Homes.{home-inside, home-is, home-as-before, mixed-apart}

pub homes-promise : HomesPromise
homes-promise = record {
  inside = home-inside;
  is = home-is;
  numbers = λ a b. (refl, refl);
  number = λ ab n x. refl;
  as_before = home-as-before;
  even = λ ab. (
    λ e. (ab.a / 2, omega (arith, eqb-true (ab.a % 2) 0 e)),
    λ h. eq-eqb (ab.a % 2) 0 (omega (arith, h.1)),
  );
  odd = λ ab. (
    λ e. let ne = eqb-false (ab.a % 2) 0 e in (ab.a / 2, omega (arith, ne)),
    λ h. ne_eqb (ab.a % 2) 0 (omega (arith, h.1)),
  );
  apart = mixed-apart;
}
