-- The computed examples.
use mathlib.Core.Path.{refl}
use Rattle.orders.specs.Examples.{Examples}
use Rattle.orders.specs.Orders.{line_fault, lines_fault}

pub examples : Examples
unfolding line_fault lines_fault
examples = record {
  last_shop = refl;
  first_test = refl;
  greatest = refl;
  test_first = refl;
  test_before_worker = refl;
  blank = refl;
  price_next = refl;
  worker_last = refl;
  blank_earlier = refl;
  test_earlier = refl;
  last_line = refl;
  behind_good = refl;
}
