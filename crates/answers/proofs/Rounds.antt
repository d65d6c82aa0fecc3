-- Rounds with the numbers of their answers, computed.
use mathlib.Core.Path.{refl}
use lib.Count.{ones}
use Rattle.ring.specs.Counting.{tally}
use Rattle.ring.specs.Each.{all, some, first}
use Rattle.ring.specs.Ring.{wrap, probe, dist}
use Rattle.layout.specs.Layout.{into, descending, listed, place, place_all, layout}
use Rattle.prices.specs.Priced.{lesser, least, without_labels}
use Rattle.flaws.specs.Flaws.{meets_empty, meets_key}
use Rattle.orders.specs.Orders.{line_fault, lines_fault}
use Rattle.words.specs.Words.{place_of}
use Rattle.rounds.specs.Rounds.{acked}
use Rattle.answers.specs.Numbers.{RoundsGiven}

pub rounds-given : RoundsGiven
unfolding line_fault lines_fault descending into meets_empty meets_key first all some dist probe wrap layout place_all place lesser least
    listed without_labels acked place_of tally ones
rounds-given = record {
  opened = record { reply = refl; table = refl };
  full = record { reply = refl; table = refl };
  closed = record { reply = refl; table = refl; told = refl; list = refl };
  short = record { reply = refl; table = refl; told = refl; list = refl };
}
