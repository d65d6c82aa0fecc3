-- The examples, computed; the one of every list that is too long follows from the promise on opening.
use mathlib.Core.Path.{◌≡◌, refl, sym, ap₂, ◌∙◌}
use mathlib.Core.Logic.{◌≢◌}
use mathlib.Core.List.{List}
use Prim.Native.Nat.{ℕ, ◌<◌}
use native.Mathlib.Omega.{arith}
use lib.Count.{ones}
use lib.ListN.{replicate, length-replicate}
use Rattle.ring.specs.Counting.{tally}
use Rattle.ring.specs.Each.{all, some, first}
use Rattle.ring.specs.Ring.{wrap, probe, dist}
use Rattle.layout.specs.Layout.{into, descending, listed, place, place_all, layout}
use Rattle.homes.specs.Homes.{plain}
use Rattle.prices.specs.Priced.{lesser, least, without_labels}
use Rattle.flaws.specs.Flaws.{meets_empty, meets_key}
use Rattle.orders.specs.Orders.{line_fault, lines_fault}
use Rattle.orders.specs.declared.Order.{Order}
use Rattle.words.specs.Words.{place_of}
use Rattle.state.specs.Model.{gateway}
use Rattle.state.specs.Refusals.{reply_number}
use Rattle.state.specs.declared.Device.TheVariants.{Gateway}
use Rattle.state.proofs.Model.{proper}
use Rattle.rounds.specs.Examples.{OpeningGets, junk, Examples}
use Rattle.rounds.specs.Promise.{Sending}
use Rattle.rounds.specs.Rounds.{acks_of, acked, open_round}
use Rattle.rounds.proofs.Sending.{sending}

long : (n : ℕ) → 65536 < n → (o : Order) → OpeningGets 16 2 plain junk (replicate n o)
long n l o = ap₂ (λ (x : ℕ) (t : List ℕ). (x, t)) number (s.refused (λ z. let e = sym number ∙ z in omega arith))
  where
    s : Sending gateway 2 plain junk (replicate n o)
    s = sending gateway (proper Gateway) 2 plain junk (replicate n o)

    number : reply_number (open_round gateway 2 plain junk (replicate n o)) ≡ 16
    number =
        let (_, (_, (_, (sixteen, _)))) = s.decides in
        sixteen.1 ((((tt, (omega arith, omega arith)), (omega arith, omega arith)), (0, refl)), omega (arith, length-replicate n o))

just_long : (o : Order) → reply_number (open_round gateway 2 plain junk (replicate 65536 o)) ≢ 16
just_long o e =
    let (_, (_, (_, (sixteen, _)))) = (sending gateway (proper Gateway) 2 plain junk (replicate 65536 o)).decides in
    let (_, l) = sixteen.0 e in
    omega (arith, l, length-replicate 65536 o)

pub examples : Examples
unfolding line_fault lines_fault descending into meets_empty meets_key first all some dist probe wrap layout place_all place lesser least
    listed without_labels acked acks_of place_of tally ones
examples =
    record {
      opened = refl;
      thrice = refl;
      lower_lent = refl;
      spread = refl;
      spread_closes = refl;
      lent_acks = refl;
      fewer_keys = refl;
      closed = refl;
      third = refl;
      one_of_two = refl;
      tests_lent = refl;
      silent = refl;
      none_sent = refl;
      none_left = refl;
      in_sequence_says = refl;
      one_cell = refl;
      no_crew = refl;
      large_crew = refl;
      even = refl;
      long = long;
      just_long = just_long;
      size_first = refl;
      crew_next = refl;
      even_next = refl;
      even_before_test = refl;
      no_key = refl;
      test_number = refl;
      greatest = refl;
      last_of_a_shop = refl;
      no_price = refl;
      high_price = refl;
      no_worker = refl;
      full = refl;
      key_first = refl;
      test_next = refl;
      price_next = refl;
      earliest = refl;
      key_earlier = refl;
      test_earlier = refl;
      test_before_full = refl;
      full_last = refl;
      one_cell_closes = refl;
      no_crew_closes = refl;
      large_crew_closes = refl;
      even_closes = refl;
      damaged = refl;
      keyless = refl;
      gap = refl;
      disorder = refl;
      short_list = refl;
      few_places = refl;
      size_first_closes = refl;
      crew_next_closes = refl;
      gap_first = refl;
      damaged_first = refl;
    }
