-- The check of the lines, one line after the other.
use mathlib.Core.Path.{◌≡◌, sym, ◌∙◌, ap}
use mathlib.Core.List.{List}
use Prim.Native.Nat.{ℕ, ◌+◌, ◌≤◌, ◌<◌}
use native.Mathlib.Numerals.{add-one}
use lib.ListN.{length, drop, drop_of_length-le}
use lib.Seq.{drop-cons}
use Rattle.std.specs.Prelude.{Some, None, Ok, Err}
use Rattle.std.specs.Result.{result_and}
use Rattle.std.proofs.lemmas.Option.{slice_get_within, get_or_from_slice_get, slice_get-get_or}
use Rattle.orders.specs.declared.Fault.{Fault}
use Rattle.orders.specs.declared.Order.{Order}
use Rattle.orders.specs.Orders.{blank, line_at, line_fault, lines_fault}

module _ (m : ℕ) (os : List Order) (i : ℕ) where
  module _ (o : Order) (e : Some o ≡ line_at os i) where
    -- line i, and then those behind it
    fault-at : lines_fault m (drop i os) ≡ result_and (line_fault m o) (lines_fault m (drop (i + 1) os))
    unfolding lines_fault
    fault-at =
        let l : i < length os = slice_get_within os i o (sym e) in rw (add-one, drop-cons os i blank, get_or_from_slice_get os i o blank (sym e))

    -- line i decides if something is wrong with it
    pub fault-stops : (f : Fault) → Err f ≡ line_fault m o → Err f ≡ lines_fault m (drop i os)
    fault-stops f h = sym (fault-at ∙ rw (← h))

    -- and else those behind it
    pub fault-passes : Ok tt ≡ line_fault m o → lines_fault m (drop (i + 1) os) ≡ lines_fault m (drop i os)
    fault-passes h = sym (fault-at ∙ rw (← h))

  pub fault-ends : length os ≤ i → lines_fault m (drop i os) ≡ Ok tt
  unfolding lines_fault
  fault-ends l = ap (lines_fault m) (drop_of_length-le os l)

-- for the check
pub ruleset fault_rules = (fault-stops, fault-passes, fault-ends)
