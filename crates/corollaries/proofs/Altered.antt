-- The phase of specs/Altered, computed and by the promise on calls with lists of their own.
use Rattle.std.specs.Prelude.{Ok}
use mathlib.Core.Path.{◌≡◌, refl}
use mathlib.Core.Logic.{inl, inr}
use mathlib.Core.List.{[], ◌∷◌}
use native.Mathlib.Omega.{arith}
use lib.Dec.{T}
use Rattle.ring.specs.Ring.{wrap, probe, dist, prev}
use Rattle.ring.specs.Counting.{count}
use Rattle.layout.specs.Layout.{In, into, descending}
use Rattle.ring.specs.Each.{all, some, first}
use Rattle.homes.specs.Homes.{plain}
use Rattle.prices.specs.Contents.{label}
use Rattle.prices.specs.Priced.{labels}
use Rattle.flaws.specs.Flaws.{meets_empty, meets_key}
use Rattle.orders.specs.Orders.{line_fault, lines_fault}
use Rattle.rule.specs.Rule.{settled, absorbed, insert_step, find_step, delete_step, rule}
use Rattle.rule.specs.Schedules.{same_table, one, ones}
use Rattle.rule.proofs.Schedules.{same-table}
use Rattle.activities.specs.declared.Activity.TheVariants.{Reading}
use Rattle.state.specs.Model.{gateway}
use Rattle.state.specs.Open.{open_reply}
use Rattle.state.proofs.Model.{gateway-proper}
use Rattle.protocol.specs.Bars.{doing}
use Rattle.protocol.specs.IsWellFormed.{is_well_formed}
use Rattle.history.specs.History.{call, run, run_lent}
use Rattle.history.proofs.Theorem.{any_lists}
use Rattle.examples.specs.Orders.{one_line}
use Rattle.corollaries.specs.Altered.{overfull, three_keys, taken_out, Altered}
use Rattle.examples.proofs.Passing.{code_of, same-activity}

ordered-tested : T (same_table overfull.ordered (ones (4 ∷ 5 ∷ 3 ∷ [])))
unfolding same_table call run run_lent is_well_formed rule settled absorbed insert_step find_step delete_step meets_empty meets_key first all some dist probe
    prev wrap count into descending line_fault lines_fault
ordered-tested = tt

ordered-is : overfull.ordered ≡ ones (4 ∷ 5 ∷ 3 ∷ [])
ordered-is = same-table overfull.ordered (ones (4 ∷ 5 ∷ 3 ∷ [])) ordered-tested

opens : open_reply gateway 1 1 plain (0 ∷ 0 ∷ []) (one_line 3 1 0) ≡ Ok tt
unfolding meets_empty meets_key first all some dist probe prev wrap count into descending line_fault lines_fault
opens = refl

opens-delete : open_reply gateway 2 1 plain (ones (0 ∷ 7 ∷ [])) [] ≡ Ok tt
unfolding meets_empty meets_key first all some dist probe prev wrap count
opens-delete = refl

three-ordered : In 3 (labels label overfull.ordered)
three-ordered = rw ordered-is (inr (inr (inl refl)))

table_is : T (same_table overfull.table (ones (4 ∷ 5 ∷ [])))
unfolding same_table call run run_lent is_well_formed rule settled absorbed insert_step find_step delete_step meets_empty meets_key first all some dist probe
    prev wrap count into descending line_fault lines_fault
table_is = tt

carried-is : T (same_table (code_of (doing overfull.phase 0)) (code_of (Reading (one 3) 1)))
unfolding same_table code_of call run run_lent is_well_formed rule settled absorbed insert_step find_step delete_step meets_empty meets_key first all some dist probe
    prev wrap count into descending line_fault lines_fault
carried-is = tt

pub altered : Altered
altered =
    let a = any_lists gateway gateway-proper 1 1 plain (0 ∷ 0 ∷ []) (one_line 3 1 0) opens three_keys in
    record {
      table = same-table overfull.table (ones (4 ∷ 5 ∷ [])) table_is;
      carried = same-activity (doing overfull.phase 0) (Reading (one 3) 1) carried-is;
      ordered = ordered-is;
      kept = (a.union refl 3 (λ z. omega arith)).1 (inr three-ordered);
      paths = a.ordering refl;
      unread = (any_lists gateway gateway-proper 2 1 plain (ones (0 ∷ 7 ∷ [])) [] opens-delete taken_out).unread (λ z. omega arith);
    }
