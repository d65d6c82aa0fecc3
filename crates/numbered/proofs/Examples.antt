-- The batches of specs/Examples, computed as a test, which a law turns into equality.
use mathlib.Core.Bool.{Bool, true, ◌&&◌}
use mathlib.Core.List.{List, [], ◌∷◌, ◌++◌}
use Prim.Native.Nat.{ℕ}
use lib.Dec.{T, eqb}
use borrow.Author.Tests.{eqb-true}
use lib.ListN.{length, drop}
use Rattle.ring.specs.Ring.{wrap, probe, dist, prev}
use Rattle.ring.specs.Counting.{count}
use Rattle.ring.specs.Each.{all, some, first}
use Rattle.ring.proofs.Each.{and_left, and_right}
use Rattle.ring.proofs.Tests.{true-says}
use Rattle.layout.specs.Layout.{into, descending}
use Rattle.flaws.specs.Flaws.{meets_empty, meets_key}
use Rattle.orders.specs.Orders.{line_fault, lines_fault, orders_of}
use Rattle.rule.specs.Rule.{fits, narrow, settled, absorbed, insert_step, find_step, delete_step, rule}
use Rattle.rule.specs.Schedules.{same_table}
use Rattle.rule.proofs.Schedules.{same-table}
use Rattle.state.specs.Model.{gateway}
use Rattle.protocol.specs.IsWellFormed.{is_well_formed}
use Rattle.history.specs.History.{Call, call, run, opening, after}
use Rattle.state.specs.Open.{open_reply}
use Rattle.numbered.specs.Numbers.{reply_answer}
use Rattle.numbered.specs.Lists.{calls_of, answer_of, answers_of}
use Rattle.numbered.specs.Batch.{dealt}
use Rattle.numbered.specs.Examples.{Batch, Leaves, AllLeave, batches, BatchesPromise}

module _ (b : Batch) where
  abbrev calls : List Call
  calls = dealt gateway b.kind b.crew b.hash b.table b.orders b.ops b.lines b.workers b.keys b.out

  abbrev cells : List ℕ
  cells = (after gateway b.kind b.crew b.hash b.table b.orders calls).table

  abbrev answers : List ℕ
  answers = answers_of gateway b.orders calls (opening gateway b.kind b.crew b.hash b.table b.orders) ++ drop (length calls) b.out

  abbrev reply : ℕ
  reply = reply_answer (open_reply gateway b.kind b.crew b.hash b.table b.orders)

  unfoldable leaves_right : Bool
  leaves_right = eqb reply b.reply && (same_table cells b.closed && same_table answers b.answers)

  leaves : T leaves_right → Leaves b
  unfolding leaves_right
  leaves p =
      let left = same_table cells b.closed && same_table answers b.answers in
      let q = and_right (eqb reply b.reply) left p in (
        eqb-true reply b.reply ((true-says (eqb reply b.reply)).1 (and_left (eqb reply b.reply) left p)),
        same-table cells b.closed (and_left (same_table cells b.closed) (same_table answers b.answers) q),
        same-table answers b.answers (and_right (same_table cells b.closed) (same_table answers b.answers) q),
      )

unfoldable all_leave : List Batch → Bool
all_leave [] = true
all_leave (b ∷ bs) = leaves_right b && all_leave bs

all_say : (bs : List Batch) → T (all_leave bs) → AllLeave bs
unfolding all_leave
all_say [] p = tt
all_say (b ∷ bs) p = (leaves b (and_left (leaves_right b) (all_leave bs) p), all_say bs (and_right (leaves_right b) (all_leave bs) p))

computed : T (all_leave batches)
unfolding all_leave leaves_right same_table calls_of answer_of answers_of call run is_well_formed
    rule fits narrow settled absorbed insert_step find_step delete_step meets_empty meets_key first all some dist probe prev wrap count
    into descending line_fault lines_fault orders_of
computed = tt

pub batches-promise : BatchesPromise
batches-promise = all_say batches computed
