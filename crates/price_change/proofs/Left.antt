-- What a closing counts is no more than the list that it leaves has places.
use Rattle.std.specs.Prelude.{Ok, Err}
use mathlib.Core.Path.{◌≡◌, sym, ap, subst, ◌∙◌}
use mathlib.Core.List.{List}
use Prim.Native.Nat.{ℕ, ◌≤◌, min}
use native.Mathlib.Omega.{arith}
use lib.ListN.{length, length-take}
use Rattle.homes.specs.declared.Hash.{Hash}
use Rattle.state.specs.Counts.{count_number, count_value}
use Rattle.state.specs.Model.{model_of}
use Rattle.state.specs.Replies.{Counted}
use Rattle.state.specs.declared.Device.{Device}
use Rattle.state.proofs.Model.{proper}
use Rattle.tables.proofs.Answers.{front_length}
use Rattle.rounds.specs.Rounds.{Ack, Closes, table_after}
use Rattle.rounds.proofs.Closing.{closing}

pub count-within : (d : Device) (m : ℕ) (ab : Hash) (t : List ℕ) (rs : List Ack) (answers out : List ℕ) (r : Counted) (t' answers' out' : List ℕ)
    → Closes (model_of d) m ab t rs answers out r t' answers' out' → count_value r ≤ length out'
count-within d m ab t rs answers out (Err why) t' answers' out' h = omega arith
count-within d m ab t rs answers out (Ok c) t' answers' out' h =
    let M = model_of d in
    let listed = (closing M (proper d) m ab t rs answers out).listed (ap count_number (sym h.reply)) in
    let front : c ≡ min c (length out') =
    front_length M ab (table_after M m ab t rs answers out) out c out' (listed.0 ∙ sym h.reply) (h.list ∙ sym listed.1) ∙ length-take c out' in
    omega (arith, front)

pub is_within : (r : Counted) (c n : ℕ) → r ≡ Ok c → count_value r ≤ n → c ≤ n
is_within r c n e h = subst (λ (x : Counted). count_value x ≤ n) e h
