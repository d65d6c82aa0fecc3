-- Lines lead from valid states to valid states.
use Rattle.std.specs.Prelude.{Ok, Err}
use mathlib.Core.Path.{◌≡◌, refl, sym, ◌∙◌, ap}
use mathlib.Core.Bool.{Bool, true, false}
use mathlib.Core.List.{List, [], ◌∷◌}
use Prim.Native.Nat.{ℕ, ◌≤◌, ◌<◌}
use native.Mathlib.Omega.{arith}
use lib.Dec.{ltb, eqb}
use lib.ListN.{length, get_or, length-append, length-replicate}
use borrow.Author.Tests.{ltb-false, le-ltb}
use Rattle.homes.specs.Homes.{hash_of}
use Rattle.homes.specs.declared.Hash.{Hash}
use Rattle.orders.specs.Orders.{order_with, line_at}
use Rattle.orders.specs.declared.Order.{Order}
use Rattle.history.specs.History as history
use Rattle.protocol.proofs.Chain.{by-reply}
use Rattle.ring.proofs.Tests.{tested}
use Rattle.state.specs.Model.{gateway}
use Rattle.state.proofs.Model.{gateway-proper}
use Rattle.state.specs.Open.{open_reply}
use Rattle.state.specs.declared.Phase.{Phase}
use Rattle.state.specs.Replies.{Reply}
use Rattle.protocol.specs.Calls as call
use Rattle.protocol.specs.Calls.{order_call}
use Rattle.text.proofs.Test.{by-test, by-lt}
use Rattle.lines.specs.declared.Command.{Command}
use Rattle.lines.specs.declared.Line.{Line}
use Rattle.dealing.proofs.Reached.{order_from, turn-from}
use Rattle.dealing.proofs.Settling.{turn-shut, turn-length, run-reached, run_length}
use Rattle.std.specs.Prelude.{Option, None, Some}
use Rattle.fitting.specs.declared.Handling.TheVariants.{Performed, Refused, Bad}
use Rattle.fitting.specs.declared.Task.{Task}
use Rattle.fitting.specs.declared.Task.TheVariants.{Perform, Refuse}
use Rattle.fitting.specs.Fitting.{most_items, row_of, handling_in, reading_in}
use Rattle.sheet.specs.Replay.{State, Step, calls, cells_task, open_task, item_task, turn_task, run_task, items_after}
use Rattle.sheet.specs.Replay.{close_task, commanded, answered, answer_of, blank, most_sheet_cells}
use Rattle.sheet.specs.Valid.{Valid, RunFinds}
use Rattle.fitting.proofs.Fitting.{performs}

-- a phase is not both open and shut
never : {C : Type 0} (b : Bool) → b ≡ true → b ≡ false → C
never b e f = absurd (let z : ◌≡◌ {A = ℕ} 0 1 = cc in omega arith)

pub blank-valid : Valid blank
blank-valid = record { few = omega arith; items = omega arith; reached = λ f. never true refl f }

-- ---- orders leave a shut phase shut
order-shut : (p : Phase) (os : List Order) (i w v : ℕ) → (order_call gateway p os i w v).phase.shut ≡ p.shut
order-shut p os i w v =
    let l = line_at os i in
    let o = call.asked p.kind l w v in
    let shut : Reply → Bool = λ a. (call.ordered gateway p (call.missing p.kind l) o.worker o.key o.price a).phase.shut in
    by-reply (call.found_reply gateway p l w v) (λ e. ap shut e) (λ _ e. ap shut e)

module _ (s : State) (v : Valid s) where
  cells-kept : (n : ℕ) → s.phase.shut ≡ true → Valid (cells_task s n).state
  cells-kept n e = tested (λ (d : Step). Valid d.state) (ltb n 2)
      (λ _. v)
      (λ _. tested (λ (d : Step). Valid d.state) (ltb most_sheet_cells n)
      (λ _. v)
      (λ l. record {
        few = omega (arith, ltb-false most_sheet_cells n l, length-replicate {A = ℕ} n 0);
        items = v.items;
        reached = λ f. never s.phase.shut e f;
      }))

  -- an accepted opening leads to its phase; a refused one leaves all as it was
  open_kept : (k m : ℕ) (ab : Hash) → Valid (open_task s k m ab).state
  open_kept k m ab = by-reply (open_reply gateway k m ab s.table s.items)
      (λ e. rw e
      (record {
        few = v.few;
        items = v.items;
        reached = λ _. record {
          kind = k;
          crew = m;
          hash = ab;
          opened = s.table;
          by = record { calls = []; accepted = e; phase = unfold history.run in (rw e); table = unfold history.run in refl };
        };
      }))
      (λ _ e. rw e v)

  item-kept : (w x cents : ℕ) → s.phase.shut ≡ true → length s.items < most_items → Valid (item_task s w x cents).state
  item-kept w x cents e room = record {
    few = v.few;
    items = omega (arith, length-append s.items (order_with x cents w ∷ []));
    reached = λ f. never s.phase.shut e f;
  }

  order-kept : (i w x : ℕ) → Valid (calls s.table s.items (order_call gateway s.phase s.items i w x)).state
  order-kept i w x = record {
    few = v.few;
    items = v.items;
    reached = λ f. let h = v.reached (sym (order-shut s.phase s.items i w x) ∙ f) in
        record {
          kind = h.kind;
          crew = h.crew;
          hash = h.hash;
          opened = h.opened;
          by = order_from gateway gateway-proper h.kind h.crew h.hash h.opened s.items s.phase s.table h.by i w x;
        };
  }

  turn-kept : (w : ℕ) → Valid (turn_task s w).state
  turn-kept w = record {
    few = omega (arith, v.few, turn-length gateway gateway-proper s.phase s.table w);
    items = v.items;
    reached = λ f. let h = v.reached (sym (turn-shut gateway gateway-proper s.phase s.table w) ∙ f) in
        record {
          kind = h.kind;
          crew = h.crew;
          hash = h.hash;
          opened = h.opened;
          by = turn-from gateway gateway-proper h.kind h.crew h.hash h.opened s.items s.phase s.table h.by w;
        };
  }

  run-kept : s.phase.shut ≡ false → Valid (run_task s).state
  run-kept up = record {
    few = omega (arith, v.few, run_length gateway gateway-proper s.phase s.table);
    items = v.items;
    reached = λ _. run-reached gateway gateway-proper s.items s.phase s.table (v.reached up) up;
  }

  -- an accepted close leaves a shut phase, whatever items; a refused one leaves all as it was
  closed-kept : (a : Reply) → call.close_reply gateway s.phase ≡ a
      → Valid (calls s.table (items_after s.phase.kind a s.items) (call.closed gateway s.phase a)).state
  closed-kept (Ok _) e = record {
    few = v.few;
    items = tested (λ (os : List Order). length os ≤ most_items) (eqb s.phase.kind 1) (λ _. omega arith) (λ _. v.items);
    reached = λ f. never true refl f;
  }
  closed-kept (Err r) e = v

  close-kept : Valid (close_task s).state
  close-kept = by-reply (call.close_reply gateway s.phase) (λ e. rw e (closed-kept (Ok tt) e)) (λ r e. rw e (closed-kept (Err r) e))

  -- ---- every command, where it is carried out: `cells` and `item` in a shut phase only, and `run` in an open one only
  abbrev Allowed : Command → Type 0
  Allowed c = handling_in s.phase.shut (row_of s.phase.kind (length s.items) c) ≡ Performed

  not-bad : {C : Type 0} → Bad ≡ Performed → C
  not-bad q = absurd (let z : ◌≡◌ {A = ℕ} 0 1 = cc in omega arith)

  cells-shut : Allowed Command.Cells → s.phase.shut ≡ true
  cells-shut h = by-test s.phase.shut (λ e. e) (λ e. not-bad (rw e at h))

  item_shut : Allowed Command.Item → s.phase.shut ≡ true
  item_shut h = by-test s.phase.shut (λ e. e) (λ e. not-bad (rw e at h))

  item_room : Allowed Command.Item → length s.items < most_items
  item_room h = by-lt (length s.items) most_items (λ l. l) (λ l. not-bad (rw (item_shut h, le-ltb (length s.items) most_items l) at h))

  run-open : Allowed Command.Run → s.phase.shut ≡ false
  run-open h = by-test s.phase.shut (λ e. not-performed (rw e at h)) (λ e. e)
    where
      not-performed : Refused ≡ Performed → s.phase.shut ≡ false
      not-performed q = absurd (let z : ◌≡◌ {A = ℕ} 0 1 = cc in omega arith)

  command-kept : (c : Command) (ns : List ℕ) → Allowed c → Valid (commanded s c ns).state
  command-kept Command.Cells ns h = cells-kept (get_or ns 0 0) (cells-shut h)
  command-kept Command.Open ns h = open_kept (get_or ns 0 0) (get_or ns 1 0) (hash_of (get_or ns 2 0) (get_or ns 3 0))
  command-kept Command.Item ns h = item-kept (get_or ns 0 0) (get_or ns 1 0) (get_or ns 2 0) (item_shut h) (item_room h)
  command-kept Command.Order ns h = order-kept (get_or ns 0 0) (get_or ns 0 0) (get_or ns 1 0)
  command-kept Command.Turn ns h = turn-kept (get_or ns 0 0)
  command-kept Command.Run ns h = run-kept (run-open h)
  command-kept Command.Close ns h = close-kept
  command-kept Command.List ns h = v

  -- ---- every line
  module _ (l : Line) where
    reading-kept : (r : Option Task) → reading_in s.phase.kind (length s.items) s.phase.shut l ≡ r → Valid (answered s r).state
    reading-kept None e = v
    reading-kept (Some (Perform c ns)) e = command-kept c ns (performs s.phase.kind (length s.items) s.phase.shut l c ns e).1
    reading-kept (Some Refuse) e = v

    pub valid-kept : Valid (answer_of s l).state
    unfolding answer_of
    valid-kept = reading-kept (reading_in s.phase.kind (length s.items) s.phase.shut l) refl

    -- a run is asked for in an open phase only
    pub allowed : (t : Task) → reading_in s.phase.kind (length s.items) s.phase.shut l ≡ Some t → RunFinds s t
    allowed t e ns q =
        let up = run-open (performs s.phase.kind (length s.items) s.phase.shut l Command.Run ns (e ∙ ap Some q)).1 in
        (v.reached up, up)
