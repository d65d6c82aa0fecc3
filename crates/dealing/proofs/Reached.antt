-- What holds of a phase state and a table that calls lead to, and that further calls lead on.
use Rattle.std.specs.Prelude.{Ok}
use mathlib.Core.Path.{◌≡◌, sym, ◌∙◌}
use mathlib.Core.Bool.{true, false}
use mathlib.Core.List.{List, [], ◌∷◌, ◌++◌}
use Prim.Native.Nat.{ℕ, ◌≤◌, ◌<◌}
use native.Mathlib.Omega.{arith}
use lib.ListN.{length}
use borrow.Author.Tests.{eq-eqb, lt-leb}
use Rattle.homes.specs.declared.Hash.{Hash}
use Rattle.prices.specs.Contents.{label}
use Rattle.orders.specs.Orders.{line_at}
use Rattle.orders.specs.declared.Order.{Order}
use Rattle.phases.specs.Promise.{Roomy}
use Rattle.rule.specs.Events as events
use Rattle.rule.specs.Events.{Event}
use Rattle.history.specs.History.{Call, order, turn, History, call, opening, after}
use Rattle.history.specs.Promise.{OfLine, Claim}
use Rattle.history.proofs.Keeping.{order-phase, order-table, turn-phase, turn-table}
use Rattle.history.proofs.Claim.{known}
use Rattle.history.proofs.Lists.{run-last}
use Rattle.history.proofs.Opening.{opening-shows, opening-taken}
use Rattle.history.proofs.Simulation.{Shows, simulates}
use Rattle.history.proofs.Taking.{run-taken}
use Rattle.history.proofs.Theorem.{history as all-lists}
use Rattle.protocol.proofs.Theorem.{OpenPassed, open-passed}
use Rattle.state.specs.Model.{Model, Proper}
use Rattle.state.specs.declared.Phase.{Phase}
use Rattle.protocol.specs.Calls.{asked, entry_for, order_call, turn_check, turn_call, turn_table}
use Rattle.protocol.specs.IsWellFormed.{is_well_formed}
use Rattle.dealing.specs.Reached.{From}

module _ (M : Model) (proper : Proper M) where
  -- ---- what a call leaves
  pub after_one : (k m : ℕ) (ab : Hash) (t : List ℕ) (os : List Order) (cs : List Call) (c : Call) → after M k m ab t os (cs ++ c ∷ []) ≡ call M os c (after M k m ab t os cs)
  after_one k m ab t os cs c = run-last M os cs c (opening M k m ab t os)

  -- the calls change the phase state and the table as they say, whatever they answer
  order_leaves : (os : List Order) (i w v : ℕ) (s : History)
      → ((order_call M s.phase os i w v).phase ≡ (call M os (order i w v) s).phase) × (s.table ≡ (call M os (order i w v) s).table)
  unfolding call
  order_leaves os i w v s =
      let r = order_call M s.phase os i w v in
      let o = asked s.phase.kind (line_at os i) w v in
      let e = entry_for s.phase.kind o.key o.price in
      (sym (order-phase o.worker e r.phase r.reply s), sym (order-table o.worker e r.phase r.reply s))

  pub turn_leaves : (os : List Order) (w : ℕ) (s : History) → ((turn_call M s.phase s.table w).phase ≡ (call M os (turn w) s).phase)
      × (turn_table M s.phase s.table w ≡ (call M os (turn w) s).table)
  unfolding call
  turn_leaves os w s =
      let r = turn_call M s.phase s.table w in
      let t = turn_table M s.phase s.table w in (sym (turn-phase w t r.phase r.reply s), sym (turn-table w t r.phase r.reply s))

  module _ (k m : ℕ) (ab : Hash) (t : List ℕ) (os : List Order) (p : Phase) (u : List ℕ) (h : From M k m ab t os p u) where
    -- ---- what holds
    pub passed : OpenPassed M k m ab t os
    passed = open-passed M k m ab t os h.accepted

    pub homes : (x : ℕ) → M.home ab (length t) x < length t
    homes x = proper.homes ab (length t) x (omega (arith, proper.some, passed.size))

    abbrev pub history : History
    history = after M k m ab t os h.calls

    pub shown : (es : List Event) × Shows k (length t) m ab history (events.after k (length t) m label (M.home ab (length t)) t es)
    shown = simulates M k (length t) m ab os h.calls (opening M k m ab t os) (events.opened m t)
        (opening-shows M proper k m ab t os h.accepted)

    -- in a put-in shift the labels at opening and those ordered are fewer than the cells
    pub roomy : k ≡ 1 → Roomy (length t) label t (events.after k (length t) m label (M.home ab (length t)) t shown.0)
    roomy = (known k (length t) m ab (M.home ab (length t)) homes t (passed.sound proper) passed.kind os (λ is. (passed.list is).room) shown.0 history shown.1
        (run-taken M k os h.calls (opening M k m ab t os) (opening-taken M proper k m ab t os h.accepted (OfLine os)))).room

    claim : Claim M k m ab t os h.calls
    claim = all-lists M proper k m ab t os h.accepted h.calls

    pub formed : is_well_formed M p ≡ true
    formed = rw h.phase claim.formed

    pub kind : p.kind ≡ k
    kind = rw h.phase shown.1.kind

    pub cells : p.length ≡ length t
    cells = rw h.phase claim.numbers.cells

    pub crew : p.crew ≡ m
    crew = rw h.phase claim.numbers.crew

    pub few-workers : p.crew ≤ M.room
    few-workers = omega (arith, proper.places, crew, passed.crew)

    pub sized : p.length ≡ length u
    sized = rw h.table (cells ∙ sym claim.numbers.sized)

    pub accepts : (w : ℕ) → p.shut ≡ false → w < p.crew → turn_check M p u w ≡ Ok tt
    accepts w up l = simp (formed, up, eq-eqb _ _ sized, lt-leb _ _ l)

    -- ---- what one more call leaves
    pub order_from : (i w v : ℕ) → From M k m ab t os (order_call M p os i w v).phase u
    order_from i w v =
        record {
          calls = h.calls ++ order i w v ∷ [];
          accepted = h.accepted;
          phase = rw (after_one, h.phase) (order_leaves os i w v history).0;
          table = rw (after_one, h.table) (order_leaves os i w v history).1;
        }

    unfoldable pub turn-from : (w : ℕ) → From M k m ab t os (turn_call M p u w).phase (turn_table M p u w)
    turn-from w =
        record {
          calls = h.calls ++ turn w ∷ [];
          accepted = h.accepted;
          phase = rw (after_one, h.phase, h.table) (turn_leaves os w history).0;
          table = rw (after_one, h.phase, h.table) (turn_leaves os w history).1;
        }
