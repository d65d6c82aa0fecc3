-- A refused opening hands back a shut phase state; it is well formed, and no call changes it.
use Rattle.std.specs.Prelude.{Ok}
use mathlib.Core.Path.{◌≡◌, refl, ◌∙◌}
use mathlib.Core.Logic.{◌≢◌}
use mathlib.Core.Bool.{true}
use mathlib.Core.List.{List, [], ◌∷◌}
use Prim.Native.Nat.{ℕ}
use native.Mathlib.Omega.{arith}
use Rattle.orders.specs.Orders.{line_at}
use Rattle.orders.specs.declared.Order.{Order}
use Rattle.state.specs.Model.{Model, size_ok, crew_ok}
use Rattle.state.specs.Open.{open_reply, refused_phase}
use Rattle.protocol.specs.Calls.{close_reply, found_reply, turn_check}
use Rattle.protocol.specs.IsWellFormed.{is_well_formed}
use Rattle.protocol.proofs.Chain.{by-reply}
use Rattle.ring.proofs.Tests.{not_both, within-says}
use Rattle.homes.specs.Homes.{plain}
use Rattle.homes.specs.declared.Hash.{Hash}
use Rattle.protocol.proofs.Opening.{fresh-resting, resting-formed}
use Rattle.protocol.proofs.Theorem.{well-formed, order-passed, close_passed, turn-passed}
use Rattle.history.specs.History.{Call, order, turn, close, History, call, run, opening}

module _ (M : Model) (os : List Order) where
  pub refused-phase : (k m : ℕ) (ab : Hash) (t : List ℕ) → open_reply M k m ab t os ≢ (Ok tt) → (opening M k m ab t os).phase ≡ refused_phase M
  refused-phase k m ab t ne = by-reply (open_reply M k m ab t os) (λ e. absurd (ne e)) (λ _ e. rw e)

  shut-call : (c : Call) (s : History) → s.phase.shut ≡ true → (call M os c s).phase ≡ s.phase
  unfolding call
  shut-call (order i w v) s shut = let p = s.phase in
      by-reply (found_reply M p (line_at os i) w v) (λ e. absurd (not_both p.shut shut (order-passed M p os i w v e).running)) (λ _ e. rw e)
  shut-call (turn w) s shut = let p = s.phase in
      by-reply (turn_check M p s.table w) (λ e. absurd (not_both p.shut shut (turn-passed M p s.table w e).1)) (λ _ e. rw e)
  shut-call close s shut = let p = s.phase in
      by-reply (close_reply M p) (λ e. absurd (not_both p.shut shut (close_passed M p e).1)) (λ _ e. rw e)

  pub shut-stays : (cs : List Call) (s : History) → s.phase.shut ≡ true → (run M os cs s).phase ≡ s.phase
  unfolding run
  shut-stays [] s e = refl
  shut-stays (c ∷ cs) s e = let f = shut-call c s e in shut-stays cs (call M os c s) (rw f e) ∙ f

pub refused-formed : (M : Model) → size_ok M 2 ≡ true → crew_ok M 1 ≡ true → is_well_formed M (refused_phase M) ≡ true
refused-formed M a b =
    let size = (within-says M.fewest_cells M.most_cells 2).0 a in
    let crew = (within-says M.fewest_workers M.most_workers 1).0 b in
    (well-formed M (refused_phase M)).1 (resting-formed M 3 2 1 true plain (refused_phase M) (omega arith) size crew (fresh-resting M 3 2 1 true plain))
