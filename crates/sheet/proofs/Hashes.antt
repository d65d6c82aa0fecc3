-- Orders and closes keep a and b, refused or not.
use mathlib.Core.Path.{◌≡◌, ap}
use Prim.Native.Nat.{ℕ}
use Rattle.ring.proofs.Split.{by-eq}
use Rattle.state.specs.Model.{gateway}
use Rattle.state.specs.Refusals.{reply_number}
use Rattle.state.specs.declared.Phase.{Phase}
use Rattle.protocol.specs.Calls.{close_call, order_call}
use Rattle.protocol.proofs.Theorem.{orders, closes}
use Rattle.sheet.specs.Replay.{State}

module _ (s : State) where
  pub order-hash : (i w v : ℕ) → (order_call gateway s.phase s.items i w v).phase.hash ≡ s.phase.hash
  order-hash i w v =
      let o = orders gateway s.phase s.items i w v in
      by-eq (reply_number (order_call gateway s.phase s.items i w v).reply) 0
      (λ z. by-eq s.phase.kind 1 (λ is. (o.insert_accepted is z).others.frame.hash) (λ ne. (o.other_accepted ne z).others.frame.hash))
      (λ z. ap (λ (p : Phase). p.hash) (o.refused z))

  pub close-hash : (close_call gateway s.phase).phase.hash ≡ s.phase.hash
  close-hash =
      let o = closes gateway s.phase in
      by-eq (reply_number (close_call gateway s.phase).reply) 0 (λ z. (o.accepted z).frame.hash) (λ z. ap (λ (p : Phase). p.hash) (o.refused z))
