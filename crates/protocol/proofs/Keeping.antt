-- A call keeps a well-formed phase state well formed, also one that no opening and no calls lead to; and what an opening hands back is well formed.
use Rattle.std.specs.Prelude.{Option, ℕ, Some, None}
use mathlib.Core.Path.{◌≡◌, sym, ap, ◌∙◌}
use mathlib.Core.Logic.{◌≢◌}
use mathlib.Core.Bool.{true, false}
use mathlib.Core.List.{List}
use Prim.Native.Nat.{ℕ, ◌≤◌, ◌<◌}
use native.Mathlib.Omega.{arith}
use lib.ListN.{length, get_or, set}
use lib.Seq.{get_or-set_same, get_or-set_other, set_out}
use Rattle.ring.proofs.Split.{by-lt, by-eq}
use Rattle.homes.specs.Homes.{plain}
use Rattle.homes.specs.declared.Hash.{Hash}
use Rattle.prices.specs.Contents.{label}
use Rattle.orders.specs.Orders.{line_at}
use Rattle.orders.specs.declared.Order.{Order}
use Rattle.activities.specs.Activities.{idle, Suits}
use Rattle.activities.specs.declared.Activity.{Activity}
use Rattle.activities.specs.declared.Activity.TheVariants.{Idle}
use Rattle.activities.specs.declared.Worker.{Worker}
use Rattle.rule.specs.Rule.{touched, start}
use Rattle.rule.proofs.Suits.{rule-suits}
use Rattle.state.specs.Model.{Model, model_of}
use Rattle.state.specs.Open.{open_call}
use Rattle.state.specs.Refusals.{reply_number}
use Rattle.state.specs.declared.Phase.{Phase}
use Rattle.state.proofs.Model.{proper, fewest-most}
use Rattle.protocol.specs.Bars.{doing}
use Rattle.protocol.specs.Calls.{asked, entry_for, with_worker, close_reply, close_call, found_reply, order_call, turn_check, moved_at, turn_call}
use Rattle.protocol.specs.Promise.{KeepsPromise, opened, ordered, turned, closed, NeverSpoiltPromise, PlacesPromise, EachNeverSpoilt, Openings, Framed}
use Rattle.protocol.specs.WellFormed.{Size, Crew, WellFormed}
use Rattle.protocol.proofs.Chain.{by-reply, none-accepted}
use Rattle.protocol.proofs.Opening.{resting-formed}
use Rattle.protocol.proofs.Pricing.{entry_key}
use Rattle.protocol.proofs.Theorem.{open-passed, opens, order-passed, orders, turn-passed, turns, closes}

-- ---- the phase state, with one worker changed
-- what holds of every worker holds after a change of one, if it holds of what that one does now
changed : (C : ℕ → Activity → Type 0) (ws : List Worker) (w : ℕ) (a : Activity) → C w a → ((u : ℕ) → C u (get_or ws u idle).activity)
    → (u : ℕ) → C u (get_or (set ws w (record { activity = a })) u idle).activity
changed C ws w a new h u = by-eq u w
    (λ z. by-lt w (length ws) (λ l. rw (z, get_or-set_same ws w _ idle l) new) (λ l. rw (set_out ws w _ l) (h u)))
    (λ z. rw (get_or-set_other ws w u _ idle z) (h u))

module _ (M : Model) (p : Phase) (good : WellFormed M p) where
  with-worker : (w : ℕ) (a : Activity) → w < p.crew → Suits p.kind p.length label a → WellFormed M (with_worker p w a)
  with-worker w a below new =
      record {
        kind = good.kind;
        size = good.size;
        crew = good.crew;
        past = changed (λ u b. p.crew ≤ u → b ≡ Idle) p.workers w a (λ l. absurd (omega arith)) good.past;
        workers = changed (λ u b. u < p.crew → Suits p.kind p.length label b) p.workers w a (λ _. new) good.workers;
      }

  pub close-keeps : WellFormed M (close_call M p).phase
  close-keeps = by-reply (close_reply M p)
      (λ e. rw e (record { kind = good.kind; size = good.size; crew = good.crew; past = good.past; workers = good.workers }))
      (λ _ e. rw e good)

  pub order-keeps : ((v : ℕ) → M.home p.hash p.length v < p.length) → (os : List Order) (i w v : ℕ) → WellFormed M (order_call M p os i w v).phase
  order-keeps at_home os i w v =
      let o = asked p.kind (line_at os i) w v in
      by-reply (found_reply M p (line_at os i) w v)
      (λ e.
      let q = order-passed M p os i w v e in
      let same = entry_key p.kind o.key o.price q.price in
      rw e
      (with-worker o.worker (start label (M.home p.hash p.length) (entry_for p.kind o.key o.price)) q.below (rw same q.key, rw same (at_home o.key))))
      (λ _ e. rw e good)

  pub turn-keeps : (t : List ℕ) (w : ℕ) → WellFormed M (turn_call M p t w).phase
  turn-keeps t w = by-reply (turn_check M p t w) (λ e. rw e (at_place (turn-passed M p t w e).3 (touched (doing p w)))) (λ _ e. rw e good)
    where
      at_place : w < p.crew → (q : Option ℕ) → WellFormed M (moved_at M p t w q).phase
      at_place below None = good
      at_place below (Some c) =
          with-worker w _ below (rule-suits p.kind p.length label (M.home p.hash p.length) (doing p w) (get_or t c 0) (good.workers w below))

pub keeps : KeepsPromise
keeps M proper p good =
    record {
      order = order-keeps M p good (λ v. proper.homes p.hash p.length v (omega (arith, proper.some, good.size)));
      turn = turn-keeps M p good;
      close = close-keeps M p good;
    }

-- ---- openings, accepted or refused
open-formed : (M : Model) → Size M 2 → Crew M 1 → (k m : ℕ) (ab : Hash) (t : List ℕ) (os : List Order) → WellFormed M (open_call M k m ab t os).phase
open-formed M two one k m ab t os = by-eq (reply_number (open_call M k m ab t os).reply) 0
    (λ z.
    let p = open-passed M k m ab t os (sym o.reply ∙ none-accepted (open_call M k m ab t os).reply z) in
    resting-formed M k (length t) m false ab q p.kind p.size p.crew (o.accepted z))
    (λ z. resting-formed M 3 2 1 true plain q (omega arith) two one (o.refused z))
  where
    o : Openings M k m ab t os
    o = opens M k m ab t os

    q : Phase
    q = (open_call M k m ab t os).phase

-- ---- and later calls
pub never_spoilt : NeverSpoiltPromise
never_spoilt M proper two one p (opened k m ab t os) = open-formed M two one k m ab t os
never_spoilt M proper two one p (ordered q h os i w v) = (keeps M proper q (never_spoilt M proper two one q h)).order os i w v
never_spoilt M proper two one p (turned q h t w) = (keeps M proper q (never_spoilt M proper two one q h)).turn t w
never_spoilt M proper two one p (closed q h) = (keeps M proper q (never_spoilt M proper two one q h)).close

-- a call that is accepted keeps the places, and one that is refused changes nothing
same-places : (p q : Phase) (number : ℕ) → (number ≡ 0 → Framed p q) → (number ≢ 0 → q ≡ p) → length q.workers ≡ length p.workers
same-places p q number framed same =
    by-eq number 0 (λ z. (framed z).places) (λ z. ap (λ (x : Phase). length x.workers) (same z))

pub places : PlacesPromise
places M p (opened k m ab t os) =
    let o = opens M k m ab t os in
    by-eq (reply_number (open_call M k m ab t os).reply) 0 (λ z. (o.accepted z).places) (λ z. (o.refused z).places)
places M p (ordered q h os i w v) = let o = orders M q os i w v in
    same-places q _ (reply_number (order_call M q os i w v).reply)
    (λ z. by-eq q.kind 1 (λ is. (o.insert_accepted is z).others.frame) (λ ne. (o.other_accepted ne z).others.frame)) o.refused ∙ places M q h
places M p (turned q h t w) = (turns M q t w).others.frame.places ∙ places M q h
places M p (closed q h) = let o = closes M q in
    same-places q _ (reply_number (close_call M q).reply) (λ z. (o.accepted z).frame) o.refused ∙ places M q h

pub each-never-spoilt : EachNeverSpoilt
each-never-spoilt d = never_spoilt (model_of d) (proper d) (omega arith, (fewest-most d).0) (omega arith, (fewest-most d).1)
