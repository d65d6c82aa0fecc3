-- The promises on opening, order and close, on kinds, and that a and b are not tested. (Those on turns: Turning.)
use Rattle.std.specs.Prelude.{Ok}
use mathlib.Core.Path.{◌≡◌, refl, sym, ap, ◌∙◌}
use mathlib.Core.Logic.{◌≢◌, ◌⊎◌, inl, inr, ⊎_elim}
use mathlib.Core.Bool.{Bool, true, false}
use mathlib.Core.List.{List}
use Prim.Native.Nat.{ℕ, suc, ◌≤◌, ◌<◌}
use native.Mathlib.Omega.{arith}
use lib.ListN.{length, length-replicate}
use Rattle.layout.specs.Layout.{size}
use Rattle.homes.specs.Homes.{plain}
use Rattle.homes.specs.declared.Hash.{Hash}
use Rattle.prices.specs.Contents.{label}
use Rattle.prices.specs.Priced.{labels}
use Rattle.flaws.specs.Promise.{Intact}
use Rattle.flaws.proofs.Theorem.{theorem as flaws}
use Rattle.words.specs.Words.{count_of}
use Rattle.state.specs.Model.{Model, Proper, model_of}
use Rattle.state.specs.Refusals.{reply_number}
use Rattle.state.specs.declared.Phase.{Phase}
use Rattle.state.proofs.Model.{proper}
use Rattle.protocol.specs.Cases.{case, Decides}
use Rattle.protocol.specs.Promise.{Soundness, GappedIn, DisorderedIn}
use Rattle.protocol.proofs.Chain.{decides, decides-last, by-reply, none-accepted}
use Rattle.protocol.proofs.Soundness.{sounds}
use Rattle.protocol.proofs.Theorem as phase
use Rattle.tables.proofs.Theorem.{counts-keys}
use Rattle.migration.specs.Calls.{task_at, fresh, open_reply, open_call, order_reply, order_call, close_reply, close_call}
use Rattle.migration.specs.Promise.{HashUntestedPromise, OtherKinds, PlainCalls, KindsPromise, Fit, Unfit, open_cases, Resting, OpenPromise, EachOpens, OrderPromise, Unfinished, close_cases, ClosePromise}
use Rattle.migration.specs.Tasks.{free, carrier}
use Rattle.migration.specs.declared.Migration.{Migration}
use Rattle.migration.specs.declared.Task.TheVariants.{Fetching}
use Rattle.migration.proofs.Formed.{busy-below}
use Rattle.migration.proofs.Frames.{task-set, but-task}
use Rattle.migration.proofs.Keeping.{fresh-rest}
use Rattle.migration.proofs.Passing.{Roomy, Cramped, open_steps, open-passed, order_steps, Done, Undone, close_steps}
use Rattle.migration.proofs.Turning.{turns}

-- ---- a and b are not tested
pub hash_untested : HashUntestedPromise
hash_untested M p ab = (
  λ f. record { kind = f.kind; from = f.from; to = f.to; crew = f.crew; handed = f.handed; past = f.past; workers = f.workers },
  λ f. record { kind = f.kind; from = f.from; to = f.to; crew = f.crew; handed = f.handed; past = f.past; workers = f.workers },
)

-- ---- open
fresh-resting : (M : Model) (n l m : ℕ) (ended : Bool) (ab : Hash) → Resting M n l m ended ab (fresh M n l m ended ab)
fresh-resting M n l m ended ab =
    record {
      kind = refl;
      from = refl;
      to = refl;
      crew = refl;
      next = refl;
      shut = refl;
      hash = refl;
      places = length-replicate M.room (carrier free);
      rest = fresh-rest M n l m ended ab;
    }

module _ (M : Model) (m : ℕ) (ab : Hash) (old new : List ℕ) where
  abbrev open-answer : ℕ
  open-answer = reply_number (open_call M m ab old new).reply

  open-reply : (open_call M m ab old new).reply ≡ open_reply M m ab old new
  open-reply = by-reply (open_reply M m ab old new) (λ e. rw e) (λ _ e. rw e)

  open-number : open-answer ≡ reply_number (open_reply M m ab old new)
  open-number = ap reply_number open-reply

  open-accepted : open-answer ≡ 0 → open_reply M m ab old new ≡ Ok tt
  open-accepted z = none-accepted (open_reply M m ab old new) (sym open-number ∙ z)

  -- the taken cells of a sound old table are counted as its labels
  open-decides : Proper M → Decides open-answer (open_cases M m ab old new)
  open-decides proper =
      let (one, (two, (even, (four, (seventeen, (eighteen, unfit)))))) = decides (open_steps M m ab old new) refl open-answer open-number in
      let last = decides-last (case 23 (Roomy old new) (Cramped old new)) (case 23 (Fit old new) (Unfit old new)) _ open-answer refl
      (λ (((_, w), g), d). let e = ones w g d in (λ (none, l). (none, omega arith), λ (none, l). (none, omega arith)))
      (λ (((_, w), g), d). let e = ones w g d in
      (⊎_elim inl (λ (l : length new ≤ count_of old). inr (omega arith)), ⊎_elim inl (λ (l : length new ≤ size (labels label old)). inr (omega arith))))
      unfit in
      (one, (two, (even, (four, (seventeen, (eighteen, last))))))
    where
      ones : Intact old → (GappedIn M ab old → ⊥) → (DisorderedIn M ab old → ⊥) → count_of old ≡ size (labels label old)
      ones w g d = counts-keys M proper ab old ((sounds.kinds M proper ab old).1 (w, g, d))

never_unsound : (M : Model) (m : ℕ) (ab : Hash) (old new : List ℕ) → Proper M → Soundness M ab old
    → (open-answer M m ab old new ≢ 4) × (open-answer M m ab old new ≢ 17) × (open-answer M m ab old new ≢ 18)
never_unsound M m ab old new proper s =
    let (w, g, d) = (sounds.kinds M proper ab old).0 s in
    let not_damaged = (flaws.kinds (M.home ab (length old)) old).not_damaged w in
    let (_, (_, (_, (four, (seventeen, (eighteen, _)))))) = open-decides M m ab old new proper in
    (λ e. not_damaged (four.0 e).1, λ e. g (seventeen.0 e).1, λ e. d (eighteen.0 e).1)

pub opens : OpenPromise
opens M m ab old new =
    record {
      reply = open-reply M m ab old new;
      answers = open-decides M m ab old new;
      sound = λ proper z. (sounds.words M ab old).0 (open-passed M proper m ab old new (open-accepted M m ab old new z)).sound;
      never_unsound = never_unsound M m ab old new;
      refused = λ z. by-reply (open_reply M m ab old new) (λ e. absurd (z (open-number M m ab old new ∙ ap reply_number e)))
          (λ _ e. rw e (fresh-resting M 2 2 1 true plain));
      accepted = λ z. rw (open-accepted M m ab old new z) (fresh-resting M (length old) (length new) m false ab);
    }

pub each_opens : EachOpens
each_opens d m ab old new = (opens (model_of d) m ab old new).answers (proper d)

-- ---- order
pub orders : OrderPromise
orders M p w =
    record {
      answers = decides (order_steps M p w) refl (reply_number (order_call M p w).reply) is;
      refused = λ z. by-reply (order_reply M p w) (λ e. absurd (z (is ∙ ap reply_number e))) (λ _ e. rw e);
      accepted = λ z. rw (none-accepted (order_reply M p w) (sym is ∙ z))
          (record { others = but-task p (suc p.next) w (Fetching p.next); takes = task-set p (suc p.next) w (Fetching p.next); next = refl });
    }
  where
    is : reply_number (order_call M p w).reply ≡ reply_number (order_reply M p w)
    is = by-reply (order_reply M p w) (λ e. rw e) (λ _ e. rw e)

-- ---- close
module _ (M : Model) (p : Migration) where
  close-number : reply_number (close_call M p).reply ≡ reply_number (close_reply M p)
  close-number = by-reply (close_reply M p) (λ e. rw e) (λ _ e. rw e)

  -- a busy worker is below the count, and no more cells are handed out than there are
  close-decides : Decides (reply_number (close_call M p).reply) (close_cases M p)
  close-decides =
      let (spoilt, (shut, working)) = decides (close_steps M p) refl (reply_number (close_call M p).reply) close-number in
      let last = decides-last (case 10 (Done M p) (Undone M p))
      (case 10 (((w : ℕ) → task_at p w ≡ free) × (p.next ≡ p.source)) (Unfinished p ⊎ (p.next < p.source))) _ (reply_number (close_call M p).reply) refl
      (λ ((_, f), _). (λ (rest, l). (rest, omega (arith, f.handed)), λ (rest, l). (rest, omega arith)))
      (λ ((_, f), _). (⊎_elim (λ (w, z). inl (w, busy-below M p f w z, z)) inr, ⊎_elim (λ (w, _, z). inl (w, z)) inr))
      working in
      (spoilt, (shut, last))

pub closes : ClosePromise
closes M p =
    record {
      answers = close-decides M p;
      refused = λ z. by-reply (close_reply M p) (λ e. absurd (z (close-number M p ∙ ap reply_number e))) (λ _ e. rw e);
      accepted = λ z. rw (none-accepted (close_reply M p) (sym (close-number M p) ∙ z))
          (record {
            frame = record { kind = refl; from = refl; to = refl; crew = refl; hash = refl; places = refl };
            next = refl;
            shut = refl;
            workers = refl;
          });
    }

-- ---- kinds
other-kinds : (M : Model) (p : Migration) → p.kind ≢ 4 → OtherKinds M p
other-kinds M p ne =
    record {
      order = λ w. (orders M p w).answers.0.1 (tt, λ f. ne f.kind);
      turn = λ old new w. (turns M p old new w).answers.0.1 (tt, λ f. ne f.kind);
      close = (closes M p).answers.0.1 (tt, λ f. ne f.kind);
    }

plain-calls : (M : Model) (p : Phase) → p.kind ≡ 4 → PlainCalls M p
plain-calls M p is =
    record {
      order = λ os i w v. ((phase.orders M p os i w v).others (λ e. omega arith)).0.1 (tt, λ f. omega (arith, f.kind));
      turn = λ t w. (phase.turns M p t w).answers.0.1 (tt, λ f. omega (arith, f.kind));
      close = (phase.closes M p).answers.0.1 (tt, λ f. omega (arith, f.kind));
    }

pub kinds : KindsPromise
kinds M =
    record {
      others = other-kinds M;
      opening = λ m ab t os cells crew.
          let (_, (_, (three, _))) = (phase.opens M 4 m ab t os).others (λ e. omega arith) in three.1 (((tt, cells), crew), λ k. omega arith);
      plain = plain-calls M;
    }
