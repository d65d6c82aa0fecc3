-- What an order gives: by one worker alone, and of the whole phase.
use Rattle.std.specs.Prelude.{Ok, Err}
use Prim.Native.Nat.{ℕ, ◌<◌}
use mathlib.Core.Bool.{Bool, true, false, cond}
use mathlib.Core.Path.{◌≡◌, refl}
use native.Mathlib.Omega.{arith}
use borrow.Author.Tests.{eq-eqb, ne_eqb, lt-leb}
use lib.Dec.{eqb}
use lib.ListN.{get_or}
use Rattle.ring.proofs.Split.{by-eq}
use Rattle.homes.specs.declared.Hash.{Hash}
use Rattle.prices.specs.Contents.{label}
use Rattle.prices.proofs.Contents.{contents}
use Rattle.activities.specs.declared.Activity.TheVariants.{Reading}
use Rattle.state.specs.Model.{Model}
use Rattle.activities.specs.Activities.{idle}
use Rattle.state.specs.declared.Phase.{Phase}
use Rattle.state.specs.declared.Refusal.{Refusal}
use Rattle.state.specs.declared.Replied.{Replied}
use Rattle.state.specs.Replies.{Reply}
use Rattle.activities.specs.declared.Worker.{Worker}
use Rattle.protocol.specs.declared.Given.{Given}
use Rattle.protocol.specs.Calls.{entry_for, with_worker, order_reply, ordered, order_to}
use Rattle.protocol.specs.Split.{one_reply, one_given, one_order}
use Rattle.protocol.specs.IsWellFormed.{is_well_formed}
use Rattle.protocol.proofs.Turning.{put_back}

pub order-refused : (M : Model) (p : Phase) (lacks : Bool) (w v cents : ℕ) (r : Replied) (why : Refusal) → r ≡ record { phase = p; reply = Err why }
    → order_reply M p lacks w v cents ≡ Err why → r ≡ order_to M p lacks w v cents
order-refused M p lacks w v cents r why e h = rw (e, h)

-- ---- an order to one worker by itself
module _ (M : Model) (k : ℕ) (ab : Hash) (n : ℕ) (w : Worker) (v cents : ℕ) where
  -- r is what the code's tests gave
  pub one-refused : {r : Reply} (why : Refusal) → r ≡ one_reply M k ab n w v cents → r ≡ Err why
      → ◌≡◌ {A = Given} (record { worker = w; reply = Err why }) (one_order M k ab n w v cents)
  one-refused why is h = rw (← is, h)

  -- the entry's key is v, since the price has 32 bits
  entry-label : cents < 4294967296 → label (entry_for k v cents) ≡ v
  entry-label small =
      let fits : cond (eqb k 1) cents 0 < 4294967296 = by-eq k 1 (λ is. rw (eq-eqb k 1 is) small) (λ ne. rw (ne_eqb k 1 ne) (omega arith)) in
      (contents.made v (cond (eqb k 1) cents 0) fits).0

  pub one-taken : {r : Reply} → r ≡ one_reply M k ab n w v cents → r ≡ Ok tt → cents < 4294967296 → (entry cell : ℕ)
      → entry ≡ entry_for k v cents → cell ≡ M.home ab n v
      → ◌≡◌ {A = Given} (record { worker = record { activity = Reading entry cell }; reply = Ok tt }) (one_order M k ab n w v cents)
  one-taken told h small entry cell is f = rw (← told, h, is, f, entry-label small)

-- the phase with worker w as it is after the order to that worker by itself
abbrev pub with-given : Phase → ℕ → Given → Replied
with-given p w g = record { phase = with_worker p w g.worker.activity; reply = g.reply }

module _ (M : Model) (p : Phase) (w v cents : ℕ) where
  abbrev worker : Worker
  worker = get_or p.workers w idle

  by_answer : (a : Reply) → with-given p w (one_given M p.kind p.hash p.length worker v cents a) ≡ ordered M p false w v cents a
  by_answer (Ok _) = refl
  by_answer (Err r) = rw put_back

  -- an order of the phase to a worker that it has is that order
  pub order-by-one : is_well_formed M p ≡ true → p.shut ≡ false → w < p.crew
      → with-given p w (one_order M p.kind p.hash p.length worker v cents) ≡ order_to M p false w v cents
  order-by-one good up below =
      let e : order_reply M p false w v cents ≡ one_reply M p.kind p.hash p.length worker v cents = simp (good, up, lt-leb _ _ below) in
      rw e (by_answer (one_reply M p.kind p.hash p.length worker v cents))
