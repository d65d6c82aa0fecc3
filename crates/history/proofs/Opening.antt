-- The run that an accepted opening shows.
use Rattle.std.specs.Prelude.{Ok}
use mathlib.Core.Path.{◌≡◌, refl, sym, ◌∙◌}
use mathlib.Core.Bool.{false}
use mathlib.Core.List.{List}
use Prim.Native.Nat.{ℕ, ◌≤◌, ◌<◌}
use native.Mathlib.Omega.{arith}
use lib.ListN.{length, length-replicate}
use Rattle.ring.proofs.Split.{by-eq}
use Rattle.orders.specs.declared.Order.{Order}
use Rattle.rule.specs.Events as events
use Rattle.rule.proofs.Crew.{replicate-at}
use Rattle.state.specs.Model.{Model, Proper}
use Rattle.state.specs.Open.{open_reply}
use Rattle.activities.specs.declared.Activity.TheVariants.{Idle}
use Rattle.protocol.specs.Promise.{Resting}
use Rattle.protocol.specs.WellFormed.{Kind}
use Rattle.ring.proofs.Tests.{not_both}
use Rattle.homes.specs.declared.Hash.{Hash}
use Rattle.protocol.proofs.Opening.{fresh-resting}
use Rattle.protocol.proofs.Theorem.{opens, open-passed}
use Rattle.history.specs.History.{opening}
use Rattle.history.proofs.Pending.{agrees-idle}
use Rattle.history.proofs.Simulation.{Shows}
use Rattle.history.proofs.Taking.{Taken}
use Rattle.history.proofs.Unordered.{Untouched}

pub by-kinds {ℓ} : {C : Type ℓ} (k : ℕ) → Kind k → (k ≡ 1 → C) → (k ≡ 2 → C) → (k ≡ 3 → C) → C
by-kinds k e f g h = by-eq k 1 f (λ a. by-eq k 2 g (λ b. h (omega arith)))

module _ (M : Model) (proper : Proper M) (k m : ℕ) (ab : Hash) (t : List ℕ) (os : List Order) (accepted : open_reply M k m ab t os ≡ Ok tt) where
  some-cells : 0 < length t
  some-cells = omega (arith, proper.some, (open-passed M k m ab t os accepted).size)

  -- homes are cells of the table
  pub homes : (x : ℕ) → M.home ab (length t) x < length t
  homes x = proper.homes ab (length t) x some-cells

  manned : m ≤ M.room
  manned = omega (arith, proper.places, (open-passed M k m ab t os accepted).crew)

  pub resting : Resting M k (length t) m false ab (opening M k m ab t os).phase
  resting = (opens M k m ab t os).accepted (rw accepted)

  -- no order yet: the table is as given and all workers are idle
  pub opening-untouched : Untouched t (opening M k m ab t os)
  opening-untouched = record { table = λ _. refl; idle = λ _. resting.rest }

  -- no order is accepted yet
  pub opening-taken : (L : ℕ → Type 0) → Taken k L (opening M k m ab t os)
  opening-taken L = record { kind = resting.kind; entries = λ y i. absurd i; lines = λ is y i. absurd i }

  pub opening-shows : Shows k (length t) m ab (opening M k m ab t os) (events.opened m t)
  opening-shows = rw accepted
      (record {
        kind = refl;
        cells = refl;
        count = refl;
        hash = refl;
        crew = record {
          records = rw length-replicate manned;
          places = rw length-replicate manned;
          all = length-replicate m Idle;
          same = λ w. (fresh-resting M k (length t) m false ab).rest w ∙ sym (replicate-at Idle m w);
          agree = λ w. rw (replicate-at {A = ℕ} 0 M.room w, replicate-at Idle m w) (agrees-idle k);
        };
        table = refl;
        ordered = refl;
        said = λ _. refl;
        counted = refl;
        shut = refl;
        rest = λ closed. absurd (not_both false closed refl);
      })
