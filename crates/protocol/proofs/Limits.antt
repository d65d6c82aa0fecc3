-- Within the limits of a model its calls are the gateway's: the tests of these limits are all that is different.
use mathlib.Core.Path.{◌≡◌}
use mathlib.Core.Logic.{◌↔◌}
use mathlib.Core.Bool.{true}
use mathlib.Core.List.{List}
use Prim.Native.Nat.{ℕ}
use native.Mathlib.Omega.{arith}
use borrow.Author.Tests.{le-leb}
use lib.Dec.{leb}
use lib.ListN.{length}
use Rattle.homes.specs.declared.Hash.{Hash}
use Rattle.std.specs.Prelude.{Option}
use Rattle.orders.specs.declared.Order.{Order}
use Rattle.state.specs.Model.{gateway, model_of}
use Rattle.state.specs.Open.{open_call}
use Rattle.state.specs.declared.Device.{Device}
use Rattle.state.specs.declared.Phase.{Phase}
use Rattle.state.proofs.Model.{most-cells, most-workers}
use Rattle.protocol.specs.Calls.{close_call, order_found, turn_call, turn_table}
use Rattle.protocol.specs.IsWellFormed.{is_well_formed}
use Rattle.protocol.specs.WellFormed.{Size, Crew, WellFormed}
use Rattle.protocol.proofs.Theorem.{well-formed}

module _ (d : Device) where
  pub size-within : (n : ℕ) → Size (model_of d) n → Size gateway n
  size-within n h = (h.0, omega (arith, h.1, most-cells d))

  pub crew-within : (m : ℕ) → Crew (model_of d) m → Crew gateway m
  crew-within m h = (h.0, omega (arith, h.1, most-workers d))

  -- both pass the tests of their limits
  pub cells-in-both : (n : ℕ) → Size (model_of d) n → (leb n (model_of d).most_cells ≡ true) × (leb n 8192 ≡ true)
  cells-in-both n h = (le-leb _ _ h.1, le-leb _ _ (size-within n h).1)

  pub crew-in-both : (m : ℕ) → Crew (model_of d) m → (leb m (model_of d).most_workers ≡ true) × (leb m 16 ≡ true)
  crew-in-both m h = (le-leb _ _ h.1, le-leb _ _ (crew-within m h).1)

  pub open-alike : (k m : ℕ) (ab : Hash) (t : List ℕ) (os : List Order) → Size (model_of d) (length t) → Crew (model_of d) m
      → open_call (model_of d) k m ab t os ≡ open_call gateway k m ab t os
  open-alike k m ab t os size crew =
      let (a, b) = cells-in-both (length t) size in
      let (x, y) = crew-in-both m crew in
      rw (a, b, x, y)

  -- ---- records
  pub formed-within : (p : Phase) → WellFormed (model_of d) p ↔ (WellFormed gateway p × Size (model_of d) p.length × Crew (model_of d) p.crew)
  formed-within p = (
    λ h. (
      record { kind = h.kind; size = size-within p.length h.size; crew = crew-within p.crew h.crew; past = h.past; workers = h.workers },
      h.size,
      h.crew,
    ),
    λ (h, size, crew). record { kind = h.kind; size = size; crew = crew; past = h.past; workers = h.workers },
  )

  module _ (p : Phase) (h : WellFormed (model_of d) p) where
    here : is_well_formed (model_of d) p ≡ true
    here = (well-formed (model_of d) p).1 h

    there : is_well_formed gateway p ≡ true
    there = (well-formed gateway p).1 ((formed-within p).0 h).0

    pub order_alike : (l : Option Order) (w v : ℕ) → order_found (model_of d) p l w v ≡ order_found gateway p l w v
    order_alike l w v = rw (here, there)

    pub turn-alike : (t : List ℕ) (w : ℕ) → turn_call (model_of d) p t w ≡ turn_call gateway p t w
    turn-alike t w = rw (here, there)

    pub table-alike : (t : List ℕ) (w : ℕ) → turn_table (model_of d) p t w ≡ turn_table gateway p t w
    table-alike t w = rw (here, there)

    pub close-alike : close_call (model_of d) p ≡ close_call gateway p
    close-alike = rw (here, there)
