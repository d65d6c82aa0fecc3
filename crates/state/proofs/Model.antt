-- The documents' models are proper ones, with the documents' limits.
use mathlib.Core.Path.{◌≡◌, refl}
use mathlib.Core.Bool.{true}
use Prim.Native.Nat.{ℕ, ◌≤◌}
use native.Mathlib.Omega.{arith}
use Rattle.ring.proofs.Tests.{within-says}
use Rattle.homes.proofs.Homes.{home-inside}
use Rattle.state.specs.Model.{Proper, model_of, gateway, size_ok, crew_ok, GatewayPromise, KioskPromise}
use Rattle.state.specs.declared.Device.{Device}
use Rattle.state.specs.declared.Device.TheVariants.{Gateway, Kiosk}

-- no model has more cells or workers than the functions have places for
pub most-cells : (d : Device) → (model_of d).most_cells ≤ 8192
most-cells Gateway = omega arith
most-cells Kiosk = omega arith

pub most-workers : (d : Device) → (model_of d).most_workers ≤ 16
most-workers Gateway = omega arith
most-workers Kiosk = omega arith

-- each allows 2 cells and one worker, as a refused opening hands them back
pub fewest-most : (d : Device) → (2 ≤ (model_of d).most_cells) × (1 ≤ (model_of d).most_workers)
fewest-most Gateway = (omega arith, omega arith)
fewest-most Kiosk = (omega arith, omega arith)

pub cells-bounded : (d : Device) (n : ℕ) → size_ok (model_of d) n ≡ true → n ≤ 8192
cells-bounded d n e = omega (arith, (within-says (model_of d).fewest_cells (model_of d).most_cells n).0 e, most-cells d)

pub crew-bounded : (d : Device) (m : ℕ) → crew_ok (model_of d) m ≡ true → m ≤ 16
crew-bounded d m e = omega (arith, (within-says (model_of d).fewest_workers (model_of d).most_workers m).0 e, most-workers d)

pub proper : (d : Device) → Proper (model_of d)
proper d = record { some = omega arith; places = most-workers d; homes = home-inside }

pub gateway-proper : Proper gateway
gateway-proper = proper Gateway

pub gateway-promise : GatewayPromise
gateway-promise = record { proper = gateway-proper; cells = within-says 2 8192; workers = within-says 1 16; room = refl; orders = refl; homes = λ ab n x. refl }

pub kiosk-promise : KioskPromise
kiosk-promise = record { proper = proper Kiosk; cells = within-says 2 256; workers = within-says 1 4; room = refl; orders = refl; homes = λ ab n x. refl }
