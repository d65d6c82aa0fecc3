-- Orders served one after the other: each is given, and turns are dealt until all workers are idle, before the next is.
use Rattle.std.specs.Prelude.{◌≡◌, ◌≢◌, false, List, ℕ, ◌≤◌, ◌<◌, length, get_or, Ok, Option, Some, None}
use Rattle.homes.specs.declared.Hash.{Hash}
use Rattle.orders.specs.declared.Order.{Order}
use Rattle.activities.specs.declared.Activity.TheVariants.{Idle}
use Rattle.state.specs.Model.{Model, gateway, model_of}
use Rattle.state.specs.Open.{open_reply, open_call}
use Rattle.state.specs.declared.Device.{Device}
use Rattle.state.specs.declared.Phase.{Phase}
use Rattle.state.specs.declared.Replied.{Replied}
use Rattle.protocol.specs.Bars.{doing}
use Rattle.protocol.specs.WellFormed.{Size, Crew}
use Rattle.history.specs.History.{Call, after}
use Rattle.rounds.specs.Rounds.{Ack, no_ack}
use Rattle.dealing.specs.declared.Ended.{Ended}
use Rattle.dealing.specs.declared.Ended.TheVariants.{Finished, Price, No}

-- the phase p was just opened on the table t, lent the list os
abbrev pub Opened : Model → List Order → Phase → List ℕ → Type 0
Opened M os p t = ◌≡◌ {A = Replied} (open_call M p.kind p.crew p.hash t os) (record { phase = p; reply = Ok tt })

-- calls have led from an opening of kind k with m workers by a and b on the table t, lent the list os, to the phase p and the table u, and the phase is
-- open with all workers idle. The opening is within a model's limits, and so its phases are the gateway's
pub record Served (d : Device) (k m : ℕ) (ab : Hash) (os : List Order) (t : List ℕ) (p : Phase) (u : List ℕ) : Type 0 where
  pub size : Size (model_of d) (length t)
  pub crew : Crew (model_of d) m
  pub accepted : open_reply gateway k m ab t os ≡ Ok tt
  pub calls : List Call
  pub phase : p ≡ (after gateway k m ab t os calls).phase
  pub table : u ≡ (after gateway k m ab t os calls).table
  pub running : p.shut ≡ false
  pub places : length p.workers ≡ 16
  pub idle : (w : ℕ) → doing p w ≡ Idle

-- the number of the answer of a find for an acknowledgement: 0 if its key was found, else 22
abbrev pub found_number : Option Ended → ℕ
found_number None = 22
found_number (Some Finished) = 22
found_number (Some (Price q)) = 0
found_number (Some No) = 22

-- there is an answer for each acknowledgement, and 0 only for one with a key and a worker of the crew
pub record Answered (m : ℕ) (rs : List Ack) (answers : List ℕ) : Type 0 where
  pub places : length rs ≤ length answers
  pub given : (i : ℕ) → i < length rs → get_or answers i 0 ≡ 0 → ((get_or rs i no_ack).key ≢ 0) × ((get_or rs i no_ack).worker < m)
