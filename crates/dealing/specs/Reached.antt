-- Phase states and tables that calls lead to.
use Rattle.std.specs.Prelude.{◌≡◌, List, ℕ, Ok}
use Rattle.homes.specs.declared.Hash.{Hash}
use Rattle.orders.specs.declared.Order.{Order}
use Rattle.history.specs.History.{Call, after}
use Rattle.state.specs.Model.{Model}
use Rattle.state.specs.Open.{open_reply}
use Rattle.state.specs.declared.Phase.{Phase}

-- the phase state and the table are what some list of calls leaves from an accepted opening of kind k with m workers by a and b on the table t, all lent the
-- list os
pub record From (M : Model) (k m : ℕ) (ab : Hash) (t : List ℕ) (os : List Order) (p : Phase) (u : List ℕ) : Type 0 where
  pub calls : List Call
  pub accepted : open_reply M k m ab t os ≡ Ok tt
  pub phase : p ≡ (after M k m ab t os calls).phase
  pub table : u ≡ (after M k m ab t os calls).table

pub record Reached (M : Model) (os : List Order) (p : Phase) (u : List ℕ) : Type 0 where
  pub kind : ℕ
  pub crew : ℕ
  pub hash : Hash
  pub opened : List ℕ
  pub by : From M kind crew hash opened os p u

-- by calls that were all lent the same list, whichever it is
abbrev pub Led : Model → Phase → List ℕ → Type 0
Led M p u = (os : List Order) × Reached M os p u
