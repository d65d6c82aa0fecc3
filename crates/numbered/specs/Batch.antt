-- An opening and the calls after it, given as numbers: what code gives, and what is promised of it.
use Rattle.std.specs.Prelude.{◌≡◌, List, [], ℕ, Ok, Err}
use Rattle.homes.specs.declared.Hash.{Hash}
use Rattle.orders.specs.declared.Order.{Order}
use Rattle.state.specs.Model.{Model}
use Rattle.state.specs.Open.{open_reply, open_call}
use Rattle.state.specs.declared.Refusal.{Refusal}
use Rattle.state.specs.declared.Replied.{Replied}
use Rattle.state.specs.Replies.{Reply}
use Rattle.history.specs.History.{Call, opening}
use Rattle.history.specs.Promise.{Claim}
use Rattle.numbered.specs.Lists.{calls_lent, RunGives}

module _ (M : Model) (k m : ℕ) (ab : Hash) (t : List ℕ) (os : List Order) (ops lines workers keys out : List ℕ) where
  -- none if the opening is refused
  abbrev pub if_accepted : Reply → List Call
  if_accepted (Ok _) = calls_lent ops lines workers keys out
  if_accepted (Err r) = []

  abbrev pub dealt : List Call
  dealt = if_accepted (open_reply M k m ab t os)

  pub record Ran (r : Replied) (t' out' : List ℕ) : Type 0 where
    pub reply : r.reply ≡ open_reply M k m ab t os
    pub gives : RunGives M os dealt (opening M k m ab t os) out r.phase t' out'

  -- what is promised of the calls where the opening is accepted
  abbrev pub Promised : Type 0
  Promised = open_reply M k m ab t os ≡ Ok tt → Claim M k m ab t os dealt

-- ---- which calls are dealt: where the opening by a and b is accepted all that are lent, and it is of these that all is promised; else none. Proved in
-- proofs/Opening
pub record Dealt (M : Model) (k m : ℕ) (ab : Hash) (t : List ℕ) (os : List Order) (ops lines workers keys out : List ℕ) : Type 0 where
  pub accepted : (open_call M k m ab t os).reply ≡ Ok tt → dealt M k m ab t os ops lines workers keys out ≡ calls_lent ops lines workers keys out
  pub promised : Promised M k m ab t os ops lines workers keys out → (open_call M k m ab t os).reply ≡ Ok tt
      → Claim M k m ab t os (calls_lent ops lines workers keys out)
  pub refused : (r : Refusal) → (open_call M k m ab t os).reply ≡ Err r → dealt M k m ab t os ops lines workers keys out ≡ []

abbrev pub DealtPromise : Type 0
DealtPromise =
    (M : Model) (k m : ℕ) (ab : Hash) (t : List ℕ) (os : List Order) (ops lines workers keys out : List ℕ) → Dealt M k m ab t os ops lines workers keys out
