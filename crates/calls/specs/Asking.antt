-- What an order call asks for, as the code works it out before it looks at the phase's workers.
use Rattle.std.specs.Prelude.{cond, ℕ, Option, Some, None}
use Rattle.orders.specs.declared.Order.{Order}
use Rattle.protocol.specs.Calls.{asked, missing}
use Rattle.calls.specs.declared.Asked.{Asked}

-- nothing where the list lacks the line
abbrev pub asked_for : (k : ℕ) → Option Order → (w v : ℕ) → Option Asked
asked_for k l w v =
    cond (missing k l) None (Some (record { worker = (asked k l w v).worker; key = (asked k l w v).key; price = (asked k l w v).price }))
