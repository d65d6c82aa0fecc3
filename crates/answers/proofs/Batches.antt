-- The computed batches, as the exported functions give them.
use mathlib.Core.Path.{sym}
use mathlib.Core.List.{List, [], ◌∷◌}
use Rattle.numbered.specs.Examples.{Batch, AllLeave, batches}
use Rattle.numbered.proofs.Examples.{batches-promise}
use Rattle.answers.specs.Numbers.{AllGiven, GivenPromise}

all-given : (bs : List Batch) → AllLeave bs → AllGiven bs
all-given [] h = tt
all-given (b ∷ bs) ((reply, table, answers), rest) =
    (record { reply = sym reply; table = sym table; answers = sym answers }, all-given bs rest)

pub given-promise : GivenPromise
given-promise = all-given batches batches-promise
