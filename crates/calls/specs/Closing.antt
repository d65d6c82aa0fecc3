-- What a close in place does to every record, well formed or not: to a model to which it is well formed, this is that model's close.
use Rattle.std.specs.Prelude.{cond, Ok, Err}
use Rattle.state.specs.declared.Phase.{Phase}
use Rattle.state.specs.declared.Refusal.TheVariants.{Working, Shut}
use Rattle.state.specs.declared.Replied.{Replied}
use Rattle.protocol.specs.Bars.{all_idle}
use Rattle.protocol.specs.Calls.{shut_phase}

-- a shut phase, and one whose workers are not all idle, stay as they are
abbrev pub closed_in_place : Phase → Replied
closed_in_place p =
    cond p.shut (record { phase = p; reply = Err Shut })
    (cond (all_idle p.workers) (record { phase = shut_phase p; reply = Ok tt }) (record { phase = p; reply = Err Working }))
