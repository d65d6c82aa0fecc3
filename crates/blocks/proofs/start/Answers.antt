use Rattle.std.proofs.Common.{◌≡◌, ap, false, arith}
use Rattle.sheet.specs.Replay.{blank}
use Rattle.answering.specs.Store.{replay_of}
use Rattle.answering.specs.declared.Replay.{Replay}
use Rattle.answering.proofs.Answering.{blank-ready}
use Rattle.blocks.specs.Kept.{kept_of, Begins}
use Rattle.blocks.proofs.start.Goals as goal

begins : {replay : Replay} → replay ≡ replay_of blank → Begins (record { replay = replay; number = 0; len = 0; ended = false })
begins e =
    record {
      kept = λ line cells items. ap (λ (r : Replay). kept_of (record { replay = r; number = 0; len = 0; ended = false }) line cells items) e;
      held = λ cells items l m. record { ready = blank-ready _ cells items e l m; gathered = omega arith };
    }

pub returns : goal.returns
returns c = begins c.start.ensures
