-- Each model keeps every promise: instances of the theorems, which hold in all models.
use Rattle.state.specs.Model.{model_of}
use Rattle.state.specs.declared.Device.{Device}
use Rattle.state.specs.declared.Device.TheVariants.{Gateway, Kiosk}
use Rattle.state.specs.Model.{Limited, most_cells_of, most_workers_of}
use Rattle.state.proofs.Model.{proper, gateway-promise, kiosk-promise}
use Rattle.protocol.proofs.Homing.{homing}
use Rattle.protocol.proofs.Keeping.{keeps, each-never-spoilt, places}
use Rattle.protocol.proofs.Soundness.{sounds}
use Rattle.protocol.proofs.Theorem.{opens, orders, turns, closes, well-formed, hash_untested}
use Rattle.tables.proofs.Theorem.{theorem}
use Rattle.rounds.proofs.Theorem.{sending, closing, round}
use Rattle.till.proofs.Theorem.{till-promise}
use Rattle.history.proofs.Theorem.{history, any_lists, keeps_table, refused, fixed, one_table, two_turns}
use Rattle.addition.proofs.Adding.{addition}
use Rattle.addition.proofs.Opening.{opening}
use Rattle.migration.proofs.Formed as formed
use Rattle.migration.proofs.Keeping as keeping
use Rattle.migration.proofs.Protocol as protocol
use Rattle.migration.proofs.Theorem as courses
use Rattle.migration.proofs.Turning as turning
use Rattle.models.specs.Promises.{MovePromises, EachPromise}

limits : (d : Device) → Limited (model_of d) (most_cells_of d) (most_workers_of d)
limits Gateway = gateway-promise
limits Kiosk = kiosk-promise

moves : (d : Device) → MovePromises (model_of d)
moves d = record {
  opens = protocol.opens (model_of d);
  opens_decided = protocol.each_opens d;
  orders = protocol.orders (model_of d);
  turns = turning.turns (model_of d);
  closes = protocol.closes (model_of d);
  tested = formed.well-formed-says (model_of d);
  hash_untested = protocol.hash_untested (model_of d);
  keeps = keeping.keeps (model_of d) (proper d);
  never_spoilt = keeping.each-never-spoilt d;
  places = keeping.places (model_of d);
  kinds = protocol.kinds (model_of d);
  calls = courses.courses (model_of d) (proper d);
  ends = courses.each-ends d;
  refused = courses.refused (model_of d);
  one_table = courses.one_table (model_of d) (model_of d) (proper d) (proper d);
  two_turns = courses.two_turns (model_of d);
}

pub each-promise : EachPromise
each-promise d = record {
  limits = limits d;
  opens = opens (model_of d);
  orders = orders (model_of d);
  turns = turns (model_of d);
  homing = homing (model_of d);
  closes = closes (model_of d);
  tested = well-formed (model_of d);
  hash_untested = hash_untested (model_of d);
  keeps = keeps (model_of d) (proper d);
  never_spoilt = each-never-spoilt d;
  places = places (model_of d);
  sound_words = sounds.words (model_of d);
  sound_kinds = sounds.kinds (model_of d) (proper d);
  rests = theorem (model_of d) (proper d);
  fills = till-promise.fills (model_of d);
  fills_three = till-promise.three (model_of d);
  sends = sending (model_of d) (proper d);
  settles = closing (model_of d) (proper d);
  rounds = round (model_of d) (proper d);
  calls = history (model_of d) (proper d);
  any_lists = any_lists (model_of d) (proper d);
  keeps_table = keeps_table (model_of d) (proper d);
  refused = λ k m ab t os no cs. (refused (model_of d) k m ab t os no cs).0;
  fixed = fixed (model_of d) (model_of d) (proper d) (proper d);
  one_table = one_table (model_of d) (model_of d) (proper d) (proper d);
  two_turns = two_turns (model_of d);
  opens_for_one = opening (model_of d) (proper d);
  adds = addition (model_of d) (proper d);
  moves = moves d;
}
