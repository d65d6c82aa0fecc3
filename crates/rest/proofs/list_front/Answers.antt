-- The first cells, as many as were counted, are the entries.
use Rattle.std.proofs.Common.{refl, sym}
use Rattle.state.specs.Model.{model_of}
use Rattle.tables.proofs.Answers.{front}
use Rattle.rest.proofs.list_front.Goals as goal

pub returns-in-Ok : goal.returns-in-Ok
returns-in-Ok c =
    let a = c.args in
    (front (model_of a.device) a.hash a.cells.now a.out.now _ _ (sym c.in-Ok.ensures.0) c.in-Ok.ensures.1, refl)
