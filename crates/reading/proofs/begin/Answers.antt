-- The refusals in their sequence: the crew, the earliest bad record, the room.
use Rattle.std.proofs.Common.{sym, ◌∙◌, ap}
use Rattle.std.specs.Prelude.{Err}
use Rattle.std.proofs.lemmas.Result.{err_from_is_err_and}
use Rattle.state.specs.Model.{model_of}
use Rattle.till.proofs.Places.{no_crew, bad-text, too_short, begun_all}
use Rattle.reading.proofs.begin.Goals as goal

pub returns-then-not-crew_ok : goal.returns-then-not-crew_ok
returns-then-not-crew_ok c =
    let a = c.args in
    no_crew (model_of a.device) a.text.now a.count a.places (sym c.if-not-crew_ok.ensures)

pub returns-in_err-lines : goal.returns-in_err-lines
returns-in_err-lines c =
    let a = c.args in
    let (why, is, same) = err_from_is_err_and c.from_residual.result c.from_residual.ensures.1 in
    is ∙ ap Err same ∙ bad-text (model_of a.device) a.text.now a.count a.places (sym c.if-not-crew_ok.ensures) _ c.in_err-lines.ensures

pub returns-then-places-lines : goal.returns-then-places-lines
returns-then-places-lines c =
    let a = c.args in
    too_short (model_of a.device) a.text.now a.count a.places (sym c.if-not-crew_ok.ensures) _ c.in_ok-lines.ensures c.if-places-lines.true

pub returns : goal.returns
returns c =
    let a = c.args in
    begun_all (model_of a.device) a.text.now a.count a.places (sym c.if-not-crew_ok.ensures) _ c.in_ok-lines.ensures c.if-places-lines.false
