use Rattle.std.proofs.Common.{◌∙◌}
use Rattle.serving.proofs.Fitting.{find-may, find-told}
use Rattle.serving.proofs.find_one.Goals as goal

pub serve_order-served-requires : goal.serve_order-served-requires
serve_order-served-requires c = find-may _ _ _ _ _ c.requires _ _ c.if-phase-worker.false c.if-key-eq0.false

pub returns : goal.returns
returns c =
    let (on, same, told) = find-told _ _ _ _ _ c.requires _ _ c.if-phase-worker.false c.if-key-eq0.false _ c.serve_order-served.ensures in
    (on, same, c.found_number.ensures ∙ told)
