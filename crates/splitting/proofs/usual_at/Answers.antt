-- Digits that are both fields, as a comma and the record's end stand behind them.
use Rattle.std.proofs.Common.{sym, ◌∙◌}
use Rattle.splitting.proofs.Parts.{comma-stops, end-stops}
use Rattle.splitting.proofs.Places.{whole}
use Rattle.splitting.proofs.usual_at.Goals as goal

pub returns : goal.returns
returns c =
    let a = c.args in
    let comma = sym c.stands.ensures.there ∙ c.if-not-stands.false in
    let first = c.in_ok-first.ensures (comma-stops a.text.now c.in_ok-first.first.end comma) in
    let second = c.in_ok-second.ensures (end-stops a.text.now c.in_ok-second.second.end c.in_ok-next.ensures) in
    c.line_of.ensures ∙ whole a.text.now a.at first c.if-not-stands.ensures.within comma second c.in_ok-next.ensures
