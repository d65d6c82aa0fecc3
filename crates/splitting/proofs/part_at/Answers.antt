-- Digits that are all of a field, where none goes on behind them.
use Rattle.std.proofs.Common.{◌+◌, ◌∙◌, sym}
use Rattle.splitting.proofs.Parts.{quoted, plain, plain-digits, quoted-digits}
use Rattle.splitting.proofs.part_at.Goals as goal

pub returns-then-not-stands : goal.returns-then-not-stands
returns-then-not-stands c = λ stops.
    let a = c.args in
    plain-digits a.text.now a.at c.digits_at.ensures stops ∙ plain a.text.now a.at c.stands.ensures.there c.if-not-stands.true

pub returns : goal.returns
returns c = λ stops.
    let a = c.args in
    let closes = sym c.stands-2.ensures.there ∙ c.if-not-stands-2.false in
    quoted-digits a.text.now (a.at + 1) c.digits_at-run.ensures c.if-not-stands-2.ensures.within closes stops
    ∙ quoted a.text.now a.at c.stands.ensures.there c.if-not-stands.false
