-- The four scans of a record, one behind the other.
use Rattle.std.proofs.Common.{sym, ◌∙◌}
use Rattle.splitting.proofs.Places.{missing, no-first, no-comma, no_second, no_end, whole}
use Rattle.splitting.proofs.any_at.Goals as goal

pub returns-in_err-first : goal.returns-in_err-first
returns-in_err-first c =
    let a = c.args in
    let none = c.in_err-first.ensures in
    missing c.from_residual.result c.from_residual.ensures.1 none.value none.ok_part ∙ no-first a.text.now a.at (sym none.ok_part ∙ c.field_at.ensures)

pub returns-then-not-stands : goal.returns-then-not-stands
returns-then-not-stands c =
    let a = c.args in
    no-comma a.text.now a.at (sym c.in_ok-first.ensures.ok_part ∙ c.field_at.ensures) (sym c.stands.ensures.there ∙ c.if-not-stands.true)

pub returns-in_err-second : goal.returns-in_err-second
returns-in_err-second c =
    let a = c.args in
    let first = sym c.in_ok-first.ensures.ok_part ∙ c.field_at.ensures in
    let comma = sym c.stands.ensures.there ∙ c.if-not-stands.false in
    let none = c.in_err-second.ensures in
    missing c.from_residual-in_err-second.result c.from_residual-in_err-second.ensures.1 none.value none.ok_part
    ∙ no_second a.text.now a.at first c.if-not-stands.ensures.within comma (sym none.ok_part ∙ c.field_at-2.ensures)

pub returns-in_err-next : goal.returns-in_err-next
returns-in_err-next c =
    let a = c.args in
    let first = sym c.in_ok-first.ensures.ok_part ∙ c.field_at.ensures in
    let comma = sym c.stands.ensures.there ∙ c.if-not-stands.false in
    let second = sym c.in_ok-second.ensures.ok_part ∙ c.field_at-2.ensures in
    let none = c.in_err-next.ensures in
    missing c.from_residual-in_err-next.result c.from_residual-in_err-next.ensures.1 none.value none.ok_part
    ∙ no_end a.text.now a.at first c.if-not-stands.ensures.within comma second (sym none.ok_part ∙ c.end_at.ensures)

pub returns : goal.returns
returns c =
    let a = c.args in
    let first = sym c.in_ok-first.ensures.ok_part ∙ c.field_at.ensures in
    let comma = sym c.stands.ensures.there ∙ c.if-not-stands.false in
    let second = sym c.in_ok-second.ensures.ok_part ∙ c.field_at-2.ensures in
    let end = sym c.in_ok-next.ensures.ok_part ∙ c.end_at.ensures in
    c.line_of.ensures ∙ whole a.text.now a.at first c.if-not-stands.ensures.within comma second end
