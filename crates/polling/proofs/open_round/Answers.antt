use Rattle.std.proofs.Common.{rules, ◌≡◌, Ok, Err}
use Rattle.polling.proofs.Polling.{told-refused, may-insert, filled-up}
use Rattle.polling.proofs.open_round.Goals as goal

pub insert_each-requires : goal.insert_each-requires
insert_each-requires g c =
    let a = c.args in
    let accepted : c.open_empty-opened.result.reply ≡ Ok tt = search rules in
    may-insert a.device a.crew a.hash a.cells.now (g.L.Lines.orders a.list) _ c.open_empty-opened.ensures accepted _
    c.clear.ensures

pub returns-in_err-opened : goal.returns-in_err-opened
returns-in_err-opened g c =
    let a = c.args in
    let refused : c.open_empty-opened.result.reply ≡ Err c.in_err-opened.field-0.0 = search rules in
    let told : c.from_residual.result ≡ Err c.in_err-opened.field-0.0 = search rules in
    rw told (told-refused a.device a.crew a.hash a.cells.now (g.L.Lines.orders a.list) _ c.open_empty-opened.ensures _ refused)

pub returns : goal.returns
returns g c =
    let a = c.args in
    let accepted : c.open_empty-opened.result.reply ≡ Ok tt = search rules in
    filled-up a.device a.crew a.hash a.cells.now (g.L.Lines.orders a.list) _ c.open_empty-opened.ensures accepted _
    c.clear.ensures _ _ c.insert_each.ensures
