use Rattle.std.proofs.Common.{rules, ◌≡◌, Ok, Err, sym}
use Rattle.rounds.specs.Rounds.{acks_of}
use Rattle.polling.proofs.Polling.{find-refused, may-settle, settled-so}
use Rattle.polling.proofs.close_round.Goals as goal

pub settle-requires : goal.settle-requires
settle-requires c =
    let a = c.args in
    let accepted : c.open_unlisted-finding.result.reply ≡ Ok tt = search rules in
    may-settle a.device a.crew a.hash a.cells.now (acks_of a.keys.now a.workers.now) a.answers.now a.out.now _ c.open_unlisted-finding.ensures
    accepted _ c.acks_of.ensures (sym c.if-is_short.ensures)

pub returns-in_err-finding : goal.returns-in_err-finding
returns-in_err-finding c =
    let a = c.args in
    let refused : c.open_unlisted-finding.result.reply ≡ Err c.in_err-finding.field-0.0 = search rules in
    let told : c.from_residual.result ≡ Err c.in_err-finding.field-0.0 = search rules in
    rw told (find-refused a.device a.crew a.hash a.cells.now (acks_of a.keys.now a.workers.now) a.answers.now a.out.now _ c.open_unlisted-finding.ensures _
    refused)

pub returns : goal.returns
returns c =
    let a = c.args in
    let accepted : c.open_unlisted-finding.result.reply ≡ Ok tt = search rules in
    settled-so a.device a.crew a.hash a.cells.now (acks_of a.keys.now a.workers.now) a.answers.now a.out.now _ c.open_unlisted-finding.ensures
    accepted _ _ _ _ c.settle.ensures
