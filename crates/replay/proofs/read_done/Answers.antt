use Rattle.std.proofs.Common.{rules, ◌≡◌, ◌≤◌, length, Ok, Err}
use Rattle.std.proofs.lemmas.Result.{err_from_is_err_and}
use Rattle.replay.proofs.Reading.{unread, unwritten, brings}
use Rattle.replay.proofs.read_done.Goals as goal

pub returns-in_err-count : goal.returns-in_err-count
returns-in_err-count g c =
    let (e, is, same) = err_from_is_err_and c.from_residual.result c.from_residual.ensures.1 in
    let failed : c.args.got ≡ Err c.in_err-count.field-0.0 = search rules in
    rw is (unread c.args.block.now c.requires.fit.0.held failed e)

pub returns-in_err-block_done : goal.returns-in_err-block_done
returns-in_err-block_done g c =
    let (e, is, same) = err_from_is_err_and c.from_residual-in_err-block_done.result c.from_residual-in_err-block_done.ensures.1 in
    let came : c.args.got ≡ Ok c.in_ok-count.count = search rules in
    let within : c.in_ok-count.count ≤ length c.args.block.now = search rules in
    rw is (unwritten c.args.block.now came within c.block_done.ensures e)

pub returns : goal.returns
returns g c =
    let came : c.args.got ≡ Ok c.in_ok-count.count = search rules in
    let within : c.in_ok-count.count ≤ length c.args.block.now = search rules in
    let done : c.block_done.result ≡ Ok tt = search rules in
    brings c.args.block.now came within c.block_done.ensures done
