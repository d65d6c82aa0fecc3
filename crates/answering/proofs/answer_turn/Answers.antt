use Rattle.answering.proofs.One.{reply-room, turn-printed, turn-told}
use Rattle.answering.proofs.answer_turn.Goals as goal

pub put_turn-behind-requires : goal.put_turn-behind-requires
put_turn-behind-requires c = reply-room c.args.number c.args.out.now c.args.at c.ranges.number.fits c.requires.1.1.1 c.put_number-from.ensures

pub returns : goal.returns
returns c =
    turn-told c.one_turn-reply.ensures
    (turn-printed c.args.number c.one_turn-reply.result.reply c.ranges.number.fits c.requires.1.1.1 c.put_number-from.ensures
    c.put_turn-behind.ensures c.put_bytes-end.ensures)
