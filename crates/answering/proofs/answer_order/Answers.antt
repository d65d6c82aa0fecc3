use Rattle.answering.proofs.One.{reply-room, reply-printed, order-told}
use Rattle.answering.proofs.answer_order.Goals as goal

pub put_reply-behind-requires : goal.put_reply-behind-requires
put_reply-behind-requires c = reply-room c.args.number c.args.out.now c.args.at c.ranges.number.fits c.requires.1 c.put_number-from.ensures

pub returns : goal.returns
returns c =
    order-told c.one_order-reply.ensures
    (reply-printed c.args.number c.one_order-reply.result.reply c.ranges.number.fits c.requires.1 c.put_number-from.ensures
    c.put_reply-behind.ensures c.put_bytes-end.ensures)
