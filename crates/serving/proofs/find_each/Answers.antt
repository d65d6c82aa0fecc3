use Rattle.std.proofs.Common.{◌≡◌, ◌<◌, refl, sym, ap, ◌∙◌, arith, length, get_or}
use Rattle.state.specs.Refusals.{reply_number}
use Rattle.state.specs.declared.Replied.{Replied}
use Rattle.rounds.specs.Rounds.{Ack, acks_of, ack_reply}
use Rattle.rounds.proofs.Acks.{ack-at}
use Rattle.serving.proofs.Fitting.{find-starts, find-goes-on}
use Rattle.serving.proofs.Serving.{own-numbers, close-accepted}
use Rattle.serving.proofs.Telling.{none_told, one_told, all_told}
use Rattle.serving.proofs.find_each.Goals as goal

pub loop-i-init : goal.loop-i-init
loop-i-init c = record {
  served = find-starts _ _ _ c.requires.0 c.requires.1;
  same = refl;
  told = none_told _ _ _ _;
  all = c.acks_of-i-end.ensures;
  room = c.requires.2;
}

pub find_one-told-requires : goal.find_one-told-requires
find_one-told-requires c = let l = c.loop-i in rw l.invariant.same (own-numbers _ _ _ _ _ _ l.next _ l.invariant.served)

pub loop-i-preserved : goal.loop-i-preserved
loop-i-preserved c =
    let l = c.loop-i in let v = l.invariant in let a = c.args in
    let more : l.i < length (acks_of a.keys.now a.workers.now) = omega arith in
    let (on, same, number) = find-goes-on _ _ _ _ l.next v.served l.cells v.same _ _ _ (get_or a.keys.now l.i 0) (get_or a.workers.now l.i 0) c.find_one-told.ensures in
    record {
      served = on;
      same = same;
      told = one_told _ _ _ _ l.i l.answers _ (omega (arith, v.told.long, v.room))
          (number ∙ ap (λ (r : Ack). reply_number (ack_reply a.phase.crew a.cells.now r)) (sym (ack-at _ _ l.i more))) v.told;
      all = v.all;
      room = v.room;
    }

pub returns : goal.returns
returns c =
    let l = c.loop-i in let v = l.invariant in let a = c.args in
    let all : l.i ≡ length (acks_of a.keys.now a.workers.now) = omega arith in (
      ap (λ (r : Replied). r.reply) c.close-closed.ensures ∙ close-accepted _ _ _ _ _ _ l.next _ v.served,
      v.same,
      all_told _ _ _ _ l.i l.answers all v.room v.told,
    )
