-- Each line of the block is answered by one of three functions; what each ensures is an answer to the line, so that one law serves all three.
use Rattle.std.proofs.Common.{◌≡◌, ℕ, ◌<◌, List, take, refl, sym, ap, ◌∙◌, arith}
use Rattle.std.specs.Prelude.{Option, Some}
use Rattle.orders.specs.declared.Order.{Order}
use Rattle.lines.specs.declared.Line.{Line}
use Rattle.fitting.specs.Fitting.{aim_of}
use Rattle.fitting.specs.declared.Aim.{Aim}
use Rattle.fitting.proofs.Fitting.{Aimed, aimed}
use Rattle.feed.specs.Feed.{Kept}
use Rattle.blocks.specs.declared.Carried.{Carried}
use Rattle.answering.proofs.One.{few-crew, some-cells, good-worker, order-line, turn-line}
use Rattle.blocks.proofs.Filling.{Filling, filling-none, same_none, same-on, end-within, filled-part, next_line, ended-line}
use Rattle.blocks.proofs.fill.Goals as goal

-- a line to one worker
module _ {k₀ : Kept} {block line cells : List ℕ} {items : List Order} {out : List ℕ} {c : Carried} {from at : ℕ} (h : Filling k₀ block line cells items out c from at) (l : Line)
    {a : Option Aim} (told : a ≡ aim_of c.replay.phase.kind c.replay.phase.shut l c.replay.phase.crew (take c.replay.items items))
    {b : Aim} (is : a ≡ Some b) where
  to : (x : Aim) → b ≡ x → Aimed c.replay.phase.kind c.replay.phase.shut l c.replay.phase.crew (take c.replay.items items) (Some x)
  to x e = aimed _ _ _ _ _ (sym (is ∙ ap Some e) ∙ told)

  order-room : (o : Order) → b ≡ Aim.Order o → o.worker < 16
  order-room o e = let t = to (Aim.Order o) e in omega (arith, few-crew _ _ _ h.behind.held.ready t.1.up, t.1.below)

  turn-room : (w : ℕ) → b ≡ Aim.Turn w → w < 16
  turn-room w e = let t = to (Aim.Turn w) e in omega (arith, few-crew _ _ _ h.behind.held.ready t.1.up, t.1.below)

pub loop-from-init : goal.loop-from-init
loop-from-init c = (filling-none c.requires.0 c.requires.1.1, same_none)

pub overflow_add-end : goal.overflow_add-end
overflow_add-end c = omega (arith, end-within c.loop-from.invariant.0.behind c.byte_at.ensures)

pub returns-then-block-end : goal.returns-then-block-end
returns-then-block-end c =
    (filled-part c.loop-from.invariant.0 c.loop-from-test.true c.byte_at.ensures c.if-block-end.true c.gather.ensures)

pub bounds-carried-w : goal.bounds-carried-w
bounds-carried-w c = order-room c.loop-from.invariant.0 c.read_end-read.result c.aim_of-aim.ensures c.in-Some-Order.is c.in-Some-Order.order (rw c.in-Some-Order.is at c.in-Some-Order.field-0-is)

pub bounds-carried-w-in-Some-Order : goal.bounds-carried-w-in-Some-Order
bounds-carried-w-in-Some-Order c = order-room c.loop-from.invariant.0 c.read_end-read.result c.aim_of-aim.ensures c.in-Some-Order.is c.in-Some-Order.order (rw c.in-Some-Order.is at c.in-Some-Order.field-0-is)

pub bounds-carried-w-in-Some-Turn : goal.bounds-carried-w-in-Some-Turn
bounds-carried-w-in-Some-Turn c = turn-room c.loop-from.invariant.0 c.read_end-read.result c.aim_of-aim.ensures c.in-Some-Turn.is c.in-Some-Turn.worker (rw c.in-Some-Turn.is at c.in-Some-Turn.field-0-is)

pub bounds-carried-w-in-Some-Turn-2 : goal.bounds-carried-w-in-Some-Turn-2
bounds-carried-w-in-Some-Turn-2 c = turn-room c.loop-from.invariant.0 c.read_end-read.result c.aim_of-aim.ensures c.in-Some-Turn.is c.in-Some-Turn.worker (rw c.in-Some-Turn.is at c.in-Some-Turn.field-0-is)

pub answer_order-worked-requires : goal.answer_order-worked-requires
answer_order-worked-requires c =
    let v = c.loop-from.invariant.0 in
    (some-cells _ _ _ v.behind.held.ready (to v c.read_end-read.result c.aim_of-aim.ensures c.in-Some-Order.is (Aim.Order c.in-Some-Order.order) (rw c.in-Some-Order.is at c.in-Some-Order.field-0-is)).1.up, omega (arith, v.room))

pub loop-from-preserved-in-Some-Order : goal.loop-from-preserved-in-Some-Order
loop-from-preserved-in-Some-Order c =
    let v = c.loop-from.invariant in
    let line = c.read_end-read.auto.line in
    let out = c.answer_order-worked.auto.out in (
      next_line v.0 c.loop-from-test.true c.byte_at.ensures c.if-block-end.false (omega (arith, v.0.room)) c.read_end-read.ensures
          (order-line v.0.behind.held.ready (to v.0 c.read_end-read.result c.aim_of-aim.ensures c.in-Some-Order.is (Aim.Order c.in-Some-Order.order) (rw c.in-Some-Order.is at c.in-Some-Order.field-0-is)) c.answer_order-worked.ensures) _ line out refl,
      same-on v.1 line refl refl out,
    )

pub answer_turn-worked-requires : goal.answer_turn-worked-requires
answer_turn-worked-requires c =
    let v = c.loop-from.invariant.0 in
    let ready = v.behind.held.ready in
    let t = to v c.read_end-read.result c.aim_of-aim.ensures c.in-Some-Turn.is (Aim.Turn c.in-Some-Turn.worker) (rw c.in-Some-Turn.is at c.in-Some-Turn.field-0-is) in
    let good = good-worker _ _ _ ready t.1.up _ t.1.below in
    (good.0, (good.1, (omega (arith, ready.roomy.fits, ready.roomy.most), omega (arith, v.room))))

pub loop-from-preserved-in-Some-Turn : goal.loop-from-preserved-in-Some-Turn
loop-from-preserved-in-Some-Turn c =
    let v = c.loop-from.invariant in
    let line = c.read_end-read.auto.line in
    let r = c.answer_turn-worked in (
      next_line v.0 c.loop-from-test.true c.byte_at.ensures c.if-block-end.false (omega (arith, v.0.room)) c.read_end-read.ensures
          (turn-line v.0.behind.held.ready (to v.0 c.read_end-read.result c.aim_of-aim.ensures c.in-Some-Turn.is (Aim.Turn c.in-Some-Turn.worker) (rw c.in-Some-Turn.is at c.in-Some-Turn.field-0-is)) r.ensures) _ line r.auto.out refl,
      same-on v.1 line r.auto.cells refl r.auto.out,
    )

pub returns-then-answered : goal.returns-then-answered
returns-then-answered c =
    let v = c.loop-from in
    (ended-line v.invariant.0 c.loop-from-test.true c.byte_at.ensures c.if-block-end.false (omega (arith, v.invariant.0.room))
    c.read_end-read.ensures c.answer-answered.ensures _ c.if-answered.true)

pub loop-from-preserved : goal.loop-from-preserved
loop-from-preserved c =
    let v = c.loop-from in
    let line = c.read_end-read.auto.line in
    let r = c.answer-answered in (
      next_line v.invariant.0 c.loop-from-test.true c.byte_at.ensures c.if-block-end.false (omega (arith, v.invariant.0.room))
          c.read_end-read.ensures r.ensures _ line r.auto.out c.if-answered.false,
      same-on v.invariant.1 line r.auto.cells r.auto.items r.auto.out,
    )
