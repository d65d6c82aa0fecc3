use Rattle.std.proofs.Common.{arith}
use Rattle.blocks.proofs.Answered.{no_last, a-last}
use Rattle.blocks.proofs.last_line.Goals as goal

pub returns-then-len-eq0 : goal.returns-then-len-eq0
returns-then-len-eq0 c =
    let a = c.args in
    (no_last a.carried a.line.now a.cells.now a.items.now a.out.now c.requires.0 c.if-len-eq0.true, omega arith)

pub returns : goal.returns
returns c =
    let a = c.args in
    a-last a.carried a.line.now a.cells.now a.items.now a.out.now c.requires.0 c.if-len-eq0.false c.requires.1
    c.read_line-read.ensures c.answer-answered.ensures
