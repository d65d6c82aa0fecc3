use Rattle.std.proofs.Common.{arith, rules}
use Rattle.std.proofs.lemmas.Result.{err_from_is_err_and}
use Rattle.blocks.proofs.Filling.{behind-none}
use Rattle.replay.proofs.Passing.{filled_on, passes, passes-ended, passes-failed}
use Rattle.replay.proofs.block_done.Goals as goal

pub loop-from-init : goal.loop-from-init
loop-from-init g c = record { behind = behind-none c.requires.0; room = c.requires.1 }

pub returns-in_err-flush : goal.returns-in_err-flush
returns-in_err-flush g c =
    let (e, is, same) = err_from_is_err_and c.from_residual.result c.from_residual.ensures.1 in
    rw is (passes-failed c.loop-from.invariant.behind c.fill-filled.ensures e)

pub returns-then-carried : goal.returns-then-carried
returns-then-carried g c = passes-ended c.loop-from.invariant.behind c.fill-filled.ensures c.if-carried.true

pub loop-from-preserved : goal.loop-from-preserved
loop-from-preserved g c =
    record {
      behind = filled_on c.loop-from.invariant.behind c.fill-filled.ensures c.fill-filled.auto.line c.if-carried.false;
      room = omega (arith, c.fill-filled.auto.out);
    }

pub returns : goal.returns
returns g c = passes c.loop-from.invariant.behind (search rules)
