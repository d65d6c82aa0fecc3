use Rattle.std.proofs.Common.{◌≡◌, ap, [], arith, rules, Ok}
use Rattle.lines.specs.Grammar.{kept_bytes, longest_line}
use Rattle.feed.specs.Feed.{Kept}
use Rattle.replay.proofs.Reading.{few_read}
use Rattle.replay.proofs.replay.Goals as goal

pub loop-left-init : goal.loop-left-init
unfolding kept_bytes longest_line
loop-left-init c =
    record {
      held = c.start-carried.ensures.held _ _ (search rules) (search rules);
      goes = ap (λ (k : Kept). k.ended) (c.start-carried.ensures.kept [] [] []);
      few = let e : c.start-carried.result.number ≡ 0 = ap (λ (k : Kept). k.number) (c.start-carried.ensures.kept [] [] []) in omega (arith, e);
      cells-long = search rules;
      items-long = search rules;
      block-long = search rules;
      out-long = search rules;
      line_long = search rules;
    }

pub loop-left-preserved : goal.loop-left-preserved
loop-left-preserved c =
    let i = c.loop-left.invariant in
    let came : c.read_done.result ≡ Ok c.in_ok-count.count = search rules in
    let few = few_read c.read_done.ensures came in
    record {
      held = c.read_done.ensures.held;
      goes = c.if-carried.false;
      few = omega (arith, i.few, few, i.block-long);
      cells-long = omega (arith, i.cells-long, c.read_done.auto.cells);
      items-long = omega (arith, i.items-long, c.read_done.auto.items);
      block-long = omega (arith, i.block-long, c.read-got.auto.buf);
      out-long = omega (arith, i.out-long, c.read_done.auto.out);
      line_long = omega (arith, i.line_long, c.read_done.auto.line);
    }
