-- These two steps compute no home, so they are the rule's for every home rule.
use Rattle.homes.specs.Homes.{spread}
use Rattle.rule.specs.Rule.{delete_step}
use Rattle.deletion.proofs.delete_step.Goals as goal

pub returns-in-Reading : goal.returns-in-Reading
unfolding delete_step
returns-in-Reading c = rw c.in-Reading.is (c.delete_reading.ensures (spread c.args.hash c.args.length))

pub returns-in-Replacing : goal.returns-in-Replacing
unfolding delete_step
returns-in-Replacing c = rw c.in-Replacing.is (c.delete_replacing.ensures (spread c.args.hash c.args.length))
