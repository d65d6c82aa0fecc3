-- Each activity that insert has is answered by its own function.
use Rattle.rule.specs.Rule.{insert_step}
use Rattle.probing.proofs.insert_step.Goals as goal

pub returns-in-Reading : goal.returns-in-Reading
returns-in-Reading c home = rw c.in-Reading.is (c.insert_reading.ensures home)

pub returns-in-Replacing : goal.returns-in-Replacing
unfolding insert_step
returns-in-Replacing c home = rw c.in-Replacing.is (c.insert_replacing.ensures home)
