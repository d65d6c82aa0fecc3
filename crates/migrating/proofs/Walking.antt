-- For the check: what comes behind the tests of a task.
use Rattle.migrating.proofs.Carrying.{below-source, may-insert, fetch-carries, insert-carries}

pub ruleset carry_rules = (below-source, may-insert, fetch-carries, insert-carries)
