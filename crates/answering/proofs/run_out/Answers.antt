use Rattle.answering.proofs.Store.{runs}
use Rattle.answering.proofs.run_out.Goals as goal

pub returns : goal.returns
returns c = runs c.requires.0 _ _ c.run.ensures.is_run c.run.auto.cells
