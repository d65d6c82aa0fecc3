use Rattle.state.specs.declared.Device.TheVariants.{Gateway}
use Rattle.price_change.proofs.Left.{count-within}
use Rattle.price_change.proofs.hear.Goals as goal

pub returns : goal.returns
returns c = count-within Gateway _ _ _ _ _ _ _ _ _ _ c.close_round.ensures
