use Rattle.std.proofs.Common.{sym, ◌∙◌}
use Rattle.homes.specs.Homes.{spread}
use Rattle.rule.specs.Rule.{delete_step}
use Rattle.deletion.proofs.delete_seeking_back.Goals as goal

pub returns-then-fits : goal.returns-then-fits
unfolding delete_step
returns-then-fits c = let a = c.args in
    simp (c.goes.ensures, c.narrow.ensures (spread a.hash a.length), c.prev.ensures, sym c.fits.ensures ∙ c.if-fits.true)

pub returns : goal.returns
unfolding delete_step
returns c = let a = c.args in
    simp (c.goes-2.ensures, c.narrow-2.ensures (spread a.hash a.length), c.prev-2.ensures, sym c.fits.ensures ∙ c.if-fits.false)
