-- The group's word is made once: it says which cells are written, and how many.
use Rattle.std.proofs.Common.{◌∙◌, ap}
use lib.Count.{ones}
use Rattle.words.proofs.Words.{ones-word}
use Rattle.listing.proofs.list_group.Goals as goal

pub returns : goal.returns
returns c = (ap ones c.occupancy-word.ensures ∙ ones-word c.args.group.now, c.write_entries.ensures)
