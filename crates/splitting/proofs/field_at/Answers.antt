-- A field begins with a quote or not.
use Rattle.std.proofs.Common.{◌∙◌}
use Rattle.splitting.proofs.Parts.{quoted, plain}
use Rattle.splitting.proofs.field_at.Goals as goal

pub returns-then-stands : goal.returns-then-stands
returns-then-stands c = c.quoted_at.ensures ∙ quoted c.args.text.now c.args.at c.stands.ensures.there c.if-stands.true

pub returns-else-stands : goal.returns-else-stands
returns-else-stands c = c.plain_at.ensures ∙ plain c.args.text.now c.args.at c.stands.ensures.there c.if-stands.false
