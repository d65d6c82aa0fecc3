-- The refusal for what is bad in a text.
use Rattle.state.specs.declared.Refusal.{Refusal}
use Rattle.state.specs.declared.Refusal.TheVariants.{BadRecord, BadField}
use Rattle.till.specs.declared.Bad.{Bad}
use Rattle.till.specs.declared.Bad.TheVariants.{Broken, Wrong}

abbrev pub refusal_of : Bad → Refusal
refusal_of Broken = BadRecord
refusal_of Wrong = BadField
