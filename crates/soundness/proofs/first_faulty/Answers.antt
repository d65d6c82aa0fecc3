-- No link says anything at the start.
use Rattle.std.proofs.Common.{arith}
use Rattle.soundness.proofs.Links.{unlinked}
use Rattle.soundness.proofs.first_faulty.Goals as goal

pub search-requires : goal.search-requires
search-requires c = unlinked _ 64 _ _ (omega arith) (omega arith)

pub search-requires-then-cells-le1024 : goal.search-requires-then-cells-le1024
search-requires-then-cells-le1024 c = unlinked _ 1024 _ _ (omega arith) (omega arith)

pub search-requires-2 : goal.search-requires-2
search-requires-2 c = unlinked _ 8192 _ _ c.requires c.requires
