-- The last group may have less than 64 cells: then it is all that is left.
use Rattle.std.proofs.Common.{◌≡◌, sym, ◌∙◌, List, ℕ, ◌-◌, ◌*◌, ◌<◌, length, take, drop, arith, length-drop}
use lib.Seq.{take_all}
use Rattle.listing.proofs.group_of.Goals as goal

-- where less than 64 cells are left, the group is all of them
rest : (l : List ℕ) (m : ℕ) → length l - m < 64 → take (length l - m) (drop m l) ≡ take 64 (drop m l)
rest l m h =
    let k : length (drop m l) ≡ length l - m = length-drop m l in
    take_all (length l - m) (drop m l) (omega arith) ∙ sym (take_all 64 (drop m l) (omega arith))

pub returns-then-cells-from-lt64 : goal.returns-then-cells-from-lt64
returns-then-cells-from-lt64 c = rest c.args.cells.now (64 * c.args.g) c.if-cells-from-lt64.true
