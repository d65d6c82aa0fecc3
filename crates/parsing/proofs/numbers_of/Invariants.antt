-- The loop keeps the fields read so far: they and those from `at` on are the fields, each was a number, and the values stand in front of zeros.
use Rattle.std.proofs.Common.{◌≡◌, ◌++◌, ℕ, true, List, length, drop, map}
use Rattle.text.specs.Fields.{fields_of}
use Rattle.text.specs.Numbers.{value_of}
use Rattle.lines.specs.Grammar.{padded, are_numbers}
use Rattle.parsing.proofs.numbers_of.Given as goal

pub record SoFar (s : List ℕ) (from : ℕ) (values : List ℕ) (count at : ℕ) : Type 0 where
  pub fields : List (List ℕ)
  pub cut : fields_of (drop from s) ≡ fields ++ fields_of (drop at s)
  pub each : are_numbers fields ≡ true
  pub counted : count ≡ length fields
  pub stored : values ≡ padded (map value_of fields)

abbrev pub invariant-loop-count : goal.invariant-loop-count
invariant-loop-count l = SoFar l.s l.from l.values l.count l.at
