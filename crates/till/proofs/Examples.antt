-- The examples are computed as one test each; a law turns the passed test into what an example says.
use mathlib.Core.Bool.{Bool, true, ◌&&◌}
use mathlib.Core.List.{List, [], ◌∷◌}
use lib.Dec.{T}
use Rattle.ring.proofs.Each.{and_left, and_right}
use Rattle.rule.specs.Schedules.{same_table}
use Rattle.rule.proofs.Schedules.{same-table}
use Rattle.text.specs.Bytes.{bytes_of}
use Rattle.text.specs.Numbers.{digits, leads, value_from, is_number}
use Rattle.rfc4180.specs.Reader.{is_text, is_inside, plain_of, inside_of, field_of, end_of, record_of}
use Rattle.till.specs.Till.{front_of, read_behind, reading_of, dealt}
use Rattle.till.specs.Examples.{Example, outcome, Says, readings, not_numbers, not_records, strange, sequences, AllSay, ReadingsPromise}

passes : Example → Bool
passes e = same_table (outcome e.crew e.text e.list) e.row

all_pass : List Example → Bool
all_pass [] = true
all_pass (e ∷ es) = passes e && all_pass es

says : (e : Example) → T (passes e) → Says e
unfolding passes
says e t = same-table (outcome e.crew e.text e.list) e.row t

all_say : (es : List Example) → T (all_pass es) → AllSay es
unfolding all_pass
all_say [] t = tt
all_say (e ∷ es) t = (says e (and_left (passes e) (all_pass es) t), all_say es (and_right (passes e) (all_pass es) t))

pub examples : ReadingsPromise
unfolding readings not_numbers not_records strange sequences all_pass passes same_table bytes_of reading_of read_behind front_of dealt record_of end_of field_of inside_of plain_of is_text is_inside is_number leads digits value_from
examples = record { read = all_say readings tt; no_numbers = all_say not_numbers tt; no_records = all_say not_records tt; no_bytes = all_say strange tt; in_sequence_says = all_say sequences tt }
