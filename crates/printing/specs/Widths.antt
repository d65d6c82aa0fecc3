-- How many bytes the fields of an output line take at most.
use Rattle.std.specs.Prelude.{ℕ, ◌+◌, ◌*◌, length}
use Rattle.text.specs.Digits.{most_digits}
use Rattle.text.specs.Numbers.{longest_number}
use Rattle.state.specs.Model.{gateway}
use Rattle.printing.specs.Fields.{field, refused}

-- a number of 32 bits, behind a tab
abbrev pub number_width : ℕ
number_width = 1 + longest_number

-- a turn's answer, and how a worker's operation ended: no word is longer than a price
abbrev pub word_width : ℕ
word_width = number_width

-- a reply: `refused`, and the number of a refusal, of at most two digits
abbrev pub reply_width : ℕ
reply_width = length (field refused) + (1 + 2)

-- how the operations of all workers ended
abbrev pub finishes_width : ℕ
finishes_width = gateway.room * word_width

-- the count of a list, and one entry of it: a key and its price
abbrev pub count_width : ℕ
count_width = 1 + most_digits

abbrev pub entry_width : ℕ
entry_width = 2 * number_width

-- what a line tells of a table of n cells: beside the entries, how the operations ended takes more than a reply and more than a count
abbrev pub told_width : ℕ → ℕ
told_width n = finishes_width + entry_width * n
