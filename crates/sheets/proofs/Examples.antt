-- The sheets of specs/Examples, computed.
use mathlib.Core.Path.{◌≡◌, refl, ap}
use mathlib.Core.List.{List, [], ◌∷◌, map}
use Prim.Native.Nat.{ℕ}
use lib.ListN.{get_or, drop}
use lib.Count.{ones}
use Rattle.words.specs.Words.{place_of}
use Rattle.ring.specs.Ring.{wrap, probe, dist, prev}
use Rattle.ring.specs.Counting.{tally, count}
use Rattle.flaws.specs.Flaws.{meets_empty, meets_key}
use Rattle.ring.specs.Each.{all, some, first}
use Rattle.layout.specs.Layout.{into, descending}
use Rattle.orders.specs.Orders.{line_fault, lines_fault}
use Rattle.rule.specs.Rule.{settled, absorbed, insert_step, find_step, fits, narrow, delete_step, rule}
use Rattle.protocol.specs.IsWellFormed.{is_well_formed}
use Rattle.text.specs.Digits.{digits_within, digits_of}
use Rattle.text.specs.Bytes.{bytes_of, same}
use Rattle.text.specs.Fields.{fields_of}
use Rattle.text.specs.Numbers.{digits, leads, value_from, is_number}
use Rattle.lines.specs.Grammar.{command_of, are_numbers, numbers_of, reading_of}
use Rattle.dealing.specs.Deal.{deal_to, deal, laps}
use Rattle.sheet.specs.Replay.{answer_of}
use Rattle.feed.specs.Whole.{lines_of, printed_from, output_of}
use Rattle.sheets.specs.Examples.{Sheet, AllPrint, sheets, SheetsPromise}

-- all of them in one equation
all-print : (ss : List Sheet) → map (λ (s : Sheet). output_of s.input) ss ≡ map (λ (s : Sheet). s.output) ss → AllPrint ss
all-print [] h = tt
all-print (s ∷ ss) h = (ap (λ (l : List (List ℕ)). get_or l 0 []) h, all-print ss (ap (drop 1) h))

pub sheets-promise : SheetsPromise
unfolding
    bytes_of output_of lines_of printed_from answer_of reading_of command_of same numbers_of are_numbers is_number value_from leads digits fields_of digits_of digits_within
    laps deal deal_to is_well_formed rule settled absorbed insert_step find_step delete_step fits narrow
    meets_empty meets_key first all some dist probe prev wrap place_of count tally ones line_fault lines_fault into descending
sheets-promise = all-print sheets refl
