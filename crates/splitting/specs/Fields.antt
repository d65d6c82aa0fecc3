-- What stands at a place of a text: places and numbers instead of parts.
use Rattle.std.specs.Prelude.{◌≡◌, ◌≢◌, false, List, ℕ, ◌+◌, get_or, drop, Option, Some, None, Result, Ok, Err}
use Rattle.text.specs.declared.Run.{Run}
use Rattle.text.specs.Numbers.{number_of}
use Rattle.rfc4180.specs.Reader.{is_text, Scan, field_of}
use Rattle.till.specs.declared.Bad.{Bad}
use Rattle.till.specs.declared.Bad.TheVariants.{Wrong}
use Rattle.till.specs.declared.Record.{Record}

-- what begins at a place: the place behind it
abbrev pub end_from : ℕ → Scan → Option ℕ
end_from at Scan.broken = None
end_from at (Scan.found v n) = Some (at + n)

-- and the number that its value writes
abbrev pub field_from : ℕ → Scan → Option Run
field_from at Scan.broken = None
field_from at (Scan.found v n) = Some (record { number = number_of v; end = at + n })

-- the field that begins at a place
abbrev pub field_at : List ℕ → ℕ → Option Run
field_at text at = field_from at (field_of (drop at text))

-- no field goes on at a place: its byte is neither TEXTDATA nor a quote (behind the text, 0 stands for it)
abbrev pub Stops : List ℕ → ℕ → Type 0
Stops text end = (is_text (get_or text end 0) ≡ false) × (get_or text end 0 ≢ 0x22)

-- a record whose fields write these numbers, with the next one at a place
abbrev pub line_by : Option ℕ → Option ℕ → ℕ → Result Record Bad
line_by (Some k) (Some p) next = Ok (record { key = k; price = p; next = next })
line_by (Some k) None next = Err Wrong
line_by None q next = Err Wrong
