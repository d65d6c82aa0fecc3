-- The line is cut at its first tab.
use Rattle.std.proofs.Common.{◌≡◌, ◌+◌, ◌≤◌, ◌<◌, ℕ, List, [], length, take, drop, sym, arith, add-one}
use Rattle.std.specs.Prelude.{Option, None, Some}
use Rattle.text.specs.Bytes.{byte_at}
use Rattle.text.specs.Fields.{fields_of, first_field}
use Rattle.text.proofs.Bytes.{byte_le, cut-length}
use Rattle.lines.specs.declared.Command.{Command}
use Rattle.lines.specs.declared.Numbers.{Numbers}
use Rattle.lines.specs.Grammar.{command_of, numbered, numbers_of, reading_of}
use Rattle.lines.proofs.Readings.{line, unread, reading-bare, reading-more, reading-wrong}
use Rattle.parsing.proofs.read_line.Goals as goal

module _ (l : List ℕ) {e : ℕ} (t : e ≡ byte_at 9 l) where
  first : {c : Option Command} → c ≡ command_of (take e l) → command_of (first_field l) ≡ c
  first told = sym (rw t at told)

  wrong : None ≡ command_of (take e l) → unread None ≡ reading_of l
  wrong told = sym (reading-wrong l (first told))

  bare : {c : Command} → Some c ≡ command_of (take e l) → length l ≤ e → line c (Some (numbered [])) ≡ reading_of l
  bare told k = sym (reading-bare l _ (omega (arith, byte_le 9 l)) (first told))

  more : {c : Command} → Some c ≡ command_of (take e l) → {ns : Option Numbers} → e < length l → ns ≡ numbers_of (fields_of (drop (e + 1) l))
      → line c ns ≡ reading_of l
  more told k n = rw (n, t, add-one) (sym (reading-more l _ (omega arith) (first told)))

pub slice_bounds-command_of-end : goal.slice_bounds-command_of-end
slice_bounds-command_of-end c = cut-length 9 c.args.line.now c.byte_at-end.ensures

pub returns-in_default : goal.returns-in_default
returns-in_default c = wrong _ c.byte_at-end.ensures c.in_default.ensures

pub returns-then-line-end : goal.returns-then-line-end
returns-then-line-end c = bare _ c.byte_at-end.ensures c.in-Some.ensures c.if-line-end.true

pub returns : goal.returns
returns c = more _ c.byte_at-end.ensures c.in-Some.ensures c.if-line-end.false c.numbers_of.ensures
