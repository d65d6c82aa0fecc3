-- The calls on a table at rest: check, count and list, each by the numbers a and b that the table is used with.
use Rattle.std.specs.Prelude.{List, [], ◌∷◌, ◌++◌, ℕ, ltb, length}
use Rattle.homes.specs.declared.Hash.{Hash}
use Rattle.words.specs.Words.{entries_of, filled, count_of}
use Rattle.state.specs.Model.{Model}
use Rattle.state.specs.Open.{table_bars}
use Rattle.state.specs.Counts.{counted_by, if_counted}
use Rattle.state.specs.Refusals.{Bar, if, first_of}
use Rattle.state.specs.Replies.{Counted, Reply}
use Rattle.state.specs.declared.Refusal.TheVariants.{ShortList}

module _ (M : Model) (ab : Hash) (t : List ℕ) where
  -- check: refusals 1, 21, then 4, 17 and 18, in that order
  abbrev pub check_call : Reply
  check_call = first_of (table_bars M ab t)

  -- count: as the check, then the sum of the ones
  abbrev pub count_call : Counted
  count_call = counted_by (count_of t) check_call

  module _ (out : List ℕ) where
    -- list: as the check, then refusal 12 if the lent list is too short
    abbrev pub list_bars : List Bar
    list_bars = table_bars M ab t ++ if (ltb (length out) (count_of t)) ShortList ∷ []

    abbrev pub list_call : Counted
    list_call = counted_by (count_of t) (first_of list_bars)

    -- the lent list afterwards: the entries in cell order at its front, or as it was
    abbrev pub list_after : List ℕ
    list_after = if_counted list_call (filled t out) out

    -- the filled front part, empty where listing is refused
    abbrev pub list_front : List ℕ
    list_front = if_counted list_call (entries_of t) []
