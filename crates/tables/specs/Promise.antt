-- What is promised of check, count and list, for every table, list and model. Proved in proofs/Theorem.
use Rattle.std.specs.Prelude.{◌≡◌, ◌≢◌, ◌↔◌, List, [], ◌∷◌, ◌++◌, ℕ, ◌≤◌, ◌<◌, length, get_or}
use Rattle.layout.specs.Layout.{size}
use Rattle.homes.specs.Promise.{Odd}
use Rattle.homes.specs.declared.Hash.{Hash}
use Rattle.prices.specs.Contents.{label}
use Rattle.prices.specs.Priced.{labels}
use Rattle.words.specs.Promise.{InCellOrder}
use Rattle.state.specs.Counts.{count_number, count_value}
use Rattle.state.specs.Model.{Model, Proper}
use Rattle.state.specs.Refusals.{reply_number}
use Rattle.protocol.specs.Cases.{Case, case, Decides}
use Rattle.protocol.specs.Promise.{Soundness, size_cases, even_cases, sound_cases}
use Rattle.protocol.specs.WellFormed.{Size}
use Rattle.tables.specs.Calls.{check_call, count_call, list_call, list_after, list_front}

module _ (M : Model) (ab : Hash) (t : List ℕ) where
  -- a table that every call accepts
  abbrev pub Usable : Type 0
  Usable = Size M (length t) × Odd ab.a × Soundness M ab t

  abbrev pub check_cases : List Case
  check_cases = size_cases M t ++ even_cases ab ++ sound_cases M ab t

  module _ (out : List ℕ) where
    -- the check's, then a lent list with fewer places than the table has keys
    abbrev pub list_cases : List Case
    list_cases = check_cases ++ case 12 (size (labels label t) ≤ length out) (length out < size (labels label t)) ∷ []

    pub record AtRest : Type 0 where
      pub check : Decides (reply_number (check_call M ab t)) check_cases
      -- the check passes the tables that are sound by an odd a, and no others
      pub passes : reply_number (check_call M ab t) ≡ 0 ↔ Usable
      -- count is refused as the check is, and otherwise says how many keys the table has
      pub count_refused : count_number (count_call M ab t) ≡ reply_number (check_call M ab t)
      pub count_true : Usable → count_value (count_call M ab t) ≡ size (labels label t)
      pub list : Decides (count_number (list_call M ab t out)) list_cases
      -- the lent list is held against the count that count gives, 0 where it is refused: with as many places list answers as count does, with
      -- fewer it is refused with 12
      pub list_counts : count_value (count_call M ab t) ≤ length out → list_call M ab t out ≡ count_call M ab t
      pub list_short : length out < count_value (count_call M ab t) → count_number (list_call M ab t out) ≡ 12
      -- it says how many keys the table has, lists the cells that hold them, whole and in cell order, and what stands behind those is kept; a refusal
      -- changes nothing
      pub list_true : count_number (list_call M ab t out) ≡ 0 → count_value (list_call M ab t out) ≡ size (labels label t)
      pub listed : count_number (list_call M ab t out) ≡ 0 → InCellOrder t (list_after M ab t out)
      pub behind : count_number (list_call M ab t out) ≡ 0 → (j : ℕ) → size (labels label t) ≤ j → get_or (list_after M ab t out) j 0 ≡ get_or out j 0
      pub long : length (list_after M ab t out) ≡ length out
      pub unlisted : count_number (list_call M ab t out) ≢ 0 → list_after M ab t out ≡ out
      -- the front part is these cells in cell order and nothing more, and empty where listing is refused
      pub front : count_number (list_call M ab t out) ≡ 0 → InCellOrder t (list_front M ab t out)
      pub front_long : count_number (list_call M ab t out) ≡ 0 → length (list_front M ab t out) ≡ size (labels label t)
      pub no_front : count_number (list_call M ab t out) ≢ 0 → list_front M ab t out ≡ []

abbrev pub AtRestPromise : Type 0
AtRestPromise = (M : Model) → Proper M → (ab : Hash) (t out : List ℕ) → AtRest M ab t out
