-- The opening of a phase.
use Rattle.std.specs.Prelude.{Bool, true, false, cond, List, [], ◌∷◌, ◌++◌, ℕ, leb, ltb, eqb, length, replicate, Result, Ok, Err, ⊤}
use Rattle.layout.specs.Layout.{size}
use Rattle.homes.specs.Homes.{plain, is_even}
use Rattle.homes.specs.declared.Hash.{Hash}
use Rattle.prices.specs.Contents.{label}
use Rattle.prices.specs.Priced.{labels}
use Rattle.flaws.specs.Flaws.{is_intact, meets_empty, meets_key}
use Rattle.orders.specs.Orders.{ordered_keys, lines_fault}
use Rattle.orders.specs.declared.Fault.{Fault}
use Rattle.orders.specs.declared.Order.{Order}
use Rattle.activities.specs.Activities.{idle}
use Rattle.activities.specs.Kinds.{kind_ok}
use Rattle.state.specs.Model.{Model, size_ok, crew_ok}
use Rattle.state.specs.Refusals.{Bar, fault_refusal, if, unless, first_of}
use Rattle.state.specs.declared.Phase.{Phase}
use Rattle.state.specs.declared.Refusal.TheVariants.{Size, Crew, Kind, Unsound, Full, LongList, Gap, Disorder, Even}
use Rattle.state.specs.declared.Replied.{Replied}
use Rattle.state.specs.Replies.{Reply}

-- ---- refusals of the list of orders
-- by what is wrong with a line: 7, 24, 14 or 6
abbrev pub fault_bars : Result ⊤ Fault → List Bar
fault_bars (Ok u) = []
fault_bars (Err fault) = if true (fault_refusal fault) ∷ []

-- of the lines, for a crew of m workers
abbrev pub line_bars : ℕ → List Order → List Bar
line_bars m os = fault_bars (lines_fault m os)

-- the keys of the table and of the list, each counted once, are as many as the cells or more
abbrev pub crowded : List ℕ → List Order → Bool
crowded t os = leb (length t) (size (labels label t ++ ordered_keys os))

-- a is even: 21
abbrev pub hash_bars : Hash → List Bar
hash_bars ab = if (is_even ab) Even ∷ []

module _ (M : Model) where
  -- all workers idle
  abbrev pub fresh : ℕ → ℕ → ℕ → Bool → Hash → Phase
  fresh k n m shut ab = record { kind = k; length = n; crew = m; shut = shut; hash = ab; workers = replicate M.room idle }

  -- what a refused opening hands back
  abbrev pub refused_phase : Phase
  refused_phase = fresh 3 2 1 true plain

  -- ---- refusals of a table: its length (1); that it is not sound, by its cells (4), else by the lowest-numbered cell whose key breaks the order: that key
  -- meets an empty cell first (17), or a key (18)
  abbrev pub size_bars : List ℕ → List Bar
  size_bars t = unless (size_ok M (length t)) Size ∷ []

  abbrev pub sound_bars : Hash → List ℕ → List Bar
  sound_bars ab t = unless (is_intact t) Unsound ∷ if (meets_empty (M.home ab (length t)) t) Gap ∷ if (meets_key (M.home ab (length t)) t) Disorder ∷ []

  -- of a table that is used with a and b: 1, 21, 4, 17, 18
  abbrev pub table_bars : Hash → List ℕ → List Bar
  table_bars ab t = size_bars t ++ hash_bars ab ++ sound_bars ab t

  module _ (k m : ℕ) (ab : Hash) (t : List ℕ) where
    -- ---- 1, 2, 3, 21, in that order; then of an insert phase (put-in shift), which alone reads the list: 16, the table's 4, 17 and 18, the lines' 7, 24,
    -- 14 and 6, 9; of the others the table's
    abbrev pub limit_bars : List Bar
    limit_bars = size_bars t ++ unless (crew_ok M m) Crew ∷ unless (kind_ok k) Kind ∷ hash_bars ab

    abbrev pub list_bars : List Order → List Bar
    list_bars os = if (ltb M.most_lines (length os)) LongList ∷ sound_bars ab t ++ line_bars m os ++ if (crowded t os) Full ∷ []

    abbrev pub opened : Reply → Replied
    opened (Ok _) = record { phase = fresh k (length t) m false ab; reply = Ok tt }
    opened (Err r) = record { phase = refused_phase; reply = Err r }

    module _ (os : List Order) where
      abbrev pub open_bars : List Bar
      open_bars = limit_bars ++ cond (eqb k 1) (list_bars os) (sound_bars ab t)

      abbrev pub open_reply : Reply
      open_reply = first_of open_bars

      abbrev pub open_call : Replied
      open_call = opened open_reply
