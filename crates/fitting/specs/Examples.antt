-- Lines as they are written, with what is done with each in a shut shift with fewer than 1,024 items and with so many, in an open put-in shift and in an open
-- shift of another kind (document 01, "The shift sheet", and document 02, points 1, 2 and 6).
use Rattle.std.specs.Prelude.{◌≡◌, ◌≢◌, true, false, Option, None, Some, List, [], ◌∷◌, ℕ, ◌≤◌, ◌<◌}
use Prim.Native.String.{String}
use Rattle.text.specs.Bytes.{bytes_of}
use Rattle.lines.specs.Grammar.{padded, reading_of}
use Rattle.lines.specs.declared.Command.{Command}
use Rattle.fitting.specs.Fitting.{reading_in}
use Rattle.fitting.specs.declared.Task.{Task}
use Rattle.fitting.specs.declared.Task.TheVariants.{Perform, Refuse}

pub record Tried : Type 0 where
  pub line : String
  -- in a shut shift of any kind, fewer than 1,024 items kept
  pub shut : Option Task
  -- in a shut shift of any kind, 1,024 items kept
  pub full : Option Task
  -- in an open put-in shift
  pub insert : Option Task
  -- in an open shift of any other kind
  pub other : Option Task

abbrev pub tried : String → Option Task → Option Task → Option Task → Option Task → Tried
tried line shut full insert other = record { line = line; shut = shut; full = full; insert = insert; other = other }

-- in all shut shifts alike
abbrev pub ordered : String → Option Task → Option Task → Option Task → Tried
ordered line shut insert other = tried line shut shut insert other

-- and in all open shifts alike
abbrev pub alike : String → Option Task → Option Task → Tried
alike line shut opened = ordered line shut opened opened

-- carried out with these numbers
abbrev does : Command → List ℕ → Option Task
does c ns = Some (Perform c (padded ns))

abbrev refused : Option Task
refused = Some Refuse

abbrev bad : Option Task
bad = None

-- bad unless the shift is shut and there is room
abbrev pub item : String → Option Task → Tried
item line shut = tried line shut bad bad bad

abbrev pub lines : List Tried
lines =
    -- carried out, refused with 11, or bad
    alike "cells\t2" (does Command.Cells (2 ∷ [])) bad
    ∷ alike "turn\t0" (does Command.Turn (0 ∷ [])) (does Command.Turn (0 ∷ []))
    ∷ alike "run" refused (does Command.Run [])
    ∷ alike "close" (does Command.Close []) (does Command.Close [])
    ∷ alike "list" (does Command.List []) (does Command.List [])
    -- an opening: kind, count, a and b; that they are sensible, and a is odd, is asked when the shift opens
    ∷ alike "open\t1\t2\t1\t0" (does Command.Open (1 ∷ 2 ∷ 1 ∷ 0 ∷ [])) bad
    ∷ alike "open\t3\t16\t2654435769\t97" (does Command.Open (3 ∷ 16 ∷ 2654435769 ∷ 97 ∷ [])) bad
    ∷ alike "open\t0\t0\t0\t0" (does Command.Open (0 ∷ 0 ∷ 0 ∷ 0 ∷ [])) bad
    ∷ alike "open\t4294967295\t4294967295\t4294967295\t4294967295" (does Command.Open (4294967295 ∷ 4294967295 ∷ 4294967295 ∷ 4294967295 ∷ [])) bad
    -- an item: worker, label and price; that they are sensible is asked when the shift opens
    ∷ item "item\t0\t5\t1" (does Command.Item (0 ∷ 5 ∷ 1 ∷ []))
    ∷ item "item\t0\t0\t0" (does Command.Item (0 ∷ 0 ∷ 0 ∷ []))
    ∷ item "item\t4294967295\t4294967295\t4294967295" (does Command.Item (4294967295 ∷ 4294967295 ∷ 4294967295 ∷ []))
    -- an order: a place in the list in a put-in shift, worker and label in the others
    ∷ ordered "order\t0" refused (does Command.Order (0 ∷ [])) bad
    ∷ ordered "order\t0\t5" refused bad (does Command.Order (0 ∷ 5 ∷ []))
    ∷ ordered "order\t0\t5\t1" refused bad bad
    ∷ ordered "order\t4294967295" refused (does Command.Order (4294967295 ∷ [])) bad
    ∷ ordered "order\t4294967295\t4294967295" refused bad (does Command.Order (4294967295 ∷ 4294967295 ∷ []))
    -- other numbers than the command takes
    ∷ alike "cells" bad bad
    ∷ alike "cells\t2\t2" bad bad
    ∷ alike "cells\t2\t2\t2\t2" bad bad
    ∷ alike "open" bad bad
    ∷ alike "open\t1" bad bad
    ∷ alike "open\t1\t2" bad bad
    ∷ alike "open\t1\t2\t1" bad bad
    ∷ alike "open\t1\t2\t1\t0\t0" bad bad
    ∷ alike "item" bad bad
    ∷ alike "item\t0\t5" bad bad
    ∷ alike "item\t0\t5\t1\t1" bad bad
    ∷ alike "item\t0\t5\t1\t1\t1" bad bad
    ∷ alike "turn" bad bad
    ∷ alike "turn\t0\t0" bad bad
    ∷ alike "turn\t0\t5\t1" bad bad
    ∷ alike "turn\t0\t0\t0\t0\t0" bad bad
    ∷ alike "run\t0" bad bad
    ∷ alike "close\t0" bad bad
    ∷ alike "list\t0" bad bad
    -- numbers that are not readable
    ∷ alike "open\t1\t2\t01\t0" bad bad
    ∷ alike "open\t1\t2\t1\t00" bad bad
    ∷ alike "open\t1\t2\t4294967296\t0" bad bad
    ∷ alike "open\t1\t2\t1\t4294967296" bad bad
    ∷ alike "open\t1\t2\t\t0" bad bad
    ∷ alike "open\t1\t2\t1\t" bad bad
    ∷ alike "open\t1\t2\t-1\t0" bad bad
    ∷ alike "item\t0\t5\t01" bad bad
    ∷ alike "item\t00\t5\t1" bad bad
    ∷ alike "item\t0\t5\t4294967296" bad bad
    ∷ alike "item\t0\t5\t" bad bad
    -- every line whose first field is `order`
    ∷ alike "order" refused bad
    ∷ alike "order\t0\t5\t1\t1" refused bad
    ∷ alike "order\t0\t5\t1\t1\t1" refused bad
    ∷ alike "order\t4294967295\t4294967295\t4294967295\t4294967295" refused bad
    ∷ alike "order\t0\t" refused bad
    ∷ alike "order\t00" refused bad
    ∷ alike "order\t0\t05" refused bad
    ∷ alike "order\t4294967296" refused bad
    ∷ alike "order\t0\t4294967296" refused bad
    ∷ alike "order\t\t5" refused bad
    -- no command
    ∷ alike "" bad bad
    ∷ alike "orders\t0" bad bad
    ∷ alike "orders\t0\t5" bad bad
    ∷ alike "Order\t0\t5" bad bad
    ∷ alike " order\t0\t5" bad bad
    ∷ alike "opens\t1\t2\t1\t0" bad bad
    ∷ alike "Open\t1\t2\t1\t0" bad bad
    ∷ alike "items\t0\t5\t1" bad bad
    ∷ alike "Item\t0\t5\t1" bad bad
    ∷ []

-- what is done with a line is what the table says
pub record AsTried (t : Tried) : Type 0 where
  pub shut : (k c : ℕ) → c < 1024 → reading_in k c true (reading_of (bytes_of t.line)) ≡ t.shut
  pub full : (k c : ℕ) → 1024 ≤ c → reading_in k c true (reading_of (bytes_of t.line)) ≡ t.full
  pub insert : (c : ℕ) → reading_in 1 c false (reading_of (bytes_of t.line)) ≡ t.insert
  pub other : (k c : ℕ) → k ≢ 1 → reading_in k c false (reading_of (bytes_of t.line)) ≡ t.other

abbrev pub AllAsTried : List Tried → Type 0
AllAsTried [] = Unit {0}
AllAsTried (t ∷ ts) = AsTried t × AllAsTried ts
