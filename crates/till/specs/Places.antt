-- What the functions answer as they go over a text: places instead of parts.
use Rattle.std.specs.Prelude.{List, [], ◌∷◌, ℕ, zero, suc, ◌+◌, length, drop, Result, Ok, Err}
use Rattle.orders.specs.Orders.{blank, order_with}
use Rattle.orders.specs.declared.Order.{Order}
use Rattle.state.specs.Model.{Model}
use Rattle.state.specs.Replies.{Counted}
use Rattle.state.specs.declared.Refusal.{Refusal}
use Rattle.till.specs.declared.Bad.{Bad}
use Rattle.till.specs.declared.Bad.TheVariants.{Broken, Wrong}
use Rattle.till.specs.declared.Begun.{Begun}
use Rattle.till.specs.declared.Cursor.{Cursor}
use Rattle.till.specs.declared.Record.{Record}
use Rattle.till.specs.Till.{line, Front, front_of, Reading, following, till_call}

-- ---- the record that begins at a place
abbrev pub placed : ℕ → Front → Result Record Bad
placed at Front.broken = Err Broken
placed at Front.wrong = Err Wrong
placed at (Front.front (line k p) n) = Ok (record { key = k; price = p; next = at + n })

abbrev pub record_at : List ℕ → ℕ → Result Record Bad
record_at text at = placed at (front_of (drop at text))

-- ---- how many records a text has
abbrev pub records_of : Reading → Result ℕ Bad
records_of Reading.broken = Err Broken
records_of Reading.wrong = Err Wrong
records_of (Reading.lines ls) = Ok (length ls)

-- ---- the order of a record in a crew of m, and where it goes on; nowhere if there is none
abbrev pub start : Cursor
start = record { at = 0; worker = 0 }

pub record Dealt : Type 0 where
  pub order : Order
  pub next : Cursor

abbrev pub dealt_by : ℕ → Cursor → Result Record Bad → Dealt
dealt_by m c (Err bad) = record { order = blank; next = c }
dealt_by m c (Ok r) = record { order = order_with r.key r.price c.worker; next = record { at = r.next; worker = following m c.worker } }

unfoldable pub dealt_at : ℕ → List ℕ → Cursor → Dealt
dealt_at m text c = dealt_by m c (record_at text c.at)

-- so many orders, one behind the other
unfoldable pub dealt_from : ℕ → List ℕ → Cursor → ℕ → List Order
dealt_from m text c zero = []
dealt_from m text c (suc n) = (dealt_at m text c).order ∷ dealt_from m text (dealt_at m text c).next n

-- ---- what is known before the first order is written, if the call is not refused: how many orders there are to write, and the crew
abbrev pub begun_by : ℕ → Counted → Result Begun Refusal
begun_by m (Ok n) = Ok (record { lines = n; crew = m })
begun_by m (Err why) = Err why

unfoldable pub begun_of : Model → List ℕ → ℕ → ℕ → Result Begun Refusal
begun_of M text m places = begun_by m (till_call M text m places)
