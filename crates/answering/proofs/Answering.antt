-- The answer to a line, from what its parts ensure.
use mathlib.Core.Path.{◌≡◌, sym, ap, ap₂, subst, ◌∙◌}
use mathlib.Core.Bool.{true, false}
use mathlib.Core.List.{List, [], ◌∷◌, ◌++◌}
use Prim.Native.Nat.{ℕ, ◌+◌, ◌^◌, ◌≤◌, ◌<◌}
use native.Mathlib.Omega.{arith}
use lib.ListN.{length, get_or, take, drop, length-append}
use lib.Seq.{sets, take-append_seam}
use Rattle.orders.specs.Orders.{order_with}
use Rattle.orders.specs.declared.Order.{Order}
use Rattle.state.specs.declared.Phase.{Phase}
use Rattle.text.specs.Digits.{digits_of}
use Rattle.text.specs.Put.{put_at, place_after}
use Rattle.lines.specs.declared.Command.{Command}
use Rattle.lines.specs.declared.Line.{Line}
use Rattle.text.proofs.Digits.{most-digits}
use Rattle.printing.specs.Fields.{Printed, PrintedWithin, told_fields}
use Rattle.printing.proofs.Printing.{all-written, printed-on, as_long}
use Rattle.answering.specs.declared.Answered.{Answered}
use Rattle.answering.specs.declared.Done.{Done}
use Rattle.std.specs.Prelude.{Option, None, Some}
use Rattle.answering.specs.declared.Replay.{Replay}
use Rattle.fitting.specs.declared.Task.{Task}
use Rattle.fitting.specs.declared.Task.TheVariants.{Perform}
use Rattle.sheet.specs.Replay.{State, blank, performed, Answer, answered, answer_of, rendered, most_sheet_cells, longest_answer}
use Rattle.fitting.specs.Fitting.{most_items, Kept, reading_in}
use Rattle.answering.specs.Store.{state_of, replay_of, over, answered_of, Roomy, Does, Finds, Ready, Answers}
use Rattle.sheet.specs.Valid.{Valid}
use Rattle.answering.proofs.Store.{table-length, same_store, so-many}
use Rattle.sheet.proofs.Valid.{blank-valid, valid-kept, allowed}
use Rattle.printing.specs.Widths.{told_width}

-- what `start` gives is ready for a first line
pub blank-ready : (r : Replay) (cells : List ℕ) (items : List Order) → r ≡ replay_of blank → most_sheet_cells ≤ length cells → most_items ≤ length items → Ready r cells items
blank-ready r cells items e l m = rw e (record { roomy = record { fits = omega arith; most = l }; kept = (omega arith, m); valid = blank-valid })

-- ---- what is printed
pub bad-printed : (n : ℕ) {out between after : List ℕ} {at place behind : ℕ} → n < 2 ^ 64 → at + longest_answer ≤ length out
    → (place ≡ place_after out at (digits_of n)) × (between ≡ put_at out at (digits_of n))
    → (behind ≡ place_after between place (9 ∷ 98 ∷ 97 ∷ 100 ∷ 10 ∷ [])) × (after ≡ put_at between place (9 ∷ 98 ∷ 97 ∷ 100 ∷ 10 ∷ []))
    → PrintedWithin longest_answer (digits_of n ++ 9 ∷ 98 ∷ 97 ∷ 100 ∷ 10 ∷ []) out at after behind
bad-printed n {out} {between} {after} {at} {place} {behind} fits room e f =
    let few = most-digits n fits in
    let p : Printed (digits_of n) out at between place = all-written (omega arith) e in
    let q : Printed (9 ∷ 98 ∷ 97 ∷ 100 ∷ 10 ∷ []) between place after behind = all-written (omega (arith, p.place, as_long p)) f in
    (printed-on p q, omega (arith, p.place, q.place))

-- room for what the longest line tells, behind its number
pub room-left : (n : ℕ) (out : List ℕ) (at : ℕ) {between : List ℕ} {place : ℕ} → n < 2 ^ 64 → at + longest_answer ≤ length out
    → (place ≡ place_after out at (digits_of n)) × (between ≡ put_at out at (digits_of n)) → (k : ℕ) → k ≤ most_sheet_cells → place + told_width k ≤ length between
room-left n out at {between} {place} fits room e k short =
    let few = most-digits n fits in
    let p : Printed (digits_of n) out at between place = all-written (omega arith) e in
    omega (arith, p.place, as_long p)

pub line-printed : (n : ℕ) {b out between written after : List ℕ} {at from place behind most : ℕ}
    → n < 2 ^ 64 → at + longest_answer ≤ length out → most ≤ told_width most_sheet_cells
    → (from ≡ place_after out at (digits_of n)) × (between ≡ put_at out at (digits_of n)) → PrintedWithin most b between from written place
    → (behind ≡ place_after written place (10 ∷ [])) × (after ≡ put_at written place (10 ∷ []))
    → PrintedWithin longest_answer (digits_of n ++ (b ++ 10 ∷ [])) out at after behind
line-printed n {b} {out} {between} {written} {after} {at} {from} {place} {behind} {most} fits room short e m f =
    let few = most-digits n fits in
    let p : Printed (digits_of n) out at between from = all-written (omega arith) e in
    let q : Printed (10 ∷ []) written place after behind = all-written (omega (arith, m.1, as_long m.0, p.place, as_long p)) f in
    (printed-on p (printed-on m.0 q), omega (arith, p.place, m.1, q.place))

module _ {r : Replay} {cells : List ℕ} {items : List Order} (h : Ready r cells items) (l : Line) where
  abbrev state : State
  state = state_of r cells items

  -- the line as it is read where so many items are kept
  pub as_read : {x y : Option Task} → x ≡ reading_in r.phase.kind r.items r.phase.shut l → x ≡ y
      → reading_in r.phase.kind (length state.items) r.phase.shut l ≡ y
  as_read e f = ap (λ c. reading_in r.phase.kind c r.phase.shut l) (so-many r.items items h.kept) ∙ sym e ∙ f

  module _ (n at : ℕ) (out : List ℕ) where
    -- ---- a bad line
    pub answers-bad : reading_in r.phase.kind (length state.items) r.phase.shut l ≡ None → (out' : List ℕ) (end : ℕ)
        → PrintedWithin longest_answer (digits_of n ++ 9 ∷ 98 ∷ 97 ∷ 100 ∷ 10 ∷ []) out at out' end
        → Answers state n l cells out at cells items out' (record { replay = r; at = end; ended = true })
    answers-bad e out' end p =
        let a : answer_of state l ≡ answered state None = unfold answer_of in (ap (answered state) e) in
        record {
          result = same (sym (table-length h.roomy)) (sym (so-many r.items items h.kept)) p.0.place ∙ ap (answered_of n at) (sym a);
          store = same_store h.roomy ∙ ap (λ (x : Answer). over x.state.table cells) (sym a);
          list = ap (λ (x : Answer). x.state.items) (sym a);
          output = p.0.list ∙ ap (λ (x : Answer). sets out at (rendered n x)) (sym a);
          short = p.1;
          ready = h;
        }
      where
        same : {x y c m b e : ℕ} → x ≡ y → c ≡ m → b ≡ e
            → ◌≡◌ {A = Answered} (record { replay = record { phase = r.phase; length = x; items = c }; at = b; ended = true })
            (record { replay = record { phase = r.phase; length = y; items = m }; at = e; ended = true })
        same f g i = rw (f, g, i)

  -- ---- a task
  module _ {t : Task} (e : reading_in r.phase.kind (length state.items) r.phase.shut l ≡ Some t) where
    is-todo : answer_of state l ≡ answered state (Some t)
    unfolding answer_of
    is-todo = ap (answered state) e

    abbrev next : State
    next = (performed state t).state

    next-valid : Valid next
    next-valid = rw is-todo at (valid-kept state h.valid l)

    -- with one item more there are few enough
    one_more : (ns : List ℕ) → t ≡ Perform Command.Item ns → r.items < most_items
    one_more ns q =
        let o : Order = order_with (get_or ns 1 0) (get_or ns 2 0) (get_or ns 0 0) in
        let few : length (state.items ++ (o ∷ [])) ≤ most_items =
        subst (λ (x : Task). length (performed state x).state.items ≤ most_items) q next-valid.items in
        omega (arith, few, length-append state.items (o ∷ []), so-many r.items items h.kept)

    -- what it must find
    pub finds : Finds r cells items t
    finds = record { roomy = h.roomy; kept = h.kept; runs = allowed state h.valid l t e; place = one_more }

    module _ {d : Done} {cells' : List ℕ} {items' : List Order} (does : Does (performed state t) cells cells' items' d)
        (kept : length cells' ≡ length cells) (places : length items' ≡ length items) where
      pub next-roomy : Roomy d.replay cells'
      next-roomy =
          let a : d.replay.length ≡ length next.table = ap (λ (x : Done). x.replay.length) does.result in
          record { fits = omega (arith, next-valid.few); most = omega (arith, h.roomy.most) }

      next-kept : Kept d.replay.items items'
      next-kept =
          let a : d.replay.items ≡ length next.items = ap (λ (x : Done). x.replay.items) does.result in
          (omega (arith, next-valid.items), omega (arith, h.kept.1))

      table_is : take d.replay.length cells' ≡ next.table
      table_is = rw (does.result, does.store) (take-append_seam next.table (drop (length next.table) cells))

      state-is : state_of d.replay cells' items' ≡ next
      state-is = same (ap (λ (x : Done). x.replay.phase) does.result) table_is does.list
        where
          same : {p q : Phase} {x y : List ℕ} {a b : List Order} → p ≡ q → x ≡ y → a ≡ b
              → ◌≡◌ {A = State} (record { phase = p; table = x; items = a }) (record { phase = q; table = y; items = b })
          same f g i = rw (f, g, i)

      bytes : told_fields d.told d.replay.phase.crew d.finishes (take d.replay.length cells') ++ 10 ∷ []
          ≡ (answered state (Some t)).printed
      bytes = ap₂ (λ (x : Done) y. told_fields x.told x.replay.phase.crew x.finishes y ++ 10 ∷ []) does.result table_is

      pub answers-todo : (n at : ℕ) (out out' : List ℕ) (end : ℕ)
          → PrintedWithin longest_answer
          (digits_of n ++ (told_fields d.told d.replay.phase.crew d.finishes (take d.replay.length cells') ++ 10 ∷ [])) out at out' end
          → Answers state n l cells out at cells' items' out' (record { replay = d.replay; at = end; ended = false })
      answers-todo n at out out' end p =
          let b : digits_of n ++ (told_fields d.told d.replay.phase.crew d.finishes (take d.replay.length cells') ++ 10 ∷ [])
          ≡ rendered n (answered state (Some t)) =
          ap (λ (x : List ℕ). digits_of n ++ x) bytes in
          record {
            result = ap₂ (λ (x : Done) y. let q : Answered = record { replay = x.replay; at = y; ended = false } in q) does.result
                (p.0.place ∙ ap (λ (x : List ℕ). at + length x) b)
                ∙ ap (answered_of n at) (sym is-todo);
            store = does.store ∙ ap (λ (x : Answer). over x.state.table cells) (sym is-todo);
            list = does.list ∙ ap (λ (x : Answer). x.state.items) (sym is-todo);
            output = p.0.list ∙ ap (sets out at) b ∙ ap (λ (x : Answer). sets out at (rendered n x)) (sym is-todo);
            short = p.1;
            ready = record { roomy = next-roomy; kept = next-kept; valid = rw state-is next-valid };
          }
