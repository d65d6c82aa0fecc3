-- What the answer to a line leaves, in the terms of the whole sheet.
use mathlib.Core.Path.{◌≡◌, sym, ap, ap₂, ◌∙◌}
use mathlib.Core.List.{List, [], ◌++◌}
use Prim.Native.Nat.{ℕ, ◌+◌, ◌≤◌}
use native.Mathlib.Numerals.{add-one}
use native.Mathlib.Omega.{arith}
use lib.ListN.{length, take, drop, length-append}
use lib.Seq.{sets, sets-eq, take_at, take-append_seam, length-take-le, length-sets}
use Rattle.orders.specs.declared.Order.{Order}
use Rattle.state.specs.declared.Phase.{Phase}
use Rattle.lines.specs.Grammar.{reading_of}
use Rattle.lines.specs.declared.Line.{Line}
use Rattle.sheet.specs.Replay.{State, Answer, answer_of, rendered, longest_answer}
use Rattle.answering.specs.Store.{state_of, Answers}
use Rattle.answering.specs.declared.Answered.{Answered}
use Rattle.feed.specs.Feed.{last_output}
use Rattle.feed.proofs.WholeSheet.{last_none, last_some}
use Rattle.blocks.specs.declared.Carried.{Carried}
use Rattle.blocks.specs.Kept.{kept_of, Fit}

behind-put : (out : List ℕ) (at : ℕ) (bytes : List ℕ) → at + length bytes ≤ length out → take (at + length bytes) (sets out at bytes) ≡ take at out ++ bytes
behind-put out at bytes h =
    let n : length (take at out ++ bytes) ≡ at + length bytes = rw (length-append, length-take-le at out (omega arith)) in
    ap (take (at + length bytes)) (sets-eq bytes out at h) ∙ take_at (take at out ++ bytes) (drop (at + length bytes) out) (at + length bytes) n

module _ {s : State} {n : ℕ} {l : Line} {cells out : List ℕ} {at : ℕ} {cells' : List ℕ} {items' : List Order} {out' : List ℕ} {d : Answered}
    (h : Answers s n l cells out at cells' items' out' d) where
  abbrev a : Answer
  a = answer_of s l

  pub state-behind : state_of d.replay cells' items' ≡ a.state
  state-behind = same (ap (λ (x : Answered). x.replay.phase) h.result) table-behind h.list
    where
      table-behind : take d.replay.length cells' ≡ a.state.table
      table-behind =
          ap₂ (λ (x : Answered) (y : List ℕ). take x.replay.length y) h.result h.store
          ∙ take-append_seam a.state.table (drop (length a.state.table) cells)

      same : {p q : Phase} {x y : List ℕ} {os ps : List Order} → p ≡ q → x ≡ y → os ≡ ps
          → ◌≡◌ {A = State} (record { phase = p; table = x; items = os }) (record { phase = q; table = y; items = ps })
      same f g i = rw (f, g, i)

  place-behind : d.at ≡ at + length (rendered n a)
  place-behind = ap (λ (x : Answered). x.at) h.result

  pub ended-behind : d.ended ≡ a.ended
  ended-behind = ap (λ (x : Answered). x.ended) h.result

  module _ (room : at + longest_answer ≤ length out) where
    pub output-behind : take d.at out' ≡ take at out ++ rendered n a
    output-behind =
        ap₂ (λ (x : ℕ) (y : List ℕ). take x y) place-behind h.output
        ∙ behind-put out at (rendered n a) (omega (arith, place-behind, h.short))

    pub room-behind : d.at ≤ length out'
    room-behind = let e : length out' ≡ length out = ap length h.output ∙ length-sets out at (rendered n a) in omega (arith, h.short)

-- ---- a last line that no newline ends
module _ (c : Carried) (line cells : List ℕ) (items : List Order) (out : List ℕ) (fit : Fit c line cells items 1) where
  pub no_last : c.len ≡ 0 → [] ≡ last_output (kept_of c line cells items)
  no_last e = sym (last_none (kept_of c line cells items) fit.goes (ap (λ x. take x line) e))

  pub a-last : (c.len ≡ 0 → ⊥) → longest_answer ≤ length out → {l : Line} → l ≡ reading_of (take c.len line) → {cells' : List ℕ} {items' : List Order} {out' : List ℕ} {d : Answered}
      → Answers (state_of c.replay cells items) (c.number + 1) l cells out 0 cells' items' out' d
      → (take d.at out' ≡ last_output (kept_of c line cells items)) × (d.at ≤ length out')
  a-last some room read h =
      let n : length (take c.len line) ≡ c.len = length-take-le c.len line (omega (arith, fit.held.gathered, fit.line_long)) in (
        output-behind h (omega arith)
            ∙ ap₂ (λ (x : ℕ) (y : Line). rendered x (answer_of (state_of c.replay cells items) y)) (add-one c.number) read
            ∙ sym (last_some (kept_of c line cells items) fit.goes (rw n some)),
        room-behind h (omega arith),
      )
