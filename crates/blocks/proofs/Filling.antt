-- A block, line by line.
use mathlib.Core.Path.{◌≡◌, refl, sym, ap, ap₂, ◌∙◌}
use mathlib.Core.Bool.{Bool, true, false}
use mathlib.Core.List.{List, [], ◌++◌, append-nil}
use Prim.Native.Nat.{ℕ, suc, ◌+◌, ◌-◌, ◌^◌, ◌≤◌, ◌<◌}
use native.Mathlib.Numerals.{add-one}
use native.Mathlib.Omega.{arith}
use borrow.Author.Tests.{eqb-true, eqb-false}
use lib.Dec.{eqb}
use lib.ListN.{length, take, drop, length-drop, length-take}
use lib.Seq.{take-add, take_all}
use Rattle.orders.specs.declared.Order.{Order}
use Rattle.text.specs.Bytes.{byte_at}
use Rattle.lines.specs.Grammar.{reading_of, kept_bytes}
use Rattle.lines.specs.declared.Line.{Line}
use Rattle.text.proofs.Bytes.{byte_le}
use Rattle.text.proofs.Test.{by-test}
use Rattle.sheet.specs.Replay.{State, Answer, answer_of, rendered, longest_answer}
use Rattle.answering.specs.Store.{state_of, Answers}
use Rattle.answering.specs.declared.Answered.{Answered}
use Rattle.feed.specs.Feed.{Kept, answer_to, behind_line, fed, printed}
use Rattle.feed.specs.Promise.{Plain}
use Rattle.feed.proofs.Lines.{with_line, fed-plain, printed-plain, line-fed, line-printed}
use Rattle.feed.proofs.Parts.{fed-append, printed-append}
use Rattle.feed.proofs.WholeSheet.{answer-front}
use Rattle.blocks.specs.declared.Carried.{Carried}
use Rattle.blocks.specs.Kept.{kept_of, Held, Fit, Fills}
use Rattle.gathering.specs.Gathers.{Gathers}
use Rattle.blocks.proofs.Answered.{state-behind, ended-behind, output-behind, room-behind}

-- the rest of a block, as the code cuts it
abbrev pub rest : List ℕ → ℕ → List ℕ
rest block from = take (length block - from) (drop from block)

pub rest-is : (block : List ℕ) (from : ℕ) → rest block from ≡ drop from block
rest-is block from =
    let l : length (drop from block) ≡ length block - from = length-drop from block in
    take_all (length block - from) (drop from block) (omega arith)

-- ---- behind the first bytes of a block, up to `from`
pub record Behind (k₀ : Kept) (block line cells : List ℕ) (items : List Order) (c : Carried) (from : ℕ) : Type 0 where
  pub kept : kept_of c line cells items ≡ fed k₀ (take from block)
  pub held : Held c cells items
  pub goes : c.ended ≡ false
  pub line_long : kept_bytes ≤ length line
  pub few : c.number ≤ k₀.number + from
  pub countable : k₀.number + length block < 2 ^ 64
  pub within : from ≤ length block

pub behind-none : {c : Carried} {block line cells : List ℕ} {items : List Order} → Fit c line cells items (length block)
    → Behind (kept_of c line cells items) block line cells items c 0
behind-none fit =
    record {
      kept = unfold fed in refl;
      held = fit.held;
      goes = fit.goes;
      line_long = fit.line_long;
      few = omega arith;
      countable = fit.countable;
      within = omega arith;
    }

module _ {k₀ : Kept} {block line cells : List ℕ} {items : List Order} {c : Carried} {from : ℕ} (b : Behind k₀ block line cells items c from) where
  abbrev k : Kept
  k = kept_of c line cells items

  pub fed-on : (n : ℕ) → fed k (take n (drop from block)) ≡ fed k₀ (take (from + n) block)
  fed-on n =
      ap (λ (x : Kept). fed x (take n (drop from block))) b.kept
      ∙ sym (fed-append k₀ (take from block) (take n (drop from block)))
      ∙ ap (fed k₀) (sym (take-add from n block))

  printed-on : (n : ℕ) → printed k₀ (take from block) ++ printed k (take n (drop from block)) ≡ printed k₀ (take (from + n) block)
  printed-on n =
      ap (λ (x : Kept). printed k₀ (take from block) ++ printed x (take n (drop from block))) b.kept
      ∙ sym (printed-append k₀ (take from block) (take n (drop from block)))
      ∙ ap (printed k₀) (sym (take-add from n block))

  pub fits : (n : ℕ) → from + n ≤ length block → Fit c line cells items n
  fits n l = record { held = b.held; goes = b.goes; line_long = b.line_long; countable = omega (arith, b.few, b.countable) }

  pub rest-long : length (rest block from) ≡ length block - from
  rest-long = ap length (rest-is block from) ∙ length-drop from block

  -- the first newline of the rest, or its end
  pub end-within : {e : ℕ} → e ≡ byte_at 10 (rest block from) → from + e ≤ length block
  end-within is = omega (arith, byte_le 10 (rest block from), rest-long, b.within)

-- ---- the lent lists keep their lengths
pub record Same (line₀ cells₀ : List ℕ) (items₀ : List Order) (out₀ line cells : List ℕ) (items : List Order) (out : List ℕ) : Type 0 where
  pub same_line : length line ≡ length line₀
  pub same-cells : length cells ≡ length cells₀
  pub same-items : length items ≡ length items₀
  pub same_out : length out ≡ length out₀

pub same_none : {line cells : List ℕ} {items : List Order} {out : List ℕ} → Same line cells items out line cells items out
same_none = record { same_line = refl; same-cells = refl; same-items = refl; same_out = refl }

pub same-on : {line₀ cells₀ : List ℕ} {items₀ : List Order} {out₀ line cells : List ℕ} {items : List Order} {out line' cells' : List ℕ} {items' : List Order} {out' : List ℕ} → Same line₀ cells₀ items₀ out₀ line cells items out
    → length line' ≡ length line → length cells' ≡ length cells → length items' ≡ length items → length out' ≡ length out
    → Same line₀ cells₀ items₀ out₀ line' cells' items' out'
same-on s l c i o = record { same_line = l ∙ s.same_line; same-cells = c ∙ s.same-cells; same-items = i ∙ s.same-items; same_out = o ∙ s.same_out }

-- ---- lines in a buffer
-- what the first bytes print stands in the buffer, and nothing does before the first byte
pub record Filling (k₀ : Kept) (block line cells : List ℕ) (items : List Order) (out : List ℕ) (c : Carried) (from at : ℕ) : Type 0 where
  pub behind : Behind k₀ block line cells items c from
  pub output : take at out ≡ printed k₀ (take from block)
  pub room : at ≤ length out
  pub buffer : longest_answer ≤ length out
  pub begun : from ≡ 0 → at ≡ 0

pub filling-none : {c : Carried} {block line cells : List ℕ} {items : List Order} {out : List ℕ} → Fit c line cells items (length block) → longest_answer ≤ length out
    → Filling (kept_of c line cells items) block line cells items out c 0 0
filling-none fit room = record { behind = behind-none fit; output = unfold printed in refl; room = omega arith; buffer = room; begun = λ _. refl }

module _ {k₀ : Kept} {block line cells : List ℕ} {items : List Order} {out : List ℕ} {c : Carried} {from at : ℕ} (h : Filling k₀ block line cells items out c from at) where
  abbrev kept-now : Kept
  kept-now = kept_of c line cells items

  -- the buffer holds what was printed so far
  so_far : 0 < from → Fills k₀ block line cells items out (record { carried = c; next = from; at = at })
  so_far on =
      let b = h.behind in
      record { kept = b.kept; output = h.output; held = b.held; few = b.few; on = on; within = b.within; room = h.room }

  pub filled-up : length block ≤ from → 0 < length block → Fills k₀ block line cells items out (record { carried = c; next = from; at = at })
  filled-up l some = so_far (omega arith)

  pub no_room : length out - at < longest_answer → Fills k₀ block line cells items out (record { carried = c; next = from; at = at })
  no_room l = by-test (eqb from 0)
      (λ t. absurd (omega (arith, h.begun (eqb-true from 0 t), h.buffer)))
      (λ t. let n : from ≡ 0 → ⊥ = eqb-false from 0 t in so_far (omega arith))

  few-gathered : length kept-now.line ≤ kept_bytes
  few-gathered = rw (length-take c.len line) (omega (arith, h.behind.held.gathered))

  module _ (inside : from < length block) {e : ℕ} (is : e ≡ byte_at 10 (rest block from)) where
    -- no newline is left in the block
    pub filled-part : length block ≤ from + e → {line' : List ℕ} {n : ℕ} → Gathers (take c.len line ++ rest block from) line' n
        → Fills k₀ block line' cells items out
        (record { carried = record { replay = c.replay; number = c.number; len = n; ended = c.ended }; next = from + e; at = at })
    filled-part l {line'} {n} g =
        let b = h.behind in
        let all : e ≡ length block - from = omega (arith, end-within b is) in
        let plain : Plain (rest block from) = omega (arith, rest-long b) in
        let whole : take (from + (length block - from)) block ≡ take (from + e) block = ap (λ x. take (from + x) block) (sym all) in
        record {
          kept = ap (λ (x : List ℕ). record { state = kept-now.state; number = c.number; line = x; ended = c.ended }) g.first ∙ sym (fed-plain (rest block from) kept-now b.goes few-gathered plain)
              ∙ fed-on b (length block - from) ∙ ap (fed k₀) whole;
          output = h.output
              ∙ sym (append-nil (printed k₀ (take from block)))
              ∙ ap (λ (x : List ℕ). printed k₀ (take from block) ++ x) (sym (printed-plain (rest block from) kept-now b.goes plain))
              ∙ printed-on b (length block - from) ∙ ap (printed k₀) whole;
          held = record { ready = b.held.ready; gathered = g.gathered };
          few = omega (arith, b.few);
          on = omega arith;
          within = omega arith;
          room = h.room;
        }

    -- a line that ends in the block is answered
    module _ (found : from + e < length block) (room : at + longest_answer ≤ length out) {l : Line}
        (read : l ≡ reading_of (take c.len line ++ take (from + e - from) (drop from block)))
        {cells' : List ℕ} {items' : List Order} {out' : List ℕ} {d : Answered}
        (a : Answers (state_of c.replay cells items) (c.number + 1) l cells out at cells' items' out' d) (line' : List ℕ) where
      abbrev b : Behind k₀ block line cells items c from
      b = h.behind

      place : e ≡ byte_at 10 (drop from block)
      place = is ∙ ap (byte_at 10) (rest-is block from)

      abbrev text : List ℕ
      text = take c.len line ++ take (byte_at 10 (drop from block)) (drop from block)

      said : l ≡ reading_of text
      said =
          read ∙ ap (λ x. reading_of (take c.len line ++ take x (drop from block)))
          (let z : from + e - from ≡ byte_at 10 (drop from block) = omega (arith, place) in z)

      found_in : byte_at 10 (drop from block) < length (drop from block)
      found_in = omega (arith, place, length-drop from block)

      abbrev full : Kept
      full = with_line kept-now (take kept_bytes text)

      answer : answer_of (state_of c.replay cells items) l ≡ answer_to full
      answer = ap (answer_of (state_of c.replay cells items)) said ∙ sym (answer-front full text refl)

      behind-line : kept_of (record { replay = d.replay; number = c.number + 1; len = 0; ended = d.ended }) line' cells' items' ≡ behind_line full
      behind-line = same (state-behind a ∙ ap (λ (x : Answer). x.state) answer) (add-one c.number) (ended-behind a ∙ ap (λ (x : Answer). x.ended) answer)
        where
          same : {s t : State} {m n : ℕ} {x y : Bool} → s ≡ t → m ≡ n → x ≡ y
              → ◌≡◌ {A = Kept} (record { state = s; number = m; line = []; ended = x }) (record { state = t; number = n; line = []; ended = y })
          same p q r = rw (p, q, r)

      next : from + suc (byte_at 10 (drop from block)) ≡ from + e + 1
      next = omega (arith, place)

      kept_next : kept_of (record { replay = d.replay; number = c.number + 1; len = 0; ended = d.ended }) line' cells' items'
          ≡ fed k₀ (take (from + e + 1) block)
      kept_next = behind-line ∙ sym (line-fed (drop from block) kept-now b.goes few-gathered found_in) ∙ fed-on b _ ∙ ap (λ x. fed k₀ (take x block)) next

      output-next : take d.at out' ≡ printed k₀ (take (from + e + 1) block)
      output-next =
          output-behind a room
          ∙ ap₂ (λ (x : List ℕ) (y : List ℕ). x ++ y) h.output (ap₂ (λ (x : ℕ) (y : Answer). rendered x y) (add-one c.number) answer
          ∙ sym (line-printed (drop from block) kept-now b.goes few-gathered found_in))
          ∙ printed-on b _ ∙ ap (λ x. printed k₀ (take x block)) next

      pub next_line : length line' ≡ length line → length out' ≡ length out → d.ended ≡ false
          → Filling k₀ block line' cells' items' out' (record { replay = d.replay; number = c.number + 1; len = 0; ended = c.ended }) (from + e + 1) d.at
      next_line ll lo goes =
          record {
            behind = record {
              kept = ap (λ (x : Bool). kept_of (record { replay = d.replay; number = c.number + 1; len = 0; ended = x }) line' cells' items') (b.goes ∙ sym goes)
                  ∙ kept_next;
              held = record { ready = a.ready; gathered = omega arith };
              goes = b.goes;
              line_long = omega (arith, b.line_long);
              few = omega (arith, b.few);
              countable = b.countable;
              within = omega arith;
            };
            output = output-next;
            room = room-behind a room;
            buffer = omega (arith, h.buffer);
            begun = λ z. absurd (omega arith);
          }

      pub ended-line : d.ended ≡ true
          → Fills k₀ block line' cells' items' out'
          (record { carried = record { replay = d.replay; number = c.number + 1; len = 0; ended = true }; next = from + e + 1; at = d.at })
      ended-line over =
          record {
            kept = ap (λ (x : Bool). kept_of (record { replay = d.replay; number = c.number + 1; len = 0; ended = x }) line' cells' items') (sym over)
                ∙ kept_next;
            output = output-next;
            held = record { ready = a.ready; gathered = omega arith };
            few = omega (arith, b.few);
            on = omega arith;
            within = omega arith;
            room = room-behind a room;
          }
