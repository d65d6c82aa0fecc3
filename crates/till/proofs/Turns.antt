-- The orders of a text written one after the other, whole or in part: what is left to write gives the same list.
use mathlib.Core.Path.{◌≡◌, refl, sym, ◌∙◌, ap}
use mathlib.Core.List.{List, [], ◌∷◌, ◌++◌, map, map-id, append-nil}
use Prim.Native.Nat.{ℕ, suc, ◌+◌, ◌-◌, ◌≤◌, ◌<◌}
use native.Mathlib.Omega.{arith}
use native.Mathlib.Numerals.{add-one}
use lib.ListN.{length, set, take, drop, length-map, drop_of_length-le}
use lib.Seq.{length-take-le}
use Rattle.orders.specs.declared.Order.{Order}
use Rattle.state.specs.Model.{Model}
use Rattle.std.specs.Prelude.{Err}
use Rattle.state.specs.declared.Refusal.{Refusal}
use Rattle.till.specs.declared.Begun.{Begun}
use Rattle.till.specs.declared.Cursor.{Cursor}
use Rattle.till.specs.Till.{till_orders, over, till_after}
use Rattle.till.specs.Places.{Dealt, start, dealt_at, dealt_from, begun_of}
use Rattle.till.proofs.Places.{Ready, none}
use Rattle.till.proofs.Over.{written_at, written_none, written-more, written_over}

dealt-none : (crew : ℕ) (text : List ℕ) (c : Cursor) → dealt_from crew text c 0 ≡ []
unfolding dealt_from
dealt-none crew text c = refl

dealt-more : (crew : ℕ) (text : List ℕ) (c : Cursor) (n : ℕ)
    → dealt_from crew text c (suc n) ≡ (dealt_at crew text c).order ∷ dealt_from crew text (dealt_at crew text c).next n
unfolding dealt_from
dealt-more crew text c n = refl

-- f is what is written of an order
module _ {A : Type 0} (f : Order → A) (crew : ℕ) (text : List ℕ) where
  -- the list when n orders of the text are written in all, of which those before place i are there
  abbrev pub filled : ℕ → List A → ℕ → Cursor → List A
  filled n xs i c = written_at xs i (map f (dealt_from crew text c (n - i)))

  fill_one : (xs : List A) (i k : ℕ) (c : Cursor) (r : Dealt) → r ≡ dealt_at crew text c
      → written_at (set xs i (f r.order)) (suc i) (map f (dealt_from crew text r.next k)) ≡ written_at xs i (map f (dealt_from crew text c (suc k)))
  fill_one xs i k c r e =
      written-more xs i (f r.order) (map f (dealt_from crew text r.next k))
      ∙ ap (λ (d : Dealt). written_at xs i (map f (d.order ∷ dealt_from crew text d.next k))) e
      ∙ ap (λ (os : List Order). written_at xs i (map f os)) (sym (dealt-more crew text c k))

  pub fill_more : (n : ℕ) (xs : List A) (i : ℕ) (c : Cursor) (r : Dealt) → i < n → r ≡ dealt_at crew text c
      → filled n (set xs i (f r.order)) (i + 1) r.next ≡ filled n xs i c
  fill_more n xs i c r l e =
      let left : suc (n - (i + 1)) ≡ n - i = omega (arith, l) in
      ap (λ (j : ℕ). written_at (set xs i (f r.order)) j (map f (dealt_from crew text r.next (n - (i + 1))))) (add-one i)
      ∙ fill_one xs i (n - (i + 1)) c r e
      ∙ ap (λ (k : ℕ). written_at xs i (map f (dealt_from crew text c k))) left

  pub fill_end : (n : ℕ) (xs : List A) (i : ℕ) (c : Cursor) → n ≤ i → filled n xs i c ≡ xs
  fill_end n xs i c l =
      let left : n - i ≡ 0 = omega (arith, l) in
      ap (λ (k : ℕ). written_at xs i (map f (dealt_from crew text c k))) left
      ∙ ap (λ (os : List Order). written_at xs i (map f os)) (dealt-none crew text c)
      ∙ written_none xs i

pub fill_start : {A : Type 0} (f : Order → A) (M : Model) (text : List ℕ) (m places : ℕ) (old : List A) (b : Begun) → Ready M text m places b
    → b.lines ≤ length old → filled f b.crew text b.lines old 0 start ≡ over (map f (till_orders M text m places)) old
fill_start f M text m places old b ready h =
    let left : b.lines - 0 ≡ b.lines = omega arith in
    ap (λ (k : ℕ). written_at old 0 (map f (dealt_from b.crew text start k))) left
    ∙ ap (λ (os : List Order). written_at old 0 (map f os)) ready.orders
    ∙ written_over (map f (till_orders M text m places)) old (omega (arith, length-map (till_orders M text m places) f, ready.lines))

-- ---- what a loop keeps that writes them: what is left to write of the list gives what writing all of it gives. This speaks of no model
pub record Filling {A : Type 0} (f : Order → A) (crew : ℕ) (text : List ℕ) (n : ℕ) (old xs : List A) (c : Cursor) (i : ℕ) : Type 0 where
  pub room : n ≤ length old
  pub so_far : filled f crew text n xs i c ≡ filled f crew text n old 0 start

pub begins : {A : Type 0} (f : Order → A) (crew : ℕ) (text : List ℕ) (n : ℕ) (old : List A) → n ≤ length old → Filling f crew text n old old start 0
begins f crew text n old h = record { room = h; so_far = refl }

pub goes_on : {A : Type 0} {f : Order → A} {crew : ℕ} {text : List ℕ} {n : ℕ} {old xs : List A} {c : Cursor} {i : ℕ} → Filling f crew text n old xs c i
    → (o : Order) (next : Cursor) → i < n → o ≡ (dealt_at crew text c).order → next ≡ (dealt_at crew text c).next
    → Filling f crew text n old (set xs i (f o)) next (i + 1)
goes_on {f = f} {crew = crew} {text = text} {n = n} {xs = xs} {c = c} {i = i} v o next h e q =
    rw (e, q) (record { room = v.room; so_far = fill_more f crew text n xs i c (dealt_at crew text c) h refl ∙ v.so_far })

-- in a model, what was begun gives the list that the call leaves
pub ends : {A : Type 0} {f : Order → A} {old xs : List A} {c : Cursor} {i : ℕ} (M : Model) (text : List ℕ) (m places : ℕ) (b : Begun) → Ready M text m places b
    → Filling f b.crew text b.lines old xs c i → b.lines ≤ i → xs ≡ over (map f (till_orders M text m places)) old
ends {f = f} {old = old} {xs = xs} {c = c} {i = i} M text m places b known v l =
    sym (fill_end f b.crew text b.lines xs i c l) ∙ v.so_far ∙ fill_start f M text m places old b known v.room

-- a refusal leaves the list
pub unfilled : {A : Type 0} (f : Order → A) (M : Model) (text : List ℕ) (m places : ℕ) (old : List A) (why : Refusal) → Err why ≡ begun_of M text m places
    → old ≡ over (map f (till_orders M text m places)) old
unfilled f M text m places old why e = rw (none M text m places why e)

-- ---- orders written whole
abbrev pub itself : Order → Order
itself o = o

pub whole : (M : Model) (text : List ℕ) (m : ℕ) (old : List Order) → over (map itself (till_orders M text m (length old))) old ≡ till_after M text m old
whole M text m old = ap (λ (os : List Order). over os old) (map-id (till_orders M text m (length old)))

-- over the front of the list that has as many places
pub front : (M : Model) (text : List ℕ) (m : ℕ) (old : List Order) (b : Begun) → Ready M text m (length old) b
    → over (map itself (till_orders M text m (length old))) (take b.lines old) ++ drop b.lines old ≡ till_after M text m old
front M text m old b ready =
    let n : length (till_orders M text m (length old)) ≡ b.lines = sym ready.lines in
    let short : length (take b.lines old) ≤ b.lines = omega (arith, length-take-le b.lines old ready.room) in
    ap (λ (os : List Order). over os (take b.lines old) ++ drop b.lines old) (map-id (till_orders M text m (length old)))
    ∙ rw (n, drop_of_length-le (take b.lines old) short, append-nil (till_orders M text m (length old)))
