-- Which turns change a cell: those that replace, where the cell holds what was read before.
use Rattle.std.specs.Prelude.{Option, ℕ, Some, None}
use mathlib.Core.Path.{◌≡◌, refl, sym, ap, ◌∙◌}
use mathlib.Core.Logic.{◌≢◌, inl, inr}
use mathlib.Core.List.{List}
use Prim.Native.Nat.{ℕ, ◌<◌}
use lib.ListN.{length, get_or, set}
use lib.Seq.{get_or-set_same, get_or-set_other, set_out}
use Rattle.ring.proofs.Split.{by-lt, by-eq}
use Rattle.prices.specs.Contents.{label}
use Rattle.activities.specs.declared.Activity.{Activity}
use Rattle.activities.specs.declared.Activity.TheVariants.{Replacing}
use Rattle.rule.specs.Rule.{touched, rule}
use Rattle.rule.specs.declared.Outcome.{Outcome}
use Rattle.rule.proofs.Writing.{Writes, kept, inserted, deleted, emptied, rule-writes, insert-replaces, delete-replaces, delete-empties}
use Rattle.state.specs.Model.{Model}
use Rattle.state.specs.declared.Phase.{Phase}
use Rattle.protocol.specs.Bars.{doing}
use Rattle.protocol.specs.Calls.{cells_at}
use Rattle.protocol.specs.Promise.{Replaces}

-- a step that changes the touched cell
written : (k d : ℕ) (a : Activity) (before after : ℕ) (o : Outcome) → Writes k label a before o → touched a ≡ Some d → after ≡ o.content → after ≢ before
    → Replaces k a d before after
written k d a before after o (kept e) is made ne = absurd (ne (made ∙ e))
written k d a before after o (inserted v i j x e kind held r) is made ne = let z : i ≡ d = cc in rw e (z, inl (kind, held, made ∙ r))
written k d a before after o (deleted v i j x e kind held some r) is made ne = let z : i ≡ d = cc in rw e (z, inr (kind, held, inl (some, made ∙ r)))
written k d a before after o (emptied v i j x e kind held none r) is made ne = let z : i ≡ d = cc in rw e (z, inr (kind, held, inr (none, made ∙ r)))

-- where a list differs after a place is written, that is the place
place-changed : (t : List ℕ) (d x c : ℕ) → get_or (set t d x) c 0 ≢ get_or t c 0 → (c ≡ d) × (get_or (set t d x) c 0 ≡ x)
place-changed t d x c ne = by-eq c d
    (λ z. (z, by-lt d (length t) (λ l. rw (z, get_or-set_same t d x 0 l)) (λ l. absurd (ne (rw (set_out t d x l))))))
    (λ z. absurd (ne (get_or-set_other t d c x 0 z)))

module _ (M : Model) (p : Phase) (t : List ℕ) (w : ℕ) where
  -- what the rule makes of cell c
  abbrev made : ℕ → Outcome
  made c = rule p.kind p.length label (M.home p.hash p.length) (doing p w) (get_or t c 0)

  -- ---- a replace turn that finds what it read before writes
  module _ (v i j x : ℕ) (is : doing p w ≡ Replacing v i j x) (inside : i < length t) where
    at_place : get_or (cells_at M p t w (touched (doing p w))) i 0 ≡ (made i).content
    at_place = ap (λ (q : Option ℕ). get_or (cells_at M p t w q) i 0) (ap touched is) ∙ get_or-set_same t i (made i).content 0 inside

    pub cells-inserted : p.kind ≡ 1 → get_or t i 0 ≡ x → get_or (cells_at M p t w (touched (doing p w))) i 0 ≡ v
    cells-inserted kind held = at_place ∙ rw is (insert-replaces p.kind p.length label (M.home p.hash p.length) v i j x (get_or t i 0) kind held)

    pub cells-deleted : p.kind ≡ 2 → get_or t i 0 ≡ v → label x ≢ 0 → get_or (cells_at M p t w (touched (doing p w))) i 0 ≡ x
    cells-deleted kind held some =
        at_place ∙ rw is (delete-replaces p.kind p.length label (M.home p.hash p.length) v i j x (get_or t i 0) kind held some)

    pub cells-emptied : p.kind ≡ 2 → get_or t i 0 ≡ v → label x ≡ 0 → get_or (cells_at M p t w (touched (doing p w))) i 0 ≡ 0
    cells-emptied kind held none =
        at_place ∙ rw is (delete-empties p.kind p.length label (M.home p.hash p.length) v i j x (get_or t i 0) kind held none)

  -- ---- and no other turn changes a cell
  pub cells-written : (q : Option ℕ) → touched (doing p w) ≡ q → (c : ℕ) → get_or (cells_at M p t w q) c 0 ≢ get_or t c 0
      → Replaces p.kind (doing p w) c (get_or t c 0) (get_or (cells_at M p t w q) c 0)
  cells-written None is c ne = absurd (ne refl)
  cells-written (Some d) is c ne =
      let (z, e) = place-changed t d (made d).content c ne in
      let rules = rule-writes p.kind p.length label (M.home p.hash p.length) (doing p w) (get_or t c 0) in
      written p.kind c (doing p w) (get_or t c 0) (get_or (cells_at M p t w (Some d)) c 0) (made c) rules (is ∙ ap Some (sym z))
      (e ∙ ap (λ (b : ℕ). (made b).content) (sym z)) ne
