-- An insert that meets its own key: what stands at no higher price finishes it, a higher price is replaced, and then it is finished too; any other key is carried on.
use Rattle.std.specs.Prelude.{Option, ℕ, Some, Ok}
use mathlib.Core.Path.{◌≡◌, refl, ap, ◌∙◌}
use mathlib.Core.Logic.{◌≢◌, ◌⊎◌, ⊎_elim}
use mathlib.Core.Bool.{true, false}
use mathlib.Core.List.{List}
use Prim.Native.Nat.{ℕ, ◌≤◌, ◌<◌}
use native.Mathlib.Omega.{arith}
use lib.Dec.{eqb}
use lib.ListN.{get_or}
use borrow.Author.Tests.{eq-eqb, ne_eqb, lt-ltb, le-ltb, le-leb, lt-leb}
use Rattle.ring.specs.Ring.{next}
use Rattle.ring.proofs.Split.{by-eq}
use Rattle.ring.proofs.Tests.{tested}
use Rattle.prices.specs.Contents.{label, price}
use Rattle.activities.specs.declared.Activity.{Activity}
use Rattle.activities.specs.declared.Activity.TheVariants.{Reading, Replacing}
use Rattle.rule.specs.Rule.{touched, settled, absorbed, insert_step, rule}
use Rattle.rule.specs.declared.Answer.TheVariants.{Finished}
use Rattle.rule.specs.declared.Outcome.{Outcome}
use Rattle.state.specs.Model.{Model}
use Rattle.state.specs.declared.Phase.{Phase}
use Rattle.protocol.specs.Bars.{doing}
use Rattle.protocol.specs.Calls.{moved_at}
use Rattle.protocol.proofs.Frames.{present, moved}

-- ---- by the rule
-- a replaced content that leaves nothing to carry
abbrev Absorbed : ℕ → ℕ → Type 0
Absorbed v x = ((label x ≡ label v) × (price v < price x)) ⊎ (label x ≡ 0)

module _ (k n : ℕ) (home : ℕ → ℕ) (is : k ≡ 1) where
  module _ (v i c : ℕ) (own : label c ≡ label v) where
    own-stands : price c ≤ price v → (rule k n label home (Reading v i) c).answer ≡ Finished
    unfolding rule insert_step settled
    own-stands l =
        let h : label c ≤ label v = omega arith in
        let g : c ≤ v = omega arith in
        rw (is, le-ltb (label v) (label c) h, eq-eqb (label c) (label v) own, le-leb c v g)

    own-undercut : price v < price c → (rule k n label home (Reading v i) c).activity ≡ Replacing v i i c
    unfolding rule insert_step settled
    own-undercut l =
        let h : label c ≤ label v = omega arith in
        let g : v < c = omega arith in
        rw (is, le-ltb (label v) (label c) h, eq-eqb (label c) (label v) own, lt-leb c v g)

  absorbs : (v x : ℕ) → Absorbed v x → absorbed label v x ≡ true
  unfolding absorbed
  absorbs v x h = ⊎_elim
      (λ (own, l).
      let g : v < x = omega arith in
      rw (eq-eqb (label x) (label v) own, lt-ltb v x g) (tested (λ b. b ≡ true) (eqb (label x) 0) (λ _. refl) (λ _. refl)))
      (λ none. rw (eq-eqb (label x) 0 none)) h

  remains : (v x : ℕ) → label x ≢ 0 → (label x ≡ label v → price x ≤ price v) → absorbed label v x ≡ false
  unfolding absorbed
  remains v x nz h = rw (ne_eqb (label x) 0 nz) (by-eq (label x) (label v)
      (λ own.
      let l : price x ≤ price v = h own in
      let g : x ≤ v = omega arith in
      rw (eq-eqb (label x) (label v) own, le-ltb v x g))
      (λ ne. rw (ne_eqb (label x) (label v) ne)))

  module _ (v i j x c : ℕ) (held : c ≡ x) where
    own-replaced : Absorbed v x → (rule k n label home (Replacing v i j x) c).answer ≡ Finished
    unfolding rule insert_step
    own-replaced h = rw (is, eq-eqb c x held, absorbs v x h)

    other-carried : label x ≢ 0 → (label x ≡ label v → price x ≤ price v) → (rule k n label home (Replacing v i j x) c).activity ≡ Reading x (next n i)
    unfolding rule insert_step
    other-carried nz h = rw (is, eq-eqb c x held, remains v x nz h)

-- ---- of a turn
module _ (M : Model) (p : Phase) (t : List ℕ) (w : ℕ) where
  abbrev outcome : Activity → ℕ → Outcome
  outcome a c = rule p.kind p.length label (M.home p.hash p.length) a (get_or t c 0)

  -- of a worker doing a that touches cell c
  module _ (a : Activity) (c : ℕ) (on : doing p w ≡ a) (at : touched a ≡ Some c) where
    place : touched (doing p w) ≡ Some c
    place = ap touched on ∙ at

    pub replies : (moved_at M p t w (touched (doing p w))).reply ≡ Ok (outcome a c).answer
    replies =
        ap (λ (q : Option ℕ). (moved_at M p t w q).reply) place ∙ ap (λ (b : Activity). Ok (outcome b c).answer) on

    pub leads : doing (moved_at M p t w (touched (doing p w))).phase w ≡ (outcome a c).activity
    leads =
        ap (λ (q : Option ℕ). doing (moved_at M p t w q).phase w) place
        ∙ moved p w (outcome (doing p w) c).activity (present p w c place)
        ∙ ap (λ (b : Activity). (outcome b c).activity) on

  -- ---- of an insert phase
  module _ (is : p.kind ≡ 1) where
    module _ (v i : ℕ) (on : doing p w ≡ Reading v i) (own : label (get_or t i 0) ≡ label v) where
      pub moved-stands : price (get_or t i 0) ≤ price v → (moved_at M p t w (touched (doing p w))).reply ≡ Ok Finished
      moved-stands l =
          replies (Reading v i) i on refl ∙ ap Ok (own-stands p.kind p.length (M.home p.hash p.length) is v i (get_or t i 0) own l)

      pub moved-undercut : price v < price (get_or t i 0) → doing (moved_at M p t w (touched (doing p w))).phase w ≡ Replacing v i i (get_or t i 0)
      moved-undercut l =
          leads (Reading v i) i on refl ∙ own-undercut p.kind p.length (M.home p.hash p.length) is v i (get_or t i 0) own l

    module _ (v i j x : ℕ) (on : doing p w ≡ Replacing v i j x) (held : get_or t i 0 ≡ x) where
      pub moved-replaced : ((label x ≡ label v) × (price v < price x)) ⊎ (label x ≡ 0) → (moved_at M p t w (touched (doing p w))).reply ≡ Ok Finished
      moved-replaced h =
          replies (Replacing v i j x) i on refl
          ∙ ap Ok (own-replaced p.kind p.length (M.home p.hash p.length) is v i j x (get_or t i 0) held h)

      pub moved-carries : label x ≢ 0 → (label x ≡ label v → price x ≤ price v)
          → doing (moved_at M p t w (touched (doing p w))).phase w ≡ Reading x (next p.length i)
      moved-carries nz h =
          leads (Replacing v i j x) i on refl ∙ other-carried p.kind p.length (M.home p.hash p.length) is v i j x (get_or t i 0) held nz h
