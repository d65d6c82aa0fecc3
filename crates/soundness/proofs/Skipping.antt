-- The search passes by the empty cells.
use mathlib.Core.Path.{◌≡◌, refl, sym, ap, ◌∙◌, subst}
use mathlib.Core.Bool.{false}
use mathlib.Core.List.{List}
use Prim.Native.Nat.{ℕ, zero, suc, ◌+◌, ◌-◌, ◌≤◌, ◌<◌}
use native.Mathlib.Numerals.{add-one}
use native.Mathlib.Omega.{arith}
use lib.ListN.{length, get_or}
use Rattle.ring.proofs.Split.{by-eq}
use Rattle.prices.specs.Contents.{label}
use Rattle.prices.specs.Priced.{labels}
use Rattle.prices.proofs.Labels.{label_at}
use Rattle.soundness.specs.Faulty.{is_faulty}
use Rattle.soundness.specs.Links.{Linked, Skipped}
use Rattle.soundness.proofs.Links.{link-unset}
use Rattle.soundness.proofs.Order.{empty-keeps}
use Rattle.soundness.proofs.Passing.{Gave, gave-on}

-- ---- the loop over them
module _ (t : List ℕ) (j : ℕ) where
  pub skip-starts : j ≤ length t → Skipped t j j
  skip-starts l = record { from = omega arith; to = l; empty = λ i p q. absurd (omega arith) }

  pub skip-on : {c : ℕ} → Skipped t j c → c < length t → get_or t c 0 ≡ 0 → Skipped t j (c + 1)
  skip-on {c} s l z = record { from = omega (arith, s.from); to = omega arith; empty = λ i p q. by-eq i c (λ e. rw e z) (λ e. s.empty i p (omega arith)) }

  pub skip-two : {c : ℕ} → Skipped t j c → c + 1 < length t → get_or t c 0 ≡ 0 → get_or t (c + 1) 0 ≡ 0 → Skipped t j (c + 2)
  skip-two {c} s l y z =
      let e : c + 1 + 1 ≡ c + 2 = omega arith in
      subst (Skipped t j) e (skip-on (skip-on s (omega arith) y) l z)

-- ---- the search has come to cell j, and no cell before it is faulty
module _ (home : ℕ → ℕ) (t links : List ℕ) where
  pub record Come (j : ℕ) : Type 0 where
    pub linked : Linked (length t) home (labels label t) j links
    pub kept : Gave (is_faulty home t) false j

  empty-kept : (j : ℕ) → get_or t j 0 ≡ 0 → is_faulty home t j ≡ false
  unfolding is_faulty
  empty-kept j z = rw z (sym (empty-keeps (length t) home (labels label t) j (label_at label refl t j ∙ ap label z)))

  come-on : (j : ℕ) → Come j → j < length t → get_or t j 0 ≡ 0 → Come (suc j)
  come-on j k l z = record {
    linked = link-unset k.linked l (label_at label refl t j ∙ ap label z);
    kept = rw add-one at (gave-on (is_faulty home t) k.kept (empty-kept j z));
  }

  by-steps : (d j : ℕ) → Come j → j + d ≤ length t → ((i : ℕ) → j ≤ i → i < j + d → get_or t i 0 ≡ 0) → Come (j + d)
  by-steps zero j k l e = let z : j + 0 ≡ j = omega arith in rw z k
  by-steps (suc d) j k l e =
      let z : suc j + d ≡ j + suc d = omega arith in
      subst Come z (by-steps d (suc j) (come-on j k (omega arith) (e j (omega arith) (omega arith))) (omega arith) (λ i p q. e i (omega arith) (omega arith)))

  come-past : {j c : ℕ} → Come j → Skipped t j c → Come c
  come-past {j} {c} k s =
      let z : j + (c - j) ≡ c = omega (arith, s.from) in
      subst Come z (by-steps (c - j) j k (omega (arith, s.to, s.from)) (λ i p q. s.empty i p (omega (arith, s.from))))

  -- from an empty cell
  pub come-behind : {j c : ℕ} → Come j → j < length t → get_or t j 0 ≡ 0 → Skipped t (j + 1) c → Come c
  come-behind {j} k l z s = come-past (rw add-one (come-on j k l z)) s
