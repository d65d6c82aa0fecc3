-- What a turn that is not refused answers.
use Rattle.std.specs.Prelude.{Option, ℕ, Some, None, Ok}
use mathlib.Core.Path.{◌≡◌, ap, ◌∙◌}
use mathlib.Core.Logic.{◌≢◌, ◌⊎◌, inl, inr, ⊎_elim}
use mathlib.Core.List.{List}
use Prim.Native.Nat.{ℕ}
use native.Mathlib.Omega.{arith}
use lib.ListN.{get_or}
use Rattle.prices.specs.Contents.{label, price}
use Rattle.activities.specs.Activities.{busy, entry_of, Suits}
use Rattle.activities.specs.declared.Activity.{Activity}
use Rattle.activities.specs.declared.Activity.TheVariants.{Idle}
use Rattle.activities.proofs.Activities.{rests}
use Rattle.rule.specs.Rule.{touched, rule}
use Rattle.rule.specs.declared.Answer.{Answer}
use Rattle.rule.specs.declared.Answer.TheVariants.{WentOn, Finished, Price, No}
use Rattle.rule.specs.declared.Answer.TheVariants as answer
use Rattle.rule.specs.declared.Outcome.{Outcome}
use Rattle.rule.proofs.Telling.{Tells, on, done, found, missed, still, rule-tells}
use Rattle.rule.proofs.Suits.{nowhere-idle}
use Rattle.state.specs.Model.{Model}
use Rattle.state.specs.declared.Phase.{Phase}
use Rattle.protocol.specs.Bars.{doing}
use Rattle.protocol.specs.Calls.{moved_at}
use Rattle.protocol.specs.Promise.{Answers}
use Rattle.protocol.specs.WellFormed.{Kind}
use Rattle.protocol.proofs.Frames.{present, moved}

-- ---- answers of four sorts
abbrev sort : Answer → ℕ
sort answer.Idle = 0
sort WentOn = 1
sort Finished = 2
sort (Price q) = 3
sort No = 3

-- a price or no
abbrev Told : Answer → Type 0
Told r = ((q : ℕ) × (r ≡ Price q)) ⊎ (r ≡ No)

told-sort : (r : Answer) → Told r → sort r ≡ 3
told-sort r h = ⊎_elim (λ (q, e). ap sort e) (λ e. ap sort e) h

module _ (k : ℕ) (a b : Activity) (r : Answer) where
  answers-idle : a ≡ Idle → r ≡ answer.Idle → Answers k a b r
  answers-idle i is =
      record {
        idle = (λ _. i, λ _. is);
        on = (λ e. absurd (omega (arith, ap sort is, ap sort e)), λ h. absurd (h.0 i));
        finished = (λ e. absurd (omega (arith, ap sort is, ap sort e)), λ h. absurd (h.1 i));
        told = (λ e. absurd (omega (arith, ap sort is, told-sort r e)), λ h. absurd (h.1 i));
      }

  module _ (z : a ≢ Idle) where
    answers-on : b ≢ Idle → r ≡ WentOn → Answers k a b r
    answers-on d is =
        record {
          idle = (λ e. absurd (omega (arith, ap sort is, ap sort e)), λ i. absurd (z i));
          on = (λ _. (z, d), λ _. is);
          finished = (λ e. absurd (omega (arith, ap sort is, ap sort e)), λ h. absurd (d h.2));
          told = (λ e. absurd (omega (arith, ap sort is, told-sort r e)), λ h. absurd (d h.2));
        }

    answers-finished : b ≡ Idle → k ≢ 3 → r ≡ Finished → Answers k a b r
    answers-finished d ne is =
        record {
          idle = (λ e. absurd (omega (arith, ap sort is, ap sort e)), λ i. absurd (z i));
          on = (λ e. absurd (omega (arith, ap sort is, ap sort e)), λ h. absurd (h.1 d));
          finished = (λ _. (ne, z, d), λ _. is);
          told = (λ e. absurd (omega (arith, ap sort is, told-sort r e)), λ h. absurd (ne h.0));
        }

    answers-told : b ≡ Idle → k ≡ 3 → Told r → Answers k a b r
    answers-told d find is =
        record {
          idle = (λ e. absurd (omega (arith, told-sort r is, ap sort e)), λ i. absurd (z i));
          on = (λ e. absurd (omega (arith, told-sort r is, ap sort e)), λ h. absurd (h.1 d));
          finished = (λ e. absurd (omega (arith, told-sort r is, ap sort e)), λ h. absurd (h.0 find));
          told = (λ _. (find, z, d), λ _. is);
        }

busy-not-idle : (a : Activity) → busy a ≡ 1 → a ≢ Idle
busy-not-idle a b e = omega (arith, ap busy e)

-- ---- of a step by the rule, for an activity that a worker may have
tells-answers : (k n : ℕ) (key : ℕ → ℕ) (a : Activity) (c : ℕ) (o : Outcome) → Kind k → Suits k n key a → Tells k n key a c o
    → Answers k a o.activity o.answer
tells-answers k n key a c o kind h (on b d r) = answers-on k a _ _ (busy-not-idle a b) (busy-not-idle _ d) r
tells-answers k n key a c o kind h (done ne b d r) = answers-finished k a _ _ (busy-not-idle a b) (rests _ d) ne r
tells-answers k n key a c o kind h (found q n1 n2 b d r _ _) = answers-told k a _ _ (busy-not-idle a b) (rests _ d) (omega arith) (inl (q, r))
tells-answers k n key a c o kind h (missed n1 n2 b d r _) = answers-told k a _ _ (busy-not-idle a b) (rests _ d) (omega arith) (inr r)
tells-answers k n key a c o kind h (still i _ r) = answers-idle k a _ _ (i kind.0 kind.1 h) r

-- a price where the touched cell holds the key at that price, no where it does not hold the key
price-holds : (k n : ℕ) (key : ℕ → ℕ) (a : Activity) (c : ℕ) (o : Outcome) → Tells k n key a c o → (q : ℕ) → o.answer ≡ Price q
    → (key c ≡ key (entry_of a)) × (price c ≡ q)
price-holds k n key a c o (on _ _ r) q e = absurd (omega (arith, ap sort r, ap sort e))
price-holds k n key a c o (done _ _ _ r) q e = absurd (omega (arith, ap sort r, ap sort e))
price-holds k n key a c o (found p _ _ _ _ r cost is) q e = let same : p ≡ q = cc in (is, cost ∙ same)
price-holds k n key a c o (missed _ _ _ _ r _) q e = absurd (let x : ◌≡◌ {A = ℕ} 0 1 = cc in omega arith)
price-holds k n key a c o (still _ _ r) q e = absurd (omega (arith, ap sort r, ap sort e))

no-lacks : (k n : ℕ) (key : ℕ → ℕ) (a : Activity) (c : ℕ) (o : Outcome) → Tells k n key a c o → o.answer ≡ No → key c ≢ key (entry_of a)
no-lacks k n key a c o (on _ _ r) e z = omega (arith, ap sort r, ap sort e)
no-lacks k n key a c o (done _ _ _ r) e z = omega (arith, ap sort r, ap sort e)
no-lacks k n key a c o (found _ _ _ _ _ r _ _) e z = let x : ◌≡◌ {A = ℕ} 0 1 = cc in omega arith
no-lacks k n key a c o (missed _ _ _ _ _ is) e z = is z
no-lacks k n key a c o (still _ _ r) e z = omega (arith, ap sort r, ap sort e)

-- ---- of a turn
module _ (M : Model) (p : Phase) (t : List ℕ) (w : ℕ) where
  abbrev reached : ℕ → Outcome
  reached c = rule p.kind p.length label (M.home p.hash p.length) (doing p w) (get_or t c 0)

  reached-tells : (c : ℕ) → Tells p.kind p.length label (doing p w) (get_or t c 0) (reached c)
  reached-tells c = rule-tells p.kind p.length label (M.home p.hash p.length) (doing p w) (get_or t c 0)

  pub moved-answers : Kind p.kind → Suits p.kind p.length label (doing p w) → (q : Option ℕ) → touched (doing p w) ≡ q → (r : Answer)
      → (moved_at M p t w q).reply ≡ Ok r → Answers p.kind (doing p w) (doing (moved_at M p t w q).phase w) r
  moved-answers kind h None is r e = answers-idle p.kind (doing p w) (doing p w) r (nowhere-idle (doing p w) is) (cc)
  moved-answers kind h (Some c) is r e =
      let same : (reached c).answer ≡ r = cc in
      rw (moved p w (reached c).activity (present p w c is), ← same)
      (tells-answers p.kind p.length label (doing p w) (get_or t c 0) (reached c) kind h (reached-tells c))

  pub moved-price : (c q : ℕ) → (moved_at M p t w (Some c)).reply ≡ Ok (Price q)
      → (label (get_or t c 0) ≡ label (entry_of (doing p w))) × (price (get_or t c 0) ≡ q)
  moved-price c q e = price-holds p.kind p.length label (doing p w) (get_or t c 0) (reached c) (reached-tells c) q (cc)

  pub moved-no : (c : ℕ) → (moved_at M p t w (Some c)).reply ≡ Ok No → label (get_or t c 0) ≢ label (entry_of (doing p w))
  moved-no c e = no-lacks p.kind p.length label (doing p w) (get_or t c 0) (reached c) (reached-tells c) (cc)
