-- The workers of a phase: all idle, after one has moved, and summed up.
use mathlib.Core.Path.{◌≡◌, ap, ◌∙◌}
use mathlib.Core.List.{List}
use Prim.Native.Nat.{ℕ, ◌+◌, ◌<◌}
use native.Mathlib.Omega.{arith}
use lib.ListN.{length, get_or, set, replicate}
use lib.Seq.{get_or-set_same, get_or-set_other}
use Rattle.ring.specs.Counting.{over}
use Rattle.ring.proofs.Counting.{tally-none, over-set}
use Rattle.ring.proofs.Split.{by-eq}
use Rattle.activities.specs.declared.Activity.{Activity}
use Rattle.activities.specs.declared.Activity.TheVariants.{Idle}
use Rattle.rule.proofs.Crew.{replicate-at}

pub crew-idle : (W w : ℕ) → get_or (replicate W Idle) w Idle ≡ Idle
crew-idle = replicate-at Idle

-- what holds of every worker holds after worker w has moved, if it holds of its new activity
pub set_all {ℓ} : (P : Activity → Type ℓ) (ws : List Activity) (w : ℕ) (b : Activity) → w < length ws
    → ((i : ℕ) → P (get_or ws i Idle)) → P b → (i : ℕ) → P (get_or (set ws w b) i Idle)
set_all P ws w b wl h pb i = by-eq i w (λ z. rw (z, get_or-set_same ws w b Idle wl) pb) (λ z. rw (get_or-set_other ws w i b Idle z) (h i))

-- ---- sums over the workers
module _ (g : Activity → ℕ) (W : ℕ) where
  pub opening-sum : g Idle ≡ 0 → over (λ _ a. g a) Idle W (replicate W Idle) ≡ 0
  opening-sum z = tally-none (λ w. g (get_or (replicate W Idle) w Idle)) W (λ w _. ap g (crew-idle W w) ∙ z)

  pub moved_sum : (ws : List Activity) (w : ℕ) (b : Activity) → length ws ≡ W → w < length ws
      → over (λ _ a. g a) Idle W (set ws w b) + g (get_or ws w Idle) ≡ over (λ _ a. g a) Idle W ws + g b
  moved_sum ws w b crew wl = over-set (λ _ a. g a) Idle W ws w b (omega arith) wl
