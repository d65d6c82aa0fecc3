-- What the tests of an activity say.
use mathlib.Core.Path.{◌≡◌, refl}
use mathlib.Core.Logic.{◌≢◌, ◌↔◌}
use mathlib.Core.Bool.{Bool, true, false, cond}
use mathlib.Core.List.{List, [], ◌∷◌}
use Prim.Native.Nat.{ℕ, ◌<◌}
use native.Mathlib.Omega.{arith}
use lib.Dec.{ltb, eqb}
use Rattle.ring.proofs.Tests.{not_both, less-says, equal-says, both_say, second-says}
use Rattle.activities.specs.Activities.{is_idle, busy, cells_of, all_below, activity_ok, Suits, Below}
use Rattle.activities.specs.declared.Activity.{Activity}
use Rattle.activities.specs.declared.Activity.TheVariants.{Idle, Reading, Replacing, WalkingBack, SeekingForward, SeekingBack}

-- ---- idle workers
idle-is : (a : Activity) → is_idle a ≡ true → a ≡ Idle
idle-is Idle e = refl
idle-is (Reading v i) e = absurd (not_both false e refl)
idle-is (Replacing v k j x) e = absurd (not_both false e refl)
idle-is (WalkingBack v k) e = absurd (not_both false e refl)
idle-is (SeekingForward v k j) e = absurd (not_both false e refl)
idle-is (SeekingBack p v k j x) e = absurd (not_both false e refl)

pub idle-says : (a : Activity) → is_idle a ≡ true ↔ (a ≡ Idle)
idle-says a = (idle-is a, λ e. rw e)

-- a worker that is not busy is idle
pub rests : (a : Activity) → busy a ≡ 0 → a ≡ Idle
rests Idle z = refl
rests (Reading v i) z = absurd (omega arith)
rests (Replacing v k j x) z = absurd (omega arith)
rests (WalkingBack v k) z = absurd (omega arith)
rests (SeekingForward v k j) z = absurd (omega arith)
rests (SeekingBack p v k j x) z = absurd (omega arith)

-- ---- activities that a worker may have
-- of a busy one: the kind, the key and its cells, one after the other
busy-says : {P C : Type 0} (has : Bool) (v n : ℕ) (cs : List ℕ) → has ≡ true ↔ P → all_below n cs ≡ true ↔ C
    → cond has (cond (eqb v 0) false (all_below n cs)) false ≡ true ↔ (P × ((v ≢ 0) × C))
busy-says has v n cs p c = both_say has _ p (second-says (eqb v 0) (all_below n cs) (equal-says v 0) c)

module _ (n : ℕ) where
  one-says : (c : ℕ) → all_below n (c ∷ []) ≡ true ↔ ((c < n) × Unit {0})
  one-says c = both_say (ltb c n) true (less-says c n) (λ _. tt, λ _. refl)

  two-say : (c d : ℕ) → all_below n (c ∷ d ∷ []) ≡ true ↔ ((c < n) × ((d < n) × Unit {0}))
  two-say c d = both_say (ltb c n) _ (less-says c n) (one-says d)

  three-say : (c d e : ℕ) → all_below n (c ∷ d ∷ e ∷ []) ≡ true ↔ ((c < n) × ((d < n) × ((e < n) × Unit {0})))
  three-say c d e = both_say (ltb c n) _ (less-says c n) (two-say d e)

any-kind : true ≡ true ↔ Unit {0}
any-kind = (λ _. tt, λ _. refl)

not-find : (kind : ℕ) → cond (eqb kind 3) false true ≡ true ↔ (kind ≢ 3)
not-find kind = let s = second-says (eqb kind 3) true (equal-says kind 3) any-kind in (λ e. (s.0 e).0, λ h. s.1 (h, tt))

pub suits-says : (kind n : ℕ) (key : ℕ → ℕ) (a : Activity) → activity_ok kind n key a ≡ true ↔ Suits kind n key a
suits-says kind n key Idle = (λ _. tt, λ _. refl)
suits-says kind n key (Reading v i) =
    let s = busy-says true (key v) n (i ∷ []) any-kind (one-says n i) in
    (λ e. let h = s.0 e in (h.1.0, h.1.1.0), λ h. s.1 (tt, (h.0, (h.1, tt))))
suits-says kind n key (Replacing v k j x) =
    let s = busy-says (cond (eqb kind 3) false true) (key v) n (k ∷ j ∷ []) (not-find kind) (two-say n k j) in
    (λ e. let h = s.0 e in (h.0, h.1.0, h.1.1.0, h.1.1.1.0), λ h. s.1 (h.0, (h.1, (h.2, (h.3, tt)))))
suits-says kind n key (WalkingBack v k) =
    let s = busy-says (eqb kind 2) (key v) n (k ∷ []) (equal-says kind 2) (one-says n k) in
    (λ e. let h = s.0 e in (h.0, h.1.0, h.1.1.0), λ h. s.1 (h.0, (h.1, (h.2, tt))))
suits-says kind n key (SeekingForward v k j) =
    let s = busy-says (eqb kind 2) (key v) n (k ∷ j ∷ []) (equal-says kind 2) (two-say n k j) in
    (λ e. let h = s.0 e in (h.0, h.1.0, h.1.1.0, h.1.1.1.0), λ h. s.1 (h.0, (h.1, (h.2, (h.3, tt)))))
suits-says kind n key (SeekingBack p v k j x) =
    let s = busy-says (eqb kind 2) (key v) n (k ∷ j ∷ p ∷ []) (equal-says kind 2) (three-say n k j p) in
    (λ e. let h = s.0 e in (h.0, h.1.0, h.1.1.0, h.1.1.1.0, h.1.1.1.1.0), λ h. s.1 (h.0, (h.1, (h.2, (h.3, (h.4, tt))))))

-- its cells are below n
pub cells-below : (kind n : ℕ) (key : ℕ → ℕ) (a : Activity) → Suits kind n key a → Below n (cells_of a)
cells-below kind n key Idle h = tt
cells-below kind n key (Reading v i) h = (h.1, tt)
cells-below kind n key (Replacing v k j x) h = (h.2, (h.3, tt))
cells-below kind n key (WalkingBack v k) h = (h.2, tt)
cells-below kind n key (SeekingForward v k j) h = (h.2, (h.3, tt))
cells-below kind n key (SeekingBack p v k j x) h = (h.2, (h.3, (h.4, tt)))
