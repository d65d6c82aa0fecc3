-- What passed tests say: of two tests joined, of tests at each i below n, and of the first that passes.
use mathlib.Core.Path.{◌≡◌}
use mathlib.Core.Bool.{Bool, true, false, ◌&&◌, ◌||◌}
use Prim.Native.Nat.{ℕ, zero, suc, ◌≤◌, ◌<◌}
use native.Mathlib.Omega.{arith}
use lib.Dec.{T}
use Rattle.ring.proofs.Split.{by-eq, by-lt, by-tri}
use Rattle.ring.proofs.Tests.{by-test, not_both}
use Rattle.ring.specs.Each.{all, some, first}

-- ---- two tests
pub and-of : (a b : Bool) → T a → T b → T (a && b)
and-of true b s t = t
and-of false b s t = s

pub and_left : (a b : Bool) → T (a && b) → T a
and_left true b t = tt
and_left false b t = t

pub and_right : (a b : Bool) → T (a && b) → T b
and_right true b t = t
and_right false b t = absurd t

pub or_left : (a b : Bool) → T a → T (a || b)
or_left true b t = tt
or_left false b t = absurd t

pub or_right : (a b : Bool) → T b → T (a || b)
or_right true b t = tt
or_right false b t = t

pub by-or {ℓ} : {C : Type ℓ} (a b : Bool) → T (a || b) → (T a → C) → (T b → C) → C
by-or true b t f g = f tt
by-or false b t f g = g t

-- ---- each i below n, and some i below n
pub all-at : (p : ℕ → Bool) (n : ℕ) → T (all p n) → (i : ℕ) → i < n → T (p i)
unfolding all
all-at p zero t i h = absurd (omega arith)
all-at p (suc n) t i h = by-eq i n (λ e. rw e (and_left (p n) (all p n) t)) (λ e. all-at p n (and_right (p n) (all p n) t) i (omega arith))

pub all_of : (p : ℕ → Bool) (n : ℕ) → ((i : ℕ) → i < n → T (p i)) → T (all p n)
unfolding all
all_of p zero h = tt
all_of p (suc n) h = and-of (p n) (all p n) (h n (omega arith)) (all_of p n (λ i l. h i (omega arith)))

pub some_at : (p : ℕ → Bool) (n : ℕ) → T (some p n) → (i : ℕ) × (i < n) × T (p i)
unfolding some
some_at p zero t = absurd t
some_at p (suc n) t = by-or (p n) (some p n) t (λ h. (n, omega arith, h)) (λ h. let r = some_at p n h in (r.0, omega arith, r.2))

pub some_of : (p : ℕ → Bool) (n i : ℕ) → i < n → T (p i) → T (some p n)
unfolding some
some_of p zero i l t = absurd (omega arith)
some_of p (suc n) i l t = by-eq i n (λ e. or_left (p n) (some p n) (rw (← e) t)) (λ e. or_right (p n) (some p n) (some_of p n i (omega arith) t))

-- ---- the first i below n that passes; n if none does
pub record First (p : ℕ → Bool) (n i : ℕ) : Type 0 where
  pub within : i ≤ n
  pub before : (k : ℕ) → k < i → p k ≡ false
  pub found : i < n → p i ≡ true

pub first-is : (p : ℕ → Bool) (n : ℕ) → First p n (first p n)
unfolding first
first-is p zero = record { within = omega arith; before = λ k l. absurd (omega arith); found = λ l. absurd (omega arith) }
first-is p (suc n) = by-test (p 0)
    (λ e. rw e (record { within = omega arith; before = λ k l. absurd (omega arith); found = λ _. e }))
    (λ e. rw e (later e (first-is (λ i. p (suc i)) n)))
  where
    later : p 0 ≡ false → {i : ℕ} → First (λ j. p (suc j)) n i → First p (suc n) (suc i)
    later e f = record { within = omega (arith, f.within); before = earlier e f; found = λ l. f.found (omega arith) }
      where
        earlier : p 0 ≡ false → {i : ℕ} → First (λ j. p (suc j)) n i → (k : ℕ) → k < suc i → p k ≡ false
        earlier e f zero l = e
        earlier e f (suc k) l = f.before k (omega arith)

-- there is one such i
pub first_of : {p : ℕ → Bool} {n i : ℕ} → First p n i → i ≡ first p n
first_of {p} {n} {i} f = by-tri i (first p n)
    (λ l. absurd (not_both (p i) (f.found (omega (arith, g.within))) (g.before i l)))
    (λ e. e)
    (λ l. absurd (not_both (p (first p n)) (g.found (omega (arith, f.within))) (f.before (first p n) l)))
  where
    g : First p n (first p n)
    g = first-is p n

-- it is not past one that passes
pub first-low : (p : ℕ → Bool) (n i : ℕ) → i < n → p i ≡ true → first p n ≤ i
first-low p n i l e = by-lt i (first p n) (λ h. absurd (not_both (p i) e ((first-is p n).before i h))) (λ h. h)
