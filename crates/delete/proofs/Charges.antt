-- For a set d of doomed cells (1 for a doomed cell, 0 for another) each worker's charge, whose sum a successful replacement lowers where it leaves the doomed
-- cells as they are; and its countdown, the steps that it takes at most to its next success.
use mathlib.Core.Path.{◌≡◌, refl, ap, ◌∙◌}
use mathlib.Core.Bool.{◌&&◌, ◌||◌, cond}
use mathlib.Core.List.{List}
use Prim.Native.Nat.{ℕ, zero, suc, ◌+◌, ◌-◌, ◌*◌, ◌^◌, ◌≤◌, ◌<◌, max}
use native.Mathlib.Nat.{pow-succ', one-le-pow, pow-le-pow_right, mul-le-mul_left}
use native.Mathlib.Omega.{arith}
use lib.Dec.{leb, eqb}
use lib.ListN.{get_or, set}
use lib.Seq.{get_or-set_other}
use borrow.Author.Tests.{le-leb, lt-leb, eq-eqb, ne_eqb}
use Rattle.ring.specs.Counting.{tally}
use Rattle.ring.proofs.Counting.{tally-le, tally-less}
use Rattle.ring.proofs.Split.{by-lt, by-eq}
use Rattle.activities.specs.declared.Activity.{Activity}
use Rattle.activities.specs.declared.Activity.TheVariants.{Idle, Reading, Replacing, WalkingBack, SeekingForward, SeekingBack}
use Rattle.rule.specs.Rule.{narrow}
use Rattle.delete.proofs.Cases.{narrow-by}
use Rattle.delete.proofs.Invariant.{Shape}
use Rattle.delete.proofs.Setting.{Setting, plain}

-- ---- powers of W + 1
unfoldable pub power : ℕ → ℕ → ℕ
power W p = (W + 1) ^ p

power_pos : (W p : ℕ) → 0 < power W p
unfolding power
power_pos W p = one-le-pow p (W + 1) (omega arith)

power-mono : (W p q : ℕ) → p ≤ q → power W p ≤ power W q
unfolding power
power-mono W p q l = pow-le-pow_right (omega arith) l

power-step : (W p q : ℕ) → p < q → W * power W p + power W p ≤ power W q
unfolding power
power-step W p q l = omega (arith, pow-le-pow_right {n = W + 1} (omega arith) l, pow-succ' (W + 1) p)

-- ---- the greatest of n numbers
peak : (ℕ → ℕ) → ℕ → ℕ
peak f zero = 0
peak f (suc n) = max (peak f n) (f n)

peak-le : (f : ℕ → ℕ) (n m : ℕ) → ((i : ℕ) → i < n → f i ≤ m) → peak f n ≤ m
unfolding peak
peak-le f zero m h = omega arith
peak-le f (suc n) m h = omega (arith, h n (omega arith), peak-le f n m (λ i l. h i (omega arith)))

peak-at : (f : ℕ → ℕ) (n i : ℕ) → i < n → f i ≤ peak f n
unfolding peak
peak-at f zero i l = omega arith
peak-at f (suc n) i l = by-eq i n (λ z. omega (arith, ap f z)) (λ z. omega (arith, peak-at f n i (omega arith)))

module _ (f : Setting) where
  open f use {n, W, home, pos, line}

  module _ (d : ℕ → ℕ) where
    -- ---- how many doomed cells stand at position q or before
    abbrev upto : ℕ → ℕ → ℕ
    upto q c = cond (leb (pos c) q) (d c) 0

    rank : ℕ → ℕ
    rank q = tally (upto q) n

    rank-le : (q : ℕ) → rank q ≤ tally d n
    unfolding rank
    rank-le q = tally-le (upto q) d n (λ c _. by-lt q (pos c) (λ g. rw (lt-leb (pos c) q g) (omega arith)) (λ g. rw (le-leb (pos c) q g) (omega arith)))

    upto-grows : (q r : ℕ) → q ≤ r → (c : ℕ) → upto q c ≤ upto r c
    upto-grows q r l c = by-lt q (pos c)
        (λ g. rw (lt-leb (pos c) q g) (omega arith)) (λ g. rw (le-leb (pos c) q g, le-leb (pos c) r (omega arith)) (omega arith))

    rank_mono : (q r : ℕ) → q ≤ r → rank q ≤ rank r
    unfolding rank
    rank_mono q r l = tally-le (upto q) (upto r) n (λ c _. upto-grows q r l c)

    rank-past : (q k : ℕ) → k < n → d k ≡ 1 → q < pos k → rank q < rank (pos k)
    unfolding rank
    rank-past q k kn one l =
        tally-less (upto q) (upto (pos k)) n k kn (λ c _. upto-grows q (pos k) (omega arith) c)
        (rw (lt-leb (pos k) q l, le-leb (pos k) (pos k) (omega arith), one) (omega arith))

    -- ---- what a position is worth
    pub level : ℕ → ℕ
    level q = power W (rank q)

    pub level-pos : (q : ℕ) → 0 < level q
    unfolding level
    level-pos q = power_pos W (rank q)

    level-mono : (q r : ℕ) → q ≤ r → level q ≤ level r
    unfolding level
    level-mono q r l = power-mono W (rank q) (rank r) (rank_mono q r l)

    pub level-top : (q : ℕ) → tally d n ≤ W → level q ≤ power W W
    unfolding level
    level-top q few = power-mono W (rank q) W (omega (arith, rank-le q))

    -- a doomed cell is worth more than all that is before it
    pub level-step : (q k : ℕ) → k < n → d k ≡ 1 → q < pos k → W * level q + level q ≤ level (pos k)
    unfolding level
    level-step q k kn one l = power-step W (rank q) (rank (pos k)) (rank-past q k kn one l)

    -- ---- the worth of the greatest position, not past q, at which v stands, or 0
    worth : ℕ → ℕ → List ℕ → ℕ → ℕ
    worth v q t c = cond (leb (pos c) q && eqb (get_or t c 0) v) (level (pos c)) 0

    by-worth {ℓ} : {C : Type ℓ} (v q : ℕ) (t : List ℕ) (c : ℕ) → (pos c ≤ q → get_or t c 0 ≡ v → worth v q t c ≡ level (pos c) → C)
        → ((pos c ≤ q → get_or t c 0 ≡ v → ⊥) → worth v q t c ≡ 0 → C) → C
    unfolding worth
    by-worth v q t c f g = by-lt q (pos c)
        (λ l. g (λ m _. omega arith) (rw (lt-leb (pos c) q l)))
        (λ l. by-eq (get_or t c 0) v
        (λ z. f l z (rw (le-leb (pos c) q l, eq-eqb (get_or t c 0) v z))) (λ z. g (λ _. z) (rw (le-leb (pos c) q l, ne_eqb (get_or t c 0) v z))))

    pub aim : ℕ → ℕ → List ℕ → ℕ
    aim v q t = peak (worth v q t) n

    pub aim_at : (v q : ℕ) (t : List ℕ) (c : ℕ) → c < n → get_or t c 0 ≡ v → pos c ≤ q → level (pos c) ≤ aim v q t
    unfolding aim
    aim_at v q t c cn is l = by-worth v q t c (λ _ _ z. omega (arith, peak-at (worth v q t) n c cn)) (λ miss _. absurd (miss l is))

    aim-under : (v q : ℕ) (t : List ℕ) (m : ℕ) → ((c : ℕ) → c < n → get_or t c 0 ≡ v → pos c ≤ q → level (pos c) ≤ m) → aim v q t ≤ m
    unfolding aim
    aim-under v q t m h = peak-le (worth v q t) n m (λ c cn. by-worth v q t c (λ l is z. omega (arith, h c cn is l)) (λ _ z. omega arith))

    pub aim-le : (v q : ℕ) (t : List ℕ) → aim v q t ≤ level q
    aim-le v q t = aim-under v q t (level q) (λ c _ _ l. level-mono (pos c) q l)

    -- where no copy stands past r up to q
    pub aim-skip : (v q r : ℕ) (t : List ℕ) → ((c : ℕ) → c < n → get_or t c 0 ≡ v → pos c ≤ q → pos c ≤ r) → aim v q t ≤ aim v r t
    aim-skip v q r t h = aim-under v q t (aim v r t) (λ c cn is l. aim_at v r t c cn is (h c cn is l))

    -- after a write to cell k; and where that is past q
    aim-set : (v q : ℕ) (t : List ℕ) (k x : ℕ) → aim v q t ≤ aim v q (set t k x) + level (pos k)
    aim-set v q t k x = aim-under v q t (aim v q (set t k x) + level (pos k)) (λ c cn is l. by-eq c k
        (λ y. omega (arith, ap (λ (i : ℕ). level (pos i)) y))
        (λ y. omega (arith, aim_at v q (set t k x) c cn (get_or-set_other t k c x 0 y ∙ is) l)))

    aim-past : (v q : ℕ) (t : List ℕ) (k x : ℕ) → q < pos k → aim v q t ≤ aim v q (set t k x)
    aim-past v q t k x past = aim-under v q t (aim v q (set t k x)) (λ c cn is l.
        aim_at v q (set t k x) c cn (get_or-set_other t k c x 0 (λ y. omega (arith, ap pos y)) ∙ is) l)

    -- ---- what a candidate that is no longer there weighs
    pub stale : List ℕ → ℕ → ℕ → ℕ → ℕ
    stale t k j x = cond (eqb x 0 || eqb (get_or t j 0) x) 0 (W * level (pos k))

    pub by-stale {ℓ} : {C : Type ℓ} (t : List ℕ) (k j x : ℕ) → (x ≡ 0 → stale t k j x ≡ 0 → C) → (get_or t j 0 ≡ x → stale t k j x ≡ 0 → C)
        → ((x ≡ 0 → ⊥) → (get_or t j 0 ≡ x → ⊥) → stale t k j x ≡ W * level (pos k) → C) → C
    unfolding stale
    by-stale t k j x f g h = by-eq x 0 (λ z. f z (rw (eq-eqb x 0 z))) (λ z. by-eq (get_or t j 0) x
        (λ y. g y (rw (ne_eqb x 0 z, eq-eqb (get_or t j 0) x y))) (λ y. h z y (rw (ne_eqb x 0 z, ne_eqb (get_or t j 0) x y))))

    pub stale-here : (t : List ℕ) (k j : ℕ) → stale t k j (get_or t j 0) ≡ 0
    stale-here t k j = by-stale t k j (get_or t j 0) (λ _ z. z) (λ _ z. z) (λ _ ne _. absurd (ne refl))

    stale-le : (t : List ℕ) (k j x : ℕ) → stale t k j x ≤ W * level (pos k)
    stale-le t k j x = by-stale t k j x (λ _ z. omega arith) (λ _ z. omega arith) (λ _ _ z. omega arith)

    -- a write to cell i makes a candidate stale only if it was seen there
    stale-other : (t : List ℕ) (k j x i y : ℕ) → (j ≡ i → ⊥) → stale (set t i y) k j x ≤ stale t k j x
    stale-other t k j x i y ne = by-stale (set t i y) k j x (λ _ z. omega arith) (λ _ z. omega arith) (λ nz no-x z.
        by-stale t k j x (λ xz _. absurd (nz xz)) (λ is _. absurd (no-x (get_or-set_other t i j y 0 ne ∙ is))) (λ _ _ s. omega arith))

    -- ---- a worker's charge
    abbrev pub charge : List ℕ → Activity → ℕ
    charge t Idle = 0
    charge t (Reading v i) = power W W
    charge t (WalkingBack v k) = power W W - aim v (pos k) t
    charge t (SeekingForward v k j) = power W W - aim v (pos k) t
    charge t (SeekingBack p v k j x) = (power W W - aim v (pos k) t) + stale t k j x
    charge t (Replacing v k j x) = (power W W - aim v (pos k) t) + stale t k j x

    pub narrow-charge : (t : List ℕ) (v k j x p : ℕ) → charge t (narrow n plain home v k j x p) ≡ (power W W - aim v (pos k) t) + stale t k j x
    narrow-charge t v k j x p = narrow-by n home (λ b. charge t b ≡ (power W W - aim v (pos k) t) + stale t k j x) v k j x p (λ _. refl) (λ _. refl)

    -- no charge is greater than this
    module _ (t : List ℕ) (few : tally d n ≤ W) where
      candidate-le : (v k j x : ℕ) → (power W W - aim v (pos k) t) + stale t k j x ≤ power W (suc W)
      candidate-le v k j x = omega (arith, stale-le t k j x, mul-le-mul_left W (level-top (pos k) few), power-step W W (suc W) (omega arith))

      pub charge-le : (a : Activity) → charge t a ≤ power W (suc W)
      charge-le Idle = omega arith
      charge-le (Reading v c) = omega (arith, power-step W W (suc W) (omega arith))
      charge-le (WalkingBack v k) = omega (arith, power-step W W (suc W) (omega arith))
      charge-le (SeekingForward v k j) = omega (arith, power-step W W (suc W) (omega arith))
      charge-le (SeekingBack p v k j x) = candidate-le v k j x
      charge-le (Replacing v k j x) = candidate-le v k j x

    -- a write to a doomed cell i raises any charge by its worth at most: a worker at i or later may lose its aim there, one before i its candidate
    module _ (t : List ℕ) (i y : ℕ) (il : i < n) (one : d i ≡ 1) where
      candidate-set : (v k j x : ℕ) → pos k < pos j
          → (power W W - aim v (pos k) (set t i y)) + stale (set t i y) k j x ≤ (power W W - aim v (pos k) t) + stale t k j x + level (pos i)
      candidate-set v k j x l = by-lt (pos k) (pos i)
          (λ g. omega (arith, aim-past v (pos k) t i y g, stale-le (set t i y) k j x, level-step (pos k) i il one g))
          (λ g. omega (arith, aim-set v (pos k) t i y, stale-other t k j x i y (λ z. omega (arith, ap pos z))))

      pub charge-set : (D R : List ℕ) (a : Activity) → Shape f t D R a → charge (set t i y) a ≤ charge t a + level (pos i)
      charge-set D R Idle s = omega arith
      charge-set D R (Reading v c) s = omega arith
      charge-set D R (WalkingBack v k) s = omega (arith, aim-set v (pos k) t i y)
      charge-set D R (SeekingForward v k j) s = omega (arith, aim-set v (pos k) t i y)
      charge-set D R (SeekingBack p v k j x) (o, l, c) = candidate-set v k j x (omega (arith, c.low, c.high))
      charge-set D R (Replacing v k j x) (o, c) = candidate-set v k j x c.high

  -- ---- a worker's steps to its next success, or to its finish, at most; more if cell k has lost the key v
  pub lost : List ℕ → ℕ → ℕ → ℕ
  lost t v k = cond (eqb (get_or t k 0) v) 0 (3 * n + 1)

  pub lost-no : (t : List ℕ) (v k : ℕ) → get_or t k 0 ≡ v → lost t v k ≡ 0
  unfolding lost
  lost-no t v k z = rw (eq-eqb (get_or t k 0) v z)

  pub lost-yes : (t : List ℕ) (v k : ℕ) → (get_or t k 0 ≡ v → ⊥) → lost t v k ≡ 3 * n + 1
  unfolding lost
  lost-yes t v k z = rw (ne_eqb (get_or t k 0) v z)

  lost-le : (t : List ℕ) (v k : ℕ) → lost t v k ≤ 3 * n + 1
  lost-le t v k = by-eq (get_or t k 0) v (λ z. omega (arith, lost-no t v k z)) (λ z. omega (arith, lost-yes t v k z))

  abbrev pub countdown : List ℕ → Activity → ℕ
  countdown t Idle = 0
  countdown t (Reading v i) = (n - pos i) + (3 * n + 1)
  countdown t (WalkingBack v k) = 2 * n + 1 + pos k
  countdown t (SeekingForward v k j) = (2 * n - pos j) + lost t v k
  countdown t (SeekingBack p v k j x) = (pos p - pos k) + 1 + lost t v k
  countdown t (Replacing v k j x) = 1 + lost t v k

  pub narrow-countdown : (t : List ℕ) (v k j x p : ℕ) → countdown t (narrow n plain home v k j x p) ≤ (pos p - pos k) + 1 + lost t v k
  narrow-countdown t v k j x p = narrow-by n home (λ b. countdown t b ≤ (pos p - pos k) + 1 + lost t v k) v k j x p (λ _. omega arith) (λ _. omega arith)

  module _ (t D R : List ℕ) where
    pub countdown-le : (u : List ℕ) (a : Activity) → Shape f t D R a → countdown u a ≤ 5 * n + 2
    countdown-le u Idle s = omega arith
    countdown-le u (Reading v i) (o, _) = omega arith
    countdown-le u (WalkingBack v k) o = omega (arith, line.low k o.inside)
    countdown-le u (SeekingForward v k j) (o, _, _) = omega (arith, lost-le u v k)
    countdown-le u (SeekingBack p v k j x) (o, _, c) = omega (arith, lost-le u v k, line.low p c.searched)
    countdown-le u (Replacing v k j x) (o, c) = omega (arith, lost-le u v k)
