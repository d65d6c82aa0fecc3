-- A key carried from its home and put down: what the table is afterwards, which cells change and where the keys go.
use mathlib.Core.Path.{◌≡◌, refl, sym, ap, ◌∙◌}
use mathlib.Core.Logic.{◌≢◌, ◌↔◌, ◌⊎◌, inl, inr, ⊎_elim}
use mathlib.Core.Bool.{cond}
use mathlib.Core.List.{List}
use Prim.Native.Nat.{ℕ, zero, suc, ◌+◌, ◌≤◌, ◌<◌}
use native.Mathlib.Omega.{arith}
use lib.Dec.{ltb, eqb}
use lib.ListN.{length, get_or, set, length-set}
use lib.Seq.{get_or-set_same, get_or-set_other}
use borrow.Author.Tests.{lt-ltb, le-ltb, eq-eqb, ne_eqb}
use Rattle.ring.specs.Ring.{probe, dist, next}
use Rattle.ring.proofs.Ring.{wrap-fact, dist-fact, dist-lt, probe-lt, probe-dist, probe-inj, probe-suc, next-in}
use Rattle.ring.proofs.Split.{by-lt, by-eq, by-tri}
use Rattle.layout.specs.Sound.{Holds, Paths, look}
use Rattle.layout.proofs.Path.{Ahead, On, replace-paths, replaced, on-round, passed}

-- v is carried, cell i is next, and at most f cells are looked at: a smaller key there is pushed out and carried on in its turn, a greater one is passed.
-- It ends in an empty cell, or where v stands already.
unfoldable pub carry : ℕ → List ℕ → ℕ → ℕ → ℕ → List ℕ
carry n t zero i v = t
carry n t (suc f) i v =
    cond (ltb (get_or t i 0) v) (cond (eqb (get_or t i 0) 0) (set t i v) (carry n (set t i v) f (next n i) (get_or t i 0)))
    (cond (eqb (get_or t i 0) v) t (carry n t f (next n i) v))

-- the four cases of one cell
by-carry : (C : List ℕ → Type 0) (n : ℕ) (t : List ℕ) (f i v : ℕ)
    → (get_or t i 0 < v → get_or t i 0 ≡ 0 → C (set t i v))
    → (get_or t i 0 < v → get_or t i 0 ≢ 0 → C (carry n (set t i v) f (next n i) (get_or t i 0)))
    → (get_or t i 0 ≡ v → C t)
    → (v < get_or t i 0 → C (carry n t f (next n i) v))
    → C (carry n t (suc f) i v)
unfolding carry
by-carry C n t f i v ends pushes stands passes = by-tri (get_or t i 0) v
    (λ l. by-eq (get_or t i 0) 0
    (λ z. rw (lt-ltb (get_or t i 0) v l, eq-eqb (get_or t i 0) 0 z) (ends l z))
    (λ z. rw (lt-ltb (get_or t i 0) v l, ne_eqb (get_or t i 0) 0 z) (pushes l z)))
    (λ e. rw (le-ltb (get_or t i 0) v (omega arith), eq-eqb (get_or t i 0) v e) (stands e))
    (λ l. rw (le-ltb (get_or t i 0) v (omega arith), ne_eqb (get_or t i 0) v (omega arith)) (passes l))

-- one cell nearer to e
nearer : (n i e : ℕ) → i < n → e < n → i ≢ e → suc (dist n (next n i) e) ≡ dist n i e
nearer n i e i_n en ne = omega (arith, wrap-fact n (suc i) (omega arith), dist-fact n i e i_n en, dist-fact n (next n i) e (next-in n i i_n) en)

-- ---- v written into cell i
module _ (n : ℕ) (t : List ℕ) (size : length t ≡ n) (v i : ℕ) (i_n : i < n) where
  abbrev u : List ℕ
  u = set t i v

  new : get_or u i 0 ≡ v
  new = get_or-set_same t i v 0 (omega arith)

  old : (c : ℕ) → c ≢ i → get_or u c 0 ≡ get_or t c 0
  old c ne = get_or-set_other t i c v 0 ne

  put-size : length u ≡ n
  put-size = length-set t i v ∙ size

  -- the keys: v is there now, and all but the one that was there
  put-keys : (y : ℕ) → Holds n u y → (y ≡ v) ⊎ Holds n t y
  put-keys y h = by-eq h.cell i
      (λ e. inl (sym h.is ∙ ap (λ (c : ℕ). get_or u c 0) e ∙ new))
      (λ e. inr (record { cell = h.cell; inside = h.inside; is = sym (old h.cell e) ∙ h.is }))

  put-new : Holds n u v
  put-new = record { cell = i; inside = i_n; is = new }

  put-old : (y : ℕ) → Holds n t y → (y ≡ get_or t i 0) ⊎ Holds n u y
  put-old y h = by-eq h.cell i
      (λ e. inl (sym h.is ∙ ap (λ (c : ℕ). get_or t c 0) e))
      (λ e. inr (record { cell = h.cell; inside = h.inside; is = old h.cell e ∙ h.is }))

  -- over a smaller key, or into an empty cell
  module _ (home : ℕ → ℕ) (hb : (x : ℕ) → home x < n) (w : Paths n home t) (o : On n home t v i) (less : get_or t i 0 < v) where
    here : probe n (home v) (dist n (home v) i) ≡ i
    here = probe-dist n (home v) (hb v) i i_n

    near : dist n (home v) i < n
    near = dist-lt n (home v) (hb v) i i_n

    smaller : look n home t v (dist n (home v) i) < v
    smaller = rw here less

    put-paths : Paths n home u
    put-paths = rw here at (replace-paths n home hb t size w v (dist n (home v) i) near o.ahead smaller)

    -- the key pushed out is carried on
    pushed : get_or t i 0 ≢ 0 → On n home u (get_or t i 0) (next n i)
    pushed nz = on-round n home hb u (get_or t i 0) i i_n
        (rw here at (replaced n home hb t size w v (dist n (home v) i) near o.ahead smaller (get_or t i 0) nz (ap (λ (c : ℕ). get_or t c 0) here))) nz

-- ---- the table u that t is once v has been carried to its place
pub record Carried (n : ℕ) (home : ℕ → ℕ) (t : List ℕ) (v : ℕ) (u : List ℕ) : Type 0 where
  pub sized : length u ≡ n
  pub paths : Paths n home u
  pub keys : (y : ℕ) → y ≢ 0 → Holds n u y ↔ ((y ≡ v) ⊎ Holds n t y)

module _ (n : ℕ) (home : ℕ → ℕ) (hb : (x : ℕ) → home x < n) where
  -- e is an empty cell that lies less than f cells ahead
  pub carries : (f i v e : ℕ) (t : List ℕ) → length t ≡ n → Paths n home t → On n home t v i → e < n → get_or t e 0 ≡ 0 → dist n i e < f
      → Carried n home t v (carry n t f i v)
  carries zero i v e t size w o en z l = absurd (omega arith)
  carries (suc f) i v e t size w o en z l = by-carry (Carried n home t v) n t f i v
      (λ less free. record {
        sized = put-size n t size v i i_n;
        paths = put-paths n t size v i i_n home hb w o less;
        keys = λ y nz. (
          put-keys n t size v i i_n y,
          ⊎_elim (λ (g : y ≡ v). rw g (put-new n t size v i i_n))
              (λ h. ⊎_elim (λ (g : y ≡ get_or t i 0). absurd (nz (g ∙ free))) (λ g. g) (put-old n t size v i i_n y h)),
        );
      })
      (λ less full.
      let apart : i ≢ e = λ g. full (ap (λ (j : ℕ). get_or t j 0) g ∙ z) in
      let r = carries f (next n i) (get_or t i 0) e (set t i v) (put-size n t size v i i_n) (put-paths n t size v i i_n home hb w o less)
      (pushed n t size v i i_n home hb w o less full) en (old n t size v i i_n e (λ g. apart (sym g)) ∙ z) (omega (arith, nearer n i e i_n en apart)) in
      record {
        sized = r.sized;
        paths = r.paths;
        keys = λ y nz. (
          λ h. ⊎_elim (λ (g : y ≡ get_or t i 0). inr (record { cell = i; inside = i_n; is = sym g })) (put-keys n t size v i i_n y) ((r.keys y nz).0 h),
          λ h. (r.keys y nz).1 (⊎_elim (λ (g : y ≡ v). inr (rw g (put-new n t size v i i_n))) (put-old n t size v i i_n y) h),
        );
      })
      (λ is. record {
        sized = size;
        paths = w;
        keys = λ y nz. (inr, ⊎_elim (λ (g : y ≡ v). record { cell = i; inside = i_n; is = is ∙ sym g }) (λ h. h));
      })
      (λ less.
      let apart : i ≢ e = λ g. absurd (omega (arith, ap (λ (j : ℕ). get_or t j 0) g)) in
      carries f (next n i) v e t size w (on-round n home hb t v i i_n (passed n home hb t v i o less) o.key) en z (omega (arith, nearer n i e i_n en apart)))
    where
      i_n : i < n
      i_n = o.inside

-- ---- which cells change, and where the keys go, by steps from a cell h: v is carried from k steps on, and e steps on is the first empty cell
pub record Shifted (n h : ℕ) (t : List ℕ) (k e v : ℕ) (u : List ℕ) : Type 0 where
  pub before : (d : ℕ) → d < k → get_or u (probe n h d) 0 ≡ get_or t (probe n h d) 0
  pub behind : (d : ℕ) → e < d → d < n → get_or u (probe n h d) 0 ≡ get_or t (probe n h d) 0
  -- v comes to stand in one of these cells
  pub lands : (d : ℕ) × (k ≤ d) × (d ≤ e) × (get_or u (probe n h d) 0 ≡ v)
  -- a key of one of these cells stands there still, or further on
  pub moves : (y d : ℕ) → y ≢ 0 → k ≤ d → d ≤ e → get_or t (probe n h d) 0 ≡ y → (c : ℕ) × (d ≤ c) × (c ≤ e) × (get_or u (probe n h c) 0 ≡ y)

module _ (n h : ℕ) (hn : h < n) where
  pub shifts : (f k v e : ℕ) (t : List ℕ) → length t ≡ n → k ≤ e → e < n → e < k + f → get_or t (probe n h e) 0 ≡ 0
      → ((d : ℕ) → k ≤ d → d < e → get_or t (probe n h d) 0 ≢ 0) → Shifted n h t k e v (carry n t f (probe n h k) v)
  shifts zero k v e t size ke en l z full = absurd (omega arith)
  shifts (suc f) k v e t size ke en l z full = by-carry (Shifted n h t k e v) n t f (probe n h k) v
      (λ less free. record {
        before = λ d b. other d (omega arith) (omega arith);
        behind = λ d b dn. other d dn (omega arith);
        lands = (k, omega arith, ke, here);
        moves = λ y d nz a b is. by-lt k e (λ g. absurd (full k (omega arith) g free))
            (λ g. let w : d ≡ k = omega arith in absurd (nz (sym is ∙ ap (λ (j : ℕ). get_or t (probe n h j) 0) w ∙ free)));
      })
      (λ less nz.
      let c : ℕ = get_or t (probe n h k) 0 in
      let r : Shifted n h (set t (probe n h k) v) (suc k) e c (carry n (set t (probe n h k) v) f (next n (probe n h k)) c) = rw (← step nz)
      (shifts f (suc k) c e (set t (probe n h k) v) (length-set t (probe n h k) v ∙ size) (short nz) en (omega arith) (other e en (omega (arith, short nz)) ∙ z)
      (λ d a b q. full d (omega arith) b (sym (other d (omega arith) (omega arith)) ∙ q))) in
      record {
        before = λ d b. r.before d (omega arith) ∙ other d (omega arith) (omega arith);
        behind = λ d b dn. r.behind d b dn ∙ other d dn (omega arith);
        lands = (k, omega arith, ke, r.before k (omega arith) ∙ here);
        moves = λ y d yz a b is. by-eq d k
            (λ g. let m = r.lands in (m.0, omega arith, m.2, m.3 ∙ ap (λ (j : ℕ). get_or t (probe n h j) 0) (sym g) ∙ is))
            (λ g. r.moves y d yz (omega arith) b (other d (omega arith) g ∙ is));
      })
      (λ is. record {
        before = λ d b. refl;
        behind = λ d b dn. refl;
        lands = (k, omega arith, ke, is);
        moves = λ y d yz a b w. (d, omega arith, b, w);
      })
      (λ less.
      let nz : get_or t (probe n h k) 0 ≢ 0 = omega arith in
      let r : Shifted n h t (suc k) e v (carry n t f (next n (probe n h k)) v) = rw (← step nz)
      (shifts f (suc k) v e t size (short nz) en (omega arith) z (λ d a b. full d (omega arith) b)) in
      record {
        before = λ d b. r.before d (omega arith);
        behind = r.behind;
        lands = let m = r.lands in (m.0, omega arith, m.2, m.3);
        moves = λ y d yz a b is. by-eq d k
            (λ g. (k, omega arith, ke, r.before k (omega arith) ∙ ap (λ (j : ℕ). get_or t (probe n h j) 0) (sym g) ∙ is))
            (λ g. r.moves y d yz (omega arith) b is);
      })
    where
      other : (d : ℕ) → d < n → d ≢ k → get_or (set t (probe n h k) v) (probe n h d) 0 ≡ get_or t (probe n h d) 0
      other d dn ne = get_or-set_other t (probe n h k) (probe n h d) v 0 (λ e. ne (probe-inj n h hn d k dn (omega arith) e))

      here : get_or (set t (probe n h k) v) (probe n h k) 0 ≡ v
      here = get_or-set_same t (probe n h k) v 0 (omega (arith, probe-lt n h hn k (omega arith)))

      short : get_or t (probe n h k) 0 ≢ 0 → suc k ≤ e
      short nz = by-lt k e (λ g. g) (λ g. let w : k ≡ e = omega arith in absurd (nz (rw w z)))

      step : get_or t (probe n h k) 0 ≢ 0 → probe n h (suc k) ≡ next n (probe n h k)
      step nz = probe-suc n h hn k (omega (arith, short nz))
