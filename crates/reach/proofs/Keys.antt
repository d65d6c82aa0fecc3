-- How far a key reaches, in tables of keys: the layout with it is the table into which it was carried from its home.
use mathlib.Core.Path.{◌≡◌, refl, sym, ap, ◌∙◌}
use mathlib.Core.Logic.{◌≢◌, ◌↔◌, ⊎_map}
use mathlib.Core.List.{List, ◌∷◌}
use Prim.Native.Nat.{ℕ, ◌+◌, ◌-◌, ◌≤◌, ◌<◌}
use native.Mathlib.Omega.{arith}
use lib.Dec.{eqb}
use lib.ListN.{length, get_or}
use borrow.Author.Tests.{eq-eqb, ne_eqb}
use Rattle.ring.specs.Counting.{bit}
use Rattle.ring.specs.Ring.{probe, dist}
use Rattle.ring.proofs.Counting.{tally-le, count-sum}
use Rattle.ring.proofs.Ring.{dist-lt, probe-fact, probe-lt, probe-dist, dist-probe, dist-inj, shift, shift-far}
use Rattle.ring.proofs.Split.{by-lt, by-eq}
use Rattle.layout.specs.Layout.{In, size, first_empty, layout}
use Rattle.layout.specs.Sound.{Holds, Sound}
use Rattle.layout.proofs.Canonical.{Found, empty-found, keys-layout}
use Rattle.layout.proofs.Full.{spare-cell}
use Rattle.layout.proofs.Once.{apart-size, held-others, size-new}
use Rattle.layout.proofs.Path.{on-home}
use Rattle.layout.proofs.Sets.{holds-in, in-holds, subset-size}
use Rattle.layout.proofs.Sound.{once, sound-paths, paths-sound}
use Rattle.reach.specs.Promise.{FirstEmpty, Onward, Reaches}
use Rattle.reach.specs.Reach.{vacant, next_empty, InReach}
use Rattle.reach.proofs.Carrying.{carry, Carried, Shifted, carries, shifts}

-- the cells from h up to which none is empty
pub in_reach : (n h : ℕ) (t : List ℕ) → FirstEmpty n h t (next_empty n h t) → (c : ℕ) → c < n
    → InReach n h t c ↔ ((d : ℕ) → d < n → dist n h d < dist n h c → get_or t d 0 ≢ 0)
in_reach n h t f c cn = (
  λ b d dn l. f.before d dn (omega arith),
  λ none. by-lt (dist n h (next_empty n h t)) (dist n h c) (λ l. absurd (none (next_empty n h t) f.inside l f.empty)) (λ l. l),
)

-- a table that is empty wherever another is has at least as many empty cells
vacant-le : (n : ℕ) (t u : List ℕ) → length t ≡ n → length u ≡ n → ((c : ℕ) → c < n → get_or t c 0 ≡ 0 → get_or u c 0 ≡ 0) → vacant t ≤ vacant u
vacant-le n t u long-t long-u same =
    rw (count-sum (λ c. eqb c 0) t 0, count-sum (λ c. eqb c 0) u 0, long-t, long-u)
    (tally-le (λ i. bit (eqb (get_or t i 0) 0)) (λ i. bit (eqb (get_or u i 0) 0)) n (λ i l. by-eq (get_or t i 0) 0
    (λ z. rw (eq-eqb (get_or t i 0) 0 z, eq-eqb (get_or u i 0) 0 (same i l z)) (omega arith))
    (λ z. rw (ne_eqb (get_or t i 0) 0 z) (omega arith))))

-- keys and empty cells of a sound table are as many as its cells
pub sound-counts : (n : ℕ) (home : ℕ → ℕ) → ((x : ℕ) → home x < n) → (t : List ℕ) → Sound n home t → vacant t + size t ≡ n
sound-counts n home hb t s =
    omega (arith, s.sized, held-others t, apart-size t (λ i j l m. once n home hb t s.ordered i j (omega (arith, s.sized)) (omega (arith, s.sized))))

module _ (n : ℕ) (home : ℕ → ℕ) (hb : (x : ℕ) → home x < n) (t : List ℕ) (s : Sound n home t) (x : ℕ) (nz : x ≢ 0) (new : In x t → ⊥) (few : size (x ∷ t) < n) where
  abbrev h : ℕ
  h = home x

  -- the first empty cell, and how many steps on it is
  abbrev r : ℕ
  r = first_empty n h t

  abbrev e : ℕ
  e = next_empty n h t

  found : Found n h t r
  found = empty-found n h (hb x) t s.gap

  e-in : e < n
  e-in = probe-lt n h (hb x) r found.inside

  e-dist : dist n h e ≡ r
  e-dist = dist-probe n h (hb x) r found.inside

  first : FirstEmpty n h t e
  first = record {
    inside = e-in;
    empty = found.free;
    before = λ c cn l z. found.full (dist n h c) (omega (arith, e-dist)) (rw (probe-dist n h (hb x) c cn) z);
  }

  -- ---- x carried from its home
  abbrev u : List ℕ
  u = carry n t n h x

  carried : Carried n home t x u
  carried = carries n home hb n h x s.gap.cell t s.sized (sound-paths n home hb t s) (on-home n home hb t x nz) s.gap.inside s.gap.is
      (dist-lt n h (hb x) s.gap.cell s.gap.inside)

  shifted : Shifted n h t 0 r x u
  shifted =
      let z : probe n h 0 ≡ h = omega (arith, hb x, probe-fact n h 0 (hb x) (omega (arith, hb x))) in
      rw z at (shifts n h (hb x) n 0 x r t s.sized (omega arith) found.inside (omega (arith, found.inside)) found.free (λ d _. found.full d))

  keys : (y : ℕ) → y ≢ 0 → Holds n u y ↔ In y (x ∷ t)
  keys y yz =
      let k = carried.keys y yz in
      (λ g. ⊎_map (λ z. z) (holds-in n t y yz) (k.0 g), λ i. k.1 (⊎_map (λ z. z) (in-holds n t y s.sized) i))

  sound : Sound n home u
  sound =
      let fewer : size u ≤ size (x ∷ t) = subset-size u (x ∷ t) (λ y yz i. (keys y yz).0 (in-holds n u y carried.sized i)) in
      paths-sound n home hb u carried.sized (spare-cell n home hb u carried.sized carried.paths (omega arith)) carried.paths

  laid : layout n home (x ∷ t) ≡ u
  laid = sym (keys-layout n home hb (x ∷ t) u sound keys)

  -- ---- what changes
  outside : (c : ℕ) → c < n → (InReach n h t c → ⊥) → get_or u c 0 ≡ get_or t c 0
  outside c cn out = rw (probe-dist n h (hb x) c cn) at (shifted.behind (dist n h c) (omega (arith, e-dist)) (dist-lt n h (hb x) c cn))

  -- a place by steps from h, as a cell
  onward : (d y c : ℕ) → d ≤ c → c ≤ r → get_or u (probe n h c) 0 ≡ y → Onward n h t u d y
  onward d y c dc cr is =
      let cn : c < n = omega (arith, found.inside) in
      let at : dist n h (probe n h c) ≡ c = dist-probe n h (hb x) c cn in
      record { cell = probe n h c; inside = probe-lt n h (hb x) c cn; is = is; forward = omega arith; reached = omega (arith, e-dist) }

  inside : (c : ℕ) → c < n → InReach n h t c → get_or t c 0 ≢ 0 → Onward n h t u (dist n h c) (get_or t c 0)
  inside c cn in-it yz =
      let m = shifted.moves (get_or t c 0) (dist n h c) yz (omega arith) (omega (arith, e-dist)) (rw (probe-dist n h (hb x) c cn)) in
      onward (dist n h c) (get_or t c 0) m.0 m.1 m.2 m.3

  stands : Onward n h t u 0 x
  stands = let m = shifted.lands in onward 0 x m.0 (omega arith) m.2 m.3

  -- were the first empty cell still empty, no cell that was empty would have been filled
  filled : get_or u e 0 ≢ 0
  filled z =
      let as-empty : (c : ℕ) → c < n → get_or t c 0 ≡ 0 → get_or u c 0 ≡ 0 = λ c cn free. by-lt (dist n h e) (dist n h c)
      (λ l. outside c cn (λ b. absurd (omega arith)) ∙ free)
      (λ l. let same : c ≡ e = dist-inj n h (hb x) c e cn e-in (by-lt (dist n h c) (dist n h e) (λ b. absurd (first.before c cn b free)) (λ b. omega arith)) in
      ap (λ (i : ℕ). get_or u i 0) same ∙ z) in
      absurd (omega (
        arith,
        sound-counts n home hb t s,
        sound-counts n home hb u sound,
        size-new x t nz new,
        subset-size (x ∷ t) u (λ y yz i. holds-in n u y yz ((keys y yz).1 i)),
        vacant-le n t u s.sized carried.sized as-empty,
      ))

  -- where y has its home behind its cell, by steps from h, its path wraps round, and the empty cell is not on it
  wrapped : (y i : ℕ) → y ≢ 0 → i < n → get_or t i 0 ≡ y → dist n h i < dist n h (home y) → r < dist n h (home y)
  wrapped y i yz i_n is b = by-lt r (dist n h (home y)) (λ g. g) (λ g.
      let ce = shift n h (hb x) (home y) e (hb y) e-in (omega (arith, e-dist)) in
      let ie = shift-far n h (hb x) (home y) i (hb y) i_n b in
      let on : dist n (home y) e < dist n (home y) i = omega (arith, e-dist, found.inside) in
      let more = s.ordered i e i_n e-in (λ z. yz (sym is ∙ z)) (rw is on) in
      absurd (omega (arith, found.free)))

  farther : (i j : ℕ) → i < n → j < n → get_or t i 0 ≢ 0 → get_or t i 0 ≡ get_or u j 0 → dist n (home (get_or t i 0)) i ≤ dist n (home (get_or t i 0)) j
  farther i j i_n jn yz is =
      let y : ℕ = get_or t i 0 in
      let alone : (c : ℕ) → c < n → get_or u c 0 ≡ y → c ≡ j = λ c cn cu. once n home hb u sound.ordered c j cn jn (λ z. yz (sym cu ∙ z)) (cu ∙ is) in
      by-lt r (dist n h i)
      (λ g. let same : i ≡ j = alone i i_n (outside i i_n (λ b. absurd (omega (arith, e-dist)))) in omega (arith, ap (dist n (home y)) same))
      (λ g. let m = inside i i_n (omega (arith, e-dist)) yz in
      let there : dist n h m.cell ≡ dist n h j = ap (dist n h) (alone m.cell m.inside m.is) in
      by-lt (dist n h i) (dist n h (home y))
      (λ b. let w = wrapped y i yz i_n refl b in
      omega (arith, m.forward, m.reached, e-dist, shift-far n h (hb x) (home y) i (hb y) i_n b, shift-far n h (hb x) (home y) j (hb y) jn (omega (arith, m.reached, e-dist))))
      (λ b. omega (arith, m.forward, shift n h (hb x) (home y) i (hb y) i_n b, shift n h (hb x) (home y) j (hb y) jn (omega (arith, m.forward)))))

  pub reaches : Reaches n (λ c. c) home t x (layout n home (x ∷ t))
  reaches = rw laid (record { first = first; reached = in_reach n h t first; outside = outside; inside = inside; stands = stands; filled = filled; farther = farther })
