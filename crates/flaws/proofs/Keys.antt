-- A key that breaks the order, as a test and as a fact.
use mathlib.Core.Path.{◌≡◌}
use mathlib.Core.Logic.{◌≢◌, ◌↔◌}
use mathlib.Core.Bool.{Bool, true, false}
use mathlib.Core.List.{List}
use Prim.Native.Nat.{ℕ, ◌≤◌, ◌<◌}
use native.Mathlib.Omega.{arith}
use lib.Dec.{leb, ltb, eqb}
use lib.ListN.{get_or}
use borrow.Author.Tests.{le-leb, lt-leb, leb-true, leb-false}
use Rattle.ring.specs.Ring.{probe, dist}
use Rattle.ring.proofs.Ring.{probe-lt, dist-lt, probe-dist, dist-probe}
use Rattle.ring.proofs.Split.{by-lt}
use Rattle.ring.proofs.Tests.{by-test, not_both, second-says, equal-says, less-says}
use Rattle.layout.specs.Sound.{Ordered, OnPath, look}
use Rattle.ring.proofs.Each.{First, first-is, first_of}
use Rattle.flaws.specs.Flaws.{displacement, stops_at, breaks, lowest}
use Rattle.flaws.specs.Promise.{Breaks, FirstOnPath}

module _ (n : ℕ) (home : ℕ → ℕ) (t : List ℕ) where
  module _ (j : ℕ) where
    abbrev x : ℕ
    x = get_or t j 0

    -- the content k steps on from the home is not greater
    abbrev none_greater : ℕ → Bool
    none_greater k = leb (look n home t x k) x

    met : First none_greater (displacement n home t j) (stops_at n home t j)
    met = first-is none_greater (displacement n home t j)

    breaks-says : breaks n home t j ≡ true ↔ ((x ≢ 0) × (stops_at n home t j < displacement n home t j))
    breaks-says = second-says (eqb x 0) (ltb (stops_at n home t j) (displacement n home t j)) (equal-says x 0) (less-says (stops_at n home t j) (displacement n home t j))

    pub breaks-fact : j < n → breaks n home t j ≡ true → Breaks n home t j (stops_at n home t j)
    breaks-fact l e =
        let h = breaks-says.0 e in
        record {
          inside = l;
          key = h.0;
          before = h.1;
          greater = λ k kl. leb-false (look n home t x k) x (met.before k kl);
          not_greater = leb-true (look n home t x (stops_at n home t j)) x (met.found h.1);
        }

    module _ {s : ℕ} (b : Breaks n home t j s) where
      pub fact-stops : s ≡ stops_at n home t j
      fact-stops = first_of (record {
        within = omega (arith, b.before);
        before = λ k l. lt-leb (look n home t x k) x (b.greater k l);
        found = λ _. le-leb (look n home t x s) x b.not_greater;
      })

      pub fact-breaks : breaks n home t j ≡ true
      fact-breaks = breaks-says.1 (b.key, omega (arith, b.before, fact-stops))

    -- a key that does not break the order has only greater keys on its path, by steps
    pub kept : breaks n home t j ≡ false → x ≢ 0 → (k : ℕ) → k < displacement n home t j → x < look n home t x k
    kept e nz k l =
        by-lt (stops_at n home t j) (displacement n home t j)
        (λ h. absurd (not_both (breaks n home t j) (breaks-says.1 (nz, h)) e))
        (λ h. leb-false (look n home t x k) x (met.before k (omega arith)))

  -- ---- the lowest-numbered cell whose key breaks the order
  pub lowest-is : First (breaks n home t) n (lowest n home t)
  lowest-is = first-is (breaks n home t) n

  pub lowest-of : (j s : ℕ) → Breaks n home t j s → ((i k : ℕ) → i < j → Breaks n home t i k → ⊥) → j ≡ lowest n home t
  lowest-of j s b low = first_of (record {
    within = omega (arith, b.inside);
    before = λ i l. by-test (breaks n home t i) (λ e. absurd (low i (stops_at n home t i) l (breaks-fact i (omega (arith, b.inside)) e))) (λ e. e);
    found = λ _. fact-breaks j b;
  })

  -- ---- where homes are cells of the table
  module _ (hb : 0 < n → (x : ℕ) → home x < n) where
    module _ {j s : ℕ} (b : Breaks n home t j s) where
      home-in : home (x j) < n
      home-in = hb (omega (arith, b.inside)) (x j)

      short : s < n
      short = omega (arith, b.before, dist-lt n (home (x j)) home-in j b.inside)

      -- the content met is the first on the path that is not greater
      pub met-first : FirstOnPath n home t j (probe n (home (x j)) s)
      met-first =
          let away = dist-probe n (home (x j)) home-in s short in
          record {
            inside = probe-lt n (home (x j)) home-in s short;
            on_path = omega (arith, b.before, away);
            not_greater = b.not_greater;
            greater = λ c cn on. rw (probe-dist n (home (x j)) home-in c cn) at (b.greater (dist n (home (x j)) c) (omega (arith, on, away)));
          }

    -- no cell on the path of a key that keeps the order holds less
    path-greater : (j : ℕ) → j < n → breaks n home t j ≡ false → x j ≢ 0 → (c : ℕ) → c < n → OnPath n home (x j) j c → x j < get_or t c 0
    path-greater j jn e nz c cn on =
        rw (probe-dist n (home (x j)) (hb (omega arith) (x j)) c cn) at (kept j e nz (dist n (home (x j)) c) on)

    pub broken-says : (j : ℕ) → j < n → x j ≢ 0
        → ((s : ℕ) × Breaks n home t j s) ↔ ((c : ℕ) × (c < n) × OnPath n home (x j) j c × (get_or t c 0 ≤ x j))
    broken-says j jn nz = (
      λ (s, b). let f = met-first b in (probe n (home (x j)) s, f.inside, f.on_path, f.not_greater),
      λ (c, cn, on, l). by-test (breaks n home t j)
          (λ e. (stops_at n home t j, breaks-fact j jn e))
          (λ e. absurd (omega (arith, l, path-greater j jn e nz c cn on))),
    )

    -- ---- no key breaks the order exactly if all are ordered
    pub ordered-unbroken : Ordered n home t → (j s : ℕ) → Breaks n home t j s → ⊥
    ordered-unbroken o j s b =
        let f = met-first b in
        omega (arith, b.not_greater, o j (probe n (home (x j)) s) b.inside f.inside b.key f.on_path)

    pub unbroken-ordered : n ≤ lowest n home t → Ordered n home t
    unbroken-ordered h j c jn cn nz on = path-greater j jn (lowest-is.before j (omega arith)) nz c cn on
