-- A key breaks the order exactly if the search back from its cell was stopped on its path.
use mathlib.Core.Path.{◌≡◌, sym, ap, ◌∙◌}
use mathlib.Core.Logic.{◌≢◌}
use mathlib.Core.Bool.{true, false}
use mathlib.Core.List.{List}
use Prim.Native.Nat.{ℕ, suc, ◌+◌, ◌-◌, ◌≤◌, ◌<◌}
use native.Mathlib.Omega.{arith}
use lib.Dec.{leb}
use lib.ListN.{get_or}
use borrow.Author.Tests.{eq-eqb, ne_eqb, le-leb, lt-ltb}
use Rattle.ring.specs.Ring.{probe, dist}
use Rattle.ring.proofs.Ring.{probe-fact, dist-fact, dist-lt}
use Rattle.ring.proofs.Tests.{by-test}
use Rattle.layout.specs.Sound.{look}
use Rattle.ring.proofs.Each.{first-low}
use Rattle.flaws.specs.Flaws.{displacement, stops_at, breaks}
use Rattle.flaws.proofs.Keys.{breaks-fact}
use Rattle.soundness.specs.Links.{Searched}

module _ (n : ℕ) (home : ℕ → ℕ) (t : List ℕ) (j : ℕ) where
  abbrev x : ℕ
  x = get_or t j 0

  -- the path's length by the code's numbers
  pub path-is : {key h path : ℕ} → key ≡ x → h ≡ home key → path ≡ dist n h j → path ≡ displacement n home t j
  path-is k h p = p ∙ ap (λ c. dist n c j) (h ∙ ap home k)

  -- which is 0 where that is its home
  pub no-path : {key h : ℕ} → j < n → key ≡ x → h ≡ home key → h ≡ j → 0 ≡ displacement n home t j
  no-path jn k h e =
      let at : home x ≡ j = sym (ap home k) ∙ sym h ∙ e in
      sym (ap (λ c. dist n c j) at ∙ omega (arith, dist-fact n j j jn jn))

  pub empty-keeps : x ≡ 0 → false ≡ breaks n home t j
  empty-keeps e = rw (eq-eqb x 0 e)

  module _ (jn : j < n) (hn : home x < n) where
    path-in : displacement n home t j < n
    path-in = dist-lt n (home x) hn j jn

    -- the cell k steps on from the home is s + 1 steps before j
    same-cell : (k s : ℕ) → k + suc s ≡ displacement n home t j → probe n (home x) k ≡ dist n (suc s) j
    same-cell k s e =
        let p : suc s < n = omega (arith, path-in) in
        let q : k < n = omega (arith, path-in) in
        omega (arith, dist-fact n (home x) j hn jn, probe-fact n (home x) k hn q, dist-fact n (suc s) j p jn)

    same_key : (k s : ℕ) → k + suc s ≡ displacement n home t j → look n home t x k ≡ get_or t (dist n (suc s) j) 0
    same_key k s e = ap (λ c. get_or t c 0) (same-cell k s e)

    module _ {links : List ℕ} {path s : ℕ} (is : path ≡ displacement n home t j) (r : Searched n t links j path s) where
      pub past-keeps : path ≤ s → false ≡ breaks n home t j
      past-keeps l = by-test (breaks n home t j)
          (λ e.
          let b = breaks-fact n home t j jn e in
          let u : ℕ = path - suc (stops_at n home t j) in
          let w : stops_at n home t j + suc u ≡ displacement n home t j = omega (arith, b.before, is) in
          absurd (omega (arith, b.not_greater, r.walked.before.greater u (omega (arith, b.before, is)), same_key (stops_at n home t j) u w)))
          sym

      pub stop-breaks : x ≢ 0 → s < path → true ≡ breaks n home t j
      stop-breaks nz l =
          let k : ℕ = path - suc s in
          let w : look n home t x k ≤ x = omega (arith, r.stopped l, same_key k s (omega (arith, is))) in
          let m = first-low (λ i. leb (look n home t x i) x) (displacement n home t j) k (omega (arith, is)) (le-leb (look n home t x k) x w) in
          rw (ne_eqb x 0 nz, lt-ltb (stops_at n home t j) (displacement n home t j) (omega (arith, is)))
