-- The walk from a key's home to the first content that is not greater.
use mathlib.Core.Path.{◌≡◌, sym, ap, ◌∙◌}
use mathlib.Core.List.{List}
use Prim.Native.Nat.{ℕ, suc, ◌-◌, ◌≤◌, ◌<◌}
use native.Mathlib.Omega.{arith}
use lib.ListN.{get_or}
use borrow.Author.Tests.{le-leb, lt-leb}
use Rattle.ring.specs.Ring.{probe, dist, next}
use Rattle.ring.proofs.Ring.{dist-fact, dist-lt, dist-inj, probe-dist, dist-probe, probe-suc, next-in}
use Rattle.ring.proofs.Split.{by-eq, by-lt}
use Rattle.layout.specs.Sound.{look}
use Rattle.ring.proofs.Each.{first_of}
use Rattle.flaws.specs.Flaws.{displacement, stops_at}

-- the walk of cell j's key is at cell c, no farther than j, and came past greater keys only
pub record At (n : ℕ) (home : ℕ → ℕ) (t : List ℕ) (j c : ℕ) : Type 0 where
  pub inside : c < n
  pub near : dist n (home (get_or t j 0)) c ≤ displacement n home t j
  pub greater : (k : ℕ) → k < dist n (home (get_or t j 0)) c → get_or t j 0 < look n home t (get_or t j 0) k

module _ (n : ℕ) (home : ℕ → ℕ) (t : List ℕ) (j : ℕ) (jn : j < n) (hn : home (get_or t j 0) < n) where
  abbrev x : ℕ
  x = get_or t j 0

  pub at_home : {c : ℕ} → c ≡ home x → At n home t j c
  at_home {c} e =
      let z : dist n (home x) c ≡ 0 = omega (arith, dist-fact n (home x) (home x) hn hn, ap (dist n (home x)) e) in
      record { inside = omega (arith, hn); near = omega arith; greater = λ k l. absurd (omega arith) }

  module _ {c : ℕ} (a : At n home t j c) where
    -- c holds a greater key, so it is not j, and c' is the next cell
    module _ (h : x < get_or t c 0) {c' : ℕ} (e : c' ≡ next n c) where
      before-own : dist n (home x) c < displacement n home t j
      before-own = by-lt (dist n (home x) c) (displacement n home t j) (λ l. l) (λ l.
          let q : c ≡ j = dist-inj n (home x) hn c j a.inside jn (omega (arith, a.near)) in
          absurd (omega (arith, ap (λ i. get_or t i 0) q)))

      inner : suc (dist n (home x) c) < n
      inner = omega (arith, before-own, dist-lt n (home x) hn j jn)

      next-is : c' ≡ probe n (home x) (suc (dist n (home x) c))
      next-is = e ∙ ap (λ i. next n i) (sym (probe-dist n (home x) hn c a.inside)) ∙ sym (probe-suc n (home x) hn (dist n (home x) c) inner)

      one_on : dist n (home x) c' ≡ suc (dist n (home x) c)
      one_on = ap (dist n (home x)) next-is ∙ dist-probe n (home x) hn (suc (dist n (home x) c)) inner

      pub steps_on : At n home t j c'
      steps_on =
          record {
            inside = rw e (next-in n c a.inside);
            near = omega (arith, before-own, one_on);
            greater = λ k l. by-eq k (dist n (home x) c)
                (λ q. rw (q, probe-dist n (home x) hn c a.inside) h)
                (λ q. a.greater k (omega (arith, one_on)));
          }

      pub nearer : displacement n home t j - dist n (home x) c' < displacement n home t j - dist n (home x) c
      nearer = omega (arith, before-own, one_on)

    pub is-met : get_or t c 0 ≤ x → c ≡ probe n (home x) (stops_at n home t j)
    is-met h =
        let e : dist n (home x) c ≡ stops_at n home t j = first_of (record {
          within = a.near;
          before = λ k l. lt-leb (look n home t x k) x (a.greater k l);
          found = λ _. le-leb (look n home t x (dist n (home x) c)) x (rw (probe-dist n (home x) hn c a.inside) h);
        }) in
        sym (probe-dist n (home x) hn c a.inside) ∙ ap (probe n (home x)) e
