-- Links: a search back from cell j jumps by them, and the link of j is set to how far it came.
use mathlib.Core.Path.{◌≡◌, sym, ap}
use mathlib.Core.List.{List}
use Prim.Native.Nat.{ℕ, suc, ◌+◌, ◌-◌, ◌≤◌, ◌<◌}
use native.Mathlib.Omega.{arith}
use native.Mathlib.Numerals.{add-one}
use lib.ListN.{get_or, set, replicate, length-set, length-replicate, get_or-replicate}
use lib.Seq.{get_or-set_same, get_or-set_other}
use Rattle.ring.specs.Ring.{dist}
use Rattle.ring.proofs.Ring.{dist-fact, dist-lt}
use Rattle.ring.proofs.Split.{by-lt, by-eq, by-tri}
use Rattle.flaws.specs.Flaws.{displacement}
use Rattle.soundness.specs.Links.{Before, Linked, Walked, Searched}
use Rattle.soundness.specs.Run.{Walk, Run}

none_before : (n : ℕ) (t : List ℕ) (j : ℕ) → 0 < n → Before n t j 0
none_before n t j l = record { inside = l; greater = λ u h. absurd (omega arith) }

-- no link says anything yet
pub unlinked : (n m : ℕ) (home : ℕ → ℕ) (t : List ℕ) → n ≤ m → n ≤ 8192 → Linked n home t 0 (replicate m 0)
unlinked n m home t l b =
    record {
      small = b;
      room = omega (arith, length-replicate {A = ℕ} m 0);
      before = λ i h. rw (get_or-replicate {A = ℕ} m i 0 0 (omega arith)) (none_before n t i (omega arith));
      reads = 0;
      run = Run.start l;
    }

-- ---- the search back from j
pub walk-starts : (n : ℕ) (t links : List ℕ) (j path : ℕ) → 0 < n → Walked n t links j path 0
walk-starts n t links j path l = record { before = none_before n t j l; reads = 0; walk = Walk.start }

-- it has come past s cells; c is the next
module _ {n : ℕ} {home : ℕ → ℕ} {t links : List ℕ} {j : ℕ} (k : Linked n home t j links) (jn : j < n)
    {path s c : ℕ} (pn : path < n) (sp : s < path) (e : c ≡ dist n (s + 1) j) (w : Walked n t links j path s) where
  cell : dist n (suc s) j ≡ c
  cell = sym (rw add-one at e)

  sn : suc s < n
  sn = omega arith

  pub next-in : c < n
  next-in = rw (← cell) (dist-lt n (suc s) sn j jn)

  pub stops_at_lem : get_or t c 0 ≤ get_or t j 0 → Searched n t links j path s
  stops_at_lem h = record { walked = w; stopped = λ _. rw cell h }

  -- u + 1 farther back than c
  farther : (u : ℕ) → suc s + suc u < n → dist n (suc u) c ≡ dist n (suc (s + suc u)) j
  farther u l = omega (arith, cell, dist-fact n (suc s) j sn jn, dist-fact n (suc u) c (omega arith) next-in, dist-fact n (suc (s + suc u)) j (omega arith) jn)

  -- all the way round is j again
  round : (u : ℕ) → suc s + suc u ≡ n → dist n (suc u) c ≡ j
  round u l = omega (arith, cell, dist-fact n (suc s) j sn jn, dist-fact n (suc u) c (omega arith) next-in)

  -- it holds a greater key
  module _ (h : get_or t j 0 < get_or t c 0) where
    abbrev link : ℕ
    link = get_or links c 0

    -- its link does not reach round to j: j would hold more than c
    short : suc s + link < n
    short = by-lt (suc s + link) n (λ l. l) (λ l.
        let u : ℕ = n - suc (suc s) in
        absurd (omega (arith, (k.before c next-in).greater u (omega arith), ap (λ i. get_or t i 0) (round u (omega arith)))))

    reaches : (u : ℕ) → u < suc s + link → get_or t j 0 < get_or t (dist n (suc u) j) 0
    reaches u l = by-tri u s
        (w.before.greater u)
        (λ q. rw (q, cell) h)
        (λ g.
        let v : ℕ = u - suc s in
        let q : s + suc v ≡ u = omega arith in
        omega (arith, h, (k.before c next-in).greater v (omega arith), ap (λ i. get_or t i 0) (farther v (omega (arith, short))), ap (λ i. get_or t (dist n (suc i) j) 0) q))

    pub goes_on : Walked n t links j path (s + 1 + get_or links c 0)
    goes_on =
        let turn : Walk n t links j path (suc s + get_or links (dist n (suc s) j) 0) (suc w.reads) = Walk.on sp (rw cell h) w.walk in
        rw add-one (record { before = record { inside = short; greater = reaches }; reads = suc w.reads; walk = rw cell at turn })

pub comes-past : {n : ℕ} {t links : List ℕ} {j path s : ℕ} → Walked n t links j path s → path ≤ s → Searched n t links j path s
comes-past w l = record { walked = w; stopped = λ h. absurd (omega arith) }

-- ---- the search goes on to the next cell
module _ {n : ℕ} {home : ℕ → ℕ} {t links : List ℕ} {j : ℕ} (k : Linked n home t j links) (jn : j < n) where
  pub link-unset : get_or t j 0 ≡ 0 → Linked n home t (suc j) links
  link-unset z = record { small = k.small; room = k.room; before = k.before; reads = k.reads; run = Run.empty jn z k.run }

  module _ {path s : ℕ} (is : path ≡ displacement n home t j) (l : path ≤ s) (w : Walked n t links j path s) where
    here : get_or (set links j s) j 0 ≡ s
    here = get_or-set_same links j s 0 (omega (arith, k.room))

    pub link_set : Linked n home t (suc j) (set links j s)
    link_set =
        record {
          small = k.small;
          room = simp length-set k.room;
          before = λ i q. by-eq i j (λ e. rw (e, here) w.before) (λ e. rw (get_or-set_other links j i s 0 e) (k.before i q));
          reads = k.reads + w.reads;
          run = Run.kept jn (rw is at w.walk) (rw is at l) k.run;
        }
