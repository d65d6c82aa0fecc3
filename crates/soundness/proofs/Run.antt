-- What specs/Run promises. The links make a chain back from the cell that the pass has come to. A read takes one cell off it for good, each cell puts one on,
-- and fewer than n are there at the start.
use mathlib.Core.Path.{◌≡◌, refl, ap, ◌∙◌, subst}
use mathlib.Core.Logic.{◌≢◌}
use mathlib.Core.List.{List}
use Prim.Native.Nat.{ℕ, zero, suc, ◌+◌, ◌*◌, ◌≤◌, ◌<◌}
use native.Mathlib.Nat.{suc-add}
use native.Mathlib.Omega.{arith}
use lib.ListN.{length, get_or, set, replicate, length-set, length-replicate, get_or-replicate}
use lib.Seq.{get_or-set_same, get_or-set_other}
use Rattle.ring.specs.Ring.{dist}
use Rattle.ring.proofs.Ring.{dist-fact, dist-lt}
use Rattle.ring.proofs.Split.{by-lt, by-eq}
use Rattle.flaws.specs.Flaws.{displacement}
use Rattle.soundness.specs.Run.{Walk, Run, LinearPromise}

-- the chain back from cell j, from behind s cells all the way round, has at most e cells
data Chain (n : ℕ) (links : List ℕ) (j : ℕ) : ℕ → ℕ → Type 0 where
  done : {s e : ℕ} → n ≤ suc s → Chain n links j s e
  hop : {s e : ℕ} → suc s < n → Chain n links j (suc s + get_or links (dist n (suc s) j) 0) e → Chain n links j s (suc e)

-- not more than there are to go
chain : (n : ℕ) (links : List ℕ) (j e s : ℕ) → n ≤ suc s + e → Chain n links j s e
chain n links j zero s l = done {s = s} (omega arith)
chain n links j (suc e) s l = by-lt (suc s) n (λ h. hop h (chain n links j e (suc s + get_or links (dist n (suc s) j) 0) (omega arith))) done

-- ---- a search back takes one cell off for each read
record Rest (n : ℕ) (links : List ℕ) (j s d e : ℕ) : Type 0 where
  size : ℕ
  chain : Chain n links j s size
  sum : d + size ≡ e

module _ {n : ℕ} {t links : List ℕ} {j path : ℕ} (inside : path < n) where
  walked : {s d e : ℕ} → Walk n t links j path s d → Chain n links j 0 e → Rest n links j s d e
  walked {e = e} Walk.start c = record { size = e; chain = c; sum = omega arith }
  walked {e = e} (Walk.on {s} {d} l g w) c = let k = walked w c in off k.size k.chain k.sum
    where
      off : (m : ℕ) → Chain n links j s m → d + m ≡ e → Rest n links j (suc s + get_or links (dist n (suc s) j) 0) (suc d) e
      off m (done h) q = absurd (omega arith)
      off m (hop {e = f} h c) q = record { size = f; chain = c; sum = omega arith }

-- ---- after r reads the pass has come to cell j
record Bounded (n j : ℕ) (links : List ℕ) (r : ℕ) : Type 0 where
  inside : j ≤ n
  room : n ≤ length links
  unset : (i : ℕ) → j ≤ i → i < n → get_or links i 0 ≡ 0
  reads : r ≤ n + j
  ahead : j < n → (e : ℕ) × Chain n links j 0 e × (r + e ≤ n + j)

-- the next cell: the links but that of j are the same
module _ {n j : ℕ} (links links' : List ℕ) (same : (i : ℕ) → i ≢ j → get_or links' i 0 ≡ get_or links i 0) where
  module _ (jn : suc j < n) where
    link-same : (s : ℕ) → suc (suc s) < n → get_or links' (dist n (suc (suc s)) (suc j)) 0 ≡ get_or links (dist n (suc s) j) 0
    link-same s l =
        let at = dist-fact n (suc s) j (omega arith) (omega arith) in
        ap (λ i. get_or links' i 0) (omega (arith, at, dist-fact n (suc (suc s)) (suc j) l jn)) ∙ same (dist n (suc s) j) (λ e. omega (arith, at))

    shifted : {s e : ℕ} → Chain n links j s e → Chain n links' (suc j) (suc s) e
    shifted (done {s} h) = done {s = suc s} (omega arith)
    shifted (hop {s} h c) = by-lt (suc (suc s)) n (λ l. hop l (rw (link-same s l, suc-add (suc s) (get_or links (dist n (suc s) j) 0)) (shifted c))) done

    -- the chain goes on from j by its link
    longer : {s e : ℕ} → get_or links' j 0 ≡ s → Chain n links j s e → Chain n links' (suc j) 0 (suc e)
    longer {s} {e} is c =
        let own : dist n 1 (suc j) ≡ j = omega (arith, dist-fact n 1 (suc j) (omega arith) jn) in
        let sum : 1 + s ≡ suc s = omega arith in
        hop {s = 0} {e = e} (omega arith) (rw (own, is, sum) (shifted c))

  step : {r r' s e : ℕ} → Bounded n j links r → j < n → n ≤ length links' → get_or links' j 0 ≡ s → Chain n links j s e → r' + e ≤ n + j → Bounded n (suc j) links' r'
  step {e = e} b jn room is c l =
      record {
        inside = jn;
        room = room;
        unset = λ i h q. same i (omega arith) ∙ b.unset i (omega arith) q;
        reads = omega arith;
        ahead = λ q. (suc e, longer q is c, omega arith);
      }

module _ (n : ℕ) (home : ℕ → ℕ) (t : List ℕ) (hb : 0 < n → (x : ℕ) → home x < n) where
  path-in : (j : ℕ) → j < n → displacement n home t j < n
  path-in j jn = dist-lt n (home (get_or t j 0)) (hb (omega arith) (get_or t j 0)) j jn

  bounded : {j r : ℕ} {links : List ℕ} → Run n home t j links r → Bounded n j links r
  bounded (Run.start {m} l) =
      record {
        inside = omega arith;
        room = omega (arith, length-replicate {A = ℕ} m 0);
        unset = λ i _ h. get_or-replicate m i 0 0 (omega arith);
        reads = omega arith;
        ahead = λ _. (n, chain n (replicate m 0) 0 n 0 (omega arith), omega arith);
      }
  bounded (Run.empty {j} {links = links} jn z run) =
      let b = bounded run in
      let c = b.ahead jn in
      step links links (λ _ _. refl) b jn b.room (b.unset j (omega arith) jn) c.1 c.2
  bounded (Run.kept {j} {s = s} {links = links} jn walk q run) =
      let b = bounded run in
      let c = b.ahead jn in
      let k = walked (path-in j jn) walk c.1 in
      step links (set links j s) (λ i e. get_or-set_other links j i s 0 e) b jn (simp length-set b.room) (get_or-set_same links j s 0 (omega (arith, b.room))) k.chain
      (omega (arith, c.2, k.sum))

  run-bound : {j r : ℕ} {links : List ℕ} → Run n home t j links r → r ≤ 2 * n
  run-bound run = let b = bounded run in omega (arith, b.reads, b.inside)

  -- the cell that stops a search is on the chain
  stop-bound : {j r s d : ℕ} {links : List ℕ} → Run n home t j links r → j < n
      → Walk n t links j (displacement n home t j) s d → s < displacement n home t j → r + suc d ≤ 2 * n
  stop-bound {j} {r} {s} {d} {links} run jn walk l =
      let c = (bounded run).ahead jn in
      let k = walked (path-in j jn) walk c.1 in
      by k.size k.chain (omega (arith, c.2, k.sum))
    where
      by : (m : ℕ) → Chain n links j s m → r + (d + m) ≤ n + j → r + suc d ≤ 2 * n
      by m (done h) q = absurd (omega (arith, path-in j jn))
      by m (hop h c) q = omega arith

-- ---- what is counted
each_read : {n : ℕ} {t links : List ℕ} {j path s d : ℕ} → ((i : ℕ) → get_or links i 0 ≡ 0) → Walk n t links j path s d → d ≡ s
each_read z Walk.start = refl
each_read {n = n} {j = j} z (Walk.on {s} {d} l g w) = omega (arith, each_read z w, z (dist n (suc s) j))

walk-read : {n : ℕ} {t links : List ℕ} {j path s d : ℕ} → Walk n t links j path s d → 0 < s → 0 < d
walk-read Walk.start l = absurd (omega arith)
walk-read (Walk.on h g w) l = omega arith

run-read : {n : ℕ} {home : ℕ → ℕ} {t : List ℕ} {j r : ℕ} {links : List ℕ} → Run n home t j links r → (i : ℕ) → i < j → get_or t i 0 ≢ 0
    → 0 < displacement n home t i → 0 < r
run-read (Run.start l) i h key away = absurd (omega arith)
run-read {t = t} (Run.empty {j} l z run) i h key away = by-eq i j (λ e. absurd (key (ap (λ k. get_or t k 0) e ∙ z))) (λ e. run-read run i (omega arith) key away)
run-read {n = n} {home = home} {t = t} (Run.kept {j} {r} {s} {d} l w q run) i h key away =
    by-eq i j (λ e. here (subst (λ (k : ℕ). 0 < displacement n home t k) e away)) (λ e. there (run-read run i (omega arith) key away))
  where
    here : 0 < displacement n home t j → 0 < r + d
    here a = let read : 0 < d = walk-read w (omega arith) in omega (arith, read)

    there : 0 < r → 0 < r + d
    there a = omega arith

pub theorem : LinearPromise
theorem n home t hb = record { run = run-bound n home t hb; stopped = stop-bound n home t hb; each = each_read; some = run-read }
