-- Every counted step lowers the potential of a delete phase: so the steps of a list of events are bounded.
-- The spread falls when a reading worker turns back, when a cell is emptied and when an anchor moves; any other replacement leaves it and lowers the charges;
-- all other steps leave it, raise no charge and lower the countdowns.
use mathlib.Core.Path.{◌≡◌, refl, sym, ap, ◌∙◌}
use mathlib.Core.Logic.{◌≢◌}
use mathlib.Core.List.{List, [], ◌∷◌}
use Prim.Native.Nat.{ℕ, ◌+◌, ◌*◌, ◌≤◌, ◌<◌}
use native.Mathlib.Omega.{arith}
use lib.ListN.{length, get_or, set, replicate}
use lib.Seq.{get_or-set_same, get_or-set_other, set-get_or}
use Rattle.ring.specs.Counting.{tally}
use Rattle.ring.specs.Ring.{next, prev}
use Rattle.ring.proofs.Split.{by-eq}
use Rattle.layout.specs.Layout.{In}
use Rattle.layout.specs.Sound.{Sound}
use Rattle.activities.specs.declared.Activity.{Activity}
use Rattle.activities.specs.declared.Activity.TheVariants.{Idle, Reading, Replacing, WalkingBack, SeekingForward, SeekingBack}
use Rattle.rule.specs.declared.Answer.TheVariants.{Finished}
use Rattle.rule.specs.declared.Outcome.{Outcome}
use Rattle.rule.specs.Rule.{goes, ends, narrow, delete_step, rule}
use Rattle.activities.specs.Activities.{busy}
use Rattle.rule.specs.Events.{Run, Event, worker, ordered, run, opened, after}
use Rattle.phases.specs.Promise.{most_steps, most_rest, steps_of}
use Rattle.phases.proofs.Crew.{crew-idle}
use Rattle.phases.proofs.Events.{run-paid}
use Rattle.phases.proofs.Rounds.{steps-ordered}
use Rattle.phases.proofs.Steps.{cell_of, moved}
use Rattle.delete.proofs.Cases.{narrow-by, reading-by, walking-back-by, seeking-forward-by, seeking-back-by, replacing-by}
use Rattle.delete.proofs.Charges.{level, level-pos, level-top, level-step, aim-le, aim_at, aim-skip, by-stale, stale-here, charge, narrow-charge, charge-set, lost-no, lost-yes, countdown, narrow-countdown}
use Rattle.delete.proofs.Depth.{release-depth, replaced-doomed, empties-depth, by-replace}
use Rattle.delete.proofs.Doomed.{doom}
use Rattle.delete.proofs.Ends.{setting}
use Rattle.delete.proofs.Invariant.{On, Candidate, Shape, Invariant}
use Rattle.delete.proofs.Kept.{reads, past-home, not-gap}
use Rattle.delete.proofs.Potential.{price, price-most, potential, doomed-most, potential-rest, countdown-lowers, spread-lowers, charges-lower, potential-most, order-raises}
use Rattle.delete.proofs.Runs.{Fair, order-fair, step-fair, opening-fair}
use Rattle.delete.proofs.Setting.{Setting, plain}
use Rattle.delete.proofs.Steps.{released, turns_back as turns-back-keeps, empties as empties-keeps, replaces as replaces-keeps}

narrow-reads : (n : ℕ) (home : ℕ → ℕ) (v k j x p : ℕ) → 0 ≡ reads (narrow n plain home v k j x p)
narrow-reads n home v k j x p = narrow-by n home (λ b. 0 ≡ reads b) v k j x p (λ _. refl) (λ _. refl)

module _ (f : Setting) where
  open f use {n, W, home, pos, line}

  -- ---- a step of worker w
  module _ (t : List ℕ) (ws : List Activity) (D R : List ℕ) (inv : Invariant f t ws D R) (w : ℕ) (wl : w < W) where
    abbrev Pays : Activity → ℕ → Outcome → Type 0
    Pays a i o = busy a + potential f (set t i o.content) (set ws w o.activity) (released a o.activity R) ≤ potential f t ws R

    abbrev d : ℕ → ℕ
    d = doom f t R

    -- the cell is left as it is
    goes_on : (a b : Activity) (i : ℕ) → get_or ws w Idle ≡ a → reads a ≡ reads b → charge f d t b ≤ charge f d t a → countdown f t b < countdown f t a
        → potential f (set t i (get_or t i 0)) (set ws w b) R < potential f t ws R
    goes_on a b i is = countdown-lowers f t ws D R inv w wl a b is i

    module _ (u i : ℕ) (is : get_or ws w Idle ≡ Reading u i) (o : On f u i) where
      reads_on : u < get_or t i 0 → Pays (Reading u i) i (goes (Reading u (next n i)) (get_or t i 0))
      reads_on l =
          let further = line.after i o.inside (not-gap f t ws D R inv i (omega arith)) in
          omega (arith, goes_on (Reading u i) (Reading u (next n i)) i is refl (omega arith) (omega (arith, line.low i o.inside)))

      -- one reader less; at most one more cell is doomed
      turns_back : In u D → get_or t i 0 ≤ u → Pays (Reading u i) i (goes (WalkingBack u i) (get_or t i 0))
      turns_back ordered l =
          omega (
            arith,
            spread-lowers f t ws D R inv w wl (Reading u i) (WalkingBack u i) is i (get_or t i 0) (omega (arith, line.low i o.inside)) (u ∷ R)
                (turns-back-keeps f t ws D R inv w wl u i is o ordered l) (rw (set-get_or t i 0) (omega (arith, release-depth f t ws D R inv u o.key))),
          )

    module _ (u k : ℕ) (is : get_or ws w Idle ≡ WalkingBack u k) (o : On f u k) where
      starts-seeking : get_or t k 0 ≡ u → Pays (WalkingBack u k) k (goes (SeekingForward u k (next n k)) (get_or t k 0))
      starts-seeking z = omega (arith, goes_on (WalkingBack u k) (SeekingForward u k (next n k)) k is refl (omega arith) (omega (arith, lost-no f t u k z)))

      finishes : Pays (WalkingBack u k) k (ends Finished (get_or t k 0))
      finishes = omega (arith, goes_on (WalkingBack u k) Idle k is refl (omega arith) (omega arith))

      steps_back : (get_or t k 0 ≡ u → ⊥) → (k ≡ home u → ⊥) → Pays (WalkingBack u k) k (goes (WalkingBack u (prev n k)) (get_or t k 0))
      steps_back ne nh =
          let far : pos (home u) < pos k = past-home f u k o nh in
          let less = line.before k o.inside (omega arith) in
          omega (
            arith,
            goes_on (WalkingBack u k) (WalkingBack u (prev n k)) k is refl (omega (
              arith,
              aim-skip f d u (pos k) (pos (prev n k)) t (λ c cn y q. by-eq (pos c) (pos k)
                  (λ g. absurd (ne (ap (λ (m : ℕ). get_or t m 0) (sym (line.same c k cn o.inside g)) ∙ y))) (λ g. omega arith)),
            )) (omega arith),
          )

    module _ (u k : ℕ) where
      finds : (j : ℕ) → get_or ws w Idle ≡ SeekingForward u k j → j < n → pos k < pos j
          → Pays (SeekingForward u k j) j (goes (narrow n plain home u k j (get_or t j 0) (prev n j)) (get_or t j 0))
      finds j is jn l =
          let less = line.before j jn (omega arith) in
          omega (
            arith,
            goes_on (SeekingForward u k j) (narrow n plain home u k j (get_or t j 0) (prev n j)) j is (narrow-reads n home u k j (get_or t j 0) (prev n j))
                (omega (arith, narrow-charge f d t u k j (get_or t j 0) (prev n j), stale-here f d t k j))
                (omega (arith, narrow-countdown f t u k j (get_or t j 0) (prev n j), line.low j jn)),
          )

      seeks-on : (j : ℕ) → get_or ws w Idle ≡ SeekingForward u k j → j < n → get_or t j 0 ≢ 0
          → Pays (SeekingForward u k j) j (goes (SeekingForward u k (next n j)) (get_or t j 0))
      seeks-on j is jn nz =
          let further = line.after j jn (not-gap f t ws D R inv j nz) in
          omega (arith, goes_on (SeekingForward u k j) (SeekingForward u k (next n j)) j is refl (omega arith) (omega (arith, line.low j jn)))

      module _ (j x p : ℕ) (is : get_or ws w Idle ≡ SeekingBack p u k j x) (pn : p < n) (l : pos k < pos p) where
        finds-nearer : Pays (SeekingBack p u k j x) p (goes (narrow n plain home u k p (get_or t p 0) (prev n p)) (get_or t p 0))
        finds-nearer =
            let less = line.before p pn (omega arith) in
            omega (
              arith,
              goes_on (SeekingBack p u k j x) (narrow n plain home u k p (get_or t p 0) (prev n p)) p is (narrow-reads n home u k p (get_or t p 0) (prev n p))
                  (omega (arith, narrow-charge f d t u k p (get_or t p 0) (prev n p), stale-here f d t k p))
                  (omega (arith, narrow-countdown f t u k p (get_or t p 0) (prev n p))),
            )

        passes_over : Pays (SeekingBack p u k j x) p (goes (narrow n plain home u k j x (prev n p)) (get_or t p 0))
        passes_over =
            let less = line.before p pn (omega arith) in
            omega (
              arith,
              goes_on (SeekingBack p u k j x) (narrow n plain home u k j x (prev n p)) p is (narrow-reads n home u k j x (prev n p))
                  (omega (arith, narrow-charge f d t u k j x (prev n p))) (omega (arith, narrow-countdown f t u k j x (prev n p))),
            )

    module _ (u k j x : ℕ) (is : get_or ws w Idle ≡ Replacing u k j x) (o : On f u k) (c : Candidate f t R k j x k) where
      empties : get_or t k 0 ≡ u → x ≡ 0 → Pays (Replacing u k j x) k (ends Finished x)
      empties held z =
          omega (
            arith,
            spread-lowers f t ws D R inv w wl (Replacing u k j x) Idle is k x (omega arith) R
                (empties-keeps f t ws D R inv w wl u k j x is o c held z) (omega (arith, empties-depth f t ws D R inv w wl u k j x is o c held z)),
          )

      module _ (held : get_or t k 0 ≡ u) (nz : x ≢ 0) where
        abbrev v : List ℕ
        v = set t k x

        abbrev P : ℕ
        P = level f d (pos k)

        -- if the candidate is still there, the worker goes on to a greater position; if not, it drops what a stale candidate weighs
        winner : (get_or t j 0 ≡ x → d j ≡ 1) → charge f d v (WalkingBack x j) + W * P < charge f d t (Replacing u k j x) + P
        winner seen =
            let most : tally d n ≤ W = doomed-most f t ws D R inv in
            let low = aim-le f d u (pos k) t in
            let high = aim-le f d x (pos j) v in
            let top = level-top f d (pos j) most in
            let here = aim_at f d x (pos j) v k o.inside (get_or-set_same t k x 0 (omega (arith, inv.sized, o.inside))) (omega (arith, c.high)) in
            let some = level-pos f d (pos k) in
            by-stale f d t k j x
            (λ z _. absurd (nz z))
            (λ z s. omega (
              arith,
              aim_at f d x (pos j) v j c.inside (get_or-set_other t k j x 0 (λ y. omega (arith, c.high, ap pos y)) ∙ z) (omega arith),
              level-step f d (pos k) j c.inside (seen z) c.high,
            ))
            (λ _ _ s. omega arith)

        replaces : Pays (Replacing u k j x) k (goes (WalkingBack x j) x)
        replaces =
            let short : countdown f v (WalkingBack x j) ≤ 5 * n + 2 = omega (arith, line.low j c.inside) in
            let one : d k ≡ 1 = replaced-doomed f t ws D R inv w wl u k j x is o c held in
            by-replace f t ws D R inv w wl u k j x is o c held nz
            (λ l. omega (
              arith,
              spread-lowers f t ws D R inv w wl (Replacing u k j x) (WalkingBack x j) is k x short R
                  (replaces-keeps f t ws D R inv w wl u k j x is o c held nz) (omega arith),
            ))
            (λ same seen. omega (
              arith,
              charges-lower f t ws D R inv w wl (Replacing u k j x) (WalkingBack x j) is k x short P same refl
                  (λ i. charge-set f d t k x o.inside one D R (get_or ws i Idle) (inv.shape i)) (winner seen),
            ))

      fails : (get_or t k 0 ≡ u → ⊥) → Pays (Replacing u k j x) k (goes (WalkingBack u k) (get_or t k 0))
      fails ne = omega (arith, goes_on (Replacing u k j x) (WalkingBack u k) k is refl (omega arith) (omega (arith, lost-yes f t u k ne, line.low k o.inside)))

    step_case : (a : Activity) → get_or ws w Idle ≡ a → Shape f t D R a → Pays a (cell_of a) (rule 2 n plain home a (get_or t (cell_of a) 0))
    unfolding rule delete_step
    step_case Idle is s =
        rw (set-get_or t 0 0) (omega (arith, ap (λ (v : List Activity). potential f t v R) (ap (set ws w) (sym is) ∙ set-get_or ws w Idle)))
    step_case (Reading u i) is (o, m) = reading-by n home (Pays (Reading u i) i) u i (get_or t i 0) (reads_on u i is o) (turns_back u i is o m)
    step_case (WalkingBack u k) is o =
        walking-back-by n home (Pays (WalkingBack u k) k) u k (get_or t k 0) (starts-seeking u k is o) (λ _ _. finishes u k is o) (steps_back u k is o)
    step_case (SeekingForward u k j) is (o, jn, l) =
        seeking-forward-by n home (Pays (SeekingForward u k j) j) u k j (get_or t j 0)
        (λ _. finds u k j is jn l) (λ _. finds u k j is jn l) (seeks-on u k j is jn)
    step_case (SeekingBack p u k j x) is (o, l, c) =
        seeking-back-by n home (Pays (SeekingBack p u k j x) p) u k j x p (get_or t p 0)
        (λ _. finds-nearer u k j x p is c.searched l) (λ _. finds-nearer u k j x p is c.searched l)
        (λ _ _. passes_over u k j x p is c.searched l)
    step_case (Replacing u k j x) is (o, c) =
        replacing-by n home (Pays (Replacing u k j x) k) u k j x (get_or t k 0) (empties u k j x is o c) (replaces u k j x is o c) (fails u k j x is o c)

  -- ---- an event
  abbrev height : (s : Run) → Fair f s → ℕ
  height s h = potential f s.table s.workers h.0

  order-pays : (s : Run) (w v : ℕ) (h : Fair f s) (wl : w < length s.workers) (is : worker s w ≡ Idle) (l : 0 < v)
      → height (ordered 2 n plain home s w v) (order-fair f s w v h wl is l) ≤ height s h + price n W
  unfolding ordered order-fair
  order-pays s w v (R, inv) wl is l =
      order-raises f s.table s.workers s.ordered R inv w (omega (arith, inv.crew)) Idle (Reading v (home v)) is refl refl refl refl (omega arith)

  step-pays : (s : Run) (w : ℕ) (h : Fair f s) (wl : w < length s.workers)
      → busy (worker s w) + height (moved 2 n plain home s w) (step-fair f s w h wl) ≤ height s h
  unfolding moved step-fair
  step-pays s w (R, inv) wl = step_case s.table s.workers s.ordered R inv w (omega (arith, inv.crew)) (worker s w) refl (inv.shape w)

  -- ---- a list of events, and a list of steps alone
  steps-paid : (es : List Event) (s : Run) (h : Fair f s)
      → (run 2 n plain home es s).counted + length s.ordered * price n W ≤ s.counted + height s h + length (run 2 n plain home es s).ordered * price n W
  steps-paid es s h = run-paid 2 n plain home (Fair f) (λ _. Unit {0}) height (price n W) (λ _ _ _ z. z)
      (λ r w v g l is nz. (order-fair f r w v g l is nz, order-pays r w v g l is nz)) (λ r w g l. (step-fair f r w g l, λ _. step-pays r w g l))
      s h es tt

  pub steps-settle : (ws : List ℕ) (s : Run) → Fair f s → (run 2 n plain home (steps_of ws) s).counted ≤ s.counted + most_rest n W
  steps-settle ws s (R, inv) =
      omega (
        arith,
        steps-paid (steps_of ws) s (R, inv),
        ap (λ (l : List ℕ). length l * price n W) (steps-ordered 2 n plain home ws s),
        potential-most f s.table s.workers s.ordered R inv,
        price-most n W (2 * W + 1),
      )

-- ---- from the opening on: n cells, W workers, and as many accepted operations as keys were ordered
pub steps-bounded : (n W : ℕ) (home : ℕ → ℕ) → ((x : ℕ) → home x < n) → (t : List ℕ) → Sound n home t → (es : List Event)
    → (after 2 n W plain home t es).counted < most_steps n W (length (after 2 n W plain home t es).ordered)
steps-bounded n W home hb t sound es =
    let f = setting n W home hb t sound in
    let h = opening-fair n W home hb t sound in
    let p = steps-paid f es (opened W t) h in
    let z = potential-rest f t (replicate W Idle) [] h.0 h.1 (crew-idle W) in
    omega (arith, price-most n W (length (after 2 n W plain home t es).ordered))
