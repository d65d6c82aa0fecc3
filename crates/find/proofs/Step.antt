-- Every accepted operation and every step keeps the invariant; and every counted step takes its worker one cell nearer to its end.
use mathlib.Core.Path.{◌≡◌, refl, sym, ap, ◌∙◌}
use mathlib.Core.Logic.{◌≢◌}
use mathlib.Core.List.{List, ◌++◌}
use Prim.Native.Nat.{ℕ, ◌+◌, ◌*◌, ◌≤◌, ◌<◌}
use native.Mathlib.Omega.{arith}
use lib.Dec.{eqb}
use lib.ListN.{length, get_or, set, length-set, length-replicate}
use lib.Seq.{set-get_or}
use borrow.Author.Tests.{ne_eqb}
use Rattle.ring.specs.Counting.{bit, over, count}
use Rattle.ring.specs.Ring.{next}
use Rattle.ring.proofs.Counting.{tally-max}
use Rattle.ring.proofs.Ring.{dist-lt}
use Rattle.layout.proofs.Path.{On, home-dist, on-home, next-dist, on-round, passed, found_here}
use Rattle.layout.proofs.Sets.{held_in, in-holds}
use Rattle.layout.proofs.Sound.{sound-paths}
use Rattle.prices.specs.Contents.{price}
use Rattle.prices.specs.Priced.{labels, PricedSound}
use Rattle.prices.proofs.Labels.{in-labels, label_at}
use Rattle.prices.proofs.Theorem.{sized, one-content}
use Rattle.activities.specs.declared.Activity.{Activity}
use Rattle.activities.specs.declared.Activity.TheVariants.{Idle, Reading, Replacing, WalkingBack, SeekingForward, SeekingBack}
use Rattle.rule.specs.declared.Answer.{Answer}
use Rattle.rule.specs.declared.Answer.TheVariants.{WentOn, Price, No}
use Rattle.rule.specs.declared.Answer.TheVariants as answer
use Rattle.rule.specs.declared.Outcome.{Outcome}
use Rattle.rule.specs.Rule.{goes, ends, find_step, rule, start}
use Rattle.rule.specs.Events.{Said, Run, worker, tells, ordered, opened}
use Rattle.phases.specs.Promise.{Right, Rules}
use Rattle.activities.specs.Activities.{busy, entry_of}
use Rattle.phases.proofs.Crew.{crew-idle, set_all, opening-sum, moved_sum}
use Rattle.phases.proofs.Steps.{by-content, cell_of, moved_to, moved}
use Rattle.find.proofs.Invariant.{Shape, weight, Fair, potential}

module _ (key : ℕ → ℕ) where
  -- how many answers there are on label y, whether a worker looks for y, and how many do
  abbrev answers_on : ℕ → List Said → ℕ
  answers_on y said = count (λ (a : Said). eqb (key a.wanted) y) said

  abbrev looks_for : ℕ → Activity → ℕ
  looks_for y a = bit (eqb (key (entry_of a)) y)

  abbrev lookers_for : ℕ → ℕ → List Activity → ℕ
  lookers_for W y ws = over (λ _ a. looks_for y a) Idle W ws

  idle-looks : key 0 ≡ 0 → (y : ℕ) → y ≢ 0 → looks_for y Idle ≡ 0
  idle-looks kz y nz = rw (ne_eqb (key 0) y (λ z. nz (sym z ∙ kz)))

module _ (n W : ℕ) (key home : ℕ → ℕ) where
  -- each worker reads at most n cells more
  weight-le : (a : Activity) → weight n key home a ≤ n
  weight-le Idle = omega arith
  weight-le (Reading v i) = omega arith
  weight-le (Replacing v k j x) = omega arith
  weight-le (WalkingBack v k) = omega arith
  weight-le (SeekingForward v k j) = omega arith
  weight-le (SeekingBack p v k j x) = omega arith

  pub potential-most : (s : Run) → potential n W key home s ≤ W * n
  unfolding potential
  potential-most s = tally-max (λ w. weight n key home (worker s w)) W n (λ w _. weight-le (worker s w))

module _ (n W : ℕ) (key home : ℕ → ℕ) (rules : Rules n key home) (t : List ℕ) (sound : PricedSound n key home t) where
  abbrev kz : key 0 ≡ 0
  kz = rules.blank

  abbrev hb : (x : ℕ) → home x < n
  hb = rules.inside

  abbrev ls : List ℕ
  ls = labels key t

  -- ---- the opening
  pub opening-fair : Fair n W key home t (opened W t)
  unfolding count
  opening-fair =
      record {
        crew = length-replicate W Idle;
        shape = λ w. rw (crew-idle W w) tt;
        finds = record { unchanged = refl; right = tt; each = λ y yz. omega (arith, opening-sum (looks_for key y) W (idle-looks key kz y yz)) };
      }

  pub opening-potential : potential n W key home (opened W t) ≡ 0
  unfolding potential
  opening-potential = opening-sum (weight n key home) W refl

  module _ (s : Run) (fair : Fair n W key home t s) (w : ℕ) (wl : w < length s.workers) where
    crew-after : (b : Activity) → length (set s.workers w b) ≡ W
    crew-after b = length-set s.workers w b ∙ fair.crew

    shape-after : (b : Activity) → Shape n key home t b → (u : ℕ) → Shape n key home t (get_or (set s.workers w b) u Idle)
    shape-after b sb = set_all (Shape n key home t) s.workers w b wl fair.shape sb

    lookers-after : (b : Activity) (y : ℕ) → lookers_for key W y (set s.workers w b) + looks_for key y (worker s w) ≡ lookers_for key W y s.workers + looks_for key y b
    lookers-after b y = moved_sum (looks_for key y) W s.workers w b fair.crew wl

    -- ---- an accepted operation
    module _ (v : ℕ) (is : worker s w ≡ Idle) where
      pub order-fair : key v ≢ 0 → Fair n W key home t (ordered 3 n key home s w v)
      unfolding ordered count
      order-fair nz =
          record {
            crew = crew-after (start key home v);
            shape = shape-after (start key home v) (on-home n home hb ls (key v) nz);
            finds = record {
              unchanged = fair.finds.unchanged;
              right = fair.finds.right;
              each = λ y yz. omega (arith, fair.finds.each y yz, lookers-after (start key home v) y, ap (looks_for key y) is, idle-looks key kz y yz);
            };
          }

      pub order-pays : potential n W key home (ordered 3 n key home s w v) ≤ potential n W key home s + n
      unfolding ordered potential
      order-pays = omega (arith, moved_sum (weight n key home) W s.workers w (start key home v) fair.crew wl, ap (weight n key home) is, home-dist n home hb (key v))

    -- ---- a step: the invariant is kept, and the potential falls
    abbrev Next : Activity → Outcome → Type 0
    Next a o = Fair n W key home t (moved_to s w a o) × (busy a + potential n W key home (moved_to s w a o) ≤ potential n W key home s)

    -- from a to b, with the answer r
    steps : (a b : Activity) (c : ℕ) (r : Answer) → worker s w ≡ a → set s.table (cell_of a) c ≡ t → Shape n key home t b → Right key t (tells (entry_of a) r ++ s.said)
        → ((y : ℕ) → y ≢ 0 → answers_on key y (tells (entry_of a) r ++ s.said) + looks_for key y b ≡ answers_on key y s.said + looks_for key y a)
        → busy a + weight n key home b ≤ weight n key home a → Next a (record { activity = b; content = c; answer = r })
    unfolding potential
    steps a b c r is same sb right told less = (
      record {
        crew = crew-after b;
        shape = shape-after b sb;
        finds = record {
          unchanged = same;
          right = right;
          each = λ y yz. omega (arith, told y yz, fair.finds.each y yz, lookers-after b y, ap (looks_for key y) is);
        };
      },
      omega (arith, moved_sum (weight n key home) W s.workers w b fair.crew wl, ap (weight n key home) is, less),
    )

    -- ---- reading: c is what stands in the cell
    module _ (v i c : ℕ) (is : worker s w ≡ Reading v i) (o : On n home ls (key v) i) (there : get_or t i 0 ≡ c) (same : set s.table i c ≡ t) where
      -- its label
      here : get_or ls i 0 ≡ key c
      here = label_at key kz t i ∙ ap key there

      reads_on : key v < key c → Next (Reading v i) (goes (Reading v (next n i)) c)
      reads_on l =
          let a = passed n home hb ls (key v) i o (omega (arith, here)) in
          let on = on-round n home hb ls (key v) i o.inside a o.key in
          steps (Reading v i) (Reading v (next n i)) c WentOn is same on fair.finds.right (λ y yz. refl)
          (omega (arith, next-dist n home hb ls (key v) i o.inside sound.paths.gap a, dist-lt n (home (key v)) (hb (key v)) (next n i) on.inside))

      answers : (r : Answer) → Right key t (tells v r ++ s.said)
          → ((y : ℕ) → answers_on key y (tells v r ++ s.said) ≡ looks_for key y (Reading v i) + answers_on key y s.said) → Next (Reading v i) (ends r c)
      answers r right one = steps (Reading v i) Idle c r is same tt right (λ y yz. omega (arith, one y, idle-looks key kz y yz))
          (omega (arith, dist-lt n (home (key v)) (hb (key v)) i o.inside))

      says_price : key c ≡ key v → Next (Reading v i) (ends (Price (price c)) c)
      unfolding count
      says_price z =
          let held = held_in n t c (sized n key home kz hb t sound) (record { cell = i; inside = o.inside; is = there }) in
          answers (Price (price c)) (
            o.key,
            λ p. (
              λ (_, e). record { content = c; member = held; is = z; costs = e },
              λ x. (tt, ap price (sym (one-content n key home kz hb t sound x.content c x.member held (λ y. o.key (sym x.is ∙ y)) (x.is ∙ sym z))) ∙ x.costs),
            ),
            fair.finds.right,
          ) (λ y. refl)

      says_no : key c < key v → Next (Reading v i) (ends No c)
      unfolding count
      says_no l =
          let found = found_here n home hb ls (key v) i o (sound-paths n home hb ls sound.paths) (omega (arith, here)) in
          answers No (
            o.key,
            λ p. (
              λ (f, _). absurd f,
              λ x. absurd (omega (arith, here, found (in-holds n ls (key v) sound.paths.sized (rw x.is at (in-labels key t x.content x.member))))),
            ),
            fair.finds.right,
          ) (λ y. refl)

    by-activity : (a : Activity) (c : ℕ) → worker s w ≡ a → Shape n key home t a → get_or t (cell_of a) 0 ≡ c → set s.table (cell_of a) c ≡ t → Next a (rule 3 n key home a c)
    unfolding rule find_step
    by-activity Idle c is sh there same = steps Idle Idle c answer.Idle is same tt fair.finds.right (λ y yz. refl) (omega arith)
    by-activity (Reading v i) c is o there same = by-content (key v) (key c)
        (λ l e. rw e (reads_on v i c is o there same l)) (λ z e d. rw (e, d) (says_price v i c is o there same z)) (λ l e d. rw (e, d) (says_no v i c is o there same l))
    by-activity (Replacing v k j x) c is sh there same = absurd sh
    by-activity (WalkingBack v k) c is sh there same = absurd sh
    by-activity (SeekingForward v k j) c is sh there same = absurd sh
    by-activity (SeekingBack p v k j x) c is sh there same = absurd sh

    pub step_keeps : Fair n W key home t (moved 3 n key home s w) × (busy (worker s w) + potential n W key home (moved 3 n key home s w) ≤ potential n W key home s)
    unfolding moved
    step_keeps =
        let c = cell_of (worker s w) in
        by-activity (worker s w) (get_or s.table c 0) refl (fair.shape w)
        (ap (λ (u : List ℕ). get_or u c 0) (sym fair.finds.unchanged)) (set-get_or s.table c 0 ∙ fair.finds.unchanged)
