-- Every operation and every step of a worker keeps the invariant: one lemma for each case of the rule.
use mathlib.Core.Path.{◌≡◌, refl, sym, ap, ◌∙◌}
use mathlib.Core.Logic.{◌≢◌, inl, inr, ⊎_elim}
use mathlib.Core.Bool.{cond}
use mathlib.Core.List.{List, ◌∷◌}
use Prim.Native.Nat.{ℕ, suc, ◌≤◌, ◌<◌}
use native.Mathlib.Omega.{arith}
use lib.Dec.{eqb}
use lib.ListN.{length, get_or, set}
use lib.Seq.{set-get_or}
use Rattle.ring.specs.Ring.{dist, next, prev}
use Rattle.ring.proofs.Counting.{from, from-ne}
use Rattle.ring.proofs.Split.{by-lt, by-eq}
use Rattle.layout.specs.Layout.{In}
use Rattle.activities.specs.declared.Activity.{Activity}
use Rattle.activities.specs.declared.Activity.TheVariants.{Idle, Reading, Replacing, WalkingBack, SeekingForward, SeekingBack}
use Rattle.rule.specs.declared.Answer.TheVariants.{Finished}
use Rattle.rule.specs.declared.Outcome.{Outcome}
use Rattle.rule.specs.Rule.{goes, ends, narrow, delete_step, rule}
use Rattle.activities.specs.Activities.{entry_of}
use Rattle.phases.proofs.Steps.{cell_of}
use Rattle.delete.proofs.Cases.{narrow-by, reading-by, walking-back-by, seeking-forward-by, seeking-back-by, replacing-by}
use Rattle.delete.proofs.Copies.{copies_skip, weight, from-hit}
use Rattle.delete.proofs.Invariant.{On, Candidate, Shape, Invariant}
use Rattle.delete.proofs.Kept.{past-home, not-gap, reads, reader-set, reader-stays, reader-new, stay-keeps, release-keeps, leave-keeps, replace-keeps}
use Rattle.delete.proofs.Setting.{Setting, plain}

-- the released keys after a worker's activity a became b: a reading worker that turns back releases its key
abbrev pub released : Activity → Activity → List ℕ → List ℕ
released a b R = cond (eqb (reads a) 1) (cond (eqb (reads b) 1) R (entry_of a ∷ R)) R

-- the invariant after worker w has touched cell i with outcome o, for the released keys Q
abbrev pub After : Setting → List ℕ → List Activity → List ℕ → ℕ → ℕ → List ℕ → Outcome → Type 0
After f t ws D w i Q o = Invariant f (set t i o.content) (set ws w o.activity) D Q

module _ (f : Setting) (t : List ℕ) (ws : List Activity) (D R : List ℕ) (inv : Invariant f t ws D R) (w : ℕ) (wl : w < f.W) where
  open f use {n, home, hb, pos, line}

  -- the same for the released keys R, and with what the step releases
  abbrev Next : ℕ → Outcome → Type 0
  Next i o = After f t ws D w i R o

  abbrev Left : Activity → ℕ → Outcome → Type 0
  Left a i o = After f t ws D w i (released a o.activity R) o

  there : w < length ws
  there = omega (arith, inv.crew)

  -- the cell is left as it is
  unwritten : (i : ℕ) (b : Activity) (Q : List ℕ) → Invariant f t (set ws w b) D Q → After f t ws D w i Q (goes b (get_or t i 0))
  unwritten i b Q h = rw (set-get_or t i 0) h

  -- a worker that is not reading stays on its key and index
  stays_on : (a b : Activity) (i : ℕ) → get_or ws w Idle ≡ a → ((v p : ℕ) → weight f v p a ≡ weight f v p b) → reads a ≡ 0 → Shape f t D R b
      → Next i (goes b (get_or t i 0))
  stays_on a b i is same other sb =
      unwritten i b R (stay-keeps f t ws D R inv w wl b D
      (λ v p. ap (weight f v p) is ∙ same v p) sb (λ _ d. d) (λ v sv nr d. reader-stays ws w a b v is other (inv.reader v sv nr d)))

  -- ---- an operation
  pub order-keeps : (v : ℕ) → v ≢ 0 → get_or ws w Idle ≡ Idle → Invariant f t (set ws w (Reading v (home v))) (v ∷ D) R
  order-keeps v nz is =
      stay-keeps f t ws D R inv w wl (Reading v (home v)) (v ∷ D) (λ u p. ap (weight f u p) is)
      (record { key = nz; inside = hb v; home-first = omega arith }, inl refl) (λ _ d. inr d)
      (λ u su nr. ⊎_elim (λ z. rw z (reader-new ws w v (home v) there))
      (λ d. reader-stays ws w Idle (Reading v (home v)) u is refl (inv.reader u su nr d)))

  -- ---- reading
  module _ (u i : ℕ) (is : get_or ws w Idle ≡ Reading u i) (o : On f u i) (d : In u D) where
    reads_on : u < get_or t i 0 → Next i (goes (Reading u (next n i)) (get_or t i 0))
    reads_on l =
        let b : Activity = Reading u (next n i) in
        let further = line.after i o.inside (not-gap f t ws D R inv i (omega arith)) in
        unwritten i b R (stay-keeps f t ws D R inv w wl b D (λ v p. ap (weight f v p) is)
        (record { key = o.key; inside = line.next-in i o.inside; home-first = omega (arith, further, o.home-first) }, d) (λ _ q. q)
        (λ v sv nr q. reader-set ws w b v (inv.reader v sv nr q) (λ j z. let y : v ≡ u = cc in rw y (reader-new ws w u (next n i) there))))

    pub turns_back : get_or t i 0 ≤ u → After f t ws D w i (u ∷ R) (goes (WalkingBack u i) (get_or t i 0))
    turns_back l = unwritten i (WalkingBack u i) (u ∷ R) (release-keeps f t ws D R inv w wl u i is o d l)

  -- ---- walking back
  module _ (u k : ℕ) (is : get_or ws w Idle ≡ WalkingBack u k) (o : On f u k) where
    starts-seeking : get_or t k 0 ≡ u → Next k (goes (SeekingForward u k (next n k)) (get_or t k 0))
    starts-seeking z =
        stays_on (WalkingBack u k) (SeekingForward u k (next n k)) k is (λ _ _. refl) refl
        (o, line.next-in k o.inside, omega (arith, line.after k o.inside (not-gap f t ws D R inv k (omega (arith, o.key)))))

    finishes : (get_or t k 0 ≡ u → ⊥) → k ≡ home u → Next k (ends Finished (get_or t k 0))
    finishes ne z =
        unwritten k Idle R (leave-keeps f t ws D R inv w wl u k is Idle (λ _ _ _. refl)
        (λ p l. inr (copies_skip f u p (suc (pos k)) t (λ c cn y _. by-eq (pos c) (pos k)
        (λ q. absurd (ne (ap (λ (i : ℕ). get_or t i 0) (sym (line.same c k cn o.inside q)) ∙ y)))
        (λ q. omega (arith, (inv.stands u c o.key cn y).home-first, ap pos z))))) tt)

    steps_back : (get_or t k 0 ≡ u → ⊥) → (k ≡ home u → ⊥) → Next k (goes (WalkingBack u (prev n k)) (get_or t k 0))
    steps_back ne nh =
        let far : pos (home u) < pos k = past-home f u k o nh in
        let less = line.before k o.inside (omega arith) in
        unwritten k (WalkingBack u (prev n k)) R (leave-keeps f t ws D R inv w wl u k is (WalkingBack u (prev n k)) (λ v p z. from-ne v p (pos (prev n k)) u z)
        (λ p l. by-eq p (pos k)
        (λ z. inr (copies_skip f u p (suc (pos k)) t (λ c cn y q. by-eq (pos c) (pos k)
        (λ g. absurd (ne (ap (λ (i : ℕ). get_or t i 0) (sym (line.same c k cn o.inside g)) ∙ y))) (λ g. omega arith))))
        (λ z. inl (from-hit u p (pos (prev n k)) u (omega arith) refl)))
        (record { key = o.key; inside = line.prev-in k o.inside; home-first = omega arith }))

  -- ---- seeking
  module _ (u k : ℕ) (o : On f u k) where
    narrowed : (j x p : ℕ) → Candidate f t R k j x p → Shape f t D R (narrow n plain home u k j x p)
    narrowed j x p c = narrow-by n home (Shape f t D R) u k j x p (λ z. (o, rw z at c))
        (λ z. (o, by-eq (pos p) (pos k) (λ y. absurd (z (line.same p k c.searched o.inside y))) (λ y. omega (arith, c.low)), c))

    narrow-weight : (j x p v q : ℕ) → from v q (pos k) u ≡ weight f v q (narrow n plain home u k j x p)
    narrow-weight j x p v q = narrow-by n home (λ b. from v q (pos k) u ≡ weight f v q b) u k j x p (λ _. refl) (λ _. refl)

    -- cell j is empty, or the path of its key passes k: it is the candidate, and the cell before it comes next
    module _ (j : ℕ) (jn : j < n) (l : pos k < pos j) where
      candidate : (get_or t j 0 ≢ 0 → pos (home (get_or t j 0)) ≤ pos k) → Candidate f t R k j (get_or t j 0) (prev n j)
      candidate fit =
          let less = line.before j jn (omega arith) in
          record {
            inside = jn;
            searched = line.prev-in j jn;
            low = omega arith;
            high = omega arith;
            stands = λ nz. record { known = (inv.stands (get_or t j 0) j nz jn refl).known; home-first = fit nz };
            near = λ m nz nr a. by-lt (pos j) (pos m) (λ g. absurd (omega (arith, a.clear j jn (omega (arith, fit nz)) g))) (λ g. g);
            best = λ v m sv nr a h q. by-eq (pos j) (pos m)
                (λ z. omega (arith, a.holds, ap (λ (c : ℕ). get_or t c 0) (line.same j m jn a.inside z)))
                (λ z. omega (arith, a.clear j jn (omega arith) (omega arith)));
          }

      by-path : dist n (home (get_or t j 0)) k < dist n (home (get_or t j 0)) j → get_or t j 0 ≢ 0 → pos (home (get_or t j 0)) ≤ pos k
      by-path f nz = (line.path (home (get_or t j 0)) k j (hb (get_or t j 0)) o.inside jn (inv.stands (get_or t j 0) j nz jn refl).home-first f).0

      -- a cell that does not fit is passed over: no anchor stands there whose path passes k
      passed_over : (m x : ℕ) → Candidate f t R k m x j → dist n (home (get_or t j 0)) j ≤ dist n (home (get_or t j 0)) k → Candidate f t R k m x (prev n j)
      passed_over m x c unfit =
          let less = line.before j jn (omega arith) in
          record {
            inside = c.inside;
            searched = line.prev-in j jn;
            low = omega arith;
            high = omega (arith, c.high);
            stands = c.stands;
            near = c.near;
            best = λ v q sv nr a h g. by-eq (pos j) (pos q)
                (λ z. let is : get_or t j 0 ≡ v = ap (λ (i : ℕ). get_or t i 0) (line.same j q jn a.inside z) ∙ a.holds in
                absurd (omega (arith, line.passes (home v) k j (hb v) o.inside jn h l, rw is at unfit)))
                (λ z. c.best v q sv nr a h (omega arith));
          }

      module _ (is : get_or ws w Idle ≡ SeekingForward u k j) where
        finds : (get_or t j 0 ≢ 0 → pos (home (get_or t j 0)) ≤ pos k) → Next j (goes (narrow n plain home u k j (get_or t j 0) (prev n j)) (get_or t j 0))
        finds fit =
            stays_on (SeekingForward u k j) (narrow n plain home u k j (get_or t j 0) (prev n j)) j is (narrow-weight j (get_or t j 0) (prev n j)) refl
            (narrowed j (get_or t j 0) (prev n j) (candidate fit))

        seeks-on : get_or t j 0 ≢ 0 → Next j (goes (SeekingForward u k (next n j)) (get_or t j 0))
        seeks-on nz =
            stays_on (SeekingForward u k j) (SeekingForward u k (next n j)) j is (λ _ _. refl) refl
            (o, line.next-in j jn, omega (arith, line.after j jn (not-gap f t ws D R inv j nz)))

      module _ (m x : ℕ) (is : get_or ws w Idle ≡ SeekingBack j u k m x) where
        finds-nearer : (get_or t j 0 ≢ 0 → pos (home (get_or t j 0)) ≤ pos k) → Next j (goes (narrow n plain home u k j (get_or t j 0) (prev n j)) (get_or t j 0))
        finds-nearer fit =
            stays_on (SeekingBack j u k m x) (narrow n plain home u k j (get_or t j 0) (prev n j)) j is (narrow-weight j (get_or t j 0) (prev n j)) refl
            (narrowed j (get_or t j 0) (prev n j) (candidate fit))

        passes_over : Candidate f t R k m x j → dist n (home (get_or t j 0)) j ≤ dist n (home (get_or t j 0)) k
            → Next j (goes (narrow n plain home u k m x (prev n j)) (get_or t j 0))
        passes_over c unfit =
            stays_on (SeekingBack j u k m x) (narrow n plain home u k m x (prev n j)) j is (narrow-weight m x (prev n j)) refl
            (narrowed m x (prev n j) (passed_over m x c unfit))

  -- ---- replacing
  module _ (u k j x : ℕ) (is : get_or ws w Idle ≡ Replacing u k j x) (o : On f u k) (c : Candidate f t R k j x k) where
    pub empties : get_or t k 0 ≡ u → x ≡ 0 → Next k (ends Finished x)
    empties held z = replace-keeps f t ws D R inv w wl u k j x is o c held Idle (λ v p nz. sym (from-ne v p (pos j) x (λ y. nz (sym y ∙ z)))) tt

    pub replaces : get_or t k 0 ≡ u → (x ≡ 0 → ⊥) → Next k (goes (WalkingBack x j) x)
    replaces held nz =
        replace-keeps f t ws D R inv w wl u k j x is o c held (WalkingBack x j) (λ _ _ _. refl)
        (record { key = nz; inside = c.inside; home-first = omega (arith, (c.stands nz).home-first, c.high) })

    fails : Next k (goes (WalkingBack u k) (get_or t k 0))
    fails = stays_on (Replacing u k j x) (WalkingBack u k) k is (λ _ _. refl) refl o

  -- ---- any step
  step_case : (a : Activity) → get_or ws w Idle ≡ a → Shape f t D R a → Left a (cell_of a) (rule 2 n plain home a (get_or t (cell_of a) 0))
  unfolding rule delete_step
  step_case Idle is s = stays_on Idle Idle 0 is (λ _ _. refl) refl tt
  step_case (Reading u i) is (o, d) = reading-by n home (Left (Reading u i) i) u i (get_or t i 0) (reads_on u i is o d) (turns_back u i is o d)
  step_case (WalkingBack u k) is o =
      walking-back-by n home (Left (WalkingBack u k) k) u k (get_or t k 0) (starts-seeking u k is o) (finishes u k is o) (steps_back u k is o)
  step_case (SeekingForward u k j) is (o, jn, l) = seeking-forward-by n home (Left (SeekingForward u k j) j) u k j (get_or t j 0)
      (λ z. finds u k o j jn l is (λ nz. absurd (nz z))) (λ f. finds u k o j jn l is (by-path u k o j jn l f)) (seeks-on u k o j jn l is)
  step_case (SeekingBack p u k j x) is (o, l, c) = seeking-back-by n home (Left (SeekingBack p u k j x) p) u k j x p (get_or t p 0)
      (λ z. finds-nearer u k o p c.searched l j x is (λ nz. absurd (nz z)))
      (λ f. finds-nearer u k o p c.searched l j x is (by-path u k o p c.searched l f))
      (λ _. passes_over u k o p c.searched l j x is c)
  step_case (Replacing u k j x) is (o, c) =
      replacing-by n home (Left (Replacing u k j x) k) u k j x (get_or t k 0) (empties u k j x is o c) (replaces u k j x is o c) (λ _. fails u k j x is o c)

  pub step_keeps : Left (get_or ws w Idle) (cell_of (get_or ws w Idle)) (rule 2 n plain home (get_or ws w Idle) (get_or t (cell_of (get_or ws w Idle)) 0))
  step_keeps = step_case (get_or ws w Idle) refl (inv.shape w)
