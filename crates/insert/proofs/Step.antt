-- Every accepted operation and every step keeps the invariant: one lemma for each case of the rule.
use mathlib.Core.Path.{◌≡◌, refl, sym, ap, ◌∙◌}
use mathlib.Core.Logic.{◌≢◌, ◌⊎◌, inl, inr, ⊎_elim}
use mathlib.Core.List.{List, ◌∷◌, ◌++◌}
use Prim.Native.Nat.{ℕ, ◌≤◌, ◌<◌}
use native.Mathlib.Omega.{arith}
use lib.ListN.{length, get_or, set, length-set, length-map}
use lib.Seq.{get_or-set_same, get_or-set_other, set-get_or, map-set_same}
use Rattle.ring.specs.Ring.{probe, dist, next}
use Rattle.ring.proofs.Ring.{dist-lt, probe-dist}
use Rattle.ring.proofs.Split.{by-eq}
use Rattle.layout.specs.Layout.{In}
use Rattle.layout.specs.Sound.{look, Holds, Paths}
use Rattle.layout.proofs.Full.{spare-cell}
use Rattle.layout.proofs.Path.{Grows, On, set-grows, replace-paths, replaced, on-home, on-grows, on-round, passed}
use Rattle.layout.proofs.Sets.{in-holds, in-append, subset-size}
use Rattle.prices.specs.Priced.{labels}
use Rattle.prices.proofs.Labels.{map-set, in-labels, labels_in, label_at}
use Rattle.prices.proofs.Least.{Cheaper, itself, further}
use Rattle.activities.specs.declared.Activity.{Activity}
use Rattle.activities.specs.declared.Activity.TheVariants.{Idle, Reading, Replacing, WalkingBack, SeekingForward, SeekingBack}
use Rattle.rule.specs.declared.Answer.{Answer}
use Rattle.rule.specs.declared.Answer.TheVariants.{WentOn, Finished}
use Rattle.rule.specs.declared.Answer.TheVariants as answer
use Rattle.rule.specs.declared.Outcome.{Outcome}
use Rattle.rule.specs.Rule.{goes, ends, insert_step, rule, start}
use Rattle.rule.specs.Events.{Run, Event, worker, ordered, event}
use Rattle.phases.specs.Promise.{Rules, Roomy}
use Rattle.phases.proofs.Crew.{set_all}
use Rattle.activities.specs.Activities.{entry_of}
use Rattle.phases.proofs.Events.{event-by}
use Rattle.phases.proofs.Steps.{cell_of, moved_to, moved}
use Rattle.insert.proofs.Cases.{Yields, reading-by, replacing-by}
use Rattle.insert.proofs.Invariant.{Carried, Present, Shape, Fair}

-- ---- the carried contents after worker w has moved from a to b
module _ (ws : List Activity) (w : ℕ) (b : Activity) (v : ℕ) where
  entry_of-new : w < length ws → entry_of b ≡ v → Carried (set ws w b) v
  entry_of-new wl z = (w, ap entry_of (get_or-set_same ws w b Idle wl) ∙ z)

  entry_of-stays : Carried ws v → (entry_of (get_or ws w Idle) ≡ v) ⊎ Carried (set ws w b) v
  entry_of-stays (q, z) = by-eq q w (λ e. inl (ap (λ (i : ℕ). entry_of (get_or ws i Idle)) (sym e) ∙ z)) (λ e. inr (q, ap entry_of (get_or-set_other ws w q b Idle e) ∙ z))

  entry_of-was : w < length ws → Carried (set ws w b) v → (entry_of b ≡ v) ⊎ Carried ws v
  entry_of-was wl (q, z) = by-eq q w
      (λ e. inl (sym (ap entry_of (get_or-set_same ws w b Idle wl)) ∙ ap (λ (i : ℕ). entry_of (get_or (set ws w b) i Idle)) (sym e) ∙ z))
      (λ e. inr (q, sym (ap entry_of (get_or-set_other ws w q b Idle e)) ∙ z))

module _ (n : ℕ) (key home : ℕ → ℕ) (hb : (x : ℕ) → home x < n) where
  shape-grows : (t u : List ℕ) → Grows (labels key t) (labels key u) → (a : Activity) → Shape n key home t a → Shape n key home u a
  shape-grows t u g Idle sh = tt
  shape-grows t u g (Reading v i) o = on-grows n home hb (labels key t) (labels key u) (key v) i g o
  shape-grows t u g (Replacing v i j x) (o, jn, l) = (on-grows n home hb (labels key t) (labels key u) (key v) i g o, jn, l)
  shape-grows t u g (WalkingBack v k) sh = sh
  shape-grows t u g (SeekingForward v k j) sh = sh
  shape-grows t u g (SeekingBack p v k j x) sh = sh

module _ (n W : ℕ) (key home : ℕ → ℕ) (rules : Rules n key home) (t : List ℕ) where
  abbrev kz : key 0 ≡ 0
  kz = rules.blank

  abbrev hb : (x : ℕ) → home x < n
  hb = rules.inside

  -- as long as the labels fit, some cell is empty: those of the table are among them, each once
  pub empty : (s : Run) → Fair n W key home t s → Roomy n key t s → Holds n (labels key s.table) 0
  empty s fair few =
      let every : List ℕ = labels key (s.ordered ++ t) in
      let there : (l : ℕ) → l ≢ 0 → In l (labels key s.table) → In l every = λ l nz i.
      let o = labels_in key s.table l i in
      let c = o.content in
      let from = fair.only c (λ z. nz (sym o.is ∙ z)) (inl (in-holds n s.table c fair.sized o.member)) in
      rw o.is at (in-labels key (s.ordered ++ t) c ((in-append s.ordered t c).1 (⊎_elim inr inl from))) in
      spare-cell n home hb (labels key s.table) (length-map s.table key ∙ fair.sized) fair.paths
      (omega (arith, subset-size (labels key s.table) every there))

  module _ (s : Run) (fair : Fair n W key home t s) (w : ℕ) (wl : w < length s.workers) where
    abbrev ls : List ℕ
    ls = labels key s.table

    -- ---- an accepted operation
    pub order-fair : (v : ℕ) → key v ≢ 0 → worker s w ≡ Idle → Fair n W key home t (ordered 1 n key home s w v)
    unfolding ordered
    order-fair v nz is =
        let b : Activity = start key home v in
        record {
          sized = fair.sized;
          crew = length-set s.workers w b ∙ fair.crew;
          paths = fair.paths;
          whole = fair.whole;
          only = λ y yz. ⊎_elim (λ h. ⊎_elim inl (λ d. inr (inr d)) (fair.only y yz (inl h)))
              (λ c. ⊎_elim (λ z. inr (inl (sym z))) (λ c. ⊎_elim inl (λ d. inr (inr d)) (fair.only y yz (inr c))) (entry_of-was s.workers w b y wl c));
          covers = λ y yz. ⊎_elim (λ p. stays y yz (inl p))
              (⊎_elim (λ z. itself key _ y (inr (entry_of-new s.workers w b y wl (sym z)))) (λ d. stays y yz (inr d)));
          shape = set_all (Shape n key home s.table) s.workers w b wl fair.shape (on-home n home hb ls (key v) nz);
        }
      where
        stays : (y : ℕ) → key y ≢ 0 → In y t ⊎ In y s.ordered → Cheaper key (Present n s.table (set s.workers w (start key home v))) y
        stays y yz h = further key _ _ y (fair.covers y yz h) (λ u e. ⊎_elim
            (λ p. itself key _ u (inl p))
            (λ c. ⊎_elim (λ z. absurd (yz (sym e ∙ ap key (sym z ∙ ap entry_of is) ∙ kz))) (λ d. itself key _ u (inr d))
            (entry_of-stays s.workers w (start key home v) u c)))

    -- ---- worker w goes from a to b and the table to u: no label falls, and none is lost or made; a content gives way only to one that costs no more
    record Step (a b : Activity) (u : List ℕ) : Type 0 where
      sized : length u ≡ n
      grows : Grows (labels key s.table) (labels key u)
      paths : Paths n home (labels key u)
      whole : (j : ℕ) → key (get_or u j 0) ≡ 0 → get_or u j 0 ≡ 0
      new : (v : ℕ) → key v ≢ 0 → Holds n u v → Holds n s.table v ⊎ (entry_of a ≡ v)
      takes : (v : ℕ) → key v ≢ 0 → entry_of b ≡ v → Holds n s.table v ⊎ (entry_of a ≡ v)
      keeps : (v : ℕ) → key v ≢ 0 → Holds n s.table v → Cheaper key (λ y. Holds n u y ⊎ (entry_of b ≡ y)) v
      drops : (v : ℕ) → key v ≢ 0 → entry_of a ≡ v → Cheaper key (λ y. Holds n u y ⊎ (entry_of b ≡ y)) v
      shape : Shape n key home u b

    -- the state after a step is fair, and no label has fallen
    abbrev Next : Activity → Outcome → Type 0
    Next a o = Fair n W key home t (moved_to s w a o) × Grows (labels key s.table) (labels key (moved_to s w a o).table)

    module _ (a b : Activity) (is : worker s w ≡ a) where
      before : (v : ℕ) → Holds n s.table v ⊎ (entry_of a ≡ v) → Present n s.table s.workers v
      before v = ⊎_elim inl (λ z. inr (w, ap entry_of is ∙ z))

      now : (u : List ℕ) (v : ℕ) → Cheaper key (λ y. Holds n u y ⊎ (entry_of b ≡ y)) v → Cheaper key (Present n u (set s.workers w b)) v
      now u v c = further key _ _ v c (λ y _. ⊎_elim (λ h. itself key _ y (inl h)) (λ z. itself key _ y (inr (entry_of-new s.workers w b y wl z))))

      steps : (c : ℕ) (r : Answer) → Step a b (set s.table (cell_of a) c) → Next a (record { activity = b; content = c; answer = r })
      steps c r g =
          let u = set s.table (cell_of a) c in (
            record {
              sized = g.sized;
              crew = length-set s.workers w b ∙ fair.crew;
              paths = g.paths;
              whole = g.whole;
              only = λ v nz h. fair.only v nz (⊎_elim (λ p. before v (g.new v nz p))
                  (λ c. ⊎_elim (λ z. before v (g.takes v nz z)) inr (entry_of-was s.workers w b v wl c)) h);
              covers = λ v nz h. further key _ _ v (fair.covers v nz h) (λ y e.
                  let yz : key y ≢ 0 = λ z. nz (sym e ∙ z) in
                  ⊎_elim (λ p. now u y (g.keeps y yz p))
                  (λ c. ⊎_elim (λ z. now u y (g.drops y yz (sym (ap entry_of is) ∙ z))) (λ d. itself key _ y (inr d)) (entry_of-stays s.workers w b y c)));
              shape = set_all (Shape n key home u) s.workers w b wl (λ i. shape-grows n key home hb s.table u g.grows (worker s i) (fair.shape i)) g.shape;
            },
            g.grows,
          )

    -- ---- the table stays
    still : (a b : Activity) (r : Answer) → worker s w ≡ a → ((v : ℕ) → key v ≢ 0 → entry_of b ≡ v → entry_of a ≡ v)
        → ((v : ℕ) → key v ≢ 0 → entry_of a ≡ v → Cheaper key (λ y. Holds n s.table y ⊎ (entry_of b ≡ y)) v) → Shape n key home s.table b
        → Next a (record { activity = b; content = get_or s.table (cell_of a) 0; answer = r })
    still a b r is takes drops sb = steps a b is (get_or s.table (cell_of a) 0) r (rw (set-get_or s.table (cell_of a) 0) (record {
      sized = fair.sized;
      grows = λ j. omega arith;
      paths = fair.paths;
      whole = fair.whole;
      new = λ v nz h. inl h;
      takes = λ v nz z. inr (takes v nz z);
      keeps = λ v nz h. itself key _ v (inl h);
      drops = drops;
      shape = sb;
    }))

    -- the worker keeps what it carries
    keeps_on : (a b : Activity) (r : Answer) → worker s w ≡ a → entry_of b ≡ entry_of a → Shape n key home s.table b
        → Next a (record { activity = b; content = get_or s.table (cell_of a) 0; answer = r })
    keeps_on a b r is same = still a b r is (λ y _ z. sym same ∙ z) (λ y _ z. itself key _ y (inr (same ∙ z)))

    -- ---- reading
    module _ (v i : ℕ) (is : worker s w ≡ Reading v i) (o : On n home ls (key v) i) where
      here_label : get_or ls i 0 ≡ key (get_or s.table i 0)
      here_label = label_at key kz s.table i

      reads_on : key v < key (get_or s.table i 0) → Next (Reading v i) (goes (Reading v (next n i)) (get_or s.table i 0))
      reads_on l = keeps_on (Reading v i) (Reading v (next n i)) WentOn is refl
          (on-round n home hb ls (key v) i o.inside (passed n home hb ls (key v) i o (omega (arith, here_label))) o.key)

      -- the label stands there already, at no higher price
      finishes : key (get_or s.table i 0) ≡ key v → get_or s.table i 0 ≤ v → Next (Reading v i) (ends Finished (get_or s.table i 0))
      finishes z l = still (Reading v i) Idle Finished is (λ y nz e. absurd (nz (ap key (sym e) ∙ kz)))
          (λ y nz e. record {
            content = get_or s.table i 0;
            same = z ∙ ap key e;
            less = omega arith;
            there = inl (record { cell = i; inside = o.inside; is = refl });
          }) tt

      sees : Yields key v (get_or s.table i 0) → Next (Reading v i) (goes (Replacing v i i (get_or s.table i 0)) (get_or s.table i 0))
      sees l = keeps_on (Reading v i) (Replacing v i i (get_or s.table i 0)) WentOn is refl (o, o.inside, l)

    -- ---- replacing
    module _ (v i j x : ℕ) (is : worker s w ≡ Replacing v i j x) (o : On n home ls (key v) i) where
      fails : Next (Replacing v i j x) (goes (Reading v i) (get_or s.table i 0))
      fails = keeps_on (Replacing v i j x) (Reading v i) WentOn is refl o

      module _ (held : get_or s.table i 0 ≡ x) where
        abbrev u : List ℕ
        u = set s.table i v

        inside : i < length s.table
        inside = omega (arith, fair.sized, o.inside)

        new : get_or u i 0 ≡ v
        new = get_or-set_same s.table i v 0 inside

        old : (c : ℕ) → c ≢ i → get_or u c 0 ≡ get_or s.table c 0
        old c ne = get_or-set_other s.table i c v 0 ne

        whole-after : (j : ℕ) → key (get_or u j 0) ≡ 0 → get_or u j 0 ≡ 0
        whole-after j z = by-eq j i
            (λ e. absurd (o.key (sym (ap key (ap (λ (c : ℕ). get_or u c 0) e ∙ new)) ∙ z)))
            (λ e. old j e ∙ fair.whole j (sym (ap key (old j e)) ∙ z))

        -- where the labels after the step are in order, and a content of x's label is there or carried that costs no more
        written : (b : Activity) (r : Answer) → Grows ls (labels key u) → Paths n home (labels key u)
            → ((y : ℕ) → key y ≢ 0 → entry_of b ≡ y → x ≡ y)
            → (key x ≢ 0 → Cheaper key (λ y. Holds n u y ⊎ (entry_of b ≡ y)) x) → Shape n key home u b
            → Next (Replacing v i j x) (record { activity = b; content = v; answer = r })
        written b r grows paths takes gives sb = steps (Replacing v i j x) b is v r (record {
          sized = length-set s.table i v ∙ fair.sized;
          grows = grows;
          paths = paths;
          whole = whole-after;
          new = λ y nz h. by-eq h.cell i
              (λ z. inr (sym new ∙ ap (λ (c : ℕ). get_or u c 0) (sym z) ∙ h.is))
              (λ z. inl (record { cell = h.cell; inside = h.inside; is = sym (old h.cell z) ∙ h.is }));
          takes = λ y nz e. inl (record { cell = i; inside = o.inside; is = held ∙ takes y nz e });
          keeps = λ y nz h. by-eq h.cell i
              (λ z. let e : x ≡ y = sym held ∙ ap (λ (c : ℕ). get_or s.table c 0) (sym z) ∙ h.is in rw e at (gives (λ q. nz (ap key (sym e) ∙ q))))
              (λ z. itself key _ y (inl (record { cell = h.cell; inside = h.inside; is = old h.cell z ∙ h.is })));
          drops = λ y nz e. itself key _ y (inl (record { cell = i; inside = o.inside; is = new ∙ e }));
          shape = sb;
        })

        -- its own label at a higher price: the labels stay
        reprices : key x ≡ key v → v < x → Next (Replacing v i j x) (ends Finished v)
        reprices same dear =
            let e : labels key u ≡ ls = map-set_same key s.table i v 0 (sym same ∙ ap key (sym held)) in
            written Idle Finished (rw e (λ c. omega arith)) (rw e fair.paths) (λ y nz z. absurd (nz (ap key (sym z) ∙ kz)))
            (λ _. record { content = v; same = sym same; less = omega arith; there = inl (record { cell = i; inside = o.inside; is = new }) }) tt

        -- a smaller label, or none
        module _ (less : key x < key v) where
          abbrev us : List ℕ
          us = set ls i (key v)

          relabelled : labels key u ≡ us
          relabelled = map-set key s.table i v

          long : length ls ≡ n
          long = length-map s.table key ∙ fair.sized

          label-held : get_or ls i 0 ≡ key x
          label-held = label_at key kz s.table i ∙ ap key held

          here : probe n (home (key v)) (dist n (home (key v)) i) ≡ i
          here = probe-dist n (home (key v)) (hb (key v)) i o.inside

          smaller : look n home ls (key v) (dist n (home (key v)) i) < key v
          smaller = rw here (omega (arith, label-held))

          clear : Paths n home us
          clear = rw here at
              (replace-paths n home hb ls long fair.paths (key v) (dist n (home (key v)) i) (dist-lt n (home (key v)) (hb (key v)) i o.inside) o.ahead smaller)

          relabels : (b : Activity) (r : Answer) → entry_of b ≡ x → Shape n key home u b
              → Next (Replacing v i j x) (record { activity = b; content = v; answer = r })
          relabels b r takes sb = written b r
              (rw relabelled (set-grows ls i (key v) (omega (arith, long, o.inside)) (omega (arith, label-held)))) (rw relabelled clear)
              (λ y nz z. sym takes ∙ z) (λ _. itself key _ x (inr takes)) sb

          fills : key x ≡ 0 → Next (Replacing v i j x) (ends Finished v)
          fills z = relabels Idle Finished (sym (sym held ∙ fair.whole i (ap key held ∙ z))) tt

          displaces : key x ≢ 0 → Next (Replacing v i j x) (goes (Reading x (next n i)) v)
          displaces nz =
              relabels (Reading x (next n i)) WentOn refl (rw relabelled
              (on-round n home hb us (key x) i o.inside
              (rw here at (replaced n home hb ls long fair.paths (key v) (dist n (home (key v)) i) (dist-lt n (home (key v)) (hb (key v)) i o.inside) o.ahead smaller (key x) nz
              (rw here label-held))) nz))

      -- whichever of the two: x gives way to v
      finishes-on : Yields key v x → get_or s.table i 0 ≡ x → key x ≡ 0 → Next (Replacing v i j x) (ends Finished v)
      finishes-on y held z = fills held (⊎_elim (λ l. l) (λ (e, _). absurd (o.key (sym e ∙ z))) y) z

      carries-on : Yields key v x → get_or s.table i 0 ≡ x → key x ≢ 0 → (key x ≡ key v → x ≤ v) → Next (Replacing v i j x) (goes (Reading x (next n i)) v)
      carries-on y held nz no_less = displaces held (⊎_elim (λ l. l) (λ (e, l). let g : x ≤ v = no_less e in absurd (omega arith)) y) nz

    -- ---- any step
    by-activity : (a : Activity) → worker s w ≡ a → Shape n key home s.table a → Next a (rule 1 n key home a (get_or s.table (cell_of a) 0))
    unfolding rule insert_step
    by-activity Idle is sh = keeps_on Idle Idle answer.Idle is refl tt
    by-activity (Reading v i) is o =
        reading-by n key home (Next (Reading v i)) v i (get_or s.table i 0) (reads_on v i is o) (finishes v i is o) (sees v i is o)
    by-activity (Replacing v i j x) is (o, jn, y) =
        replacing-by n key home (Next (Replacing v i j x)) v i j x (get_or s.table i 0)
        (finishes-on v i j x is o y) (λ h _. reprices v i j x is o h) (carries-on v i j x is o y) (λ _. fails v i j x is o)
    by-activity (WalkingBack v k) is sh = absurd sh
    by-activity (SeekingForward v k j) is sh = absurd sh
    by-activity (SeekingBack p v k j x) is sh = absurd sh

    pub step_keeps : Fair n W key home t (moved 1 n key home s w) × Grows (labels key s.table) (labels key (moved 1 n key home s w).table)
    unfolding moved
    step_keeps = by-activity (worker s w) refl (fair.shape w)

  -- ---- any event
  order-grows : (s : Run) (w v : ℕ) → Grows (labels key s.table) (labels key (ordered 1 n key home s w v).table)
  unfolding ordered
  order-grows s w v j = omega arith

  -- what fits in the end fits before
  few-order : (s : Run) (w v : ℕ) → Roomy n key t (ordered 1 n key home s w v) → Roomy n key t s
  unfolding ordered
  few-order s w v f = omega (arith, subset-size (labels key (s.ordered ++ t)) (key v ∷ labels key (s.ordered ++ t)) (λ y _ i. inr i))

  few-step : (s : Run) (w : ℕ) → Roomy n key t (moved 1 n key home s w) → Roomy n key t s
  unfolding moved
  few-step s w f = f

  pub few-before : (e : Event) (s : Run) → Roomy n key t (event 1 n key home e s) → Roomy n key t s
  few-before e s = event-by 1 n key home (λ r. Roomy n key t r → Roomy n key t s) e s (λ f. f) (λ w v _ _ _. few-order s w v) (λ w _. few-step s w)

  pub event-keeps : (e : Event) (s : Run) → Fair n W key home t s
      → Fair n W key home t (event 1 n key home e s) × Grows (labels key s.table) (labels key (event 1 n key home e s).table)
  event-keeps e s fair = event-by 1 n key home (λ r. Fair n W key home t r × Grows (labels key s.table) (labels key r.table)) e s (fair, λ j. omega arith)
      (λ w v l is p. (order-fair s fair w l v (omega arith) is, order-grows s w v)) (λ w l. step_keeps s fair w l)
