-- The promises on insert phases hold of every sound table, home rule, rule for labels, number of workers and list of events.
use mathlib.Core.Path.{◌≡◌, refl, sym, ap, ◌∙◌}
use mathlib.Core.Logic.{◌≢◌, inl, inr, ⊎_elim}
use mathlib.Core.List.{List, ◌++◌, map}
use Prim.Native.Nat.{ℕ, ◌+◌, ◌-◌, ◌*◌, ◌≤◌, ◌<◌}
use native.Mathlib.Nat.{mul-add, mul-le-mul_left}
use native.Mathlib.Omega.{arith}
use lib.ListN.{length, get_or, length-map, length-set, length-replicate, get_or-map}
use Rattle.layout.specs.Layout.{In}
use Rattle.layout.specs.Sound.{Holds}
use Rattle.layout.proofs.Sets.{held_in, holds-in, in-holds, in-append}
use Rattle.layout.proofs.Sound.{paths-ordered, paths-sound, sound-paths}
use Rattle.prices.specs.Priced.{labels, SameLeast, PricedSound, priced_layout}
use Rattle.prices.proofs.Labels.{label_at}
use Rattle.prices.proofs.Least.{Cheaper, itself, further, cover-least, same-label}
use Rattle.prices.proofs.Theorem.{theorem as layouts, sized}
use Rattle.activities.specs.declared.Activity.TheVariants.{Idle}
use Rattle.rule.specs.Rule.{start}
use Rattle.rule.specs.Events.{Run, Event, worker, AllIdle, ordered, event, run, opened, after}
use Rattle.phases.specs.Promise.{most_rest, Always, present, Roomy, Carries, Inserts, Rules, steps_of}
use Rattle.phases.proofs.Crew.{crew-idle}
use Rattle.phases.proofs.Steps.{moved}
use Rattle.phases.proofs.Events.{event-by, run-keeps, run-paid}
use Rattle.phases.proofs.Formed.{formed}
use Rattle.activities.specs.Activities.{entry_of}
use Rattle.phases.proofs.Formula.{under}
use Rattle.phases.proofs.Rounds.{steps-ordered}
use Rattle.insert.proofs.Bound.{potential, opening-potential, potential-most, order-pays, step-pays}
use Rattle.insert.proofs.Invariant.{Carried, Present, Fair}
use Rattle.insert.proofs.Step.{empty, order-fair, step_keeps, few-before, event-keeps}

-- the formula covers a step more than an operation takes
few-steps : (n W : ℕ) → 2 * (W * (n - 1)) + 3 ≤ W * (5 * n + 2) + 1 + (5 * n + 2)
few-steps n W = let d : (n - 1) + (n - 1) ≤ 5 * n + 2 = omega arith in omega (arith, mul-le-mul_left W d, mul-add W (n - 1) (n - 1))

module _ (n W : ℕ) (key home : ℕ → ℕ) (rules : Rules n key home) (t : List ℕ) (sound : PricedSound n key home t) where
  abbrev kz : key 0 ≡ 0
  kz = rules.blank

  abbrev hb : (x : ℕ) → home x < n
  hb = rules.inside

  -- idle workers carry no label
  nobody : (s : Run) → AllIdle s → (v : ℕ) → key v ≢ 0 → Carried s.workers v → ⊥
  nobody s rest v nz (w, z) = nz (ap key (sym z ∙ ap entry_of (rest w)) ∙ kz)

  opening-fair : Fair n W key home t (opened W t)
  opening-fair =
      let rest = crew-idle W in
      let long = sized n key home kz hb t sound in
      record {
        sized = long;
        crew = length-replicate W Idle;
        paths = sound-paths n home hb (labels key t) sound.paths;
        whole = sound.whole;
        only = λ v nz. ⊎_elim (λ h. inl (held_in n t v long h)) (λ c. absurd (nobody (opened W t) rest v nz c));
        covers = λ v nz. ⊎_elim (λ i. itself key _ v (inl (in-holds n t v long i))) (λ d. absurd d);
        shape = λ w. rw (rest w) tt;
      }

  -- ---- what every event keeps: the invariant, also where the labels do not fit
  abbrev Kept : Run → Type 0
  Kept s = (length s.workers ≡ W) × Fair n W key home t s

  order-kept : (s : Run) (w v : ℕ) → Kept s → w < length s.workers → worker s w ≡ Idle → 0 < key v → Kept (ordered 1 n key home s w v)
  order-kept s w v (crew, fair) wl is l = (
    unfold ordered in (length-set s.workers w (start key home v) ∙ crew),
    order-fair n W key home rules t s fair w wl v (omega arith) is,
  )

  step_kept : (s : Run) (w : ℕ) → Kept s → w < length s.workers → Kept (moved 1 n key home s w)
  step_kept s w (crew, fair) wl = (
    unfold moved in (length-set s.workers w _ ∙ crew),
    (step_keeps n W key home rules t s fair w wl).0,
  )

  event-kept : (e : Event) (s : Run) → Kept s → Kept (event 1 n key home e s)
  event-kept e s h = event-by 1 n key home Kept e s h (λ w v l is p. order-kept s w v h l is p) (λ w l. step_kept s w h l)

  -- ---- from a state on
  module _ (es : List Event) (s : Run) (h : Kept s) (few : Roomy n key t (run 1 n key home es s)) where
    run-fair : Fair n W key home t (run 1 n key home es s)
    run-fair = (run-keeps 1 n key home Kept event-kept es s h).1

    run-empty : Holds n (labels key (run 1 n key home es s).table) 0
    run-empty = empty n W key home rules t (run 1 n key home es s) run-fair few

    -- the potential is counted from behind a cell that has no label at the end
    steps-paid : (run 1 n key home es s).counted + length s.ordered * (2 * (W * (n - 1)) + 2)
        ≤ s.counted + potential n W key home run-empty.cell run-empty.inside s.table s.workers
        + length (run 1 n key home es s).ordered * (2 * (W * (n - 1)) + 2)
    steps-paid =
        let e = run-empty.cell in
        let en = run-empty.inside in
        run-paid 1 n key home Kept (λ r. Roomy n key t r × (key (get_or r.table e 0) ≡ 0))
        (λ r _. potential n W key home e en r.table r.workers) (2 * (W * (n - 1)) + 2)
        (λ c r (_, fair) (f, z).
        let g = few-before n W key home rules t c r f in (
          g,
          omega (
            arith,
            (event-keeps n W key home rules t c r fair).1 e,
            label_at key kz r.table e,
            label_at key kz (event 1 n key home c r).table e,
          ),
        ))
        (λ r w v k l is p. (order-kept r w v k l is p, order-pays n W key home e en r k.0 w l v is))
        (λ r w k l. (step_kept r w k l, λ (f, z). step-pays n W key home e en r k.0 w l t k.1 z))
        s h es (few, sym (label_at key kz (run 1 n key home es s).table e) ∙ run-empty.is)

  opening-kept : Kept (opened W t)
  opening-kept = (length-replicate W Idle, opening-fair)

  module _ (es : List Event) where
    kept : Kept (after 1 n W key home t es)
    kept = run-keeps 1 n key home Kept event-kept es (opened W t) opening-kept

    abbrev end : Run
    end = after 1 n W key home t es

    fair : Fair n W key home t end
    fair = kept.1

    -- ---- the contents of the table and those carried, as one list
    load : List ℕ
    load = map entry_of end.workers

    present-in : (v : ℕ) → key v ≢ 0 → Present n end.table end.workers v → In v (present end)
    unfolding load
    present-in v nz h = (in-append end.table load v).1 (⊎_elim
        (λ p. inl (held_in n end.table v fair.sized p))
        (λ (w, z). inr (holds-in (w + 1) load v (λ q. nz (ap key q ∙ kz)) (record { cell = w; inside = omega arith; is = get_or-map entry_of end.workers w Idle ∙ z })))
        h)

    in-present : (v : ℕ) → In v (present end) → Present n end.table end.workers v
    unfolding load
    in-present v i = ⊎_elim
        (λ p. inl (in-holds n end.table v fair.sized p))
        (λ p. let h = in-holds (length load) load v refl p in inr (h.cell, sym (get_or-map entry_of end.workers h.cell Idle) ∙ h.is))
        ((in-append end.table load v).0 i)

    only : (v : ℕ) → key v ≢ 0 → In v (present end) → In v (end.ordered ++ t)
    only v nz i = (in-append end.ordered t v).1 (⊎_elim inr inl (fair.only v nz (in-present v i)))

    covers : (v : ℕ) → key v ≢ 0 → In v (end.ordered ++ t) → Cheaper key (Present n end.table end.workers) v
    covers v nz i = fair.covers v nz (⊎_elim inr inl ((in-append end.ordered t v).0 i))

    prices : SameLeast key (present end) (end.ordered ++ t)
    prices = cover-least key (present end) (end.ordered ++ t) only
        (λ v nz i. further key _ _ v (covers v nz i) (λ u e h. itself key _ u (present-in u (λ z. nz (sym e ∙ z)) h)))

    pub carries : Carries n key home t (after 1 n W key home t es)
    carries =
        record {
          ordering = paths-ordered n home hb (labels key end.table) fair.paths;
          whole = fair.whole;
          union = λ l nz. (
            same-label key kz (present end) (end.ordered ++ t) (λ y d. (prices y d).0) l nz,
            same-label key kz (end.ordered ++ t) (present end) (λ y d. (prices y d).1) l nz,
          );
          prices = prices;
          only = only;
        }

    module _ (few : Roomy n key t (after 1 n W key home t es)) where
      some-empty : Holds n (labels key end.table) 0
      some-empty = run-empty es (opened W t) opening-kept few

      steps-bounded : end.counted ≤ length end.ordered * (2 * (W * (n - 1)) + 2)
      steps-bounded =
          let e = run-empty es (opened W t) opening-kept few in
          omega (arith, steps-paid es (opened W t) opening-kept few, opening-potential n W key home e.cell e.inside t)

      pub settles : (ws : List ℕ) → (run 1 n key home (steps_of ws) (after 1 n W key home t es)).counted ≤ (after 1 n W key home t es).counted + most_rest n W
      settles ws =
          let same = steps-ordered 1 n key home ws end in
          let few' : Roomy n key t (run 1 n key home (steps_of ws) end) = rw same few in
          let e = run-empty (steps_of ws) end kept few' in
          omega (
            arith,
            steps-paid (steps_of ws) end kept few',
            ap (λ (l : List ℕ). length l * (2 * (W * (n - 1)) + 2)) same,
            potential-most n W key home e.cell e.inside end.table end.workers,
            under n W (2 * W + 1) (2 * (W * (n - 1)) + 3) (few-steps n W),
          )

      pub always : Always 1 n W key (after 1 n W key home t es)
      always =
          record {
            sized = fair.sized;
            crew = fair.crew;
            formed = formed 1 n key home rules.inside W t es;
            bounded = omega (arith, steps-bounded, under n W (length end.ordered) (2 * (W * (n - 1)) + 2) (omega (arith, few-steps n W)));
          }

      -- ---- where all workers are idle, the table is sound and has just those contents
      module _ (rest : AllIdle (after 1 n W key home t es)) where
        rest-sound : PricedSound n key home end.table
        rest-sound = record { paths = paths-sound n home hb (labels key end.table) (length-map end.table key ∙ fair.sized) some-empty fair.paths; whole = fair.whole }

        rest-least : SameLeast key end.table (end.ordered ++ t)
        rest-least = cover-least key end.table (end.ordered ++ t)
            (λ v nz i. (in-append end.ordered t v).1 (⊎_elim inr inl (fair.only v nz (inl (in-holds n end.table v fair.sized i)))))
            (λ v nz i. further key _ _ v (covers v nz i) (λ u e. ⊎_elim
            (λ h. itself key _ u (held_in n end.table u fair.sized h)) (λ c. absurd (nobody end rest u (λ z. nz (sym e ∙ z)) c))))

        rest-layout : end.table ≡ priced_layout n key home (end.ordered ++ t)
        rest-layout = (layouts n key home kz hb).own end.table rest-sound ∙ (layouts n key home kz hb).set_only end.table (end.ordered ++ t) rest-least

      pub inserts : Inserts n key home t (after 1 n W key home t es)
      inserts =
          record {
            gap = record { cell = some-empty.cell; inside = some-empty.inside; is = fair.whole some-empty.cell (sym (label_at key kz end.table some-empty.cell) ∙ some-empty.is) };
            at_rest = rest-layout;
          }
