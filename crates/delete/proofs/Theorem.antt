-- What crates/phases/specs/Promise says of delete phases: proved of tables of labels, and carried over by the view of a phase by its labels.
use mathlib.Core.Path.{◌≡◌, refl, sym, ap, ◌∙◌, subst}
use mathlib.Core.Logic.{◌≢◌, ⊎_elim}
use mathlib.Core.List.{List, map}
use Prim.Native.Nat.{ℕ, ◌+◌, ◌≤◌, ◌<◌}
use native.Mathlib.Omega.{arith}
use lib.ListN.{get_or, length-map, get_or-eq_default}
use Rattle.ring.proofs.Split.{by-lt}
use Rattle.layout.specs.Layout.{In, without, layout}
use Rattle.layout.specs.Sound.{Holds}
use Rattle.layout.proofs.Sets.{held_in, in-holds}
use Rattle.prices.specs.Priced.{labels, PricedSound, priced_layout, without_labels}
use Rattle.prices.proofs.Labels.{in-labels, labels_in, labels-without, in-without_labels, labels-hold}
use Rattle.prices.proofs.Theorem.{pricing, one-content}
use Rattle.rule.specs.Events.{Run, Event, worker, AllIdle, run, opened, after}
use Rattle.phases.specs.Promise.{most_rest, Always, Deletes, Rules, steps_of}
use Rattle.phases.proofs.Formed.{formed}
use Rattle.delete.proofs.Plain.{always as plain-always, deletes as plain-deletes, settles as plain-settles}
use Rattle.delete.proofs.View.{unlabelled, labelled, viewed, view, worker-view, steps-view, opening-view, KnownState, opening-known, run-known, run-view}
use Rattle.delete.proofs.Setting.{plain}

module _ (n W : ℕ) (key home : ℕ → ℕ) (rules : Rules n key home) (t : List ℕ) (sound : PricedSound n key home t) (es : List Event) where
  abbrev s : Run
  s = after 2 n W key home t es

  -- the phase of the labels
  abbrev p : Run
  p = after 2 n W plain home (labels key t) (map (viewed key) es)

  known : KnownState n key home rules.blank rules.inside t sound (after 2 n W key home t es)
  known = run-known n key home rules.blank rules.inside t sound es (opened W t) (opening-known n key home rules.blank rules.inside t sound W)

  shown : view key (after 2 n W key home t es) ≡ after 2 n W plain home (labels key t) (map (viewed key) es)
  shown = run-view n key home rules.blank rules.inside t sound es (opened W t) (opening-known n key home rules.blank rules.inside t sound W)
      ∙ ap (run 2 n plain home (map (viewed key) es)) (opening-view key W t)

  plain-holds : Always 2 n W plain (view key (after 2 n W key home t es))
  plain-holds = rw shown (plain-always n W home rules.inside (labels key t) sound.paths (map (viewed key) es))

  pub always : Always 2 n W key (after 2 n W key home t es)
  always =
      let a = plain-holds in
      record {
        sized = sym (length-map s.table key) ∙ a.sized;
        crew = sym (length-map s.workers (labelled key)) ∙ a.crew;
        formed = formed 2 n key home rules.inside W t es;
        bounded = rw (length-map s.ordered key) at a.bounded;
      }

  pub settles : (ws : List ℕ) → (run 2 n key home (steps_of ws) (after 2 n W key home t es)).counted ≤ (after 2 n W key home t es).counted + most_rest n W
  settles ws =
      let e : view key (run 2 n key home (steps_of ws) s) ≡ run 2 n plain home (steps_of ws) p =
      run-view n key home rules.blank rules.inside t sound (steps_of ws) s known
      ∙ ap (λ (us : List Event). run 2 n plain home us (view key s)) (steps-view key ws) ∙ ap (run 2 n plain home (steps_of ws)) shown in
      omega (
        arith,
        plain-settles n W home rules.inside (labels key t) sound.paths (map (viewed key) es) ws,
        ap (λ (r : Run). r.counted) e,
        ap (λ (r : Run). r.counted) shown,
      )

  -- ---- a content of the table stood at opening
  from-opening : (v : ℕ) → v ≢ 0 → In v s.table → In v t
  from-opening v nz i =
      let h = in-holds n s.table v always.sized i in
      ⊎_elim (λ z. absurd (nz (sym h.is ∙ z))) (λ j. rw h.is at j) (known.cells h.cell)

  labels-kept : (l : ℕ) → l ≢ 0 → In l (labels key t) → (In l (labels key s.ordered) → ⊥) → In l (labels key s.table)
  labels-kept l nz i out =
      let d = plain-deletes n W home rules.inside (labels key t) sound.paths (map (viewed key) es) in
      rw (sym (ap (λ (r : Run). r.table) shown)) at (d.kept l nz i (λ o. out (rw (sym (ap (λ (r : Run). r.ordered) shown)) at o)))

  keeps : (v : ℕ) → key v ≢ 0 → In v t → (In (key v) (labels key s.ordered) → ⊥) → In v s.table
  keeps v nz i out =
      let o = labels_in key s.table (key v) (labels-kept (key v) nz (in-labels key t v i) out) in
      let there : In o.content t = from-opening o.content (λ z. nz (sym o.is ∙ ap key z ∙ rules.blank)) o.member in
      rw (one-content n key home rules.blank rules.inside t sound o.content v there i (λ z. nz (sym o.is ∙ z)) o.is) at o.member

  -- ---- where all workers are idle
  module _ (rest : AllIdle (after 2 n W key home t es)) where
    plain-rest : AllIdle (after 2 n W plain home (labels key t) (map (viewed key) es))
    plain-rest w = ap (λ (r : Run). worker r w) (sym shown) ∙ worker-view key s w ∙ ap (labelled key) (rest w)

    labels-at-rest : labels key s.table ≡ layout n home (labels key (without_labels key s.ordered t))
    labels-at-rest =
        ap (λ (r : Run). r.table) shown
        ∙ (plain-deletes n W home rules.inside (labels key t) sound.paths (map (viewed key) es)).at_rest plain-rest
        ∙ ap (λ (r : Run). layout n home (without r.ordered (labels key t))) (sym shown)
        ∙ ap (layout n home) (sym (labels-without key s.ordered t))

    labels-gone : (j : ℕ) → j < n → key (get_or s.table j 0) ≢ 0 → In (key (get_or s.table j 0)) (labels key s.ordered) → ⊥
    labels-gone j jn nz i =
        (plain-deletes n W home rules.inside (labels key t) sound.paths (map (viewed key) es)).gone plain-rest (key (get_or s.table j 0)) nz
        (subst (λ (r : Run). Holds n r.table (key (get_or s.table j 0))) shown (labels-hold key rules.blank n s.table j jn))
        (subst (λ (r : Run). In (key (get_or s.table j 0)) r.ordered) shown i)

    layout-at-rest : s.table ≡ priced_layout n key home (without_labels key s.ordered t)
    layout-at-rest = pricing n key home rules.blank rules.inside (without_labels key s.ordered t) s.table labels-at-rest
        (λ j. unlabelled n key home rules.blank rules.inside t sound (get_or s.table j 0) (known.cells j))
        (λ j nz.
        let c : ℕ = get_or s.table j 0 in
        let cz : c ≢ 0 = λ z. nz (ap key z ∙ rules.blank) in
        let jn : j < n = by-lt j n (λ l. l) (λ l. absurd (cz (get_or-eq_default s.table 0 (omega (arith, always.sized))))) in
        let there : In c t = from-opening c cz (held_in n s.table c always.sized (record { cell = j; inside = jn; is = refl })) in
        record {
          member = (in-without_labels key s.ordered t c).1 (there, labels-gone j jn nz);
          most = λ x i e.
              let same : x ≡ c = one-content n key home rules.blank rules.inside t sound x c ((in-without_labels key s.ordered t x).0 i).0 there (λ z. nz (sym e ∙ z)) e in
              omega arith;
        })

  pub deletes : Deletes n key home t (after 2 n W key home t es)
  deletes = record { kept = keeps; only = from-opening; at_rest = layout-at-rest }
