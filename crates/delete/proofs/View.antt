-- A delete phase seen by labels: every content replaced by its label. It goes on as the phase of a table of labels does, because all contents come from the
-- table at opening, which has one of each label: so a cell still holds a content remembered exactly if it still holds its label.
use mathlib.Core.Path.{◌≡◌, refl, sym, ap, ◌∙◌}
use mathlib.Core.Logic.{◌⊎◌, inl, inr}
use mathlib.Core.Bool.{Bool, true, false, cond}
use mathlib.Core.List.{List, [], ◌∷◌, ◌++◌, map}
use Prim.Native.Nat.{ℕ, zero, suc, ◌<◌}
use native.Mathlib.Omega.{arith}
use lib.Dec.{ltb, eqb}
use lib.ListN.{length, get_or, set, replicate, length-set, length-map, get_or-map, get_or-eq_default}
use lib.Seq.{get_or-set_same, get_or-set_other}
use borrow.Author.Tests.{eq-eqb, ne_eqb}
use Rattle.ring.specs.Ring.{prev}
use Rattle.ring.proofs.Split.{by-lt, by-eq}
use Rattle.layout.specs.Layout.{In}
use Rattle.layout.proofs.Sets.{holds-in, in-holds}
use Rattle.prices.specs.Priced.{labels, PricedSound}
use Rattle.prices.proofs.Labels.{map-set, label_at}
use Rattle.prices.proofs.Theorem.{sized, one-content}
use Rattle.activities.specs.declared.Activity.{Activity}
use Rattle.activities.specs.declared.Activity.TheVariants.{Idle, Reading, Replacing, WalkingBack, SeekingForward, SeekingBack}
use Rattle.rule.specs.declared.Answer.{Answer}
use Rattle.rule.specs.declared.Answer.TheVariants.{WentOn, Finished, Price, No}
use Rattle.rule.specs.declared.Answer.TheVariants as answer
use Rattle.rule.specs.declared.Outcome.{Outcome}
use Rattle.rule.specs.Rule.{goes, ends, fits, narrow, delete_step, rule}
use Rattle.rule.specs.Events.{Said, Run, Event, order, step, worker, tells, accepts, ordered, event, run, opened}
use Rattle.phases.specs.Promise.{steps_of}
use Rattle.phases.proofs.Crew.{set_all, crew-idle}
use Rattle.phases.proofs.Events.{event-by, run-keeps}
use Rattle.phases.proofs.Steps.{either, cell_of, moved_to, moved, stepped-moved}
use Rattle.delete.proofs.Setting.{plain}
use Rattle.activities.specs.Activities.{busy, entry_of}

-- ---- the view by labels
module _ (key : ℕ → ℕ) where
  abbrev pub labelled : Activity → Activity
  labelled Idle = Idle
  labelled (Reading v i) = Reading (key v) i
  labelled (Replacing v k j x) = Replacing (key v) k j (key x)
  labelled (WalkingBack v k) = WalkingBack (key v) k
  labelled (SeekingForward v k j) = SeekingForward (key v) k j
  labelled (SeekingBack p v k j x) = SeekingBack p (key v) k j (key x)

  abbrev outcome : Outcome → Outcome
  outcome o = record { activity = labelled o.activity; content = key o.content; answer = o.answer }

  abbrev answered : Said → Said
  answered a = record { wanted = key a.wanted; found = a.found; price = a.price }

  abbrev pub viewed : Event → Event
  viewed (order w v) = order w (key v)
  viewed (step w) = step w

  abbrev pub view : Run → Run
  view s = record {
    table = labels key s.table;
    workers = map labelled s.workers;
    ordered = labels key s.ordered;
    said = map answered s.said;
    counted = s.counted;
  }

  busy-view : (a : Activity) → busy (labelled a) ≡ busy a
  busy-view Idle = refl
  busy-view (Reading v i) = refl
  busy-view (Replacing v k j x) = refl
  busy-view (WalkingBack v k) = refl
  busy-view (SeekingForward v k j) = refl
  busy-view (SeekingBack p v k j x) = refl

  cell-view : (a : Activity) → cell_of (labelled a) ≡ cell_of a
  cell-view Idle = refl
  cell-view (Reading v i) = refl
  cell-view (Replacing v k j x) = refl
  cell-view (WalkingBack v k) = refl
  cell-view (SeekingForward v k j) = refl
  cell-view (SeekingBack p v k j x) = refl

  pub worker-view : (s : Run) (w : ℕ) → worker (view s) w ≡ labelled (worker s w)
  worker-view s w = get_or-map labelled s.workers w Idle

  pub steps-view : (ws : List ℕ) → map viewed (steps_of ws) ≡ steps_of ws
  unfolding steps_of
  steps-view [] = refl
  steps-view (w ∷ ws) = ap (λ (es : List Event). step w ∷ es) (steps-view ws)

  idle-view : (W : ℕ) → map labelled (replicate W Idle) ≡ replicate W Idle
  idle-view zero = refl
  idle-view (suc W) = ap (λ (ws : List Activity). Idle ∷ ws) (idle-view W)

  pub opening-view : (W : ℕ) (t : List ℕ) → view (opened W t) ≡ opened W (labels key t)
  opening-view W t = rw (idle-view W)

module _ (n : ℕ) (key home : ℕ → ℕ) (kz : key 0 ≡ 0) (hb : (x : ℕ) → home x < n) (t : List ℕ) (sound : PricedSound n key home t) where
  -- ---- all contents come from the table at opening
  abbrev pub Known : ℕ → Type 0
  Known c = (c ≡ 0) ⊎ In c t

  pub unlabelled : (c : ℕ) → Known c → key c ≡ 0 → c ≡ 0
  unlabelled c (inl z) e = z
  unlabelled c (inr i) e =
      let h = in-holds n t c (sized n key home kz hb t sound) i in
      sym h.is ∙ sound.whole h.cell (ap key h.is ∙ e)

  known_same : (c v : ℕ) → Known c → Known v → key c ≡ key v → c ≡ v
  known_same c v (inl z) kv e = z ∙ sym (unlabelled v kv (sym e ∙ ap key z ∙ kz))
  known_same c v (inr i) (inl y) e = unlabelled c (inr i) (e ∙ ap key y ∙ kz) ∙ sym y
  known_same c v (inr i) (inr j) e = by-eq (key c) 0
      (λ z. unlabelled c (inr i) z ∙ sym (unlabelled v (inr j) (sym e ∙ z)))
      (λ z. one-content n key home kz hb t sound c v i j z e)

  known-test : (c v : ℕ) → Known c → Known v → eqb (key c) (key v) ≡ eqb c v
  known-test c v kc kv = by-eq c v (λ z. rw z (eq-eqb (key v) (key v) refl ∙ sym (eq-eqb v v refl)))
      (λ z. ne_eqb (key c) (key v) (λ e. z (known_same c v kc kv e)) ∙ sym (ne_eqb c v z))

  -- what a worker remembers of the cells
  abbrev Remembers : Activity → Type 0
  Remembers Idle = Unit {0}
  Remembers (Reading v i) = Unit {0}
  Remembers (Replacing v k j x) = Known v × Known x
  Remembers (WalkingBack v k) = Unit {0}
  Remembers (SeekingForward v k j) = Known v
  Remembers (SeekingBack p v k j x) = Known v × Known x

  abbrev KnownOutcome : Outcome → Type 0
  KnownOutcome o = Remembers o.activity × Known o.content

  narrow-known : (v k j x p : ℕ) → Known v → Known x → Remembers (narrow n key home v k j x p)
  unfolding narrow
  narrow-known v k j x p kv kx = either Remembers (eqb p k) (kv, kx) (kv, kx)

  rule-known : (a : Activity) (c : ℕ) → Remembers a → Known c → KnownOutcome (rule 2 n key home a c)
  unfolding rule delete_step
  rule-known Idle c r kc = (tt, kc)
  rule-known (Reading v i) c r kc = either KnownOutcome (ltb (key v) (key c)) (tt, kc) (tt, kc)
  rule-known (WalkingBack v k) c r kc = either KnownOutcome (eqb (key c) (key v)) (kc, kc) (either KnownOutcome (eqb k (home (key v))) (tt, kc) (tt, kc))
  rule-known (SeekingForward v k j) c kv kc = either KnownOutcome (fits n key home c j k) (narrow-known v k j c (prev n j) kv kc, kc) (kv, kc)
  rule-known (SeekingBack p v k j x) c (kv, kx) kc =
      either KnownOutcome (fits n key home c p k) (narrow-known v k p c (prev n p) kv kc, kc) (narrow-known v k j x (prev n p) kv kx, kc)
  rule-known (Replacing v k j x) c (kv, kx) kc =
      either KnownOutcome (eqb c v) (either KnownOutcome (eqb (key x) 0) (tt, inl refl) (tt, kx)) (tt, kc)

  -- ---- a step is that of the labels
  cond-view : (b : Bool) (o u p q : Outcome) → outcome key o ≡ p → outcome key u ≡ q → outcome key (cond b o u) ≡ cond b p q
  cond-view true o u p q e d = e
  cond-view false o u p q e d = d

  narrow-view : (v k j x p : ℕ) → labelled key (narrow n key home v k j x p) ≡ narrow n plain home (key v) k j (key x) p
  unfolding narrow
  narrow-view v k j x p = by (eqb p k)
    where
      by : (b : Bool) → labelled key (cond b (Replacing v k j x) (SeekingBack p v k j x)) ≡ cond b (Replacing (key v) k j (key x)) (SeekingBack p (key v) k j (key x))
      by true = refl
      by false = refl

  rule-view : (a : Activity) (c : ℕ) → Remembers a → Known c → outcome key (rule 2 n key home a c) ≡ rule 2 n plain home (labelled key a) (key c)
  unfolding rule delete_step fits
  rule-view Idle c r kc = refl
  rule-view (Reading v i) c r kc = cond-view (ltb (key v) (key c)) _ _ _ _ refl refl
  rule-view (WalkingBack v k) c r kc = cond-view (eqb (key c) (key v)) _ _ _ _ refl (cond-view (eqb k (home (key v))) _ _ _ _ refl refl)
  rule-view (SeekingForward v k j) c kv kc = cond-view (fits n key home c j k) _ _ _ _ (ap (λ (a : Activity). goes a (key c)) (narrow-view v k j c (prev n j))) refl
  rule-view (SeekingBack p v k j x) c (kv, kx) kc =
      cond-view (fits n key home c p k) _ _ _ _
      (ap (λ (a : Activity). goes a (key c)) (narrow-view v k p c (prev n p))) (ap (λ (a : Activity). goes a (key c)) (narrow-view v k j x (prev n p)))
  rule-view (Replacing v k j x) c (kv, kx) kc =
      rw (known-test c v kc kv) (cond-view (eqb c v) _ _ _ _ (cond-view (eqb (key x) 0) _ _ _ _ (ap (λ (z : ℕ). ends Finished z) kz) refl) refl)

  -- ---- the state after a step
  told-view : (v : ℕ) (r : Answer) (said : List Said) → map (answered key) (tells v r ++ said) ≡ tells (key v) r ++ map (answered key) said
  told-view v WentOn said = refl
  told-view v Finished said = refl
  told-view v (Price p) said = refl
  told-view v No said = refl
  told-view v answer.Idle said = refl

  entry_of-view : (a : Activity) → entry_of (labelled key a) ≡ key (entry_of a)
  entry_of-view Idle = sym kz
  entry_of-view (Reading v i) = refl
  entry_of-view (Replacing v k j x) = refl
  entry_of-view (WalkingBack v k) = refl
  entry_of-view (SeekingForward v k j) = refl
  entry_of-view (SeekingBack p v k j x) = refl

  moved_to-view : (s : Run) (w : ℕ) (a : Activity) (o : Outcome) → view key (moved_to s w a o) ≡ moved_to (view key s) w (labelled key a) (outcome key o)
  moved_to-view s w a o = rw (
    map-set key s.table (cell_of a) o.content,
    map-set (labelled key) s.workers w o.activity,
    told-view (entry_of a) o.answer s.said,
    cell-view key a,
    busy-view key a,
    entry_of-view a,
  )

  pub record KnownState (s : Run) : Type 0 where
    pub cells : (j : ℕ) → Known (get_or s.table j 0)
    pub workers : (w : ℕ) → Remembers (worker s w)

  moved_view : (s : Run) (w : ℕ) → KnownState s → view key (moved 2 n key home s w) ≡ moved 2 n plain home (view key s) w
  unfolding moved
  moved_view s w known =
      let a = worker s w in
      let c = get_or s.table (cell_of a) 0 in
      moved_to-view s w a (rule 2 n key home a c)
      ∙ rw (worker-view key s w, cell-view key a, label_at key kz s.table (cell_of a), ← rule-view a c (known.workers w) (known.cells (cell_of a)))

  -- ---- an event
  cond-run : (b : Bool) (x s y z : Run) → view key x ≡ y → view key s ≡ z → view key (cond b x s) ≡ cond b y z
  cond-run true x s y z e d = e
  cond-run false x s y z e d = d

  ordered-view : (s : Run) (w v : ℕ) → view key (ordered 2 n key home s w v) ≡ ordered 2 n plain home (view key s) w (key v)
  unfolding ordered
  ordered-view s w v = rw (map-set (labelled key) s.workers w (Reading v (home (key v))))

  event-view : (e : Event) (s : Run) → KnownState s → view key (event 2 n key home e s) ≡ event 2 n plain home (viewed key e) (view key s)
  unfolding event accepts
  event-view (order w v) s known =
      rw (length-map s.workers (labelled key), worker-view key s w, busy-view key (worker s w))
      (cond-run (ltb w (length s.workers)) _ _ _ _ (cond-run (accepts 2 n key home (worker s w) v) _ _ _ _ (ordered-view s w v) refl) refl)
  event-view (step w) s known =
      rw (length-map s.workers (labelled key), stepped-moved 2 n key home s w, stepped-moved 2 n plain home (view key s) w)
      (cond-run (ltb w (length s.workers)) _ _ _ _ (moved_view s w known) refl)

  -- ---- the contents stay known
  written_known : (u : List ℕ) (c x : ℕ) → ((j : ℕ) → Known (get_or u j 0)) → Known x → (j : ℕ) → Known (get_or (set u c x) j 0)
  written_known u c x h kx j = by-eq j c
      (λ z. rw z (by-lt c (length u)
      (λ l. rw (get_or-set_same u c x 0 l) kx) (λ l. inl (get_or-eq_default (set u c x) 0 (omega (arith, length-set u c x))))))
      (λ z. rw (get_or-set_other u c j x 0 z) (h j))

  pub opening-known : (W : ℕ) → KnownState (opened W t)
  opening-known W = record { cells = λ j. by-eq (get_or t j 0) 0 inl (λ z. inr (holds-in (suc j) t (get_or t j 0) z (record { cell = j; inside = omega arith; is = refl }))); workers = λ w. rw (crew-idle W w) tt }

  event-known : (e : Event) (s : Run) → KnownState s → KnownState (event 2 n key home e s)
  unfolding ordered moved
  event-known e s known = event-by 2 n key home KnownState e s known
      (λ w v wl _ _. record { cells = known.cells; workers = set_all Remembers s.workers w (Reading v (home (key v))) wl known.workers tt })
      (λ w wl.
      let a = worker s w in
      let r = rule-known a (get_or s.table (cell_of a) 0) (known.workers w) (known.cells (cell_of a)) in
      record { cells = written_known s.table (cell_of a) _ known.cells r.1; workers = set_all Remembers s.workers w _ wl known.workers r.0 })

  -- ---- a list of events
  pub run-known : (es : List Event) (s : Run) → KnownState s → KnownState (run 2 n key home es s)
  run-known es s known = run-keeps 2 n key home KnownState event-known es s known

  pub run-view : (es : List Event) (s : Run) → KnownState s → view key (run 2 n key home es s) ≡ run 2 n plain home (map (viewed key) es) (view key s)
  unfolding run
  run-view [] s known = refl
  run-view (e ∷ es) s known =
      run-view es (event 2 n key home e s) (event-known e s known) ∙ ap (run 2 n plain home (map (viewed key) es)) (event-view e s known)
