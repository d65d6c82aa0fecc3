-- What is known of the insert phase that a migration follows, said of the migration.
use Rattle.std.specs.Prelude.{Ok, Err}
use mathlib.Core.Path.{◌≡◌, refl, sym, ap, subst, ◌∙◌}
use mathlib.Core.Logic.Iff
use mathlib.Core.Logic.{◌≢◌, ◌↔◌, ◌⊎◌, inl, inr, ⊎_elim}
use mathlib.Core.Bool.{true, false}
use mathlib.Core.List.{List, [], ◌∷◌, ◌++◌, map}
use Prim.Native.Nat.{ℕ, suc, ◌+◌, ◌*◌, ◌^◌, ◌≤◌, ◌<◌}
use native.Mathlib.Nat.{mul-le-mul_right}
use native.Mathlib.Omega.{arith}
use lib.Dec.{T}
use lib.ListN.{length, get_or, replicate, length-map, length-replicate, get_or-map, get_or-eq_default}
use borrow.Author.Tests.{lt-leb}
use Rattle.ring.specs.Counting.{bit, count}
use Rattle.ring.proofs.Split.{by-lt}
use Rattle.ring.proofs.Tests.{not_both, true-says}
use Rattle.layout.specs.Layout.{In}
use Rattle.layout.specs.Sound.{Holds, Ordered}
use Rattle.layout.proofs.Sets.{cell_in, in-holds, in-append, subset-size}
use Rattle.homes.specs.declared.Hash.{Hash}
use Rattle.prices.specs.Contents.{label, price, price_ok, cell_ok, SoundTable}
use Rattle.prices.specs.Priced.{labels, Least, SameLeast, PricedSound, priced_layout}
use Rattle.prices.proofs.Contents.{contents}
use Rattle.prices.proofs.Labels.{in-labels, labels_in, label_at}
use Rattle.prices.proofs.Least.{itself, cover-least}
use Rattle.prices.proofs.Theorem.{theorem as layouts, one-content, own-least}
use Rattle.activities.specs.Activities.{entry_of, activity_ok}
use Rattle.activities.specs.declared.Activity.TheVariants.{Idle}
use Rattle.activities.proofs.Activities.{suits-says}
use Rattle.rule.specs.Events as events
use Rattle.rule.specs.Events.{Run, Event, AllIdle, event}
use Rattle.rule.proofs.Crew.{replicate-at}
use Rattle.phases.specs.Promise as phases
use Rattle.phases.specs.Promise.{most_steps, Always, Roomy, PricesOk, Phases, StaysSound}
use Rattle.determinism.proofs.Closing.{stays-sound}
use Rattle.determinism.proofs.Theorem as determinism
use Rattle.state.specs.Model.{Model, Proper}
use Rattle.protocol.specs.Promise.{SoundIn}
use Rattle.protocol.specs.Replies.{TurnReply}
use Rattle.protocol.proofs.Chain.{by-reply}
use Rattle.history.specs.History.{worked}
use Rattle.history.proofs.Standing.{same-behind, standing}
use Rattle.migration.specs.Calls.{task_at, is_well_formed, open_reply, order_reply, order_call, close_reply, turn_check, turn_call}
use Rattle.migration.specs.Claim.{most_turns, present, Fetched}
use Rattle.migration.specs.Courses.{Call, order, turn, close, Course, after_turn, call, run, turn_replies, opening}
use Rattle.migration.specs.Promise.{WellFormed}
use Rattle.migration.specs.Tasks.{free, carrier, load_of, Allowed, one_carry}
use Rattle.migration.specs.declared.Carrier.{Carrier}
use Rattle.migration.specs.declared.Migration.{Migration}
use Rattle.migration.specs.declared.Task.{Task}
use Rattle.migration.specs.declared.Task.TheVariants.{Fetching, Inserting}
use Rattle.migration.proofs.Counting.{inserting, not-fetching, agrees-free, Awaited, fetching-none}
use Rattle.migration.proofs.Follow.{Follows, next}
use Rattle.migration.proofs.Formed.{suits-allowed, well-formed-says}
use Rattle.migration.proofs.Keeping.{fresh-rest}
use Rattle.migration.proofs.Passing.{OpenPassed, open-passed, turn-passed}
use Rattle.migration.proofs.TwoTurns.{turn-told}

-- more operations have no lower bound
pub more-steps : (l m K L : ℕ) → K ≤ L → most_steps l m K ≤ most_steps l m L
more-steps l m K L le = omega (arith, mul-le-mul_right ((m * (5 * l + 2) + 1) * ((l + 1) * (m * (m + 1) ^ suc m + 1) + (m + 1) ^ m) + (5 * l + 2)) le)

-- what a worker carries is what it is at the new table inserting
load_is : (a : Task) → load_of a ≡ entry_of (inserting a)
load_is (Fetching c) = refl
load_is (Inserting a) = refl

module _ (M : Model) (proper : Proper M) (m : ℕ) (ab : Hash) (old new : List ℕ) (accepted : open_reply M m ab old new ≡ Ok tt) where
  passed : OpenPassed M m ab old new
  passed = open-passed M proper m ab old new accepted

  -- ---- homes are cells of their tables
  pub homes : (x : ℕ) → M.home ab (length new) x < length new
  homes x = proper.homes ab (length new) x (omega (arith, proper.some, passed.to))

  old-homes : (x : ℕ) → M.home ab (length old) x < length old
  old-homes x = proper.homes ab (length old) x (omega (arith, proper.some, passed.from))

  -- ---- the opening
  pub opening-follows : Follows (length new) m ab old (opening M m ab old new) (events.opened m new)
  opening-follows =
      let n = length old in
      let rest = fresh-rest M n (length new) m false ab in
      let manned : m ≤ M.room = omega (arith, proper.places, passed.crew) in
      let none = fetching-none m (replicate M.room (carrier free)) rest in
      rw accepted
      (record {
        unchanged = refl;
        table = refl;
        frame = record { kind = refl; from = refl; to = refl; crew = refl; hash = refl; sized = refl };
        crew = record {
          records = rw length-replicate manned;
          places = rw length-replicate manned;
          all = length-replicate m Idle;
          each = λ w. rw (rest w, replicate-at Idle m w, replicate-at false M.room w) (agrees-free n m w);
        };
        one_each = refl;
        at_most = omega arith;
        turns = omega (arith, none);
        orders = omega (arith, none);
        known = λ v i. absurd i;
        handed = λ u c z. absurd (not-fetching Idle c (sym (rest u) ∙ z));
        once = λ u v c y z. absurd (not-fetching Idle c (sym (rest u) ∙ y));
        given = λ c low nz. absurd (omega arith);
        shut = refl;
        rest = λ closed. absurd (not_both false closed refl);
        whole = λ closed. absurd (not_both false closed refl);
      })

  -- ---- the new table is sound at opening, and holds nothing
  blank : (j : ℕ) → get_or new j 0 ≡ 0
  blank j = by-lt j (length new) (passed.fit.0 j) (λ low. get_or-eq_default new 0 low)

  new-sound : SoundTable (length new) (M.home ab (length new)) new
  new-sound =
      let none : (j : ℕ) → get_or (labels label new) j 0 ≡ 0 = λ j. label_at label refl new j ∙ ap label (blank j) in
      record {
        paths = record {
          sized = length-map new label;
          gap = record { cell = 0; inside = omega (arith, passed.fit.1); is = none 0 };
          ordered = λ j c _ _ nz _. absurd (nz (none j));
        };
        cells = λ j _. rw (blank j) tt;
      }

  old-sound : PricedSound (length old) label (M.home ab (length old)) old
  old-sound = contents.priced (length old) (M.home ab (length old)) old passed.sound

  -- every label of the old table has a right price
  right-price : (v : ℕ) → label v ≢ 0 → In v old → T (price_ok (price v))
  right-price v nz i =
      let h = in-holds (length old) old v refl i in
      ⊎_elim (λ (z : v ≡ 0). absurd (nz (ap label z))) (λ (_, low, high). (contents.prices (price v)).1 (low, high))
      ((contents.cells v).0 (subst (λ (x : ℕ). T (cell_ok x)) h.is (passed.sound.cells h.cell h.inside)))

  -- ---- the insert phase r that the migration s follows
  module _ (s : Course) (r : Run) (f : Follows (length new) m ab old s r) where
    -- its operations are for old contents
    handed_out_lem : (v : ℕ) → label v ≢ 0 → In v (r.ordered ++ new) → (c : ℕ) × Fetched s.migration c × (get_or old c 0 ≡ v)
    handed_out_lem v nz i = ⊎_elim (λ d. (f.known v d).1)
        (λ d. let h = in-holds (length new) new v refl d in absurd (nz (ap label (sym h.is ∙ blank h.cell))))
        ((in-append r.ordered new v).0 i)

    in-old : (v : ℕ) → ((c : ℕ) × Fetched s.migration c × (get_or old c 0 ≡ v)) → In v old
    in-old v (c, (below, _), is) = rw is at (cell_in old c (omega (arith, f.one_each, f.at_most)))

    from_old : (v : ℕ) → label v ≢ 0 → In v (r.ordered ++ new) → In v old
    from_old v nz i = in-old v (handed_out_lem v nz i)

    -- so the labels fit
    roomy : Roomy (length new) label new r
    roomy = omega (
      arith,
      passed.fit.1,
      subset-size (labels label (r.ordered ++ new)) (labels label old) (λ x nz i.
          let o = labels_in label (r.ordered ++ new) x i in
          rw o.is at (in-labels label old o.content (from_old o.content (λ z. nz (sym o.is ∙ z)) o.member))),
    )

    -- and have right prices
    priced : PricesOk 1 r.ordered
    priced _ v i = let (nz, there) = f.known v i in right-price v nz (in-old v there)

    -- each operation's content is the only one of its label
    ordered-least : (v : ℕ) → label v ≢ 0 → In v r.ordered → Least label (r.ordered ++ new) v
    ordered-least v nz i =
        let there = (in-append r.ordered new v).1 (inl i) in
        record {
          member = there;
          most = λ x j e.
              let d : x ≡ v = one-content (length old) label (M.home ab (length old)) refl old-homes old old-sound x v
              (from_old x (λ z. nz (sym e ∙ z)) j) (from_old v nz there) (λ z. nz (sym e ∙ z)) e in
              omega arith;
        }

    -- ---- once closed, the workers are idle there, and the operations are for all old contents
    closed-idle : s.closed ≡ true → AllIdle r
    closed-idle c w = (f.crew.each w).same ∙ ap inserting (f.rest c w)

    closed-least : s.closed ≡ true → SameLeast label (r.ordered ++ new) old
    closed-least e = cover-least label (r.ordered ++ new) old from_old (λ v nz i.
        let h = in-holds (length old) old v refl i in
        let c = h.cell in
        itself label _ v ((in-append r.ordered new v).1 (inl (⊎_elim
        (λ d. rw h.is at d)
        (λ (g : Awaited s.migration.carriers c). absurd (not-fetching Idle c (sym (f.rest e g.0) ∙ g.1)))
        (f.given c (omega (arith, h.inside, f.one_each, f.whole e)) (λ z. nz (sym (ap label h.is) ∙ z)))))))

  -- ---- said of the migration
  module _ (es : List Event) (s : Course) (f : Follows (length new) m ab old s (events.after 1 (length new) m label (M.home ab (length new)) new es)) where
    abbrev l : ℕ
    l = length new

    abbrev home : ℕ → ℕ
    home = M.home ab (length new)

    abbrev r : Run
    r = events.after 1 (length new) m label (M.home ab (length new)) new es

    laws : Phases (length new) m label (M.home ab (length new)) new es
    laws = determinism.phases l m label home (record { blank = refl; inside = homes }) new (contents.priced l home new new-sound) es

    always : Always 1 (length new) m label r
    always = laws.insert_always (roomy s r f)

    stays : StaysSound 1 (length new) m (M.home ab (length new)) new es
    stays = stays-sound 1 l m (inl refl) home homes new new-sound es (λ _. roomy s r f) (priced s r f)

    -- ---- the new table
    pub closed : s.closed ≡ true → s.new ≡ priced_layout (length new) label (M.home ab (length new)) old
    closed c = f.table ∙ (laws.inserts (roomy s r f)).at_rest (closed-idle s r f c)
        ∙ (layouts l label home refl homes).set_only (r.ordered ++ new) old (closed-least s r f c)

    pub same : s.closed ≡ true → (y : ℕ) → label y ≢ 0 → In y s.new ↔ In y old
    same c y nz = Iff.trans (standing l home homes old s.new passed.fit.1 (closed c) y nz)
        (λ h. h.member, own-least (length old) label (M.home ab (length old)) refl old-homes old old-sound y nz)

    pub sound : s.closed ≡ true → SoundIn M ab s.new
    sound c = rw (f.frame.sized, f.table) (stays.closed (closed-idle s r f c))

    pub cells : (j : ℕ) → T (cell_ok (get_or s.new j 0))
    cells j = rw f.table (stays.cells j)

    pub ordering : Ordered (length new) (M.home ab (length new)) (labels label s.new)
    ordering = rw f.table laws.carries.ordering

    pub gap : Holds (length new) s.new 0
    gap = rw f.table (laws.inserts (roomy s r f)).gap

    -- ---- what stands in it and what the workers carry there
    -- place by place
    carried-at : (w : ℕ) → get_or (map (λ (x : Carrier). load_of x.task) s.migration.carriers) w 0 ≡ get_or (map entry_of r.workers) w 0
    carried-at w =
        get_or-map (λ (x : Carrier). load_of x.task) s.migration.carriers w (carrier free)
        ∙ load_is (task_at s.migration w)
        ∙ ap entry_of (sym (f.crew.each w).same)
        ∙ sym (get_or-map entry_of r.workers w Idle)

    present-same : (y : ℕ) → y ≢ 0 → In y (present s) ↔ In y (phases.present r)
    present-same y nz =
        rw f.table (same-behind r.table (map (λ (x : Carrier). load_of x.task) s.migration.carriers) (map entry_of r.workers) carried-at y nz)

    some : (y : ℕ) → label y ≢ 0 → y ≢ 0
    some y nz z = nz (ap label z)

    pub only : (y : ℕ) → label y ≢ 0 → In y (present s) → (c : ℕ) × Fetched s.migration c × (get_or old c 0 ≡ y)
    only y nz i = handed_out_lem s r f y nz (laws.carries.only y nz ((present-same y (some y nz)).0 i))

    pub kept : (c : ℕ) → c < s.migration.next → label (get_or old c 0) ≢ 0
        → In (get_or old c 0) (present s) ⊎ ((w : ℕ) × (task_at s.migration w ≡ Fetching c))
    kept c low nz =
        let y : ℕ = get_or old c 0 in
        ⊎_elim
        (λ i. inl ((present-same y (some y nz)).1 ((laws.carries.prices y nz).1 (ordered-least s r f y nz i)).member))
        inr (f.given c low nz)

    -- ---- the state
    allowed : (w : ℕ) (a : Task) → task_at s.migration w ≡ a → Allowed (length old) (length new) a
    allowed w (Fetching c) is = (f.crew.each w).low c is
    allowed w (Inserting a) is = (suits-allowed (length old) l a).0
        ((suits-says 1 l label a).0 ((true-says (activity_ok 1 l label a)).1 (rw ((f.crew.each w).same ∙ ap inserting is) at (always.formed w))))

    well-formed : WellFormed M s.migration
    well-formed =
        record {
          kind = f.frame.kind;
          from = rw f.frame.from passed.from;
          to = rw f.frame.to passed.to;
          crew = rw f.frame.crew passed.crew;
          handed = omega (arith, f.frame.from, f.one_each, f.at_most);
          past = λ w low. (f.crew.each w).past (omega (arith, f.frame.crew));
          workers = λ w _. rw (f.frame.from, f.frame.to) (allowed w (task_at s.migration w) refl);
        }

    pub formed : is_well_formed M s.migration ≡ true
    formed = (well-formed-says M s.migration).1 well-formed

    -- a free worker's order is accepted while old cells remain
    pub accepts : s.closed ≡ false → s.accepted < length old → (w : ℕ) → w < m → task_at s.migration w ≡ free → (order_call M s.migration w).reply ≡ Ok tt
    accepts up remains w low is =
        let p = s.migration in
        let running : p.shut ≡ false = f.shut ∙ up in
        rw (formed, running, lt-leb p.crew w (omega (arith, f.frame.crew)), is, lt-leb p.source p.next (omega (arith, f.frame.from, f.one_each)))

    -- ---- the bound
    pub bounded : s.counted < most_turns (length old) (length new) m s.accepted
    bounded = omega (arith, always.bounded, more-steps l m (length r.ordered) s.accepted (omega (arith, f.orders)), f.turns)

-- ---- the counted turns are those whose answers tell of an unfinished order
-- what a turn's answer adds, if it is not refused
turn-adds : (w : ℕ) (u t : List ℕ) (p : Migration) (r : TurnReply) (s : Course) → bit (worked r) ≡ bit (get_or s.unfinished w false)
    → (after_turn w u t p r s).counted ≡ bit (worked r) + s.counted
turn-adds w u t p (Ok a) s e = omega arith
turn-adds w u t p (Err r) s e = omega arith

module _ (M : Model) (l m : ℕ) (ab : Hash) (old : List ℕ) where
  pub turn-counts : (w : ℕ) (s : Course) (r : Run) → Follows l m ab old s r
      → (call M (turn w) s).counted ≡ bit (worked (turn_call M s.migration s.old s.new w).reply) + s.counted
  unfolding call
  turn-counts w s r f =
      let p = s.migration in
      by-reply (turn_check M p s.old s.new w)
      (λ e. let q = turn-passed M p s.old s.new w e in
      rw e (turn-adds w _ _ _ (one_carry M p.hash p.length s.old s.new (task_at p w)).reply s
      (turn-told M p.hash p.length s.old s.new p.source (task_at p w) (q.formed.workers w q.below) ∙ sym (f.crew.each w).flag)))
      (λ _ e. rw e (omega arith))

  order-counts : (w : ℕ) (s : Course) → (call M (order w) s).counted ≡ s.counted
  unfolding call
  order-counts w s = by-reply (order_reply M s.migration w) (λ e. rw e) (λ _ e. rw e)

  close-counts : (s : Course) → (call M close s).counted ≡ s.counted
  unfolding call
  close-counts s = by-reply (close_reply M s.migration) (λ e. rw e) (λ _ e. rw e)

  -- the counted turns of the list are added to those counted before
  abbrev Counts : List Call → Course → Type 0
  Counts cs s = (run M cs s).counted ≡ count worked (turn_replies M cs s) + s.counted

  one_more : (c : Call) (cs : List Call) (s : Course) (r : Run) → Follows l m ab old s r → Counts cs (call M c s) → Counts (c ∷ cs) s
  unfolding run turn_replies count
  one_more (order w) cs s r f e = omega (arith, order-counts w s)
  one_more (turn w) cs s r f e = omega (arith, turn-counts w s r f)
  one_more close cs s r f e = omega (arith, close-counts s)

  pub counts : (cs : List Call) (s : Course) (r : Run) → Follows l m ab old s r → (run M cs s).counted ≡ count worked (turn_replies M cs s) + s.counted
  unfolding run turn_replies count
  counts [] s r f = omega arith
  counts (c ∷ cs) s r f = one_more c cs s r f
      (⊎_elim
      (λ (g : Follows l m ab old (call M c s) r). counts cs (call M c s) r g)
      (λ (g : (e : Event) × Follows l m ab old (call M c s) (event 1 l label (M.home ab l) e r)).
      counts cs (call M c s) (event 1 l label (M.home ab l) g.0 r) g.1)
      (next M l m ab old c s r f))
