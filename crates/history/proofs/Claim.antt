-- What is known of the run that a history shows, said of the history.
use Rattle.std.specs.Prelude.{Ok}
use mathlib.Core.Path.{◌≡◌, refl, sym, ap, ◌∙◌}
use mathlib.Core.Logic.Iff
use mathlib.Core.Logic.{◌≢◌, ◌↔◌, ◌⊎◌, inl, inr, ⊎_map, ⊎_elim}
use mathlib.Core.Bool.{true, false}
use mathlib.Core.List.{List, [], ◌∷◌, ◌++◌, map}
use Prim.Native.Nat.{ℕ, zero, suc, ◌+◌, ◌≤◌, ◌<◌}
use native.Mathlib.Omega.{arith}
use lib.Dec.{T, eqb}
use lib.ListN.{length, get_or, get_or-map, get_or-eq_default}
use borrow.Author.Tests.{ne_eqb}
use Rattle.ring.specs.Counting.{bit, over, count}
use Rattle.ring.proofs.Counting.{tally-ext, tally-cut, count-sum}
use Rattle.ring.proofs.Tests.{true-says}
use Rattle.layout.specs.Layout.{In, size}
use Rattle.layout.specs.Sound.{Ordered}
use Rattle.layout.proofs.Sets.{in-append}
use Rattle.homes.specs.declared.Hash.{Hash}
use Rattle.prices.specs.Contents.{label, cell_ok, SoundTable}
use Rattle.prices.specs.Priced.{labels, Least, SameLeast, priced_layout, without_labels}
use Rattle.prices.proofs.Contents.{contents}
use Rattle.prices.proofs.Labels.{label_at, labels_append, in-without_labels}
use Rattle.prices.proofs.Theorem.{theorem as layouts}
use Rattle.orders.specs.Orders.{blank, ordered_keys}
use Rattle.orders.specs.declared.Order.{Order}
use Rattle.activities.specs.Activities.{entry_of, idle, activity_ok}
use Rattle.activities.specs.declared.Activity.TheVariants.{Idle}
use Rattle.activities.specs.declared.Worker.{Worker}
use Rattle.activities.proofs.Activities.{suits-says}
use Rattle.rule.specs.Events as events
use Rattle.rule.specs.Events.{Said, Run, Event, AllIdle}
use Rattle.phases.specs.Promise as phases
use Rattle.phases.specs.Promise.{most_steps, Always, Roomy, Carries, Inserts, Deletes, Finds, Rules, PricesOk}
use Rattle.phases.proofs.Roomy.{room_by}
use Rattle.determinism.proofs.Closing.{stays-sound}
use Rattle.determinism.proofs.Theorem as determinism
use Rattle.state.specs.Model.{Model}
use Rattle.protocol.specs.Bars.{doing}
use Rattle.protocol.specs.Calls.{order_call}
use Rattle.protocol.specs.IsWellFormed.{is_well_formed}
use Rattle.protocol.specs.WellFormed.{Size, Crew, Kind}
use Rattle.protocol.specs.Lines.{Good}
use Rattle.protocol.proofs.Chain.{none-accepted}
use Rattle.protocol.proofs.Theorem.{well-formed, orders}
use Rattle.history.specs.History.{History}
use Rattle.history.specs.Promise.{entries_after, OfLine, AsOpened, Carried, present}
use Rattle.history.proofs.Opening.{by-kinds}
use Rattle.history.proofs.Simulation.{Shows}
use Rattle.history.proofs.Standing.{price-ok, somewhere, same-behind, same-least, standing, fewer}
use Rattle.history.proofs.Taking.{Taken}

-- ---- what is known of a run, by its kind
pub record Known (k n m : ℕ) (home : ℕ → ℕ) (t : List ℕ) (r : Run) : Type 0 where
  pub always : Always k n m label r
  pub room : k ≡ 1 → Roomy n label t r
  pub carries : k ≡ 1 → Carries n label home t r
  pub inserts : k ≡ 1 → Inserts n label home t r
  pub deletes : k ≡ 2 → Deletes n label home t r
  pub finds : k ≡ 3 → Finds m label t r
  pub cells : (j : ℕ) → T (cell_ok (get_or r.table j 0))
  pub sound : AllIdle r → SoundTable n home r.table

-- the key of a line is among the keys of its list
pub key_in : (os : List Order) (i : ℕ) → i < length os → In (get_or os i blank).key (ordered_keys os)
key_in [] i l = omega arith
key_in (o ∷ os) zero l = inl refl
key_in (o ∷ os) (suc i) l = inr (key_in os i (omega arith))

kinds : (k : ℕ) → Kind k → (k ≡ 1) ⊎ (k ≡ 2) ⊎ (k ≡ 3)
kinds k e = by-kinds k e inl (λ is. inr (inl is)) (λ is. inr (inr is))

module _ (k n m : ℕ) (ab : Hash) (home : ℕ → ℕ) (hb : (x : ℕ) → home x < n) (t : List ℕ) (ok : SoundTable n home t) (kind : Kind k) where
  rules : Rules n label home
  rules = record { blank = refl; inside = hb }

  known_of : (es : List Event) → (k ≡ 1 → Roomy n label t (events.after k n m label home t es)) → PricesOk k (events.after k n m label home t es).ordered
      → Known k n m home t (events.after k n m label home t es)
  known_of es few priced =
      let p = determinism.phases n m label home rules t (contents.priced n home t ok) es in
      let c = stays-sound k n m (kinds k kind) home hb t ok es few priced in
      record {
        always = by-kinds k kind (λ is. rw is (p.insert_always (rw is at (few is)))) (λ is. rw is p.delete_always) (λ is. rw is p.find_always);
        room = few;
        carries = λ is. rw is p.carries;
        inserts = λ is. rw is (p.inserts (rw is at (few is)));
        deletes = λ is. rw is p.deletes;
        finds = λ is. rw is p.finds;
        cells = c.cells;
        sound = c.closed;
      }

  module _ (os : List Order) (room : k ≡ 1 → size (labels label t ++ ordered_keys os) < n) where
    -- the accepted orders leave room, however often a line is given
    roomy : (s : History) (r : Run) → Shows k n m ab s r → Taken k (OfLine os) s → k ≡ 1 → Roomy n label t r
    roomy s r h b is = room_by n label t (ordered_keys os) r (room is)
        (λ v i. let o = b.lines is v (rw h.ordered i) in rw o.is (key_in os o.line o.inside))

    -- and have prices that a label can have
    pub known : (es : List Event) (s : History) → Shows k n m ab s (events.after k n m label home t es) → Taken k (OfLine os) s
        → Known k n m home t (events.after k n m label home t es)
    known es s h b = known_of es (roomy s (events.after k n m label home t es) h b)
        (λ is v i. let (low, high) = (b.entries v (rw h.ordered i)).priced is in price-ok _ low high)

-- ---- an insert phase: what stands in the table and what the workers carry
module _ (k n m : ℕ) (ab : Hash) (home : ℕ → ℕ) (t : List ℕ) (s : History) (r : Run) (h : Shows k n m ab s r) (o : Carries n label home t r) where
  pub ordering : Ordered n home (labels label s.table)
  ordering = rw h.table o.ordering

  -- place by place
  carried-at : (w : ℕ) → get_or (map (λ (x : Worker). entry_of x.activity) s.phase.workers) w 0 ≡ get_or (map entry_of r.workers) w 0
  carried-at w =
      get_or-map (λ (x : Worker). entry_of x.activity) s.phase.workers w idle
      ∙ ap entry_of (h.crew.same w)
      ∙ sym (get_or-map entry_of r.workers w Idle)

  -- with what stands in the table
  present-same : (y : ℕ) → y ≢ 0 → In y (present s) ↔ In y (phases.present r)
  present-same y nz =
      rw h.table (same-behind r.table (map (λ (x : Worker). entry_of x.activity) s.phase.workers) (map entry_of r.workers) carried-at y nz)

  pub prices : SameLeast label (present s) (s.ordered ++ t)
  prices y nz = rw h.ordered (Iff.trans (same-least (present s) (phases.present r) present-same y nz) (o.prices y nz))

  pub only : (y : ℕ) → label y ≢ 0 → In y (present s) → In y (s.ordered ++ t)
  only y nz i = rw h.ordered (o.only y nz ((present-same y (λ z. nz (ap label z))).0 i))

  carried : (v : ℕ) → v ≢ 0 → Carried s v ↔ In v (labels label (map entry_of r.workers))
  carried v nz =
      let ys : List ℕ = map entry_of r.workers in
      let at : (w : ℕ) → get_or (labels label ys) w 0 ≡ label (entry_of (doing s.phase w))
      = λ w. label_at label refl ys w ∙ ap label (get_or-map entry_of r.workers w Idle) ∙ ap (λ a. label (entry_of a)) (sym (h.crew.same w)) in
      let p = somewhere (labels label ys) v nz in (λ (w, is). p.1 (w, at w ∙ is), λ i. let (w, is) = p.0 i in (w, sym (at w) ∙ is))

  pub union : (v : ℕ) → v ≢ 0
      → (In v (labels label s.table) ⊎ Carried s v) ↔ (In v (labels label t) ⊎ In v (labels label s.ordered))
  union v nz =
      let ys : List ℕ = map entry_of r.workers in
      let here = in-append (labels label r.table) (labels label ys) v in
      let there = in-append (labels label r.ordered) (labels label t) v in
      let u : In v (labels label r.table ++ labels label ys) ↔ In v (labels label r.ordered ++ labels label t)
      = rw (← labels_append label r.table ys, ← labels_append label r.ordered t) (o.union v nz) in
      rw (h.table, h.ordered) (
        λ i. ⊎_elim inr inl (there.0 (u.0 (here.1 (⊎_map (λ j. j) (carried v nz).0 i)))),
        λ i. ⊎_map (λ j. j) (carried v nz).1 (here.0 (u.1 (there.1 (⊎_elim inr inl i)))),
      )

-- ---- said of a history that shows the run
module _ (k n m : ℕ) (ab : Hash) (home : ℕ → ℕ) (hb : (x : ℕ) → home x < n) (t : List ℕ) (ok : SoundTable n home t) (kind : Kind k)
    (s : History) (r : Run) (h : Shows k n m ab s r) (g : Known k n m home t r) where
  -- ---- a closed phase has come to rest
  pub closed : s.closed ≡ true → s.table ≡ priced_layout n label home (entries_after k s.ordered t)
  closed c = rw (h.table, h.ordered)
      (by-kinds k kind
      (λ is. rw is ((g.inserts is).at_rest (h.rest c)))
      (λ is. rw is ((g.deletes is).at_rest (h.rest c)))
      (λ is. rw is ((g.finds is).unchanged ∙ (layouts n label home refl hb).own t (contents.priced n home t ok))))

  pub cells : (j : ℕ) → T (cell_ok (get_or s.table j 0))
  cells j = rw h.table (g.cells j)

  pub cheapest : k ≡ 1 → s.closed ≡ true → (y : ℕ) → label y ≢ 0 → In y s.table ↔ Least label (s.ordered ++ t) y
  cheapest is c = rw (h.table, h.ordered) (standing n home hb (r.ordered ++ t) r.table (g.room is) ((g.inserts is).at_rest (h.rest c)))

  pub remaining : k ≡ 2 → s.closed ≡ true → (y : ℕ) → label y ≢ 0 → In y s.table ↔ (In y t × (In (label y) (labels label s.ordered) → ⊥))
  remaining is c y nz = rw (h.table, h.ordered) (
    λ i. (in-without_labels label r.ordered t y).0 ((standing n home hb (without_labels label r.ordered t) r.table (fewer n home hb r.ordered t ok)
        ((g.deletes is).at_rest (h.rest c)) y nz).0 i).member,
    λ (i, out). (g.deletes is).kept y nz i out,
  )

  -- ---- the phase state
  past-idle : (w : ℕ) → m ≤ w → get_or r.workers w Idle ≡ Idle
  past-idle w l = get_or-eq_default r.workers Idle (omega (arith, h.crew.all))

  pub formed : (M : Model) → Size M n → Crew M m → is_well_formed M s.phase ≡ true
  formed M size crew = (well-formed M s.phase).1
      (record {
        kind = rw h.kind kind;
        size = rw h.cells size;
        crew = rw h.count crew;
        past = λ w l. h.crew.same w ∙ past-idle w (omega (arith, h.count));
        workers = λ w _. let x = get_or r.workers w Idle in
            rw (h.crew.same w, h.kind, h.cells) ((suits-says k n label x).0 ((true-says (activity_ok k n label x)).1 (g.always.formed w)));
      })

  pub bounded : s.counted < most_steps n m (length s.ordered)
  bounded = rw (h.counted, h.ordered) g.always.bounded

  pub as-opened : AsOpened k n m ab s
  as-opened = record { kind = h.kind; cells = h.cells; crew = h.count; hash = h.hash; sized = rw h.table g.always.sized }

  -- a good line is accepted if its worker is idle
  pub accepts : (M : Model) → Size M n → Crew M m → (os : List Order) → (k ≡ 1 → (i : ℕ) → i < length os → Good m (get_or os i blank))
      → k ≡ 1 → s.closed ≡ false → (i : ℕ) → i < length os → doing s.phase (get_or os i blank).worker ≡ Idle
      → (w v : ℕ) → (order_call M s.phase os i w v).reply ≡ Ok tt
  accepts M size crew os good one up i there free w v =
      let o = good one i there in
      let (_, (_, (_, (_, (_, (_, (_, (_, none)))))))) = (orders M s.phase os i w v).inserts (h.kind ∙ one) in
      let formed = (well-formed M s.phase).0 (formed M size crew) in
      none-accepted _ (none.1 ((((((((tt, formed), h.shut ∙ up), there), omega (arith, h.count, o.worker)), free), o.key), o.shop), o.price))

  -- ---- look up
  -- the entries of unfinished operations are those that the workers look for
  unfinished : k ≡ 3 → (v : ℕ) → v ≢ 0 → count (λ x. eqb (label x) v) s.pending ≡ over (λ _ a. bit (eqb (label (entry_of a)) v)) Idle m r.workers
  unfinished is v nz =
      count-sum (λ x. eqb (label x) v) s.pending 0
      ∙ tally-cut (λ i. bit (eqb (label (get_or s.pending i 0)) v)) m (length s.pending) h.crew.places
      (λ i l. rw ((h.crew.agree i).entry is, past-idle i l, ne_eqb 0 v (λ z. nz (sym z))))
      ∙ tally-ext (λ i. bit (eqb (label (get_or s.pending i 0)) v)) (λ i. bit (eqb (label (entry_of (get_or r.workers i Idle))) v)) m
      (λ i _. ap (λ x. bit (eqb (label x) v)) ((h.crew.agree i).entry is))

  pub each : k ≡ 3 → (v : ℕ) → v ≢ 0
      → count (λ (a : Said). eqb (label a.wanted) v) s.said + count (λ x. eqb (label x) v) s.pending
      ≡ count (λ x. eqb (label x) v) s.ordered
  each is v nz = rw (h.said is, h.ordered, unfinished is v nz) ((g.finds is).each v nz)
