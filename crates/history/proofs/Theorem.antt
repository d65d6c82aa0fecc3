-- The promises of this crate.
use Rattle.std.specs.Prelude.{Ok}
use mathlib.Core.Path.{◌≡◌, refl, sym, ap, ◌∙◌, subst}
use mathlib.Core.Logic.Iff
use mathlib.Core.Logic.{◌≢◌, inl, ⊎_elim}
use mathlib.Core.Bool.{Bool, true, false, cond}
use mathlib.Core.List.{List, [], ◌∷◌, map}
use Prim.Native.Nat.{ℕ}
use native.Mathlib.Omega.{arith}
use lib.Dec.{eqb}
use lib.ListN.{length}
use borrow.Author.Tests.{ne_eqb}
use Rattle.ring.proofs.Split.{by-eq}
use Rattle.layout.specs.Layout.{In}
use Rattle.layout.proofs.Sets.{in-append}
use Rattle.homes.specs.declared.Hash.{Hash}
use Rattle.prices.specs.Contents.{label}
use Rattle.prices.specs.Priced.{SameLeast, priced_layout}
use Rattle.prices.proofs.Contents.{contents}
use Rattle.prices.proofs.Least.{append-least, without-labels-same}
use Rattle.prices.proofs.Theorem.{theorem as layouts}
use Rattle.orders.specs.declared.Order.{Order}
use Rattle.rule.specs.Events as events
use Rattle.rule.specs.Events.{Run}
use Rattle.phases.specs.Promise.{Carries, Deletes, Finds, SameOrders}
use Rattle.determinism.proofs.Theorem.{phases}
use Rattle.state.specs.Model.{Model, model_of}
use Rattle.state.proofs.Model.{proper}
use Rattle.state.specs.Open.{refused_phase}
use Rattle.state.specs.declared.Phase.{Phase}
use Rattle.protocol.specs.Calls.{close_reply}
use Rattle.protocol.proofs.Theorem.{open-passed}
use Rattle.history.specs.History.{Call, order, turn, close, History, call, run, Lent, run_lent, opening, after, after_lent}
use Rattle.history.specs.Promise.{entries_after, OfLine, HistoryPromise, AnyListsPromise, RefusedPromise, KeepsTablePromise, FixedPromise, OneTablePromise, BothOneTable, TwoTurnsPromise}
use Rattle.history.proofs.Claim.{known, closed, cells, cheapest, remaining, formed, as-opened, bounded, accepts, ordering, prices, only, union, each}
use Rattle.history.proofs.Counts.{counts}
use Rattle.history.proofs.Opening.{by-kinds, homes, resting, opening-untouched, opening-taken, opening-shows}
use Rattle.history.proofs.Refused.{refused-phase, refused-formed, shut-stays}
use Rattle.history.proofs.Simulation.{Shows, unfinished-says, simulates-lent, simulates}
use Rattle.history.proofs.Taking.{run-taken, run-lent-taken}
use Rattle.history.proofs.Turns.{alike}
use Rattle.history.proofs.Unordered.{run-untouched, close-accepted}

-- ---- one list of calls
pub history : HistoryPromise
history M proper k m ab t os accepted cs =
    let n = length t in
    let home = M.home ab n in
    let hb = homes M proper k m ab t os accepted in
    let q = open-passed M k m ab t os accepted in
    let ok = q.sound proper in
    let kind = q.kind in
    let s = after M k m ab t os cs in
    let start = opening-shows M proper k m ab t os accepted in
    let (es, h) = simulates M k n m ab os cs (opening M k m ab t os) (events.opened m t) start in
    let r = events.after k n m label home t es in
    let b = run-taken M k os cs (opening M k m ab t os) (opening-taken M proper k m ab t os accepted (OfLine os)) in
    let g = known k n m ab home hb t ok kind os (λ is. (q.list is).room) es s h b in
    record {
      closed = closed k n m ab home hb t ok kind s r h g;
      sound = λ c. rw (h.table, g.always.sized) (g.sound (h.rest c));
      cells = cells k n m ab home hb t ok kind s r h g;
      cheapest = cheapest k n m ab home hb t ok kind s r h g;
      remaining = remaining k n m ab home hb t ok kind s r h g;
      shut = h.shut;
      formed = formed k n m ab home hb t ok kind s r h g M q.size q.crew;
      numbers = as-opened k n m ab home hb t ok kind s r h g;
      unfinished = unfinished-says h;
      counts = counts M os k n m ab cs (opening M k m ab t os) (events.opened m t) start refl;
      bounded = bounded k n m ab home hb t ok kind s r h g;
      acceptable = b.entries;
      listed = b.lines;
      accepts = accepts k n m ab home hb t ok kind s r h g M q.size q.crew os (λ is. (q.list is).lines);
      ordering = λ is. ordering k n m ab home t s r h (g.carries is);
      union = λ is. union k n m ab home t s r h (g.carries is);
      prices = λ is. prices k n m ab home t s r h (g.carries is);
      only = λ is. only k n m ab home t s r h (g.carries is);
      kept = λ is. rw (h.table, h.ordered) (g.deletes is).kept;
      none_new = λ is. rw h.table (g.deletes is).only;
      unchanged = λ is. h.table ∙ (g.finds is).unchanged;
      right = λ is. rw (h.said is) (g.finds is).right;
      each = each k n m ab home hb t ok kind s r h g;
    }

-- ---- every order lent a list of its own
-- a call outside insert phases is the same with another list
call-unread : (M : Model) (os us : List Order) (c : Call) (s : History) → s.phase.kind ≢ 1 → call M us c s ≡ call M os c s
unfolding call
call-unread M os us (order i w v) s ne = rw (ne_eqb s.phase.kind 1 ne)
call-unread M os us (turn w) s ne = refl
call-unread M os us close s ne = refl

run-unread : (M : Model) (k n m : ℕ) (ab : Hash) (os : List Order) → k ≢ 1 → (cs : List Lent) (s : History) (r : Run) → Shows k n m ab s r
    → run_lent M cs s ≡ run M os (map (λ (c : Lent). c.asks) cs) s
unfolding run run_lent
run-unread M k n m ab os ne [] s r h = refl
run-unread M k n m ab os ne (c ∷ cs) s r h =
    let e : call M c.list c.asks s ≡ call M os c.asks s = call-unread M os c.list c.asks s (λ z. ne (sym h.kind ∙ z)) in
    let (es, g) = simulates M k n m ab os (c.asks ∷ []) s r h in
    ap (λ (x : History). run_lent M cs x) e
    ∙ run-unread M k n m ab os ne cs (call M os c.asks s) (events.run k n label (M.home ab n) es r) g

pub any_lists : AnyListsPromise
any_lists M proper k m ab t os accepted cs =
    let n = length t in
    let home = M.home ab n in
    let q = open-passed M k m ab t os accepted in
    let start = opening-shows M proper k m ab t os accepted in
    let (es, h) = simulates-lent M k n m ab cs (opening M k m ab t os) (events.opened m t) start in
    let s = after_lent M k m ab t os cs in
    let r = events.after k n m label home t es in
    let p = phases n m label home (record { blank = refl; inside = homes M proper k m ab t os accepted }) t (contents.priced n home t (q.sound proper)) es in
    let o : k ≡ 1 → Carries n label home t r = λ is. subst (λ (j : ℕ). Carries n label home t (events.after j n m label home t es)) (sym is) p.carries in
    let d : k ≡ 2 → Deletes n label home t r = λ is. subst (λ (j : ℕ). Deletes n label home t (events.after j n m label home t es)) (sym is) p.deletes in
    let f : k ≡ 3 → Finds m label t r = λ is. subst (λ (j : ℕ). Finds m label t (events.after j n m label home t es)) (sym is) p.finds in
    let entries = (run-lent-taken M k cs (opening M k m ab t os) (opening-taken M proper k m ab t os accepted (λ _. Unit {0}))).entries in
    record {
      ordering = λ is. ordering k n m ab home t s r h (o is);
      union = λ is. union k n m ab home t s r h (o is);
      prices = λ is. prices k n m ab home t s r h (o is);
      only = λ is. only k n m ab home t s r h (o is);
      acceptable = entries;
      no_test = λ y l i. by-kinds k q.kind
          (λ is. ⊎_elim
          (λ j. absurd (omega (arith, (entries y j).shop is)))
          (λ j. j)
          ((in-append s.ordered t y).0 (only k n m ab home t s r h (o is) y (λ z. omega arith) ((in-append s.table _ y).1 (inl i)))))
          (λ is. (d is).only y (λ z. omega arith) (subst (In y) h.table i))
          (λ is. subst (In y) (h.table ∙ (f is).unchanged) i);
      unread = λ ne. run-unread M k n m ab os ne cs (opening M k m ab t os) (events.opened m t) start;
    }

-- ---- a refused opening
pub refused : RefusedPromise
refused M k m ab t os no-opening cs =
    let e : (opening M k m ab t os).phase ≡ refused_phase M = refused-phase M os k m ab t no-opening in
    let kept : (after M k m ab t os cs).phase ≡ refused_phase M = shut-stays M os cs (opening M k m ab t os) (ap (λ (p : Phase). p.shut) e) ∙ e in
    (kept, λ a b. rw kept (refused-formed M a b))

-- ---- without orders
pub keeps_table : KeepsTablePromise
unfolding call run
keeps_table M proper k m ab t os accepted =
    let s = opening M k m ab t os in
    let still = opening-untouched M proper k m ab t os accepted in
    let r = resting M proper k m ab t os accepted in
    let c : close_reply M s.phase ≡ (Ok tt) = close-accepted M s.phase (history M proper k m ab t os accepted []).formed r.shut r.rest in
    record { at_once = rw c (refl, refl); no_orders = λ cs. (run-untouched M os t cs s still).table }

-- ---- two closed lists
pub fixed : FixedPromise
fixed M M' proper proper' k k' m m' ab ab' t t' os os' long agree a a' cs cs' same c c' =
    let n = length t in
    let xs = entries_after k' (after M' k' m' ab' t' os' cs').ordered t' in
    let rule : M.home ab n ≡ M'.home ab' n = λ i x. agree x i in
    (history M proper k m ab t os a cs).closed c
    ∙ (layouts n label (M.home ab n) refl (homes M proper k m ab t os a)).set_only _ _ same
    ∙ ap (λ (h : ℕ → ℕ). priced_layout n label h xs) rule
    ∙ ap (λ (l : ℕ). priced_layout l label (M'.home ab' l) xs) long
    ∙ sym ((history M' proper' k' m' ab' t' os' a' cs').closed c')

-- what relates both outcomes of one test
pairwise {ℓ} : {A : Type 0} (R : A → A → Type ℓ) (b : Bool) {x y x' y' : A} → R x x' → R y y' → R (cond b x y) (cond b x' y')
pairwise R true p q = p
pairwise R false p q = q

-- with the same orders
same-orders : (k : ℕ) (xs ys t : List ℕ) → SameOrders k label xs ys → SameLeast label (entries_after k xs t) (entries_after k ys t)
same-orders k xs ys t (same, cheap) = by-eq k 1
    (λ is. rw is (append-least label refl xs ys t (cheap is)))
    (λ ne. rw (ne_eqb k 1 ne) (pairwise (SameLeast label) (eqb k 2) (without-labels-same label xs ys t same) (λ y nz. Iff.rfl)))

pub one_table : OneTablePromise
one_table M M' proper proper' k m m' ab ab' t os os' agree a a' cs cs' same =
    fixed M M' proper proper' k k m m' ab ab' t t os os' refl agree a a' cs cs' (same-orders k (after M k m ab t os cs).ordered (after M' k m' ab' t os' cs').ordered t same)

pub both-one-table : BothOneTable
both-one-table d d' k m m' ab t os os' = one_table (model_of d) (model_of d') (proper d) (proper d') k m m' ab ab t os os' (λ x. refl)

-- ---- two turns
pub two_turns : TwoTurnsPromise
two_turns = alike
