-- Which orders an idle worker may be given, and what a find tells.
use Rattle.std.specs.Prelude.{Some}
use mathlib.Core.Path.{◌≡◌, refl, ap, subst, ◌∙◌}
use mathlib.Core.Logic.{◌≢◌, ◌↔◌, ⊎_elim}
use mathlib.Core.Bool.{true, false}
use mathlib.Core.List.{List, []}
use Prim.Native.Nat.{ℕ, ◌≤◌, ◌<◌}
use native.Mathlib.Omega.{arith}
use lib.ListN.{length, get_or}
use borrow.Author.Tests.{eq-eqb, ne_eqb, lt-leb, le-leb, lt-ltb}
use Rattle.ring.proofs.Tests.{not_both}
use Rattle.layout.specs.Layout.{In}
use Rattle.layout.proofs.Sets.{by-listed}
use Rattle.homes.specs.Homes.{spread}
use Rattle.homes.specs.declared.Hash.{Hash}
use Rattle.prices.specs.Contents.{label, price, content, price_ok}
use Rattle.prices.specs.Priced.{labels}
use Rattle.prices.proofs.Contents.{contents}
use Rattle.prices.proofs.Labels.{in-labels, labels_in}
use Rattle.orders.specs.Orders.{blank, line_at}
use Rattle.orders.specs.declared.Order.{Order}
use Rattle.activities.specs.Activities.{is_idle, entry_of}
use Rattle.activities.specs.declared.Activity.{Activity}
use Rattle.activities.specs.declared.Activity.TheVariants.{Idle, Reading}
use Rattle.phases.specs.Promise.{Sold}
use Rattle.state.specs.Model.{gateway, model_of}
use Rattle.state.specs.Refusals.{reply_number}
use Rattle.state.specs.declared.Device.{Device}
use Rattle.state.specs.declared.Phase.{Phase}
use Rattle.state.proofs.Model.{most-workers}
use Rattle.protocol.specs.Bars.{doing}
use Rattle.protocol.specs.Calls.{order_found}
use Rattle.protocol.specs.Lines.{Good}
use Rattle.protocol.proofs.Lines.{line-order, line-lacks}
use Rattle.protocol.proofs.Theorem.{opens, orders}
use Rattle.dealing.specs.Deal.{Dealing}
use Rattle.dealing.specs.Promise.{finish_of, Runs}
use Rattle.dealing.specs.Reached.{Led}
use Rattle.dealing.specs.declared.Ended.TheVariants.{Price}
use Rattle.rounds.specs.Rounds.{ack_with, ack_reply}
use Rattle.serving.specs.Serving.{Opened, Served, found_number}
use Rattle.serving.proofs.Serving.{begins, Fit, kind, crew, hash, order-accepted, next-is, next-kind, may-run, goes_on, found-table}

-- ---- outside insert phases: a key, to a worker of the crew
pub handed-fit : (p : Phase) → p.kind ≢ 1 → (os : List Order) (i w v : ℕ) → w < p.crew → v ≢ 0 → Fit p os i w v
handed-fit p ne os i w v l nz =
    let e = ne_eqb p.kind 1 ne in
    record { there = rw e; worker = rw e l; key = rw e nz; shop = rw e; price = rw e }

-- ---- in an insert phase: any line of its list
pub line-fit : (d : Device) (m : ℕ) (ab : Hash) (os : List Order) (t : List ℕ) (p : Phase) (u : List ℕ) → Served d 1 m ab os t p u → (i : ℕ) → i < length os
    → (w v : ℕ) → Fit p os i w v
line-fit d m ab os t p u s i l w v =
    let o = opens gateway 1 m ab t os in
    let good : Good m (get_or os i blank) = o.lines refl (ap reply_number (o.reply ∙ s.accepted)) i l in
    let e = eq-eqb p.kind 1 (kind d 1 m ab os t p u s) in
    let fine : price_ok (get_or os i blank).price ≡ true = rw (le-leb _ _ good.price.0, le-leb _ _ good.price.1) in
    record {
      there = rw (e, line-lacks os i, lt-ltb _ _ l);
      worker = rw (e, line-order os i, crew d 1 m ab os t p u s) good.worker;
      key = rw (e, line-order os i) good.key;
      shop = rw (e, line-order os i, lt-leb _ _ good.shop);
      price = rw (e, line-order os i, fine);
    }

-- ---- what a find tells of its acknowledgement
module _ (d : Device) (m : ℕ) (ab : Hash) (t : List ℕ) (p : Phase) (s : Served d 3 m ab [] t p t) (w v : ℕ) (there : w < m) (key : v ≢ 0) where
  abbrev next : Phase
  next = (order_found (model_of d) p (line_at [] 0) w v).phase

  not-insert : p.kind ≢ 1
  not-insert e = let is = kind d 3 m ab [] t p t s in omega arith

  pub fits : Fit p [] 0 w v
  fits = handed-fit p not-insert [] 0 w v (omega (arith, crew d 3 m ab [] t p t s)) key

  pub find-may : Led gateway next t × (next.shut ≡ false)
  find-may = may-run d 3 m ab [] t p t s 0 w v fits

  -- its worker reads for it
  reads : doing next w ≡ Reading (content v 0) (spread p.hash p.length v)
  reads =
      let inside : w < length p.workers = omega (arith, s.crew, most-workers d, s.places) in
      ap (λ (q : Phase). doing q w) (next-is d 3 m ab [] t p t s 0 w v fits)
      ∙ ((orders gateway p [] 0 w v).other_accepted not-insert (ap reply_number (order-accepted d 3 m ab [] t p t s 0 w v fits).1)).starts inside

  wants : label (entry_of (doing next w)) ≡ v
  wants = ap (λ (a : Activity). label (entry_of a)) reads ∙ (contents.made v 0 (omega arith)).0

  busy : doing next w ≢ Idle
  busy e = not_both (is_idle (doing next w)) (ap is_idle e) (ap is_idle reads)

  -- the key is found exactly if it stands in the table
  stands : (q : ℕ) → Sold label t v q → In v (labels label t)
  stands q h = subst (λ (x : ℕ). In x (labels label t)) h.is (in-labels label t h.content h.member)

  found_right : (e : Dealing) → Runs gateway next t e → found_number (finish_of e w) ≡ reply_number (ack_reply m t (ack_with v w))
  found_right e runs =
      let is = next-kind d 3 m ab [] t p t s 0 w v fits ∙ kind d 3 m ab [] t p t s in
      let right : (q : ℕ) → (finish_of e w ≡ Some (Price q)) ↔ Sold label t v q = λ q. subst (λ (x : ℕ). (finish_of e w ≡ Some (Price q)) ↔ Sold label t x q) wants (runs.right w busy is q) in
      by-listed v (labels label t)
      (λ i yes. rw (ne_eqb v 0 key, lt-leb m w there, yes)
      (let c = labels_in label t v i in
      ap found_number ((right (price c.content)).1 (record { content = c.content; member = c.member; is = c.is; costs = refl }))))
      (λ out none. rw (ne_eqb v 0 key, lt-leb m w there, none)
      (⊎_elim (λ (q, f). absurd (out (stands q ((right q).0 f)))) (λ f. ap found_number f) (runs.answered w busy is)))

  -- the phase goes on, the table is as it was, and the answer is the acknowledgement's
  pub find-told : (e : Dealing) → Runs gateway next t e
      → Served d 3 m ab [] t e.dealt.phase t × (e.table ≡ t) × (found_number (finish_of e w) ≡ reply_number (ack_reply m t (ack_with v w)))
  find-told e runs =
      let x = (goes_on d 3 m ab [] t p t s 0 w v fits e runs).0 in
      let same = found-table d 3 m ab [] t e.dealt.phase e.table x refl in
      (subst (λ (u : List ℕ). Served d 3 m ab [] t e.dealt.phase u) same x, same, found_right e runs)

-- ---- the acknowledgements that are not looked up
pub blank-told : (m : ℕ) (t : List ℕ) (v w : ℕ) → v ≡ 0 → 7 ≡ reply_number (ack_reply m t (ack_with v w))
blank-told m t v w z = rw (eq-eqb v 0 z)

pub lacking-told : (m : ℕ) (t : List ℕ) (v w : ℕ) → v ≢ 0 → m ≤ w → 6 ≡ reply_number (ack_reply m t (ack_with v w))
lacking-told m t v w nz l = rw (ne_eqb v 0 nz, le-leb m w l)

-- ---- a find phase that was just opened
pub find-starts : (d : Device) (p : Phase) (t : List ℕ) → p.kind ≡ 3 → Opened (model_of d) [] p t → Served d 3 p.crew p.hash [] t p t
find-starts d p t is h = subst (λ (k : ℕ). Served d k p.crew p.hash [] t p t) is (begins d [] p t h).0

-- what was told of a phase by its own numbers, on a table equal to that of the opening
pub find-goes-on : (d : Device) (m : ℕ) (ab : Hash) (t : List ℕ) (p : Phase) → Served d 3 m ab [] t p t → (u : List ℕ) → u ≡ t → (q : Phase) (u' : List ℕ) (n v w : ℕ)
    → Served d 3 p.crew p.hash [] u q u × (u' ≡ u) × (n ≡ reply_number (ack_reply p.crew u (ack_with v w)))
    → Served d 3 m ab [] t q t × (u' ≡ t) × (n ≡ reply_number (ack_reply m t (ack_with v w)))
find-goes-on d m ab t p s u e q u' n v w h = rw (crew d 3 m ab [] t p t s, hash d 3 m ab [] t p t s, e) at h
