-- One order after the other: each is accepted, and after the turns that follow all workers are idle again.
use Rattle.std.specs.Prelude.{Ok}
use mathlib.Core.Path.{◌≡◌, refl, sym, ap, subst, ◌∙◌}
use mathlib.Core.Logic.{◌≢◌}
use mathlib.Core.Bool.{true, false}
use mathlib.Core.List.{List, [], ◌∷◌, ◌++◌}
use Prim.Native.Nat.{ℕ, zero, suc, ◌<◌}
use lib.ListN.{length, length-set}
use borrow.Author.Tests.{lt-leb, ne_eqb}
use Rattle.homes.specs.declared.Hash.{Hash}
use Rattle.homes.specs.Homes.{spread}
use Rattle.prices.specs.Contents.{label}
use Rattle.prices.specs.Priced.{priced_layout}
use Rattle.orders.specs.Orders.{line_at}
use Rattle.orders.specs.declared.Order.{Order}
use Rattle.state.specs.Model.{gateway, model_of}
use Rattle.state.specs.Open.{open_reply, open_call}
use Rattle.state.specs.Refusals.{reply_number}
use Rattle.state.specs.declared.Device.{Device}
use Rattle.state.specs.declared.Phase.{Phase}
use Rattle.state.specs.declared.Replied.{Replied}
use Rattle.state.specs.Replies.{Reply}
use Rattle.state.proofs.Model.{gateway-proper}
use Rattle.protocol.specs.Bars.{doing, adds_test, mispriced}
use Rattle.protocol.specs.Calls.{asked, missing, entry_for, found_reply, ordered, order_call, order_found, closed, close_reply, close_call, turn_call, turn_table}
use Rattle.protocol.specs.IsWellFormed.{is_well_formed}
use Rattle.protocol.specs.WellFormed.{WellFormed}
use Rattle.protocol.proofs.Limits.{open-alike, formed-within, order_alike, close-alike}
use Rattle.protocol.proofs.Theorem.{opens, open-passed, well-formed}
use Rattle.protocol.proofs.WellFormed.{all-idle-says}
use Rattle.history.specs.History as history
use Rattle.history.specs.History.{Call, order, turn, close, History, call, opening, after}
use Rattle.history.specs.Promise.{Claim, entries_after}
use Rattle.history.proofs.Keeping.{order-phase, order-table, turn-ordered}
use Rattle.history.proofs.Lists.{run-append, run-last}
use Rattle.history.proofs.Theorem.{history as all-lists}
use Rattle.dealing.specs.Deal.{Dealing}
use Rattle.dealing.specs.Promise.{round, rounds, Runs}
use Rattle.dealing.specs.Reached.{Led}
use Rattle.serving.specs.Serving.{Opened, Served}

-- the entries that were ordered since the opening
abbrev pub ordered_by : (d : Device) (k m : ℕ) (ab : Hash) (os : List Order) (t : List ℕ) (p : Phase) (u : List ℕ) → Served d k m ab os t p u → List ℕ
ordered_by d k m ab os t p u s = (after gateway k m ab t os s.calls).ordered

-- ---- from an opening on
pub begins : (d : Device) (os : List Order) (p : Phase) (t : List ℕ) → Opened (model_of d) os p t
    → (x : Served d p.kind p.crew p.hash os t p t) × (ordered_by d p.kind p.crew p.hash os t p t x ≡ [])
unfolding history.run
begins d os p t e =
    let o = opens (model_of d) p.kind p.crew p.hash t os in
    let is : open_reply (model_of d) p.kind p.crew p.hash t os ≡ (Ok tt) = sym o.reply ∙ ap (λ (r : Replied). r.reply) e in
    let passed = open-passed (model_of d) p.kind p.crew p.hash t os is in
    let rests = o.accepted (ap (λ (r : Replied). reply_number r.reply) e) in
    let first : p ≡ (open_call (model_of d) p.kind p.crew p.hash t os).phase = ap (λ (r : Replied). r.phase) (sym e) in
    let alike = open-alike d p.kind p.crew p.hash t os passed.size passed.crew in (
      record {
        size = passed.size;
        crew = passed.crew;
        accepted = sym (opens gateway p.kind p.crew p.hash t os).reply ∙ ap (λ (r : Replied). r.reply) (sym alike ∙ e);
        calls = [];
        phase = first ∙ ap (λ (r : Replied). r.phase) alike;
        table = refl;
        running = ap (λ (q : Phase). q.shut) first ∙ rests.shut;
        places = ap (λ (q : Phase). length q.workers) first ∙ rests.places;
        idle = λ w. ap (λ (q : Phase). doing q w) first ∙ rests.rest w;
      },
      refl,
    )

-- ---- turns order nothing
abbrev Unordered : List Call → Type 0
Unordered cs = (os : List Order) (s : History) → (history.run gateway os cs s).ordered ≡ s.ordered

turn-unordered : (w : ℕ) (cs : List Call) → Unordered cs → Unordered (turn w ∷ cs)
unfolding history.run call
turn-unordered w cs h os s =
    let r = turn_call gateway s.phase s.table w in
    h os (call gateway os (turn w) s) ∙ turn-ordered w (turn_table gateway s.phase s.table w) r.phase r.reply s

round-unordered : (m : ℕ) (cs : List Call) → Unordered cs → Unordered (round m cs)
round-unordered zero cs h = h
round-unordered (suc w) cs h = round-unordered w (turn w ∷ cs) (turn-unordered w cs h)

rounds-unordered : (m r : ℕ) → Unordered (rounds m r)
unfolding history.run
rounds-unordered m zero = λ os s. refl
rounds-unordered m (suc r) = round-unordered m (rounds m r) (rounds-unordered m r)

-- an accepted order is counted
order-adds : (os : List Order) (i w v : ℕ) (s : History) → (order_call gateway s.phase os i w v).reply ≡ Ok tt
    → (call gateway os (order i w v) s).ordered
    ≡ (let o = asked s.phase.kind (line_at os i) w v in entry_for s.phase.kind o.key o.price) ∷ s.ordered
unfolding call
order-adds os i w v s e = rw e

-- an accepted close leaves all else
close-keeps : (os : List Order) (s : History) → (close_call gateway s.phase).reply ≡ Ok tt
    → ((call gateway os close s).closed ≡ true) × ((call gateway os close s).table ≡ s.table) × ((call gateway os close s).ordered ≡ s.ordered)
unfolding call
close-keeps os s e = rw e (refl, refl, refl)

-- ---- an order that an idle worker may be given in the phase p, by line i or with the worker w and the key v
pub record Fit (p : Phase) (os : List Order) (i w v : ℕ) : Type 0 where
  pub there : missing p.kind (line_at os i) ≡ false
  pub worker : (asked p.kind (line_at os i) w v).worker < p.crew
  pub key : (asked p.kind (line_at os i) w v).key ≢ 0
  pub shop : adds_test p.kind (asked p.kind (line_at os i) w v).key ≡ false
  pub price : mispriced p.kind (asked p.kind (line_at os i) w v).price ≡ false

module _ (d : Device) (k m : ℕ) (ab : Hash) (os : List Order) (t : List ℕ) (p : Phase) (u : List ℕ) (s : Served d k m ab os t p u) where
  abbrev here : History
  here = after gateway k m ab t os s.calls

  claim : Claim gateway k m ab t os s.calls
  claim = all-lists gateway gateway-proper k m ab t os s.accepted s.calls

  pub kind : p.kind ≡ k
  kind = ap (λ (q : Phase). q.kind) s.phase ∙ claim.numbers.kind

  pub crew : p.crew ≡ m
  crew = ap (λ (q : Phase). q.crew) s.phase ∙ claim.numbers.crew

  pub hash : p.hash ≡ ab
  hash = ap (λ (q : Phase). q.hash) s.phase ∙ claim.numbers.hash

  -- told by the phase's own numbers
  pub own-numbers : Served d k p.crew p.hash os t p u
  own-numbers = subst (λ (x : ℕ). Served d k x p.hash os t p u) (sym crew) (subst (λ (x : Hash). Served d k m x os t p u) (sym hash) s)

  well : is_well_formed gateway p ≡ true
  well = subst (λ (q : Phase). is_well_formed gateway q ≡ true) (sym s.phase) claim.formed

  formed : WellFormed (model_of d) p
  formed =
      let cells : p.length ≡ length t = ap (λ (q : Phase). q.length) s.phase ∙ claim.numbers.cells in
      (formed-within d p).1 ((well-formed gateway p).0 well, rw cells s.size, rw crew s.crew)

  -- ---- an order
  module _ (i w v : ℕ) (fit : Fit p os i w v) where
    accepts : found_reply gateway p (line_at os i) w v ≡ Ok tt
    accepts = let o = asked p.kind (line_at os i) w v in
        simp (
          well,
          s.running,
          fit.there,
          lt-leb p.crew o.worker fit.worker,
          s.idle o.worker,
          ne_eqb o.key 0 fit.key,
          fit.shop,
          fit.price,
        )

    given : order_found gateway p (line_at os i) w v ≡ ordered gateway p (missing p.kind (line_at os i)) (asked p.kind (line_at os i) w v).worker
        (asked p.kind (line_at os i) w v).key (asked p.kind (line_at os i) w v).price (Ok tt)
    given = ap (λ (r : Reply). ordered gateway p (missing p.kind (line_at os i)) (asked p.kind (line_at os i) w v).worker
        (asked p.kind (line_at os i) w v).key (asked p.kind (line_at os i) w v).price r) accepts

    -- it is accepted, by the model's call and by the gateway's
    pub order-accepted : ((order_found (model_of d) p (line_at os i) w v).reply ≡ Ok tt) × ((order_call gateway p os i w v).reply ≡ Ok tt)
    order-accepted = let ok = ap (λ (r : Replied). r.reply) given in (ap (λ (r : Replied). r.reply) (order_alike d p formed (line_at os i) w v) ∙ ok, ok)

    -- the phase that it leaves
    abbrev next : Phase
    next = (order_found (model_of d) p (line_at os i) w v).phase

    pub next-is : next ≡ (order_call gateway p os i w v).phase
    next-is = ap (λ (r : Replied). r.phase) (order_alike d p formed (line_at os i) w v)

    abbrev then : History
    then = call gateway os (order i w v) here

    then-phase : then.phase ≡ next
    unfolding call
    then-phase =
        let r = order_call gateway here.phase os i w v in
        order-phase _ _ r.phase r.reply here ∙ ap (λ (q : Phase). (order_call gateway q os i w v).phase) (sym s.phase) ∙ sym next-is

    then-table : then.table ≡ u
    unfolding call
    then-table =
        let r = order_call gateway here.phase os i w v in
        order-table _ _ r.phase r.reply here ∙ sym s.table

    -- what is ordered
    abbrev pub entry : ℕ
    entry = let o = asked p.kind (line_at os i) w v in entry_for p.kind o.key o.price

    then-ordered : then.ordered ≡ entry ∷ here.ordered
    then-ordered =
        subst (λ (q : Phase). (order_call gateway q os i w v).reply ≡ Ok tt
        → then.ordered ≡ (let o = asked q.kind (line_at os i) w v in entry_for q.kind o.key o.price) ∷ here.ordered)
        (sym s.phase) (order-adds os i w v here) order-accepted.1

    then-after : after gateway k m ab t os (s.calls ++ order i w v ∷ []) ≡ then
    then-after = run-last gateway os s.calls (order i w v) (opening gateway k m ab t os)

    pub next-kind : next.kind ≡ p.kind
    next-kind = ap (λ (r : Replied). r.phase.kind) (order_alike d p formed (line_at os i) w v ∙ given)

    -- turns may be dealt
    pub may-run : Led gateway next u × (next.shut ≡ false)
    may-run = (
      (
        os,
        record {
          kind = k;
          crew = m;
          hash = ab;
          opened = t;
          by = record {
            calls = s.calls ++ order i w v ∷ [];
            accepted = s.accepted;
            phase = sym then-phase ∙ ap (λ (h : History). h.phase) (sym then-after);
            table = sym then-table ∙ ap (λ (h : History). h.table) (sym then-after);
          };
        },
      ),
      ap (λ (r : Replied). r.phase.shut) (order_alike d p formed (line_at os i) w v ∙ given) ∙ s.running,
    )

    -- and where they have been, all workers are idle and the order is counted
    then-rounds : (r : ℕ) → after gateway k m ab t os (s.calls ++ order i w v ∷ rounds next.crew r) ≡ history.run gateway os (rounds next.crew r) then
    unfolding history.run
    then-rounds r = run-append gateway os s.calls (order i w v ∷ rounds next.crew r) (opening gateway k m ab t os)

    pub goes_on : (e : Dealing) → Runs gateway next u e
        → (x : Served d k m ab os t e.dealt.phase e.table) × (ordered_by d k m ab os t e.dealt.phase e.table x ≡ entry ∷ ordered_by d k m ab os t p u s)
    goes_on e runs =
        let (r, f) = runs.dealt in
        let g = f os then then-phase then-table in
        let frame = ap (λ (x : Replied). length x.phase.workers) (order_alike d p formed (line_at os i) w v ∙ given) in (
          record {
            size = s.size;
            crew = s.crew;
            accepted = s.accepted;
            calls = s.calls ++ order i w v ∷ rounds next.crew r;
            phase = g.0 ∙ ap (λ (h : History). h.phase) (sym (then-rounds r));
            table = g.1 ∙ ap (λ (h : History). h.table) (sym (then-rounds r));
            running = runs.shut ∙ may-run.1;
            places = runs.frame.places ∙ frame ∙ length-set p.workers _ _ ∙ s.places;
            idle = runs.idle;
          },
          ap (λ (h : History). h.ordered) (then-rounds r) ∙ rounds-unordered next.crew r os then ∙ then-ordered,
        )

  -- ---- the close
  closes : close_reply gateway p ≡ Ok tt
  closes = let idle = (all-idle-says p.workers).1 s.idle in simp (well, s.running, idle)

  pub close-accepted : (close_call (model_of d) p).reply ≡ Ok tt
  close-accepted = ap (λ (r : Replied). r.reply) (close-alike d p formed) ∙ ap (λ (a : Reply). (closed gateway p a).reply) closes

  -- the table is then the layout of what the orders leave
  pub closed-table : u ≡ priced_layout (length t) label (spread ab (length t)) (entries_after k (ordered_by d k m ab os t p u s) t)
  closed-table =
      let last = run-last gateway os s.calls close (opening gateway k m ab t os) in
      let reply = ap (λ (q : Phase). (close_call gateway q).reply) (sym s.phase) ∙ ap (λ (a : Reply). (closed gateway p a).reply) closes in
      let (shut, table, same) = close-keeps os here reply in
      let laid = (all-lists gateway gateway-proper k m ab t os s.accepted (s.calls ++ close ∷ [])).closed (ap (λ (h : History). h.closed) last ∙ shut) in
      s.table ∙ sym table ∙ ap (λ (h : History). h.table) (sym last) ∙ laid
      ∙ ap (λ (ys : List ℕ). priced_layout (length t) label (spread ab (length t)) (entries_after k ys t)) (ap (λ (h : History). h.ordered) last ∙ same)

  -- in a find phase it is the table of the opening, closed or not
  pub found-table : k ≡ 3 → u ≡ t
  found-table is = s.table ∙ claim.unchanged is
