-- The kiosk's calls beside the gateway's: outside its limits by the promises, inside them by the tests, which are all that is different.
use Rattle.std.specs.Prelude.{Ok}
use mathlib.Core.Path.{◌≡◌, refl, sym, ap, ap₂, ◌∙◌}
use mathlib.Core.Logic.{◌↔◌, ◌≢◌}
use mathlib.Core.List.{List, [], ◌∷◌}
use Prim.Native.Nat.{ℕ, ◌≤◌, ◌<◌}
use native.Mathlib.Omega.{arith}
use lib.ListN.{length, length-replicate}
use Rattle.ring.proofs.Split.{by-eq}
use Rattle.homes.specs.declared.Hash.{Hash}
use Rattle.orders.specs.Orders.{line_at}
use Rattle.orders.specs.declared.Order.{Order}
use Rattle.state.specs.Counts.{count_number}
use Rattle.state.specs.Model.{gateway, kiosk}
use Rattle.state.specs.Open.{open_reply, open_call}
use Rattle.state.specs.Refusals.{reply_number}
use Rattle.state.specs.declared.Device.TheVariants.{Gateway, Kiosk}
use Rattle.state.specs.declared.Phase.{Phase}
use Rattle.state.specs.declared.Replied.{Replied}
use Rattle.state.proofs.Model.{proper}
use Rattle.protocol.specs.Calls.{asked, entry_for, close_call, order_call, turn_number, turn_call, turn_table}
use Rattle.protocol.specs.Promise.{opened as made-opened}
use Rattle.protocol.specs.WellFormed.{Size, Crew, WellFormed}
use Rattle.protocol.specs.declared.Turned.{Turned}
use Rattle.protocol.proofs.Keeping.{each-never-spoilt}
use Rattle.protocol.proofs.Limits.{cells-in-both, crew-in-both, open-alike, formed-within, order_alike, turn-alike, table-alike, close-alike}
use Rattle.protocol.proofs.Theorem.{opens, orders, turns, closes}
use Rattle.tables.specs.Calls.{check_call, list_call}
use Rattle.tables.proofs.Theorem.{theorem}
use Rattle.orders.specs.Orders.{orders_of}
use Rattle.till.specs.Till.{till_call}
use Rattle.till.proofs.Theorem.{answers, till-promise}
use Rattle.rounds.proofs.Theorem.{sending, closing}
use Rattle.history.specs.History.{Call, order, turn, close, History, Lent, after_order, after_turn, after_close, call, run, run_lent, opening, after, after_lent}
use Rattle.history.proofs.Keeping.{call-keeps}
use Rattle.history.proofs.Theorem.{fixed, one_table}
use Rattle.migration.specs.Calls as migration
use Rattle.migration.specs.Promise as promise
use Rattle.migration.specs.declared.Migration.{Migration}
use Rattle.migration.proofs.Limits as limits
use Rattle.migration.proofs.Protocol as protocol
use Rattle.migration.proofs.Theorem as courses
use Rattle.migration.proofs.Turning as turning
use Rattle.numbered.specs.Numbers.{turn_answer, reply_answer}
use Rattle.numbered.specs.Lists.{answer_of, answers_of}
use Rattle.models.specs.Within.{Few, Crews, Outside, SameTables, SameCalls, SameTills, SameRounds, SameMoves, Inside}

-- ---- records
formed : (p : Phase) → WellFormed kiosk p ↔ (WellFormed gateway p × (p.length ≤ 256) × (p.crew ≤ 4))
formed p = (
  λ h. (((formed-within Kiosk p).0 h).0, h.size.1, h.crew.1),
  λ (h, cells, crew). (formed-within Kiosk p).1 (h, (h.size.0, cells), (h.crew.0, crew)),
)

-- ---- the limits in words, and the model's
few-says : (n : ℕ) → Size kiosk n → Few n
few-says n h = (omega (arith, h.0), omega (arith, h.1))

says-few : (n : ℕ) → Few n → Size kiosk n
says-few n h = (omega (arith, h.0), omega (arith, h.1))

crews-says : (m : ℕ) → Crew kiosk m → Crews m
crews-says m h = (omega (arith, h.0), omega (arith, h.1))

says-crews : (m : ℕ) → Crews m → Crew kiosk m
says-crews m h = (omega (arith, h.0), omega (arith, h.1))

-- ---- outside
nonzero : {r n : ℕ} → r ≡ n → 0 < n → r ≢ 0
nonzero e h z = omega arith

open_size : (k m : ℕ) (ab : Hash) (t : List ℕ) (os : List Order) → (Few (length t) → ⊥) → reply_number (open_reply kiosk k m ab t os) ≡ 1
open_size k m ab t os many =
    let o = opens kiosk k m ab t os in
    let no_size : Size kiosk (length t) → ⊥ = λ h. many (few-says (length t) h) in
    sym (ap reply_number o.reply) ∙ by-eq k 1 (λ is. (o.inserts is).0.1 (tt, no_size)) (λ ne. (o.others ne).0.1 (tt, no_size))

open_crew : (k m : ℕ) (ab : Hash) (t : List ℕ) (os : List Order) → Few (length t) → (Crews m → ⊥) → reply_number (open_reply kiosk k m ab t os) ≡ 2
open_crew k m ab t os few many =
    let o = opens kiosk k m ab t os in
    let size = says-few (length t) few in
    let no_crew : Crew kiosk m → ⊥ = λ h. many (crews-says m h) in
    sym (ap reply_number o.reply) ∙ by-eq k 1 (λ is. (o.inserts is).1.0.1 ((tt, size), no_crew)) (λ ne. (o.others ne).1.0.1 ((tt, size), no_crew))

check : (ab : Hash) (t : List ℕ) → (Few (length t) → ⊥) → reply_number (check_call kiosk ab t) ≡ 1
check ab t many = (theorem kiosk (proper Kiosk) ab t []).check.0.1 (tt, λ h. many (few-says (length t) h))

order-spoilt : (p : Phase) (os : List Order) (i w v : ℕ) → (WellFormed kiosk p → ⊥)
    → (reply_number (order_call kiosk p os i w v).reply ≡ 13) × ((order_call kiosk p os i w v).phase ≡ p)
order-spoilt p os i w v bad =
    let o = orders kiosk p os i w v in
    let e : reply_number (order_call kiosk p os i w v).reply ≡ 13 =
    by-eq p.kind 1 (λ is. (o.inserts is).0.1 (tt, bad)) (λ ne. (o.others ne).0.1 (tt, bad)) in
    (e, o.refused (nonzero e (omega arith)))

till-crew : (text : List ℕ) (m places : ℕ) → (Crews m → ⊥) → count_number (till_call kiosk text m places) ≡ 2
till-crew text m places many = (answers kiosk text m places).decides.0.1 (tt, λ h. many (crews-says m h))

-- migrations
move_size : (m : ℕ) (ab : Hash) (old new : List ℕ) → (Few (length old) × Few (length new) → ⊥) → reply_number (migration.open_reply kiosk m ab old new) ≡ 1
move_size m ab old new many =
    let o = protocol.opens kiosk m ab old new in
    sym (ap reply_number o.reply) ∙ (o.answers (proper Kiosk)).0.1 (tt, λ (h, g). many (few-says (length old) h, few-says (length new) g))

move_crew : (m : ℕ) (ab : Hash) (old new : List ℕ) → Few (length old) → Few (length new) → (Crews m → ⊥)
    → reply_number (migration.open_reply kiosk m ab old new) ≡ 2
move_crew m ab old new few into many =
    let o = protocol.opens kiosk m ab old new in
    let sizes : Size kiosk (length old) × Size kiosk (length new) = (says-few (length old) few, says-few (length new) into) in
    sym (ap reply_number o.reply) ∙ (o.answers (proper Kiosk)).1.0.1 ((tt, sizes), λ h. many (crews-says m h))

move_formed : (p : Migration) → promise.WellFormed kiosk p ↔ (promise.WellFormed gateway p × (p.source ≤ 256) × (p.length ≤ 256) × (p.crew ≤ 4))
move_formed p = (
  λ h. (((limits.formed-within Kiosk p).0 h).0, h.from.1, h.to.1, h.crew.1),
  λ (h, from, into, crew). (limits.formed-within Kiosk p).1 (h, (h.from.0, from), (h.to.0, into), (h.crew.0, crew)),
)

pub outside : Outside
outside = record {
  open_size = open_size;
  open_crew = open_crew;
  check = check;
  count = λ ab t many. (theorem kiosk (proper Kiosk) ab t []).count_refused ∙ check ab t many;
  list = λ ab t out many.
      let r = theorem kiosk (proper Kiosk) ab t out in
      let e : count_number (list_call kiosk ab t out) ≡ 1 = r.list.0.1 (tt, λ h. many (few-says (length t) h)) in
      (e, r.unlisted (nonzero e (omega arith)));
  front = λ ab t out many.
      let r = theorem kiosk (proper Kiosk) ab t out in
      let e : count_number (list_call kiosk ab t out) ≡ 1 = r.list.0.1 (tt, λ h. many (few-says (length t) h)) in
      r.no_front (nonzero e (omega arith));
  till = till-crew;
  till_kept = λ text m old many. (till-promise.fills kiosk text m old).refused (nonzero (till-crew text m (length old) many) (omega arith));
  till_three = λ text m ks ps ws many.
      (till-promise.three kiosk text m ks ps ws).refused (nonzero (till-crew text m (length (orders_of ks ps ws)) many) (omega arith));
  send_size = λ m ab t os many. (sending kiosk (proper Kiosk) m ab t os).decides.0.1 (tt, λ h. many (few-says (length t) h));
  send_crew = λ m ab t os few many. (sending kiosk (proper Kiosk) m ab t os).decides.1.0.1 ((tt, says-few (length t) few), λ h. many (crews-says m h));
  settle_size = λ m ab t rs answers out many. (closing kiosk (proper Kiosk) m ab t rs answers out).decides.0.1 (tt, λ h. many (few-says (length t) h));
  settle_crew = λ m ab t rs answers out few many.
      (closing kiosk (proper Kiosk) m ab t rs answers out).decides.1.0.1 ((tt, says-few (length t) few), λ h. many (crews-says m h));
  formed = formed;
  order = order-spoilt;
  turn = λ p t w bad.
      let r = turns kiosk p t w in
      let e : turn_number (turn_call kiosk p t w).reply ≡ 13 = r.answers.0.1 (tt, bad) in
      let (same, kept) = r.refused (nonzero e (omega arith)) in
      (e, same, kept);
  close = λ p bad.
      let r = closes kiosk p in
      let e : reply_number (close_call kiosk p).reply ≡ 13 = r.answers.0.1 (tt, bad) in
      (e, r.refused (nonzero e (omega arith)));
  move_size = move_size;
  move_crew = move_crew;
  move_formed = move_formed;
  move_order = λ p w bad.
      let r = protocol.orders kiosk p w in
      let e : reply_number (migration.order_call kiosk p w).reply ≡ 13 = r.answers.0.1 (tt, bad) in
      (e, r.refused (nonzero e (omega arith)));
  move_turn = λ p old new w bad.
      let r = turning.turns kiosk p old new w in
      let e : turn_number (migration.turn_call kiosk p old new w).reply ≡ 13 = r.answers.0.1 (tt, bad) in
      let (same, kept) = r.refused (nonzero e (omega arith)) in
      (e, same, r.unchanged, kept);
  move_close = λ p bad.
      let r = protocol.closes kiosk p in
      let e : reply_number (migration.close_call kiosk p).reply ≡ 13 = r.answers.0.1 (tt, bad) in
      (e, r.refused (nonzero e (omega arith)));
}

-- ---- inside: both pass the tests of their limits
alike-inside : (k m : ℕ) (ab : Hash) (t : List ℕ) (os : List Order) → Few (length t) → Crews m → open_call kiosk k m ab t os ≡ open_call gateway k m ab t os
alike-inside k m ab t os few crew = open-alike Kiosk k m ab t os (says-few (length t) few) (says-crews m crew)

tables-alike : (ab : Hash) (t : List ℕ) → Few (length t) → SameTables ab t
tables-alike ab t few =
    let (a, b) = cells-in-both Kiosk (length t) (says-few (length t) few) in
    record { check = rw (a, b); count = rw (a, b); list = λ out. rw (a, b); after = λ out. rw (a, b); front = λ out. rw (a, b) }

tills-alike : (text : List ℕ) (m : ℕ) → Crews m → SameTills text m
tills-alike text m crew =
    let (a, b) = crew-in-both Kiosk m (says-crews m crew) in
    record {
      answer = λ places. rw (a, b);
      orders = λ old. rw (a, b);
      keys = λ ks ps ws. rw (a, b);
      prices = λ ks ps ws. rw (a, b);
      workers = λ ks ps ws. rw (a, b);
    }

rounds-alike : (m : ℕ) (ab : Hash) (t : List ℕ) → Few (length t) → Crews m → SameRounds m ab t
rounds-alike m ab t few crew =
    let (a, b) = cells-in-both Kiosk (length t) (says-few (length t) few) in
    let (x, y) = crew-in-both Kiosk m (says-crews m crew) in
    let bare = length-replicate {A = ℕ} (length t) 0 in
    record {
      opens = λ os. rw (bare, a, b, x, y);
      sent = λ os. rw (bare, a, b, x, y);
      closes = λ rs answers out. rw (a, b, x, y);
      table = λ rs answers out. rw (a, b, x, y);
      answers = λ rs answers out. rw (a, b, x, y);
      list = λ rs answers out. rw (a, b, x, y);
    }

calls-alike : (p : Phase) → WellFormed kiosk p → SameCalls p
calls-alike p h = record {
  order = λ os i w v. order_alike Kiosk p h (line_at os i) w v;
  turn = turn-alike Kiosk p h;
  table = table-alike Kiosk p h;
  close = close-alike Kiosk p h;
}

-- ---- migrations
moves-alike : (p : Migration) → promise.WellFormed kiosk p → SameMoves p
moves-alike p h = record {
  order = limits.order_alike Kiosk p h;
  turn = limits.turn-alike Kiosk p h;
  kept = limits.old-alike Kiosk p h;
  table = limits.new-alike Kiosk p h;
  close = limits.close-alike Kiosk p h;
}

-- ---- lists of calls
call-alike : (os : List Order) (c : Call) (s : History) → SameCalls s.phase → call kiosk os c s ≡ call gateway os c s
unfolding call
call-alike os (order i w v) s same =
    let o = asked s.phase.kind (line_at os i) w v in
    ap (λ (r : Replied). after_order o.worker (entry_for s.phase.kind o.key o.price) r.phase r.reply s) (same.order os i w v)
call-alike os (turn w) s same =
    ap (λ (u : List ℕ). after_turn w u (turn_call kiosk s.phase s.table w).phase (turn_call kiosk s.phase s.table w).reply s)
    (same.table s.table w)
    ∙ ap (λ (r : Turned). after_turn w (turn_table gateway s.phase s.table w) r.phase r.reply s) (same.turn s.table w)
call-alike os close s same = ap (λ (r : Replied). after_close r.phase r.reply s) same.close

call-formed : (os : List Order) (c : Call) (s : History) → WellFormed kiosk s.phase → WellFormed kiosk (call kiosk os c s).phase
call-formed os c s h = call-keeps kiosk os c s (λ v. (proper Kiosk).homes s.phase.hash s.phase.length v (omega (arith, h.size))) h

run-alike : (os : List Order) (cs : List Call) (s : History) → WellFormed kiosk s.phase → run kiosk os cs s ≡ run gateway os cs s
unfolding run
run-alike os [] s h = refl
run-alike os (c ∷ cs) s h =
    run-alike os cs (call kiosk os c s) (call-formed os c s h)
    ∙ ap (run gateway os cs) (call-alike os c s (calls-alike s.phase h))

lent_alike : (cs : List Lent) (s : History) → WellFormed kiosk s.phase → run_lent kiosk cs s ≡ run_lent gateway cs s
unfolding run_lent
lent_alike [] s h = refl
lent_alike (c ∷ cs) s h =
    lent_alike cs (call kiosk c.list c.asks s) (call-formed c.list c.asks s h)
    ∙ ap (run_lent gateway cs) (call-alike c.list c.asks s (calls-alike s.phase h))

-- ---- their answers
answer-alike : (os : List Order) (c : Call) (s : History) → SameCalls s.phase → answer_of kiosk os c s ≡ answer_of gateway os c s
unfolding answer_of
answer-alike os (order i w v) s same = ap (λ (r : Replied). reply_answer r.reply) (same.order os i w v)
answer-alike os (turn w) s same = ap (λ (r : Turned). turn_answer r.reply) (same.turn s.table w)
answer-alike os close s same = ap (λ (r : Replied). reply_answer r.reply) same.close

answers-alike : (os : List Order) (cs : List Call) (s : History) → WellFormed kiosk s.phase → answers_of kiosk os cs s ≡ answers_of gateway os cs s
unfolding answers_of
answers-alike os [] s h = refl
answers-alike os (c ∷ cs) s h =
    let same = calls-alike s.phase h in
    ap₂ (λ (x : ℕ) (xs : List ℕ). x ∷ xs) (answer-alike os c s same)
    (answers-alike os cs (call kiosk os c s) (call-formed os c s h) ∙ ap (answers_of gateway os cs) (call-alike os c s same))

-- ---- from an opening that the kiosk accepts
module _ (k m : ℕ) (ab : Hash) (t : List ℕ) (os : List Order) (is : open_reply kiosk k m ab t os ≡ Ok tt) where
  abbrev first : Phase
  first = (open_call kiosk k m ab t os).phase

  -- the opening that was accepted is within the limits
  within : WellFormed kiosk first
  within = each-never-spoilt Kiosk first (made-opened k m ab t os)

  numbers : Few (length t) × Crews m
  numbers =
      let o = opens kiosk k m ab t os in
      let rests = o.accepted (ap reply_number (o.reply ∙ is)) in
      let e : first.length ≡ length t = rests.cells in
      let f : first.crew ≡ m = rests.crew in
      ((omega (arith, within.size), omega (arith, within.size)), (omega (arith, within.crew), omega (arith, within.crew)))

  alike : open_call kiosk k m ab t os ≡ open_call gateway k m ab t os
  alike = alike-inside k m ab t os numbers.0 numbers.1

  accepted : open_reply gateway k m ab t os ≡ Ok tt
  accepted =
      sym (opens gateway k m ab t os).reply ∙ ap (λ (r : Replied). r.reply) (sym alike) ∙ (opens kiosk k m ab t os).reply ∙ is

  opening-alike : opening kiosk k m ab t os ≡ opening gateway k m ab t os
  opening-alike = ap
      (λ (r : Replied). record {
        table = t;
        phase = r.phase;
        ordered = [];
        pending = (opening gateway k m ab t os).pending;
        said = [];
        counted = 0;
        closed = (opening gateway k m ab t os).closed;
      }) alike

  runs : (cs : List Call) → after kiosk k m ab t os cs ≡ after gateway k m ab t os cs
  runs cs = run-alike os cs (opening kiosk k m ab t os) within ∙ ap (run gateway os cs) opening-alike

  runs_lent : (cs : List Lent) → after_lent kiosk k m ab t os cs ≡ after_lent gateway k m ab t os cs
  runs_lent cs = lent_alike cs (opening kiosk k m ab t os) within ∙ ap (run_lent gateway cs) opening-alike

  answers-same : (cs : List Call) → answers_of kiosk os cs (opening kiosk k m ab t os) ≡ answers_of gateway os cs (opening gateway k m ab t os)
  answers-same cs = answers-alike os cs (opening kiosk k m ab t os) within ∙ ap (answers_of gateway os cs) opening-alike

pub inside : Inside
inside = record {
  openings = alike-inside;
  tables = tables-alike;
  tills = tills-alike;
  rounds = rounds-alike;
  calls = calls-alike;
  refused = refl;
  accepted = accepted;
  runs = runs;
  runs_lent = runs_lent;
  answers = answers-same;
  closes = one_table kiosk gateway (proper Kiosk) (proper Gateway);
  fixed = fixed kiosk gateway (proper Kiosk) (proper Gateway);
  move_openings = λ m ab old new few into crew.
      limits.open-alike Kiosk m ab old new (says-few (length old) few) (says-few (length new) into) (says-crews m crew);
  moves = moves-alike;
  move_refused = refl;
  move_accepted = limits.accepted Kiosk;
  move_runs = limits.runs Kiosk;
  move_answers = limits.answers Kiosk;
  move_closes = courses.one_table kiosk gateway (proper Kiosk) (proper Gateway);
}
