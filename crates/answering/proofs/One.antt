-- What a line to one worker leaves, from what the calls on that worker by itself ensure.
use mathlib.Core.Path.{◌≡◌, refl, sym, ap, subst, ◌∙◌}
use mathlib.Core.Bool.{true, false}
use mathlib.Core.List.{List, [], ◌∷◌, ◌++◌}
use Prim.Native.Nat.{ℕ, ◌+◌, ◌^◌, ◌≤◌, ◌<◌}
use native.Mathlib.Omega.{arith}
use lib.ListN.{length, get_or, take, drop, length-append, length-drop}
use lib.Seq.{length-take-le}
use borrow.Author.Tests.{eqb-true, eqb-false}
use lib.Dec.{eqb}
use Rattle.homes.specs.declared.Hash.{Hash}
use Rattle.prices.specs.Contents.{label}
use Rattle.orders.specs.Orders.{order_with, line_at}
use Rattle.orders.specs.declared.Order.{Order}
use Rattle.activities.specs.Activities.{activity_ok, idle}
use Rattle.state.specs.Model.{Model, gateway}
use Rattle.state.proofs.Model.{gateway-proper}
use Rattle.state.specs.declared.Phase.{Phase}
use Rattle.state.specs.declared.Replied.{Replied}
use Rattle.state.specs.Replies.{Reply}
use Rattle.activities.specs.declared.Worker.{Worker}
use Rattle.protocol.specs.Replies.{TurnReply}
use Rattle.protocol.specs.Calls.{with_worker, order_to, order_found, order_call}
use Rattle.protocol.specs.Split.{one_order, one_turn, one_cells}
use Rattle.protocol.specs.IsWellFormed.{is_well_formed}
use Rattle.protocol.specs.declared.Given.{Given}
use Rattle.protocol.specs.declared.Moved.{Moved}
use Rattle.protocol.proofs.Ordering.{with-given, order-by-one}
use Rattle.protocol.proofs.Turning.{with-moved, turn-by-one, one-long}
use Rattle.protocol.proofs.WellFormed.{good-worker as worker-good}
use Rattle.text.proofs.Test.{by-test}
use Rattle.text.specs.Digits.{digits_of}
use Rattle.text.specs.Put.{put_at, place_after}
use Rattle.lines.specs.declared.Command.{Command}
use Rattle.lines.specs.declared.Line.{Line}
use Rattle.printing.specs.Fields.{Printed, PrintedWithin, reply_fields, turn_fields}
use Rattle.printing.proofs.Printing.{soon, reply-short}
use Rattle.printing.specs.declared.Told.TheVariants as told
use Rattle.dealing.specs.Reached.{Reached}
use Rattle.dealing.proofs.Reached.{formed, sized, passed, crew, cells as opened_cells}
use Rattle.answering.specs.declared.Done.{Done}
use Rattle.answering.specs.declared.Replay.{Replay}
use Rattle.sheet.specs.Replay.{commanded, longest_answer}
use Rattle.answering.specs.Store.{state_of, told_of, replied_of, Does, Ready, Answers}
use Rattle.answering.specs.declared.Answered.{Answered}
use Rattle.answering.specs.declared.Worked.{Worked}
use Rattle.fitting.specs.declared.Aim.{Aim}
use Rattle.std.specs.Prelude.{Option, Some}
use Rattle.answering.specs.One.{line_with, OrderAnswers, TurnAnswers}
use Rattle.fitting.specs.Fitting.{most_items}
use Rattle.fitting.proofs.Fitting.{Names, Aimed}
use Rattle.answering.proofs.Store.{inside, table-length, turns, tells-on}
use Rattle.answering.proofs.Answering.{room-left, line-printed, answers-todo}
use Rattle.printing.specs.Widths.{reply_width}

-- the replay with worker w gone on, behind a line
abbrev pub went : Replay → ℕ → Worker → ℕ → Answered
went x w a end = record { replay = record { phase = with_worker x.phase w a.activity; length = x.length; items = x.items }; at = end; ended = false }

-- ---- the order that a line names is the one that the call asks for
module _ (M : Model) (p : Phase) (o : Order) where
  abbrev given : Replied
  given = order_to M p false o.worker o.key o.price

  by_place : (f : Option Order) (w v : ℕ) → f ≡ Some o → eqb p.kind 1 ≡ true → order_found M p f w v ≡ given
  by_place f w v e t = ap (λ (x : Option Order). order_found M p x w v) e ∙ rw t refl

  by_key : (f : Option Order) (w v : ℕ) → o ≡ order_with v 0 w → eqb p.kind 1 ≡ false → order_found M p f w v ≡ given
  by_key f w v e t = rw t refl ∙ ap (λ (x : Order). order_to M p false x.worker x.key x.price) (sym e)

  names-asked : (ns : List ℕ) (os : List Order) → Names p.kind ns os o → order_call M p os (get_or ns 0 0) (get_or ns 0 0) (get_or ns 1 0) ≡ given
  names-asked ns os names =
      let i = get_or ns 0 0 in
      let v = get_or ns 1 0 in
      by-test (eqb p.kind 1)
      (λ t. by_place (line_at os i) i v (names.placed (eqb-true p.kind 1 t)) t)
      (λ t. by_key (line_at os i) i v (names.named (eqb-false p.kind 1 t)) t)

-- ---- a replay whose phase is open, and a worker of it
module _ (cells : List ℕ) (items : List Order) (w : ℕ) (x : Replay) (ready : Ready x cells items) (up : x.phase.shut ≡ false) (below : w < x.phase.crew) where
  abbrev table : List ℕ
  table = take x.length cells

  abbrev worker : Worker
  worker = get_or x.phase.workers w idle

  abbrev list : List Order
  list = take x.items items

  abbrev reached : Reached gateway list x.phase table
  reached = ready.valid.reached up

  good : is_well_formed gateway x.phase ≡ true
  good = formed gateway gateway-proper reached.kind reached.crew reached.hash reached.opened list x.phase table reached.by

  fits : x.phase.length ≡ length table
  fits = sized gateway gateway-proper reached.kind reached.crew reached.hash reached.opened list x.phase table reached.by

  turn-here : (l : Line) → Aimed x.phase.kind x.phase.shut l x.phase.crew list (Some (Aim.Turn w))
      → (m : Moved) (u : List ℕ) → m ≡ one_turn gateway x.phase.kind x.phase.hash x.phase.length table worker
      → u ≡ one_cells gateway x.phase.kind x.phase.hash x.phase.length table worker → length u ≡ length table
      → (kept : length (u ++ drop x.length cells) ≡ length cells)
      → (n at : ℕ) (out out' : List ℕ) (end : ℕ) → PrintedWithin longest_answer (line_with n (turn_fields m.reply)) out at out' end
      → Answers (state_of x cells items) n l cells out at (u ++ drop x.length cells) items out' (went x w m.worker end)
  turn-here l (ns, to, is) m u e f long kept n at out out' end p =
      let (a, b) = turn-by-one gateway x.phase table w good up fits below in
      let d : Done = told_of (with-moved x.phase w m).phase x.length x.items (told.Turned m.reply) in
      let does : Does (commanded (state_of x cells items) Command.Turn ns) cells (u ++ drop x.length cells) items d =
      rw is (turns ready.roomy w (with-moved x.phase w m) u d (ap (with-moved x.phase w) e ∙ a, f ∙ b) long refl items ready.kept) in
      answers-todo ready l to.asked does kept refl n at out out' end p

  order-here : (l : Line) (v cents : ℕ) → Aimed x.phase.kind x.phase.shut l x.phase.crew list (Some (Aim.Order (order_with v cents w)))
      → (g : Given) → g ≡ one_order gateway x.phase.kind x.phase.hash x.phase.length worker v cents
      → (n at : ℕ) (out out' : List ℕ) (end : ℕ) → PrintedWithin longest_answer (line_with n (reply_fields g.reply)) out at out' end
      → Answers (state_of x cells items) n l cells out at cells items out' (went x w g.worker end)
  order-here l v cents (ns, to, names) g e n at out out' end p =
      let o : Replied = order_call gateway x.phase list (get_or ns 0 0) (get_or ns 0 0) (get_or ns 1 0) in
      let d : Done = replied_of x.length x.items (with-given x.phase w g) in
      let called : with-given x.phase w g ≡ o =
      ap (with-given x.phase w) e ∙ order-by-one gateway x.phase w v cents good up below
      ∙ sym (names-asked gateway x.phase (order_with v cents w) ns list names) in
      let same : d ≡ replied_of x.length x.items o = ap (replied_of x.length x.items) called in
      let does : Does (commanded (state_of x cells items) Command.Order ns) cells cells items d =
      tells-on ready.roomy items ready.kept o.phase (told.Replied o.reply) d same in
      answers-todo ready l to.asked does refl refl n at out out' end p

stays : (u cells : List ℕ) (k : ℕ) → k ≤ length cells → length u ≡ length (take k cells) → length (u ++ drop k cells) ≡ length cells
stays u cells k b l = omega (arith, length-append u (drop k cells), length-drop k cells, length-take-le k cells b)

-- ---- what the functions ensure, said of a replay that has this worker
module _ {cells : List ℕ} {items : List Order} {x : Replay} (ready : Ready x cells items) {l : Line} {number at : ℕ} {out out' : List ℕ} where
  pub order-line : {o : Order} {r : Worked}
      → Aimed x.phase.kind x.phase.shut l x.phase.crew (take x.items items) (Some (Aim.Order o))
      → OrderAnswers x.phase.kind x.phase.hash x.phase.length (get_or x.phase.workers o.worker idle) o.key o.price number out at out' r
      → Answers (state_of x cells items) number l cells out at cells items out' (went x o.worker r.worker r.at)
  order-line {o} {r} to h =
      rw h.worker (order-here cells items o.worker x ready to.1.up to.1.below l o.key o.price to _ refl number at out out' r.at h.printed)

  pub turn-line : {w : ℕ} {cells' : List ℕ} {r : Worked}
      → Aimed x.phase.kind x.phase.shut l x.phase.crew (take x.items items) (Some (Aim.Turn w))
      → TurnAnswers x.phase.kind x.phase.hash x.phase.length (get_or x.phase.workers w idle) number x.length cells out at cells' out' r
      → Answers (state_of x cells items) number l cells out at cells' items out' (went x w r.worker r.at)
  turn-line {w} {r = r} to h =
      let t = take x.length cells in
      let a = get_or x.phase.workers w idle in
      let long = one-long gateway x.phase.kind x.phase.hash x.phase.length t a in
      let kept = stays (one_cells gateway x.phase.kind x.phase.hash x.phase.length t a) cells x.length (inside ready.roomy) long in
      rw (h.worker, h.store) (turn-here cells items w x ready to.1.up to.1.below l to _ _ refl refl long kept number at out out' r.at h.printed)

-- the phase's length is not 0
pub some-cells : (cells : List ℕ) (items : List Order) (x : Replay) → Ready x cells items → x.phase.shut ≡ false → 0 < x.phase.length
some-cells cells items x ready up =
    let r = ready.valid.reached up in
    let os = take x.items items in
    let t = take x.length cells in
    omega (
      arith,
      opened_cells gateway gateway-proper r.kind r.crew r.hash r.opened os x.phase t r.by,
      (passed gateway gateway-proper r.kind r.crew r.hash r.opened os x.phase t r.by).size,
    )

-- the phase has no more workers than the record has places
pub few-crew : (cells : List ℕ) (items : List Order) (x : Replay) → Ready x cells items → x.phase.shut ≡ false → x.phase.crew ≤ gateway.room
few-crew cells items x ready up =
    let r = ready.valid.reached up in
    let os = take x.items items in
    let t = take x.length cells in
    omega (
      arith,
      crew gateway gateway-proper r.kind r.crew r.hash r.opened os x.phase t r.by,
      (passed gateway gateway-proper r.kind r.crew r.hash r.opened os x.phase t r.by).crew,
    )

-- what a turn of one of its workers must find
pub good-worker : (cells : List ℕ) (items : List Order) (x : Replay) → Ready x cells items → x.phase.shut ≡ false → (w : ℕ) → w < x.phase.crew
    → (activity_ok x.phase.kind x.phase.length label (get_or x.phase.workers w idle).activity ≡ true) × (x.phase.length ≡ x.length)
good-worker cells items x ready up w below =
    let p = x.phase in (
      worker-good gateway p (good cells items w x ready up below) w below,
      fits cells items w x ready up below ∙ table-length ready.roomy,
    )

-- ---- what is printed: the number, then the fields that tell a reply
pub turn-printed : (n : ℕ) (reply : TurnReply) {out between written after : List ℕ} {at from place behind : ℕ} → n < 2 ^ 64 → at + longest_answer ≤ length out
    → (from ≡ place_after out at (digits_of n)) × (between ≡ put_at out at (digits_of n)) → PrintedWithin reply_width (turn_fields reply) between from written place
    → (behind ≡ place_after written place (10 ∷ [])) × (after ≡ put_at written place (10 ∷ []))
    → PrintedWithin longest_answer (line_with n (turn_fields reply)) out at after behind
turn-printed n reply fits room e m f = line-printed n fits room (omega arith) e m f

pub reply-printed : (n : ℕ) (reply : Reply) {out between written after : List ℕ} {at from place behind : ℕ} → n < 2 ^ 64 → at + longest_answer ≤ length out
    → (from ≡ place_after out at (digits_of n)) × (between ≡ put_at out at (digits_of n)) → Printed (reply_fields reply) between from written place
    → (behind ≡ place_after written place (10 ∷ [])) × (after ≡ put_at written place (10 ∷ []))
    → PrintedWithin longest_answer (line_with n (reply_fields reply)) out at after behind
reply-printed n reply fits room e m f = line-printed n fits room (omega arith) e (soon (reply-short reply) m) f

-- ---- what the calls on one worker ensure, with what is printed
pub order-told : {k : ℕ} {ab : Hash} {n : ℕ} {a : Worker} {v cents number : ℕ} {out out' : List ℕ} {at end : ℕ} {g : Given} → g ≡ one_order gateway k ab n a v cents
    → PrintedWithin longest_answer (line_with number (reply_fields g.reply)) out at out' end
    → OrderAnswers k ab n a v cents number out at out' (record { worker = g.worker; at = end })
order-told {number = number} {out} {out'} {at} {end} e p =
    record {
      worker = ap (λ (x : Given). x.worker) e;
      printed = subst (λ (x : Given). PrintedWithin longest_answer (line_with number (reply_fields x.reply)) out at out' end) e p;
    }

pub turn-told : {k : ℕ} {ab : Hash} {n : ℕ} {a : Worker} {number places : ℕ} {cells out out' u : List ℕ} {at end : ℕ} {m : Moved}
    → (m ≡ one_turn gateway k ab n (take places cells) a) × (u ≡ one_cells gateway k ab n (take places cells) a)
    → PrintedWithin longest_answer (line_with number (turn_fields m.reply)) out at out' end
    → TurnAnswers k ab n a number places cells out at (u ++ drop places cells) out' (record { worker = m.worker; at = end })
turn-told {number = number} {places} {cells} {out} {out'} {at = at} {end} e p =
    record {
      worker = ap (λ (x : Moved). x.worker) e.0;
      store = ap (λ (x : List ℕ). x ++ drop places cells) e.1;
      printed = subst (λ (x : Moved). PrintedWithin longest_answer (line_with number (turn_fields x.reply)) out at out' end) e.0 p;
    }

-- room behind the number
pub reply-room : (n : ℕ) (out : List ℕ) (at : ℕ) {between : List ℕ} {place : ℕ} → n < 2 ^ 64 → at + longest_answer ≤ length out
    → (place ≡ place_after out at (digits_of n)) × (between ≡ put_at out at (digits_of n)) → place + reply_width ≤ length between
reply-room n out at fits room e = omega (arith, room-left n out at fits room e 0 (omega arith))
