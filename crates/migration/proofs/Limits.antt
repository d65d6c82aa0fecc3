-- Within the limits of a model its calls on migrations are the gateway's: the tests of these limits are all that is different.
use Rattle.std.specs.Prelude.{Ok, Err}
use mathlib.Core.Path.{◌≡◌, refl, sym, ap, ap₂, ◌∙◌}
use mathlib.Core.Logic.{◌↔◌}
use mathlib.Core.Bool.{true}
use mathlib.Core.List.{List, [], ◌∷◌}
use Prim.Native.Nat.{ℕ}
use lib.ListN.{length}
use Rattle.homes.specs.declared.Hash.{Hash}
use Rattle.state.specs.Model.{gateway, model_of}
use Rattle.state.specs.declared.Device.{Device}
use Rattle.state.specs.Replies.{Reply}
use Rattle.state.proofs.Model.{proper}
use Rattle.protocol.specs.WellFormed.{Size, Crew}
use Rattle.protocol.specs.Replies.{TurnReply}
use Rattle.protocol.proofs.Limits.{size-within, crew-within, cells-in-both, crew-in-both}
use Rattle.numbered.specs.Numbers.{turn_answer, reply_answer}
use Rattle.migration.specs.Calls.{is_well_formed, open_reply, open_call, order_call, close_call, turn_call, turn_old, turn_new}
use Rattle.migration.specs.Courses.{Call, order, turn, close, Course, after_order, after_turn, after_close, call, run, opening, after}
use Rattle.migration.specs.Lists.{answer_of, answers_of}
use Rattle.migration.specs.Promise.{WellFormed, opened}
use Rattle.migration.specs.Tasks.{fetched}
use Rattle.migration.specs.declared.Migrated.{Migrated}
use Rattle.migration.specs.declared.Migration.{Migration}
use Rattle.migration.specs.declared.Stepped.{Stepped}
use Rattle.migration.proofs.Formed.{well-formed-says}
use Rattle.migration.proofs.Keeping.{keeps, each-never-spoilt}
use Rattle.migration.proofs.Passing.{open-passed}
use Rattle.migration.proofs.Protocol.{opens}

-- ---- what an answer adds leaves the record as the call left it
order-left : (w : ℕ) (p : Migration) (r : Reply) (s : Course) → (after_order w p r s).migration ≡ p
order-left w p (Ok _) s = refl
order-left w p (Err r) s = refl

turn-left : (w : ℕ) (old new : List ℕ) (p : Migration) (r : TurnReply) (s : Course) → (after_turn w old new p r s).migration ≡ p
turn-left w old new p (Ok a) s = refl
turn-left w old new p (Err r) s = refl

close-left : (p : Migration) (r : Reply) (s : Course) → (after_close p r s).migration ≡ p
close-left p (Ok _) s = refl
close-left p (Err r) s = refl

module _ (d : Device) where
  pub open-alike : (m : ℕ) (ab : Hash) (old new : List ℕ) → Size (model_of d) (length old) → Size (model_of d) (length new) → Crew (model_of d) m
      → open_call (model_of d) m ab old new ≡ open_call gateway m ab old new
  open-alike m ab old new from into crew =
      let (a, b) = cells-in-both d (length old) from in
      let (u, v) = cells-in-both d (length new) into in
      let (x, y) = crew-in-both d m crew in
      rw (a, b, u, v, x, y)

  -- ---- records
  pub formed-within : (p : Migration)
      → WellFormed (model_of d) p ↔ (WellFormed gateway p × Size (model_of d) p.source × Size (model_of d) p.length × Crew (model_of d) p.crew)
  formed-within p = (
    λ h. (
      record {
        kind = h.kind;
        from = size-within d p.source h.from;
        to = size-within d p.length h.to;
        crew = crew-within d p.crew h.crew;
        handed = h.handed;
        past = h.past;
        workers = h.workers;
      },
      h.from,
      h.to,
      h.crew,
    ),
    λ (h, from, into, crew). record {
      kind = h.kind;
      from = from;
      to = into;
      crew = crew;
      handed = h.handed;
      past = h.past;
      workers = h.workers;
    },
  )

  module _ (p : Migration) (h : WellFormed (model_of d) p) where
    here : is_well_formed (model_of d) p ≡ true
    here = (well-formed-says (model_of d) p).1 h

    there : is_well_formed gateway p ≡ true
    there = (well-formed-says gateway p).1 ((formed-within p).0 h).0

    pub order_alike : (w : ℕ) → order_call (model_of d) p w ≡ order_call gateway p w
    order_alike w = rw (here, there)

    pub turn-alike : (old new : List ℕ) (w : ℕ) → turn_call (model_of d) p old new w ≡ turn_call gateway p old new w
    unfolding fetched
    turn-alike old new w = rw (here, there)

    pub old-alike : (old new : List ℕ) (w : ℕ) → turn_old (model_of d) p old new w ≡ turn_old gateway p old new w
    old-alike old new w = rw (here, there)

    pub new-alike : (old new : List ℕ) (w : ℕ) → turn_new (model_of d) p old new w ≡ turn_new gateway p old new w
    new-alike old new w = rw (here, there)

    pub close-alike : close_call (model_of d) p ≡ close_call gateway p
    close-alike = rw (here, there)

  -- ---- lists of calls
  call-alike : (c : Call) (s : Course) → WellFormed (model_of d) s.migration → call (model_of d) c s ≡ call gateway c s
  unfolding call
  call-alike (order w) s h = ap (λ (r : Migrated). after_order w r.migration r.reply s) (order_alike s.migration h w)
  call-alike (turn w) s h =
      let p = s.migration in
      let r = turn_call (model_of d) p s.old s.new w in
      ap (λ (u : List ℕ). after_turn w u (turn_new (model_of d) p s.old s.new w) r.migration r.reply s) (old-alike p h s.old s.new w)
      ∙ ap (λ (u : List ℕ). after_turn w (turn_old gateway p s.old s.new w) u r.migration r.reply s) (new-alike p h s.old s.new w)
      ∙ ap (λ (q : Stepped). after_turn w (turn_old gateway p s.old s.new w) (turn_new gateway p s.old s.new w) q.migration q.reply s)
      (turn-alike p h s.old s.new w)
  call-alike close s h = ap (λ (r : Migrated). after_close r.migration r.reply s) (close-alike s.migration h)

  call-formed : (c : Call) (s : Course) → WellFormed (model_of d) s.migration → WellFormed (model_of d) (call (model_of d) c s).migration
  unfolding call
  call-formed (order w) s h =
      let r = order_call (model_of d) s.migration w in
      rw (order-left w r.migration r.reply s) ((keeps (model_of d) (proper d) s.migration h).order w)
  call-formed (turn w) s h =
      let p = s.migration in
      let r = turn_call (model_of d) p s.old s.new w in
      rw (turn-left w (turn_old (model_of d) p s.old s.new w) (turn_new (model_of d) p s.old s.new w) r.migration r.reply s)
      ((keeps (model_of d) (proper d) p h).turn s.old s.new w)
  call-formed close s h =
      let r = close_call (model_of d) s.migration in
      rw (close-left r.migration r.reply s) (keeps (model_of d) (proper d) s.migration h).close

  run-alike : (cs : List Call) (s : Course) → WellFormed (model_of d) s.migration → run (model_of d) cs s ≡ run gateway cs s
  unfolding run
  run-alike [] s h = refl
  run-alike (c ∷ cs) s h = run-alike cs (call (model_of d) c s) (call-formed c s h) ∙ ap (run gateway cs) (call-alike c s h)

  -- ---- their answers
  answer-alike : (c : Call) (s : Course) → WellFormed (model_of d) s.migration → answer_of (model_of d) c s ≡ answer_of gateway c s
  unfolding answer_of
  answer-alike (order w) s h = ap (λ (r : Migrated). reply_answer r.reply) (order_alike s.migration h w)
  answer-alike (turn w) s h = ap (λ (r : Stepped). turn_answer r.reply) (turn-alike s.migration h s.old s.new w)
  answer-alike close s h = ap (λ (r : Migrated). reply_answer r.reply) (close-alike s.migration h)

  answers-alike : (cs : List Call) (s : Course) → WellFormed (model_of d) s.migration → answers_of (model_of d) cs s ≡ answers_of gateway cs s
  unfolding answers_of
  answers-alike [] s h = refl
  answers-alike (c ∷ cs) s h =
      ap₂ (λ (x : ℕ) (xs : List ℕ). x ∷ xs) (answer-alike c s h)
      (answers-alike cs (call (model_of d) c s) (call-formed c s h) ∙ ap (answers_of gateway cs) (call-alike c s h))

  -- ---- from an opening that the model accepts
  module _ (m : ℕ) (ab : Hash) (old new : List ℕ) (is : open_reply (model_of d) m ab old new ≡ Ok tt) where
    alike : open_call (model_of d) m ab old new ≡ open_call gateway m ab old new
    alike = let o = open-passed (model_of d) (proper d) m ab old new is in open-alike m ab old new o.from o.to o.crew

    within : WellFormed (model_of d) (open_call (model_of d) m ab old new).migration
    within = each-never-spoilt d (open_call (model_of d) m ab old new).migration (opened m ab old new)

    pub accepted : open_reply gateway m ab old new ≡ Ok tt
    accepted =
        sym (opens gateway m ab old new).reply ∙ ap (λ (r : Migrated). r.reply) (sym alike) ∙ (opens (model_of d) m ab old new).reply ∙ is

    opening-alike : opening (model_of d) m ab old new ≡ opening gateway m ab old new
    opening-alike = ap
        (λ (r : Migrated). record {
          old = old;
          new = new;
          migration = r.migration;
          accepted = 0;
          unfinished = (opening gateway m ab old new).unfinished;
          counted = 0;
          closed = (opening gateway m ab old new).closed;
        }) alike

    pub runs : (cs : List Call) → after (model_of d) m ab old new cs ≡ after gateway m ab old new cs
    runs cs = run-alike cs (opening (model_of d) m ab old new) within ∙ ap (run gateway cs) opening-alike

    pub answers : (cs : List Call) → answers_of (model_of d) cs (opening (model_of d) m ab old new) ≡ answers_of gateway cs (opening gateway m ab old new)
    answers cs = answers-alike cs (opening (model_of d) m ab old new) within ∙ ap (answers_of gateway cs) opening-alike
