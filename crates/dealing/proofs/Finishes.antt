-- The finishes of a run, by an invariant for each worker: it was idle and is; or it was busy and is, for the same entry in a find phase; or it was busy,
-- is idle, and its finish is right.
use Rattle.std.specs.Prelude.{Option, ℕ, Some, None, Ok}
use mathlib.Core.Path.{◌≡◌, refl, sym, ap, ◌∙◌, subst}
use mathlib.Core.Logic.{◌≢◌, ◌↔◌, ◌⊎◌, inl, inr}
use mathlib.Core.Bool.{false}
use mathlib.Core.List.{List}
use Prim.Native.Nat.{ℕ, zero, suc, ◌≤◌, ◌<◌}
use native.Mathlib.Omega.{arith}
use lib.ListN.{length, get_or, length-set, length-replicate}
use lib.Seq.{get_or-set_same, get_or-set_other}
use Rattle.ring.proofs.Split.{by-eq}
use Rattle.ring.proofs.Tests.{by-test, not_both}
use Rattle.homes.specs.declared.Hash.{Hash}
use Rattle.prices.specs.Contents.{label}
use Rattle.orders.specs.declared.Order.{Order}
use Rattle.rule.proofs.Crew.{replicate-at}
use Rattle.phases.specs.Promise.{Sold}
use Rattle.phases.proofs.Steps.{either}
use Rattle.activities.specs.Activities.{is_idle, entry_of}
use Rattle.activities.specs.declared.Activity.{Activity}
use Rattle.activities.specs.declared.Activity.TheVariants.{Idle}
use Rattle.activities.proofs.Activities.{idle-says}
use Rattle.rule.specs.Rule.{touched}
use Rattle.rule.specs.declared.Answer.{Answer}
use Rattle.state.specs.Model.{Model, Proper}
use Rattle.state.specs.declared.Phase.{Phase}
use Rattle.protocol.specs.Bars.{doing}
use Rattle.protocol.specs.Calls.{turn_check, turn_call, moved_at}
use Rattle.protocol.specs.Promise.{Framed}
use Rattle.protocol.proofs.Frames.{but-self}
use Rattle.protocol.proofs.Theorem.{turns}
use Rattle.dealing.specs.Reached.{From}
use Rattle.dealing.specs.Deal.{Dealing, unfinished, finish_by, finish_after, begun, deal_to, deal, lap, laps, enough, run}
use Rattle.dealing.specs.declared.Ended.{Ended}
use Rattle.dealing.specs.declared.Ended.TheVariants as ended
use Rattle.dealing.proofs.Answers.{Ends, Moves, goes, ends, turn-moves}
use Rattle.dealing.proofs.Reached.{crew, accepts, few-workers}
use Rattle.dealing.proofs.Laps.{is_at_rest}
use Rattle.dealing.proofs.Settling.{Opened, deal-to-opened}

-- ---- one worker that was doing `before` is doing `now`, and its finish is f
pub data Stands (k : ℕ) (t : List ℕ) (before now : Activity) (f : Option Ended) : Type 0 where
  resting : before ≡ Idle → now ≡ Idle → f ≡ unfinished → Stands k t before now f
  working : before ≢ Idle → now ≢ Idle → (k ≡ 3 → entry_of now ≡ entry_of before) → f ≡ unfinished → Stands k t before now f
  done : before ≢ Idle → now ≡ Idle → Ends k t (entry_of before) f → Stands k t before now f

by-idle {ℓ} : {C : Type ℓ} (a : Activity) → (a ≡ Idle → C) → (a ≢ Idle → C) → C
by-idle a f g = by-test (is_idle a) (λ e. f ((idle-says a).0 e)) (λ e. g (λ i. not_both (is_idle a) ((idle-says a).1 i) e))

module _ (k : ℕ) (t : List ℕ) where
  stands-at-first : (a : Activity) → Stands k t a a unfinished
  stands-at-first a = by-idle a (λ i. resting i i refl) (λ b. working b b (λ _. refl) refl)

  -- the finish for an entry of a find phase is the finish for the same entry
  ends_same : (v x : ℕ) (e : Option Ended) → (k ≡ 3 → v ≡ x) → Ends k t v e → Ends k t x e
  ends_same v x None same h = h
  ends_same v x (Some ended.Finished) same h = h
  ends_same v x (Some (ended.Price q)) same h = (h.0, subst (λ y. (z : ℕ) → (q ≡ z) ↔ Sold label t (label y) z) (same h.0) h.1)
  ends_same v x (Some ended.No) same h = (h.0, subst (λ y. (z : ℕ) → Sold label t (label y) z → ⊥) (same h.0) h.1)

  -- a turn of the worker
  stands_on : (before now next : Activity) (f : Option Ended) (a : Answer) → Stands k t before now f → Moves k t now next a → Stands k t before next (finish_by f a)
  stands_on before now next f a (resting b i n) (goes same key stays) = resting b (same.1 i) (stays f ∙ n)
  stands_on before now next f a (resting b i n) (ends busy free fin) = absurd (busy i)
  stands_on before now next f a (working b w key n) (goes same kept stays) = working b (λ i. w (same.0 i)) (λ find. kept find ∙ key find) (stays f ∙ n)
  stands_on before now next f a (working b w key n) (ends busy free fin) = done b free (ends_same (entry_of now) (entry_of before) (finish_by f a) key (fin f))
  stands_on before now next f a (done b i fin) (goes same key stays) = done b (same.1 i) (rw (stays f) fin)
  stands_on before now next f a (done b i fin) (ends busy free _) = absurd (busy i)

-- ---- a run that began with the phase p, in a phase opened with kind k and m workers on the table t, has come to d
pub record Standing (M : Model) (k m : ℕ) (ab : Hash) (t : List ℕ) (os : List Order) (p : Phase) (d : Dealing) : Type 0 where
  pub opened : Opened M k m ab t os d
  pub frame : Framed p d.dealt.phase
  pub shut : d.dealt.phase.shut ≡ p.shut
  pub places : length d.dealt.finishes ≡ M.room
  pub each : (w : ℕ) → Stands k t (doing p w) (doing d.dealt.phase w) (get_or d.dealt.finishes w unfinished)

framed-on : (p q r : Phase) → Framed p q → Framed q r → Framed p r
framed-on p q r f g = record { kind = g.kind ∙ f.kind; cells = g.cells ∙ f.cells; crew = g.crew ∙ f.crew; hash = g.hash ∙ f.hash; places = g.places ∙ f.places }

module _ (M : Model) (proper : Proper M) where
  -- an accepted turn has an answer
  module _ (p : Phase) (u : List ℕ) (w : ℕ) where
    at-answers : (q : Option ℕ) → (a : Answer) × ((moved_at M p u w q).reply ≡ Ok a)
    at-answers None = (_, refl)
    at-answers (Some c) = (_, refl)

    answers : turn_check M p u w ≡ Ok tt → (a : Answer) × ((turn_call M p u w).reply ≡ Ok a)
    answers ok = rw ok (at-answers (touched (doing p w)))

  module _ (k m : ℕ) (ab : Hash) (t : List ℕ) (os : List Order) (p : Phase) where
    deal-to-stands : (w : ℕ) (d : Dealing) → Standing M k m ab t os p d → w < m → Standing M k m ab t os p (deal_to M w d)
    unfolding deal_to
    deal-to-stands w d s l =
        let q = d.dealt.phase in
        let u = d.table in
        let fs = d.dealt.finishes in
        let h = s.opened.from in
        let below : w < q.crew = omega (arith, crew M proper k m ab t os q u h) in
        let ok = accepts M proper k m ab t os q u h w s.opened.running below in
        let (a, is) = answers q u w ok in
        let room : w < length fs = omega (arith, s.places, few-workers M proper k m ab t os q u h) in
        let turned = turns M q u w in
        record {
          opened = deal-to-opened M proper k m ab t os w d s.opened;
          frame = framed-on p q _ s.frame turned.others.frame;
          shut = turned.others.shut ∙ s.shut;
          places = length-set fs w _ ∙ s.places;
          each = λ i. by-eq i w
              (λ z. rw (z, get_or-set_same fs w (finish_after (get_or fs w unfinished) (turn_call M q u w).reply) unfinished room, is)
              (stands_on k t _ _ _ _ a (s.each w) (turn-moves M proper k m ab t os q u h w below a is)))
              (λ z. rw (get_or-set_other fs w i (finish_after (get_or fs w unfinished) (turn_call M q u w).reply) unfinished z, turned.others.others i z) (s.each i));
        }

    deal-stands : (w : ℕ) (d : Dealing) → Standing M k m ab t os p d → w ≤ m → Standing M k m ab t os p (deal M w d)
    unfolding deal
    deal-stands zero d s l = s
    deal-stands (suc w) d s l = deal-to-stands w (deal M w d) (deal-stands w d s (omega arith)) (omega arith)

    laps-stand : (f : ℕ) (d : Dealing) → Standing M k m ab t os p d → Standing M k m ab t os p (laps M f d)
    unfolding laps
    laps-stand zero d s = s
    laps-stand (suc f) d s = either (Standing M k m ab t os p) (is_at_rest d) s
        (laps-stand f (lap M d) (deal-stands d.dealt.phase.crew d s
        (omega (arith, crew M proper k m ab t os d.dealt.phase d.table s.opened.from))))

    pub run-stands : (u : List ℕ) → From M k m ab t os p u → p.shut ≡ false → Standing M k m ab t os p (run M p u)
    run-stands u h up = laps-stand (enough p) (begun M p u)
        (record {
          opened = record { from = h; running = up };
          frame = (but-self 0 p).frame;
          shut = refl;
          places = length-replicate M.room _;
          each = λ w. subst (Stands k t (doing p w) (doing p w)) (sym (replicate-at unfinished M.room w)) (stands-at-first k t (doing p w));
        })

-- ---- what the finish of a worker says that is idle in the end
module _ (k : ℕ) (t : List ℕ) (v : ℕ) where
  pub ends-finished : (e : Option Ended) → Ends k t v e → k ≢ 3 → e ≡ Some ended.Finished
  ends-finished None h ne = absurd h
  ends-finished (Some ended.Finished) h ne = refl
  ends-finished (Some (ended.Price q)) h ne = absurd (ne h.0)
  ends-finished (Some ended.No) h ne = absurd (ne h.0)

  pub ends-answered : (e : Option Ended) → Ends k t v e → k ≡ 3 → ((q : ℕ) × (e ≡ Some (ended.Price q))) ⊎ (e ≡ Some ended.No)
  ends-answered None h find = absurd h
  ends-answered (Some ended.Finished) h find = absurd (h find)
  ends-answered (Some (ended.Price q)) h find = inl (q, refl)
  ends-answered (Some ended.No) h find = inr refl

  -- the price that a finish tells, 0 if it tells none
  abbrev told_price : Option Ended → ℕ
  told_price None = 0
  told_price (Some ended.Finished) = 0
  told_price (Some (ended.Price q)) = q
  told_price (Some ended.No) = 0

  pub ends-right : (e : Option Ended) → Ends k t v e → k ≡ 3 → (q : ℕ) → (e ≡ Some (ended.Price q)) ↔ Sold label t (label v) q
  ends-right None h find q = absurd h
  ends-right (Some ended.Finished) h find q = absurd (h find)
  ends-right (Some (ended.Price x)) h find q = (λ z. (h.1 q).0 (ap told_price z), λ s. ap (λ y. Some (ended.Price y)) ((h.1 q).1 s))
  ends-right (Some ended.No) h find q = (λ z. absurd (let y : ◌≡◌ {A = ℕ} 0 1 = cc in omega arith), λ s. absurd (h.1 q s))

module _ (k : ℕ) (t : List ℕ) (before now : Activity) (f : Option Ended) (free : now ≡ Idle) where
  pub finish-right : Stands k t before now f → before ≢ Idle → Ends k t (entry_of before) f
  finish-right (resting b i n) busy = absurd (busy b)
  finish-right (working b w key n) busy = absurd (w free)
  finish-right (done b i fin) busy = fin

  idle-none : Stands k t before now f → before ≡ Idle → f ≡ None
  idle-none (resting b i n) z = n
  idle-none (working b w key n) z = absurd (b z)
  idle-none (done b i fin) z = absurd (b z)

  pub none-says : Stands k t before now f → (f ≡ None) ↔ (before ≡ Idle)
  none-says s = (λ e. by-idle before (λ i. i) (λ b. absurd (rw e at (finish-right s b))), idle-none s)
