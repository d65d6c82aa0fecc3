-- The promises on refusals.
use Rattle.std.specs.Prelude.{Some, Ok, Err}
use mathlib.Core.Path.{◌≡◌, refl, sym, ◌∙◌, ap, subst}
use mathlib.Core.Logic.{◌≢◌, ◌↔◌}
use mathlib.Core.Bool.{Bool, true, false, not}
use mathlib.Core.List.{List, ◌++◌}
use Prim.Native.Nat.{ℕ, ◌≤◌, ◌<◌}
use native.Mathlib.Omega.{arith}
use lib.Dec.{leb, eqb}
use lib.ListN.{length, get_or}
use borrow.Author.Tests.{eq-eqb, ne_eqb, le-leb, leb-true}
use Rattle.ring.proofs.Split.{by-lt, by-eq}
use Rattle.ring.proofs.Tests.{tested}
use Rattle.layout.specs.Layout.{size}
use Rattle.homes.specs.Homes.{plain}
use Rattle.homes.specs.Promise.{Odd}
use Rattle.homes.specs.declared.Hash.{Hash}
use Rattle.prices.specs.Contents.{label, content}
use Rattle.prices.specs.Priced.{labels}
use Rattle.flaws.specs.Promise.{Intact}
use Rattle.flaws.proofs.Theorem.{theorem as flaws}
use Rattle.orders.specs.Orders.{order_with, blank, ordered_keys, line_at, lines_fault}
use Rattle.orders.specs.declared.Order.{Order}
use Rattle.activities.specs.Activities.{is_idle}
use Rattle.activities.specs.declared.Activity.TheVariants.{Idle}
use Rattle.activities.proofs.Activities.{cells-below}
use Rattle.rule.specs.Rule.{touched}
use Rattle.rule.specs.declared.Answer.{Answer}
use Rattle.rule.specs.declared.Answer.TheVariants.{Price, No}
use Rattle.rule.proofs.Suits.{touched-below}
use Rattle.state.specs.Model.{Model, Proper}
use Rattle.state.specs.Open.{open_reply, open_call}
use Rattle.state.specs.Refusals.{reply_number}
use Rattle.state.specs.declared.Phase.{Phase}
use Rattle.state.specs.declared.Refusal.{Refusal}
use Rattle.state.specs.Replies.{Reply}
use Rattle.protocol.specs.Bars.{doing, adds_test, mispriced}
use Rattle.protocol.specs.IsWellFormed.{is_well_formed}
use Rattle.protocol.specs.Calls.{turn_number, asked, missing, entry_for, close_reply, close_call, order_reply, order_to, found_reply, order_call, turn_check, moved_at, turn_call}
use Rattle.protocol.specs.Cases.{Decides}
use Rattle.protocol.specs.Promise.{HashUntestedPromise, SoundIn, Soundness, GappedIn, DisorderedIn, insert_cases, other_cases, line_order_cases, handed_cases, Starts, Answers, turn_cases, WellFormedPromise, OpenPromise, OrderPromise, TurnPromise, ClosePromise}
use Rattle.protocol.specs.WellFormed.{Size, Crew, Kind, WellFormed}
use Rattle.protocol.proofs.Answering.{moved-answers, moved-price, moved-no}
use Rattle.protocol.proofs.Calls.{insert_steps, other_steps, line_order_steps, handed_steps, turn_steps, turn-number, close_steps}
use Rattle.protocol.proofs.Chain.{decides, by-reply, none-accepted}
use Rattle.protocol.proofs.Frames.{but-self, ordered-starts, shut-ends, moved-others}
use Rattle.protocol.proofs.Meeting.{moved-stands, moved-undercut, moved-replaced, moved-carries}
use Rattle.protocol.specs.Lines.{Priced, ShopKey, Good, Fills}
use Rattle.protocol.proofs.Lines.{line-order, line-lacks, fault-bars, apart, all-good, fills-says}
use Rattle.protocol.proofs.Opening.{fresh-resting}
use Rattle.protocol.proofs.WellFormed.{well-formed-says}
use Rattle.protocol.proofs.Soundness.{sounds}
use Rattle.protocol.proofs.Writing.{cells-written, cells-inserted, cells-deleted, cells-emptied}

pub well-formed : WellFormedPromise
well-formed = well-formed-says

-- ---- open
module _ (M : Model) (k m : ℕ) (ab : Hash) (t : List ℕ) (os : List Order) where
  open-reply : (open_call M k m ab t os).reply ≡ open_reply M k m ab t os
  open-reply = by-reply (open_reply M k m ab t os) (λ e. rw e) (λ _ e. rw e)

  abbrev open-answer : ℕ
  open-answer = reply_number (open_call M k m ab t os).reply

  open-number : open-answer ≡ reply_number (open_reply M k m ab t os)
  open-number = ap reply_number open-reply

  open-accepted : open-answer ≡ 0 → open_reply M k m ab t os ≡ Ok tt
  open-accepted z = none-accepted (open_reply M k m ab t os) (sym open-number ∙ z)

  insert-decides : k ≡ 1 → Decides open-answer (insert_cases M k m ab t os)
  insert-decides is = decides (insert_steps M k m ab t os) refl open-answer (open-number ∙ rw (eq-eqb k 1 is, fault-bars (lines_fault m os)))

  other-decides : k ≢ 1 → Decides open-answer (other_cases M k m ab t)
  other-decides ne = decides (other_steps M k m ab t) refl open-answer (open-number ∙ rw (ne_eqb k 1 ne))

  -- what an accepted opening of an insert phase has passed besides
  pub record ListPassed : Type 0 where
    pub long : length os ≤ M.most_lines
    pub lines : (i : ℕ) → i < length os → Good m (get_or os i blank)
    pub room : size (labels label t ++ ordered_keys os) < length t

  -- what an accepted opening has passed
  pub record OpenPassed : Type 0 where
    pub size : Size M (length t)
    pub crew : Crew M m
    pub kind : Kind k
    pub odd : Odd ab.a
    pub sound : Proper M → SoundIn M ab t
    pub list : k ≡ 1 → ListPassed

  none_of : Intact t → (GappedIn M ab t → ⊥) → (DisorderedIn M ab t → ⊥) → Proper M → SoundIn M ab t
  none_of w g d proper = (sounds.words M ab t).1 ((sounds.kinds M proper ab t).1 (w, g, d))

  insert-passed : k ≡ 1 → open-answer ≡ 0 → OpenPassed
  insert-passed is z =
      let (_, (_, (_, (_, (_, (_, (_, (_, (_, (_, (_, (_, (_, none))))))))))))) = insert-decides is in
      let (((((((((((((_, a), b), c), o), l), d), e), f), x), u), y), w), few) = none.0 z in
      record { size = a; crew = b; kind = c; odd = o; sound = none_of d e f; list = λ _. record { long = l; lines = all-good m os x u y w; room = fewer few } }
    where
      fewer : (Fills t os → ⊥) → size (labels label t ++ ordered_keys os) < length t
      fewer none = by-lt (size (labels label t ++ ordered_keys os)) (length t) (λ l. l) (λ l. absurd (none ((fills-says t os).0 (le-leb _ _ l))))

  other-passed : k ≢ 1 → open-answer ≡ 0 → OpenPassed
  other-passed ne z =
      let (_, (_, (_, (_, (_, (_, (_, none))))))) = other-decides ne in
      let (((((((_, a), b), c), o), d), e), f) = none.0 z in
      record { size = a; crew = b; kind = c; odd = o; sound = none_of d e f; list = λ is. absurd (ne is) }

  number_passed : open-answer ≡ 0 → OpenPassed
  number_passed z = by-eq k 1 (λ is. insert-passed is z) (λ ne. other-passed ne z)

  pub open-passed : open_reply M k m ab t os ≡ Ok tt → OpenPassed
  open-passed e = number_passed (open-number ∙ ap reply_number e)

  -- ---- an opening that has passed all this is accepted
  abbrev Limits : Type 0
  Limits = (((Unit {0} × Size M (length t)) × Crew M m) × Kind k) × Odd ab.a

  abbrev Kinds : Type 0
  Kinds = Intact t × (GappedIn M ab t → ⊥) × (DisorderedIn M ab t → ⊥)

  -- of an insert phase the room comes last
  pub by-room : k ≡ 1 → Limits → Kinds → length os ≤ M.most_lines → ((i : ℕ) → i < length os → Good m (get_or os i blank))
      → (reply_number (open_reply M k m ab t os) ≡ 9 ↔ Fills t os) × (reply_number (open_reply M k m ab t os) ≡ 0 ↔ (Fills t os → ⊥))
  by-room is limits (w, g, d) long lines =
      let (_, (_, (_, (_, (_, (_, (_, (_, (_, (_, (_, (_, (nine, none))))))))))))) = rw open-number at (insert-decides is) in
      behind nine none (
        (
          (
            (
              ((((limits, long), w), g), d),
              λ e. (lines e.line e.inside).key e.decides,
            ),
            λ e. absurd (omega (arith, e.decides, (lines e.line e.inside).shop)),
          ),
          λ e. apart (get_or os e.line blank).price e.decides.2 (lines e.line e.inside).price,
        ),
        λ e. absurd (omega (arith, e.decides.3, (lines e.line e.inside).worker)),
      )
    where
      behind : {B F G P Q : Type 0} → P ↔ (B × F) → Q ↔ (B × G) → B → (P ↔ F) × (Q ↔ G)
      behind p q b = ((λ x. (p.0 x).1, λ f. p.1 (b, f)), (λ x. (q.0 x).1, λ g. q.1 (b, g)))

  pub passed-opens : Proper M → OpenPassed → open_reply M k m ab t os ≡ Ok tt
  passed-opens proper p =
      let kinds : Kinds = (sounds.kinds M proper ab t).0 ((sounds.words M ab t).0 (p.sound proper)) in
      let limits : Limits = ((((tt, p.size), p.crew), p.kind), p.odd) in
      none-accepted (open_reply M k m ab t os) (by-eq k 1
      (λ is. let l = p.list is in (by-room is limits kinds l.long l.lines).1.1
      (λ f. absurd (omega (arith, l.room, leb-true (length t) _ ((fills-says t os).1 f)))))
      (λ ne. let (_, (_, (_, (_, (_, (_, (_, none))))))) = other-decides ne in sym open-number ∙ none.1 (((limits, kinds.0), kinds.1), kinds.2)))

  never_unsound : Proper M → Soundness M ab t → (open-answer ≢ 4) × (open-answer ≢ 17) × (open-answer ≢ 18)
  never_unsound proper s =
      let (w, g, d) = (sounds.kinds M proper ab t).0 s in
      let not_damaged = (flaws.kinds (M.home ab (length t)) t).not_damaged w in
      by-eq k 1
      (λ is.
      let (_, (_, (_, (_, (_, (four, (seventeen, (eighteen, _)))))))) = insert-decides is in
      (λ e. not_damaged (four.0 e).1, λ e. g (seventeen.0 e).1, λ e. d (eighteen.0 e).1))
      (λ ne.
      let (_, (_, (_, (_, (four, (seventeen, (eighteen, _))))))) = other-decides ne in
      (λ e. not_damaged (four.0 e).1, λ e. g (seventeen.0 e).1, λ e. d (eighteen.0 e).1))

  open-refused {ℓ} : {C : Type ℓ} → open-answer ≢ 0 → ((q : Refusal) → open_reply M k m ab t os ≡ Err q → C) → C
  open-refused z f = by-reply (open_reply M k m ab t os) (λ e. absurd (z (open-number ∙ ap reply_number e))) f

-- outside insert phases the list is not read
open-unread : (M : Model) (k m : ℕ) (ab : Hash) (t : List ℕ) (os other : List Order) → k ≢ 1 → open_call M k m ab t other ≡ open_call M k m ab t os
open-unread M k m ab t os other ne = rw (ne_eqb k 1 ne)

pub opens : OpenPromise
opens M k m ab t os =
    record {
      reply = open-reply M k m ab t os;
      inserts = insert-decides M k m ab t os;
      others = other-decides M k m ab t os;
      sound = λ proper z. (sounds.words M ab t).0 ((number_passed M k m ab t os z).sound proper);
      never_unsound = never_unsound M k m ab t os;
      refused = λ z. open-refused M k m ab t os z (λ _ e. rw e (fresh-resting M 3 2 1 true plain));
      accepted = λ z. rw (open-accepted M k m ab t os z) (fresh-resting M k (length t) m false ab);
      lines = λ is z. ((number_passed M k m ab t os z).list is).lines;
      unread = λ ne other. open-unread M k m ab t os other ne;
    }

-- ---- a and b are not tested
pub hash_untested : HashUntestedPromise
hash_untested M p ab = (
  λ f. record { kind = f.kind; size = f.size; crew = f.crew; past = f.past; workers = f.workers },
  λ f. record { kind = f.kind; size = f.size; crew = f.crew; past = f.past; workers = f.workers },
)

-- ---- order
-- of key v, with its price, to worker w, by a line that the list lacks or not
order-number : (M : Model) (p : Phase) (lacks : Bool) (w v cents : ℕ) → reply_number (order_to M p lacks w v cents).reply ≡ reply_number (order_reply M p lacks w v cents)
order-number M p lacks w v cents = by-reply (order_reply M p lacks w v cents) (λ e. rw e) (λ _ e. rw e)

module _ (M : Model) (p : Phase) (os : List Order) (i w v : ℕ) where
  -- what is asked for
  abbrev at : Order
  at = asked p.kind (line_at os i) w v

  abbrev lacks : Bool
  lacks = missing p.kind (line_at os i)

  abbrev reply : Reply
  reply = found_reply M p (line_at os i) w v

  abbrev order-answer : ℕ
  order-answer = reply_number (order_call M p os i w v).reply

  is-reply : order-answer ≡ reply_number reply
  is-reply = order-number M p lacks at.worker at.key at.price

  line-decides : p.kind ≡ 1 → Decides order-answer (line_order_cases M p os i)
  line-decides is = decides (line_order_steps M p os i) refl order-answer (is-reply ∙ rw (eq-eqb p.kind 1 is, line-order os i, line-lacks os i))

  handed-decides : p.kind ≢ 1 → Decides order-answer (handed_cases M p w v)
  handed-decides ne = decides (handed_steps M p w v) refl order-answer (is-reply ∙ rw (ne_eqb p.kind 1 ne))

  -- what an accepted order has passed
  pub record Passed : Type 0 where
    pub formed : WellFormed M p
    pub running : p.shut ≡ false
    pub there : p.kind ≡ 1 → i < length os
    pub below : at.worker < p.crew
    pub free : doing p at.worker ≡ Idle
    pub key : at.key ≢ 0
    pub shop : p.kind ≡ 1 → ShopKey at.key
    pub price : p.kind ≡ 1 → Priced at.price

  line-passed : p.kind ≡ 1 → order-answer ≡ 0 → Passed
  line-passed is z =
      let (_, (_, (_, (_, (_, (_, (_, (_, none)))))))) = line-decides is in
      let ((((((((_, formed), running), there), below), free), key), shop), price) = none.0 z in
      let e = eq-eqb p.kind 1 is in
      let o = line-order os i in
      record {
        formed = formed;
        running = running;
        there = λ _. there;
        below = rw (e, o) below;
        free = rw (e, o) free;
        key = rw (e, o) key;
        shop = λ _. rw (e, o) shop;
        price = λ _. rw (e, o) price;
      }

  handed-passed : p.kind ≢ 1 → order-answer ≡ 0 → Passed
  handed-passed ne z =
      let (_, (_, (_, (_, (_, none))))) = handed-decides ne in
      let (((((_, formed), running), below), free), key) = none.0 z in
      let e = ne_eqb p.kind 1 ne in
      record {
        formed = formed;
        running = running;
        there = λ is. absurd (ne is);
        below = rw e below;
        free = rw e free;
        key = rw e key;
        shop = λ is. absurd (ne is);
        price = λ is. absurd (ne is);
      }

  pub order-passed : found_reply M p (line_at os i) w v ≡ Ok tt → Passed
  order-passed e =
      let z : order-answer ≡ 0 = is-reply ∙ ap reply_number e in by-eq p.kind 1 (λ is. line-passed is z) (λ ne. handed-passed ne z)

  order-accepted : order-answer ≡ 0 → reply ≡ Ok tt
  order-accepted z = none-accepted reply (sym is-reply ∙ z)

  -- the worker starts with what was asked for
  order-starts : (o : Order) → at ≡ o → entry_for p.kind at.key at.price ≡ content at.key at.price → order-answer ≡ 0
      → Starts M p o.worker o.key o.price (order_call M p os i w v).phase
  order-starts o same is z =
      let e = order-accepted z in
      subst (λ (x : Order). Starts M p x.worker x.key x.price (order_call M p os i w v).phase) same
      (rw e (ordered-starts M p lacks at.worker at.key at.price (order-passed e).price at.price is))

-- each refusal but 9
order-numbers : (M : Model) (p : Phase) (lacks : Bool) (w v cents : ℕ) → reply_number (order_reply M p lacks w v cents) ≢ 9
order-numbers M p lacks w v cents =
    tested Not-9 (not (is_well_formed M p)) (λ _ e. omega arith) (λ _.
    tested Not-9 p.shut (λ _ e. omega arith) (λ _.
    tested Not-9 lacks (λ _ e. omega arith) (λ _.
    tested Not-9 (leb p.crew w) (λ _ e. omega arith) (λ _.
    tested Not-9 (not (is_idle (doing p w))) (λ _ e. omega arith) (λ _.
    tested Not-9 (eqb v 0) (λ _ e. omega arith) (λ _.
    tested Not-9 (adds_test p.kind v) (λ _ e. omega arith) (λ _.
    tested Not-9 (mispriced p.kind cents) (λ _ e. omega arith) (λ _ e. omega arith))))))))
  where
    Not-9 : Reply → Type 0
    Not-9 r = reply_number r ≢ 9

pub orders : OrderPromise
orders M p os i w v =
    let is = is-reply M p os i w v in
    record {
      inserts = line-decides M p os i w v;
      others = handed-decides M p os i w v;
      never_full = λ e. let o = at M p os i w v in order-numbers M p (lacks M p os i w v) o.worker o.key o.price (sym is ∙ e);
      refused = λ z. by-reply (reply M p os i w v) (λ e. absurd (z (is ∙ ap reply_number e))) (λ _ e. rw e);
      insert_accepted = λ one. order-starts M p os i w v (get_or os i blank) (rw (eq-eqb p.kind 1 one, line-order os i)) (rw (eq-eqb p.kind 1 one));
      other_accepted = λ ne. order-starts M p os i w v (order_with v 0 w) (rw (ne_eqb p.kind 1 ne)) (rw (ne_eqb p.kind 1 ne));
      insert_unread = λ one x y. rw (eq-eqb p.kind 1 one);
      other_unread = λ ne other j. rw (ne_eqb p.kind 1 ne);
    }

-- ---- turn
module _ (M : Model) (p : Phase) (t : List ℕ) (w : ℕ) where
  turn-decides : Decides (turn_number (turn_call M p t w).reply) (turn_cases M p t w)
  turn-decides = decides (turn_steps M p t w) refl (turn_number (turn_call M p t w).reply) (turn-number M p t w)

  -- what a turn that is not refused has passed
  pub turn-passed : turn_check M p t w ≡ Ok tt → WellFormed M p × (p.shut ≡ false) × (p.length ≡ length t) × (w < p.crew)
  turn-passed e =
      let (_, (_, (_, (_, none)))) = turn-decides in
      let ((((_, f), running), cells), worker) = none.0 (turn-number M p t w ∙ ap reply_number e) in (f, running, cells, worker)

  pub turn-accepted : turn_number (turn_call M p t w).reply ≡ 0 → turn_check M p t w ≡ Ok tt
  turn-accepted z = none-accepted (turn_check M p t w) (sym (turn-number M p t w) ∙ z)

  -- the cell that it touches is in the table
  pub inside : (c : ℕ) → turn_check M p t w ≡ Ok tt → touched (doing p w) ≡ Some c → c < length t
  inside c e is =
      let (formed, _, cells, below) = turn-passed e in
      omega (arith, touched-below p.length (doing p w) c (cells-below p.kind p.length label (doing p w) (formed.workers w below)) is)

  -- a turn with an answer was accepted, and moved its worker
  turn-answered {ℓ} : {C : Type ℓ} (r : Answer) → (turn_call M p t w).reply ≡ Ok r
      → (turn_check M p t w ≡ Ok tt → (moved_at M p t w (touched (doing p w))).reply ≡ Ok r → C) → C
  turn-answered r e f = by-reply (turn_check M p t w) (λ ok. f ok (rw ok at e)) (λ q no. absurd (let z : ◌≡◌ {A = ℕ} 0 1 = cc in omega arith))

  answer-told : (r : Answer) → (turn_call M p t w).reply ≡ Ok r → Answers p.kind (doing p w) (doing (turn_call M p t w).phase w) r
  answer-told r e = turn-answered r e (λ ok f.
      let (formed, _, _, below) = turn-passed ok in
      rw ok (moved-answers M p t w formed.kind (formed.workers w below) (touched (doing p w)) refl r f))

pub turns : TurnPromise
turns M p t w =
    let is = turn-number M p t w in
    let place = touched (doing p w) in
    record {
      answers = turn-decides M p t w;
      refused = λ z. by-reply (turn_check M p t w) (λ e. absurd (z (is ∙ ap reply_number e))) (λ _ e. rw e (refl, refl));
      idle = λ i. by-reply (turn_check M p t w) (λ e. rw (e, i) (refl, refl)) (λ _ e. rw e (refl, refl));
      idle_answer = λ i z. rw (turn-accepted M p t w z, i);
      answered = answer-told M p t w;
      says_price = λ q e c on. turn-answered M p t w (Price q) e (λ _ f. moved-price M p t w c q (rw on at f));
      says_no = λ e c on. turn-answered M p t w No e (λ _ f. moved-no M p t w c (rw on at f));
      writes = λ c ne. by-reply (turn_check M p t w) (λ e. rw e (cells-written M p t w place refl c (rw e at ne))) (λ _ e. absurd (ne (rw e)));
      inserts = λ z kind v i j x on held.
          let e = turn-accepted M p t w z in rw e (cells-inserted M p t w v i j x on (inside M p t w i e (ap touched on)) kind held);
      deletes = λ z kind v i j x on held some.
          let e = turn-accepted M p t w z in rw e (cells-deleted M p t w v i j x on (inside M p t w i e (ap touched on)) kind held some);
      empties = λ z kind v i j x on held none.
          let e = turn-accepted M p t w z in rw e (cells-emptied M p t w v i j x on (inside M p t w i e (ap touched on)) kind held none);
      stands = λ z kind v i on own l. rw (turn-accepted M p t w z) (moved-stands M p t w kind v i on own l);
      undercuts = λ z kind v i on own l. rw (turn-accepted M p t w z) (moved-undercut M p t w kind v i on own l);
      ends = λ z kind v i j x on held h. rw (turn-accepted M p t w z) (moved-replaced M p t w kind v i j x on held h);
      carries = λ z kind v i j x on held nz h. rw (turn-accepted M p t w z) (moved-carries M p t w kind v i j x on held nz h);
      others = by-reply (turn_check M p t w) (λ e. rw e (moved-others M p t w place)) (λ _ e. rw e (but-self w p));
    }

-- ---- close
-- a busy worker of a well-formed phase state is below the count
busy-below : (M : Model) (p : Phase) → WellFormed M p → (w : ℕ) → doing p w ≢ Idle → w < p.crew
busy-below M p f w z = by-lt w p.crew (λ l. l) (λ l. absurd (z (f.past w l)))

close-number : (M : Model) (p : Phase) → reply_number (close_call M p).reply ≡ reply_number (close_reply M p)
close-number M p = by-reply (close_reply M p) (λ e. rw e) (λ _ e. rw e)

pub closes : ClosePromise
closes M p =
    let (spoilt, (shut, (working, none))) = decides (close_steps M p) refl (reply_number (close_call M p).reply) (close-number M p) in
    record {
      answers = (
        spoilt,
        (
          shut,
          (
            (
              λ e. let (((u, f), running), (w, z)) = working.0 e in (((u, f), running), (w, busy-below M p f w z, z)),
              λ (b, (w, _, z)). working.1 (b, (w, z)),
            ),
            none,
          ),
        ),
      );
      refused = λ z. by-reply (close_reply M p) (λ e. absurd (z (close-number M p ∙ ap reply_number e))) (λ _ e. rw e);
      accepted = λ z. rw (none-accepted (close_reply M p) (sym (close-number M p) ∙ z)) (shut-ends p);
    }

-- what an accepted close has passed
pub close_passed : (M : Model) (p : Phase) → close_reply M p ≡ Ok tt → WellFormed M p × (p.shut ≡ false) × ((w : ℕ) → doing p w ≡ Idle)
close_passed M p e =
    let (_, (_, (_, none))) = (closes M p).answers in
    let (((_, f), running), rest) = none.0 (close-number M p ∙ ap reply_number e) in (f, running, rest)
