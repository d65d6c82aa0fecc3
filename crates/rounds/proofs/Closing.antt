-- Closing a round: its refusals, the acknowledgements' answers, and the table and the list that it leaves.
use Rattle.std.specs.Prelude.{Ok}
use mathlib.Core.Path.{◌≡◌, refl, sym, ap, ◌∙◌, subst}
use mathlib.Core.Logic.Iff
use mathlib.Core.Logic.{◌≢◌, ◌↔◌, ◌⊎◌, inl, inr, ⊎_elim}
use mathlib.Core.Bool.{true, false, cond}
use mathlib.Core.List.{List, [], ◌∷◌, ◌++◌}
use Prim.Native.Nat.{ℕ, ◌+◌, ◌-◌, ◌≤◌, ◌<◌}
use native.Mathlib.Omega.{arith}
use lib.Dec.{ltb}
use lib.ListN.{length, get_or, drop, length-map, length-append, length-drop}
use lib.Seq.{get_or-append-add, get_or-drop}
use borrow.Author.Tests.{ltb-true, ltb-false}
use Rattle.ring.proofs.Split.{by-eq}
use Rattle.ring.proofs.Tests.{by-test, not_both, within-says}
use Rattle.layout.specs.Layout.{In, size}
use Rattle.homes.specs.Promise.{Odd}
use Rattle.homes.specs.declared.Hash.{Hash}
use Rattle.prices.specs.Contents.{label, price}
use Rattle.prices.specs.Priced.{labels, Least, without_labels}
use Rattle.prices.proofs.Labels.{in-labels, labels_in, in-without_labels}
use Rattle.prices.proofs.Least.{without-labels-same}
use Rattle.prices.proofs.Theorem.{theorem as layouts}
use Rattle.flaws.specs.Promise.{Intact}
use Rattle.orders.specs.declared.Order.{Order}
use Rattle.rule.specs.Events.{Said}
use Rattle.phases.specs.Promise.{Right}
use Rattle.words.specs.Words.{count_of, filled}
use Rattle.state.specs.Counts.{count_number, count_value, counted_by, if_counted}
use Rattle.state.specs.Model.{Model, Proper, crew_ok}
use Rattle.state.specs.Open.{open_reply}
use Rattle.state.specs.Refusals.{Bar, reply_number, first_of}
use Rattle.state.specs.Replies.{Counted}
use Rattle.state.specs.declared.Refusal.TheVariants.{Crew, ShortList}
use Rattle.state.proofs.Counts.{count-number, kept}
use Rattle.protocol.specs.Cases.{Case, case, Decides}
use Rattle.protocol.specs.Promise.{Soundness, GappedIn, DisorderedIn}
use Rattle.protocol.specs.WellFormed as formed
use Rattle.protocol.proofs.Calls.{size_steps, even_steps, sound_steps}
use Rattle.protocol.proofs.Chain.{Step, wanting, cases_of, decides, decides-last, none-accepted}
use Rattle.protocol.proofs.Soundness.{sounds}
use Rattle.protocol.proofs.Theorem.{passed-opens}
use Rattle.tables.specs.Calls as tables
use Rattle.tables.proofs.Theorem.{theorem as at_rest}
use Rattle.history.specs.History.{Call, after}
use Rattle.history.proofs.Theorem.{history}
use Rattle.rounds.specs.Promise.{Acked, AsSaid, round_cases, ClosingPromise}
use Rattle.rounds.specs.Rounds.{Ack, no_ack, ack_reply, ack_numbers, acked, orders_out, is_short, round_bars, left_table, close_round, table_after, answers_after, list_after}
use Rattle.rounds.proofs.Acks.{ack, acked-front, own-answer, acked-says, orders-keys}
use Rattle.rounds.proofs.Laid.{laid-long, laid-sound, laid-has}
use Rattle.rounds.proofs.Sizes.{labels-fewer}
use Rattle.rounds.proofs.Sounds.{some, counts, keys-few, cell-right, entry-least}

-- ---- a list with another at its front
pub front-past : (xs l : List ℕ) (j : ℕ) → length xs ≤ j → get_or (xs ++ drop (length xs) l) j 0 ≡ get_or l j 0
front-past xs l j h =
    let e : length xs + (j - length xs) ≡ j = omega arith in
    ap (λ (i : ℕ). get_or (xs ++ drop (length xs) l) i 0) (sym e)
    ∙ get_or-append-add xs (drop (length xs) l) (j - length xs) 0
    ∙ get_or-drop (length xs) l (j - length xs) 0
    ∙ ap (λ (i : ℕ). get_or l i 0) e

-- ---- one of two numbers is less than its other
either_less : (a b x y : ℕ) → (cond (ltb a b) true (ltb x y) ≡ true → (a < b) ⊎ (x < y)) × (cond (ltb a b) true (ltb x y) ≡ false → (b ≤ a) × (y ≤ x))
either_less a b x y = by-test (ltb a b)
    (λ l. rw l (λ _. inl (ltb-true a b l), λ e. absurd (not_both true refl e)))
    (λ l. rw l (λ e. inr (ltb-true x y e), λ e. (ltb-false a b l, ltb-false x y e)))

-- ---- what was said rightly is said so here
as_said : (m : ℕ) (t : List ℕ) (said : List Said) → Right label t said → AsSaid m t said
as_said m t [] h = tt
as_said m t (a ∷ others) (nz, is, h) = (
  λ r key there.
      let (_, (_, (_, none))) = ack m t r in (
        λ f.
            let s = (is a.price).0 (f, refl) in
            none.1 (((tt, λ z. nz (sym key ∙ z)), there), rw (key, ← s.is) (in-labels label t s.content s.member)),
        λ z.
            let (_, i) = none.0 z in
            let c = labels_in label t r.key i in
            ((is (price c.content)).1 (record { content = c.content; member = c.member; is = c.is ∙ key; costs = refl })).0,
      ),
  as_said m t others h,
)

module _ (M : Model) (proper : Proper M) (m : ℕ) (ab : Hash) (t : List ℕ) (rs : List Ack) (answers out : List ℕ) where
  abbrev number : ℕ
  number = count_number (close_round M m ab t rs answers out)

  abbrev left : List ℕ
  left = left_table M m ab t rs

  -- ---- the refusals
  abbrev Fits : Type 0
  Fits = (count_of t ≤ length out) × (length rs ≤ length answers)

  abbrev Short : Type 0
  Short = (length out < count_of t) ⊎ (length answers < length rs)

  abbrev round_steps : List Step
  round_steps =
      size_steps M t
      ++ wanting (crew_ok M m) (within-says M.fewest_workers M.most_workers m) Crew
      ∷ even_steps ab
      ++ sound_steps M ab t
      ++ record {
        when = is_short t (length rs) (length answers) (length out);
        why = ShortList;
        passes = Fits;
        applies = Short;
        if-true = (either_less (length out) (count_of t) (length answers) (length rs)).0;
        if-false = (either_less (length out) (count_of t) (length answers) (length rs)).1;
        apart = λ (list, places). ⊎_elim (λ (l : length out < count_of t). omega arith) (λ (l : length answers < length rs). omega arith);
      }
      ∷ []

  by_tests : Decides number (cases_of round_steps)
  by_tests = decides round_steps refl number (count-number (count_of left) (first_of (round_bars M m ab t rs answers out)))

  by_cases : Decides number (round_cases M m ab t (length rs) (length answers) (length out))
  by_cases =
      let (one, (two, (even, (four, (seventeen, (eighteen, twelve)))))) = by_tests in
      let keys : ℕ = size (labels label t) in
      let short : Case = case 12 ((keys ≤ length out) × (length rs ≤ length answers)) ((length out < keys) ⊎ (length answers < length rs)) in
      let last = decides-last (case 12 Fits Short) short _ number refl
      (λ (((_, w), g), d). let e = ones w g d in (λ (l, p). (omega arith, p), λ (l, p). (omega arith, p)))
      (λ (((_, w), g), d). let e = ones w g d in
      (⊎_elim (λ (l : length out < count_of t). inl (omega arith)) inr, ⊎_elim (λ (l : length out < keys). inl (omega arith)) inr))
      twelve in
      (one, (two, (even, (four, (seventeen, (eighteen, last))))))
    where
      ones : Intact t → (GappedIn M ab t → ⊥) → (DisorderedIn M ab t → ⊥) → count_of t ≡ size (labels label t)
      ones w g d = counts M proper ab t ((sounds.kinds M proper ab t).1 (w, g, d))

  -- what a closing that is not refused has passed
  pub record Passed : Type 0 where
    pub size : formed.Size M (length t)
    pub crew : formed.Crew M m
    pub odd : Odd ab.a
    pub sound : Soundness M ab t
    pub list : count_of t ≤ length out
    pub places : length rs ≤ length answers

  pub passed : number ≡ 0 → Passed
  passed z =
      let (_, (_, (_, (_, (_, (_, (_, none))))))) = by_tests in
      let (((((((_, right), crew), odd), w), g), d), (list, places)) = none.0 z in
      record { size = right; crew = crew; odd = odd; sound = (sounds.kinds M proper ab t).1 (w, g, d); list = list; places = places }

  -- ---- a closing that is not refused
  module _ (z : number ≡ 0) where
    sound : Soundness M ab t
    sound = (passed z).sound

    cells : 0 < length t
    cells = some M proper ab t sound

    pub counted : close_round M m ab t rs answers out ≡ Ok (count_of (left_table M m ab t rs))
    counted = ap (counted_by (count_of left)) (none-accepted (first_of bars) (sym (count-number (count_of left) (first_of bars)) ∙ z))
      where
        bars : List Bar
        bars = round_bars M m ab t rs answers out

    pub table_is : table_after M m ab t rs answers out ≡ left_table M m ab t rs
    table_is = ap (λ (a : Counted). if_counted a left t) counted

    pub answers-are : answers_after M m ab t rs answers out ≡ ack_numbers m t rs ++ drop (length rs) answers
    answers-are = ap (λ (a : Counted). if_counted a (ack_numbers m t rs ++ drop (length rs) answers) answers) counted

    pub list-is : list_after M m ab t rs answers out ≡ filled (left_table M m ab t rs) out
    list-is = ap (λ (a : Counted). if_counted a (filled left out) out) counted

    -- ---- the answers
    pub own : (i d : ℕ) → i < length rs → get_or (answers_after M m ab t rs answers out) i d ≡ reply_number (ack_reply m t (get_or rs i no_ack))
    own i d l = ap (λ (ns : List ℕ). get_or ns i d) answers-are ∙ own-answer m t rs (drop (length rs) answers) i d l

    acked-keys : acked rs (answers_after M m ab t rs answers out) ≡ acked rs (ack_numbers m t rs)
    acked-keys = ap (acked rs) answers-are ∙ acked-front m t rs (drop (length rs) answers)

    replied : (v : ℕ) → In v (acked rs (ack_numbers m t rs)) ↔ Acked rs (answers_after M m ab t rs answers out) v
    replied v =
        subst (λ (vs : List ℕ). In v vs ↔ Acked rs (answers_after M m ab t rs answers out) v) acked-keys (acked-says rs (answers_after M m ab t rs answers out) v)

    -- ---- the entries that are left
    abbrev ordered : List ℕ
    ordered = orders_out (acked rs (ack_numbers m t rs))

    abbrev rest : List ℕ
    rest = without_labels label ordered t

    in_rest : (y : ℕ) → In y rest ↔ (In y t × (Acked rs (answers_after M m ab t rs answers out) (label y) → ⊥))
    in_rest y =
        let h = in-without_labels label ordered t y in
        let same = orders-keys (acked rs (ack_numbers m t rs)) in (
          λ i. let (j, none) = h.0 i in (j, λ a. none (subst (In (label y)) (sym same) ((replied (label y)).1 a))),
          λ (j, none). h.1 (j, λ a. none ((replied (label y)).0 (subst (In (label y)) same a))),
        )

    few : size (labels label rest) < length t
    few = omega (arith, labels-fewer rest t (λ y _ i. ((in_rest y).0 i).0), keys-few M proper ab t sound)

    rest-least : (y : ℕ) → label y ≢ 0 → In y rest ↔ Least label rest y
    rest-least y nz = (
      λ i. record { member = i; most = λ x j e. (entry-least M proper ab t sound y nz ((in_rest y).0 i).0).most x ((in_rest x).0 j).0 e },
      λ h. h.member,
    )

    -- ---- the table
    pub left-sound : Soundness M ab (left_table M m ab t rs)
    left-sound = laid-sound M proper ab (length t) cells rest few (λ x i. cell-right M proper ab t sound x ((in_rest x).0 i).0)

    left-long : length (left_table M m ab t rs) ≡ length t
    left-long = laid-long M proper ab (length t) cells rest few

    pub left-has : (y : ℕ) → label y ≢ 0 → In y (left_table M m ab t rs) ↔ (In y t × (Acked rs (answers_after M m ab t rs answers out) (label y) → ⊥))
    left-has y nz = Iff.trans (laid-has M proper ab (length t) cells rest few y nz) (Iff.trans (Iff.symm (rest-least y nz)) (in_rest y))

    -- look-up and take-out shifts on the lent table open
    pub opens-again : (k : ℕ) → formed.Kind k → k ≢ 1 → (os : List Order) → open_reply M k m ab t os ≡ Ok tt
    opens-again k kind ne os =
        let p = passed z in
        passed-opens M k m ab t os proper
        (record { size = p.size; crew = p.crew; kind = kind; odd = p.odd; sound = λ _. (sounds.words M ab t).1 sound; list = λ is. absurd (ne is) })

    pub take-out-opens : (os : List Order) → open_reply M 2 m ab t os ≡ Ok tt
    take-out-opens = opens-again 2 (omega arith, omega arith) (λ e. omega arith)

    looked_up : (os : List Order) (cs : List Call) → AsSaid m t (after M 3 m ab t os cs).said
    looked_up os cs = as_said m t (after M 3 m ab t os cs).said
        ((history M proper 3 m ab t os (opens-again 3 (omega arith, omega arith) (λ e. omega arith) os) cs).right refl)

    taken : (os : List Order) (cs : List Call) → (after M 2 m ab t os cs).closed ≡ true
        → ((v : ℕ) → v ≢ 0 → In v (labels label (after M 2 m ab t os cs).ordered) ↔ Acked rs (answers_after M m ab t rs answers out) v)
        → (after M 2 m ab t os cs).table ≡ table_after M m ab t rs answers out
    taken os cs shut same =
        let given : List ℕ = (after M 2 m ab t os cs).ordered in
        (history M proper 2 m ab t os (take-out-opens os) cs).closed shut
        ∙ (layouts (length t) label (M.home ab (length t)) refl (λ x. proper.homes ab (length t) x cells)).set_only (without_labels label given t) rest
        (without-labels-same label given ordered t (λ v nz.
        rw (orders-keys (acked rs (ack_numbers m t rs))) (Iff.trans (same v nz) (Iff.symm (replied v)))))
        ∙ sym table_is

    -- ---- the list
    pub left-counts : count_of (left_table M m ab t rs) ≡ size (labels label (left_table M m ab t rs))
    left-counts = counts M proper ab left left-sound

    left-fits : count_of left ≤ length out
    left-fits = omega (arith, left-counts, counts M proper ab t sound, (passed z).list, labels-fewer left t (λ y nz i. ((left-has y nz).0 i).0))

    pub left-listed : tables.list_call M ab left out ≡ close_round M m ab t rs answers out
    left-listed =
        let p = passed z in
        let r = at_rest M proper ab left out in
        let right : formed.Size M (length left) = (omega (arith, p.size.0, left-long), omega (arith, p.size.1, left-long)) in
        let count : tables.count_call M ab left ≡ Ok (count_of left) =
        ap (counted_by (count_of left)) (none-accepted (tables.check_call M ab left) (r.passes.1 (right, p.odd, left-sound))) in
        r.list_counts (omega (arith, left-fits, ap count_value count)) ∙ count ∙ sym counted

    listed : (tables.list_call M ab (table_after M m ab t rs answers out) out ≡ close_round M m ab t rs answers out)
        × (tables.list_after M ab (table_after M m ab t rs answers out) out ≡ list_after M m ab t rs answers out)
    listed = (
      ap (λ (u : List ℕ). tables.list_call M ab u out) table_is ∙ left-listed,
      ap (λ (u : List ℕ). tables.list_after M ab u out) table_is ∙ ap (λ (a : Counted). if_counted a (filled left out) out) left-listed,
    )

  -- ---- refused or not
  refused : number ≢ 0
      → (table_after M m ab t rs answers out ≡ t) × (answers_after M m ab t rs answers out ≡ answers) × (list_after M m ab t rs answers out ≡ out)
  refused nz =
      let a = close_round M m ab t rs answers out in
      (kept a left t nz, kept a (ack_numbers m t rs ++ drop (length rs) answers) answers nz, kept a (filled left out) out nz)

  past : (j : ℕ) → length rs ≤ j → get_or (answers_after M m ab t rs answers out) j 0 ≡ get_or answers j 0
  past j l = by-eq number 0 (λ z. ap (λ (ns : List ℕ). get_or ns j 0) (answers-are z) ∙ numbers-past) (λ nz. ap (λ (ns : List ℕ). get_or ns j 0) (refused nz).1)
    where
      numbers-past : get_or (ack_numbers m t rs ++ drop (length rs) answers) j 0 ≡ get_or answers j 0
      numbers-past = rw (length-map rs (λ (r : Ack). reply_number (ack_reply m t r))) at (front-past (ack_numbers m t rs) answers j (simp length-map l))

  places : length (answers_after M m ab t rs answers out) ≡ length answers
  places = by-eq number 0 (λ z. ap length (answers-are z) ∙ simp (length-append, length-map, length-drop) (omega (arith, (passed z).places))) (λ nz. ap length (refused nz).1)

  sized : length (table_after M m ab t rs answers out) ≡ length t
  sized = by-eq number 0 (λ z. ap length (table_is z) ∙ left-long z) (λ nz. ap length (refused nz).0)

pub closing : ClosingPromise
closing M proper m ab t rs answers out =
    record {
      decides = by_cases M proper m ab t rs answers out;
      refused = refused M proper m ab t rs answers out;
      own = λ z i. own M proper m ab t rs answers out z i 0;
      past = past M proper m ab t rs answers out;
      places = places M proper m ab t rs answers out;
      looked_up = looked_up M proper m ab t rs answers out;
      sound = λ z. rw (table_is M proper m ab t rs answers out z) (left-sound M proper m ab t rs answers out z);
      left = λ z. rw (table_is M proper m ab t rs answers out z) (left-has M proper m ab t rs answers out z);
      sized = sized M proper m ab t rs answers out;
      taken = taken M proper m ab t rs answers out;
      listed = listed M proper m ab t rs answers out;
    }
