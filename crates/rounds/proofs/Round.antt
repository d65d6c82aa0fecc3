-- A round: what was sent is replied or listed.
use Rattle.std.specs.Prelude.{Ok}
use mathlib.Core.Path.{◌≡◌, refl, sym, ap, ◌∙◌, subst}
use mathlib.Core.Logic.{◌≢◌, ◌↔◌, ◌⊎◌, inl, inr, ⊎_elim}
use mathlib.Core.List.{List, [], ◌∷◌, ◌++◌}
use Prim.Native.Nat.{ℕ, suc, ◌+◌, ◌≤◌, ◌<◌}
use native.Mathlib.Omega.{arith}
use lib.ListN.{length, get_or, take, drop, length-append, get_or-append}
use lib.Seq.{take_at}
use Rattle.layout.specs.Layout.{In, size}
use Rattle.layout.specs.Promise.{SameKeys}
use Rattle.layout.proofs.Sets.{by_in, in-append}
use Rattle.homes.specs.declared.Hash.{Hash}
use Rattle.prices.specs.Contents.{label}
use Rattle.prices.specs.Priced.{labels, Least, least, priced_layout}
use Rattle.prices.proofs.Labels.{in-labels, labels_in}
use Rattle.prices.proofs.Least.{least-is}
use Rattle.orders.specs.Orders.{blank, ordered_keys}
use Rattle.orders.specs.declared.Order.{Order}
use Rattle.words.specs.Promise.{InCellOrder}
use Rattle.words.specs.Words.{occupied, entries_of, filled, count_of}
use Rattle.words.proofs.Theorem.{theorem as listing}
use Rattle.state.specs.Counts.{count_number, count_value, if_counted}
use Rattle.state.specs.Model.{Model, Proper}
use Rattle.state.specs.Replies.{Counted, Reply}
use Rattle.protocol.specs.Lines.{Good}
use Rattle.tables.specs.Calls as tables
use Rattle.tables.proofs.Theorem.{theorem as at_rest}
use Rattle.rounds.specs.Promise.{Acked, Round, ReplyRoundPromise, GivesPromise}
use Rattle.rounds.specs.Rounds.{Ack, no_ack, sent_entries, if_accepted, open_round, sent_table, ack_numbers, acked, left_table, close_round, table_after, answers_after, list_after, Closes}
use Rattle.rounds.proofs.Acks.{accepted-in, acked-says}
use Rattle.rounds.proofs.Closing.{counted, list-is, own, left-sound, left-has, left-counts, closing}
use Rattle.rounds.proofs.Entries.{in-entries, entries-once}
use Rattle.rounds.proofs.Lines.{least-lines}
use Rattle.rounds.proofs.Sending.{lines, sent-keys, has-least}
use Rattle.rounds.proofs.Sizes.{size-apart, size_same, labels-among}
use Rattle.rounds.proofs.Sounds.{keys-once}

-- good lines are for keys
key-some : (m : ℕ) (os : List Order) → ((i : ℕ) → i < length os → Good m (get_or os i blank)) → (v : ℕ) → In v (ordered_keys os) → v ≢ 0
key-some m [] good v i z = i
key-some m (o ∷ os) good v (inl e) z = (good 0 (omega arith)).key (sym e ∙ z)
key-some m (o ∷ os) good v (inr i) z = key-some m os (λ i l. good (suc i) (omega arith)) v i z

module _ (M : Model) (proper : Proper M) (m m' : ℕ) (ab : Hash) (t : List ℕ) (os : List Order) (ok : open_round M m ab t os ≡ Ok tt)
    (rs : List Ack) (answers out : List ℕ) (c : ℕ) (is : close_round M m' ab (sent_table M m ab t os) rs answers out ≡ Ok c) where
  abbrev sent : List ℕ
  sent = sent_table M m ab t os

  abbrev left : List ℕ
  left = left_table M m' ab sent rs

  abbrev told : List ℕ
  told = answers_after M m' ab sent rs answers out

  abbrev list : List ℕ
  list = list_after M m' ab sent rs answers out

  none : count_number (close_round M m' ab sent rs answers out) ≡ 0
  none = ap count_number is

  -- ---- the list's front is the entries of what is left
  count-is : c ≡ count_of left
  count-is = ap count_value (sym is ∙ counted M proper m' ab sent rs answers out none)

  entries-long : length (entries_of left) ≡ c
  entries-long = (listing left).long ∙ sym (listing left).count ∙ sym count-is

  front : take c list ≡ entries_of left
  front = ap (take c) (list-is M proper m' ab sent rs answers out none) ∙ take_at (entries_of left) (drop (occupied left) out) c entries-long

  in-sent : (y : ℕ) → label y ≢ 0 → In y sent ↔ Least label (sent_entries os) y
  in-sent = has-least M proper m ab t os ok

  -- what was sent and not replied
  in_list : (y : ℕ) → In y (take c list) ↔ ((label y ≢ 0) × Least label (sent_entries os) y × (Acked rs told (label y) → ⊥))
  in_list y =
      let e = in-entries left y in
      let has = left-has M proper m' ab sent rs answers out none y in
      rw front (
        λ i. let (nz, j) = e.0 i in let (k, no-reply) = (has nz).0 j in (nz, (in-sent y nz).0 k, no-reply),
        λ (nz, h, no-reply). e.1 (nz, (has nz).1 ((in-sent y nz).1 h, no-reply)),
      )

  -- ---- the keys sent
  each : (v : ℕ) → In v (ordered_keys os) → Acked rs told v ⊎ In v (labels label (take c list))
  each v i = by_in v (acked rs told) (λ j. inl ((acked-says rs told v).0 j)) (λ no-reply.
      let nz = key-some m os (lines M proper m ab t os ok) v i in
      let (h, e) = least-is label refl (sent_entries os) v nz (rw (sent-keys M proper m ab t os ok) i) in
      let y : ℕ = least label (sent_entries os) v in
      inr (rw e at (in-labels label (take c list) y ((in_list y).1 (λ z. nz (sym e ∙ z), h, λ a. no-reply ((acked-says rs told v).1 (rw e at a)))))))

  never_both : (v : ℕ) → Acked rs told v → In v (labels label (take c list)) → ⊥
  never_both v a i =
      let o = labels_in label (take c list) v i in ((in_list o.content).0 o.member).2 (rw o.is a)

  sent-key : (y : ℕ) → Least label (sent_entries os) y → In (label y) (ordered_keys os)
  sent-key y h = rw (sent-keys M proper m ab t os ok) at (in-labels label (sent_entries os) y h.member)

  known : (v : ℕ) → Acked rs told v → In v (ordered_keys os)
  known v a =
      let (nz, i) = accepted-in m' sent (get_or rs a.place no_ack) (sym (own M proper m' ab sent rs answers out none a.place 1 a.inside) ∙ a.answer) in
      let o = labels_in label sent (get_or rs a.place no_ack).key i in
      rw (o.is ∙ a.is) at (sent-key o.content ((in-sent o.content (λ z. nz (sym o.is ∙ z))).0 o.member))

  listed-key : (v : ℕ) → In v (labels label (take c list)) → In v (ordered_keys os)
  listed-key v i = let o = labels_in label (take c list) v i in rw o.is at (sent-key o.content ((in_list o.content).0 o.member).1)

  -- ---- their number
  parts : SameKeys (ordered_keys os) (acked rs told ++ labels label (take c list))
  parts v _ =
      let both = in-append (acked rs told) (labels label (take c list)) v in (
        λ i. both.1 (⊎_elim (λ a. inl ((acked-says rs told v).1 a)) inr (each v i)),
        λ i. ⊎_elim (λ j. known v ((acked-says rs told v).0 j)) (listed-key v) (both.0 i),
      )

  listed-number : size (labels label (take c list)) ≡ c
  listed-number = rw front (size_same (labels label (entries_of left)) (labels label left) same ∙ sym (left-counts M proper m' ab sent rs answers out none) ∙ sym count-is)
    where
      same : SameKeys (labels label (entries_of left)) (labels label left)
      same v nz = (
        labels-among (entries_of left) left (λ y _ i. ((in-entries left y).0 i).1) v nz,
        labels-among left (entries_of left) (λ y lz i. (in-entries left y).1 (lz, i)) v nz,
      )

  number : size (ordered_keys os) ≡ size (acked rs told) + c
  number =
      size_same (ordered_keys os) (acked rs told ++ labels label (take c list)) parts
      ∙ size-apart (acked rs told) (labels label (take c list)) (λ v _ i j. never_both v ((acked-says rs told v).0 i) j)
      ∙ ap (λ (n : ℕ). size (acked rs told) + n) listed-number

  -- ---- each listed once
  at_front : (i : ℕ) → i < c → get_or list i 0 ≡ get_or (entries_of left) i 0
  at_front i l =
      ap (λ (xs : List ℕ). get_or xs i 0) (list-is M proper m' ab sent rs answers out none)
      ∙ get_or-append (entries_of left) (drop (occupied left) out) 0 i (omega (arith, entries-long))

  once : (i j : ℕ) → i < c → j < c → label (get_or list i 0) ≡ label (get_or list j 0) → i ≡ j
  once i j a b e =
      entries-once left (keys-once M proper ab left (left-sound M proper m' ab sent rs answers out none)) i j
      (omega (arith, entries-long)) (omega (arith, entries-long)) (ap label (sym (at_front i a)) ∙ e ∙ ap label (at_front j b))

  room : c ≤ length list
  room = omega (arith, ap length (list-is M proper m' ab sent rs answers out none), length-append (entries_of left) (drop (occupied left) out), entries-long)

pub round : ReplyRoundPromise
round M proper m m' ab t os ok rs answers out c is =
    record {
      each = each M proper m m' ab t os ok rs answers out c is;
      never_both = never_both M proper m m' ab t os ok rs answers out c is;
      number = number M proper m m' ab t os ok rs answers out c is;
      replied = acked-says rs (answers_after M m' ab (sent_table M m ab t os) rs answers out);
      once = once M proper m m' ab t os ok rs answers out c is;
      known = known M proper m m' ab t os ok rs answers out c is;
      cheapest = λ y i. (least-lines m os (lines M proper m ab t os ok) y).0 ((in_list M proper m m' ab t os ok rs answers out c is y).0 i).1;
      room = room M proper m m' ab t os ok rs answers out c is;
    }

-- ---- what the functions give
pub gives : GivesPromise
gives = record {
  round = λ M proper m m' ab t os t' o rs answers out c t'' answers' out' h.
      let k : Closes M m' ab (sent_table M m ab t os) rs answers out (Ok c) t'' answers' out' =
      subst (λ (u : List ℕ). Closes M m' ab u rs answers out (Ok c) t'' answers' out') o.table h in
      let none = ap count_number (sym k.reply) in
      let (call, after) = (closing M proper m' ab (sent_table M m ab t os) rs answers out).listed none in
      let order = (at_rest M proper ab (table_after M m' ab (sent_table M m ab t os) rs answers out) out).listed (ap count_number call ∙ none) in (
        subst (λ (l : List ℕ). Round os rs answers' l c) (sym k.list)
            (subst (λ (ns : List ℕ). Round os rs ns (list_after M m' ab (sent_table M m ab t os) rs answers out) c) (sym k.told)
            (round M proper m m' ab t os (sym o.reply) rs answers out c (sym k.reply))),
        subst (λ (l : List ℕ). InCellOrder t'' l) (after ∙ sym k.list)
            (subst (λ (u : List ℕ). InCellOrder u (tables.list_after M ab (table_after M m' ab (sent_table M m ab t os) rs answers out) out)) (sym k.table) order),
      );
  not_opened = λ M m ab t os why t' o. o.table ∙ ap (λ (r : Reply). if_accepted r (priced_layout (length t) label (M.home ab (length t)) (sent_entries os)) t) (sym o.reply);
  not_closed = λ M m ab t rs answers out why t' answers' out' k.
      let e = sym k.reply in (
        k.table ∙ ap (λ (a : Counted). if_counted a (left_table M m ab t rs) t) e,
        k.told ∙ ap (λ (a : Counted). if_counted a (ack_numbers m t rs ++ drop (length rs) answers) answers) e,
        k.list ∙ ap (λ (a : Counted). if_counted a (filled (left_table M m ab t rs) out) out) e,
      );
}
