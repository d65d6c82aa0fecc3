-- Rounds by what the calls give.
use Rattle.std.specs.Prelude.{Ok, Err}
use mathlib.Core.Path.{◌≡◌, refl, sym, ap, subst, ◌∙◌}
use mathlib.Core.Bool.{true, false, cond}
use mathlib.Core.List.{List, [], ◌∷◌, ◌++◌}
use Prim.Native.Nat.{ℕ, ◌≤◌}
use native.Mathlib.Omega.{arith}
use lib.ListN.{length, get_or, drop, length-map, length-append, length-replicate}
use Rattle.homes.specs.declared.Hash.{Hash}
use Rattle.prices.specs.Contents.{label}
use Rattle.prices.specs.Priced.{priced_layout, without_labels}
use Rattle.orders.specs.declared.Order.{Order}
use Rattle.words.specs.Words.{count_of, filled}
use Rattle.state.specs.Counts.{count_number, counted_by, if_counted}
use Rattle.state.specs.Model.{Model, model_of, size_ok}
use Rattle.state.specs.Open.{opened, open_bars, open_reply, open_call}
use Rattle.state.specs.Refusals.{if, reply_number, first_of}
use Rattle.state.specs.Replies.{Counted, Reply}
use Rattle.state.specs.declared.Device.{Device}
use Rattle.state.specs.declared.Phase.{Phase}
use Rattle.state.specs.declared.Refusal.{Refusal}
use Rattle.state.specs.declared.Refusal.TheVariants.{Size, ShortList}
use Rattle.state.specs.declared.Replied.{Replied}
use Rattle.state.proofs.Model.{proper}
use Rattle.state.proofs.Sequence.{or_else, first-append}
use Rattle.protocol.proofs.Theorem.{opens}
use Rattle.tables.specs.Calls as tables
use Rattle.rounds.specs.Rounds.{Ack, no_ack, sent_entries, if_accepted, open_round, ack_reply, ack_numbers, acked, orders_out, is_short, round_bars, left_table, close_round, Opens, Closes}
use Rattle.rounds.proofs.Acks.{ack, acked-front, own-answer}
use Rattle.rounds.proofs.Closing.{passed, table_is, answers-are, take-out-opens, left-listed}
use Rattle.rounds.proofs.Sending.{empty, laid-on-empty}
use Rattle.serving.specs.Serving.{Opened, Answered}

-- ---- what an accepted opening hands back
pub record Fresh (M : Model) (k m : ℕ) (ab : Hash) (t : List ℕ) (os : List Order) (p : Phase) : Type 0 where
  pub opened : Opened M os p t
  pub kind : p.kind ≡ k
  pub crew : p.crew ≡ m
  pub hash : p.hash ≡ ab

module _ (M : Model) (k m : ℕ) (ab : Hash) (t : List ℕ) (os : List Order) (o : Replied) (is : o ≡ open_call M k m ab t os) where
  pub reply-is : (r : Reply) → o.reply ≡ r → open_reply M k m ab t os ≡ r
  reply-is r e = sym (opens M k m ab t os).reply ∙ ap (λ (x : Replied). x.reply) (sym is) ∙ e

  pub just-opened : o.reply ≡ Ok tt → Fresh M k m ab t os o.phase
  just-opened e =
      let ok = reply-is (Ok tt) e in
      let whole : o ≡ opened M k m ab t (Ok tt) = is ∙ ap (opened M k m ab t) ok in
      subst (λ (x : Replied). Fresh M k m ab t os x.phase) (sym whole)
      (record { opened = ap (opened M k m ab t) ok; kind = refl; crew = refl; hash = refl })

-- ---- opening
module _ (d : Device) (m : ℕ) (ab : Hash) (t : List ℕ) (os : List Order) where
  abbrev laid : List ℕ
  laid = priced_layout (length t) label ((model_of d).home ab (length t)) (sent_entries os)

  pub open-refused : (why : Refusal) → open_round (model_of d) m ab t os ≡ Err why → Opens (model_of d) m ab t os (Err why) t
  open-refused why e = record { reply = sym e; table = sym (ap (λ (r : Reply). if_accepted r laid t) e) }

  pub open-small : size_ok (model_of d) (length t) ≡ false → Opens (model_of d) m ab t os (Err Size) t
  open-small e =
      let f : size_ok (model_of d) (length (empty (length t))) ≡ false = ap (size_ok (model_of d)) (length-replicate (length t) 0) ∙ e in
      open-refused Size (rw f)

  pub open_done : open_round (model_of d) m ab t os ≡ Ok tt → (u : List ℕ)
      → u ≡ priced_layout (length (empty (length t))) label ((model_of d).home ab (length (empty (length t)))) (sent_entries os ++ empty (length t))
      → Opens (model_of d) m ab t os (Ok tt) u
  open_done e u f = record { reply = sym e; table = f ∙ laid-on-empty (model_of d) (proper d) m ab t os e (sent_entries os) (λ y _. (λ h. h, λ h. h)) }

  -- o is the opening on an empty table, and u the emptied table
  module _ (o : Replied) (is : o ≡ open_call (model_of d) 1 m ab (empty (length t)) os) where
    pub told-refused : (why : Refusal) → o.reply ≡ Err why → Opens (model_of d) m ab t os (Err why) t
    told-refused why e = open-refused why (reply-is (model_of d) 1 m ab (empty (length t)) os o is (Err why) e)

    module _ (told : o.reply ≡ Ok tt) (u : List ℕ) (bare : u ≡ empty (length t)) where
      begun : Fresh (model_of d) 1 m ab (empty (length t)) os o.phase
      begun = just-opened (model_of d) 1 m ab (empty (length t)) os o is told

      pub may-insert : (o.phase.kind ≡ 1) × Opened (model_of d) os o.phase u
      may-insert = (begun.kind, rw bare begun.opened)

      pub filled-up : (r : Reply) (u' : List ℕ)
          → (r ≡ Ok tt) × (u' ≡ priced_layout (length u) label ((model_of d).home o.phase.hash (length u)) (sent_entries os ++ u))
          → Opens (model_of d) m ab t os r u'
      filled-up r u' (ok, laid-is) =
          rw ok (open_done (reply-is (model_of d) 1 m ab (empty (length t)) os o is (Ok tt) told) u' (rw (bare, begun.hash) at laid-is))

-- ---- closing
module _ (d : Device) (m : ℕ) (ab : Hash) (t : List ℕ) (rs : List Ack) (answers out : List ℕ) where
  abbrev left : List ℕ
  left = left_table (model_of d) m ab t rs

  -- the checks of an opening that reads no list, then 12
  in_two : first_of (round_bars (model_of d) m ab t rs answers out)
      ≡ or_else (open_reply (model_of d) 3 m ab t []) (cond (is_short t (length rs) (length answers) (length out)) (Err ShortList) (Ok tt))
  in_two = first-append (open_bars (model_of d) 3 m ab t []) (if (is_short t (length rs) (length answers) (length out)) ShortList ∷ [])

  as-refused : (why : Refusal) → first_of (round_bars (model_of d) m ab t rs answers out) ≡ Err why
      → Closes (model_of d) m ab t rs answers out (Err why) t answers out
  as-refused why f =
      let e : close_round (model_of d) m ab t rs answers out ≡ Err why = ap (counted_by (count_of left)) f in
      record {
        reply = sym e;
        table = sym (ap (λ (a : Counted). if_counted a left t) e);
        told = sym (ap (λ (a : Counted). if_counted a (ack_numbers m t rs ++ drop (length rs) answers) answers) e);
        list = sym (ap (λ (a : Counted). if_counted a (filled left out) out) e);
      }

  pub close_refused : (why : Refusal) → open_reply (model_of d) 3 m ab t [] ≡ Err why
      → Closes (model_of d) m ab t rs answers out (Err why) t answers out
  close_refused why e = as-refused why (in_two ∙ rw e)

  module _ (ok : open_reply (model_of d) 3 m ab t [] ≡ Ok tt) where
    pub close-short : is_short t (length rs) (length answers) (length out) ≡ true → Closes (model_of d) m ab t rs answers out (Err ShortList) t answers out
    close-short e = as-refused ShortList (in_two ∙ rw (ok, e))

    module _ (fits : is_short t (length rs) (length answers) (length out) ≡ false) where
      accepted : first_of (round_bars (model_of d) m ab t rs answers out) ≡ Ok tt
      accepted = in_two ∙ rw (ok, fits)

      abbrev none : ℕ
      none = count_number (close_round (model_of d) m ab t rs answers out)

      not-refused : none ≡ 0
      not-refused = ap (λ (r : Reply). count_number (counted_by (count_of left) r)) accepted

      pub places : length rs ≤ length answers
      places = (passed (model_of d) (proper d) m ab t rs answers out not-refused).places

      pub may-delete : open_reply (model_of d) 2 m ab t [] ≡ Ok tt
      may-delete = take-out-opens (model_of d) (proper d) m ab t rs answers out not-refused []

      -- the answers told, the table that is left and the list
      module _ (ns : List ℕ) (told : ns ≡ ack_numbers m t rs ++ drop (length rs) answers) where
        pub answered : Answered m rs ns
        answered = record {
          places = omega (arith, places, ap length told, length-append (ack_numbers m t rs) (drop (length rs) answers), length-map rs (λ (r : Ack). reply_number (ack_reply m t r)));
          given = λ i l z.
              let is = ap (λ (xs : List ℕ). get_or xs i 0) told ∙ own-answer m t rs (drop (length rs) answers) i 0 l in
              let (_, (_, (_, none))) = ack m t (get_or rs i no_ack) in
              let (((_, key), there), _) = none.0 (sym is ∙ z) in
              (key, there);
        }

        pub close-done : (u : List ℕ) → u ≡ priced_layout (length t) label ((model_of d).home ab (length t)) (without_labels label (orders_out (acked rs ns)) t)
            → (r : Counted) → r ≡ tables.list_call (model_of d) ab u out → (l : List ℕ) → l ≡ tables.list_after (model_of d) ab u out
            → Closes (model_of d) m ab t rs answers out r u ns l
        close-done u left_is r r-is l l-is =
            let M = model_of d in
            let same : u ≡ left_table M m ab t rs =
            left_is
            ∙ ap (λ (vs : List ℕ). priced_layout (length t) label (M.home ab (length t)) (without_labels label (orders_out vs) t))
            (ap (acked rs) told ∙ acked-front m t rs (drop (length rs) answers)) in
            let listed = left-listed M (proper d) m ab t rs answers out not-refused in
            record {
              reply = r-is ∙ ap (λ (x : List ℕ). tables.list_call M ab x out) same ∙ listed;
              table = same ∙ sym (table_is M (proper d) m ab t rs answers out not-refused);
              told = told ∙ sym (answers-are M (proper d) m ab t rs answers out not-refused);
              list = l-is ∙ ap (λ (x : List ℕ). tables.list_after M ab x out) same ∙ ap (λ (a : Counted). if_counted a (filled left out) out) listed;
            }

-- ---- closing behind the checks: the find phase p was just opened, it left the table u, equal to t, and the answers ns, and o is the next opening
module _ (d : Device) (p : Phase) (t : List ℕ) (rs : List Ack) (answers out : List ℕ) (is : p.kind ≡ 3) (begun : Opened (model_of d) [] p t)
    (fits : is_short t (length rs) (length answers) (length out) ≡ false) where
  ok : open_reply (model_of d) 3 p.crew p.hash t [] ≡ Ok tt
  ok = subst (λ (k : ℕ). open_reply (model_of d) k p.crew p.hash t [] ≡ Ok tt) is (reply-is (model_of d) p.kind p.crew p.hash t [] _ (sym begun) (Ok tt) refl)

  pub room : length rs ≤ length answers
  room = places d p.crew p.hash t rs answers out ok fits

  module _ (ns : List ℕ) (told : ns ≡ ack_numbers p.crew t rs ++ drop (length rs) answers) (u : List ℕ) (same : u ≡ t)
      (o : Replied) (next : o ≡ open_call (model_of d) 2 p.crew p.hash u []) where
    again : Fresh (model_of d) 2 p.crew p.hash t [] o.phase
    again =
        let here : o ≡ open_call (model_of d) 2 p.crew p.hash t [] = rw same at next in
        just-opened (model_of d) 2 p.crew p.hash t [] o here
        (ap (λ (x : Replied). x.reply) here ∙ (opens (model_of d) 2 p.crew p.hash t []).reply ∙ may-delete d p.crew p.hash t rs answers out ok fits)

    pub then-deletes : (o.phase.kind ≡ 2) × Opened (model_of d) [] o.phase u × Answered o.phase.crew rs ns
    then-deletes = (
      again.kind,
      rw same again.opened,
      rw again.crew (answered d p.crew p.hash t rs answers out ok fits ns told),
    )

    pub settled : (u' : List ℕ) → u' ≡ priced_layout (length u) label ((model_of d).home o.phase.hash (length u)) (without_labels label (orders_out (acked rs ns)) u)
        → (r : Counted) (l : List ℕ) → (r ≡ tables.list_call (model_of d) p.hash u' out) × (l ≡ tables.list_after (model_of d) p.hash u' out)
        → Closes (model_of d) p.crew p.hash t rs answers out r u' ns l
    settled u' left_is r l listed =
        close-done d p.crew p.hash t rs answers out ok fits ns told u' (rw (same, again.hash) at left_is) r listed.0 l listed.1

-- ---- the whole of closing: o is the opening of the find phase
module _ (d : Device) (m : ℕ) (ab : Hash) (t : List ℕ) (rs : List Ack) (answers out : List ℕ) (o : Replied) (is : o ≡ open_call (model_of d) 3 m ab t []) where
  pub find-refused : (why : Refusal) → o.reply ≡ Err why → Closes (model_of d) m ab t rs answers out (Err why) t answers out
  find-refused why e = close_refused d m ab t rs answers out why (reply-is (model_of d) 3 m ab t [] o is (Err why) e)

  module _ (told : o.reply ≡ Ok tt) where
    begun-find : Fresh (model_of d) 3 m ab t [] o.phase
    begun-find = just-opened (model_of d) 3 m ab t [] o is told

    -- n is the number of acknowledgements
    module _ (n : ℕ) (many : n ≡ length rs) where
      pub find-short : is_short t n (length answers) (length out) ≡ true → Closes (model_of d) m ab t rs answers out (Err ShortList) t answers out
      find-short e = close-short d m ab t rs answers out (reply-is (model_of d) 3 m ab t [] o is (Ok tt) told) (rw many at e)

      pub may-settle : is_short t n (length answers) (length out) ≡ false
          → (o.phase.kind ≡ 3) × Opened (model_of d) [] o.phase t × (is_short t (length rs) (length answers) (length out) ≡ false)
      may-settle e = (begun-find.kind, begun-find.opened, rw many at e)

    pub settled-so : (r : Counted) (u ns l : List ℕ) → Closes (model_of d) o.phase.crew o.phase.hash t rs answers out r u ns l
        → Closes (model_of d) m ab t rs answers out r u ns l
    settled-so r u ns l h =
        subst (λ (x : ℕ). Closes (model_of d) x ab t rs answers out r u ns l) begun-find.crew
        (subst (λ (x : Hash). Closes (model_of d) o.phase.crew x t rs answers out r u ns l) begun-find.hash h)
