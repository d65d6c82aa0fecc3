-- Acknowledgements: each one's answer, the two lists that they are lent as, and the keys of the accepted ones.
use mathlib.Core.Path.{◌≡◌, refl, sym, ap}
use mathlib.Core.Logic.{◌≢◌, ◌↔◌, inl, inr, ⊎_elim}
use mathlib.Core.Bool.{true}
use mathlib.Core.List.{List, [], ◌∷◌, ◌++◌}
use Prim.Native.Nat.{ℕ, zero, suc, ◌≤◌, ◌<◌, min}
use native.Mathlib.Omega.{arith}
use lib.Dec.{leb, eqb}
use lib.ListN.{length, get_or}
use borrow.Author.Tests.{leb-true, leb-false, eq-eqb, ne_eqb}
use Rattle.ring.proofs.Split.{by-eq}
use Rattle.ring.proofs.Tests.{not_both, equal-says}
use Rattle.layout.specs.Layout.{In, listed}
use Rattle.layout.proofs.Sets.{by-listed}
use Rattle.prices.specs.Contents.{label, content}
use Rattle.prices.specs.Priced.{labels}
use Rattle.state.specs.Refusals.{reply_number}
use Rattle.state.specs.declared.Refusal.TheVariants.{NoWorker, Blank, Absent}
use Rattle.protocol.proofs.Chain.{Step, barring, wanting, decides}
use Rattle.rounds.specs.Promise.{AckPromise, TwoListsPromise, Acked}
use Rattle.rounds.specs.Rounds.{Ack, no_ack, ack_with, acks_of, ack_reply, ack_numbers, acked, orders_out}

-- ---- the answer
listed-says : (y : ℕ) (xs : List ℕ) → listed y xs ≡ true ↔ In y xs
listed-says y xs = by-listed y xs (λ i e. (λ _. i, λ _. e)) (λ out e. (λ f. absurd (not_both (listed y xs) f e), λ i. absurd (out i)))

ack_steps : ℕ → List ℕ → Ack → List Step
ack_steps m t r =
    barring (eqb r.key 0) (equal-says r.key 0) Blank
    ∷ record {
      when = leb m r.worker;
      why = NoWorker;
      passes = r.worker < m;
      applies = m ≤ r.worker;
      if-true = leb-true m r.worker;
      if-false = leb-false m r.worker;
      apart = λ l h. omega arith;
    }
    ∷ wanting (listed r.key (labels label t)) (listed-says r.key (labels label t)) Absent
    ∷ []

pub ack : AckPromise
unfolding ack_steps
ack m t r = decides (ack_steps m t r) refl (reply_number (ack_reply m t r)) refl

-- an accepted one is for a key of the table
pub accepted-in : (m : ℕ) (t : List ℕ) (r : Ack) → reply_number (ack_reply m t r) ≡ 0 → (r.key ≢ 0) × In r.key (labels label t)
accepted-in m t r z =
    let (_, (_, (_, none))) = ack m t r in
    let (((_, nz), _), i) = none.0 z in
    (nz, i)

-- ---- the two lists
pub acks-length : (keys workers : List ℕ) → length (acks_of keys workers) ≡ min (length keys) (length workers)
unfolding acks_of
acks-length [] ws = omega arith
acks-length (v ∷ vs) [] = omega arith
acks-length (v ∷ vs) (w ∷ ws) = omega (arith, acks-length vs ws)

pub ack-at : (keys workers : List ℕ) (i : ℕ) → i < length (acks_of keys workers) → get_or (acks_of keys workers) i no_ack ≡ ack_with (get_or keys i 0) (get_or workers i 0)
unfolding acks_of
ack-at [] ws i l = absurd (omega arith)
ack-at (v ∷ vs) [] i l = absurd (omega arith)
ack-at (v ∷ vs) (w ∷ ws) zero l = refl
ack-at (v ∷ vs) (w ∷ ws) (suc i) l = ack-at vs ws i (omega arith)

pub two-lists : TwoListsPromise
two-lists keys workers =
    let long = acks-length keys workers in
    record {
      many = λ n. (λ l. (omega arith, omega arith), λ (k, w). omega arith);
      key = λ i l. ap (λ (r : Ack). r.key) (ack-at keys workers i l);
      worker = λ i l. ap (λ (r : Ack). r.worker) (ack-at keys workers i l);
    }

-- ---- the accepted ones
-- of a list that goes on past the acknowledgements' answers, those alone count
pub acked-front : (m : ℕ) (t : List ℕ) (rs : List Ack) (past : List ℕ) → acked rs (ack_numbers m t rs ++ past) ≡ acked rs (ack_numbers m t rs)
unfolding acked
acked-front m t [] past = refl
acked-front m t (r ∷ rs) past = by-eq (reply_number (ack_reply m t r)) 0
    (λ z. rw (eq-eqb (reply_number (ack_reply m t r)) 0 z) (ap (λ (l : List ℕ). r.key ∷ l) (acked-front m t rs past)))
    (λ nz. rw (ne_eqb (reply_number (ack_reply m t r)) 0 nz) (acked-front m t rs past))

pub own-answer : (m : ℕ) (t : List ℕ) (rs : List Ack) (past : List ℕ) (i d : ℕ) → i < length rs
    → get_or (ack_numbers m t rs ++ past) i d ≡ reply_number (ack_reply m t (get_or rs i no_ack))
own-answer m t [] past i d l = absurd (omega arith)
own-answer m t (r ∷ rs) past zero d l = refl
own-answer m t (r ∷ rs) past (suc i) d l = own-answer m t rs past i d (omega arith)

-- one further back
behind : (r : Ack) (rs : List Ack) (n : ℕ) (ns : List ℕ) (v : ℕ) → Acked rs ns v → Acked (r ∷ rs) (n ∷ ns) v
behind r rs n ns v h = record { place = suc h.place; inside = omega (arith, h.inside); is = h.is; answer = h.answer }

in-acked : (rs : List Ack) (ns : List ℕ) (v : ℕ) → In v (acked rs ns) → Acked rs ns v
unfolding acked
in-acked [] ns v i = absurd i
in-acked (r ∷ rs) [] v i = absurd i
in-acked (r ∷ rs) (n ∷ ns) v i = by-eq n 0
    (λ z. ⊎_elim
    (λ (e : v ≡ r.key). record { place = 0; inside = omega arith; is = sym e; answer = z })
    (λ j. behind r rs n ns v (in-acked rs ns v j))
    (rw (eq-eqb n 0 z) at i))
    (λ nz. behind r rs n ns v (in-acked rs ns v (rw (ne_eqb n 0 nz) at i)))

acked-in : (rs : List Ack) (ns : List ℕ) (i v : ℕ) → i < length rs → (get_or rs i no_ack).key ≡ v → get_or ns i 1 ≡ 0 → In v (acked rs ns)
unfolding acked
acked-in [] ns i v l is z = absurd (omega arith)
acked-in (r ∷ rs) [] i v l is z = absurd (omega arith)
acked-in (r ∷ rs) (n ∷ ns) zero v l is z = rw (eq-eqb n 0 z) (inl (sym is))
acked-in (r ∷ rs) (n ∷ ns) (suc i) v l is z =
    let j = acked-in rs ns i v (omega arith) is z in
    by-eq n 0 (λ e. rw (eq-eqb n 0 e) (inr j)) (λ ne. rw (ne_eqb n 0 ne) j)

pub acked-says : (rs : List Ack) (ns : List ℕ) (v : ℕ) → In v (acked rs ns) ↔ Acked rs ns v
acked-says rs ns v = (in-acked rs ns v, λ h. acked-in rs ns h.place v h.inside h.is h.answer)

-- ---- what a delete phase is ordered for keys has these keys
pub orders-keys : (vs : List ℕ) → labels label (orders_out vs) ≡ vs
orders-keys [] = refl
orders-keys (v ∷ vs) = let e : label (content v 0) ≡ v = omega arith in rw e (ap (λ (l : List ℕ). v ∷ l) (orders-keys vs))
