-- Which entries a loop over a list has ordered, and the table that its phase leaves.
use mathlib.Core.Path.{◌≡◌, refl, sym, ap, subst, ◌∙◌}
use mathlib.Core.Logic.{◌≢◌, ◌↔◌, ◌⊎◌, inl, inr, ⊎_elim}
use mathlib.Core.Bool.{false}
use mathlib.Core.List.{List, [], ◌∷◌, ◌++◌}
use Prim.Native.Nat.{ℕ, zero, suc, ◌+◌, ◌≤◌, ◌<◌}
use native.Mathlib.Omega.{arith}
use lib.ListN.{length, get_or}
use borrow.Author.Tests.{eq-eqb, ne_eqb}
use Rattle.ring.proofs.Split.{by-eq}
use Rattle.layout.specs.Layout.{In}
use Rattle.layout.proofs.Sets.{in-append}
use Rattle.homes.specs.Homes.{spread}
use Rattle.homes.specs.declared.Hash.{Hash}
use Rattle.homes.proofs.Homes.{home-inside}
use Rattle.prices.specs.Contents.{label, content}
use Rattle.prices.specs.Priced.{labels, priced_layout, without_labels}
use Rattle.prices.proofs.Labels.{in-labels, labels_in}
use Rattle.prices.proofs.Least.{same-members, without-labels-same}
use Rattle.prices.proofs.Theorem.{theorem as layouts}
use Rattle.orders.specs.Orders.{blank, line_at}
use Rattle.orders.specs.declared.Order.{Order}
use Rattle.state.specs.declared.Device.{Device}
use Rattle.state.specs.declared.Phase.{Phase}
use Rattle.dealing.specs.Deal.{Dealing}
use Rattle.dealing.specs.Promise.{Runs}
use Rattle.dealing.specs.Reached.{Led}
use Rattle.state.specs.Model.{gateway, model_of}
use Rattle.protocol.specs.Calls.{order_found}
use Rattle.rounds.specs.Rounds.{Ack, no_ack, acks_of, line_entry, sent_entries, acked, orders_out}
use Rattle.rounds.proofs.Acks.{ack-at}
use Rattle.rounds.proofs.Lines.{in-sent}
use Rattle.protocol.proofs.Lines.{line-order}
use Rattle.serving.specs.Serving.{Opened, Served, Answered}
use Rattle.serving.proofs.Fitting.{handed-fit, line-fit}
use Rattle.serving.proofs.Serving.{ordered_by, begins, Fit, kind, crew, entry, may-run, goes_on, closed-table}

-- one of the first n places that are chosen has the entry y
pub record Given (n : ℕ) (Q : ℕ → Type 0) (e : ℕ → ℕ) (y : ℕ) : Type 0 where
  pub place : ℕ
  pub inside : place < n
  pub chosen : Q place
  pub is : y ≡ e place

-- ---- a loop that has come to place n
module _ (d : Device) (k m : ℕ) (ab : Hash) (os : List Order) (t : List ℕ) (Q : ℕ → Type 0) (e : ℕ → ℕ) where
  abbrev pub Serving : (n : ℕ) (p : Phase) (u : List ℕ) → Type 0
  Serving n p u = (x : Served d k m ab os t p u) × ((y : ℕ) → In y (ordered_by d k m ab os t p u x) ↔ Given n Q e y)

  -- with the order of this place
  pub one_more : (n : ℕ) (p : Phase) (u : List ℕ) (s : Serving n p u) (i w v : ℕ) (fit : Fit p os i w v) → Q n → entry d k m ab os t p u s.0 i w v fit ≡ e n
      → (r : Dealing) → Runs gateway (order_found (model_of d) p (line_at os i) w v).phase u r → Serving (n + 1) r.dealt.phase r.table
  one_more n p u (x, h) i w v fit q is r runs =
      let (x', adds) = goes_on d k m ab os t p u x i w v fit r runs in (
        x',
        λ y. subst (λ (ys : List ℕ). In y ys ↔ Given (n + 1) Q e y) (sym adds) (
          ⊎_elim (λ (z : y ≡ entry d k m ab os t p u x i w v fit). record { place = n; inside = omega arith; chosen = q; is = z ∙ is })
              (λ i. let g = (h y).0 i in record { place = g.place; inside = omega (arith, g.inside); chosen = g.chosen; is = g.is }),
          λ g. by-eq g.place n
              (λ z. inl (g.is ∙ ap e z ∙ sym is))
              (λ ne. inr ((h y).1 (record { place = g.place; inside = omega (arith, g.inside); chosen = g.chosen; is = g.is }))),
        ),
      )

  -- without it
  pub passed_over : (n : ℕ) (p : Phase) (u : List ℕ) → Serving n p u → (Q n → ⊥) → Serving (n + 1) p u
  passed_over n p u (x, h) out = (
    x,
    λ y. (
      λ i. let g = (h y).0 i in record { place = g.place; inside = omega (arith, g.inside); chosen = g.chosen; is = g.is },
      λ g. by-eq g.place n
          (λ z. absurd (out (subst Q z g.chosen)))
          (λ ne. (h y).1 (record { place = g.place; inside = omega (arith, g.inside); chosen = g.chosen; is = g.is })),
    ),
  )

pub nothing_yet : (d : Device) (os : List Order) (p : Phase) (t : List ℕ) (Q : ℕ → Type 0) (e : ℕ → ℕ) → Opened (model_of d) os p t
    → Serving d p.kind p.crew p.hash os t Q e 0 p t
nothing_yet d os p t Q e h =
    let (x, none) = begins d os p t h in
    (x, λ y. subst (λ (ys : List ℕ). In y ys ↔ Given 0 Q e y) (sym none) (λ i. absurd i, λ g. let b = g.inside in absurd (omega arith)))

-- ---- what is ordered in the end
-- the first place, or one behind it
first-or : (n : ℕ) (Q : ℕ → Type 0) (e : ℕ → ℕ) (y : ℕ)
    → ((Q 0 × (y ≡ e 0)) ⊎ Given n (λ j. Q (suc j)) (λ j. e (suc j)) y) ↔ Given (suc n) Q e y
first-or n Q e y = (
  ⊎_elim (λ (q, z). record { place = 0; inside = omega arith; chosen = q; is = z })
      (λ (g : Given n (λ j. Q (suc j)) (λ j. e (suc j)) y). record { place = suc g.place; inside = omega (arith, g.inside); chosen = g.chosen; is = g.is }),
  λ g. back g.place g.inside g.chosen g.is,
)
  where
    back : (j : ℕ) → j < suc n → Q j → y ≡ e j → (Q 0 × (y ≡ e 0)) ⊎ Given n (λ j. Q (suc j)) (λ j. e (suc j)) y
    back zero b q z = inl (q, z)
    back (suc j) b q z = inr (record { place = j; inside = omega arith; chosen = q; is = z })

no_place : (Q : ℕ → Type 0) (e : ℕ → ℕ) (y : ℕ) → Given 0 Q e y → ⊥
no_place Q e y g = let b = g.inside in omega arith

-- every line of a list
sent-given : (os : List Order) (y : ℕ) → In y (sent_entries os) ↔ Given (length os) (λ _. Unit {0}) (λ j. line_entry (get_or os j blank)) y
sent-given os y = (
  λ i. let g = (in-sent os y).0 i in record { place = g.line; inside = g.inside; chosen = tt; is = g.is },
  λ g. (in-sent os y).1 (record { line = g.place; inside = g.inside; is = g.is }),
)

-- every acknowledgement whose answer is 0
acked-given : (rs : List Ack) (ns : List ℕ) → length rs ≤ length ns → (y : ℕ)
    → In y (orders_out (acked rs ns)) ↔ Given (length rs) (λ j. get_or ns j 0 ≡ 0) (λ j. content (get_or rs j no_ack).key 0) y
unfolding acked
acked-given [] ns l y = (λ i. absurd i, no_place _ _ y)
acked-given (r ∷ rs) [] l y = absurd (omega arith)
acked-given (r ∷ rs) (n ∷ ns) l y =
    let h = acked-given rs ns (omega arith) y in
    let f = first-or (length rs) (λ j. get_or (n ∷ ns) j 0 ≡ 0) (λ j. content (get_or (r ∷ rs) j no_ack).key 0) y in
    by-eq n 0
    (λ z. rw (eq-eqb n 0 z) (
      λ i. f.0 (⊎_elim (λ (e : y ≡ content r.key 0). inl (z, e)) (λ j. inr (h.0 j)) i),
      λ g. ⊎_elim (λ (_, e). inl e) (λ j. inr (h.1 j)) (f.1 g),
    ))
    (λ nz. rw (ne_eqb n 0 nz) (
      λ i. f.0 (inr (h.0 i)),
      λ g. ⊎_elim (λ (z, _). absurd (nz z)) h.1 (f.1 g),
    ))

-- ---- the tables
module _ (d : Device) (m : ℕ) (ab : Hash) (os : List Order) (t : List ℕ) (p : Phase) (u : List ℕ) where
  homes : (k : ℕ) → Served d k m ab os t p u → (x : ℕ) → spread ab (length t) x < length t
  homes k s x = home-inside ab (length t) x (omega (arith, s.size))

  pub inserted : (i : ℕ) → i ≡ length os → Serving d 1 m ab os t (λ _. Unit {0}) (λ j. line_entry (get_or os j blank)) i p u
      → u ≡ priced_layout (length t) label (spread ab (length t)) (sent_entries os ++ t)
  inserted i all (s, g) =
      let ys = ordered_by d 1 m ab os t p u s in
      let h : (y : ℕ) → In y ys ↔ Given (length os) (λ _. Unit {0}) (λ j. line_entry (get_or os j blank)) y = rw all at g in
      closed-table d 1 m ab os t p u s ∙ (layouts (length t) label (spread ab (length t)) refl (homes 1 s)).set_only (ys ++ t) (sent_entries os ++ t)
      (same-members label _ _ (λ y. (
        λ i. (in-append (sent_entries os) t y).1 (⊎_elim (λ j. inl ((sent-given os y).1 ((h y).0 j))) inr ((in-append ys t y).0 i)),
        λ i. (in-append ys t y).1 (⊎_elim (λ j. inl ((h y).1 ((sent-given os y).0 j))) inr ((in-append (sent_entries os) t y).0 i)),
      )))

  pub deleted : (rs : List Ack) (ns : List ℕ) → length rs ≤ length ns → (i : ℕ) → i ≡ length rs
      → Serving d 2 m ab os t (λ j. get_or ns j 0 ≡ 0) (λ j. content (get_or rs j no_ack).key 0) i p u
      → u ≡ priced_layout (length t) label (spread ab (length t)) (without_labels label (orders_out (acked rs ns)) t)
  deleted rs ns l i all (s, g) =
      let ys = ordered_by d 2 m ab os t p u s in
      let h : (y : ℕ) → In y ys ↔ Given (length rs) (λ j. get_or ns j 0 ≡ 0) (λ j. content (get_or rs j no_ack).key 0) y = rw all at g in
      let zs = orders_out (acked rs ns) in
      closed-table d 2 m ab os t p u s ∙ (layouts (length t) label (spread ab (length t)) refl (homes 2 s)).set_only (without_labels label ys t) (without_labels label zs t)
      (without-labels-same label ys zs t (λ v nz. (
        λ i. let f = labels_in label ys v i in
            subst (λ (x : ℕ). In x (labels label zs)) f.is (in-labels label zs f.content ((acked-given rs ns l f.content).1 ((h f.content).0 f.member))),
        λ i. let f = labels_in label zs v i in
            subst (λ (x : ℕ). In x (labels label ys)) f.is (in-labels label ys f.content ((h f.content).1 ((acked-given rs ns l f.content).0 f.member))),
      )))

-- ---- a loop over the lines that an insert phase was opened with
abbrev pub Inserting : (d : Device) (m : ℕ) (ab : Hash) (os : List Order) (t : List ℕ) (i : ℕ) (p : Phase) (u : List ℕ) → Type 0
Inserting d m ab os t i p u = Serving d 1 m ab os t (λ _. Unit {0}) (λ j. line_entry (get_or os j blank)) i p u

pub insert-starts : (d : Device) (os : List Order) (p : Phase) (t : List ℕ) → p.kind ≡ 1 → Opened (model_of d) os p t → Inserting d p.crew p.hash os t 0 p t
insert-starts d os p t is h =
    subst (λ (k : ℕ). Serving d k p.crew p.hash os t (λ _. Unit {0}) (λ j. line_entry (get_or os j blank)) 0 p t) is
    (nothing_yet d os p t (λ _. Unit {0}) (λ j. line_entry (get_or os j blank)) h)

module _ (d : Device) (m : ℕ) (ab : Hash) (os : List Order) (t : List ℕ) (i : ℕ) (p : Phase) (u : List ℕ) (s : Inserting d m ab os t i p u) (l : i < length os) where
  fits : Fit p os i 0 0
  fits = line-fit d m ab os t p u s.0 i l 0 0

  pub insert-may : Led gateway (order_found (model_of d) p (line_at os i) 0 0).phase u × ((order_found (model_of d) p (line_at os i) 0 0).phase.shut ≡ false)
  insert-may = may-run d 1 m ab os t p u s.0 i 0 0 fits

  pub insert-next : (r : Dealing) → Runs gateway (order_found (model_of d) p (line_at os i) 0 0).phase u r → Inserting d m ab os t (i + 1) r.dealt.phase r.table
  insert-next =
      let e = eq-eqb p.kind 1 (kind d 1 m ab os t p u s.0) in
      one_more d 1 m ab os t (λ _. Unit {0}) (λ j. line_entry (get_or os j blank)) i p u s i 0 0 fits tt (rw (e, line-order os i))

-- ---- a loop over acknowledgements, of which a delete phase is ordered those with the answer 0
abbrev pub Deleting : (d : Device) (m : ℕ) (ab : Hash) (rs : List Ack) (ns t : List ℕ) (i : ℕ) (p : Phase) (u : List ℕ) → Type 0
Deleting d m ab rs ns t i p u = Serving d 2 m ab [] t (λ j. get_or ns j 0 ≡ 0) (λ j. content (get_or rs j no_ack).key 0) i p u

-- acknowledgement i has the answer 0, and is of key v by worker w
pub record Chosen (m : ℕ) (rs : List Ack) (ns : List ℕ) (i w v : ℕ) : Type 0 where
  pub answer : get_or ns i 0 ≡ 0
  pub is : (get_or rs i no_ack).key ≡ v
  pub key : v ≢ 0
  pub there : w < m

pub chosen : (m : ℕ) (keys workers ns : List ℕ) → Answered m (acks_of keys workers) ns → (i : ℕ) → i < length (acks_of keys workers) → get_or ns i 0 ≡ 0
    → Chosen m (acks_of keys workers) ns i (get_or workers i 0) (get_or keys i 0)
chosen m keys workers ns h i l z =
    let e = ack-at keys workers i l in
    let (key, there) = h.given i l z in
    record { answer = z; is = ap (λ (r : Ack). r.key) e; key = rw e at key; there = rw e at there }

pub delete-starts : (d : Device) (rs : List Ack) (ns : List ℕ) (p : Phase) (t : List ℕ) → p.kind ≡ 2 → Opened (model_of d) [] p t
    → Deleting d p.crew p.hash rs ns t 0 p t
delete-starts d rs ns p t is h =
    subst (λ (k : ℕ). Serving d k p.crew p.hash [] t (λ j. get_or ns j 0 ≡ 0) (λ j. content (get_or rs j no_ack).key 0) 0 p t) is
    (nothing_yet d [] p t (λ j. get_or ns j 0 ≡ 0) (λ j. content (get_or rs j no_ack).key 0) h)

module _ (d : Device) (m : ℕ) (ab : Hash) (rs : List Ack) (ns t : List ℕ) (i : ℕ) (p : Phase) (u : List ℕ) (s : Deleting d m ab rs ns t i p u) where
  pub delete-skips : get_or ns i 0 ≢ 0 → Deleting d m ab rs ns t (i + 1) p u
  delete-skips = passed_over d 2 m ab [] t (λ j. get_or ns j 0 ≡ 0) (λ j. content (get_or rs j no_ack).key 0) i p u s

  module _ (w v : ℕ) (h : Chosen m rs ns i w v) where
    not-insert : p.kind ≢ 1
    not-insert e = let is = kind d 2 m ab [] t p u s.0 in omega arith

    handed : Fit p [] 0 w v
    handed = handed-fit p not-insert [] 0 w v (omega (arith, h.there, crew d 2 m ab [] t p u s.0)) h.key

    pub delete-may : Led gateway (order_found (model_of d) p (line_at [] 0) w v).phase u × ((order_found (model_of d) p (line_at [] 0) w v).phase.shut ≡ false)
    delete-may = may-run d 2 m ab [] t p u s.0 0 w v handed

    pub delete-next : (r : Dealing) → Runs gateway (order_found (model_of d) p (line_at [] 0) w v).phase u r
        → Deleting d m ab rs ns t (i + 1) r.dealt.phase r.table
    delete-next =
        let other = ne_eqb p.kind 1 not-insert in
        one_more d 2 m ab [] t (λ j. get_or ns j 0 ≡ 0) (λ j. content (get_or rs j no_ack).key 0) i p u s 0 w v handed h.answer (rw (other, h.is))
