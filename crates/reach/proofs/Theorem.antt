-- The promises of this crate: what is shown of the labels, with their prices.
use mathlib.Core.Path.{◌≡◌, refl, sym, ap, ◌∙◌, subst}
use mathlib.Core.Logic.{◌≢◌, ◌↔◌, inl, inr, ⊎_elim}
use mathlib.Core.Bool.{Bool}
use mathlib.Core.List.{List, [], ◌∷◌}
use Prim.Native.Nat.{ℕ, suc, ◌+◌, ◌≤◌, ◌<◌}
use native.Mathlib.Omega.{arith}
use lib.Dec.{T, eqb}
use lib.ListN.{length, get_or, length-map, get_or-map}
use borrow.Author.Tests.{eq-eqb, ne_eqb}
use Rattle.ring.specs.Counting.{bit, tally}
use Rattle.ring.specs.Each.{first}
use Rattle.ring.specs.Ring.{probe, dist}
use Rattle.ring.proofs.Counting.{count-sum}
use Rattle.ring.proofs.Split.{by-eq}
use Rattle.layout.specs.Layout.{In, size, first_empty, layout}
use Rattle.layout.proofs.Canonical.{own-layout}
use Rattle.layout.proofs.Once.{size-new}
use Rattle.layout.proofs.Sets.{cell_in, holds-in, in-holds}
use Rattle.prices.specs.Contents.{label, price, content, price_ok, SoundTable}
use Rattle.prices.specs.Priced.{labels, Least, least, priced, PricedSound, priced_layout, without_labels}
use Rattle.prices.proofs.Contents.{contents}
use Rattle.prices.proofs.Labels.{in-labels, in-without_labels, label_at}
use Rattle.prices.proofs.Least.{least-one, cover-least, itself}
use Rattle.prices.proofs.Theorem.{theorem as layouts, sized, own-least, layout-labels}
use Rattle.reach.specs.Promise.{FirstEmpty, Onward, Reaches, OneMore, New, ReachPromise, RoomPromise, TablePromise}
use Rattle.reach.specs.Reach.{vacant, next_empty, InReach}
use Rattle.reach.proofs.Keys.{in_reach}
use Rattle.reach.proofs.Keys as keys

module _ (n : ℕ) (key home : ℕ → ℕ) (kz : key 0 ≡ 0) (hb : (x : ℕ) → home x < n) (t : List ℕ) (s : PricedSound n key home t) where
  -- ---- the cells without a label are the empty cells
  empty-at : (c : ℕ) → eqb (get_or (labels key t) c 0) 0 ≡ eqb (get_or t c 0) 0
  empty-at c = by-eq (get_or t c 0) 0
      (λ z. rw (label_at key kz t c, z, kz))
      (λ nz. rw (label_at key kz t c, ne_eqb (get_or t c 0) 0 nz, ne_eqb (key (get_or t c 0)) 0 (λ z. nz (s.whole c z))))

  same_first : (h : ℕ) → first_empty n h (labels key t) ≡ first_empty n h t
  same_first h = λ i. first (λ k. empty-at (probe n h k) i) n

  same-vacant : vacant (labels key t) ≡ vacant t
  same-vacant =
      count-sum (λ c. eqb c 0) (labels key t) 0
      ∙ (λ i. tally (λ c. bit (empty-at c i)) (length (labels key t)))
      ∙ ap (tally (λ c. bit (eqb (get_or t c 0) 0))) (length-map t key)
      ∙ sym (count-sum (λ c. eqb c 0) t 0)

  counts : vacant t + size (labels key t) ≡ n
  counts = omega (arith, same-vacant, keys.sound-counts n home hb (labels key t) s.paths)

  module _ (v : ℕ) (new : New key t v) where
    room : (2 ≤ vacant t) ↔ (size (labels key (v ∷ t)) < n)
    room = let more = size-new (key v) (labels key t) new.some new.lacks in (λ l. omega (arith, counts), λ l. omega (arith, counts))

    module _ (few : size (labels key (v ∷ t)) < n) where
      abbrev u : List ℕ
      u = priced_layout n key home (v ∷ t)

      plain : Reaches n (λ c. c) home (labels key t) (key v) (layout n home (labels key (v ∷ t)))
      plain = keys.reaches n home hb (labels key t) s.paths (key v) new.some new.lacks few

      -- ---- contents go with their labels
      -- the label of cell d in the table with v
      abbrev at : ℕ → ℕ
      at d = get_or (layout n home (labels key (v ∷ t))) d 0

      content-at : (d : ℕ) → get_or u d 0 ≡ priced key (v ∷ t) (at d)
      content-at d = get_or-map (priced key (v ∷ t)) (layout n home (labels key (v ∷ t))) d 0

      label_of : (d : ℕ) → key (get_or u d 0) ≡ at d
      label_of d = sym (label_at key kz u d) ∙ ap (λ (l : List ℕ). get_or l d 0) (layout-labels n key home kz hb (v ∷ t) few)

      least_at : (d y : ℕ) → key y ≢ 0 → Least key (v ∷ t) y → at d ≡ key y → get_or u d 0 ≡ y
      least_at d y nz h is = content-at d ∙ ap (priced key (v ∷ t)) is ∙ rw (ne_eqb (key y) 0 nz) (least-one key kz (v ∷ t) y nz h)

      -- a content of t is still the least of its label
      kept : (y : ℕ) → key y ≢ 0 → In y t → Least key (v ∷ t) y
      kept y nz i = record {
        member = inr i;
        most = λ x j e. ⊎_elim
            (λ (z : x ≡ v). absurd (new.lacks (rw (sym e ∙ ap key z) at (in-labels key t y i))))
            (λ k. (own-least n key home kz hb t s y nz i).most x k e) j;
      }

      itself-least : Least key (v ∷ t) v
      itself-least = record {
        member = inl refl;
        most = λ x j e. ⊎_elim (λ (z : x ≡ v). omega arith) (λ k. absurd (new.lacks (rw e at (in-labels key t x k)))) j;
      }

      -- so a cell with a label of t has its content
      same-content : (c d : ℕ) → key (get_or t c 0) ≢ 0 → at d ≡ get_or (labels key t) c 0 → get_or u d 0 ≡ get_or t c 0
      same-content c d nz is =
          let y : ℕ = get_or t c 0 in least_at d y nz (kept y nz (holds-in (suc c) t y (λ z. nz (ap key z ∙ kz)) (record { cell = c; inside = omega arith; is = refl }))) (is ∙ label_at key kz t c)

      -- ---- the reach is that of the label
      abbrev h : ℕ
      h = home (key v)

      same_end : next_empty n h (labels key t) ≡ next_empty n h t
      same_end = ap (probe n h) (same_first h)

      to-plain : (c : ℕ) → InReach n h t c → InReach n h (labels key t) c
      to-plain c = rw same_end (λ b. b)

      onward : (d y l : ℕ) → ((c : ℕ) → at c ≡ l → get_or u c 0 ≡ y) → Onward n h (labels key t) (layout n home (labels key (v ∷ t))) d l → Onward n h t u d y
      onward d y l is o = record { cell = o.cell; inside = o.inside; is = is o.cell o.is; forward = o.forward; reached = rw same_end at o.reached }

      first-empty : FirstEmpty n h t (next_empty n h t)
      first-empty =
          let f = plain.first in
          record {
            inside = rw same_end at f.inside;
            empty = s.whole (next_empty n h t) (sym (label_at key kz t (next_empty n h t)) ∙ ap (λ (c : ℕ). get_or (labels key t) c 0) (sym same_end) ∙ f.empty);
            before = λ c cn b z. f.before c cn (rw same_end b) (label_at key kz t c ∙ ap key z ∙ kz);
          }

      reaches : Reaches n key home t v u
      reaches =
          let p = plain in
          record {
            first = first-empty;
            reached = in_reach n h t first-empty;
            outside = λ c cn out. let e = p.outside c cn (λ b. out (rw same_end at b)) in by-eq (key (get_or t c 0)) 0
                (λ z. content-at c ∙ ap (priced key (v ∷ t)) (e ∙ label_at key kz t c ∙ z) ∙ sym (s.whole c z))
                (λ nz. same-content c c nz e);
            inside = λ c cn b nz. onward (dist n h c) (get_or t c 0) (get_or (labels key t) c 0) (λ d. same-content c d nz)
                (p.inside c cn (to-plain c b) (rw (label_at key kz t c) nz));
            stands = onward 0 v (key v) (λ d. least_at d v new.some itself-least) p.stands;
            filled = λ z. p.filled (sym (label_of (next_empty n h (labels key t))) ∙ ap (λ (c : ℕ). key (get_or u c 0)) same_end ∙ z);
            farther = λ c d cn dn nz is. rw (label_at key kz t c) at (p.farther c d cn dn (rw (label_at key kz t c) nz) (label_at key kz t c ∙ is ∙ label_of d));
          }

      -- ---- the entries of the table with v, but for v, are those of t
      sound : PricedSound n key home u
      sound = (layouts n key home kz hb).sound (v ∷ t) few

      laid : (y : ℕ) → key y ≢ 0 → In y u ↔ Least key (v ∷ t) y
      laid y nz =
          let c = (layouts n key home kz hb).contents (v ∷ t) few y nz in
          (λ i. c.0 (in-holds n u y (sized n key home kz hb u sound) i), λ l. holds-in n u y (λ z. nz (ap key z ∙ kz)) (c.1 l))

      restored : priced_layout n key home (without_labels key (v ∷ []) u) ≡ t
      restored =
          let xs : List ℕ = without_labels key (v ∷ []) u in
          (layouts n key home kz hb).set_only xs t (cover-least key xs t
          (λ y nz i. let (j, out) = (in-without_labels key (v ∷ []) u y).0 i in ⊎_elim (λ z. absurd (out (inl (ap key z)))) (λ k. k) ((laid y nz).0 j).member)
          (λ y nz i. itself key (λ w. In w xs) y ((in-without_labels key (v ∷ []) u y).1
          ((laid y nz).1 (kept y nz i), ⊎_elim (λ z. new.lacks (rw z at (in-labels key t y i))) (λ k. k)))))
          ∙ sym ((layouts n key home kz hb).own t s)

      more : OneMore n key home t v
      more =
          let own : priced_layout n key home t ≡ t = sym ((layouts n key home kz hb).own t s) in
          record { own = own; sound = sound; reaches = subst (λ (l : List ℕ). Reaches n key home l v u) (sym own) reaches; restored = restored }

pub rooms : RoomPromise
rooms n key home kz hb t s = record { counts = counts n key home kz hb t s; more = room n key home kz hb t s }

pub reach : ReachPromise
reach n key home kz hb t s two v new = more n key home kz hb t s v new ((room n key home kz hb t s v new).0 two)

pub table : TablePromise
table n home hb t s two l p nz lacks right =
    let cents = (contents.prices p).0 right in
    let made : label (content l p) ≡ l = (contents.made l p (omega arith)).0 in
    let at-price : price (content l p) ≡ p = (contents.made l p (omega arith)).1 in
    let q : PricedSound n label home t = contents.priced n home t s in
    let new : New label t (content l p) = record { some = λ z. nz (sym made ∙ z); lacks = λ i. lacks (rw made at i) } in
    let few = (room n label home refl hb t q (content l p) new).0 two in (
      contents.laid n home hb (content l p ∷ t) few (λ x i xz. ⊎_elim
          (λ (e : x ≡ content l p). subst (λ (c : ℕ). T (price_ok c)) (sym at-price ∙ ap price (sym e)) right)
          (λ j. let g = in-holds n t x (sized n label home refl hb t q) j in
          ⊎_elim (λ z. absurd (xz (ap label z))) (λ r. (contents.prices (price x)).1 (r.1, r.2)) ((contents.cells x).0 (rw g.is at (s.cells g.cell g.inside)))) i),
      reach n label home refl hb t q two (content l p) new,
    )
