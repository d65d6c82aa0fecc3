-- The trie counts the distinct keys of a list, up to the limit. A new key changes cells alone that held 0, so every search that found its key still does.
use mathlib.Core.Path.{◌≡◌, refl, sym, ap, subst, ◌∙◌}
use mathlib.Core.Logic.{◌≢◌, ◌⊎◌, inl, inr, ⊎_elim}
use mathlib.Core.List.{List, [], ◌∷◌, ◌++◌, append-nil}
use Prim.Native.Nat.{ℕ, zero, suc, ◌+◌, ◌*◌, ◌/◌, ◌%◌, ◌≤◌, ◌<◌}
use native.Mathlib.Omega.{arith}
use lib.Dec.{leb}
use lib.ListN.{length, get_or, set, length-set, length-replicate, get_or-replicate}
use lib.Seq.{get_or-set_same, get_or-set_other}
use borrow.Author.Tests.{lt-leb, le-leb, eq-eqb, ne_eqb}
use Rattle.ring.proofs.Split.{by-lt, by-eq}
use Rattle.layout.specs.Layout.{In, descending, size}
use Rattle.layout.proofs.Once.{size-new}
use Rattle.distinct.specs.Trie.{no_nodes, root_of, key_at, seek, link_of, counted, marked, total}
use Rattle.distinct.proofs.Search.{Hit, root-low, stop-none, stop-hit, pass}
use Rattle.distinct.proofs.Sizes.{size-old, size-more, size-moved}

-- the link of a node
pub record Node (c link : ℕ) : Type 0 where
  pub number : ℕ
  pub made : number < c
  pub is : link ≡ 16384 + 2 * number

-- the trie t has c nodes with the keys of ds, each once and where a search finds it
pub record Kept (t ds : List ℕ) (c : ℕ) : Type 0 where
  pub long : length t ≡ 40960
  pub few : c ≤ 8192
  pub up : (x : ℕ) → x < 32768 → get_or t x 0 ≢ 0 → x < get_or t x 0
  pub nodes : (x : ℕ) → x < 32768 → get_or t x 0 ≢ 0 → Node c (get_or t x 0)
  pub used : (i : ℕ) → i < c → (get_or t (32768 + i) 0 ≢ 0) × In (get_or t (32768 + i) 0) ds
  pub fresh : (i : ℕ) → c ≤ i → i < 8192 → get_or t (32768 + i) 0 ≡ 0
  pub has : (y : ℕ) → y ≢ 0 → In y ds → Hit t y (link_of t y)
  pub sized : size ds ≡ c

-- t' has what t has
abbrev Extends : (t t' : List ℕ) → Type 0
Extends t t' = (x : ℕ) → get_or t x 0 ≢ 0 → get_or t' x 0 ≡ get_or t x 0

hit-stays : (t t' : List ℕ) (y at : ℕ) → Extends t t' → y ≢ 0 → Hit t y at → Hit t' y at
hit-stays t t' y at ext nz h =
    let e : get_or t' at 0 ≡ get_or t at 0 = ext at (omega (arith, h.up)) in
    record {
      up = omega (arith, e, h.up);
      low = omega (arith, e, h.low);
      is = ap (key_at t') e ∙ ext (24576 + get_or t at 0 / 2) (λ z. nz (sym h.is ∙ z)) ∙ h.is;
    }

module _ (t ds : List ℕ) (c y : ℕ) (kept : Kept t ds c) where
  -- what stands on the way of a search
  record Further (at : ℕ) : Type 0 where
    up : at < get_or t at 0
    low : get_or t at 0 < 32768
    after : get_or t at 0 + 1 < 16384 + 2 * c
    filled : key_at t (get_or t at 0) ≢ 0
    member : In (key_at t (get_or t at 0)) ds

  further : (at : ℕ) → at < 16384 + 2 * c → get_or t at 0 ≢ 0 → Further at
  further at l nz =
      let x : at < 32768 = omega (arith, kept.few) in
      let u : at < get_or t at 0 = kept.up at x nz in
      let n = kept.nodes at x nz in
      let w : 24576 + get_or t at 0 / 2 ≡ 32768 + n.number = omega (arith, n.is) in
      let k = kept.used n.number n.made in
      record {
        up = u;
        low = omega (arith, n.is, n.made, kept.few);
        after = omega (arith, n.is, n.made);
        filled = rw w k.0;
        member = rw w k.1;
      }

  -- where the search for y ends
  record Ended (e : ℕ) : Type 0 where
    low : e < 16384 + 2 * c
    at : (get_or t e 0 ≡ 0) ⊎ Hit t y e

  ends : (f bits at : ℕ) → at < 16384 + 2 * c → 32768 ≤ at + f → Ended (seek t y f bits at)
  ends zero bits at l enough = absurd (omega (arith, kept.few))
  ends (suc f) bits at l enough = by-eq (get_or t at 0) 0
      (λ z. rw (stop-none t y (suc f) bits at (omega arith)) (record { low = l; at = inl z }))
      (λ nz.
      let g = further at l nz in
      by-eq (key_at t (get_or t at 0)) y
      (λ e.
      let h : Hit t y at = record { up = g.up; low = g.low; is = e } in
      rw (stop-hit t y (suc f) bits at h) (record { low = l; at = inr h }))
      (λ ne. rw (pass t y f bits at g.up g.low ne) (ends f (bits / 2) (get_or t at 0 + bits % 2) (omega (arith, g.after)) (omega (arith, g.up)))))

  -- the search for y ends there in a greater trie too, if y's node is there
  same_way : (t' : List ℕ) → Extends t t' → (f bits at : ℕ) → at < 16384 + 2 * c → Hit t' y (seek t y f bits at) → seek t' y f bits at ≡ seek t y f bits at
  unfolding seek
  same_way t' ext zero bits at l h = refl
  same_way t' ext (suc f) bits at l h = by-eq (get_or t at 0) 0
      (λ z. stays (stop-none t y (suc f) bits at (omega arith)))
      (λ nz.
      let g = further at l nz in
      by-eq (key_at t (get_or t at 0)) y
      (λ e. stays (stop-hit t y (suc f) bits at (record { up = g.up; low = g.low; is = e })))
      (λ ne.
      let s = pass t y f bits at g.up g.low ne in
      let e : get_or t' at 0 ≡ get_or t at 0 = ext at nz in
      let k : key_at t' (get_or t' at 0) ≡ key_at t (get_or t at 0) = ap (key_at t') e ∙ ext (24576 + get_or t at 0 / 2) g.filled in
      pass t' y f bits at (omega (arith, e, g.up)) (omega (arith, e, g.low)) (λ w. ne (sym k ∙ w))
      ∙ ap (λ (w : ℕ). seek t' y f (bits / 2) (w + bits % 2)) e
      ∙ same_way t' ext f (bits / 2) (get_or t at 0 + bits % 2) (omega (arith, g.after)) (subst (Hit t' y) s h)
      ∙ sym s))
    where
      stays : seek t y (suc f) bits at ≡ at → seek t' y (suc f) bits at ≡ seek t y (suc f) bits at
      stays s = stop-hit t' y (suc f) bits at (subst (Hit t' y) s h) ∙ sym s

  found : Ended (link_of t y)
  unfolding link_of
  found = ends 32768 y (root_of y) (omega (arith, root-low y)) (omega arith)

  same-link : (t' : List ℕ) → Extends t t' → Hit t' y (link_of t y) → link_of t' y ≡ link_of t y
  unfolding link_of
  same-link t' ext h = same_way t' ext 32768 y (root_of y) (omega (arith, root-low y)) h

module _ (t ds : List ℕ) (c y : ℕ) (kept : Kept t ds c) where
  stop : Ended t ds c y kept (link_of t y)
  stop = found t ds c y kept

  -- a key that is met again
  again : (y ≢ 0 → Hit t y (link_of t y)) → Kept t (y ∷ ds) c
  again hit = record {
    long = kept.long;
    few = kept.few;
    up = kept.up;
    nodes = kept.nodes;
    fresh = kept.fresh;
    used = λ i l. let k = kept.used i l in (k.0, inr k.1);
    has = λ z nz i. ⊎_elim (λ (w : z ≡ y). rw w (hit (λ v. nz (w ∙ v)))) (λ i. kept.has z nz i) i;
    sized = size-old y ds (λ nz.
        let h = hit nz in
        subst (λ (k : ℕ). In k ds) h.is (further t ds c y kept (link_of t y) stop.low (omega (arith, h.up))).member) ∙ kept.sized;
  }

  -- a new key: its node is the next one, and the link to it stands where its search ends
  abbrev e : ℕ
  e = link_of t y

  abbrev with-key : List ℕ
  with-key = set t (32768 + c) y

  abbrev grown : List ℕ
  grown = set with-key e (16384 + 2 * c)

  module _ (room : c < 8192) (nz : y ≢ 0) (none : get_or t e 0 ≡ 0) where
    link-there : get_or grown e 0 ≡ 16384 + 2 * c
    link-there = get_or-set_same with-key e (16384 + 2 * c) 0 (omega (arith, stop.low, length-set t (32768 + c) y, kept.long))

    others : (x : ℕ) → x ≢ e → get_or grown x 0 ≡ get_or with-key x 0
    others x ne = get_or-set_other with-key e x (16384 + 2 * c) 0 ne

    keys-apart : (i : ℕ) → get_or grown (32768 + i) 0 ≡ get_or with-key (32768 + i) 0
    keys-apart i = others (32768 + i) (λ w. omega (arith, stop.low))

    key-there : get_or grown (32768 + c) 0 ≡ y
    key-there = keys-apart c ∙ get_or-set_same t (32768 + c) y 0 (omega (arith, kept.long))

    old-key : (i : ℕ) → i ≢ c → get_or grown (32768 + i) 0 ≡ get_or t (32768 + i) 0
    old-key i ne = keys-apart i ∙ get_or-set_other t (32768 + c) (32768 + i) y 0 (λ w. ne (omega arith))

    old-link : (x : ℕ) → x < 32768 → x ≢ e → get_or grown x 0 ≡ get_or t x 0
    old-link x l ne = others x ne ∙ get_or-set_other t (32768 + c) x y 0 (λ w. omega arith)

    extends : Extends t grown
    extends x h = others x (λ w. h (ap (λ (i : ℕ). get_or t i 0) w ∙ none))
        ∙ get_or-set_other t (32768 + c) x y 0 (λ w. h (ap (λ (i : ℕ). get_or t i 0) w ∙ kept.fresh c (omega arith) room))

    hit : Hit grown y e
    hit = record {
      up = omega (arith, link-there, stop.low);
      low = omega (arith, link-there);
      is = ap (λ (i : ℕ). get_or grown i 0) (omega (arith, link-there)) ∙ key-there;
    }

    out : In y ds → ⊥
    out i = omega (arith, (kept.has y nz i).up)

    anew : Kept grown (y ∷ ds) (c + 1)
    anew = record {
      long = length-set with-key e (16384 + 2 * c) ∙ length-set t (32768 + c) y ∙ kept.long;
      few = omega arith;
      up = λ x l h. by-eq x e (λ w. rw w hit.up) (λ ne. let o = old-link x l ne in omega (arith, o, kept.up x l (λ z. h (o ∙ z))));
      nodes = λ x l h. by-eq x e
          (λ w. record { number = c; made = omega arith; is = ap (λ (i : ℕ). get_or grown i 0) w ∙ link-there })
          (λ ne. let o = old-link x l ne in let n = kept.nodes x l (λ z. h (o ∙ z)) in
          record { number = n.number; made = omega (arith, n.made); is = o ∙ n.is });
      used = λ i l. by-eq i c
          (λ w. rw (w, key-there) (nz, inl refl))
          (λ ne. let k = kept.used i (omega arith) in
          subst (λ (w : ℕ). (w ≢ 0) × In w (y ∷ ds)) (sym (old-key i ne)) (k.0, inr k.1));
      fresh = λ i l m. old-key i (λ w. omega arith) ∙ kept.fresh i (omega arith) m;
      has = λ z zn i. ⊎_elim
          (λ (w : z ≡ y). rw w (rw (same-link t ds c y kept grown extends hit) hit))
          (λ j. stays-found z zn j) i;
      sized = size-new y ds nz out ∙ omega (arith, kept.sized);
    }
      where
        stays-found : (z : ℕ) → z ≢ 0 → In z ds → Hit grown z (link_of grown z)
        stays-found z zn j = let h = hit-stays t grown z (link_of t z) extends zn (kept.has z zn j) in rw (same-link t ds c z kept grown extends h) h

-- ---- up to the limit
module _ (limit : ℕ) (limited : limit ≤ 8192) where
  pub record Tracks (t ds : List ℕ) (c : ℕ) : Type 0 where
    pub below : c < limit → Kept t ds c
    pub reached : limit ≤ c → limit ≤ size ds

  step : (t ds : List ℕ) (c y : ℕ) → Tracks t ds c → Tracks (marked t c limit y) (y ∷ ds) (counted t c limit y)
  unfolding marked counted
  step t ds c y tracks = by-lt c limit
      (λ l.
      let kept = tracks.below l in
      let s = found t ds c y kept in
      let same : (y ≢ 0 → Hit t y (link_of t y)) → Tracks t (y ∷ ds) c =
      λ hit. record { below = λ _. again t ds c y kept hit; reached = λ g. absurd (omega arith) } in
      rw (lt-leb limit c l) (by-eq y 0
      (λ z. rw (eq-eqb y 0 z) (same (λ nz. absurd (nz z))))
      (λ nz. rw (ne_eqb y 0 nz) (by-eq (get_or t (link_of t y) 0) 0
      (λ none.
      let kept' = anew t ds c y kept (omega arith) nz none in
      rw (eq-eqb (get_or t (link_of t y) 0) 0 none) (record { below = λ _. kept'; reached = λ g. omega (arith, kept'.sized) }))
      (λ ne. rw (ne_eqb (get_or t (link_of t y) 0) 0 ne) (same (λ _. ⊎_elim (λ z. absurd (ne z)) (λ h. h) s.at)))))))
      (λ l. rw (le-leb limit c l) (record { below = λ g. absurd (omega arith); reached = λ _. omega (arith, tracks.reached l, size-more y ds) }))

  verdict : (t ds : List ℕ) (c : ℕ) → Tracks t ds c → leb limit c ≡ leb limit (size ds)
  verdict t ds c tracks = by-lt c limit
      (λ l. ap (leb limit) (sym (tracks.below l).sized))
      (λ l. le-leb limit c l ∙ sym (le-leb limit (size ds) (tracks.reached l)))

  run : (t ds : List ℕ) (c : ℕ) (ks : List ℕ) → Tracks t ds c → leb limit (total t c limit ks) ≡ leb limit (size (ds ++ ks))
  unfolding total
  run t ds c [] tracks = verdict t ds c tracks ∙ ap (λ (xs : List ℕ). leb limit (size xs)) (sym (append-nil ds))
  run t ds c (y ∷ ks) tracks = run (marked t c limit y) (y ∷ ds) (counted t c limit y) ks (step t ds c y tracks) ∙ ap (leb limit) (size-moved y ds ks)

  start : Tracks no_nodes [] 0
  unfolding descending
  start = record {
    below = λ _. record {
      long = length-replicate {A = ℕ} 40960 0;
      few = omega arith;
      up = λ x l h. absurd (h (get_or-replicate 40960 x 0 0 (omega arith)));
      nodes = λ x l h. absurd (h (get_or-replicate 40960 x 0 0 (omega arith)));
      used = λ i l. absurd (omega arith);
      fresh = λ i l m. get_or-replicate 40960 (32768 + i) 0 0 (omega arith);
      has = λ y nz i. absurd i;
      sized = refl;
    };
    reached = λ g. omega arith;
  }

  -- the count reaches the limit exactly if the list has as many distinct keys or more
  pub crowded-keys : (ks : List ℕ) → leb limit (total no_nodes 0 limit ks) ≡ leb limit (size ks)
  crowded-keys ks = run no_nodes [] 0 ks start
