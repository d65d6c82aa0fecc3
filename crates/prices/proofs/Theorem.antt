-- The promise of this crate.
use mathlib.Core.Path.{◌≡◌, refl, sym, ap, ◌∙◌}
use mathlib.Core.Logic.{◌≢◌, ◌↔◌}
use mathlib.Core.List.{List, map}
use Prim.Native.Nat.{ℕ, ◌<◌}
use native.Mathlib.Omega.{arith}
use lib.ListN.{length, get_or, length-map, get_or-map, get_or-eq_default}
use lib.Seq.{ext_get_or}
use borrow.Author.Tests.{eq-eqb, ne_eqb}
use Rattle.ring.proofs.Split.{by-lt, by-eq}
use Rattle.layout.specs.Layout.{In, size, layout}
use Rattle.layout.specs.Sound.{Holds}
use Rattle.layout.proofs.Canonical.{layout-sound, layout-keys, keys-layout}
use Rattle.layout.proofs.Sets.{holds-in, in-holds}
use Rattle.layout.proofs.Sound.{once as label-once}
use Rattle.layout.proofs.Theorem.{theorem as layouts}
use Rattle.prices.specs.Priced.{labels, Least, SameLeast, PricedSound, least, priced, priced_layout}
use Rattle.prices.specs.Promise.{PricedPromise}
use Rattle.prices.proofs.Labels.{in-labels, in-without_labels, label_at}
use Rattle.prices.proofs.Least.{least-is, least-one, same-label, same-least}

module _ (n : ℕ) (key home : ℕ → ℕ) (kz : key 0 ≡ 0) (hb : (x : ℕ) → home x < n) where
  -- ---- a sound table
  module _ (t : List ℕ) (s : PricedSound n key home t) where
    pub sized : length t ≡ n
    sized = sym (length-map t key) ∙ s.paths.sized

    pub once : (i j : ℕ) → i < n → j < n → key (get_or t i 0) ≢ 0 → key (get_or t i 0) ≡ key (get_or t j 0) → i ≡ j
    once i j i_n jn nz e =
        label-once n home hb (labels key t) s.paths.ordered i j i_n jn (λ z. nz (sym (label_at key kz t i) ∙ z)) (label_at key kz t i ∙ e ∙ sym (label_at key kz t j))

    -- of each label it has one content
    pub one-content : (x y : ℕ) → In x t → In y t → key x ≢ 0 → key x ≡ key y → x ≡ y
    one-content x y ix iy nz e =
        let hx = in-holds n t x sized ix in
        let hy = in-holds n t y sized iy in
        let c : hx.cell ≡ hy.cell = once hx.cell hy.cell hx.inside hy.inside (λ z. nz (sym (ap key hx.is) ∙ z)) (ap key hx.is ∙ e ∙ sym (ap key hy.is)) in
        sym hx.is ∙ ap (λ (i : ℕ). get_or t i 0) c ∙ hy.is

    pub own-least : (y : ℕ) → key y ≢ 0 → In y t → Least key t y
    own-least y nz i = record { member = i; most = λ x j e. let d : x ≡ y = one-content x y j i (λ z. nz (sym e ∙ z)) e in omega arith }

  -- ---- a table whose labels are the layout and whose contents are the least ones
  pub pricing : (xs t : List ℕ) → labels key t ≡ layout n home (labels key xs) → ((j : ℕ) → key (get_or t j 0) ≡ 0 → get_or t j 0 ≡ 0)
      → ((j : ℕ) → key (get_or t j 0) ≢ 0 → Least key xs (get_or t j 0)) → t ≡ priced_layout n key home xs
  pricing xs t same whole cheap =
      let u : List ℕ = layout n home (labels key xs) in
      ext_get_or 0 t (priced_layout n key home xs) (sym (length-map t key) ∙ ap length same ∙ sym (length-map u (priced key xs)))
      (λ j _. cell j ∙ ap (priced key xs) (sym (label_at key kz t j) ∙ ap (λ (v : List ℕ). get_or v j 0) same) ∙ sym (get_or-map (priced key xs) u j 0))
    where
      cell : (j : ℕ) → get_or t j 0 ≡ priced key xs (key (get_or t j 0))
      cell j = by-eq (key (get_or t j 0)) 0
          (λ z. rw (eq-eqb (key (get_or t j 0)) 0 z) (whole j z))
          (λ z. rw (ne_eqb (key (get_or t j 0)) 0 z) (sym (least-one key kz xs (get_or t j 0) z (cheap j z))))

  pub unique : (xs t : List ℕ) → PricedSound n key home t → ((y : ℕ) → key y ≢ 0 → Holds n t y ↔ Least key xs y) → t ≡ priced_layout n key home xs
  unique xs t s same = pricing xs t
      (keys-layout n home hb (labels key xs) (labels key t) s.paths (λ l nz. (
        λ h. let e = sym (label_at key kz t h.cell) ∙ h.is in
            rw e at (in-labels key xs (get_or t h.cell 0) ((same (get_or t h.cell 0) (λ z. nz (sym e ∙ z))).0 (record { cell = h.cell; inside = h.inside; is = refl })).member),
        λ i. let (g, e) = least-is key kz xs l nz i in
            let h = (same (least key xs l) (λ z. nz (sym e ∙ z))).1 g in
            record { cell = h.cell; inside = h.inside; is = label_at key kz t h.cell ∙ ap key h.is ∙ e },
      )))
      s.whole (λ j nz. (same (get_or t j 0) nz).0 (record { cell = j; inside = low j nz; is = refl }))
    where
      low : (j : ℕ) → key (get_or t j 0) ≢ 0 → j < n
      low j nz = by-lt j n (λ l. l) (λ l. absurd (nz (ap key (get_or-eq_default t 0 (omega (arith, sized t s))) ∙ kz)))

  -- ---- the layout
  module _ (xs : List ℕ) (few : size (labels key xs) < n) where
    abbrev u : List ℕ
    u = priced_layout n key home xs

    -- the label of cell j in the layout of the labels
    abbrev at : ℕ → ℕ
    at j = get_or (layout n home (labels key xs)) j 0

    content-at : (j : ℕ) → get_or (priced_layout n key home xs) j 0 ≡ priced key xs (at j)
    content-at j = get_or-map (priced key xs) (layout n home (labels key xs)) j 0

    empty-at : (j : ℕ) → at j ≡ 0 → get_or (priced_layout n key home xs) j 0 ≡ 0
    empty-at j z = content-at j ∙ rw (eq-eqb (at j) 0 z)

    least_at : (j : ℕ) → at j ≢ 0 → get_or (priced_layout n key home xs) j 0 ≡ least key xs (at j)
    least_at j nz = content-at j ∙ rw (ne_eqb (at j) 0 nz)

    key-at : (j : ℕ) → j < n → key (get_or (priced_layout n key home xs) j 0) ≡ at j
    key-at j l = by-eq (at j) 0
        (λ z. ap key (empty-at j z) ∙ kz ∙ sym z)
        (λ z. ap key (least_at j z) ∙ (least-is key kz xs (at j) z ((layout-keys n home hb (labels key xs) few (at j) z).0 (record { cell = j; inside = l; is = refl }))).1)

    long : length (priced_layout n key home xs) ≡ n
    long = length-map (layout n home (labels key xs)) (priced key xs) ∙ (layout-sound n home hb (labels key xs) few).sized

    pub layout-labels : labels key (priced_layout n key home xs) ≡ layout n home (labels key xs)
    layout-labels =
        ext_get_or 0 (labels key u) (layout n home (labels key xs)) (length-map u key ∙ length-map (layout n home (labels key xs)) (priced key xs))
        (λ j l. label_at key kz u j ∙ key-at j (omega (arith, length-map u key, long)))

    pub sound : PricedSound n key home (priced_layout n key home xs)
    sound =
        record {
          paths = rw layout-labels (layout-sound n home hb (labels key xs) few);
          whole = λ j z. by-lt j n (λ l. empty-at j (sym (key-at j l) ∙ z)) (λ l. get_or-eq_default u 0 (omega (arith, long)));
        }

    pub contents : (y : ℕ) → key y ≢ 0 → Holds n (priced_layout n key home xs) y ↔ Least key xs y
    contents y nz = (
      λ h.
          let l : at h.cell ≡ key y = sym (key-at h.cell h.inside) ∙ ap key h.is in
          let some : at h.cell ≢ 0 = λ z. nz (sym l ∙ z) in
          let g = least-is key kz xs (at h.cell) some ((layout-keys n home hb (labels key xs) few (at h.cell) some).0 (record { cell = h.cell; inside = h.inside; is = refl })) in
          rw (sym (least_at h.cell some) ∙ h.is) at g.0,
      λ h.
          let g = (layout-keys n home hb (labels key xs) few (key y) nz).1 (in-labels key xs y h.member) in
          record { cell = g.cell; inside = g.inside; is = least_at g.cell (λ z. nz (sym g.is ∙ z)) ∙ ap (least key xs) g.is ∙ least-one key kz xs y nz h },
    )

  set_only : (xs ys : List ℕ) → SameLeast key xs ys → priced_layout n key home xs ≡ priced_layout n key home ys
  set_only xs ys same = same-cells ∙ ap (map (priced key ys)) ((layouts n home hb).set_only (labels key xs) (labels key ys) (λ l nz. (
    same-label key kz xs ys (λ y d. (same y d).0) l nz,
    same-label key kz ys xs (λ y d. (same y d).1) l nz,
  )))
    where
      same-price : (l : ℕ) → priced key xs l ≡ priced key ys l
      same-price l = by-eq l 0 (λ z. rw (eq-eqb l 0 z)) (λ z. rw (ne_eqb l 0 z) (same-least key kz xs ys same l z))

      same-cells : priced_layout n key home xs ≡ map (priced key ys) (layout n home (labels key xs))
      same-cells = λ i. map (λ l. same-price l i) (layout n home (labels key xs))

  own : (t : List ℕ) → PricedSound n key home t → t ≡ priced_layout n key home t
  own t s = unique t t s (λ y nz. (λ h. own-least t s y nz (holds-in n t y (λ z. nz (ap key z ∙ kz)) h), λ h. in-holds n t y (sized t s) h.member))

pub theorem : PricedPromise
theorem n key home kz hb =
    record {
      once = once n key home kz hb;
      sound = sound n key home kz hb;
      contents = contents n key home kz hb;
      unique = unique n key home kz hb;
      set_only = set_only n key home kz hb;
      own = own n key home kz hb;
      others = in-without_labels key;
    }
