-- The contents of cells: label and price, and sound tables of them.
use mathlib.Core.Path.{◌≡◌, refl, sym, ◌∙◌}
use mathlib.Core.Logic.{◌≢◌, ◌↔◌, ◌⊎◌, inl, inr, ⊎_elim}
use mathlib.Core.List.{List}
use Prim.Native.Nat.{ℕ, ◌≤◌, ◌<◌}
use native.Mathlib.Omega.{arith}
use lib.Dec.{T, leb}
use lib.ListN.{get_or, length-map, get_or-eq_default}
use borrow.Author.Tests.{leb-true, le-leb, eq-eqb, ne_eqb}
use Rattle.ring.proofs.Split.{by-lt, by-eq}
use Rattle.ring.proofs.Tests.{true-says, both_say}
use Rattle.layout.specs.Layout.{In, size}
use Rattle.layout.specs.Sound.{Holds}
use Rattle.prices.specs.Contents.{label, price, content, price_ok, cell_ok, SoundTable}
use Rattle.prices.specs.Priced.{labels, PricedSound, priced_layout}
use Rattle.prices.specs.Promise.{ContentsPromise}
use Rattle.prices.proofs.Labels.{label_at}
use Rattle.prices.proofs.Theorem.{once, sound, contents as has}

made : (l p : ℕ) → p < 4294967296 → (label (content l p) ≡ l) × (price (content l p) ≡ p)
made l p low = (omega arith, omega arith)

own : (c : ℕ) → content (label c) (price c) ≡ c
own c = omega arith

cheaper : (c d : ℕ) → label c ≡ label d → (c ≤ d) ↔ (price c ≤ price d)
cheaper c d e = (λ l. omega arith, λ l. omega arith)

-- ---- right prices and right cells
prices-say : (p : ℕ) → T (price_ok p) ↔ ((1 ≤ p) × (p ≤ 9999999))
prices-say p =
    let s = both_say (leb 1 p) (leb p 9999999) (leb-true 1 p, le-leb 1 p) (leb-true p 9999999, le-leb p 9999999) in
    (λ t. s.0 ((true-says (price_ok p)).1 t), λ h. (true-says (price_ok p)).0 (s.1 h))

cells_say : (c : ℕ) → T (cell_ok c) ↔ ((c ≡ 0) ⊎ ((label c ≢ 0) × (1 ≤ price c) × (price c ≤ 9999999)))
cells_say c = by-eq c 0
    (λ z. rw (eq-eqb c 0 z) (λ _. inl z, λ _. tt))
    (λ nz. rw (ne_eqb c 0 nz) (by-eq (label c) 0
    (λ z. rw (eq-eqb (label c) 0 z) (λ t. absurd t, ⊎_elim (λ e. absurd (nz e)) (λ h. absurd (h.0 z))))
    (λ l. rw (ne_eqb (label c) 0 l) (λ t. let h = (prices-say (price c)).0 t in inr (l, h.0, h.1), ⊎_elim (λ e. absurd (nz e)) (λ h. (prices-say (price c)).1 (h.1, h.2))))))

-- a right cell without a label is empty
pub cell-whole : (c : ℕ) → T (cell_ok c) → label c ≡ 0 → c ≡ 0
cell-whole c ok z = by-eq c 0 (λ y. y) (λ y. absurd (rw (ne_eqb c 0 y, eq-eqb (label c) 0 z) at ok))

priced : (n : ℕ) (home : ℕ → ℕ) (t : List ℕ) → SoundTable n home t → PricedSound n label home t
priced n home t s =
    record {
      paths = s.paths;
      whole = λ j z. by-lt j n
          (λ l. cell-whole (get_or t j 0) (s.cells j l) z)
          (λ l. get_or-eq_default t 0 (omega (arith, length-map t label, s.paths.sized)));
    }

gap : (n : ℕ) (home : ℕ → ℕ) (t : List ℕ) → SoundTable n home t → Holds n t 0
gap n home t s =
    let g = s.paths.gap in
    record {
      cell = g.cell;
      inside = g.inside;
      is = cell-whole (get_or t g.cell 0) (s.cells g.cell g.inside) (sym (label_at label refl t g.cell) ∙ g.is);
    }

-- ---- the layout of contents with right prices
laid : (n : ℕ) (home : ℕ → ℕ) → ((x : ℕ) → home x < n) → (xs : List ℕ) → size (labels label xs) < n
    → ((x : ℕ) → In x xs → label x ≢ 0 → T (price_ok (price x))) → SoundTable n home (priced_layout n label home xs)
laid n home hb xs few right =
    let at : ℕ → ℕ = λ j. get_or (priced_layout n label home xs) j 0 in
    let s : PricedSound n label home (priced_layout n label home xs) = sound n label home refl hb xs few in
    record {
      paths = s.paths;
      cells = λ j l. by-eq (label (at j)) 0 (λ z. (cells_say (at j)).1 (inl (s.whole j z))) (λ nz.
          let h = (has n label home refl hb xs few (at j) nz).0 (record { cell = j; inside = l; is = refl }) in
          let p = (prices-say (price (at j))).0 (right (at j) h.member nz) in
          (cells_say (at j)).1 (inr (nz, p.0, p.1)));
    }

pub contents : ContentsPromise
contents =
    record {
      written = refl;
      made = made;
      own = own;
      cheaper = cheaper;
      prices = prices-say;
      cells = cells_say;
      gap = gap;
      once = λ n home hb t s. once n label home refl hb t (priced n home t s);
      priced = priced;
      laid = laid;
    }
