-- What specs/Promise promises.
use mathlib.Core.Path.{◌≡◌, refl, sym, ap, ◌∙◌, subst}
use mathlib.Core.Logic.Iff
use mathlib.Core.Logic.{◌≢◌, ◌↔◌, ◌⊎◌, inl, inr, ⊎_elim}
use mathlib.Core.Bool.{Bool, true, false, not}
use mathlib.Core.List.{List}
use Prim.Native.Nat.{ℕ, ◌≤◌, ◌<◌}
use native.Mathlib.Omega.{arith}
use lib.Dec.{T, eqb}
use lib.ListN.{length, get_or, length-map}
use borrow.Author.Tests.{eq-eqb, ne_eqb, eqb-true, not-true, not-false}
use Rattle.ring.specs.Ring.{probe}
use Rattle.ring.proofs.Split.{by-lt, by-eq}
use Rattle.ring.proofs.Tests.{true-says, by-test, not_both, both_say, less-says, equal-says}
use Rattle.ring.specs.Each.{all, some, first}
use Rattle.layout.specs.Sound.{Ordered}
use Rattle.ring.proofs.Each.{and-of, and_left, and_right, all-at, all_of, some_at, some_of, First, first-is}
use Rattle.prices.specs.Contents.{label, price, cell_ok, SoundTable}
use Rattle.prices.specs.Priced.{labels}
use Rattle.prices.proofs.Contents.{contents}
use Rattle.prices.proofs.Labels.{label_at}
use Rattle.flaws.specs.Flaws.{stops_at, lowest, is_intact, is_broken, deciding, meets_empty, meets_key}
use Rattle.flaws.specs.Promise.{Intact, WrongCell, Damaged, Decided, Gapped, Disordered, FlawsPromise}
use Rattle.flaws.proofs.Keys.{breaks-fact, fact-breaks, fact-stops, lowest-is, lowest-of, met-first, broken-says, ordered-unbroken, unbroken-ordered}

-- ---- a cell
right-says : (c : ℕ) → T (cell_ok c) ↔ (c ≢ 0 → (label c ≢ 0) × (1 ≤ price c) × (price c ≤ 9999999))
right-says c = (
  λ ok nz. ⊎_elim (λ z. absurd (nz z)) (λ h. h) ((contents.cells c).0 ok),
  λ h. by-eq c 0 (λ z. (contents.cells c).1 (inl z)) (λ nz. (contents.cells c).1 (inr (h nz))),
)

module _ (t : List ℕ) where
  abbrev n : ℕ
  n = length t

  -- ---- the cells by themselves
  abbrev an_empty : Bool
  an_empty = some (λ j. eqb (get_or t j 0) 0) n

  abbrev all_right : Bool
  all_right = all (λ j. cell_ok (get_or t j 0)) n

  intact-says : T (is_intact t) ↔ Intact t
  intact-says = (
    λ h. let e = some_at (λ j. eqb (get_or t j 0) 0) n (and_left an_empty all_right h) in record {
      empty = record { cell = e.0; inside = e.1; is = eqb-true (get_or t e.0 0) 0 ((true-says (eqb (get_or t e.0 0) 0)).1 e.2) };
      cells = λ j l. (right-says (get_or t j 0)).0 (all-at (λ j. cell_ok (get_or t j 0)) n (and_right an_empty all_right h) j l);
    },
    λ w. and-of an_empty all_right
        (some_of (λ j. eqb (get_or t j 0) 0) n w.empty.cell w.empty.inside (rw (eq-eqb (get_or t w.empty.cell 0) 0 w.empty.is) tt))
        (all_of (λ j. cell_ok (get_or t j 0)) n (λ j l. (right-says (get_or t j 0)).1 (w.cells j l))),
  )

  -- the first cell that is not right
  abbrev is_wrong : ℕ → Bool
  is_wrong j = not (cell_ok (get_or t j 0))

  wrong_first : First is_wrong n (first is_wrong n)
  wrong_first = first-is is_wrong n

  wrong-cell : all_right ≡ false → WrongCell t
  wrong-cell e =
      let j = first is_wrong n in
      by-lt j n
      (λ l. wrong-of j l (not-true (cell_ok (get_or t j 0)) (wrong_first.found l)))
      (λ l. absurd (not_both all_right ((true-says all_right).1 (all_of (λ i. cell_ok (get_or t i 0)) n (λ i il.
      (true-says (cell_ok (get_or t i 0))).0 (not-false (cell_ok (get_or t i 0)) (wrong_first.before i (omega arith)))))) e))
    where
      wrong-of : (j : ℕ) → j < n → cell_ok (get_or t j 0) ≡ false → WrongCell t
      wrong-of j l e = record { cell = j; inside = l; filled = λ z. not_both (cell_ok (get_or t j 0)) (rw z) e; wrong = which }
        where
          which : (label (get_or t j 0) ≡ 0) ⊎ ((price (get_or t j 0) ≡ 0) ⊎ (9999999 < price (get_or t j 0)))
          which = by-eq (label (get_or t j 0)) 0 inl (λ a. inr (by-eq (price (get_or t j 0)) 0 inl (λ b. inr (by-lt 9999999 (price (get_or t j 0)) (λ h. h)
              (λ h. absurd (not_both (cell_ok (get_or t j 0)) ((true-says (cell_ok (get_or t j 0))).1 ((right-says (get_or t j 0)).1 (λ _. (a, omega arith, h)))) e))))))

  one_of : Intact t ⊎ Damaged t
  one_of = by-test an_empty
      (λ e. by-test all_right
      (λ r. inl (intact-says.0 (and-of an_empty all_right ((true-says an_empty).0 e) ((true-says all_right).0 r))))
      (λ r. inr (inr (wrong-cell r))))
      (λ e. inr (inl (λ j l z. not_both an_empty ((true-says an_empty).1 (some_of (λ j. eqb (get_or t j 0) 0) n j l (rw (eq-eqb (get_or t j 0) 0 z) tt))) e)))

  not_damaged : Intact t → Damaged t → ⊥
  not_damaged w = ⊎_elim
      (λ none. none w.empty.cell w.empty.inside w.empty.is)
      (λ c. let (a, b, h) = w.cells c.cell c.inside c.filled in ⊎_elim (λ z. a z) (⊎_elim (λ z. omega arith) (λ z. omega arith)) c.wrong)

  module _ (home : ℕ → ℕ) where
    abbrev keys : List ℕ
    keys = labels label t

    -- ---- the cell that decides
    -- what stands where a key meets it first
    abbrev content_at : ℕ → ℕ → ℕ
    content_at j s = get_or t (probe n (home (label (get_or t j 0))) s) 0

    met_at : deciding home t ≡ content_at (lowest n home keys) (stops_at n home keys (lowest n home keys))
    met_at = ap (λ (x : ℕ). get_or t (probe n (home x) (stops_at n home keys (lowest n home keys))) 0) (label_at label refl t (lowest n home keys))

    decided-says : (Fact : ℕ → Type 0) → ((lowest n home keys < n) × Fact (deciding home t)) ↔ Decided home t Fact
    decided-says Fact = (
      λ (l, f). record {
        cell = lowest n home keys;
        steps = stops_at n home keys (lowest n home keys);
        breaks = breaks-fact n home keys (lowest n home keys) l ((lowest-is n home keys).found l);
        lowest = λ i s il b. not_both _ (fact-breaks n home keys i b) ((lowest-is n home keys).before i il);
        fact = subst Fact met_at f;
      },
      λ d.
          let e = lowest-of n home keys d.cell d.steps d.breaks d.lowest in
          let s = fact-stops n home keys d.cell d.breaks ∙ ap (stops_at n home keys) e in
          (omega (arith, d.breaks.inside, e), subst Fact (ap (content_at d.cell) s ∙ ap (λ (j : ℕ). content_at j (stops_at n home keys (lowest n home keys))) e ∙ sym met_at) d.fact),
    )

    gapped-says : meets_empty home t ≡ true ↔ Gapped home t
    unfolding meets_empty
    gapped-says = Iff.trans (both_say (is_broken home t) (eqb (deciding home t) 0) (less-says _ _) (equal-says (deciding home t) 0)) (decided-says (λ c. c ≡ 0))

    unequal-says : (a b : ℕ) → not (eqb a b) ≡ true ↔ (a ≢ b)
    unequal-says a b = (λ e z. not_both (eqb a b) (eq-eqb a b z) (not-true (eqb a b) e), λ z. rw (ne_eqb a b z))

    disordered-says : meets_key home t ≡ true ↔ Disordered home t
    unfolding meets_key
    disordered-says = Iff.trans (both_say (is_broken home t) (not (eqb (deciding home t) 0)) (less-says _ _) (unequal-says (deciding home t) 0)) (decided-says (λ c. c ≢ 0))

    -- ---- a sound table: its cells by themselves, and the order of its keys
    pub sound-says : SoundTable n home t ↔ (Intact t × Ordered n home keys)
    sound-says = (
      λ s. (record { empty = contents.gap n home t s; cells = λ j l. (right-says (get_or t j 0)).0 (s.cells j l) }, s.paths.ordered),
      λ (w, o). record {
        paths = record {
          sized = length-map t label;
          gap = record { cell = w.empty.cell; inside = w.empty.inside; is = label_at label refl t w.empty.cell ∙ ap label w.empty.is };
          ordered = o;
        };
        cells = λ j l. (right-says (get_or t j 0)).1 (w.cells j l);
      },
    )

    -- some key breaks the order, and meets an empty cell or not
    broken-some : lowest n home keys < n → (Gapped home t → ⊥) → (Disordered home t → ⊥) → ⊥
    broken-some l g d = by-eq (deciding home t) 0 (λ z. g ((decided-says (λ c. c ≡ 0)).0 (l, z))) (λ z. d ((decided-says (λ c. c ≢ 0)).0 (l, z)))

    none-says : (0 < n → (x : ℕ) → home x < n) → SoundTable n home t ↔ (Intact t × (Gapped home t → ⊥) × (Disordered home t → ⊥))
    none-says hb = (
      λ s.
          let (w, o) = sound-says.0 s in
          let unbroken = ordered-unbroken n home keys hb o in
          (w, λ d. unbroken d.cell d.steps d.breaks, λ d. unbroken d.cell d.steps d.breaks),
      λ (w, g, d). sound-says.1 (w, unbroken-ordered n home keys hb (by-lt (lowest n home keys) n (λ l. absurd (broken-some l g d)) (λ l. l))),
    )

pub theorem : FlawsPromise
theorem = record {
  kinds = λ home t. record {
    intact = Iff.trans (true-says (is_intact t)) (intact-says t);
    gapped = gapped-says t home;
    disordered = disordered-says t home;
    one_of = one_of t;
    not_damaged = not_damaged t;
    apart = λ g d. ((decided-says t home (λ c. c ≢ 0)).1 d).1 ((decided-says t home (λ c. c ≡ 0)).1 g).1;
  };
  sound = λ home t. none-says t home;
  ways = λ n home t hb. record { broken = broken-says n home t hb; first = λ j s. met-first n home t hb };
}
