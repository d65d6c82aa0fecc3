-- The check of the lines says which line decides, and the count of the labels says whether there are too many.
use mathlib.Core.Path.{◌≡◌, refl, sym, ◌∙◌, ap}
use mathlib.Core.Logic.{◌≢◌, ◌↔◌, ⊎_elim}
use mathlib.Core.Bool.{true, not}
use mathlib.Core.List.{List, [], ◌∷◌, ◌++◌}
use Prim.Native.Nat.{ℕ, zero, suc, ◌≤◌, ◌<◌}
use native.Mathlib.Omega.{arith}
use lib.Dec.{leb, ltb, eqb}
use lib.ListN.{length, get_or}
use borrow.Author.Tests.{eqb-true, eqb-false, leb-true, leb-false, le-leb, lt-ltb, le-ltb}
use Rattle.ring.proofs.Split.{by-lt}
use Rattle.ring.proofs.Tests.{tested, equal-says}
use Rattle.std.specs.Prelude.{Result, Ok, Err, ⊤, unwrap_or, is_none}
use Rattle.std.proofs.lemmas.Option.{unwrap_or-slice_get, slice_get-get_or, slice_get_past}
use Rattle.layout.specs.Layout.{descending, size}
use Rattle.layout.proofs.Once.{falls-once, once-size}
use Rattle.layout.proofs.Sets.{top, descending-falls, in-descending, in-append, cell_in, subset-size}
use Rattle.prices.specs.Contents.{label, price_ok}
use Rattle.prices.specs.Priced.{labels}
use Rattle.orders.specs.Orders.{blank, line_at, ordered_keys, is_test, line_fault, lines_fault}
use Rattle.orders.specs.declared.Fault.{Fault}
use Rattle.orders.specs.declared.Fault.TheVariants.{Blank, TestNumber, WrongPrice, NoWorker}
use Rattle.orders.specs.declared.Order.{Order}
use Rattle.state.specs.Open.{fault_bars, crowded}
use Rattle.state.specs.Refusals.{Bar, number_of, fault_refusal, if, first_of}
use Rattle.state.specs.declared.Refusal.TheVariants as refusal
use Rattle.protocol.specs.Lines.{Priced, Mispriced, ShopKey, TestKey, Good, Earliest, Fills}
use Rattle.protocol.proofs.Pricing.{price-says, wrong-says}

-- ---- a line by its number
pub line-order : (os : List Order) (i : ℕ) → unwrap_or (line_at os i) blank ≡ get_or os i blank
line-order os i = unwrap_or-slice_get os i blank

pub line-lacks : (os : List Order) (i : ℕ) → is_none (line_at os i) ≡ not (ltb i (length os))
line-lacks os i = by-lt i (length os)
    (λ l. rw (slice_get-get_or os i blank l, lt-ltb i (length os) l))
    (λ l. rw (slice_get_past os i l, le-ltb i (length os) l))

-- ---- what is wrong with a line
-- the documents' number, 0 of nothing
abbrev pub fault_number : Result ⊤ Fault → ℕ
fault_number (Ok u) = 0
fault_number (Err f) = number_of (fault_refusal f)

by-fault {ℓ} : {C : Type ℓ} (r : Result ⊤ Fault) → (r ≡ Ok tt → C) → ((f : Fault) → r ≡ Err f → C) → C
by-fault (Ok u) a b = a refl
by-fault (Err f) a b = b f refl

some-number : (f : Fault) → fault_number (Err f) ≢ 0
some-number Blank e = omega arith
some-number TestNumber e = omega arith
some-number WrongPrice e = omega arith
some-number NoWorker e = omega arith

-- the refusal by its number, before any others
pub fault-bars : (r : Result ⊤ Fault) (bars : List Bar) → first_of (fault_bars r ++ bars)
    ≡ first_of (if (eqb (fault_number r) 7) refusal.Blank
    ∷ if (eqb (fault_number r) 24) refusal.TestNumber
    ∷ if (eqb (fault_number r) 14) refusal.WrongPrice
    ∷ if (eqb (fault_number r) 6) refusal.NoWorker
    ∷ bars)
fault-bars (Ok u) bars = refl
fault-bars (Err Blank) bars = refl
fault-bars (Err TestNumber) bars = refl
fault-bars (Err WrongPrice) bars = refl
fault-bars (Err NoWorker) bars = refl

-- ---- one line
-- its price decides, or its worker, for m workers
abbrev PriceDecides : Order → Type 0
PriceDecides o = (o.key ≢ 0) × ShopKey o.key × Mispriced o.price

abbrev WorkerDecides : ℕ → Order → Type 0
WorkerDecides m o = (o.key ≢ 0) × ShopKey o.key × Priced o.price × (m ≤ o.worker)

by-line : (C : ℕ → Type 0) (m : ℕ) (o : Order) → (o.key ≡ 0 → C 7) → (TestKey o.key → C 24)
    → (o.key ≢ 0 → ShopKey o.key → Mispriced o.price → C 14)
    → (o.key ≢ 0 → ShopKey o.key → Priced o.price → m ≤ o.worker → C 6) → (Good m o → C 0) → C (fault_number (line_fault m o))
unfolding line_fault
by-line C m o f t g h k = tested (λ (r : Result ⊤ Fault). C (fault_number r)) (eqb o.key 0)
    (λ e. f (eqb-true o.key 0 e))
    (λ e. let nz = eqb-false o.key 0 e in
    tested (λ (r : Result ⊤ Fault). C (fault_number r)) (is_test o.key)
    (λ l. t (leb-true 4000000000 o.key l))
    (λ l. let shop = leb-false 4000000000 o.key l in
    tested (λ (r : Result ⊤ Fault). C (fault_number r)) (price_ok o.price)
    (λ p. let ok = (price-says o.price).0 p in
    tested (λ (r : Result ⊤ Fault). C (fault_number r)) (leb m o.worker)
    (λ l. h nz shop ok (leb-true m o.worker l))
    (λ l. k (record { key = nz; shop = shop; price = ok; worker = leb-false m o.worker l })))
    (λ p. g nz shop ((wrong-says o.price).0 (rw p)))))

-- a price that a label can have is not one that none can have
pub apart : (c : ℕ) → Mispriced c → Priced c → ⊥
apart c p (low, high) = ⊎_elim (λ (z : c ≡ 0). omega arith) (λ (l : 9999999 < c). omega arith) p

module _ (m : ℕ) (o : Order) where
  good-says : fault_number (line_fault m o) ≡ 0 ↔ Good m o
  good-says = by-line (λ n. n ≡ 0 ↔ Good m o) m o
      (λ z. (λ e. absurd (omega arith), λ h. absurd (h.key z)))
      (λ t. (λ e. absurd (omega arith), λ h. absurd (omega (arith, h.shop))))
      (λ nz s p. (λ e. absurd (omega arith), λ h. absurd (apart o.price p h.price)))
      (λ nz s p l. (λ e. absurd (omega arith), λ h. absurd (omega (arith, h.worker))))
      (λ h. (λ _. h, λ _. refl))

  blank-says : fault_number (line_fault m o) ≡ 7 ↔ (o.key ≡ 0)
  blank-says = by-line (λ n. n ≡ 7 ↔ (o.key ≡ 0)) m o
      (λ z. (λ _. z, λ _. refl))
      (λ t. (λ e. absurd (omega arith), λ z. absurd (omega arith)))
      (λ nz s p. (λ e. absurd (omega arith), λ z. absurd (nz z)))
      (λ nz s p l. (λ e. absurd (omega arith), λ z. absurd (nz z)))
      (λ h. (λ e. absurd (omega arith), λ z. absurd (h.key z)))

  test-says : fault_number (line_fault m o) ≡ 24 ↔ TestKey o.key
  test-says = by-line (λ n. n ≡ 24 ↔ TestKey o.key) m o
      (λ z. (λ e. absurd (omega arith), λ t. absurd (omega arith)))
      (λ t. (λ _. t, λ _. refl))
      (λ nz s p. (λ e. absurd (omega arith), λ t. absurd (omega arith)))
      (λ nz s p l. (λ e. absurd (omega arith), λ t. absurd (omega arith)))
      (λ h. (λ e. absurd (omega arith), λ t. absurd (omega (arith, h.shop))))

  price-wrong : fault_number (line_fault m o) ≡ 14 ↔ PriceDecides o
  price-wrong = by-line (λ n. n ≡ 14 ↔ PriceDecides o) m o
      (λ z. (λ e. absurd (omega arith), λ (nz, _, _). absurd (nz z)))
      (λ t. (λ e. absurd (omega arith), λ (_, s, _). absurd (omega arith)))
      (λ nz s p. (λ _. (nz, s, p), λ _. refl))
      (λ nz s p l. (λ e. absurd (omega arith), λ (_, _, q). absurd (apart o.price q p)))
      (λ h. (λ e. absurd (omega arith), λ (_, _, q). absurd (apart o.price q h.price)))

  no_worker : fault_number (line_fault m o) ≡ 6 ↔ WorkerDecides m o
  no_worker = by-line (λ n. n ≡ 6 ↔ WorkerDecides m o) m o
      (λ z. (λ e. absurd (omega arith), λ (nz, _, _, _). absurd (nz z)))
      (λ t. (λ e. absurd (omega arith), λ (_, s, _, _). absurd (omega arith)))
      (λ nz s p. (λ e. absurd (omega arith), λ (_, _, q, _). absurd (apart o.price p q)))
      (λ nz s p l. (λ _. (nz, s, p, l), λ _. refl))
      (λ h. (λ e. absurd (omega arith), λ (_, _, _, l). absurd (omega (arith, h.worker))))

-- ---- the lines
-- a line that decides, behind good ones
module _ (m n : ℕ) (nz : n ≢ 0) where
  abbrev First : List Order → Type 0
  First os = Earliest m os (λ (o : Order). fault_number (line_fault m o) ≡ n)

  -- of a list whose first line is good, the others decide
  module _ (o : Order) (os : List Order) (good : Good m o) where
    behind : First os → First (o ∷ os)
    behind h = record { line = suc h.line; inside = omega (arith, h.inside); before = before; decides = h.decides }
      where
        before : (j : ℕ) → j < suc h.line → Good m (get_or (o ∷ os) j blank)
        before zero l = good
        before (suc j) l = h.before j (omega arith)

    ahead : (l : ℕ) → l < suc (length os) → ((j : ℕ) → j < l → Good m (get_or (o ∷ os) j blank)) → fault_number (line_fault m (get_or (o ∷ os) l blank)) ≡ n → First os
    ahead zero i before e = absurd (nz (sym e ∙ (good-says m o).1 good))
    ahead (suc l) i before e = record { line = l; inside = omega arith; before = λ j g. before (suc j) (omega arith); decides = e }

  -- of any other the first line decides
  alone : (o : Order) (os : List Order) → (Good m o → ⊥) → (l : ℕ) → ((j : ℕ) → j < l → Good m (get_or (o ∷ os) j blank))
      → fault_number (line_fault m (get_or (o ∷ os) l blank)) ≡ n → fault_number (line_fault m o) ≡ n
  alone o os bad zero before e = e
  alone o os bad (suc l) before e = absurd (bad (before 0 (omega arith)))

  first_says : (os : List Order) → fault_number (lines_fault m os) ≡ n ↔ First os
  unfolding lines_fault
  first_says [] = (λ e. absurd (nz (sym e)), λ h. absurd (omega (arith, h.inside)))
  first_says (o ∷ os) = by-fault (line_fault m o)
      (λ z. let good = (good-says m o).0 (ap fault_number z) in
      let r = first_says os in
      rw z (λ e. behind o os good (r.0 e), λ h. r.1 (ahead o os good h.line h.inside h.before h.decides)))
      (λ f z.
      let number : fault_number (line_fault m o) ≡ fault_number (Err f) = ap fault_number z in
      rw z (
        λ e. record { line = 0; inside = omega arith; before = λ j l. absurd (omega arith); decides = number ∙ e },
        λ h. sym number ∙ alone o os (λ g. some-number f (sym number ∙ (good-says m o).1 g)) h.line h.before h.decides,
      ))

-- the same by what the number means
module _ (m : ℕ) (os : List Order) where
  first-is : (n : ℕ) → n ≢ 0 → (C : Order → Type 0) → ((o : Order) → fault_number (line_fault m o) ≡ n ↔ C o) → eqb (fault_number (lines_fault m os)) n ≡ true ↔ Earliest m os C
  first-is n nz C says =
      let r = first_says m n nz os in
      let t = equal-says (fault_number (lines_fault m os)) n in (
        λ e. let h = r.0 (t.0 e) in record { line = h.line; inside = h.inside; before = h.before; decides = (says _).0 h.decides },
        λ h. t.1 (r.1 (record { line = h.line; inside = h.inside; before = h.before; decides = (says _).1 h.decides })),
      )

  pub blank_first : eqb (fault_number (lines_fault m os)) 7 ≡ true ↔ Earliest m os (λ (o : Order). o.key ≡ 0)
  blank_first = first-is 7 (λ e. omega arith) (λ (o : Order). o.key ≡ 0) (blank-says m)

  pub test_first : eqb (fault_number (lines_fault m os)) 24 ≡ true ↔ Earliest m os (λ (o : Order). TestKey o.key)
  test_first = first-is 24 (λ e. omega arith) (λ (o : Order). TestKey o.key) (test-says m)

  pub price-first : eqb (fault_number (lines_fault m os)) 14 ≡ true ↔ Earliest m os PriceDecides
  price-first = first-is 14 (λ e. omega arith) PriceDecides (price-wrong m)

  pub worker-first : eqb (fault_number (lines_fault m os)) 6 ≡ true ↔ Earliest m os (WorkerDecides m)
  worker-first = first-is 6 (λ e. omega arith) (WorkerDecides m) (no_worker m)

-- lines among which none decides are all good
pub all-good : (m : ℕ) (os : List Order) → (Earliest m os (λ (o : Order). o.key ≡ 0) → ⊥)
    → (Earliest m os (λ (o : Order). TestKey o.key) → ⊥) → (Earliest m os PriceDecides → ⊥) → (Earliest m os (WorkerDecides m) → ⊥)
    → (i : ℕ) → i < length os → Good m (get_or os i blank)
all-good m os blank_none test-none price-none worker-none i l = below (suc i) (omega arith) i (omega arith)
  where
    -- of the lines below b, one at a time
    below : (b : ℕ) → b ≤ length os → (j : ℕ) → j < b → Good m (get_or os j blank)
    below zero f j g = absurd (omega arith)
    below (suc b) f j g = by-lt j b (below b (omega arith) j) (λ h.
        let same : j ≡ b = omega arith in
        rw same (next (get_or os b blank) (λ C d. record { line = b; inside = omega arith; before = below b (omega arith); decides = d })))
      where
        next : (o : Order) → ((C : Order → Type 0) → C o → Earliest m os C) → Good m o
        next o at = by-line (λ _. Good m o) m o
            (λ z. absurd (blank_none (at (λ (o : Order). o.key ≡ 0) z)))
            (λ t. absurd (test-none (at (λ (o : Order). TestKey o.key) t)))
            (λ nz s p. absurd (price-none (at PriceDecides (nz, s, p))))
            (λ nz s p l. absurd (worker-none (at (WorkerDecides m) (nz, s, p, l))))
            (λ h. h)

-- ---- the labels of table and list
pub fills-says : (t : List ℕ) (os : List Order) → crowded t os ≡ true ↔ Fills t os
fills-says t os =
    let xs = labels label t ++ ordered_keys os in (
      λ e. record {
        found = descending xs;
        many = leb-true (length t) (size xs) e;
        once = falls-once (suc (top xs)) (descending xs) (descending-falls xs);
        each = λ l i. let (nz, j) = (in-descending xs l).0 i in (nz, (in-append (labels label t) (ordered_keys os) l).0 j);
      },
      λ h. le-leb (length t) (size xs) (omega (
        arith,
        h.many,
        once-size h.found (λ i l. (h.each (get_or h.found i 0) (cell_in h.found i l)).0) h.once,
        subset-size h.found xs (λ y _ i. (in-append (labels label t) (ordered_keys os) y).1 (h.each y i).1),
      )),
    )
