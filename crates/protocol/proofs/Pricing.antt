-- What the test of a price says, and the key of an ordered entry.
use mathlib.Core.Path.{◌≡◌, ap, ◌∙◌}
use mathlib.Core.Logic.{◌≢◌, ◌↔◌, ◌⊎◌, inl, inr, ⊎_elim}
use mathlib.Core.Bool.{true, not}
use Prim.Native.Nat.{ℕ, ◌≤◌, ◌<◌}
use native.Mathlib.Omega.{arith}
use lib.Dec.{leb}
use borrow.Author.Tests.{leb-true, le-leb, eq-eqb, ne_eqb, not-true}
use Rattle.ring.proofs.Split.{by-lt, by-eq}
use Rattle.ring.proofs.Tests.{by-test, not_both, both_say}
use Rattle.prices.specs.Contents.{label, content, price_ok}
use Rattle.prices.proofs.Contents.{contents}
use Rattle.protocol.specs.Calls.{entry_for}

-- ---- prices
pub price-says : (c : ℕ) → price_ok c ≡ true ↔ ((1 ≤ c) × (c ≤ 9999999))
price-says c = both_say (leb 1 c) (leb c 9999999) (leb-true 1 c, le-leb 1 c) (leb-true c 9999999, le-leb c 9999999)

pub wrong-says : (c : ℕ) → not (price_ok c) ≡ true ↔ ((c ≡ 0) ⊎ (9999999 < c))
wrong-says c = (
  λ e. by-eq c 0 inl (λ z. by-lt 9999999 c inr (λ l. absurd (not_both (price_ok c) ((price-says c).1 (omega arith, l)) (not-true (price_ok c) e)))),
  λ h. by-test (price_ok c) (λ e. let (a, b) = (price-says c).0 e in absurd (⊎_elim (λ z. omega arith) (λ l. omega arith) h)) (λ f. rw f),
)

-- ---- an ordered entry: key v, in an insert phase with the price
module _ (k v c : ℕ) where
  pub entry-priced : k ≡ 1 → entry_for k v c ≡ content v c
  entry-priced is = rw (eq-eqb k 1 is)

  pub entry-bare : k ≢ 1 → entry_for k v c ≡ content v 0
  entry-bare ne = rw (ne_eqb k 1 ne)

  -- with a price that a label can have it is an entry of that key
  pub entry_key : (k ≡ 1 → (1 ≤ c) × (c ≤ 9999999)) → label (entry_for k v c) ≡ v
  entry_key ok = by-eq k 1
      (λ is. let (_, most) = ok is in ap label (entry-priced is) ∙ (contents.made v c (omega arith)).0)
      (λ ne. ap label (entry-bare ne) ∙ (contents.made v 0 (omega arith)).0)
