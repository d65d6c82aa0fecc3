-- The entries that a list sends, by its lines.
use mathlib.Core.Path.{◌≡◌, refl, sym, ap, ap₂, ◌∙◌}
use mathlib.Core.Logic.{◌↔◌, inl, inr, ⊎_elim}
use mathlib.Core.List.{List, [], ◌∷◌}
use Prim.Native.Nat.{ℕ, zero, suc, ◌<◌}
use native.Mathlib.Omega.{arith}
use lib.ListN.{length, get_or}
use Rattle.layout.specs.Layout.{In}
use Rattle.prices.specs.Contents.{label, price, content}
use Rattle.prices.specs.Priced.{Least}
use Rattle.prices.proofs.Contents.{contents}
use Rattle.orders.specs.Orders.{blank}
use Rattle.orders.specs.declared.Order.{Order}
use Rattle.protocol.specs.Lines.{Good}
use Rattle.history.specs.Promise.{OfLine}
use Rattle.rounds.specs.Promise.{Cheapest}
use Rattle.rounds.specs.Rounds.{line_entry, sent_entries}

-- y is the entry of a line
pub record OnLine (os : List Order) (y : ℕ) : Type 0 where
  pub line : ℕ
  pub inside : line < length os
  pub is : y ≡ line_entry (get_or os line blank)

pub in-sent : (os : List Order) (y : ℕ) → In y (sent_entries os) ↔ OnLine os y
in-sent [] y = (λ i. absurd i, λ g. let b = g.inside in absurd (omega arith))
in-sent (o ∷ os) y = let r = in-sent os y in (
  ⊎_elim (λ (e : y ≡ line_entry o). record { line = 0; inside = omega arith; is = e })
      (λ i. let g = r.0 i in record { line = suc g.line; inside = omega (arith, g.inside); is = g.is }),
  λ g. back r.1 g.line g.inside g.is,
)
  where
    back : (OnLine os y → In y (sent_entries os)) → (i : ℕ) → i < suc (length os) → y ≡ line_entry (get_or (o ∷ os) i blank) → In y (sent_entries (o ∷ os))
    back h zero b e = inl e
    back h (suc i) b e = inr (h (record { line = i; inside = omega arith; is = e }))

module _ (m : ℕ) (os : List Order) (good : (i : ℕ) → i < length os → Good m (get_or os i blank)) where
  -- a good line's entry has its key and its price
  made : (i : ℕ) → i < length os → (label (line_entry (get_or os i blank)) ≡ (get_or os i blank).key) × (price (line_entry (get_or os i blank)) ≡ (get_or os i blank).price)
  made i l = contents.made (get_or os i blank).key (get_or os i blank).price (omega (arith, (good i l).price.1))

  pub sent-lines : (y : ℕ) → In y (sent_entries os) ↔ OfLine os y
  sent-lines y = (
    λ i. let g = (in-sent os y).0 i in
        let (key, cents) = made g.line g.inside in
        record { line = g.line; inside = g.inside; is = ap label g.is ∙ key; costs = ap price g.is ∙ cents },
    λ g. (in-sent os y).1 (record { line = g.line; inside = g.inside; is = sym (contents.own y) ∙ ap₂ content g.is g.costs }),
  )

  pub least-lines : (y : ℕ) → Least label (sent_entries os) y ↔ Cheapest os y
  least-lines y = (
    λ h. record {
      line = (sent-lines y).0 h.member;
      most = λ i l same.
          let (key, cents) = made i l in
          let x : ℕ = line_entry (get_or os i blank) in
          let less = (contents.cheaper y x (sym (key ∙ same))).0 (h.most x ((in-sent os x).1 (record { line = i; inside = l; is = refl })) (key ∙ same)) in
          rw cents at less;
    },
    λ h. record {
      member = (sent-lines y).1 h.line;
      most = λ x i same.
          let g = (sent-lines x).0 i in
          (contents.cheaper y x (sym same)).1 (rw (← g.costs) at (h.most g.line g.inside (sym g.is ∙ same)));
    },
  )
