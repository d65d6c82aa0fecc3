-- An insert phase for one new key opens if at least two cells are empty, and is refused with 9 if not.
use mathlib.Core.Path.{◌≡◌, refl, sym, ap, ◌∙◌}
use mathlib.Core.Logic.{◌≢◌, ◌↔◌, inl, inr, ⊎_elim}
use mathlib.Core.List.{List, [], ◌∷◌, ◌++◌}
use Prim.Native.Nat.{ℕ, suc, ◌≤◌, ◌<◌}
use native.Mathlib.Omega.{arith}
use lib.ListN.{length, get_or}
use borrow.Author.Tests.{le-leb, leb-true}
use Rattle.ring.proofs.Split.{by-lt}
use Rattle.layout.specs.Layout.{In, size}
use Rattle.layout.proofs.Sets.{in-append, subset-size}
use Rattle.homes.specs.declared.Hash.{Hash}
use Rattle.prices.specs.Contents.{label, content}
use Rattle.prices.specs.Priced.{labels, PricedSound}
use Rattle.prices.proofs.Contents.{contents}
use Rattle.reach.specs.Promise.{New}
use Rattle.reach.specs.Reach.{vacant}
use Rattle.reach.proofs.Theorem.{rooms}
use Rattle.orders.specs.Orders.{blank, ordered_keys}
use Rattle.orders.specs.declared.Order.{Order}
use Rattle.state.specs.Model.{Model, Proper}
use Rattle.state.specs.Open.{open_reply}
use Rattle.state.specs.Refusals.{reply_number}
use Rattle.protocol.specs.Lines.{Fills}
use Rattle.protocol.proofs.Lines.{fills-says}
use Rattle.protocol.proofs.Soundness.{sounds}
use Rattle.protocol.proofs.Theorem.{by-room}
use Rattle.history.proofs.Claim.{key_in}
use Rattle.addition.specs.Promise.{ForOne, OpensPromise}

-- the keys of lines that are all for l
only-key : (l : ℕ) (os : List Order) → ((i : ℕ) → i < length os → (get_or os i blank).key ≡ l) → (y : ℕ) → In y (ordered_keys os) → y ≡ l
only-key l [] keys y i = absurd i
only-key l (o ∷ os) keys y (inl e) = e ∙ keys 0 (omega arith)
only-key l (o ∷ os) keys y (inr i) = only-key l os (λ j b. keys (suc j) (omega arith)) y i

module _ (M : Model) (proper : Proper M) (m : ℕ) (ab : Hash) (t : List ℕ) (os : List Order) (l : ℕ) (f : ForOne M m ab t os l) where
  abbrev n : ℕ
  n = length t

  -- l at some price
  abbrev v : ℕ
  v = content l 1

  is : label v ≡ l
  is = (contents.made l 1 (omega arith)).0

  inside : (x : ℕ) → M.home ab n x < n
  inside x = proper.homes ab n x (omega (arith, f.sound.intact.empty.inside))

  sound : PricedSound n label (M.home ab n) t
  sound = contents.priced n (M.home ab n) t ((sounds.words M ab t).1 f.sound)

  new : New label t v
  new = record { some = λ z. (f.lines 0 f.some).key (f.keys 0 f.some ∙ sym is ∙ z); lacks = λ i. f.lacks (rw is at i) }

  room : (2 ≤ vacant t) ↔ (size (labels label (v ∷ t)) < n)
  room = (rooms n label (M.home ab n) refl inside t sound).more v new

  -- table and list have the labels of the table, and l
  same_size : size (labels label t ++ ordered_keys os) ≡ size (labels label (v ∷ t))
  same_size =
      let both : List ℕ = labels label t ++ ordered_keys os in
      omega (
        arith,
        subset-size both (labels label (v ∷ t)) (λ y _ i. ⊎_elim inr (λ j. inl (only-key l os f.keys y j ∙ sym is)) ((in-append (labels label t) (ordered_keys os) y).0 i)),
        subset-size (labels label (v ∷ t)) both (λ y _ i. (in-append (labels label t) (ordered_keys os) y).1
            (⊎_elim (λ (e : y ≡ label v). inr (rw (e ∙ is ∙ sym (f.keys 0 f.some)) (key_in os 0 f.some))) inl i)),
      )

  fills : Fills t os ↔ (n ≤ size (labels label (v ∷ t)))
  fills =
      let s = fills-says t os in (
        λ h. omega (arith, same_size, leb-true n (size (labels label t ++ ordered_keys os)) (s.1 h)),
        λ b. s.0 (le-leb n (size (labels label t ++ ordered_keys os)) (omega (arith, same_size))),
      )

  decided : (reply_number (open_reply M 1 m ab t os) ≡ 9 ↔ Fills t os) × (reply_number (open_reply M 1 m ab t os) ≡ 0 ↔ (Fills t os → ⊥))
  decided = by-room M 1 m ab t os refl ((((tt, f.size), f.crew), (omega arith, omega arith)), f.odd) ((sounds.kinds M proper ab t).0 f.sound) f.long f.lines

  two : 2 ≤ vacant t → reply_number (open_reply M 1 m ab t os) ≡ 0
  two b = decided.1.1 (λ h. absurd (omega (arith, room.0 b, fills.0 h)))

  fewer : vacant t < 2 → reply_number (open_reply M 1 m ab t os) ≡ 9
  fewer b = decided.0.1 (fills.1 (by-lt (size (labels label (v ∷ t))) n (λ l. absurd (omega (arith, room.1 l))) (λ l. l)))

pub opening : OpensPromise
opening M proper m ab t os l f = record { two = two M proper m ab t os l f; fewer = fewer M proper m ab t os l f }
