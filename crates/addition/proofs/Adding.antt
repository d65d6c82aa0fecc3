-- A closed phase that put in one new key, and one that took it out again: by what is promised of lists of calls and of one entry more.
use Rattle.std.specs.Prelude.{Ok}
use mathlib.Core.Path.{◌≡◌, refl, sym, ap, ◌∙◌, subst}
use mathlib.Core.Logic.{◌≢◌, ◌↔◌, inl, inr, ⊎_elim}
use mathlib.Core.Bool.{true}
use mathlib.Core.List.{List, [], ◌∷◌, ◌++◌}
use Prim.Native.Nat.{ℕ, ◌≤◌, ◌<◌}
use native.Mathlib.Omega.{arith}
use lib.ListN.{length}
use Rattle.layout.specs.Layout.{In, size}
use Rattle.layout.proofs.Sets.{in-append, subset-size}
use Rattle.homes.specs.declared.Hash.{Hash}
use Rattle.prices.specs.Contents.{label}
use Rattle.prices.specs.Priced.{labels, Least, SameLeast, least, PricedSound, priced_layout, without_labels}
use Rattle.prices.proofs.Contents.{contents}
use Rattle.prices.proofs.Labels.{labels_in}
use Rattle.prices.proofs.Least.{least-is, cover-least, itself, without-labels-same}
use Rattle.prices.proofs.Theorem.{theorem as layouts}
use Rattle.reach.specs.Promise.{Reaches, OneMore, New}
use Rattle.reach.specs.Reach.{vacant}
use Rattle.reach.proofs.Theorem.{rooms, reach}
use Rattle.orders.specs.Orders.{ordered_keys}
use Rattle.orders.specs.declared.Order.{Order}
use Rattle.state.specs.Model.{Model, Proper}
use Rattle.state.specs.Open.{open_reply}
use Rattle.protocol.specs.WellFormed.{Crew}
use Rattle.protocol.proofs.Theorem.{open-passed, passed-opens}
use Rattle.history.specs.History.{Call, after}
use Rattle.history.specs.Promise.{Claim}
use Rattle.history.proofs.Claim.{key_in}
use Rattle.history.proofs.Opening.{homes}
use Rattle.history.proofs.Theorem.{history}
use Rattle.addition.specs.Promise.{Alone, AdditionPromise}

module _ (M : Model) (proper : Proper M) (m : ℕ) (ab : Hash) (t : List ℕ) (os : List Order) (ok : open_reply M 1 m ab t os ≡ Ok tt)
    (l : ℕ) (lacks : In l (labels label t) → ⊥) (cs : List Call) (shut : (after M 1 m ab t os cs).closed ≡ true) (alone : Alone l (after M 1 m ab t os cs).ordered) where
  abbrev n : ℕ
  n = length t

  abbrev home : ℕ → ℕ
  home = M.home ab n

  abbrev ordered : List ℕ
  ordered = (after M 1 m ab t os cs).ordered

  abbrev u : List ℕ
  u = (after M 1 m ab t os cs).table

  claim : Claim M 1 m ab t os cs
  claim = history M proper 1 m ab t os ok cs

  inside : (x : ℕ) → home x < n
  inside = homes M proper 1 m ab t os ok

  -- ---- the entry at the least price
  some : l ≢ 0
  some z = let o = labels_in label ordered l alone.some in (claim.acceptable o.content o.member).key (o.is ∙ z)

  abbrev entry : ℕ
  entry = least label ordered l

  cheapest : Least label ordered entry
  cheapest = (least-is label refl ordered l some alone.some).0

  is : label entry ≡ l
  is = (least-is label refl ordered l some alone.some).1

  -- it stands for all that were ordered
  same : SameLeast label (entry ∷ t) (ordered ++ t)
  same = cover-least label (entry ∷ t) (ordered ++ t)
      (λ v _ i. (in-append ordered t v).1 (⊎_elim (λ (e : v ≡ entry). inl (rw e cheapest.member)) inr i))
      (λ v _ i. ⊎_elim
      (λ j. record { content = entry; same = is ∙ sym (alone.only v j); less = cheapest.most v j (alone.only v j ∙ sym is); there = inl refl })
      (λ j. itself label (λ w. In w (entry ∷ t)) v (inr j))
      ((in-append ordered t v).0 i))

  laid : u ≡ priced_layout n label home (entry ∷ t)
  laid = claim.closed shut ∙ sym ((layouts n label home refl inside).set_only (entry ∷ t) (ordered ++ t) same)

  -- ---- how far it reaches
  sound : PricedSound n label home t
  sound = contents.priced n home t ((open-passed M 1 m ab t os ok).sound proper)

  new : New label t entry
  new = record { some = λ z. some (sym is ∙ z); lacks = λ i. lacks (rw is at i) }

  few : size (labels label (entry ∷ t)) < n
  few =
      let line = claim.listed refl entry cheapest.member in
      omega (
        arith,
        ((open-passed M 1 m ab t os ok).list refl).room,
        subset-size (labels label (entry ∷ t)) (labels label t ++ ordered_keys os)
            (λ y _ i. (in-append (labels label t) (ordered_keys os) y).1 (⊎_elim (λ (e : y ≡ label entry). inr (rw (e ∙ line.is) (key_in os line.line line.inside))) inl i)),
      )

  two : 2 ≤ vacant t
  two = ((rooms n label home refl inside t sound).more entry new).1 few

  more : OneMore n label home t entry
  more = reach n label home refl inside t sound two entry new

  reaches : Reaches n label home t entry u
  reaches = subst (λ (x : List ℕ). Reaches n label home t entry x) (sym laid) (subst (λ (x : List ℕ). Reaches n label home x entry (priced_layout n label home (entry ∷ t))) more.own more.reaches)

  -- ---- taken out again
  long : length u ≡ n
  long = claim.numbers.sized

  opens : (m' : ℕ) → Crew M m' → (os' : List Order) → open_reply M 2 m' ab u os' ≡ Ok tt
  opens m' crew os' =
      let p = open-passed M 1 m ab t os ok in
      passed-opens M 2 m' ab u os' proper
      (record {
        size = (omega (arith, p.size.0, long), omega (arith, p.size.1, long));
        crew = crew;
        kind = (omega arith, omega arith);
        odd = p.odd;
        sound = λ _. claim.sound shut;
        list = λ e. absurd (omega arith);
      })

  restored : (m' : ℕ) (os' : List Order) → open_reply M 2 m' ab u os' ≡ Ok tt → (cs' : List Call) → (after M 2 m' ab u os' cs').closed ≡ true
      → Alone l (after M 2 m' ab u os' cs').ordered → (after M 2 m' ab u os' cs').table ≡ t
  restored m' os' ok' cs' shut' alone' =
      let out : List ℕ = (after M 2 m' ab u os' cs').ordered in
      (history M proper 2 m' ab u os' ok' cs').closed shut'
      ∙ ap (λ (k : ℕ). priced_layout k label (M.home ab k) (without_labels label out u)) long
      ∙ (layouts n label home refl inside).set_only (without_labels label out u) (without_labels label (entry ∷ []) u)
      (without-labels-same label out (entry ∷ []) u (λ v _. (
        λ i. let o = labels_in label out v i in inl (sym o.is ∙ alone'.only o.content o.member ∙ sym is),
        ⊎_elim (λ (e : v ≡ label entry). rw (e ∙ is) alone'.some) (λ i. absurd i),
      )))
      ∙ ap (λ (x : List ℕ). priced_layout n label home (without_labels label (entry ∷ []) x)) laid
      ∙ more.restored

pub addition : AdditionPromise
addition M proper m ab t os ok l lacks cs shut alone =
    record {
      entry = entry M proper m ab t os ok l lacks cs shut alone;
      is = is M proper m ab t os ok l lacks cs shut alone;
      cheapest = cheapest M proper m ab t os ok l lacks cs shut alone;
      laid = laid M proper m ab t os ok l lacks cs shut alone;
      two = two M proper m ab t os ok l lacks cs shut alone;
      reaches = reaches M proper m ab t os ok l lacks cs shut alone;
      opens = opens M proper m ab t os ok l lacks cs shut alone;
      restored = restored M proper m ab t os ok l lacks cs shut alone;
    }
