-- The examples, computed; the last by the promise.
use mathlib.Core.Path.{◌≡◌, refl, ap, subst}
use mathlib.Core.Logic.{◌≢◌, inl, inr}
use mathlib.Core.List.{List, [], ◌∷◌}
use Prim.Native.Nat.{ℕ, ◌≤◌, ◌<◌}
use native.Mathlib.Omega.{arith}
use lib.Dec.{T}
use Rattle.ring.specs.Counting.{count}
use Rattle.ring.specs.Each.{first}
use Rattle.ring.specs.Ring.{wrap, probe, dist}
use Rattle.layout.specs.Home.{modulo}
use Rattle.layout.specs.Layout.{In, into, descending, size, listed, place, place_all, layout}
use Rattle.prices.specs.Contents.{label, price, content, price_ok, SoundTable}
use Rattle.prices.specs.Priced.{labels, lesser, least, priced_layout, without_labels}
use Rattle.prices.proofs.Contents.{contents}
use Rattle.reach.specs.Examples.{five, Examples}
use Rattle.reach.specs.Reach.{vacant, InReach}
use Rattle.reach.proofs.Theorem.{table}

inside : (x : ℕ) → modulo 5 x < 5
inside x = omega arith

few : size (labels label five) < 5
unfolding descending into
few = omega arith

own : priced_layout 5 label (modulo 5) five ≡ five
unfolding count first probe wrap descending into layout place_all place lesser least
own = refl

right : (x : ℕ) → In x five → label x ≢ 0 → T (price_ok (price x))
right x (inl e) nz = rw e tt
right x (inr (inl e)) nz = absurd (nz (ap label e))
right x (inr (inr (inl e))) nz = absurd (nz (ap label e))
right x (inr (inr (inr (inl e)))) nz = rw e tt
right x (inr (inr (inr (inr (inl e))))) nz = rw e tt
right x (inr (inr (inr (inr (inr h))))) nz = elim h [ ]

sound : SoundTable 5 (modulo 5) five
sound = subst (λ (t : List ℕ). SoundTable 5 (modulo 5) t) own (contents.laid 5 (modulo 5) inside five few right)

two : 2 ≤ vacant five
unfolding count
two = omega arith

lacks : In 8 (labels label five) → ⊥
lacks (inl e) = omega arith
lacks (inr (inl e)) = omega arith
lacks (inr (inr (inl e))) = omega arith
lacks (inr (inr (inr (inl e)))) = omega arith
lacks (inr (inr (inr (inr (inl e))))) = omega arith
lacks (inr (inr (inr (inr (inr h))))) = elim h [ ]

pub examples : Examples
unfolding count first dist probe wrap descending into layout place_all place lesser least listed without_labels
examples =
    record {
      across = refl;
      back = refl;
      home_reached = omega arith;
      last_reached = omega arith;
      past_the_end = omega arith;
      end_reached = omega arith;
      not_reached = λ b. omega arith;
      at_home = refl;
      home_alone = λ b. omega arith;
      greatest = refl;
      smallest = refl;
      one_home = refl;
      sound = sound;
      promised = (table 5 (modulo 5) inside five sound two 8 9 (λ e. omega arith) lacks tt).1;
    }
