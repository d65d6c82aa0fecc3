-- A block, buffer by buffer.
use mathlib.Core.Path.{◌≡◌, sym, ap, ◌∙◌}
use mathlib.Core.Bool.{true, false}
use mathlib.Core.List.{List}
use Prim.Native.Nat.{ℕ, ◌+◌, ◌≤◌}
use native.Mathlib.Omega.{arith}
use lib.ListN.{length, take, drop, take-append-drop}
use lib.Seq.{take_all}
use Rattle.std.specs.Prelude.{Ok, Err, ⊤}
use Rattle.orders.specs.declared.Order.{Order}
use Rattle.feed.specs.Feed.{Kept, fed}
use Rattle.feed.proofs.Parts.{fed-append, ended-fed}
use Rattle.blocks.specs.declared.Carried.{Carried}
use Rattle.blocks.specs.declared.Filled.{Filled}
use Rattle.blocks.specs.Kept.{kept_of, Fills}
use Rattle.blocks.proofs.Filling.{rest, rest-is, Behind, rest-long, fed-on}
use Rattle.replay.specs.Read.{Passes}

module _ {k₀ : Kept} {block line cells : List ℕ} {items : List Order} {c : Carried} {from : ℕ} (b : Behind k₀ block line cells items c from) where
  abbrev k : Kept
  k = kept_of c line cells items

  -- ---- a buffer more
  module _ {line' cells' : List ℕ} {items' : List Order} {out' : List ℕ} {r : Filled} (f : Fills k (rest block from) line' cells' items' out' r) where
    kept_on : kept_of r.carried line' cells' items' ≡ fed k₀ (take (from + r.next) block)
    kept_on = f.kept ∙ ap (λ (p : List ℕ). fed k (take r.next p)) (rest-is block from) ∙ fed-on b r.next

    pub filled_within : from + r.next ≤ length block
    filled_within = omega (arith, f.within, rest-long b, b.within)

    few_on : r.carried.number ≤ k₀.number + length block
    few_on = omega (arith, f.few, b.few, filled_within)

    pub filled_on : length line' ≡ length line → r.carried.ended ≡ false → Behind k₀ block line' cells' items' r.carried (from + r.next)
    filled_on l goes =
        record {
          kept = kept_on;
          held = f.held;
          goes = goes;
          line_long = omega (arith, b.line_long);
          few = omega (arith, f.few, b.few);
          countable = b.countable;
          within = filled_within;
        }

    -- the replay ends in it
    pub passes-ended : {E : Type 0} → r.carried.ended ≡ true → Passes {U = ⊤} {E = E} k₀ block line' cells' items' r.carried (Ok tt)
    passes-ended over =
        let n = from + r.next in
        record {
          kept = sym (ended-fed (kept_of r.carried line' cells' items') over (drop n block))
              ∙ ap (λ (x : Kept). fed x (drop n block)) kept_on
              ∙ sym (fed-append k₀ (take n block) (drop n block))
              ∙ ap (fed k₀) (take-append-drop n block);
          held = f.held;
          few = few_on;
        }

    -- what it prints could not be written
    pub passes-failed : {E : Type 0} (e : E) → Passes {U = ⊤} {E = E} k₀ block line' cells' items' r.carried (Err e)
    passes-failed e = record { kept = tt; held = f.held; few = few_on }

  -- the whole block is done
  pub passes : {E : Type 0} → length block ≤ from → Passes {U = ⊤} {E = E} k₀ block line cells items c (Ok tt)
  passes l = record { kept = b.kept ∙ ap (fed k₀) (take_all from block l); held = b.held; few = omega (arith, b.few, b.within) }
