-- The first bytes of a line, gathered from where they lie.
use mathlib.Core.Path.{◌≡◌, sym, ap, ◌∙◌}
use mathlib.Core.List.{List, ◌++◌, append_assoc}
use Prim.Native.Nat.{ℕ, ◌+◌, ◌-◌, ◌≤◌, min}
use native.Mathlib.Omega.{arith}
use borrow.Rule.Slice.PartMut.{put_mid, post_of}
use lib.ListN.{length, take, length-append}
use lib.Seq.{take_at, take-append-add, length-take-le}
use Rattle.std.proofs.lemmas.List.{take_min}
use Rattle.lines.specs.Grammar.{reading_of, kept_bytes}
use Rattle.lines.specs.declared.Line.{Line}
use Rattle.lines.proofs.Theorem.{lines-promise}
use Rattle.gathering.specs.Gathers.{Gathers}

-- as many bytes as are kept of a line of which the first stand in front
kept-front : (front bytes : List ℕ) (n : ℕ) → length front ≤ kept_bytes → n ≡ min (length bytes) (kept_bytes - length front)
    → front ++ take n bytes ≡ take kept_bytes (front ++ bytes)
kept-front front bytes n few is =
    let k = kept_bytes - length front in
    let m : n ≡ min k (length bytes) = omega (arith, is) in
    let w : length front + k ≡ kept_bytes = omega arith in
    ap (λ (i : ℕ). front ++ take i bytes) m
    ∙ ap (λ (b : List ℕ). front ++ b) (take_min k bytes)
    ∙ sym (take-append-add front bytes k)
    ∙ ap (λ (i : ℕ). take i (front ++ bytes)) w

-- bytes written behind those gathered before
pub gathers : (bytes line p : List ℕ) (gathered n : ℕ) → gathered ≤ kept_bytes → kept_bytes ≤ length line → n ≡ min (length bytes) (kept_bytes - gathered)
    → p ≡ take n bytes → Gathers (take gathered line ++ bytes) (put_mid gathered (gathered + n - gathered) line p) (gathered + n)
gathers bytes line p gathered n few long is e =
    let front : List ℕ = take gathered line in
    let g : length front ≡ gathered = length-take-le gathered line (omega arith) in
    let l : length (front ++ take n bytes) ≡ gathered + n = omega (arith, length-append front (take n bytes), length-take-le n bytes (omega arith)) in
    record {
      first = rw e (rw (← append_assoc front (take n bytes) (post_of gathered (gathered + n - gathered) line))
          (take_at (front ++ take n bytes) (post_of gathered (gathered + n - gathered) line) (gathered + n) l)
          ∙ kept-front front bytes n (omega arith) (rw g is));
      gathered = omega arith;
    }

-- what a line says is what the bytes kept of it say
pub said : {l line : List ℕ} {n : ℕ} {r : Line} → Gathers l line n → r ≡ reading_of (take n line) → r ≡ reading_of l
said {l} g e = e ∙ ap reading_of g.first ∙ (lines-promise.reading l).front
