-- The promises of this crate.
use mathlib.Core.Path.{◌≡◌, ◌∙◌, ap}
use mathlib.Core.List.{List}
use Prim.Native.Nat.{ℕ, ◌*◌, ◌≤◌, min}
use native.Mathlib.Omega.{arith}
use borrow.Author.Tests.{ne_eqb}
use lib.ListN.{length, drop, length-take, length-drop}
use lib.Pow.{pow_mono}
use lib.Seq.{take_all}
use Rattle.layout.proofs.Theorem as layout
use Rattle.prices.specs.Contents.{label}
use Rattle.prices.specs.Priced.{labels}
use Rattle.words.specs.Words.{occupied, group}
use Rattle.words.specs.Promise.{keys_before, ListingPromise, StepPromise}
use Rattle.words.proofs.Number.{once-size}
use Rattle.words.proofs.Order.{group-writes, group-skips, writes, skips, length-listed, filled-in-order, filled-behind, length-filled, any_order}
use Rattle.words.proofs.Pass.{in_place, one_pass, whole}
use Rattle.words.proofs.Places.{group-length, group-cell, place_is, count-occupied}
use Rattle.words.proofs.Words.{word_lt, ones-word, word-bit, length-entries, occupied-counts, entry-in-place}

occupied-before : (t : List ℕ) → occupied t ≡ keys_before t (length t)
occupied-before t = let h : length t ≤ length t = omega arith in occupied-counts t ∙ rw (take_all (length t) t h)

pub theorem : ListingPromise
theorem t =
    record {
      cells = group-cell t;
      no_more = λ g. length-take 64 (drop (64 * g) t) ∙ ap (min 64) (length-drop (64 * g) t);
      ones = λ g b key. word-bit (group t g) b ∙ rw (ne_eqb _ 0 key);
      zeros = λ g b e. word-bit (group t g) b ∙ rw e;
      as_many = λ g. (λ l. omega arith, λ l. omega arith);
      words_fit = λ g. omega (arith, word_lt (group t g), pow_mono (group-length t g));
      place = λ g. place_is t g ∙ occupied-counts _;
      count = count-occupied t;
      long = length-entries t;
      keys = occupied-before t;
      number = λ n home hb s. count-occupied t ∙ once-size t (rw s.sized ((layout.theorem n home hb).once (labels label t) s));
      listed = entry-in-place t;
      group_fills = group-writes t;
      group_keeps = group-skips t;
      groups_fill = writes t;
      groups_keep = skips t;
      groups_long = length-listed t;
      any_order = any_order t;
      in_place = in_place t;
      one_pass = one_pass t;
      whole = whole t;
    }

pub steps : StepPromise
steps c o =
    let n = occupied-before c in
    record {
      writes = filled-in-order c o;
      keeps = λ p h. filled-behind c o p (omega arith);
      long = λ h. length-filled c o (omega arith);
      number = n;
      by_word = ones-word c ∙ n;
    }
