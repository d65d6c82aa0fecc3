use Rattle.std.proofs.Common.{◌≡◌, ℕ, ◌+◌, ◌*◌, ◌%◌, ◌<◌, List, length, get_or}
use Rattle.price_change.proofs.make_list.Given as goal

-- line k of the list
abbrev pub Line : (keys prices workers : List ℕ) (k : ℕ) → Type 0
Line keys prices workers k = (get_or keys k 0 ≡ 1000 + 100 * k) × (get_or prices k 0 ≡ 199 + k) × (get_or workers k 0 ≡ k % 4)

abbrev pub invariant-loop-i : goal.invariant-loop-i
invariant-loop-i l =
    record {
      keys_long : length l.keys ≡ 40;
      prices_long : length l.prices ≡ 40;
      workers_long : length l.workers ≡ 40;
      made : (k : ℕ) → k < l.i → Line l.keys l.prices l.workers k;
    }
