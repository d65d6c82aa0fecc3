-- The number of a field, from the digits with which it begins.
use Rattle.std.proofs.Common.{◌≡◌, ◌⊎◌, ◌≤◌, ℕ, List, length, get_or, ap, sym, ◌∙◌, ⊎_elim, arith}
use Rattle.std.specs.Prelude.{Option, Some, None}
use Rattle.text.specs.declared.Run.{Run}
use Rattle.text.specs.declared.Scanned.{Scanned}
use Rattle.text.specs.Numbers.{ending_at, scanned_at, run_at}
use Rattle.text.proofs.Runs.{run-other, run-last, run-tab}

module _ (l : List ℕ) (from : ℕ) {r : Run} (p : r ≡ run_at l from) where
  -- where they write no number, it is none, whatever stands behind them
  pub unread : {o : Option Scanned} → o ≡ None → r.number ≡ None → o ≡ scanned_at l from
  unread q e = grind (arith, run-tab l from p, run-last l from p, run-other l from p, e, q)

  -- where they do, and the field ends there, it is this number
  pub read : (n : ℕ) → r.number ≡ Some n → (length l ≤ r.end) ⊎ (get_or l r.end 0 ≡ 9) → Some (record { number = n; end = r.end }) ≡ scanned_at l from
  read n e h = ap (ending_at r.end) (sym e) ∙ ⊎_elim (λ (k : length l ≤ r.end). run-last l from p k) (λ (k : get_or l r.end 0 ≡ 9). run-tab l from p k) h

pub ruleset field_rules = (run-other)
