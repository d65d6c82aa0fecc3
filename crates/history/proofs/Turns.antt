-- Two turns alike in kind, length, record and touched cell. The touched cell is in the table, since the phase is well formed.
use Rattle.std.specs.Prelude.{Option, ℕ, Some, None, Ok}
use mathlib.Core.Path.{◌≡◌, refl, sym, ap, ◌∙◌}
use Prim.Native.Nat.{ℕ}
use native.Mathlib.Omega.{arith}
use lib.ListN.{get_or, length-set}
use lib.Seq.{get_or-set_same, get_or-set_other}
use Rattle.prices.specs.Contents.{label}
use Rattle.activities.specs.Activities.{idle}
use Rattle.rule.specs.Rule.{touched, rule}
use Rattle.rule.specs.declared.Outcome.{Outcome}
use Rattle.activities.specs.declared.Worker.{Worker}
use Rattle.protocol.specs.Bars.{doing}
use Rattle.protocol.specs.Calls.{turn_table}
use Rattle.protocol.proofs.Frames.{present, moved}
use Rattle.protocol.proofs.Theorem.{turn-passed, inside}
use Rattle.history.specs.Promise.{Alike, TwoTurnsPromise}

pub alike : TwoTurnsPromise
alike M p q t u w z a b kind hash sized same held = by (touched (doing p w)) refl (ap touched (sym same))
  where
    -- the rule gives both turns one outcome
    outcome : (c : ℕ) → touched (doing p w) ≡ Some c
        → rule p.kind p.length label (M.home p.hash p.length) (doing p w) (get_or t c 0)
        ≡ rule q.kind q.length label (M.home q.hash q.length) (doing q z) (get_or u c 0)
    outcome c is =
        let l : p.length ≡ q.length = omega (arith, (turn-passed M p t w a).2, (turn-passed M q u z b).2) in
        let e : get_or t c 0 ≡ get_or u c 0 = held c is in
        rw (kind, hash, l, same, e)

    cell : (c : ℕ) → touched (doing p w) ≡ Some c → get_or (turn_table M p t w) c 0 ≡ get_or (turn_table M q u z) c 0
    cell c is = rw (a, b, ← same, is) (
        get_or-set_same t c _ 0 (inside M p t w c a is)
        ∙ ap (λ (r : Outcome). r.content) (outcome c is)
        ∙ sym (get_or-set_same u c _ 0 (inside M q u z c b (ap touched (sym same) ∙ is)))
        )

    by : (x : Option ℕ) → touched (doing p w) ≡ x → touched (doing q z) ≡ touched (doing p w) → Alike M p q t u w z
    by None is is' =
        record {
          replies = rw (a, b, is', is);
          records = rw (a, b, is', is) same;
          cells = cell;
          other_cells = λ c ne. rw (a, is);
          other_workers = λ v ne. rw (a, is);
          sized = rw (a, is);
        }
    by (Some d) is is' =
        record {
          replies = rw (a, b, is', is) (ap (λ (r : Outcome). Ok r.answer) (outcome d is));
          records = rw (a, b, is', is)
              (moved p w _ (present p w d is) ∙ ap (λ (r : Outcome). r.activity) (outcome d is) ∙ sym (moved q z _ (present q z d (is' ∙ is))));
          cells = cell;
          other_cells = λ c ne. rw (a, is) (get_or-set_other t d c _ 0 (λ e. ne (is ∙ ap Some (sym e))));
          other_workers = λ v ne. rw (a, is) (ap (λ (x : Worker). x.activity) (get_or-set_other p.workers w v _ idle ne));
          sized = rw (a, is) (length-set t d _);
        }
