-- Every schedule closes as written. Each is computed as a test, and a law turns the passed test into what the schedule says.
use mathlib.Core.Path.{◌≡◌, refl, ap₂}
use mathlib.Core.Bool.{Bool, true, ◌&&◌}
use mathlib.Core.List.{List, [], ◌∷◌, map}
use Prim.Native.Nat.{ℕ, zero, suc}
use lib.Dec.{T, ltb, eqb, eqb→eq}
use lib.ListN.{get_or}
use Rattle.ring.specs.Counting.{bit}
use Rattle.ring.specs.Ring.{wrap, dist, prev}
use Rattle.ring.proofs.Each.{and_left, and_right}
use Rattle.activities.specs.Activities.{busy}
use Rattle.activities.specs.declared.Activity.{Activity}
use Rattle.activities.specs.declared.Activity.TheVariants.{Idle}
use Rattle.activities.proofs.Activities.{rests}
use Rattle.rule.specs.Events.{Said, Run, stepped, ordered, accepts, event, run}
use Rattle.rule.specs.Rule.{settled, absorbed, insert_step, find_step, fits, narrow, delete_step, rule}
use Rattle.rule.specs.Schedules.{Schedule, Closes, round, rounds, steps, same_table, none_busy, ends, closes_as, closes_right}
use Rattle.rule.specs.Schedules.{schedules, AllClose, SchedulesPromise}

-- ---- what a passed test says
pub same-table : (xs ys : List ℕ) → T (same_table xs ys) → xs ≡ ys
unfolding same_table
same-table [] [] p = refl
same-table [] (y ∷ ys) p = absurd p
same-table (x ∷ xs) [] p = absurd p
same-table (x ∷ xs) (y ∷ ys) p =
    ap₂ (λ (a : ℕ) (l : List ℕ). a ∷ l) (eqb→eq x y (and_left (eqb x y) (same_table xs ys) p)) (same-table xs ys (and_right (eqb x y) (same_table xs ys) p))

pub idle_all : (ws : List Activity) → T (none_busy ws) → (w : ℕ) → get_or ws w Idle ≡ Idle
unfolding none_busy
idle_all [] p w = refl
idle_all (a ∷ others) p zero = rests a (eqb→eq (busy a) 0 (and_left (eqb (busy a) 0) (none_busy others) p))
idle_all (a ∷ others) p (suc w) = idle_all others (and_right (eqb (busy a) 0) (none_busy others) p) w

pub closes : (s : Schedule) → T (closes_right s) → Closes s
unfolding closes_right closes_as
closes s p =
    let r : Run = ends s in
    let said : List ℕ = map (λ (a : Said). a.price) r.said in
    let q = and_right (none_busy r.workers) _ p in
    let m = and_right (same_table r.table s.closed) _ q in
    let bits : List ℕ = map (λ (a : Said). bit a.found) r.said in
    let some : List ℕ = map (λ p. bit (ltb 0 p)) s.answers in
    let f = and_right (same_table said s.answers) _ m in
    record {
      rest = idle_all r.workers (and_left (none_busy r.workers) _ p);
      table = same-table r.table s.closed (and_left (same_table r.table s.closed) _ q);
      answers = same-table said s.answers (and_left (same_table said s.answers) _ m);
      found = same-table bits some (and_left (same_table bits some) (eqb r.counted s.counted) f);
      counted = eqb→eq r.counted s.counted (and_right (same_table bits some) (eqb r.counted s.counted) f);
    }

-- ---- the test, computed
unfoldable all_close : List Schedule → Bool
all_close [] = true
all_close (s ∷ others) = closes_right s && all_close others

all_say : (ss : List Schedule) → T (all_close ss) → AllClose ss
unfolding all_close
all_say [] p = tt
all_say (s ∷ others) p = (closes s (and_left (closes_right s) (all_close others) p), all_say others (and_right (closes_right s) (all_close others) p))

computed : T (all_close schedules)
unfolding all_close schedules closes_right closes_as ends none_busy same_table round rounds steps
    run event accepts ordered stepped rule settled absorbed insert_step find_step delete_step fits narrow dist prev wrap
computed = tt

pub all-close : SchedulesPromise
all-close = all_say schedules computed
