-- A phase (document 01: shift) as a list of events: workers that share a table, each given operations and moved one step at a time by the rule.
use Rattle.std.specs.Prelude.{◌≡◌, Bool, true, false, cond, List, [], ◌∷◌, ◌++◌, ℕ, ◌+◌, ltb, eqb, length, get_or, set, replicate, Option, Some, None}
use Rattle.activities.specs.Activities.{busy, entry_of}
use Rattle.activities.specs.declared.Activity.{Activity}
use Rattle.activities.specs.declared.Activity.TheVariants.{Idle}
use Rattle.rule.specs.declared.Answer.{Answer}
use Rattle.rule.specs.declared.Answer.TheVariants.{WentOn, Finished, Price, No}
use Rattle.rule.specs.declared.Answer.TheVariants as answer
use Rattle.rule.specs.Rule.{touched, rule, start}

-- ---- the state between two events
-- a find's answer: the content ordered, whose label counts, and the price if one was found
pub record Said : Type 0 where
  pub wanted : ℕ
  pub found : Bool
  pub price : ℕ

pub record Run : Type 0 where
  pub table : List ℕ
  pub workers : List Activity
  -- the contents of the accepted operations, the last one first
  pub ordered : List ℕ
  -- the finds' answers, the last one first
  pub said : List Said
  -- the steps taken by workers with unfinished operations
  pub counted : ℕ

pub data Event : Type 0 where
  order : (w v : ℕ) → Event
  step : (w : ℕ) → Event

abbrev pub worker : Run → ℕ → Activity
worker s w = get_or s.workers w Idle

abbrev pub AllIdle : Run → Type 0
AllIdle s = (w : ℕ) → worker s w ≡ Idle

abbrev pub tells : ℕ → Answer → List Said
tells v WentOn = []
tells v Finished = []
tells v (Price p) = record { wanted = v; found = true; price = p } ∷ []
tells v No = record { wanted = v; found = false; price = 0 } ∷ []
tells v answer.Idle = []

-- ---- events in a phase of kind k with n cells
module _ (k n : ℕ) (key home : ℕ → ℕ) where
  -- worker w, whose activity is a, steps at a place
  abbrev pub stepped_at : Run → ℕ → Activity → Option ℕ → Run
  stepped_at s w a None = s
  stepped_at s w a (Some c) =
      let o = rule k n key home a (get_or s.table c 0) in
      record {
        table = set s.table c o.content;
        workers = set s.workers w o.activity;
        ordered = s.ordered;
        said = tells (entry_of a) o.answer ++ s.said;
        counted = busy a + s.counted;
      }

  unfoldable pub stepped : Run → ℕ → Run
  stepped s w = stepped_at s w (worker s w) (touched (worker s w))

  unfoldable pub ordered : Run → ℕ → ℕ → Run
  ordered s w v = record {
    table = s.table;
    workers = set s.workers w (start key home v);
    ordered = v ∷ s.ordered;
    said = s.said;
    counted = s.counted;
  }

  -- an operation is accepted by an idle worker, for a label
  unfoldable pub accepts : Activity → ℕ → Bool
  accepts a v = cond (eqb (busy a) 0) (ltb 0 (key v)) false

  -- an event for a worker that is not there, and an operation that is not accepted, change nothing
  unfoldable pub event : Event → Run → Run
  event (order w v) s = cond (ltb w (length s.workers)) (cond (accepts (worker s w) v) (ordered s w v) s) s
  event (step w) s = cond (ltb w (length s.workers)) (stepped s w) s

  -- a list of events, the first one first
  unfoldable pub run : List Event → Run → Run
  run [] s = s
  run (e ∷ es) s = run es (event e s)

-- ---- openings
-- W idle workers at a table
abbrev pub opened : ℕ → List ℕ → Run
opened W t = record { table = t; workers = replicate W Idle; ordered = []; said = []; counted = 0 }

-- what a list of events leaves, from the opening on
abbrev pub after : ℕ → ℕ → ℕ → (ℕ → ℕ) → (ℕ → ℕ) → List ℕ → List Event → Run
after k n W key home t es = run k n key home es (opened W t)
