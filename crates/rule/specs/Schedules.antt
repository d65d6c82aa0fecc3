-- Small schedules that tell wrong rules from the right one: each ends with all workers idle and a table, a find's answer, or a
-- number of steps that a wrong rule misses.
use Rattle.std.specs.Prelude.{◌≡◌, Bool, true, false, ◌&&◌, List, [], ◌∷◌, ◌++◌, map, ℕ, zero, suc, ltb, eqb}
use Rattle.ring.specs.Counting.{bit}
use Rattle.layout.specs.Home.{modulo}
use Rattle.prices.specs.Contents.{label, content}
use Rattle.activities.specs.Activities.{busy}
use Rattle.activities.specs.declared.Activity.{Activity}
use Rattle.rule.specs.Events.{Said, Run, Event, order, step, AllIdle, after}

pub record Schedule : Type 0 where
  pub kind : ℕ
  pub cells : ℕ
  pub crew : ℕ
  pub table : List ℕ
  pub events : List Event
  -- then so many rounds, in each of which every worker steps once
  pub rounds : ℕ
  -- the table in the end, and the prices that the finds answered, 0 for no, the last one first
  pub closed : List ℕ
  pub answers : List ℕ
  -- the steps of workers with unfinished operations: a step more or fewer is noticed, also where the outcome is right
  pub counted : ℕ

-- one step of each worker below W, put before further events
unfoldable pub round : ℕ → List Event → List Event
round zero es = es
round (suc w) es = round w (step w ∷ es)

unfoldable pub rounds : ℕ → ℕ → List Event
rounds W zero = []
rounds W (suc r) = round W (rounds W r)

-- r steps of worker w, put before further events
unfoldable pub steps : ℕ → ℕ → List Event → List Event
steps zero w es = es
steps (suc r) w es = step w ∷ steps r w es

unfoldable pub ends : Schedule → Run
ends s = after s.kind s.cells s.crew label (modulo s.cells) s.table (s.events ++ rounds s.crew s.rounds)

-- what a schedule says: all workers are idle in the end, and table, answers and the number of steps are as written
pub record Closes (s : Schedule) : Type 0 where
  pub rest : AllIdle (ends s)
  pub table : (ends s).table ≡ s.closed
  pub answers : map (λ (a : Said). a.price) (ends s).said ≡ s.answers
  pub found : map (λ (a : Said). bit a.found) (ends s).said ≡ map (λ p. bit (ltb 0 p)) s.answers
  pub counted : (ends s).counted ≡ s.counted

-- ---- the same as a test that computes
unfoldable pub same_table : List ℕ → List ℕ → Bool
same_table [] [] = true
same_table [] (y ∷ ys) = false
same_table (x ∷ xs) [] = false
same_table (x ∷ xs) (y ∷ ys) = eqb x y && same_table xs ys

unfoldable pub none_busy : List Activity → Bool
none_busy [] = true
none_busy (a ∷ others) = eqb (busy a) 0 && none_busy others

unfoldable pub closes_as : List ℕ → List ℕ → ℕ → Run → Bool
closes_as t ps i r =
    none_busy r.workers
    && (same_table r.table t
    && (same_table (map (λ (a : Said). a.price) r.said) ps
    && (same_table (map (λ (a : Said). bit a.found) r.said) (map (λ p. bit (ltb 0 p)) ps) && eqb r.counted i)))

unfoldable pub closes_right : Schedule → Bool
closes_right s = closes_as s.closed s.answers s.counted (ends s)

-- a label at price 1, and 0 for 0
abbrev pub one : ℕ → ℕ
one zero = 0
one (suc l) = content (suc l) 1

abbrev pub ones : List ℕ → List ℕ
ones ls = map one ls

-- ---- the schedules: document 01's examples, and the smallest that were found to tell wrong rules apart
unfoldable pub schedules : List Schedule
schedules =
    -- several workers insert one key and a greater one with its home
    record {
      kind = 1;
      cells = 4;
      crew = 3;
      table = ones (0 ∷ 0 ∷ 0 ∷ 0 ∷ []);
      events = order 0 (one 1) ∷ order 1 (one 1) ∷ order 2 (one 5) ∷ [];
      rounds = 10;
      closed = ones (0 ∷ 5 ∷ 1 ∷ 0 ∷ []);
      answers = [];
      counted = 11;
    }
    -- document 01: two workers put in 8
    ∷ record {
      kind = 1;
      cells = 5;
      crew = 2;
      table = ones (0 ∷ 0 ∷ 0 ∷ 0 ∷ 0 ∷ []);
      events = order 0 (one 8) ∷ order 1 (one 8) ∷ [];
      rounds = 6;
      closed = ones (0 ∷ 0 ∷ 0 ∷ 8 ∷ 0 ∷ []);
      answers = [];
      counted = 5;
    }
    -- document 01: its sheet
    ∷ record {
      kind = 1;
      cells = 5;
      crew = 2;
      table = ones (0 ∷ 0 ∷ 0 ∷ 0 ∷ 0 ∷ []);
      events = order 0 (one 3) ∷ order 1 (one 8) ∷ step 0 ∷ step 1 ∷ step 0 ∷ step 1 ∷ step 0 ∷ step 1 ∷ step 0 ∷ step 1 ∷ step 0 ∷ step 1 ∷ step 0 ∷ step 1 ∷ step 0 ∷ step 1 ∷ order 0 (one 13) ∷ order 1 (one 4) ∷ [];
      rounds = 13;
      closed = ones (4 ∷ 3 ∷ 0 ∷ 13 ∷ 8 ∷ []);
      answers = [];
      counted = 20;
    }
    -- document 01: 13 ordered out by two workers
    ∷ record {
      kind = 2;
      cells = 5;
      crew = 2;
      table = ones (4 ∷ 3 ∷ 0 ∷ 13 ∷ 8 ∷ []);
      events = order 0 (one 13) ∷ order 1 (one 13) ∷ [];
      rounds = 18;
      closed = ones (3 ∷ 0 ∷ 0 ∷ 8 ∷ 4 ∷ []);
      answers = [];
      counted = 18;
    }
    -- two keys of one run taken out, across the wrap
    ∷ record {
      kind = 2;
      cells = 5;
      crew = 2;
      table = ones (4 ∷ 3 ∷ 0 ∷ 13 ∷ 8 ∷ []);
      events = order 0 (one 13) ∷ order 1 (one 8) ∷ [];
      rounds = 24;
      closed = ones (0 ∷ 0 ∷ 0 ∷ 3 ∷ 4 ∷ []);
      answers = [];
      counted = 27;
    }
    -- a nearer replacement moves in while the other worker seeks
    ∷ record {
      kind = 2;
      cells = 5;
      crew = 2;
      table = ones (5 ∷ 4 ∷ 1 ∷ 0 ∷ 9 ∷ []);
      events = order 0 (one 5) ∷ steps 3 0 (order 1 (one 9) ∷ steps 3 1 (steps 3 0 []));
      rounds = 15;
      closed = ones (0 ∷ 1 ∷ 0 ∷ 0 ∷ 4 ∷ []);
      answers = [];
      counted = 25;
    }
    -- a key taken out whose followers stand in their homes
    ∷ record {
      kind = 2;
      cells = 4;
      crew = 1;
      table = ones (4 ∷ 5 ∷ 1 ∷ 0 ∷ []);
      events = order 0 (one 4) ∷ [];
      rounds = 11;
      closed = ones (0 ∷ 5 ∷ 1 ∷ 0 ∷ []);
      answers = [];
      counted = 8;
    }
    -- the replacement seen on the way forward is gone on the way back
    ∷ record {
      kind = 2;
      cells = 4;
      crew = 2;
      table = ones (0 ∷ 5 ∷ 2 ∷ 1 ∷ []);
      events = order 0 (one 2) ∷ steps 3 0 (order 1 (one 5) ∷ steps 3 1 (steps 3 0 []));
      rounds = 10;
      closed = ones (0 ∷ 1 ∷ 0 ∷ 0 ∷ []);
      answers = [];
      counted = 16;
    }
    -- a worker's own key is its replacement
    ∷ record {
      kind = 2;
      cells = 3;
      crew = 2;
      table = ones (0 ∷ 4 ∷ 1 ∷ []);
      events = order 0 (one 1) ∷ order 1 (one 4) ∷ steps 4 1 (steps 4 0 []);
      rounds = 10;
      closed = ones (0 ∷ 0 ∷ 0 ∷ []);
      answers = [];
      counted = 18;
    }
    -- an index behind a copy of its key
    ∷ record {
      kind = 2;
      cells = 3;
      crew = 2;
      table = ones (6 ∷ 3 ∷ 0 ∷ []);
      events = order 0 (one 3) ∷ order 1 (one 6) ∷ steps 4 1 (step 0 ∷ []);
      rounds = 10;
      closed = ones (0 ∷ 0 ∷ 0 ∷ []);
      answers = [];
      counted = 15;
    }
    -- a path that holds an empty cell for a while
    ∷ record {
      kind = 2;
      cells = 4;
      crew = 2;
      table = ones (8 ∷ 9 ∷ 4 ∷ 0 ∷ []);
      events = order 0 (one 4) ∷ steps 5 0 (order 1 (one 9) ∷ steps 3 1 (step 0 ∷ order 0 (one 8) ∷ steps 6 0 (step 1 ∷ [])));
      rounds = 13;
      closed = ones (0 ∷ 0 ∷ 0 ∷ 0 ∷ []);
      answers = [];
      counted = 20;
    }
    -- a content that rises
    ∷ record {
      kind = 2;
      cells = 5;
      crew = 2;
      table = ones (15 ∷ 16 ∷ 10 ∷ 5 ∷ 0 ∷ []);
      events = order 0 (one 10) ∷ steps 5 0 (order 1 (one 16) ∷ steps 3 1 (steps 4 0 (order 0 (one 15) ∷ steps 9 0 (step 1 ∷ order 0 (one 5) ∷ steps 4 0 []))));
      rounds = 10;
      closed = ones (0 ∷ 0 ∷ 0 ∷ 0 ∷ 0 ∷ []);
      answers = [];
      counted = 37;
    }
    -- one key is there, the other is not
    ∷ record {
      kind = 3;
      cells = 3;
      crew = 2;
      table = ones (0 ∷ 4 ∷ 1 ∷ []);
      events = order 0 (one 1) ∷ order 1 (one 3) ∷ [];
      rounds = 2;
      closed = ones (0 ∷ 4 ∷ 1 ∷ []);
      answers = 1 ∷ 0 ∷ [];
      counted = 3;
    }
    -- the greater of two keys comes while the smaller one is about to be put in behind a third
    ∷ record {
      kind = 1;
      cells = 4;
      crew = 2;
      table = ones (8 ∷ 0 ∷ 0 ∷ 0 ∷ []);
      events = order 0 (one 4) ∷ order 1 (one 12) ∷ steps 2 0 (steps 4 1 []);
      rounds = 5;
      closed = ones (12 ∷ 8 ∷ 4 ∷ 0 ∷ []);
      answers = [];
      counted = 10;
    }
    -- ---- prices
    -- two workers put in 8 at prices 3 and 5: the lower one stands
    ∷ record {
      kind = 1;
      cells = 5;
      crew = 2;
      table = 0 ∷ 0 ∷ 0 ∷ 0 ∷ 0 ∷ [];
      events = order 0 (content 8 3) ∷ order 1 (content 8 5) ∷ [];
      rounds = 6;
      closed = 0 ∷ 0 ∷ 0 ∷ content 8 3 ∷ 0 ∷ [];
      answers = [];
      counted = 5;
    }
    -- the higher one is there first: it is replaced, and nothing is carried on
    ∷ record {
      kind = 1;
      cells = 5;
      crew = 2;
      table = 0 ∷ 0 ∷ 0 ∷ 0 ∷ 0 ∷ [];
      events = order 0 (content 8 5) ∷ steps 2 0 (order 1 (content 8 3) ∷ []);
      rounds = 6;
      closed = 0 ∷ 0 ∷ 0 ∷ content 8 3 ∷ 0 ∷ [];
      answers = [];
      counted = 4;
    }
    -- both saw a higher price, and the lower one is written first
    ∷ record {
      kind = 1;
      cells = 5;
      crew = 2;
      table = 0 ∷ 0 ∷ 0 ∷ content 8 9 ∷ content 3 7 ∷ [];
      events = order 0 (content 8 3) ∷ order 1 (content 8 5) ∷ [];
      rounds = 6;
      closed = 0 ∷ 0 ∷ 0 ∷ content 8 3 ∷ content 3 7 ∷ [];
      answers = [];
      counted = 5;
    }
    -- an equal price finishes, and so does a higher one
    ∷ record {
      kind = 1;
      cells = 5;
      crew = 2;
      table = 0 ∷ 0 ∷ 0 ∷ content 8 4 ∷ content 3 7 ∷ [];
      events = order 0 (content 8 4) ∷ order 1 (content 3 8) ∷ [];
      rounds = 6;
      closed = 0 ∷ 0 ∷ 0 ∷ content 8 4 ∷ content 3 7 ∷ [];
      answers = [];
      counted = 3;
    }
    -- a content that is displaced and put in further on is replaced there at a lower price
    ∷ record {
      kind = 1;
      cells = 5;
      crew = 2;
      table = 0 ∷ 0 ∷ 0 ∷ content 3 9 ∷ 0 ∷ [];
      events = order 0 (content 8 1) ∷ order 1 (content 3 2) ∷ steps 2 0 [];
      rounds = 10;
      closed = 0 ∷ 0 ∷ 0 ∷ content 8 1 ∷ content 3 2 ∷ [];
      answers = [];
      counted = 7;
    }
    -- a content that is displaced meets its label at a lower price further on
    ∷ record {
      kind = 1;
      cells = 5;
      crew = 2;
      table = 0 ∷ 0 ∷ 0 ∷ content 3 9 ∷ 0 ∷ [];
      events = order 0 (content 8 1) ∷ order 1 (content 3 2) ∷ steps 2 0 (steps 3 1 []);
      rounds = 10;
      closed = 0 ∷ 0 ∷ 0 ∷ content 8 1 ∷ content 3 2 ∷ [];
      answers = [];
      counted = 6;
    }
    -- a content without a label is empty to an insert, which finishes on it
    ∷ record {
      kind = 1;
      cells = 4;
      crew = 1;
      table = 7 ∷ 0 ∷ 0 ∷ 0 ∷ [];
      events = order 0 (content 4 2) ∷ [];
      rounds = 6;
      closed = content 4 2 ∷ 0 ∷ 0 ∷ 0 ∷ [];
      answers = [];
      counted = 2;
    }
    -- a greater label is taken out, the other keeps its price
    ∷ record {
      kind = 2;
      cells = 5;
      crew = 2;
      table = 0 ∷ 0 ∷ 0 ∷ content 8 9 ∷ content 3 7 ∷ [];
      events = order 0 (content 8 0) ∷ order 1 (content 8 0) ∷ [];
      rounds = 18;
      closed = 0 ∷ 0 ∷ 0 ∷ content 3 7 ∷ 0 ∷ [];
      answers = [];
      counted = 12;
    }
    -- a content without a label is taken as a replacement, and copied as 0
    ∷ record {
      kind = 2;
      cells = 4;
      crew = 1;
      table = content 4 3 ∷ 9 ∷ 0 ∷ 0 ∷ [];
      events = order 0 (content 4 0) ∷ [];
      rounds = 12;
      closed = 0 ∷ 9 ∷ 0 ∷ 0 ∷ [];
      answers = [];
      counted = 4;
    }
    -- finds answer the price that stands, not the one ordered
    ∷ record {
      kind = 3;
      cells = 5;
      crew = 2;
      table = 0 ∷ 0 ∷ 0 ∷ content 8 9 ∷ content 3 7 ∷ [];
      events = order 0 (content 3 5) ∷ order 1 (content 4 0) ∷ [];
      rounds = 4;
      closed = 0 ∷ 0 ∷ 0 ∷ content 8 9 ∷ content 3 7 ∷ [];
      answers = 7 ∷ 0 ∷ [];
      counted = 3;
    }
    ∷ []

abbrev pub AllClose : List Schedule → Type 0
AllClose [] = Unit {0}
AllClose (s ∷ others) = Closes s × AllClose others

abbrev pub SchedulesPromise : Type 0
SchedulesPromise = AllClose schedules
