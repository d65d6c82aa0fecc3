-- Migrations of the gateway, computed: lists of calls given as numbers with the numbers of their answers and the table that they leave; openings; and single
-- calls on records that no opening makes. Proved in proofs/Examples.
use Rattle.std.specs.Prelude.{◌≡◌, Bool, true, false, List, [], ◌∷◌, ◌++◌, map, ℕ, replicate}
use Rattle.homes.specs.Homes.{plain, hash_of}
use Rattle.homes.specs.declared.Hash.{Hash}
use Rattle.prices.specs.Contents.{content}
use Rattle.activities.specs.declared.Activity.TheVariants.{Reading, Replacing, WalkingBack, SeekingForward, SeekingBack}
use Rattle.state.specs.Model.{gateway}
use Rattle.state.specs.Refusals.{reply_number}
use Rattle.protocol.specs.Calls.{turn_number}
use Rattle.numbered.specs.Numbers.{refused, word}
use Rattle.migration.specs.Calls.{open_reply, open_call, order_call, close_call, turn_call, turn_new}
use Rattle.migration.specs.Claim.{present}
use Rattle.migration.specs.Courses.{Call, order, turn, Course, after}
use Rattle.migration.specs.Lists.{calls_lent, MoveNumbers}
use Rattle.migration.specs.Tasks.{free, carrier}
use Rattle.migration.specs.declared.Migration.{Migration}
use Rattle.migration.specs.declared.Task.{Task}
use Rattle.migration.specs.declared.Task.TheVariants.{Fetching, Inserting}

-- ---- lists of calls
pub record Batch : Type 0 where
  pub crew : ℕ
  pub hash : Hash
  pub old : List ℕ
  pub new : List ℕ
  pub ops : List ℕ
  pub workers : List ℕ
  pub out : List ℕ
  -- the opening's answer, the new table and the lent list afterwards; words 1, 2 and 5 are went on, finished and idle
  pub reply : ℕ
  pub closed : List ℕ
  pub answers : List ℕ

-- document 01's table of five cells into seven, by two workers; refused calls in between: a close while old cells remain, orders to a busy worker and to one
-- that is not there, orders after the last old cell, and calls behind the close. The third old cell is empty; two places behind the answers are kept
abbrev pub aisle : Batch
aisle = record {
  crew = 2;
  hash = plain;
  old = content 4 1 ∷ content 3 1 ∷ 0 ∷ content 13 1 ∷ content 8 1 ∷ [];
  new = 0 ∷ 0 ∷ 0 ∷ 0 ∷ 0 ∷ 0 ∷ 0 ∷ [];
  ops = 3 ∷ 2 ∷ 1 ∷ 1 ∷ 1 ∷ 1 ∷ 2 ∷ 2 ∷ 2 ∷ 2 ∷ 2 ∷ 2 ∷ 2 ∷ 1 ∷ 1 ∷ 2 ∷ 2 ∷ 1 ∷ 2 ∷ 2 ∷ 2 ∷ 1 ∷ 1 ∷ 3 ∷ 2 ∷ 2 ∷ 3 ∷ 1 ∷ 2 ∷ 3 ∷ [];
  workers = 0 ∷ 0 ∷ 0 ∷ 0 ∷ 1 ∷ 2 ∷ 0 ∷ 1 ∷ 2 ∷ 0 ∷ 1 ∷ 0 ∷ 1 ∷ 0 ∷ 1 ∷ 0 ∷ 1 ∷ 0 ∷ 1 ∷ 0 ∷ 1 ∷ 0 ∷ 1 ∷ 0 ∷ 0 ∷ 0 ∷ 0 ∷ 0 ∷ 1 ∷ 0 ∷ [];
  out = 77 ∷ 77 ∷ 77 ∷ 77 ∷ 77 ∷ 77 ∷ 77 ∷ 77 ∷ 77 ∷ 77 ∷ 77 ∷ 77 ∷ 77 ∷ 77 ∷ 77 ∷ 77 ∷ 77 ∷ 77 ∷ 77 ∷ 77 ∷ 77 ∷ 77 ∷ 77 ∷ 77 ∷ 77 ∷ 77 ∷ 77 ∷ 77 ∷ 77 ∷ 77 ∷ 77 ∷ 77 ∷ [];
  reply = 0;
  closed = 0 ∷ content 8 1 ∷ 0 ∷ content 3 1 ∷ content 4 1 ∷ 0 ∷ content 13 1 ∷ [];
  answers = refused 10 ∷ word 5 ∷ 0 ∷ refused 8 ∷ 0 ∷ refused 6 ∷ word 1 ∷ word 1 ∷ refused 6 ∷ word 1 ∷ word 1 ∷ word 2 ∷ word 2 ∷ 0 ∷ 0 ∷ word 2 ∷ word 1 ∷ 0 ∷ word 1 ∷ word 1 ∷ word 2
      ∷ refused 8 ∷ refused 9 ∷ refused 10 ∷ word 1 ∷ word 2 ∷ 0 ∷ refused 11 ∷ refused 11 ∷ refused 11 ∷ 77 ∷ 77 ∷ [];
}

-- two workers at one cell: the smaller label is first, the greater one finds the cell changed, reads it again and pushes the other on, with its price
abbrev pub contended : Batch
contended = record {
  crew = 2;
  hash = plain;
  old = 0 ∷ 0 ∷ 0 ∷ content 8 5 ∷ content 3 7 ∷ [];
  new = 0 ∷ 0 ∷ 0 ∷ 0 ∷ 0 ∷ [];
  ops = 1 ∷ 1 ∷ 2 ∷ 2 ∷ 1 ∷ 2 ∷ 1 ∷ 1 ∷ 2 ∷ 2 ∷ 2 ∷ 2 ∷ 2 ∷ 2 ∷ 2 ∷ 2 ∷ 2 ∷ 2 ∷ 3 ∷ [];
  workers = 0 ∷ 1 ∷ 0 ∷ 1 ∷ 1 ∷ 1 ∷ 0 ∷ 1 ∷ 0 ∷ 1 ∷ 0 ∷ 1 ∷ 1 ∷ 0 ∷ 0 ∷ 0 ∷ 0 ∷ 0 ∷ 0 ∷ [];
  out = 77 ∷ 77 ∷ 77 ∷ 77 ∷ 77 ∷ 77 ∷ 77 ∷ 77 ∷ 77 ∷ 77 ∷ 77 ∷ 77 ∷ 77 ∷ 77 ∷ 77 ∷ 77 ∷ 77 ∷ 77 ∷ 77 ∷ [];
  reply = 0;
  closed = 0 ∷ 0 ∷ 0 ∷ content 8 5 ∷ content 3 7 ∷ [];
  answers = 0 ∷ 0 ∷ word 2 ∷ word 2 ∷ 0 ∷ word 2 ∷ 0 ∷ 0 ∷ word 1 ∷ word 1 ∷ word 1 ∷ word 1 ∷ word 2 ∷ word 1 ∷ word 1 ∷ word 1 ∷ word 1 ∷ word 2 ∷ 0 ∷ [];
}

-- into fewer cells, but more than there are labels; 5 comes last and pushes 2 on, round the end of the table
abbrev pub narrower : Batch
narrower = record {
  crew = 1;
  hash = plain;
  old = 0 ∷ 0 ∷ content 2 70 ∷ 0 ∷ 0 ∷ content 5 9 ∷ [];
  new = 0 ∷ 0 ∷ 0 ∷ [];
  ops = 1 ∷ 2 ∷ 1 ∷ 2 ∷ 1 ∷ 2 ∷ 2 ∷ 2 ∷ 1 ∷ 2 ∷ 1 ∷ 2 ∷ 1 ∷ 2 ∷ 2 ∷ 2 ∷ 2 ∷ 2 ∷ 3 ∷ [];
  workers = 0 ∷ 0 ∷ 0 ∷ 0 ∷ 0 ∷ 0 ∷ 0 ∷ 0 ∷ 0 ∷ 0 ∷ 0 ∷ 0 ∷ 0 ∷ 0 ∷ 0 ∷ 0 ∷ 0 ∷ 0 ∷ 0 ∷ [];
  out = 77 ∷ 77 ∷ 77 ∷ 77 ∷ 77 ∷ 77 ∷ 77 ∷ 77 ∷ 77 ∷ 77 ∷ 77 ∷ 77 ∷ 77 ∷ 77 ∷ 77 ∷ 77 ∷ 77 ∷ 77 ∷ 77 ∷ [];
  reply = 0;
  closed = content 2 70 ∷ 0 ∷ content 5 9 ∷ [];
  answers = 0 ∷ word 2 ∷ 0 ∷ word 2 ∷ 0 ∷ word 1 ∷ word 1 ∷ word 2 ∷ 0 ∷ word 2 ∷ 0 ∷ word 2 ∷ 0 ∷ word 1 ∷ word 1 ∷ word 1 ∷ word 1 ∷ word 2 ∷ 0 ∷ [];
}

-- by a of 4294967295 and b of 6 a label's number is 6 less the label, modulo 2³²: in four cells the homes of 5 and 2 are cells 1 and 0
abbrev pub spread : Batch
spread = record {
  crew = 2;
  hash = hash_of 4294967295 6;
  old = 0 ∷ content 5 2 ∷ content 2 7 ∷ [];
  new = 0 ∷ 0 ∷ 0 ∷ 0 ∷ [];
  ops = 1 ∷ 1 ∷ 2 ∷ 2 ∷ 1 ∷ 2 ∷ 2 ∷ 2 ∷ 2 ∷ 2 ∷ 3 ∷ [];
  workers = 1 ∷ 0 ∷ 1 ∷ 0 ∷ 1 ∷ 0 ∷ 1 ∷ 0 ∷ 1 ∷ 1 ∷ 0 ∷ [];
  out = 77 ∷ 77 ∷ 77 ∷ 77 ∷ 77 ∷ 77 ∷ 77 ∷ 77 ∷ 77 ∷ 77 ∷ 77 ∷ [];
  reply = 0;
  closed = content 2 7 ∷ content 5 2 ∷ 0 ∷ 0 ∷ [];
  answers = 0 ∷ 0 ∷ word 2 ∷ word 1 ∷ 0 ∷ word 1 ∷ word 1 ∷ word 2 ∷ word 1 ∷ word 2 ∷ 0 ∷ [];
}

-- labels for factory tests are moved like any other: in three cells their homes are cells 0 and 1, in five both are cell 0
abbrev pub tests : Batch
tests = record {
  crew = 1;
  hash = plain;
  old = content 4294967295 7 ∷ content 4000000000 9 ∷ 0 ∷ [];
  new = 0 ∷ 0 ∷ 0 ∷ 0 ∷ 0 ∷ [];
  ops = 1 ∷ 2 ∷ 2 ∷ 2 ∷ 1 ∷ 2 ∷ 2 ∷ 2 ∷ 2 ∷ 1 ∷ 2 ∷ 3 ∷ [];
  workers = 0 ∷ 0 ∷ 0 ∷ 0 ∷ 0 ∷ 0 ∷ 0 ∷ 0 ∷ 0 ∷ 0 ∷ 0 ∷ 0 ∷ [];
  out = 77 ∷ 77 ∷ 77 ∷ 77 ∷ 77 ∷ 77 ∷ 77 ∷ 77 ∷ 77 ∷ 77 ∷ 77 ∷ 77 ∷ [];
  reply = 0;
  closed = content 4294967295 7 ∷ content 4000000000 9 ∷ 0 ∷ 0 ∷ 0 ∷ [];
  answers = 0 ∷ word 1 ∷ word 1 ∷ word 2 ∷ 0 ∷ word 1 ∷ word 1 ∷ word 1 ∷ word 2 ∷ 0 ∷ word 2 ∷ 0 ∷ [];
}

-- nothing to carry: each order is finished on its first turn; behind the last old cell a busy worker's order gets 8, a free one's 9
abbrev pub vacant : Batch
vacant = record {
  crew = 3;
  hash = plain;
  old = 0 ∷ 0 ∷ [];
  new = 0 ∷ 0 ∷ [];
  ops = 1 ∷ 1 ∷ 1 ∷ 1 ∷ 1 ∷ 2 ∷ 1 ∷ 3 ∷ 2 ∷ 2 ∷ 9 ∷ [];
  workers = 2 ∷ 2 ∷ 0 ∷ 1 ∷ 2 ∷ 2 ∷ 2 ∷ 0 ∷ 0 ∷ 0 ∷ 0 ∷ [];
  out = 77 ∷ 77 ∷ 77 ∷ 77 ∷ 77 ∷ 77 ∷ 77 ∷ 77 ∷ 77 ∷ 77 ∷ 77 ∷ [];
  reply = 0;
  closed = 0 ∷ 0 ∷ [];
  answers = 0 ∷ refused 8 ∷ 0 ∷ refused 9 ∷ refused 8 ∷ word 2 ∷ refused 9 ∷ refused 10 ∷ word 2 ∷ word 5 ∷ 0 ∷ [];
}

-- as many calls as the shortest list has: here the answers
abbrev pub cut : Batch
cut = record {
  crew = 1;
  hash = plain;
  old = 0 ∷ content 3 4 ∷ [];
  new = 0 ∷ 0 ∷ [];
  ops = 1 ∷ 2 ∷ 1 ∷ 2 ∷ 2 ∷ [];
  workers = 0 ∷ 0 ∷ 0 ∷ 0 ∷ 0 ∷ [];
  out = 77 ∷ 77 ∷ 77 ∷ [];
  reply = 0;
  closed = 0 ∷ 0 ∷ [];
  answers = 0 ∷ word 2 ∷ 0 ∷ [];
}

-- a refused opening deals no call
abbrev pub unopened : Batch
unopened = record {
  crew = 1;
  hash = plain;
  old = 0 ∷ content 1 5 ∷ content 2 7 ∷ [];
  new = 0 ∷ 0 ∷ [];
  ops = 1 ∷ [];
  workers = 0 ∷ [];
  out = 77 ∷ [];
  reply = refused 23;
  closed = 0 ∷ 0 ∷ [];
  answers = 77 ∷ [];
}

-- the old table is as it was
abbrev pub Given : Batch → Type 0
Given b =
    MoveNumbers gateway b.crew b.hash b.old b.new b.ops b.workers b.out b.reply b.old b.closed b.answers

abbrev pub AllGiven : List Batch → Type 0
AllGiven [] = Unit {0}
AllGiven (b ∷ bs) = Given b × AllGiven bs

abbrev pub batches : List Batch
batches = aisle ∷ contended ∷ narrower ∷ spread ∷ tests ∷ vacant ∷ cut ∷ unopened ∷ []

-- ---- moments of a course, with what is counted beside it: the first of the lists above, and two orders of it alone
abbrev pub moment : List Call → Course
moment cs = after gateway aisle.crew aisle.hash aisle.old aisle.new cs

pub record Moments : Type 0 where
  -- an entry is present once its old cell is read, not before
  pub ordered : present (moment (order 0 ∷ order 1 ∷ [])) ≡ replicate 23 0
  pub carried : present (moment (order 0 ∷ order 1 ∷ turn 1 ∷ [])) ≡ replicate 8 0 ++ content 3 1 ∷ replicate 14 0
  -- in the whole list five orders are accepted, and the turns counted that answer went on or finished
  pub accepted : (moment (calls_lent aisle.ops aisle.workers aisle.out)).accepted ≡ 5
  pub counted : (moment (calls_lent aisle.ops aisle.workers aisle.out)).counted ≡ 13
  pub unfinished : (moment (calls_lent aisle.ops aisle.workers aisle.out)).unfinished ≡ replicate 16 false
  pub closed : (moment (calls_lent aisle.ops aisle.workers aisle.out)).closed ≡ true

-- ---- openings: the number of the answer
abbrev pub opened : (crew : ℕ) → Hash → (old new : List ℕ) → ℕ
opened crew ab old new = reply_number (open_reply gateway crew ab old new)

abbrev pub empty_cells : ℕ → List ℕ
empty_cells n = replicate n 0

-- two labels in three cells; three there; 3 past its home, which is empty; 5 past 2, which is smaller
abbrev pub two : List ℕ
two = 0 ∷ content 1 5 ∷ content 2 7 ∷ []

abbrev pub full : List ℕ
full = content 3 1 ∷ content 1 5 ∷ content 2 7 ∷ []

abbrev pub gapped : List ℕ
gapped = 0 ∷ content 3 1 ∷ 0 ∷ []

abbrev pub disordered : List ℕ
disordered = content 5 1 ∷ 0 ∷ content 2 1 ∷ []

pub record Openings : Type 0 where
  -- both lengths are looked at, each from 2 to 8,192
  pub lengths : map (λ n. opened 1 plain (empty_cells n) (empty_cells 5)) (0 ∷ 1 ∷ 2 ∷ 8193 ∷ []) ≡ 1 ∷ 1 ∷ 0 ∷ 1 ∷ []
  pub new_lengths : map (λ n. opened 1 plain (empty_cells 5) (empty_cells n)) (0 ∷ 1 ∷ 2 ∷ 8193 ∷ []) ≡ 1 ∷ 1 ∷ 0 ∷ 1 ∷ []
  pub crews : map (λ m. opened m plain two (empty_cells 3)) (0 ∷ 1 ∷ 16 ∷ 17 ∷ []) ≡ 2 ∷ 0 ∷ 0 ∷ 2 ∷ []
  -- an even a; the old table's 4, 17 and 18
  pub even : opened 1 (hash_of 2 0) two (empty_cells 3) ≡ 21
  pub unsound : map (λ t. opened 1 plain t (empty_cells 4)) (full ∷ (0 ∷ 5 ∷ []) ∷ gapped ∷ disordered ∷ []) ≡ 4 ∷ 4 ∷ 17 ∷ 18 ∷ []
  -- 23: the new table has a label, a price without one, or as many cells as there are labels; with one cell more it is fit, however many cells the old one has
  pub unfit : map (opened 1 plain two) ((0 ∷ 0 ∷ content 2 7 ∷ []) ∷ (0 ∷ 0 ∷ 5 ∷ []) ∷ (9 ∷ 0 ∷ 0 ∷ 0 ∷ []) ∷ empty_cells 2 ∷ empty_cells 3 ∷ empty_cells 4 ∷ [])
      ≡ 23 ∷ 23 ∷ 23 ∷ 23 ∷ 0 ∷ 0 ∷ []
  -- first to apply wins: 1, 2, 21, 4, 23
  pub sequence : opened 0 (hash_of 2 0) full (5 ∷ []) ∷ opened 0 (hash_of 2 0) full (5 ∷ 0 ∷ []) ∷ opened 1 (hash_of 2 0) full (5 ∷ 0 ∷ [])
      ∷ opened 1 plain full (5 ∷ 0 ∷ []) ∷ opened 1 plain gapped (5 ∷ 0 ∷ []) ∷ opened 1 plain disordered (5 ∷ 0 ∷ []) ∷ opened 1 plain two (5 ∷ 0 ∷ []) ∷ []
      ≡ 1 ∷ 2 ∷ 21 ∷ 4 ∷ 17 ∷ 18 ∷ 23 ∷ []

-- ---- single calls on records
-- the first workers with these tasks, so many others free
abbrev pub forged : (kind source length crew next : ℕ) → Bool → List Task → ℕ → Migration
forged kind source length crew next shut ts others = record {
  kind = kind;
  source = source;
  length = length;
  crew = crew;
  next = next;
  shut = shut;
  hash = plain;
  carriers = map carrier ts ++ replicate others (carrier free);
}

-- a worker's task, the other fifteen free, in a record from six cells to four with one worker
abbrev pub doing : Task → Migration
doing a = forged 4 6 4 1 6 false (a ∷ []) 15

-- an order, a turn on tables of the record's lengths, and a close
abbrev pub answers_to : Migration → List ℕ
answers_to p =
    reply_number (order_call gateway p 0).reply ∷ turn_number (turn_call gateway p (empty_cells p.source) (empty_cells p.length) 0).reply
    ∷ reply_number (close_call gateway p).reply ∷ []

abbrev pub spoilt : List ℕ
spoilt = 13 ∷ 13 ∷ 13 ∷ []

pub record Records : Type 0 where
  -- what openings hand back
  pub hands_back : (open_call gateway 0 (hash_of 3 5) two (empty_cells 4)).migration ≡ forged 4 2 2 1 0 true [] 16
  pub as_asked : (open_call gateway 2 plain two (empty_cells 4)).migration ≡ forged 4 3 4 2 0 false [] 16
  -- every kind but 4 is spoilt; so are lengths and worker counts out of their bounds, and a next old cell past the old length
  pub kinds : map (λ k. answers_to (forged k 6 4 1 0 false [] 16)) (0 ∷ 1 ∷ 2 ∷ 3 ∷ 4 ∷ 5 ∷ []) ≡ spoilt ∷ spoilt ∷ spoilt ∷ spoilt ∷ (0 ∷ 0 ∷ 10 ∷ []) ∷ spoilt ∷ []
  pub sources : map (λ n. answers_to (forged 4 n 4 1 0 false [] 16)) (1 ∷ 2 ∷ 8193 ∷ []) ≡ spoilt ∷ (0 ∷ 0 ∷ 10 ∷ []) ∷ spoilt ∷ []
  pub lengths : map (λ n. answers_to (forged 4 6 n 1 0 false [] 16)) (1 ∷ 2 ∷ 8193 ∷ []) ≡ spoilt ∷ (0 ∷ 0 ∷ 10 ∷ []) ∷ spoilt ∷ []
  pub crews : map (λ m. answers_to (forged 4 6 4 m 0 false [] 16)) (0 ∷ 1 ∷ 16 ∷ 17 ∷ []) ≡ spoilt ∷ (0 ∷ 0 ∷ 10 ∷ []) ∷ (0 ∷ 0 ∷ 10 ∷ []) ∷ spoilt ∷ []
  pub nexts : map (λ n. answers_to (forged 4 6 4 1 n false [] 16)) (5 ∷ 6 ∷ 7 ∷ []) ≡ (0 ∷ 0 ∷ 10 ∷ []) ∷ (9 ∷ 0 ∷ 0 ∷ []) ∷ spoilt ∷ []
  -- an old cell is held against the old length, whatever its content, and new cells against the new one; a price alone is no label
  pub fetching : map (λ c. answers_to (doing (Fetching c))) (3 ∷ 4 ∷ 5 ∷ 6 ∷ []) ≡ (8 ∷ 0 ∷ 10 ∷ []) ∷ (8 ∷ 0 ∷ 10 ∷ []) ∷ (8 ∷ 0 ∷ 10 ∷ []) ∷ spoilt ∷ []
  pub reading : map (λ c. answers_to (doing (Inserting (Reading (content 9 1) c)))) (3 ∷ 4 ∷ 5 ∷ []) ≡ (8 ∷ 0 ∷ 10 ∷ []) ∷ spoilt ∷ spoilt ∷ []
  pub unlabelled : answers_to (doing (Inserting (Reading 9 0))) ≡ spoilt
  pub replacing : map (λ c. answers_to (doing (Inserting (Replacing (content 9 1) c 3 0)))) (3 ∷ 4 ∷ []) ≡ (8 ∷ 0 ∷ 10 ∷ []) ∷ spoilt ∷ []
  pub replacing_from : answers_to (doing (Inserting (Replacing (content 9 1) 3 4 0))) ≡ spoilt
  pub replacing_unlabelled : answers_to (doing (Inserting (Replacing 9 3 3 0))) ≡ spoilt
  -- only reading on and replacing are allowed besides
  pub taking_out : map answers_to
      (doing (Inserting (WalkingBack (content 9 1) 0)) ∷ doing (Inserting (SeekingForward (content 9 1) 0 1))
      ∷ doing (Inserting (SeekingBack 1 (content 9 1) 0 2 0)) ∷ [])
      ≡ spoilt ∷ spoilt ∷ spoilt ∷ []
  -- a worker past the count is free
  pub past : map (λ m. answers_to (forged 4 6 4 m 0 false (free ∷ Fetching 0 ∷ []) 14)) (1 ∷ 2 ∷ []) ≡ spoilt ∷ (0 ∷ 0 ∷ 10 ∷ []) ∷ []
  -- one busy worker, whichever it is, holds up the close
  pub working : answers_to (forged 4 6 4 2 6 false (free ∷ Fetching 0 ∷ []) 14) ≡ 9 ∷ 0 ∷ 10 ∷ []
  -- shut; 13 comes first
  pub closed : answers_to (forged 4 6 4 1 6 true [] 16) ≡ 11 ∷ 11 ∷ 11 ∷ []
  -- 11 before 6 at an order, before 5 and 6 at a turn, before 10 at a close
  pub shut_first : reply_number (order_call gateway (forged 4 6 4 1 0 true [] 16) 1).reply
      ∷ turn_number (turn_call gateway (forged 4 6 4 1 0 true [] 16) (empty_cells 5) (empty_cells 4) 1).reply
      ∷ reply_number (close_call gateway (forged 4 6 4 1 0 true [] 16)).reply ∷ []
      ≡ 11 ∷ 11 ∷ 11 ∷ []
  pub spoilt_first : answers_to (forged 1 6 4 1 6 true [] 16) ≡ spoilt
  -- 5 for either table, before 6; 6 before 8
  pub tables : map (λ (t : List ℕ). turn_number (turn_call gateway (doing free) t (empty_cells 4) 1).reply) (empty_cells 5 ∷ empty_cells 6 ∷ empty_cells 7 ∷ []) ≡ 5 ∷ 6 ∷ 5 ∷ []
  pub new_tables : map (λ (t : List ℕ). turn_number (turn_call gateway (doing free) (empty_cells 6) t 1).reply) (empty_cells 3 ∷ empty_cells 4 ∷ empty_cells 6 ∷ []) ≡ 5 ∷ 6 ∷ 5 ∷ []
  pub no_worker : reply_number (order_call gateway (doing (Fetching 0)) 1).reply ≡ 6
  -- 8 before 9
  pub busy_first : reply_number (order_call gateway (doing (Fetching 0)) 0).reply ≡ 8
  -- an accepted order takes the next old cell
  pub takes : (order_call gateway (forged 4 6 4 2 3 false (free ∷ Fetching 0 ∷ []) 14) 0).migration ≡ forged 4 6 4 2 4 false (Fetching 3 ∷ Fetching 0 ∷ []) 14
  -- one turn at an old cell: a price without a label is finished, a content is carried whole from its home, and the new table is as it was
  pub finishes : (turn_call gateway (doing (Fetching 1)) (0 ∷ 77 ∷ 0 ∷ 0 ∷ 0 ∷ 0 ∷ []) (empty_cells 4) 0).migration ≡ doing free
  pub carries : (turn_call gateway (doing (Fetching 5)) (0 ∷ 0 ∷ 0 ∷ 0 ∷ 0 ∷ content 7 12345 ∷ []) (empty_cells 4) 0).migration
      ≡ doing (Inserting (Reading (content 7 12345) 3))
  pub kept : turn_new gateway (doing (Fetching 5)) (0 ∷ 0 ∷ 0 ∷ 0 ∷ 0 ∷ content 7 12345 ∷ []) (empty_cells 4) 0 ≡ empty_cells 4
  -- and at the new one: it reads on past a greater label, round the end
  pub reads_on : (turn_call gateway (doing (Inserting (Reading (content 7 1) 3))) (empty_cells 6) (0 ∷ 0 ∷ 0 ∷ content 11 1 ∷ []) 0).migration
      ≡ doing (Inserting (Reading (content 7 1) 0))

pub record Examples : Type 0 where
  pub calls : AllGiven batches
  pub moments : Moments
  pub openings : Openings
  pub records : Records
