-- Lists of calls given as numbers, with the numbers of their answers and the table that they leave.
use Rattle.std.specs.Prelude.{◌≡◌, List, [], ◌∷◌, ◌++◌, ℕ, length, drop}
use Rattle.homes.specs.Homes.{hash_of, plain}
use Rattle.homes.specs.declared.Hash.{Hash}
use Rattle.prices.specs.Contents.{content}
use Rattle.orders.specs.Orders.{orders_of}
use Rattle.orders.specs.declared.Order.{Order}
use Rattle.state.specs.Model.{gateway}
use Rattle.state.specs.Open.{open_reply}
use Rattle.history.specs.History.{opening, after}
use Rattle.numbered.specs.Numbers.{refused, word, reply_answer}
use Rattle.numbered.specs.Lists.{answers_of}
use Rattle.numbered.specs.Batch.{dealt}

pub record Batch : Type 0 where
  pub kind : ℕ
  pub crew : ℕ
  pub hash : Hash
  pub table : List ℕ
  pub orders : List Order
  pub ops : List ℕ
  pub lines : List ℕ
  pub workers : List ℕ
  pub keys : List ℕ
  pub out : List ℕ
  -- the opening's answer, the table and the lent list afterwards; words 1, 2, 4 and 5 are went on, finished, no and idle
  pub reply : ℕ
  pub closed : List ℕ
  pub answers : List ℕ

-- two workers put in 3 and 6 at the greatest and the least price, the first line twice, whatever workers and keys are handed in; line numbers past the list
-- and other refused calls in between, and calls behind the close; one call more than there are places for answers
abbrev pub putting_in : Batch
putting_in = record {
  kind = 1;
  crew = 2;
  hash = plain;
  table = 0 ∷ 0 ∷ 0 ∷ [];
  orders = orders_of (3 ∷ 6 ∷ 6 ∷ []) (9999999 ∷ 1 ∷ 4 ∷ []) (0 ∷ 1 ∷ 0 ∷ []);
  ops = 1 ∷ 1 ∷ 1 ∷ 1 ∷ 3 ∷ 2 ∷ 2 ∷ 2 ∷ 2 ∷ 1 ∷ 2 ∷ 2 ∷ 2 ∷ 2 ∷ 1 ∷ 2 ∷ 2 ∷ 0 ∷ 2 ∷ 1 ∷ 3 ∷ 3 ∷ [];
  lines = 0 ∷ 2 ∷ 3 ∷ 4294967295 ∷ 0 ∷ 0 ∷ 0 ∷ 0 ∷ 0 ∷ 1 ∷ 0 ∷ 0 ∷ 0 ∷ 0 ∷ 0 ∷ 0 ∷ 0 ∷ 0 ∷ 0 ∷ 0 ∷ 0 ∷ 0 ∷ [];
  workers = 1 ∷ 1 ∷ 0 ∷ 0 ∷ 9 ∷ 0 ∷ 0 ∷ 0 ∷ 2 ∷ 7 ∷ 1 ∷ 1 ∷ 1 ∷ 1 ∷ 9 ∷ 0 ∷ 0 ∷ 0 ∷ 0 ∷ 0 ∷ 0 ∷ 0 ∷ [];
  keys = 8 ∷ 0 ∷ 0 ∷ 5 ∷ 0 ∷ 0 ∷ 0 ∷ 0 ∷ 0 ∷ 0 ∷ 0 ∷ 0 ∷ 0 ∷ 0 ∷ 9 ∷ 0 ∷ 0 ∷ 0 ∷ 0 ∷ 0 ∷ 0 ∷ 0 ∷ [];
  out = 77 ∷ 77 ∷ 77 ∷ 77 ∷ 77 ∷ 77 ∷ 77 ∷ 77 ∷ 77 ∷ 77 ∷ 77 ∷ 77 ∷ 77 ∷ 77 ∷ 77 ∷ 77 ∷ 77 ∷ 77 ∷ 77 ∷ 77 ∷ 77 ∷ [];
  reply = 0;
  closed = content 6 1 ∷ content 3 9999999 ∷ 0 ∷ [];
  answers = 0 ∷ refused 8 ∷ refused 15 ∷ refused 15 ∷ refused 10 ∷ word 1 ∷ word 2 ∷ word 5 ∷ refused 6 ∷ 0 ∷ word 1 ∷ word 1 ∷ word 1 ∷ word 2
      ∷ 0 ∷ word 1 ∷ word 2 ∷ 0 ∷ refused 11 ∷ refused 11 ∷ refused 11 ∷ [];
}

-- a lower price replaces the one that stands, a higher one finishes at once; a list has as many lines as the shortest of its parts
abbrev pub repricing : Batch
repricing = record {
  kind = 1;
  crew = 2;
  hash = plain;
  table = 0 ∷ 0 ∷ 0 ∷ content 3 9 ∷ [];
  orders = orders_of (3 ∷ 3 ∷ 5 ∷ 7 ∷ []) (4 ∷ 6 ∷ []) (0 ∷ 1 ∷ 0 ∷ []);
  ops = 1 ∷ 1 ∷ 1 ∷ 2 ∷ 2 ∷ 2 ∷ 3 ∷ [];
  lines = 0 ∷ 1 ∷ 2 ∷ 0 ∷ 0 ∷ 0 ∷ 0 ∷ [];
  workers = 0 ∷ 0 ∷ 0 ∷ 0 ∷ 0 ∷ 1 ∷ 0 ∷ [];
  keys = 0 ∷ 0 ∷ 0 ∷ 0 ∷ 0 ∷ 0 ∷ 0 ∷ [];
  out = 77 ∷ 77 ∷ 77 ∷ 77 ∷ 77 ∷ 77 ∷ 77 ∷ [];
  reply = 0;
  closed = 0 ∷ 0 ∷ 0 ∷ content 3 4 ∷ [];
  answers = 0 ∷ 0 ∷ refused 15 ∷ word 1 ∷ word 2 ∷ word 2 ∷ 0 ∷ [];
}

-- two look-ups, of which one answers the price that stands, whatever list and line numbers are handed in; two places behind the answers are kept
abbrev pub looking_up : Batch
looking_up = record {
  kind = 3;
  crew = 1;
  hash = plain;
  table = content 6 5 ∷ content 3 7 ∷ 0 ∷ [];
  orders = orders_of (0 ∷ []) (0 ∷ []) (9 ∷ []);
  ops = 1 ∷ 2 ∷ 2 ∷ 1 ∷ 2 ∷ 3 ∷ [];
  lines = 9 ∷ 0 ∷ 0 ∷ 0 ∷ 0 ∷ 0 ∷ [];
  workers = 0 ∷ 0 ∷ 0 ∷ 0 ∷ 0 ∷ 0 ∷ [];
  keys = 3 ∷ 0 ∷ 0 ∷ 7 ∷ 0 ∷ 0 ∷ [];
  out = 77 ∷ 77 ∷ 77 ∷ 77 ∷ 77 ∷ 77 ∷ 77 ∷ 77 ∷ [];
  reply = 0;
  closed = content 6 5 ∷ content 3 7 ∷ 0 ∷ [];
  answers = 0 ∷ word 1 ∷ 7 ∷ 0 ∷ word 4 ∷ 0 ∷ 77 ∷ 77 ∷ [];
}

-- by a of 4294967295 and b of 6 a label's number is 6 less the label, modulo 2³²: in three cells the homes of 2 and 5 are cell 1, that of 3 is cell 0 and that
-- of 4 cell 2. The labels 4 and 3 are put in; then, in another table, 5 is taken out and 2 comes forward
abbrev pub spreading : ℕ → (table : List ℕ) → List Order → (ops keys closed answers : List ℕ) → Batch
spreading kind table orders ops keys closed answers = record {
  kind = kind;
  crew = 1;
  hash = hash_of 4294967295 6;
  table = table;
  orders = orders;
  ops = ops;
  lines = 0 ∷ 0 ∷ 0 ∷ 1 ∷ 0 ∷ 0 ∷ 0 ∷ 0 ∷ 0 ∷ [];
  workers = 0 ∷ 0 ∷ 0 ∷ 0 ∷ 0 ∷ 0 ∷ 0 ∷ 0 ∷ 0 ∷ [];
  keys = keys;
  out = 77 ∷ 77 ∷ 77 ∷ 77 ∷ 77 ∷ 77 ∷ 77 ∷ 77 ∷ 77 ∷ [];
  reply = 0;
  closed = closed;
  answers = answers;
}

abbrev pub spread_in : Batch
spread_in =
    spreading 1 (0 ∷ 0 ∷ 0 ∷ []) (orders_of (4 ∷ 3 ∷ []) (5 ∷ 1 ∷ []) (0 ∷ 0 ∷ [])) (1 ∷ 2 ∷ 2 ∷ 1 ∷ 2 ∷ 2 ∷ 3 ∷ [])
    (0 ∷ 0 ∷ 0 ∷ 0 ∷ 0 ∷ 0 ∷ 0 ∷ []) (content 3 1 ∷ 0 ∷ content 4 5 ∷ []) (0 ∷ word 1 ∷ word 2 ∷ 0 ∷ word 1 ∷ word 2 ∷ 0 ∷ 77 ∷ 77 ∷ [])

abbrev pub spread_out : Batch
spread_out =
    spreading 2 (0 ∷ content 5 2 ∷ content 2 7 ∷ []) [] (1 ∷ 2 ∷ 2 ∷ 2 ∷ 2 ∷ 2 ∷ 2 ∷ 2 ∷ 3 ∷ [])
    (5 ∷ 0 ∷ 0 ∷ 0 ∷ 0 ∷ 0 ∷ 0 ∷ 0 ∷ 0 ∷ []) (0 ∷ content 2 7 ∷ 0 ∷ [])
    (0 ∷ word 1 ∷ word 1 ∷ word 1 ∷ word 1 ∷ word 1 ∷ word 1 ∷ word 2 ∷ 0 ∷ [])

-- by a of 1 and b of 1 the home of 3 in three cells is cell 1, by b of 0 it is cell 0: b alone decides that the table is sound and where 3 is looked up
abbrev pub spread_up : Batch
spread_up = record {
  kind = 3;
  crew = 1;
  hash = hash_of 1 1;
  table = 0 ∷ content 3 7 ∷ 0 ∷ [];
  orders = [];
  ops = 1 ∷ 2 ∷ 3 ∷ [];
  lines = 0 ∷ 0 ∷ 0 ∷ [];
  workers = 0 ∷ 0 ∷ 0 ∷ [];
  keys = 3 ∷ 0 ∷ 0 ∷ [];
  out = 77 ∷ 77 ∷ 77 ∷ [];
  reply = 0;
  closed = 0 ∷ content 3 7 ∷ 0 ∷ [];
  answers = 0 ∷ 7 ∷ 0 ∷ [];
}

-- a refused opening deals no call
abbrev pub unopened : ℕ → Hash → List Order → (reply : ℕ) → Batch
unopened kind hash orders reply = record {
  kind = kind;
  crew = 1;
  hash = hash;
  table = content 6 5 ∷ content 3 7 ∷ 0 ∷ [];
  orders = orders;
  ops = 3 ∷ [];
  lines = 0 ∷ [];
  workers = 0 ∷ [];
  keys = 0 ∷ [];
  out = 77 ∷ [];
  reply = reply;
  closed = content 6 5 ∷ content 3 7 ∷ 0 ∷ [];
  answers = 77 ∷ [];
}

-- look-ups where one of the lists lent is the shortest; a number that is neither 1 nor 2 closes, here refused since the order is unfinished
abbrev pub lent : (ops lines workers keys answers : List ℕ) → Batch
lent ops lines workers keys answers = record {
  kind = 3;
  crew = 1;
  hash = plain;
  table = content 6 5 ∷ content 3 7 ∷ 0 ∷ [];
  orders = [];
  ops = ops;
  lines = lines;
  workers = workers;
  keys = keys;
  out = 77 ∷ 77 ∷ 77 ∷ [];
  reply = 0;
  closed = content 6 5 ∷ content 3 7 ∷ 0 ∷ [];
  answers = answers;
}

module _ (b : Batch) where
  abbrev pub Leaves : Type 0
  Leaves =
      let cs = dealt gateway b.kind b.crew b.hash b.table b.orders b.ops b.lines b.workers b.keys b.out in
      (reply_answer (open_reply gateway b.kind b.crew b.hash b.table b.orders) ≡ b.reply)
      × ((after gateway b.kind b.crew b.hash b.table b.orders cs).table ≡ b.closed)
      × (answers_of gateway b.orders cs (opening gateway b.kind b.crew b.hash b.table b.orders) ++ drop (length cs) b.out ≡ b.answers)

abbrev pub AllLeave : List Batch → Type 0
AllLeave [] = Unit {0}
AllLeave (b ∷ bs) = Leaves b × AllLeave bs

abbrev pub batches : List Batch
batches =
    putting_in
    ∷ repricing
    ∷ looking_up
    ∷ spread_in
    ∷ spread_out
    ∷ spread_up
    -- no kind 4, also by an even a; an even a, though the table is sound by it too; a line of label 0; a third label for three cells
    ∷ unopened 4 (hash_of 2 0) [] (refused 3)
    ∷ unopened 3 (hash_of 2 0) [] (refused 21)
    ∷ unopened 2 (hash_of 4294967294 0) [] (refused 21)
    ∷ unopened 1 (hash_of 2 0) (orders_of (0 ∷ []) (1 ∷ []) (0 ∷ [])) (refused 21)
    ∷ unopened 1 plain (orders_of (0 ∷ []) (1 ∷ []) (0 ∷ [])) (refused 7)
    ∷ unopened 1 plain (orders_of (3 ∷ 4 ∷ []) (1 ∷ 1 ∷ []) (0 ∷ 0 ∷ [])) (refused 9)
    ∷ lent (1 ∷ []) (0 ∷ 0 ∷ 0 ∷ []) (0 ∷ 0 ∷ 0 ∷ []) (3 ∷ 0 ∷ 0 ∷ []) (0 ∷ 77 ∷ 77 ∷ [])
    ∷ lent (1 ∷ 9 ∷ 2 ∷ []) (0 ∷ 0 ∷ []) (0 ∷ 0 ∷ 0 ∷ []) (3 ∷ 0 ∷ 0 ∷ []) (0 ∷ refused 10 ∷ 77 ∷ [])
    ∷ lent (1 ∷ 2 ∷ 2 ∷ []) (0 ∷ 0 ∷ 0 ∷ []) (0 ∷ []) (3 ∷ 0 ∷ 0 ∷ []) (0 ∷ 77 ∷ 77 ∷ [])
    ∷ lent (1 ∷ 2 ∷ 2 ∷ []) (0 ∷ 0 ∷ 0 ∷ []) (0 ∷ 0 ∷ 0 ∷ []) (3 ∷ 0 ∷ []) (0 ∷ word 1 ∷ 77 ∷ [])
    ∷ []

abbrev pub BatchesPromise : Type 0
BatchesPromise = AllLeave batches
