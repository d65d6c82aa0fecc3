-- Rounds of the gateway, computed. Numbers of refusals are the documents', 0 where there is none. Proved in proofs/Examples.
use Rattle.std.specs.Prelude.{◌≡◌, ◌≢◌, List, [], ◌∷◌, ℕ, ◌<◌, replicate}
use Rattle.homes.specs.Homes.{plain, hash_of}
use Rattle.homes.specs.declared.Hash.{Hash}
use Rattle.prices.specs.Contents.{content}
use Rattle.orders.specs.Orders.{order_with}
use Rattle.orders.specs.declared.Order.{Order}
use Rattle.state.specs.Counts.{count_number, count_value}
use Rattle.state.specs.Model.{gateway}
use Rattle.state.specs.Refusals.{reply_number}
use Rattle.rounds.specs.Rounds.{Ack, ack_with, acks_of, open_round, sent_table, ack_numbers, close_round, table_after, answers_after, list_after}

-- ---- what the calls answer and leave
-- opening for m workers by a and b on a lent table: the number, and the table afterwards
abbrev pub opening : (m : ℕ) (ab : Hash) (t : List ℕ) (os : List Order) → ℕ × List ℕ
opening m ab t os = (reply_number (open_round gateway m ab t os), sent_table gateway m ab t os)

-- closing: the number, the count, and table, answers and list afterwards
abbrev pub closing : (m : ℕ) (ab : Hash) (t : List ℕ) (rs : List Ack) (answers out : List ℕ) → ℕ × ℕ × List ℕ × List ℕ × List ℕ
closing m ab t rs answers out = (
  count_number (close_round gateway m ab t rs answers out),
  count_value (close_round gateway m ab t rs answers out),
  table_after gateway m ab t rs answers out,
  answers_after gateway m ab t rs answers out,
  list_after gateway m ab t rs answers out,
)

-- a refusal changes nothing
abbrev pub OpeningGets : ℕ → (m : ℕ) (ab : Hash) (t : List ℕ) (os : List Order) → Type 0
OpeningGets n m ab t os = opening m ab t os ≡ (n, t)

abbrev pub ClosingGets : ℕ → (m : ℕ) (ab : Hash) (t : List ℕ) (rs : List Ack) (answers out : List ℕ) → Type 0
ClosingGets n m ab t rs answers out = closing m ab t rs answers out ≡ (n, 0, t, answers, out)

-- ---- lists and tables
-- five cells of which none is empty; one has no key, one a price that no label can have, one key stands twice
abbrev pub junk : List ℕ
junk = content 9 7 ∷ content 9 8 ∷ 5 ∷ content 1 1 ∷ content 6 10000000 ∷ []

-- 3 twice, at two prices
abbrev pub sent : List Order
sent = order_with 3 250 0 ∷ order_with 8 100 1 ∷ order_with 13 70 0 ∷ order_with 4 5 1 ∷ order_with 3 100 1 ∷ []

-- their table
abbrev pub waiting : List ℕ
waiting = content 4 5 ∷ content 3 100 ∷ 0 ∷ content 13 70 ∷ content 8 100 ∷ []

-- the same by a of 3 and b of 4
abbrev pub spread_table : List ℕ
spread_table = content 3 100 ∷ content 4 5 ∷ 0 ∷ content 13 70 ∷ content 8 100 ∷ []

-- 8 twice, no key, a worker that a crew of two lacks, a key not sent
abbrev pub acks : List Ack
acks = ack_with 8 0 ∷ ack_with 8 1 ∷ ack_with 0 0 ∷ ack_with 3 2 ∷ ack_with 9 1 ∷ []

-- lent for answers and for the list
abbrev pub seven : List ℕ
seven = 60 ∷ 61 ∷ 62 ∷ 63 ∷ 64 ∷ 65 ∷ 66 ∷ []

abbrev pub six : List ℕ
six = 70 ∷ 71 ∷ 72 ∷ 73 ∷ 74 ∷ 75 ∷ []

-- one line
abbrev pub only : (key price worker : ℕ) → List Order
only key price worker = order_with key price worker ∷ []

pub record Examples : Type 0 where
  -- a round: what stood in the lent cells doesn't matter; of 3 the least price stands
  pub opened : opening 2 plain junk sent ≡ (0, waiting)
  -- of three prices the one in the middle of the list is the least; a lower one in the lent cells doesn't count
  pub thrice : opening 2 plain junk (order_with 3 250 0 ∷ order_with 3 100 1 ∷ order_with 3 180 0 ∷ []) ≡ (0, 0 ∷ 0 ∷ 0 ∷ content 3 100 ∷ 0 ∷ [])
  pub lower_lent : opening 2 plain (0 ∷ 0 ∷ 0 ∷ content 3 50 ∷ 0 ∷ []) (only 3 100 0) ≡ (0, 0 ∷ 0 ∷ 0 ∷ content 3 100 ∷ 0 ∷ [])
  -- by a of 3 and b of 4
  pub spread : opening 2 (hash_of 3 4) junk sent ≡ (0, spread_table)
  pub spread_closes : closing 1 (hash_of 3 4) spread_table (ack_with 13 0 ∷ []) (60 ∷ []) (70 ∷ 71 ∷ 72 ∷ 73 ∷ [])
      ≡ (0, 3, 0 ∷ content 4 5 ∷ 0 ∷ content 8 100 ∷ content 3 100 ∷ [], 0 ∷ [], content 4 5 ∷ content 8 100 ∷ content 3 100 ∷ 73 ∷ [])
  -- acknowledgements lent as two lists: as many as the shorter has
  pub lent_acks : acks_of (8 ∷ 3 ∷ 4 ∷ []) (0 ∷ 1 ∷ []) ≡ ack_with 8 0 ∷ ack_with 3 1 ∷ []
  pub fewer_keys : acks_of (8 ∷ []) (0 ∷ 1 ∷ []) ≡ ack_with 8 0 ∷ []
  -- 3, 13 and 4 are left and listed; each acknowledgement has its own answer; places behind answers and list keep their contents
  pub closed : closing 2 plain waiting acks seven six
      ≡ (
        0,
        3,
        content 3 100 ∷ 0 ∷ 0 ∷ content 13 70 ∷ content 4 5 ∷ [],
        0 ∷ 0 ∷ 7 ∷ 6 ∷ 22 ∷ 65 ∷ 66 ∷ [],
        content 3 100 ∷ content 13 70 ∷ content 4 5 ∷ 73 ∷ 74 ∷ 75 ∷ [],
      )
  -- with a third worker 3 is acknowledged too
  pub third : closing 3 plain waiting acks seven six
      ≡ (
        0,
        2,
        0 ∷ 0 ∷ 0 ∷ content 13 70 ∷ content 4 5 ∷ [],
        0 ∷ 0 ∷ 7 ∷ 0 ∷ 22 ∷ 65 ∷ 66 ∷ [],
        content 13 70 ∷ content 4 5 ∷ 72 ∷ 73 ∷ 74 ∷ 75 ∷ [],
      )
  -- of two acknowledgements of one key one is refused
  pub one_of_two : closing 2 plain waiting (ack_with 3 2 ∷ ack_with 3 1 ∷ []) (60 ∷ 61 ∷ []) (70 ∷ 71 ∷ 72 ∷ 73 ∷ [])
      ≡ (0, 3, content 4 5 ∷ 0 ∷ 0 ∷ content 13 70 ∷ content 8 100 ∷ [], 6 ∷ 0 ∷ [], content 4 5 ∷ content 13 70 ∷ content 8 100 ∷ 73 ∷ [])
  -- a key for factory tests that the lent table has is acknowledged and listed like any other
  pub tests_lent : closing 1 plain (content 4294967295 7 ∷ content 4000000000 9 ∷ 0 ∷ []) (ack_with 4294967295 0 ∷ ack_with 4294967294 0 ∷ []) (60 ∷ 61 ∷ []) (70 ∷ 71 ∷ [])
      ≡ (0, 1, 0 ∷ content 4000000000 9 ∷ 0 ∷ [], 0 ∷ 22 ∷ [], content 4000000000 9 ∷ 71 ∷ [])
  -- none acknowledged, and nothing sent
  pub silent : closing 1 plain waiting [] [] six
      ≡ (0, 4, waiting, [], content 4 5 ∷ content 3 100 ∷ content 13 70 ∷ content 8 100 ∷ 74 ∷ 75 ∷ [])
  pub none_sent : opening 1 plain junk [] ≡ (0, 0 ∷ 0 ∷ 0 ∷ 0 ∷ 0 ∷ [])
  pub none_left : closing 1 plain (0 ∷ 0 ∷ 0 ∷ 0 ∷ 0 ∷ []) (ack_with 3 0 ∷ []) seven []
      ≡ (0, 0, 0 ∷ 0 ∷ 0 ∷ 0 ∷ 0 ∷ [], 22 ∷ 61 ∷ 62 ∷ 63 ∷ 64 ∷ 65 ∷ 66 ∷ [], [])
  -- of the answers 7 comes before 6 and 22, and 6 before 22
  pub in_sequence_says : ack_numbers 2 waiting (ack_with 0 2 ∷ ack_with 9 2 ∷ ack_with 0 0 ∷ ack_with 9 0 ∷ ack_with 3 2 ∷ ack_with 3 1 ∷ [])
      ≡ 7 ∷ 6 ∷ 7 ∷ 22 ∷ 6 ∷ 0 ∷ []
  -- each refusal of opening
  pub one_cell : OpeningGets 1 2 plain (5 ∷ []) sent
  pub no_crew : OpeningGets 2 0 plain junk sent
  pub large_crew : OpeningGets 2 17 plain junk sent
  pub even : OpeningGets 21 2 (hash_of 2 0) junk sent
  pub long : (n : ℕ) → 65536 < n → (o : Order) → OpeningGets 16 2 plain junk (replicate n o)
  pub just_long : (o : Order) → reply_number (open_round gateway 2 plain junk (replicate 65536 o)) ≢ 16
  -- 1 before 2, 2 before 21, 21 before the lines
  pub size_first : OpeningGets 1 0 (hash_of 2 0) (5 ∷ []) sent
  pub crew_next : OpeningGets 2 0 (hash_of 2 0) junk sent
  pub even_next : OpeningGets 21 2 (hash_of 2 0) junk (only 0 0 2)
  pub even_before_test : OpeningGets 21 2 (hash_of 2 0) junk (only 4000000000 0 2)
  pub no_key : OpeningGets 7 2 plain junk (only 0 1 0)
  pub test_number : OpeningGets 24 2 plain junk (only 4000000000 1 0)
  pub greatest : OpeningGets 24 2 plain junk (only 4294967295 1 0)
  pub last_of_a_shop : opening 2 plain junk (only 3999999999 1 0) ≡ (0, 0 ∷ 0 ∷ 0 ∷ 0 ∷ content 3999999999 1 ∷ [])
  pub no_price : OpeningGets 14 2 plain junk (only 3 0 0)
  pub high_price : OpeningGets 14 2 plain junk (only 3 10000000 0)
  pub no_worker : OpeningGets 6 2 plain junk (only 3 1 2)
  -- five keys for five cells
  pub full : OpeningGets 9 2 plain junk (order_with 5 1 0 ∷ sent)
  -- 7 before 14 and 6 in one line, 24 before 14 and 6, 14 before 6; but the earliest line decides; 9 comes last
  pub key_first : OpeningGets 7 2 plain junk (only 0 0 2)
  pub test_next : OpeningGets 24 2 plain junk (only 4000000000 0 2)
  pub price_next : OpeningGets 14 2 plain junk (only 3 0 2)
  pub earliest : OpeningGets 6 2 plain junk (order_with 3 1 2 ∷ only 0 1 0)
  pub key_earlier : OpeningGets 7 2 plain junk (order_with 0 1 0 ∷ only 4000000000 1 0)
  pub test_earlier : OpeningGets 24 2 plain junk (order_with 4000000000 1 0 ∷ only 0 1 0)
  pub test_before_full : OpeningGets 24 2 plain junk (order_with 4000000000 1 0 ∷ sent)
  pub full_last : OpeningGets 6 2 plain junk (order_with 5 1 2 ∷ sent)
  -- each refusal of closing
  pub one_cell_closes : ClosingGets 1 2 plain (0 ∷ []) acks seven six
  pub no_crew_closes : ClosingGets 2 0 plain waiting acks seven six
  pub large_crew_closes : ClosingGets 2 17 plain waiting acks seven six
  pub even_closes : ClosingGets 21 2 (hash_of 2 0) waiting acks seven six
  -- no empty cell; a cell without a key
  pub damaged : ClosingGets 4 2 plain junk acks seven six
  pub keyless : ClosingGets 4 2 plain (0 ∷ 0 ∷ 5 ∷ 0 ∷ 0 ∷ []) acks seven six
  -- 6 stands before its home, which is empty; 13 behind 8
  pub gap : ClosingGets 17 2 plain (content 6 1 ∷ 0 ∷ 0 ∷ 0 ∷ 0 ∷ []) acks seven six
  pub disorder : ClosingGets 18 2 plain (0 ∷ 0 ∷ 0 ∷ content 8 1 ∷ content 13 1 ∷ []) acks seven six
  -- four keys and three places, though three would be left; five acknowledgements and four places
  pub short_list : ClosingGets 12 2 plain waiting acks seven (70 ∷ 71 ∷ 72 ∷ [])
  pub few_places : ClosingGets 12 2 plain waiting acks (60 ∷ 61 ∷ 62 ∷ 63 ∷ []) six
  -- 1 before 2, 2 before 21, and 12 comes last
  pub size_first_closes : ClosingGets 1 0 (hash_of 2 0) (0 ∷ []) acks [] []
  pub crew_next_closes : ClosingGets 2 0 (hash_of 2 0) waiting acks seven six
  pub gap_first : ClosingGets 17 2 plain (content 6 1 ∷ 0 ∷ 0 ∷ 0 ∷ 0 ∷ []) acks [] []
  pub damaged_first : ClosingGets 4 2 plain junk acks [] []
