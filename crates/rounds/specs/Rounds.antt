-- Reply rounds (document 02, point 8): a list is sent and stands in the table, the keys that reply are taken out, and what is left is listed.
use Rattle.std.specs.Prelude.{◌≡◌, Bool, true, cond, List, [], ◌∷◌, ◌++◌, map, ℕ, ltb, leb, eqb, length, drop, replicate, Ok, Err}
use Rattle.layout.specs.Layout.{listed}
use Rattle.homes.specs.declared.Hash.{Hash}
use Rattle.prices.specs.Contents.{label, content}
use Rattle.prices.specs.Priced.{labels, priced_layout, without_labels}
use Rattle.orders.specs.declared.Order.{Order}
use Rattle.words.specs.Words.{count_of, filled}
use Rattle.state.specs.Counts.{counted_by, if_counted}
use Rattle.state.specs.Model.{Model, crew_ok}
use Rattle.state.specs.Open.{hash_bars, size_bars, sound_bars, open_reply}
use Rattle.state.specs.Refusals.{Bar, if, unless, reply_number, first_of}
use Rattle.state.specs.Replies.{Counted, Reply}
use Rattle.state.specs.declared.Refusal.TheVariants.{Crew, NoWorker, Blank, ShortList, Absent}

-- ---- acknowledgements (document 02: replies): the key that replied, and the worker that heard it
pub record Ack : Type 0 where
  pub key : ℕ
  pub worker : ℕ

abbrev pub ack_with : (key worker : ℕ) → Ack
ack_with key worker = record { key = key; worker = worker }

-- what stands past the end of a list of them
abbrev pub no_ack : Ack
no_ack = ack_with 0 0

-- given as their keys and their workers: as many as the shorter of the two lists has
unfoldable pub acks_of : (keys workers : List ℕ) → List Ack
acks_of [] ws = []
acks_of (v ∷ vs) [] = []
acks_of (v ∷ vs) (w ∷ ws) = ack_with v w ∷ acks_of vs ws

-- ---- opening: the list os is sent, for a crew of m workers, by a and b, on the lent table t
-- its entries, each key with its price
abbrev pub line_entry : Order → ℕ
line_entry o = content o.key o.price

abbrev pub sent_entries : List Order → List ℕ
sent_entries os = map line_entry os

-- one of two: the first where the call is accepted
abbrev pub if_accepted : {A : Type 0} → Reply → A → A → A
if_accepted (Ok _) kept refused = kept
if_accepted (Err r) kept refused = refused

module _ (M : Model) (m : ℕ) (ab : Hash) (t : List ℕ) (os : List Order) where
  -- checked as by the opening of an insert phase (put-in shift) on an empty table of the lent table's length
  abbrev pub open_round : Reply
  open_round = open_reply M 1 m ab (replicate (length t) 0) os

  -- the lent table afterwards: the layout of what was sent, whatever stood in it, or as it was
  abbrev pub sent_table : List ℕ
  sent_table = if_accepted open_round (priced_layout (length t) label (M.home ab (length t)) (sent_entries os)) t

-- ---- closing: each acknowledgement's own answer, for a crew of m workers on the lent table t
-- 7 for key 0, 6 for a worker that the crew lacks, 22 for a key that the lent table lacks, in this order
abbrev pub ack_bars : ℕ → List ℕ → Ack → List Bar
ack_bars m t r = if (eqb r.key 0) Blank ∷ if (leb m r.worker) NoWorker ∷ unless (listed r.key (labels label t)) Absent ∷ []

abbrev pub ack_reply : ℕ → List ℕ → Ack → Reply
ack_reply m t r = first_of (ack_bars m t r)

-- their numbers, 0 for one that is accepted
abbrev pub ack_numbers : ℕ → List ℕ → List Ack → List ℕ
ack_numbers m t rs = map (λ (r : Ack). reply_number (ack_reply m t r)) rs

-- the keys of those whose number is 0
unfoldable pub acked : List Ack → List ℕ → List ℕ
acked [] ns = []
acked (r ∷ rs) [] = []
acked (r ∷ rs) (n ∷ ns) = cond (eqb n 0) (r.key ∷ acked rs ns) (acked rs ns)

-- what a delete phase (take-out shift) is ordered for them
abbrev pub orders_out : List ℕ → List ℕ
orders_out vs = map (λ v. content v 0) vs

-- ---- the call: acknowledgements rs, with a list lent for their answers and one for what is left
-- the lent list is shorter than the lent table's count of keys, or there are fewer places for answers than acknowledgements
abbrev pub is_short : (t : List ℕ) (acks answers out : ℕ) → Bool
is_short t acks answers out = cond (ltb out (count_of t)) true (ltb answers acks)

-- the layout of what is left: the lent table without the keys of the accepted acknowledgements
abbrev pub left_table : (M : Model) (m : ℕ) (ab : Hash) (t : List ℕ) (rs : List Ack) → List ℕ
left_table M m ab t rs = priced_layout (length t) label (M.home ab (length t)) (without_labels label (orders_out (acked rs (ack_numbers m t rs))) t)

module _ (M : Model) (m : ℕ) (ab : Hash) (t : List ℕ) (rs : List Ack) (answers out : List ℕ) where
  -- 1, 2, 21, then 4, 17 and 18, then 12
  abbrev pub round_bars : List Bar
  round_bars = size_bars M t ++ unless (crew_ok M m) Crew ∷ hash_bars ab ++ sound_bars M ab t ++ if (is_short t (length rs) (length answers) (length out)) ShortList ∷ []

  -- how many keys are left, or the refusal
  abbrev pub close_round : Counted
  close_round = counted_by (count_of (left_table M m ab t rs)) (first_of round_bars)

  -- the lent table, the answers and the list afterwards; a refusal leaves each as it was
  abbrev pub table_after : List ℕ
  table_after = if_counted close_round (left_table M m ab t rs) t

  abbrev pub answers_after : List ℕ
  answers_after = if_counted close_round (ack_numbers m t rs ++ drop (length rs) answers) answers

  abbrev pub list_after : List ℕ
  list_after = if_counted close_round (filled (left_table M m ab t rs) out) out

-- ---- what the functions give
pub record Opens (M : Model) (m : ℕ) (ab : Hash) (t : List ℕ) (os : List Order) (r : Reply) (t' : List ℕ) : Type 0 where
  pub reply : r ≡ open_round M m ab t os
  pub table : t' ≡ sent_table M m ab t os

pub record Closes (M : Model) (m : ℕ) (ab : Hash) (t : List ℕ) (rs : List Ack) (answers out : List ℕ)
    (r : Counted) (t' answers' out' : List ℕ) : Type 0 where
  pub reply : r ≡ close_round M m ab t rs answers out
  pub table : t' ≡ table_after M m ab t rs answers out
  pub told : answers' ≡ answers_after M m ab t rs answers out
  pub list : out' ≡ list_after M m ab t rs answers out
