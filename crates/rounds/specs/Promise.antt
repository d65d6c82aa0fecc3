-- What is promised of reply rounds, for every table, list, number and model, in the document's words. Proved in proofs/Theorem.
use Rattle.std.specs.Prelude.{◌≡◌, ◌≢◌, ◌↔◌, ◌⊎◌, true, List, [], ◌∷◌, ◌++◌, ℕ, ◌+◌, ◌≤◌, ◌<◌, T, length, get_or, take, replicate, Ok, Err}
use Rattle.layout.specs.Layout.{In, size}
use Rattle.homes.specs.declared.Hash.{Hash}
use Rattle.prices.specs.Contents.{label, price}
use Rattle.prices.specs.Priced.{labels}
use Rattle.orders.specs.Orders.{blank, ordered_keys}
use Rattle.orders.specs.declared.Order.{Order}
use Rattle.words.specs.Promise.{InCellOrder}
use Rattle.rule.specs.Events.{Said}
use Rattle.state.specs.Counts.{count_number}
use Rattle.state.specs.Model.{Model, Proper}
use Rattle.state.specs.Refusals.{reply_number}
use Rattle.state.specs.declared.Refusal.{Refusal}
use Rattle.protocol.specs.Cases.{Case, case, wants, forbids, Decides}
use Rattle.protocol.specs.Lines.{line_cases}
use Rattle.protocol.specs.Promise.{Soundness, size_cases, even_cases, sound_cases, long_cases, full_cases}
use Rattle.protocol.specs.WellFormed.{Crew}
use Rattle.tables.specs.Calls as tables
use Rattle.history.specs.History.{Call, after}
use Rattle.history.specs.Promise.{OfLine}
use Rattle.rounds.specs.Rounds.{Ack, no_ack, acks_of, open_round, sent_table, ack_reply, acked, close_round, table_after, answers_after, list_after, Opens, Closes}

-- ---- opening
-- 1, 2, 21, 16, then the lines' 7, 24, 14 and 6, and 9 if the labels of an empty table and of the list, each counted once, are as many as the cells or more
abbrev pub send_cases : Model → ℕ → Hash → List ℕ → List Order → List Case
send_cases M m ab t os =
    size_cases M t ++ wants 2 (Crew M m) ∷ even_cases ab ++ long_cases M os ++ line_cases m os ++ full_cases (replicate (length t) 0) os

-- the entry y has the key and the price of a line of the list, and no line of its key has a lower price
pub record Cheapest (os : List Order) (y : ℕ) : Type 0 where
  pub line : OfLine os y
  pub most : (i : ℕ) → i < length os → (get_or os i blank).key ≡ label y → price y ≤ (get_or os i blank).price

module _ (M : Model) (m : ℕ) (ab : Hash) (t : List ℕ) (os : List Order) where
  pub record Sending : Type 0 where
    pub decides : Decides (reply_number (open_round M m ab t os)) (send_cases M m ab t os)
    -- the answer does not depend on what the lent table holds, only on its length
    pub unread : (u : List ℕ) → length u ≡ length t → open_round M m ab u os ≡ open_round M m ab t os
    -- a refusal changes nothing
    pub refused : reply_number (open_round M m ab t os) ≢ 0 → sent_table M m ab t os ≡ t
    -- else the table is sound, and has each key sent at the least price sent for it, and nothing else
    pub sound : reply_number (open_round M m ab t os) ≡ 0 → Soundness M ab (sent_table M m ab t os)
    pub sent : reply_number (open_round M m ab t os) ≡ 0 → (y : ℕ) → label y ≢ 0 → In y (sent_table M m ab t os) ↔ Cheapest os y
    pub sized : length (sent_table M m ab t os) ≡ length t
    -- it is what any put-in shift on an empty table leaves that is opened with the list and closed after every line was ordered, however turns fall
    pub filled : reply_number (open_round M m ab t os) ≡ 0 → (cs : List Call) → (after M 1 m ab (replicate (length t) 0) os cs).closed ≡ true
        → ((y : ℕ) → OfLine os y → In y (after M 1 m ab (replicate (length t) 0) os cs).ordered)
        → (after M 1 m ab (replicate (length t) 0) os cs).table ≡ sent_table M m ab t os

abbrev pub SendingPromise : Type 0
SendingPromise = (M : Model) → Proper M → (m : ℕ) (ab : Hash) (t : List ℕ) (os : List Order) → Sending M m ab t os

-- ---- each acknowledgement: 7, 6, and 22 if its key is not in the lent table
abbrev pub ack_cases : ℕ → List ℕ → Ack → List Case
ack_cases m t r = forbids 7 (r.key ≡ 0) ∷ case 6 (r.worker < m) (m ≤ r.worker) ∷ wants 22 (In r.key (labels label t)) ∷ []

abbrev pub AckPromise : Type 0
AckPromise = (m : ℕ) (t : List ℕ) (r : Ack) → Decides (reply_number (ack_reply m t r)) (ack_cases m t r)

-- lent as two lists there are as many as both have places, each with what stands at its place
pub record TwoLists (keys workers : List ℕ) : Type 0 where
  pub many : (n : ℕ) → (n ≤ length (acks_of keys workers)) ↔ ((n ≤ length keys) × (n ≤ length workers))
  pub key : (i : ℕ) → i < length (acks_of keys workers) → (get_or (acks_of keys workers) i no_ack).key ≡ get_or keys i 0
  pub worker : (i : ℕ) → i < length (acks_of keys workers) → (get_or (acks_of keys workers) i no_ack).worker ≡ get_or workers i 0

abbrev pub TwoListsPromise : Type 0
TwoListsPromise = (keys workers : List ℕ) → TwoLists keys workers

-- ---- some acknowledgement of the key v has the answer 0
pub record Acked (rs : List Ack) (answers : List ℕ) (v : ℕ) : Type 0 where
  pub place : ℕ
  pub inside : place < length rs
  pub is : (get_or rs place no_ack).key ≡ v
  pub answer : get_or answers place 1 ≡ 0

-- ---- what a look-up shift said is what acknowledgements of those labels by a worker of the crew are answered: 0 exactly if the label was found
abbrev pub AsSaid : ℕ → List ℕ → List Said → Type 0
AsSaid m t [] = Unit {0}
AsSaid m t (a ∷ others) =
    ((r : Ack) → r.key ≡ label a.wanted → r.worker < m → T a.found ↔ (reply_number (ack_reply m t r) ≡ 0)) × AsSaid m t others

-- ---- closing
-- 1, 2, 21, 4, 17, 18, and 12 for a list shorter than the lent table's label count or fewer answer places than acknowledgements
abbrev pub round_cases : Model → ℕ → Hash → List ℕ → (acks answers out : ℕ) → List Case
round_cases M m ab t acks answers out =
    size_cases M t
    ++ wants 2 (Crew M m)
    ∷ even_cases ab
    ++ sound_cases M ab t
    ++ case 12 ((size (labels label t) ≤ out) × (acks ≤ answers)) ((out < size (labels label t)) ⊎ (answers < acks))
    ∷ []

module _ (M : Model) (m : ℕ) (ab : Hash) (t : List ℕ) (rs : List Ack) (answers out : List ℕ) where
  pub record Closing : Type 0 where
    pub decides : Decides (count_number (close_round M m ab t rs answers out)) (round_cases M m ab t (length rs) (length answers) (length out))
    -- a refusal changes no cell, no answer and no list
    pub refused : count_number (close_round M m ab t rs answers out) ≢ 0
        → (table_after M m ab t rs answers out ≡ t) × (answers_after M m ab t rs answers out ≡ answers) × (list_after M m ab t rs answers out ≡ out)
    -- else each acknowledgement has its own answer, and the places past them keep their contents
    pub own : count_number (close_round M m ab t rs answers out) ≡ 0 → (i : ℕ) → i < length rs
        → get_or (answers_after M m ab t rs answers out) i 0 ≡ reply_number (ack_reply m t (get_or rs i no_ack))
    pub past : (j : ℕ) → length rs ≤ j → get_or (answers_after M m ab t rs answers out) j 0 ≡ get_or answers j 0
    pub places : length (answers_after M m ab t rs answers out) ≡ length answers
    -- these are the answers of any look-up shift on the lent table, however turns fall
    pub looked_up : count_number (close_round M m ab t rs answers out) ≡ 0 → (os : List Order) (cs : List Call) → AsSaid m t (after M 3 m ab t os cs).said
    -- the table is sound, has the entries of the lent table whose keys have no accepted acknowledgement, and nothing else
    pub sound : count_number (close_round M m ab t rs answers out) ≡ 0 → Soundness M ab (table_after M m ab t rs answers out)
    pub left : count_number (close_round M m ab t rs answers out) ≡ 0 → (y : ℕ) → label y ≢ 0
        → In y (table_after M m ab t rs answers out) ↔ (In y t × (Acked rs (answers_after M m ab t rs answers out) (label y) → ⊥))
    pub sized : length (table_after M m ab t rs answers out) ≡ length t
    -- it is what any take-out shift on the lent table leaves that is closed after those keys were ordered, and no others, however turns fall
    pub taken : count_number (close_round M m ab t rs answers out) ≡ 0 → (os : List Order) (cs : List Call) → (after M 2 m ab t os cs).closed ≡ true
        → ((v : ℕ) → v ≢ 0 → In v (labels label (after M 2 m ab t os cs).ordered) ↔ Acked rs (answers_after M m ab t rs answers out) v)
        → (after M 2 m ab t os cs).table ≡ table_after M m ab t rs answers out
    -- and is listed as list does
    pub listed : count_number (close_round M m ab t rs answers out) ≡ 0
        → (tables.list_call M ab (table_after M m ab t rs answers out) out ≡ close_round M m ab t rs answers out)
        × (tables.list_after M ab (table_after M m ab t rs answers out) out ≡ list_after M m ab t rs answers out)

abbrev pub ClosingPromise : Type 0
ClosingPromise = (M : Model) → Proper M → (m : ℕ) (ab : Hash) (t : List ℕ) (rs : List Ack) (answers out : List ℕ) → Closing M m ab t rs answers out

-- ---- a round: the list os was sent; closing was handed the acknowledgements rs, left these answers and this list, and counted c
pub record Round (os : List Order) (rs : List Ack) (answers out : List ℕ) (c : ℕ) : Type 0 where
  -- every label sent has an accepted reply or is listed, never both
  pub each : (v : ℕ) → In v (ordered_keys os) → Acked rs answers v ⊎ In v (labels label (take c out))
  pub never_both : (v : ℕ) → Acked rs answers v → In v (labels label (take c out)) → ⊥
  -- the number of distinct labels sent equals the distinct labels so replied plus the labels listed
  pub number : size (ordered_keys os) ≡ size (acked rs answers) + c
  pub replied : (v : ℕ) → In v (acked rs answers) ↔ Acked rs answers v
  -- none is listed twice; nothing but what was sent is accepted or listed, and that at the least price sent for it
  pub once : (i j : ℕ) → i < c → j < c → label (get_or out i 0) ≡ label (get_or out j 0) → i ≡ j
  pub known : (v : ℕ) → Acked rs answers v → In v (ordered_keys os)
  pub cheapest : (y : ℕ) → In y (take c out) → Cheapest os y
  -- the list has a place for each
  pub room : c ≤ length out

-- if table, a and b come back as the opening left them and closing isn't refused, whatever the worker counts
abbrev pub ReplyRoundPromise : Type 0
ReplyRoundPromise = (M : Model) → Proper M → (m m' : ℕ) (ab : Hash) (t : List ℕ) (os : List Order) → open_round M m ab t os ≡ Ok tt
    → (rs : List Ack) (answers out : List ℕ) (c : ℕ) → close_round M m' ab (sent_table M m ab t os) rs answers out ≡ Ok c
    → Round os rs (answers_after M m' ab (sent_table M m ab t os) rs answers out) (list_after M m' ab (sent_table M m ab t os) rs answers out) c

-- ---- the same of the answers and the list that the functions give, and that the list has what is left in the table, in cell order; a refusal changes nothing
pub record GivesPromise : Type 0 where
  pub round : (M : Model) → Proper M → (m m' : ℕ) (ab : Hash) (t : List ℕ) (os : List Order) (t' : List ℕ) → Opens M m ab t os (Ok tt) t'
      → (rs : List Ack) (answers out : List ℕ) (c : ℕ) (t'' answers' out' : List ℕ) → Closes M m' ab t' rs answers out (Ok c) t'' answers' out'
      → Round os rs answers' out' c × InCellOrder t'' out'
  pub not_opened : (M : Model) (m : ℕ) (ab : Hash) (t : List ℕ) (os : List Order) (why : Refusal) (t' : List ℕ) → Opens M m ab t os (Err why) t' → t' ≡ t
  pub not_closed : (M : Model) (m : ℕ) (ab : Hash) (t : List ℕ) (rs : List Ack) (answers out : List ℕ) (why : Refusal) (t' answers' out' : List ℕ)
      → Closes M m ab t rs answers out (Err why) t' answers' out' → (t' ≡ t) × (answers' ≡ answers) × (out' ≡ out)
