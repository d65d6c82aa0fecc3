-- The hash function and the answers of the exported functions, as numbers.
use Rattle.std.specs.Prelude.{◌≡◌, List, [], ◌∷◌, ◌++◌, ℕ, ◌+◌, ◌^◌, ◌≤◌, ◌<◌, length, drop, Ok, Err}
use Rattle.homes.specs.declared.Hash.{Hash}
use Rattle.homes.specs.Homes.{plain}
use Rattle.prices.specs.Contents.{content}
use Rattle.orders.specs.Orders.{order_with, orders_of}
use Rattle.orders.specs.declared.Order.{Order}
use Rattle.state.specs.Model.{Model, model_of, gateway}
use Rattle.state.specs.Open.{open_reply}
use Rattle.state.specs.Refusals.{number_of}
use Rattle.state.specs.Replies.{Counted}
use Rattle.state.specs.declared.Device.{Device}
use Rattle.state.specs.declared.Refusal.{Refusal}
use Rattle.tables.specs.Calls.{count_call, list_call, list_after}
use Rattle.rounds.specs.Examples.{junk, sent, waiting, acks, seven, six}
use Rattle.rounds.specs.Rounds as rounds
use Rattle.rounds.specs.Rounds.{Ack, open_round, sent_table, close_round, table_after, answers_after}
use Rattle.till.specs.Till.{till_call, keys_after, prices_after, workers_after}
use Rattle.history.specs.History.{Call, opening, after}
use Rattle.numbered.specs.Numbers.{refusal_answer, reply_answer}
use Rattle.numbered.specs.Lists.{answers_of}
use Rattle.numbered.specs.Batch.{dealt}
use Rattle.numbered.specs.Examples.{Batch, batches}

-- the count, or the number of the refusal
abbrev pub counted_answer : Counted → ℕ
counted_answer (Ok c) = c
counted_answer (Err r) = refusal_answer r

-- in each of the documents' models a count is a value, a refusal 2³² and its number
pub record CountsPromise : Type 0 where
  pub value : (c : ℕ) → counted_answer (Ok c) ≡ c
  pub refused : (r : Refusal) → counted_answer (Err r) ≡ 2 ^ 32 + number_of r
  pub count : (d : Device) (ab : Hash) (t : List ℕ) (c : ℕ) → count_call (model_of d) ab t ≡ Ok c → c < 2 ^ 32
  pub list : (d : Device) (ab : Hash) (t out : List ℕ) (c : ℕ) → list_call (model_of d) ab t out ≡ Ok c → c < 2 ^ 32
  pub round : (d : Device) (m : ℕ) (ab : Hash) (t : List ℕ) (rs : List Ack) (answers out : List ℕ) (c : ℕ)
      → close_round (model_of d) m ab t rs answers out ≡ Ok c → c < 2 ^ 32
  -- a till list's count is at most the places lent, so it is below 2³² where these are
  pub till : (d : Device) (text : List ℕ) (m places c : ℕ) → till_call (model_of d) text m places ≡ Ok c → c ≤ places

-- a list: the number of its answer, and the lent list afterwards
pub record ListNumbers (M : Model) (ab : Hash) (t out : List ℕ) (r : ℕ) (out' : List ℕ) : Type 0 where
  pub reply : r ≡ counted_answer (list_call M ab t out)
  pub list : out' ≡ list_after M ab t out

-- a till list read for m workers: the number of the answer, and the three lent lists afterwards
pub record TillNumbers (M : Model) (text : List ℕ) (m : ℕ) (ks ps ws : List ℕ) (r : ℕ) (ks' ps' ws' : List ℕ) : Type 0 where
  pub reply : r ≡ counted_answer (till_call M text m (length (orders_of ks ps ws)))
  pub keys : ks' ≡ keys_after M text m ks ps ws
  pub prices : ps' ≡ prices_after M text m ks ps ws
  pub workers : ws' ≡ workers_after M text m ks ps ws

-- a reply round opened for m workers with the list os: the number of the answer, and the table afterwards
pub record OpenNumbers (M : Model) (m : ℕ) (ab : Hash) (t : List ℕ) (os : List Order) (r : ℕ) (t' : List ℕ) : Type 0 where
  pub reply : r ≡ reply_answer (open_round M m ab t os)
  pub table : t' ≡ sent_table M m ab t os

-- closed with the acknowledgements rs: the number of the answer, the table, the answers and the list afterwards
pub record CloseNumbers (M : Model) (m : ℕ) (ab : Hash) (t : List ℕ) (rs : List Ack) (answers out : List ℕ) (r : ℕ) (t' answers' out' : List ℕ) : Type 0 where
  pub reply : r ≡ counted_answer (close_round M m ab t rs answers out)
  pub table : t' ≡ table_after M m ab t rs answers out
  pub told : answers' ≡ answers_after M m ab t rs answers out
  pub list : out' ≡ rounds.list_after M m ab t rs answers out

-- an opening with the list of orders os, and the calls
module _ (M : Model) (k m : ℕ) (ab : Hash) (t : List ℕ) (os : List Order) (ops lines workers keys out : List ℕ) where
  abbrev calls : List Call
  calls = dealt M k m ab t os ops lines workers keys out

  -- the number of the opening's answer, the table after the calls, and the list lent for the answers, in which the places behind them keep their contents
  pub record RunNumbers (r : ℕ) (t' out' : List ℕ) : Type 0 where
    pub reply : r ≡ reply_answer (open_reply M k m ab t os)
    pub table : t' ≡ (after M k m ab t os calls).table
    pub answers : out' ≡ answers_of M os calls (opening M k m ab t os) ++ drop (length calls) out

-- the batches of numbered/specs/Examples are given so, with the answers, tables and lists written out there. Proved in proofs/Batches
abbrev pub Given : Batch → Type 0
Given b =
    RunNumbers gateway b.kind b.crew b.hash b.table b.orders b.ops b.lines b.workers b.keys b.out
    b.reply b.closed b.answers

abbrev pub AllGiven : List Batch → Type 0
AllGiven [] = Unit {0}
AllGiven (b ∷ bs) = Given b × AllGiven bs

abbrev pub GivenPromise : Type 0
GivenPromise = AllGiven batches

-- rounds of rounds/specs/Examples, with the numbers written out: opened, refused with 9; closed with three left, refused with 12. Proved in proofs/Rounds
pub record RoundsGiven : Type 0 where
  pub opened : OpenNumbers gateway 2 plain junk sent 0 waiting
  pub full : OpenNumbers gateway 2 plain junk (order_with 5 1 0 ∷ sent) (4294967296 + 9) junk
  pub closed : CloseNumbers gateway 2 plain waiting acks seven six
      3
      (content 3 100 ∷ 0 ∷ 0 ∷ content 13 70 ∷ content 4 5 ∷ [])
      (0 ∷ 0 ∷ 7 ∷ 6 ∷ 22 ∷ 65 ∷ 66 ∷ [])
      (content 3 100 ∷ content 13 70 ∷ content 4 5 ∷ 73 ∷ 74 ∷ 75 ∷ [])
  pub short : CloseNumbers gateway 2 plain waiting acks [] six (4294967296 + 12) waiting [] six
