-- A line to one worker of an open phase, for a loop that keeps the phase in place: what it leaves of the worker, the cells and the buffer.
use Rattle.std.specs.Prelude.{◌≡◌, List, [], ◌∷◌, ◌++◌, ℕ, take, drop}
use Rattle.homes.specs.declared.Hash.{Hash}
use Rattle.state.specs.Model.{gateway}
use Rattle.activities.specs.declared.Worker.{Worker}
use Rattle.protocol.specs.Split.{one_order, one_turn, one_cells}
use Rattle.text.specs.Digits.{digits_of}
use Rattle.printing.specs.Fields.{PrintedWithin, reply_fields, turn_fields}
use Rattle.answering.specs.declared.Worked.{Worked}
use Rattle.sheet.specs.Replay.{longest_answer}

-- sheet line n with these fields behind its number
abbrev pub line_with : ℕ → List ℕ → List ℕ
line_with n fields = digits_of n ++ (fields ++ 10 ∷ [])

-- line `number`, an order of v at a price to worker a in a phase of kind k and length n, by the phase's hash function
pub record OrderAnswers (k : ℕ) (ab : Hash) (n : ℕ) (a : Worker) (v cents number : ℕ) (out : List ℕ) (at : ℕ) (out' : List ℕ) (r : Worked) : Type 0 where
  pub worker : r.worker ≡ (one_order gateway k ab n a v cents).worker
  pub printed : PrintedWithin longest_answer (line_with number (reply_fields (one_order gateway k ab n a v cents).reply)) out at out' r.at

-- line `number`, a turn of worker a in a phase of kind k and length n, by the phase's hash function, whose table is the first of the cells
pub record TurnAnswers (k : ℕ) (ab : Hash) (n : ℕ) (a : Worker) (number places : ℕ) (cells out : List ℕ) (at : ℕ) (cells' out' : List ℕ)
    (r : Worked) : Type 0 where
  pub worker : r.worker ≡ (one_turn gateway k ab n (take places cells) a).worker
  pub store : cells' ≡ one_cells gateway k ab n (take places cells) a ++ drop places cells
  pub printed : PrintedWithin longest_answer (line_with number (turn_fields (one_turn gateway k ab n (take places cells) a).reply)) out at out' r.at
