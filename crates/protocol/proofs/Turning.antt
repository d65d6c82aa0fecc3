-- What a turn gives where no test refuses it: by one worker alone, and of the whole phase.
use Rattle.std.specs.Prelude.{Option, ℕ, Some, None, Ok, Err}
use Prim.Native.Nat.{ℕ, zero, suc, ◌<◌}
use mathlib.Core.Bool.{true, false}
use mathlib.Core.List.{List, [], ◌∷◌}
use mathlib.Core.Path.{◌≡◌, refl, ap}
use native.Mathlib.Omega.{arith}
use borrow.Author.Tests.{eq-eqb, lt-leb}
use lib.ListN.{length, get_or, set, length-set}
use Rattle.rule.specs.declared.Answer.TheVariants as answer
use Rattle.rule.specs.declared.Outcome.{Outcome}
use Rattle.rule.specs.Rule.{touched, rule}
use Rattle.homes.specs.declared.Hash.{Hash}
use Rattle.prices.specs.Contents.{label}
use Rattle.activities.specs.Activities.{idle, cells_of, activity_ok, Below}
use Rattle.state.specs.Model.{Model}
use Rattle.state.specs.declared.Phase.{Phase}
use Rattle.state.specs.declared.Refusal.{Refusal}
use Rattle.activities.specs.declared.Worker.{Worker}
use Rattle.activities.proofs.Activities.{suits-says, cells-below}
use Rattle.rule.proofs.Suits.{touched-below}
use Rattle.protocol.specs.declared.Moved.{Moved}
use Rattle.protocol.specs.declared.Turned.{Turned}
use Rattle.protocol.specs.Calls.{with_worker, turn_check, moved_at, cells_at, turn_call, turn_table}
use Rattle.protocol.specs.Bars.{doing}
use Rattle.protocol.specs.Split.{one_at, one_cells_at, one_turn, one_cells}
use Rattle.protocol.specs.IsWellFormed.{is_well_formed}

-- ---- one worker by itself
module _ (k n : ℕ) (t : List ℕ) (w : Worker) (ok : activity_ok k n label w.activity ≡ true) (fits : n ≡ length t) where
  pub one-within : Below n (cells_of w.activity)
  one-within = cells-below k n label w.activity ((suits-says k n label w.activity).0 ok)

  pub one_below : (c : ℕ) → touched w.activity ≡ Some c → c < length t
  one_below c e = let h = touched-below n w.activity c one-within e in omega arith

module _ (M : Model) (k : ℕ) (ab : Hash) (n : ℕ) (t : List ℕ) (w : Worker) where
  pub one-idle : touched w.activity ≡ None
      → (◌≡◌ {A = Moved} (record { worker = w; reply = Ok answer.Idle }) (one_turn M k ab n t w)) × (t ≡ one_cells M k ab n t w)
  one-idle e = (rw e, rw e)

  pub one-made : (c : ℕ) (o : Outcome) → touched w.activity ≡ Some c → o ≡ rule k n label (M.home ab n) w.activity (get_or t c 0)
      → (◌≡◌ {A = Moved} (record { worker = record { activity = o.activity }; reply = Ok o.answer }) (one_turn M k ab n t w))
      × (set t c o.content ≡ one_cells M k ab n t w)
  one-made c o e h = (rw (e, h), rw (e, h))

  at_long : (q : Option ℕ) → length (one_cells_at M k ab n t w q) ≡ length t
  at_long None = refl
  at_long (Some c) = length-set t c _

  -- the table keeps its length
  pub one-long : length (one_cells M k ab n t w) ≡ length t
  one-long = at_long (touched w.activity)

-- ---- the whole phase
pub put_back : (ws : List Worker) (i : ℕ) → set ws i (record { activity = (get_or ws i idle).activity }) ≡ ws
put_back [] i = refl
put_back (w ∷ ws) zero = refl
put_back (w ∷ ws) (suc i) = ap (◌∷◌ w) (put_back ws i)

-- the phase with worker w as it is after the turn of that worker by itself
abbrev pub with-moved : Phase → ℕ → Moved → Turned
with-moved p w m = record { phase = with_worker p w m.worker.activity; reply = m.reply }

module _ (M : Model) (p : Phase) (t : List ℕ) (w : ℕ) where
  pub turn-refused : (r : Turned) (why : Refusal) → r ≡ record { phase = p; reply = Err why } → turn_check M p t w ≡ Err why
      → (r ≡ turn_call M p t w) × (t ≡ turn_table M p t w)
  turn-refused r why e h = (rw (e, h), rw h)

  abbrev worker : Worker
  worker = get_or p.workers w idle

  at_place : (q : Option ℕ) → (with-moved p w (one_at M p.kind p.hash p.length t worker q) ≡ moved_at M p t w q)
      × (one_cells_at M p.kind p.hash p.length t worker q ≡ cells_at M p t w q)
  at_place None = (rw put_back, refl)
  at_place (Some c) = (refl, refl)

  -- a turn of the phase that is not refused is that turn
  pub turn-by-one : is_well_formed M p ≡ true → p.shut ≡ false → p.length ≡ length t → w < p.crew
      → (with-moved p w (one_turn M p.kind p.hash p.length t worker) ≡ turn_call M p t w)
      × (one_cells M p.kind p.hash p.length t worker ≡ turn_table M p t w)
  turn-by-one good up fits below =
      let all : turn_check M p t w ≡ (Ok tt) = simp (good, up, eq-eqb _ _ fits, lt-leb _ _ below) in
      rw all (at_place (touched (doing p w)))
