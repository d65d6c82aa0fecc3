-- Lines lead to phase states that an opening and calls have made, with an odd a.
use mathlib.Core.Path.{refl, subst}
use mathlib.Core.List.{List, []}
use Prim.Native.Nat.{ℕ}
use lib.ListN.{get_or}
use Rattle.homes.specs.Homes.{hash_of, plain}
use Rattle.homes.specs.declared.Hash.{Hash}
use Rattle.state.specs.Model.{gateway}
use Rattle.state.specs.Open.{open_reply}
use Rattle.protocol.specs.Promise.{Made, opened, ordered, turned, closed}
use Rattle.protocol.proofs.Chain.{by-reply}
use Rattle.protocol.proofs.Theorem.{open-passed, turns}
use Rattle.lines.specs.Grammar.{reading_of}
use Rattle.lines.specs.declared.Command.{Command}
use Rattle.sheet.specs.Replay.{State, open_task, commanded, answer_of, blank}
use Rattle.sheet.specs.Valid.{ByCalls}
use Rattle.sheet.proofs.Ran.{run-hash, run-made}
use Rattle.sheet.proofs.Hashes.{order-hash, close-hash}
use Rattle.sheet.proofs.Lines.{cells-keeps, line-keeps}

pub blank-by-calls : ByCalls blank.phase
blank-by-calls = record { made = opened 0 0 plain [] []; odd = (0, refl) }

module _ (s : State) (h : ByCalls s.phase) where
  -- an accepted opening had an odd a; a refused one leaves the phase that was there
  open-by-calls : (k m : ℕ) (ab : Hash) → ByCalls (open_task s k m ab).state.phase
  open-by-calls k m ab = by-reply (open_reply gateway k m ab s.table s.items)
      (λ e. rw e
      (record {
        made = subst (Made gateway) (rw e) (opened k m ab s.table s.items);
        odd = (open-passed gateway k m ab s.table s.items e).odd;
      }))
      (λ _ e. rw e h)

  task-by-calls : (d : Command) (ns : List ℕ) → ByCalls (commanded s d ns).state.phase
  task-by-calls Command.Cells ns = cells-keeps s (λ (x : State). ByCalls x.phase) (get_or ns 0 0) h (λ t. h)
  task-by-calls Command.Open ns = open-by-calls (get_or ns 0 0) (get_or ns 1 0) (hash_of (get_or ns 2 0) (get_or ns 3 0))
  task-by-calls Command.Item ns = h
  task-by-calls Command.Order ns = record {
    made = ordered _ h.made s.items (get_or ns 0 0) (get_or ns 0 0) (get_or ns 1 0);
    odd = rw (order-hash s (get_or ns 0 0) (get_or ns 0 0) (get_or ns 1 0)) h.odd;
  }
  task-by-calls Command.Turn ns = record {
    made = turned _ h.made s.table (get_or ns 0 0);
    odd = rw (turns gateway s.phase s.table (get_or ns 0 0)).others.frame.hash h.odd;
  }
  task-by-calls Command.Run ns = record {
    made = run-made gateway s.phase s.table h.made;
    odd = rw (run-hash gateway s.phase s.table) h.odd;
  }
  task-by-calls Command.Close ns = record { made = closed _ h.made; odd = rw (close-hash s) h.odd }
  task-by-calls Command.List ns = h

  pub line-by-calls : (l : List ℕ) → ByCalls (answer_of s (reading_of l)).state.phase
  line-by-calls l = line-keeps s l (λ (x : State). ByCalls x.phase) h (λ d n _ _. task-by-calls d n.values)
