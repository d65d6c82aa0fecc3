-- The line `run`: turns dealt to workers 0, 1 and so on, one lap after the other, until all are idle.
use Rattle.std.specs.Prelude.{cond, List, ℕ, zero, suc, get_or, set, replicate, Option, Some, None, Ok, Err}
use Rattle.rule.specs.declared.Answer.{Answer}
use Rattle.rule.specs.declared.Answer.TheVariants.{WentOn, Finished, Price, No}
use Rattle.rule.specs.declared.Answer.TheVariants as answer
use Rattle.phases.specs.Promise.{most_rest}
use Rattle.state.specs.Model.{Model}
use Rattle.state.specs.declared.Phase.{Phase}
use Rattle.protocol.specs.Bars.{all_idle}
use Rattle.protocol.specs.Calls.{turn_call, turn_table}
use Rattle.protocol.specs.Replies.{TurnReply}
use Rattle.dealing.specs.declared.Dealt.{Dealt}
use Rattle.dealing.specs.declared.Ended.{Ended}

-- no operation of the worker has ended
abbrev pub unfinished : Option Ended
unfinished = None

-- how the worker's operation ended, after a turn's answer
abbrev pub finish_by : Option Ended → Answer → Option Ended
finish_by f WentOn = f
finish_by f Finished = Some Ended.Finished
finish_by f (Price q) = Some (Ended.Price q)
finish_by f No = Some Ended.No
finish_by f answer.Idle = f

abbrev pub finish_after : Option Ended → TurnReply → Option Ended
finish_after f (Ok a) = finish_by f a
finish_after f (Err r) = f

-- a phase with how the operations of its workers ended, and the table
pub record Dealing : Type 0 where
  pub dealt : Dealt
  pub table : List ℕ

-- more laps than steps can still be counted: then all workers are idle
abbrev pub enough : Phase → ℕ
enough p = suc (most_rest p.length p.crew)

module _ (M : Model) where
  abbrev pub begun : Phase → List ℕ → Dealing
  begun p t = record { dealt = record { phase = p; finishes = replicate M.room unfinished }; table = t }

  -- a turn of worker w
  unfoldable pub deal_to : ℕ → Dealing → Dealing
  deal_to w d =
      let p = d.dealt.phase in
      let fs = d.dealt.finishes in
      let r = turn_call M p d.table w in
      record {
        dealt = record { phase = r.phase; finishes = set fs w (finish_after (get_or fs w unfinished) r.reply) };
        table = turn_table M p d.table w;
      }

  -- a turn of each worker below m, the first one first
  unfoldable pub deal : ℕ → Dealing → Dealing
  deal zero d = d
  deal (suc w) d = deal_to w (deal w d)

  -- a turn of each worker of the phase
  abbrev pub lap : Dealing → Dealing
  lap d = deal d.dealt.phase.crew d

  -- laps until all workers are idle, at most f
  unfoldable pub laps : ℕ → Dealing → Dealing
  laps zero d = d
  laps (suc f) d = cond (all_idle d.dealt.phase.workers) d (laps f (lap d))

  abbrev pub run : Phase → List ℕ → Dealing
  run p t = laps (enough p) (begun p t)
