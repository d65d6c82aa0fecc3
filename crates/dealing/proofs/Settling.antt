-- A run comes to its end: its turns are the steps of laps of events, after enough of which all workers are idle.
use Rattle.std.specs.Prelude.{Option, ℕ, Some, None, Ok}
use mathlib.Core.Path.{◌≡◌, refl, sym, ◌∙◌, subst, ap}
use mathlib.Core.Logic.{◌⊎◌, inl, inr}
use mathlib.Core.Bool.{true, false}
use mathlib.Core.List.{List}
use Prim.Native.Nat.{ℕ, zero, suc, ◌≤◌, ◌<◌}
use native.Mathlib.Omega.{arith}
use lib.ListN.{length, length-set}
use Rattle.ring.proofs.Tests.{by-test}
use Rattle.homes.specs.declared.Hash.{Hash}
use Rattle.prices.specs.Contents.{label}
use Rattle.prices.proofs.Contents.{contents}
use Rattle.orders.specs.declared.Order.{Order}
use Rattle.rule.specs.Events as events
use Rattle.rule.specs.Events.{AllIdle, Run, step, event}
use Rattle.rule.specs.Schedules as schedules
use Rattle.phases.specs.Promise.{most_rest}
use Rattle.phases.proofs.Rounds.{dealt, round-dealt}
use Rattle.phases.proofs.Steps.{either}
use Rattle.determinism.proofs.Settling.{rounds-idle}
use Rattle.history.specs.History.{History, turn, call, after}
use Rattle.history.proofs.Opening.{by-kinds}
use Rattle.protocol.specs.WellFormed.{Kind}
use Rattle.protocol.proofs.Chain.{by-reply}
use Rattle.protocol.proofs.Theorem.{turns}
use Rattle.protocol.proofs.WellFormed.{all-idle-says}
use Rattle.state.specs.Replies.{Reply}
use Rattle.history.proofs.Simulation.{Shows, turn-shows}
use Rattle.state.specs.Model.{Model, Proper}
use Rattle.state.specs.declared.Phase.{Phase}
use Rattle.rule.specs.Rule.{touched}
use Rattle.protocol.specs.Bars.{doing}
use Rattle.protocol.specs.Calls.{cells_at, turned_cells, turn_check, turn_call, turn_table}
use Rattle.dealing.specs.Reached.{From, Reached, Led}
use Rattle.dealing.specs.Deal.{Dealing, begun, deal_to, deal, lap, laps, enough, run}
use Rattle.dealing.proofs.Reached.{passed, homes, shown, roomy, cells, crew, accepts, turn-from, turn_leaves}
use Rattle.dealing.proofs.Laps.{is_at_rest, left, left-falls, left-stays, laps-stay, laps-at-rest, rests-within}

-- ---- the phase and the table of a dealing, in an open phase
pub record Opened (M : Model) (k m : ℕ) (ab : Hash) (t : List ℕ) (os : List Order) (d : Dealing) : Type 0 where
  pub from : From M k m ab t os d.dealt.phase d.table
  pub running : d.dealt.phase.shut ≡ false

-- ---- a run that has come to d, from the phase p and the table u on
pub record Going (M : Model) (p : Phase) (u : List ℕ) (d : Dealing) : Type 0 where
  pub kind : ℕ
  pub workers : ℕ
  pub hash : Hash
  pub first : List ℕ
  pub list : List Order
  pub opened : Opened M kind workers hash first list d
  pub few : left M (suc (enough p)) d ≤ enough p
  pub same : laps M (enough p) d ≡ run M p u

module _ (M : Model) (proper : Proper M) where
  -- ---- a turn leaves the phase open or shut as it was
  pub turn-shut : (p : Phase) (t : List ℕ) (w : ℕ) → (turn_call M p t w).phase.shut ≡ p.shut
  turn-shut p t w = (turns M p t w).others.shut

  module _ (k m : ℕ) (ab : Hash) (t : List ℕ) (os : List Order) where
    pub deal-to-opened : (w : ℕ) (d : Dealing) → Opened M k m ab t os d → Opened M k m ab t os (deal_to M w d)
    unfolding deal_to
    deal-to-opened w d o =
        record {
          from = turn-from M proper k m ab t os d.dealt.phase d.table o.from w;
          running = turn-shut d.dealt.phase d.table w ∙ o.running;
        }

    pub deal-opened : (w : ℕ) (d : Dealing) → Opened M k m ab t os d → Opened M k m ab t os (deal M w d)
    unfolding deal
    deal-opened zero d o = o
    deal-opened (suc w) d o = deal-to-opened w (deal M w d) (deal-opened w d o)

    -- ---- the events that it shows
    record Follows (d : Dealing) (r : Run) : Type 0 where
      opened : Opened M k m ab t os d
      history : History
      shows : Shows k (length t) m ab history r
      phase : d.dealt.phase ≡ history.phase
      table : d.table ≡ history.table

    deal-to-follows : (w : ℕ) (d : Dealing) (r : Run) → Follows d r → w < m → Follows (deal_to M w d) (event k (length t) label (M.home ab (length t)) (step w) r)
    unfolding deal_to
    deal-to-follows w d r f l =
        let p = d.dealt.phase in
        let h = f.opened.from in
        let ok : turn_check M f.history.phase f.history.table w ≡ (Ok tt) =
        rw (f.phase, f.table) at (accepts M proper k m ab t os p d.table h w f.opened.running (omega (arith, crew M proper k m ab t os p d.table h))) in
        record {
          opened = deal-to-opened w d f.opened;
          history = call M os (turn w) f.history;
          shows = turn-shows M os k (length t) m ab f.history r w f.shows ok;
          phase = rw (f.phase, f.table) (turn_leaves M proper os w f.history).0;
          table = rw (f.phase, f.table) (turn_leaves M proper os w f.history).1;
        }

    deal-follows : (w : ℕ) (d : Dealing) (r : Run) → Follows d r → w ≤ m → Follows (deal M w d) (dealt k (length t) label (M.home ab (length t)) w r)
    unfolding deal dealt
    deal-follows zero d r f l = f
    deal-follows (suc w) d r f l = deal-to-follows w (deal M w d) (dealt k (length t) label (M.home ab (length t)) w r) (deal-follows w d r f (omega arith)) (omega arith)

    lap-follows : (d : Dealing) (r : Run) → Follows d r → Follows (lap M d) (dealt k (length t) label (M.home ab (length t)) m r)
    lap-follows d r f =
        subst (λ x. Follows (deal M x d) (dealt k (length t) label (M.home ab (length t)) m r))
        (sym (crew M proper k m ab t os d.dealt.phase d.table f.opened.from))
        (deal-follows m d r f (omega arith))

    -- ---- all idle
    rests : (d : Dealing) (r : Run) → Follows d r → AllIdle r → is_at_rest d ≡ true
    rests d r f idle = rw f.phase ((all-idle-says f.history.phase.workers).1 (λ w. f.shows.crew.same w ∙ idle w))

    left-few : (f : ℕ) (d : Dealing) (r : Run) → Follows d r → AllIdle (events.run k (length t) label (M.home ab (length t)) (schedules.rounds m f) r) → left M (suc f) d ≤ f
    unfolding left events.run schedules.rounds
    left-few zero d r h idle = rw (rests d r h idle) (omega arith)
    left-few (suc f) d r h idle = by-test (is_at_rest d)
        (λ e. rw e (omega arith))
        (λ e.
        let g = lap-follows d r h in
        let i : AllIdle (events.run k (length t) label (M.home ab (length t)) (schedules.rounds m f) (dealt k (length t) label (M.home ab (length t)) m r)) =
        rw round-dealt at idle in
        rw e (omega (arith, left-few f (lap M d) (dealt k (length t) label (M.home ab (length t)) m r) g i)))

  kinds : (k : ℕ) → Kind k → (k ≡ 1) ⊎ (k ≡ 2) ⊎ (k ≡ 3)
  kinds k e = by-kinds k e inl (λ z. inr (inl z)) (λ z. inr (inr z))

  -- a run from an open phase that calls have led to takes fewer laps than enough
  few-laps : (k m : ℕ) (ab : Hash) (t : List ℕ) (os : List Order) (p : Phase) (u : List ℕ) → From M k m ab t os p u → p.shut ≡ false
      → left M (suc (enough p)) (begun M p u) ≤ enough p
  few-laps k m ab t os p u h up =
      let n = length t in
      let (es, shows) = shown M proper k m ab t os p u h in
      let r = events.after k n m label (M.home ab n) t es in
      let e : enough p ≡ suc (most_rest n m) = rw (cells M proper k m ab t os p u h, crew M proper k m ab t os p u h) in
      let idle = rounds-idle k n m (kinds k (passed M proper k m ab t os p u h).kind) label (M.home ab n)
      (record { blank = refl; inside = homes M proper k m ab t os p u h }) t
      (contents.priced n (M.home ab n) t ((passed M proper k m ab t os p u h).sound proper)) es (roomy M proper k m ab t os p u h) in
      rw e (left-few k m ab t os (suc (most_rest n m)) (begun M p u) r
      (record {
        opened = record { from = h; running = up };
        history = after M k m ab t os h.calls;
        shows = shows;
        phase = h.phase;
        table = h.table;
      }) idle)

  module _ (p : Phase) (u : List ℕ) where
    pub starts : (h : Led M p u) → p.shut ≡ false → Going M p u (begun M p u)
    starts (os, h) up = record {
      kind = h.kind;
      workers = h.crew;
      hash = h.hash;
      first = h.opened;
      list = os;
      opened = record { from = h.by; running = up };
      few = few-laps h.kind h.crew h.hash h.opened os p u h.by up;
      same = refl;
    }

    module _ (d : Dealing) (g : Going M p u d) where
      -- one lap on
      module _ (next : Dealing) (dealt : next ≡ lap M d) (busy : is_at_rest d ≡ false) where
        pub goes_on : Going M p u next
        goes_on = rw dealt
            (record {
              kind = g.kind;
              workers = g.workers;
              hash = g.hash;
              first = g.first;
              list = g.list;
              opened = deal-opened g.kind g.workers g.hash g.first g.list d.dealt.phase.crew d g.opened;
              few = left-stays M (most_rest p.length p.crew) d busy g.few;
              same = laps-stay M (most_rest p.length p.crew) d busy g.few ∙ g.same;
            })

        pub falls : left M (suc (enough p)) next < left M (suc (enough p)) d
        falls = rw dealt (left-falls M (most_rest p.length p.crew) d busy g.few)

        pub same_count : d.dealt.phase.crew ≡ next.dealt.phase.crew
        same_count =
            let o = deal-opened g.kind g.workers g.hash g.first g.list d.dealt.phase.crew d g.opened in
            crew M proper g.kind g.workers g.hash g.first g.list d.dealt.phase d.table g.opened.from
            ∙ sym (rw dealt (crew M proper g.kind g.workers g.hash g.first g.list (lap M d).dealt.phase (lap M d).table o.from))

      pub ends : is_at_rest d ≡ true → d ≡ run M p u
      ends idle = sym (laps-at-rest M (most_rest p.length p.crew) d idle) ∙ g.same

      pub reached : Reached M g.list d.dealt.phase d.table
      reached = record { kind = g.kind; crew = g.workers; hash = g.hash; opened = g.first; by = g.opened.from }

  -- ---- where a run ends
  laps-opened : (k m : ℕ) (ab : Hash) (t : List ℕ) (os : List Order) (f : ℕ) (d : Dealing) → Opened M k m ab t os d → Opened M k m ab t os (laps M f d)
  unfolding laps
  laps-opened k m ab t os zero d o = o
  laps-opened k m ab t os (suc f) d o = either (Opened M k m ab t os) (is_at_rest d) o
      (laps-opened k m ab t os f (lap M d) (deal-opened k m ab t os d.dealt.phase.crew d o))

  pub run-reached : (os : List Order) (p : Phase) (u : List ℕ) → Reached M os p u → p.shut ≡ false → Reached M os (run M p u).dealt.phase (run M p u).table
  run-reached os p u h up =
      record {
        kind = h.kind;
        crew = h.crew;
        hash = h.hash;
        opened = h.opened;
        by = (laps-opened h.kind h.crew h.hash h.opened os (enough p) (begun M p u) (record { from = h.by; running = up })).from;
      }

  -- ---- a run keeps the table's length
  moved_length : (p : Phase) (t : List ℕ) (w : ℕ) (q : Option ℕ) → length (cells_at M p t w q) ≡ length t
  moved_length p t w None = refl
  moved_length p t w (Some c) = length-set t c _

  pub turn-length : (p : Phase) (t : List ℕ) (w : ℕ) → length (turn_table M p t w) ≡ length t
  turn-length p t w =
      let cells : Reply → ℕ = λ a. length (turned_cells M p t w a) in
      by-reply (turn_check M p t w) (λ e. ap cells e ∙ moved_length p t w (touched (doing p w))) (λ _ e. ap cells e)

  deal-length : (w : ℕ) (d : Dealing) → length (deal M w d).table ≡ length d.table
  unfolding deal deal_to
  deal-length zero d = refl
  deal-length (suc w) d = turn-length (deal M w d).dealt.phase (deal M w d).table w ∙ deal-length w d

  laps-length : (f : ℕ) (d : Dealing) → length (laps M f d).table ≡ length d.table
  unfolding laps
  laps-length zero d = refl
  laps-length (suc f) d = either (λ (e : Dealing). length e.table ≡ length d.table) (is_at_rest d) refl (laps-length f (lap M d) ∙ deal-length d.dealt.phase.crew d)

  pub run_length : (p : Phase) (u : List ℕ) → length (run M p u).table ≡ length u
  run_length p u = laps-length (enough p) (begun M p u)

  -- ---- all workers are idle where a run ends
  pub run-rests : (os : List Order) (p : Phase) (u : List ℕ) → Reached M os p u → p.shut ≡ false → is_at_rest (run M p u) ≡ true
  run-rests os p u h up = rests-within M (enough p) (begun M p u) (few-laps h.kind h.crew h.hash h.opened os p u h.by up)
