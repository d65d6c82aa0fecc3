-- A lap in code: one worker after the other takes its turn by itself, and the record is not tested.
use Rattle.std.specs.Prelude.{Option}
use mathlib.Core.Path.{◌≡◌, refl, sym, ap, ◌∙◌}
use mathlib.Core.Bool.{true, false}
use mathlib.Core.List.{List}
use Prim.Native.Nat.{ℕ, ◌+◌, ◌≤◌, ◌<◌}
use native.Mathlib.Numerals.{add-one}
use native.Mathlib.Omega.{arith}
use lib.ListN.{length, get_or, set}
use lib.Seq.{set-get_or}
use Rattle.homes.specs.declared.Hash.{Hash}
use Rattle.prices.specs.Contents.{label}
use Rattle.orders.specs.declared.Order.{Order}
use Rattle.state.specs.Model.{Model, Proper}
use Rattle.activities.specs.Activities.{idle, activity_ok, is_idle}
use Rattle.activities.specs.declared.Activity.TheVariants.{Idle}
use Rattle.activities.proofs.Activities.{idle-says}
use Rattle.protocol.specs.Bars.{doing}
use Rattle.protocol.specs.Calls.{with_worker}
use Rattle.protocol.specs.Split.{one_turn, one_cells}
use Rattle.protocol.specs.declared.Moved.{Moved}
use Rattle.protocol.proofs.Turning.{turn-by-one}
use Rattle.protocol.proofs.WellFormed.{good-worker}
use Rattle.dealing.specs.declared.Ended.{Ended}
use Rattle.dealing.specs.Reached.{From, Reached}
use Rattle.dealing.specs.Deal.{Dealing, unfinished, finish_after, deal_to, deal, lap}
use Rattle.dealing.proofs.Reached.{formed, sized, crew, few-workers, accepts}
use Rattle.dealing.proofs.Settling.{Opened, deal-opened}

-- worker w after its turn, with the rest as it was
abbrev pub with_moved : Dealing → ℕ → Moved → List ℕ → Dealing
with_moved d w m t =
    record {
      dealt = record {
        phase = with_worker d.dealt.phase w m.worker.activity;
        finishes = set d.dealt.finishes w (finish_after (get_or d.dealt.finishes w unfinished) m.reply);
      };
      table = t;
    }

-- ---- the lap that began at d₀ has come to d, with worker w next
pub record Lapping (M : Model) (d₀ : Dealing) (count : ℕ) (d : Dealing) (w : ℕ) : Type 0 where
  pub list : List Order
  pub reached : Reached M list d₀.dealt.phase d₀.table
  pub running : d₀.dealt.phase.shut ≡ false
  pub all : count ≡ d₀.dealt.phase.crew
  pub few : count ≤ M.room
  pub within : w ≤ count
  pub same : d ≡ deal M w d₀

module _ (M : Model) (proper : Proper M) where
  module _ (k m : ℕ) (ab : Hash) (t : List ℕ) (os : List Order) (d : Dealing) (o : Opened M k m ab t os d) (w : ℕ) where
    one-dealt : w < d.dealt.phase.crew
        → let p = d.dealt.phase in
        let worker = get_or p.workers w idle in
        with_moved d w (one_turn M p.kind p.hash p.length d.table worker) (one_cells M p.kind p.hash p.length d.table worker) ≡ deal_to M w d
    unfolding deal_to
    one-dealt l =
        let p = d.dealt.phase in
        let (a, b) = turn-by-one M p d.table w (formed M proper k m ab t os p d.table o.from) o.running
        (sized M proper k m ab t os p d.table o.from) l in
        rw (← a, b)

    -- an idle worker's turn changes nothing
    idle-dealt : w < d.dealt.phase.crew → is_idle (doing d.dealt.phase w) ≡ true → deal_to M w d ≡ d
    unfolding deal_to
    idle-dealt l free =
        let p = d.dealt.phase in
        let ok = accepts M proper k m ab t os p d.table o.from w o.running l in
        let a : doing p w ≡ Idle = (idle-says (doing p w)).0 free in
        rw (ok, a, set-get_or)

  module _ (d₀ : Dealing) (count : ℕ) where
    pub lap-starts : (os : List Order) → Reached M os d₀.dealt.phase d₀.table → d₀.dealt.phase.shut ≡ false → count ≡ d₀.dealt.phase.crew
        → Lapping M d₀ count d₀ 0
    unfolding deal
    lap-starts os h up e = record {
      list = os;
      reached = h;
      running = up;
      all = e;
      few = omega (arith, few-workers M proper h.kind h.crew h.hash h.opened os d₀.dealt.phase d₀.table h.by);
      within = omega arith;
      same = refl;
    }

    module _ (d : Dealing) (w : ℕ) (g : Lapping M d₀ count d w) where
      abbrev from : From M g.reached.kind g.reached.crew g.reached.hash g.reached.opened g.list d₀.dealt.phase d₀.table
      from = g.reached.by

      here : Opened M g.reached.kind g.reached.crew g.reached.hash g.reached.opened g.list d
      here = rw g.same
          (deal-opened M proper g.reached.kind g.reached.crew g.reached.hash g.reached.opened g.list w d₀ (record { from = from; running = g.running }))

      below : w < count → w < d.dealt.phase.crew
      below l =
          omega (
            arith,
            g.all,
            crew M proper g.reached.kind g.reached.crew g.reached.hash g.reached.opened g.list d.dealt.phase d.table here.from,
            crew M proper g.reached.kind g.reached.crew g.reached.hash g.reached.opened g.list d₀.dealt.phase d₀.table from,
          )

      lap-on : w < count
          → let p = d.dealt.phase in
          let worker = get_or p.workers w idle in
          Lapping M d₀ count (with_moved d w (one_turn M p.kind p.hash p.length d.table worker) (one_cells M p.kind p.hash p.length d.table worker)) (w + 1)
      lap-on l =
          record {
            list = g.list;
            reached = g.reached;
            running = g.running;
            all = g.all;
            few = g.few;
            within = omega arith;
            same = one-dealt g.reached.kind g.reached.crew g.reached.hash g.reached.opened g.list d here w (below l) ∙ ap (deal_to M w) g.same
                ∙ unfold deal in (rw add-one);
          }

      -- the same with what the code has found
      pub lap-next : w < count → (moved : Moved) (u : List ℕ) (f : Option Ended)
          → let p = d.dealt.phase in
          let worker = get_or p.workers w idle in
          moved ≡ one_turn M p.kind p.hash p.length d.table worker → u ≡ one_cells M p.kind p.hash p.length d.table worker
          → f ≡ finish_after (get_or d.dealt.finishes w unfinished) moved.reply
          → Lapping M d₀ count
          (record { dealt = record { phase = with_worker p w moved.worker.activity; finishes = set d.dealt.finishes w f }; table = u }) (w + 1)
      lap-next l moved u f a b e = rw (e, a, b) (lap-on l)

      -- the same where the reply leaves the worker's finish as it was
      pub lap-keeps : w < count → (moved : Moved) (u : List ℕ)
          → let p = d.dealt.phase in
          let worker = get_or p.workers w idle in
          moved ≡ one_turn M p.kind p.hash p.length d.table worker → u ≡ one_cells M p.kind p.hash p.length d.table worker
          → ((f : Option Ended) → finish_after f moved.reply ≡ f)
          → Lapping M d₀ count (record { dealt = record { phase = with_worker p w moved.worker.activity; finishes = d.dealt.finishes }; table = u }) (w + 1)
      lap-keeps l moved u a b k =
          let before = get_or d.dealt.finishes w unfinished in
          let same : set d.dealt.finishes w before ≡ d.dealt.finishes = set-get_or d.dealt.finishes w unfinished in
          rw same at (lap-next l moved u before a b (sym (k before)))

      -- the same with a worker that the code passes over
      pub lap-skips : w < count → is_idle (doing d.dealt.phase w) ≡ true → Lapping M d₀ count d (w + 1)
      lap-skips l free =
          record {
            list = g.list;
            reached = g.reached;
            running = g.running;
            all = g.all;
            few = g.few;
            within = omega arith;
            same = sym (idle-dealt g.reached.kind g.reached.crew g.reached.hash g.reached.opened g.list d here w (below l) free) ∙ ap (deal_to M w) g.same
                ∙ unfold deal in (rw add-one);
          }

      -- what the next worker's turn must find
      pub lap-good : w < count
          → let p = d.dealt.phase in
          (activity_ok p.kind p.length label (doing p w) ≡ true) × (p.length ≡ length d.table)
      lap-good l =
          let p = d.dealt.phase in
          let good = formed M proper g.reached.kind g.reached.crew g.reached.hash g.reached.opened g.list p d.table here.from in
          let b = below l in (
            good-worker M p good w (omega arith),
            sized M proper g.reached.kind g.reached.crew g.reached.hash g.reached.opened g.list p d.table here.from,
          )

      pub lap-ends : count ≤ w → d ≡ lap M d₀
      lap-ends l = let e : w ≡ d₀.dealt.phase.crew = omega (arith, g.all, g.within) in g.same ∙ ap (λ x. deal M x d₀) e
