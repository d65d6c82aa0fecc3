-- What a call leaves of a phase state, and of the worker that it moves.
use Rattle.std.specs.Prelude.{Option, ℕ, Some, None}
use mathlib.Core.Path.{◌≡◌, refl, ap, ap₂, ◌∙◌}
use mathlib.Core.Bool.{Bool}
use mathlib.Core.List.{List}
use Prim.Native.Nat.{ℕ, ◌≤◌, ◌<◌}
use native.Mathlib.Omega.{arith}
use lib.ListN.{length, get_or, length-set, get_or-eq_default}
use lib.Seq.{get_or-set_same, get_or-set_other}
use Rattle.ring.proofs.Split.{by-lt}
use Rattle.prices.specs.Contents.{label, content}
use Rattle.activities.specs.Activities.{idle}
use Rattle.activities.specs.declared.Activity.{Activity}
use Rattle.activities.specs.declared.Activity.TheVariants.{Reading}
use Rattle.activities.specs.declared.Worker.{Worker}
use Rattle.rule.specs.Rule.{touched, start}
use Rattle.state.specs.Model.{Model}
use Rattle.state.specs.declared.Phase.{Phase}
use Rattle.protocol.specs.Bars.{doing}
use Rattle.protocol.specs.Calls.{entry_for, with_worker, shut_phase, ordered_phase, moved_at}
use Rattle.protocol.specs.Promise.{Framed, ButFor, Starts, Ends}
use Rattle.protocol.proofs.Pricing.{entry_key}

-- ---- one worker
-- a worker that touches a cell is in the list of workers
pub present : (p : Phase) (w c : ℕ) → touched (doing p w) ≡ Some c → w < length p.workers
present p w c is = by-lt w (length p.workers) (λ l. l) (λ l.
    let e : get_or p.workers w idle ≡ idle = get_or-eq_default p.workers idle l in
    absurd (let z : ◌≡◌ {A = ℕ} 0 1 = cc in omega arith))

pub moved : (p : Phase) (w : ℕ) (x : Activity) → w < length p.workers → doing (with_worker p w x) w ≡ x
moved p w x l = ap (λ (y : Worker). y.activity) (get_or-set_same p.workers w (record { activity = x }) idle l)

-- ---- frames
framed_self : (p : Phase) → Framed p p
framed_self p = record { kind = refl; cells = refl; crew = refl; hash = refl; places = refl }

pub but-self : (w : ℕ) (p : Phase) → ButFor w p p
but-self w p = record { frame = framed_self p; shut = refl; others = λ u ne. refl }

pub but-worker : (w : ℕ) (p : Phase) (a : Activity) → ButFor w p (with_worker p w a)
but-worker w p a =
    record {
      frame = record { kind = refl; cells = refl; crew = refl; hash = refl; places = length-set p.workers w _ };
      shut = refl;
      others = λ u ne. ap (λ (x : Worker). x.activity) (get_or-set_other p.workers w u _ idle ne);
    }

-- an order changes its worker alone
module _ (M : Model) (p : Phase) (lacks : Bool) (w v cents : ℕ) where
  abbrev entry : ℕ
  entry = entry_for p.kind v cents

  -- where the entry is this key at this price
  pub ordered-starts : (p.kind ≡ 1 → (1 ≤ cents) × (cents ≤ 9999999)) → (at : ℕ) → entry ≡ content v at → Starts M p w v at (ordered_phase M p lacks w v cents)
  ordered-starts ok at is =
      record {
        others = but-worker w p (start label (M.home p.hash p.length) entry);
        starts = λ l.
            moved p w (start label (M.home p.hash p.length) entry) l
            ∙ ap₂ (λ (e x : ℕ). Reading e (M.home p.hash p.length x)) is (entry_key p.kind v cents ok);
      }

pub shut-ends : (p : Phase) → Ends p (shut_phase p)
shut-ends p = record { frame = record { kind = refl; cells = refl; crew = refl; hash = refl; places = refl }; shut = refl; workers = refl }

-- ---- a turn that moves its worker
module _ (M : Model) (p : Phase) (t : List ℕ) (w : ℕ) where
  pub moved-others : (q : Option ℕ) → ButFor w p (moved_at M p t w q).phase
  moved-others None = but-self w p
  moved-others (Some c) = but-worker w p _
