-- What a turn answers in an open phase that calls have led to, and what it leaves its worker.
use Rattle.std.specs.Prelude.{Option, Some, None, Ok}
use mathlib.Core.Path.{◌≡◌, refl, sym, ap, ◌∙◌, subst}
use mathlib.Core.Logic.{◌≢◌, ◌↔◌, inl, inr}
use mathlib.Core.Bool.{Bool, true, false, cond}
use mathlib.Core.List.{List, ◌++◌}
use Prim.Native.Nat.{ℕ, ◌<◌}
use native.Mathlib.Omega.{arith}
use lib.ListN.{length, get_or, set}
use lib.Seq.{get_or-set_same}
use Rattle.homes.specs.declared.Hash.{Hash}
use Rattle.prices.specs.Contents.{label}
use Rattle.orders.specs.declared.Order.{Order}
use Rattle.activities.specs.Activities.{entry_of}
use Rattle.activities.specs.declared.Activity.{Activity}
use Rattle.activities.specs.declared.Activity.TheVariants.{Idle}
use Rattle.rule.specs.Events.{Said, tells}
use Rattle.rule.specs.declared.Answer.{Answer}
use Rattle.rule.specs.declared.Answer.TheVariants.{WentOn, Finished, Price, No}
use Rattle.rule.specs.declared.Answer.TheVariants as answer
use Rattle.phases.specs.Promise.{Sold, Right}
use Rattle.state.specs.Model.{Model, Proper}
use Rattle.state.specs.declared.Phase.{Phase}
use Rattle.protocol.specs.Bars.{doing}
use Rattle.protocol.specs.Calls.{turn_call}
use Rattle.protocol.specs.Promise.{Answers}
use Rattle.protocol.proofs.Theorem.{turns}
use Rattle.history.specs.History.{turn, History, is_finish, call, after}
use Rattle.history.proofs.Pending.{entry_left}
use Rattle.history.proofs.Theorem.{history as all-lists}
use Rattle.dealing.specs.Deal.{finish_by}
use Rattle.dealing.specs.Reached.{From}
use Rattle.dealing.specs.declared.Ended.{Ended}
use Rattle.dealing.specs.declared.Ended.TheVariants as ended
use Rattle.dealing.proofs.Reached.{shown, kind, crew, after_one, turn-from}

-- ---- the finish of an operation for the entry v in a phase of kind k that was opened on the table t
abbrev pub Ends : ℕ → List ℕ → ℕ → Option Ended → Type 0
Ends k t v None = ⊥
Ends k t v (Some ended.Finished) = k ≢ 3
Ends k t v (Some (ended.Price q)) = (k ≡ 3) × ((x : ℕ) → (q ≡ x) ↔ Sold label t (label v) x)
Ends k t v (Some ended.No) = (k ≡ 3) × ((x : ℕ) → Sold label t (label v) x → ⊥)

-- ---- a worker that is doing `now` takes a turn with the answer a and then is doing `next`
-- a final answer is the finish, and any other leaves it
pub data Moves (k : ℕ) (t : List ℕ) (now next : Activity) (a : Answer) : Type 0 where
  goes : (next ≡ Idle) ↔ (now ≡ Idle) → (k ≡ 3 → entry_of next ≡ entry_of now) → ((f : Option Ended) → finish_by f a ≡ f) → Moves k t now next a
  ends : now ≢ Idle → next ≡ Idle → ((f : Option Ended) → Ends k t (entry_of now) (finish_by f a)) → Moves k t now next a

module _ (k : ℕ) (t : List ℕ) (now next : Activity) (said : List Said) where
  moves : (a : Answer) → Answers k now next a → (k ≡ 3 → entry_left a (entry_of now) ≡ entry_of next) → (k ≡ 3 → Right label t (tells (entry_of now) a ++ said))
      → (now ≡ Idle → next ≡ now) → Moves k t now next a
  moves WentOn h key right same = let (b, c) = h.on.0 refl in goes (λ z. absurd (c z), λ z. absurd (b z)) (λ find. sym (key find)) (λ f. refl)
  moves Finished h key right same = let (ne, b, i) = h.finished.0 refl in ends b i (λ f. ne)
  moves (Price q) h key right same = let (find, b, i) = h.told.0 (inl (q, refl)) in
      ends b i (λ f. (find, λ x. (λ e. ((right find).1 x).0 (tt, e), λ s. (((right find).1 x).1 s).1)))
  moves No h key right same = let (find, b, i) = h.told.0 (inr refl) in ends b i (λ f. (find, λ x s. (((right find).1 x).1 s).0))
  moves answer.Idle h key right same = let i = h.idle.0 refl in goes (λ _. i, λ _. same i ∙ i) (λ _. ap entry_of (same i)) (λ f. refl)

-- ---- what a turn of worker w with the answer a adds to a history: from s to r
abbrev Adds : ℕ → Answer → History → History → Type 0
Adds w a s r = (r.pending ≡ cond (is_finish a) (set s.pending w 0) s.pending) × (r.said ≡ tells (get_or s.pending w 0) a ++ s.said)

turn-adds : (M : Model) (os : List Order) (s : History) (w : ℕ) (a : Answer) → (turn_call M s.phase s.table w).reply ≡ Ok a
    → Adds w a s (call M os (turn w) s)
unfolding call
turn-adds M os s w a e = rw e (refl, refl)

left_over : (keys : List ℕ) (w : ℕ) (b : Bool) → w < length keys → get_or (cond b (set keys w 0) keys) w 0 ≡ cond b 0 (get_or keys w 0)
left_over keys w true l = get_or-set_same keys w 0 0 l
left_over keys w false l = refl

module _ (M : Model) (proper : Proper M) (k m : ℕ) (ab : Hash) (t : List ℕ) (os : List Order) where
  -- in a find phase the entry of a worker's unfinished operation is the one that it looks for
  key-kept : (p : Phase) (u : List ℕ) (h : From M k m ab t os p u) (w : ℕ) → k ≡ 3 → get_or (after M k m ab t os h.calls).pending w 0 ≡ entry_of (doing p w)
  key-kept p u h w find = rw h.phase (let c = (shown M proper k m ab t os p u h).1.crew in (c.agree w).entry find ∙ ap entry_of (sym (c.same w)))

  module _ (p : Phase) (u : List ℕ) (h : From M k m ab t os p u) (w : ℕ) (l : w < p.crew) (a : Answer) (is : (turn_call M p u w).reply ≡ Ok a) where
    abbrev before : History
    before = after M k m ab t os h.calls

    abbrev behind : History
    behind = after M k m ab t os (turn-from M proper k m ab t os p u h w).calls

    adds : Adds w a before behind
    unfolding turn-from
    adds = rw (after_one M proper k m ab t os h.calls (turn w)) (turn-adds M os before w a (rw (h.phase, h.table) at is))

    -- the history's claims on the worker's entry, before the turn and behind it, and on the answers said make the turn a move of its worker
    pub turn-moves : Moves k t (doing p w) (doing (turn_call M p u w).phase w) a
    turn-moves =
        let g = turn-from M proper k m ab t os p u h w in
        let x = (shown M proper k m ab t os p u h).1 in
        let left : get_or behind.pending w 0 ≡ entry_left a (get_or before.pending w 0)
        = ap (λ (keys : List ℕ). get_or keys w 0) adds.0
        ∙ left_over before.pending w (is_finish a) (omega (arith, x.crew.places, crew M proper k m ab t os p u h)) in
        moves k t _ _ before.said a
        (subst (λ y. Answers y (doing p w) (doing (turn_call M p u w).phase w) a) (kind M proper k m ab t os p u h) ((turns M p u w).answered a is))
        (λ find. ap (entry_left a) (sym (key-kept p u h w find)) ∙ sym left ∙ key-kept _ _ g w find)
        (λ find. rw (adds.1, key-kept p u h w find) at ((all-lists M proper k m ab t os g.accepted g.calls).right find))
        (λ i. ap (λ (q : Phase). doing q w) ((turns M p u w).idle i).0)
