-- The promise on what a turn tells.
use Rattle.std.specs.Prelude.{Some, None, Ok, Err}
use mathlib.Core.Path.{◌≡◌, refl, sym, ap, ◌∙◌, subst}
use mathlib.Core.List.{List}
use Prim.Native.Nat.{ℕ, ◌<◌}
use native.Mathlib.Omega.{arith}
use Rattle.prices.specs.Contents.{label}
use Rattle.activities.specs.Activities.{entry_of}
use Rattle.activities.specs.declared.Activity.{Activity}
use Rattle.rule.specs.declared.Answer.{Answer}
use Rattle.rule.specs.declared.Answer.TheVariants.{Price, No}
use Rattle.phases.specs.Promise.{Sold}
use Rattle.state.specs.Model.{Model}
use Rattle.state.specs.declared.Phase.{Phase}
use Rattle.state.specs.Replies.{Reply}
use Rattle.protocol.specs.Bars.{doing}
use Rattle.protocol.specs.Calls.{turned, turn_check, turn_call}
use Rattle.protocol.proofs.Chain.{by-reply}
use Rattle.protocol.proofs.Theorem.{turn-passed}
use Rattle.history.proofs.Theorem.{history as all-lists}
use Rattle.dealing.specs.Deal.{unfinished, finish_by}
use Rattle.dealing.specs.Promise.{TellsPromise}
use Rattle.dealing.specs.declared.Ended.TheVariants as ended
use Rattle.dealing.proofs.Answers.{Ends, Moves, goes, ends, turn-moves}

-- ---- an answer that is final ends an operation
module _ {k : ℕ} {t : List ℕ} {now next : Activity} where
  price-ends : (q : ℕ) → Moves k t now next (Price q) → Ends k t (entry_of now) (finish_by unfinished (Price q))
  price-ends q (goes same key stays) = let e : Some (ended.Price q) ≡ None = stays unfinished in
      absurd (let z : ◌≡◌ {A = ℕ} 0 1 = cc in omega arith)
  price-ends q (ends busy free fin) = fin unfinished

  no-ends : Moves k t now next No → Ends k t (entry_of now) (finish_by unfinished No)
  no-ends (goes same key stays) = let e : Some ended.No ≡ None = stays unfinished in absurd (let z : ◌≡◌ {A = ℕ} 0 1 = cc in omega arith)
  no-ends (ends busy free fin) = fin unfinished

-- a turn that is answered is not refused
accepted : (M : Model) (p : Phase) (t : List ℕ) (w : ℕ) (a : Answer) → (turn_call M p t w).reply ≡ Ok a → turn_check M p t w ≡ Ok tt
accepted M p t w a e = by-reply (turn_check M p t w) (λ ok. ok)
    (λ r no. let f : (turned M p t w (Err r)).reply ≡ Ok a = sym (ap (λ (x : Reply). (turned M p t w x).reply) no) ∙ e in
    absurd (let z : ◌≡◌ {A = ℕ} 0 1 = cc in omega arith))

pub tells-promise : TellsPromise
tells-promise M proper os p u h up w a e =
    let k = h.kind in
    let m = h.crew in
    let ab = h.hash in
    let t = h.opened in
    let below : w < p.crew = (turn-passed M p u w (accepted M p u w a e)).3 in
    let moves = turn-moves M proper k m ab t os p u h.by w below a e in
    let same : k ≡ 3 → u ≡ t = λ find. h.by.table ∙ (all-lists M proper k m ab t os h.by.accepted h.by.calls).unchanged find in
    let v = label (entry_of (doing p w)) in
    record {
      price = λ q is. let (find, right) = price-ends q (subst (Moves k t _ _) is moves) in subst (λ x. Sold label x v q) (sym (same find)) ((right q).0 refl);
      none = λ is q sold. let (find, right) = no-ends (subst (Moves k t _ _) is moves) in right q (subst (λ x. Sold label x v q) (same find) sold);
    }
