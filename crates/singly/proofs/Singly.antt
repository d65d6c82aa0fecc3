-- Calls one by one: what the function of a call gives, put behind the calls before it.
use mathlib.Core.Path.{◌≡◌, refl, ap, ◌∙◌}
use mathlib.Core.Logic.{◌≢◌}
use mathlib.Core.List.{List}
use Prim.Native.Nat.{ℕ, ◌+◌, ◌<◌}
use native.Mathlib.Omega.{arith}
use lib.ListN.{length, get_or, set, length-set}
use borrow.Author.Tests.{eq-eqb, ne_eqb}
use Rattle.orders.specs.declared.Order.{Order}
use Rattle.state.specs.Model.{Model}
use Rattle.state.specs.declared.Phase.{Phase}
use Rattle.state.specs.declared.Replied.{Replied}
use Rattle.protocol.specs.Calls.{close_call, order_call, turn_call, turn_table}
use Rattle.protocol.specs.declared.Turned.{Turned}
use Rattle.numbered.specs.Numbers.{turn_answer, reply_answer}
use Rattle.numbered.specs.Lists.{call_of, calls_of, Applied, Applies, RunsFrom}
use Rattle.numbered.proofs.Applying.{order-applies, turn-applies, close-applies}
use Rattle.numbered.proofs.Running.{none-run, one-more-run}

-- the first i calls are run, and the lent lists keep their lengths
pub record Singly (M : Model) (os : List Order) (ops lines workers keys : List ℕ) (p₀ : Phase) (t₀ out₀ : List ℕ) (i : ℕ) (p : Phase) (t out : List ℕ) : Type 0 where
  pub ran : RunsFrom M os p₀ t₀ (calls_of ops lines workers keys i) out₀ p t out
  pub same-cells : length t ≡ length t₀
  pub same-answers : length out ≡ length out₀

pub singly-none : (M : Model) (os : List Order) (ops lines workers keys : List ℕ) (p : Phase) (t out : List ℕ) → Singly M os ops lines workers keys p t out 0 p t out
singly-none M os ops lines workers keys p t out = record { ran = none-run M os ops lines workers keys p t out; same-cells = refl; same-answers = refl }

module _ {M : Model} {os : List Order} {ops lines workers keys : List ℕ} {p₀ : Phase} {t₀ out₀ : List ℕ} {i : ℕ} {p : Phase} {t out : List ℕ}
    (h : Singly M os ops lines workers keys p₀ t₀ out₀ i p t out) (room : i < length out₀) where
  -- the next call
  abbrev op : ℕ
  op = get_or ops i 0

  abbrev line : ℕ
  line = get_or lines i 0

  abbrev worker : ℕ
  worker = get_or workers i 0

  abbrev key : ℕ
  key = get_or keys i 0

  one_more : (r : Applied) (t' : List ℕ) → Applies M os p t (call_of op line worker key) r t' → length t' ≡ length t
      → Singly M os ops lines workers keys p₀ t₀ out₀ (i + 1) r.phase t' (set out i r.answer)
  one_more r t' applies kept =
      record {
        ran = one-more-run M os ops lines workers keys i p₀ t₀ out₀ p t out r t' room h.ran applies;
        same-cells = kept ∙ h.same-cells;
        same-answers = length-set out i r.answer ∙ h.same-answers;
      }

  pub ordered-next : op ≡ 1 → {r : Replied} {a : ℕ} → r ≡ order_call M p os line worker key → a ≡ reply_answer r.reply
      → Singly M os ops lines workers keys p₀ t₀ out₀ (i + 1) r.phase t (set out i a)
  ordered-next is gives number = one_more _ t (rw (eq-eqb op 1 is) (order-applies M os p t line worker key _ _ gives number)) refl

  pub turned-next : op ≡ 2 → {r : Turned} {t' : List ℕ} {a : ℕ} → (r ≡ turn_call M p t worker) × (t' ≡ turn_table M p t worker)
      → length t' ≡ length t → a ≡ turn_answer r.reply → Singly M os ops lines workers keys p₀ t₀ out₀ (i + 1) r.phase t' (set out i a)
  turned-next is {t' = t'} gives kept number =
      let other : op ≢ 1 = λ e. omega arith in
      one_more _ t' (rw (ne_eqb op 1 other, eq-eqb op 2 is) (turn-applies M os p t worker _ _ t' gives.0 gives.1 number)) kept

  pub closed-next : op ≢ 1 → op ≢ 2 → {r : Replied} {a : ℕ} → r ≡ close_call M p → a ≡ reply_answer r.reply
      → Singly M os ops lines workers keys p₀ t₀ out₀ (i + 1) r.phase t (set out i a)
  closed-next no-order no-turn gives number =
      one_more _ t (rw (ne_eqb op 1 no-order, ne_eqb op 2 no-turn) (close-applies M os p t _ _ gives number)) refl
