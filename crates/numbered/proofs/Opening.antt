-- The calls after an opening, and what is promised of them.
use Rattle.std.specs.Prelude.{Ok, Err}
use mathlib.Core.Path.{◌≡◌, refl, sym, ap, ◌∙◌, subst}
use mathlib.Core.List.{List}
use Prim.Native.Nat.{ℕ}
use Rattle.homes.specs.declared.Hash.{Hash}
use Rattle.orders.specs.declared.Order.{Order}
use Rattle.state.specs.Model.{Model, Proper}
use Rattle.state.specs.Open.{open_reply, opened, open_call}
use Rattle.state.specs.declared.Phase.{Phase}
use Rattle.state.specs.declared.Refusal.{Refusal}
use Rattle.state.specs.declared.Replied.{Replied}
use Rattle.state.specs.Replies.{Reply}
use Rattle.history.specs.History.{run, opening}
use Rattle.history.specs.Promise.{Claim}
use Rattle.history.proofs.Theorem.{history}
use Rattle.numbered.specs.Lists.{calls_lent, answers_of, RunGives, RunsFrom}
use Rattle.numbered.specs.Batch.{if_accepted, dealt, Ran, Promised, DealtPromise}

module _ (M : Model) (k m : ℕ) (ab : Hash) (t : List ℕ) (os : List Order) where
  opened-reply : (r : Reply) → (opened M k m ab t r).reply ≡ r
  opened-reply (Ok _) = refl
  opened-reply (Err r) = refl

  -- the answer that the function read is the definition's
  told : (o : Replied) (r : Reply) → o ≡ open_call M k m ab t os → o.reply ≡ r → open_reply M k m ab t os ≡ r
  told o r is read = sym (opened-reply (open_reply M k m ab t os)) ∙ ap (λ (x : Replied). x.reply) (sym is) ∙ read

  module _ (ops lines workers keys out : List ℕ) (o : Replied) (is : o ≡ open_call M k m ab t os) where
    dealt-ran : (r : Reply) (p : Phase) (t' out' : List ℕ) → o.reply ≡ r
        → RunGives M os (if_accepted M k m ab t os ops lines workers keys out r) (opening M k m ab t os) out p t' out'
        → Ran M k m ab t os ops lines workers keys out (record { phase = p; reply = r }) t' out'
    dealt-ran r p t' out' read h =
        let e = told o r is read in
        let P : Reply → Type 0 = λ a. RunGives M os (if_accepted M k m ab t os ops lines workers keys out a) (opening M k m ab t os) out p t' out' in
        record { reply = sym e; gives = subst P (sym e) h }

    accepted-ran : (p : Phase) (t' out' : List ℕ) → o.reply ≡ Ok tt
        → RunsFrom M os o.phase t (calls_lent ops lines workers keys out) out p t' out'
        → Ran M k m ab t os ops lines workers keys out (record { phase = p; reply = Ok tt }) t' out'
    accepted-ran p t' out' read h = dealt-ran (Ok tt) p t' out' read (h (opening M k m ab t os) (ap (λ (x : Replied). x.phase) (sym is)) refl)

    refused-ran : (why : Refusal) → o.reply ≡ Err why
        → Ran M k m ab t os ops lines workers keys out (record { phase = o.phase; reply = Err why }) t out
    unfolding run answers_of
    refused-ran why read =
        dealt-ran (Err why) o.phase t out read (record { phase = ap (λ (x : Replied). x.phase) is; table = refl; answers = refl })

-- the calls after an accepted opening keep the promises
promised : (M : Model) → Proper M → (k m : ℕ) (ab : Hash) (t : List ℕ) (os : List Order) (ops lines workers keys out : List ℕ)
    → Promised M k m ab t os ops lines workers keys out
promised M proper k m ab t os ops lines workers keys out accepted = history M proper k m ab t os accepted (dealt M k m ab t os ops lines workers keys out)

-- ---- what a function that opens a phase and runs the calls has to show
module _ (M : Model) (proper : Proper M) (k m : ℕ) (ab : Hash) (t : List ℕ) (os : List Order) (ops lines workers keys out : List ℕ) (o : Replied) (is : o ≡ open_call M k m ab t os) where
  abbrev Kept : Replied → List ℕ → List ℕ → Type 0
  Kept r t' out' = Ran M k m ab t os ops lines workers keys out r t' out' × Promised M k m ab t os ops lines workers keys out

  pub accepted-kept : (p : Phase) (t' out' : List ℕ) → o.reply ≡ Ok tt → RunsFrom M os o.phase t (calls_lent ops lines workers keys out) out p t' out'
      → Kept (record { phase = p; reply = Ok tt }) t' out'
  accepted-kept p t' out' read h = (accepted-ran M k m ab t os ops lines workers keys out o is p t' out' read h, promised M proper k m ab t os ops lines workers keys out)

  pub refused-kept : (why : Refusal) → o.reply ≡ Err why → Kept (record { phase = o.phase; reply = Err why }) t out
  refused-kept why read = (refused-ran M k m ab t os ops lines workers keys out o is why read, promised M proper k m ab t os ops lines workers keys out)

pub dealt-promise : DealtPromise
dealt-promise M k m ab t os ops lines workers keys out =
    let calls = if_accepted M k m ab t os ops lines workers keys out in
    let answers = told M k m ab t os (open_call M k m ab t os) in
    record {
      accepted = λ e. ap calls (answers (Ok tt) refl e);
      promised = λ h e. subst (Claim M k m ab t os) (ap calls (answers (Ok tt) refl e)) (h (answers (Ok tt) refl e));
      refused = λ r e. ap calls (answers (Err r) refl e);
    }
