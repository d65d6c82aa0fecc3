-- An opening and the calls after it: what a function that opens a migration and runs the calls has to show.
use Rattle.std.specs.Prelude.{Ok, Err}
use mathlib.Core.Path.{◌≡◌, refl, sym, ap, ◌∙◌, subst}
use mathlib.Core.List.{List}
use Prim.Native.Nat.{ℕ}
use Rattle.homes.specs.declared.Hash.{Hash}
use Rattle.state.specs.Model.{Model}
use Rattle.state.specs.declared.Refusal.{Refusal}
use Rattle.state.specs.Replies.{Reply}
use Rattle.migration.specs.Calls.{open_reply, open_call}
use Rattle.migration.specs.Claim.{Claim}
use Rattle.migration.specs.Courses.{run, opening}
use Rattle.migration.specs.Lists.{calls_lent, answers_of, RunGives, RunsFrom, if_accepted, Ran, DealtPromise}
use Rattle.migration.specs.declared.Migrated.{Migrated}
use Rattle.migration.specs.declared.Migration.{Migration}
use Rattle.migration.proofs.Protocol.{opens}

module _ (M : Model) (m : ℕ) (ab : Hash) (old new ops workers out : List ℕ) (o : Migrated) (is : o ≡ open_call M m ab old new) where
  -- the answer that the function read is the definition's
  dealt-ran : (r : Reply) (p : Migration) (old' new' out' : List ℕ) → o.reply ≡ r
      → RunGives M (if_accepted M m ab old new ops workers out r) (opening M m ab old new) out p old' new' out'
      → Ran M m ab old new ops workers out (record { migration = p; reply = r }) old' new' out'
  dealt-ran r p old' new' out' read h =
      let e : open_reply M m ab old new ≡ r = sym (opens M m ab old new).reply ∙ ap (λ (x : Migrated). x.reply) (sym is) ∙ read in
      let P : Reply → Type 0 = λ a. RunGives M (if_accepted M m ab old new ops workers out a) (opening M m ab old new) out p old' new' out' in
      record { reply = sym e; gives = subst P (sym e) h }

  pub accepted-ran : (p : Migration) (old' new' out' : List ℕ) → o.reply ≡ Ok tt
      → RunsFrom M o.migration old new (calls_lent ops workers out) out p old' new' out'
      → Ran M m ab old new ops workers out (record { migration = p; reply = Ok tt }) old' new' out'
  accepted-ran p old' new' out' read h =
      dealt-ran (Ok tt) p old' new' out' read (h (opening M m ab old new) (ap (λ (x : Migrated). x.migration) (sym is)) refl refl)

  pub refused-ran : (why : Refusal) → o.reply ≡ Err why
      → Ran M m ab old new ops workers out (record { migration = o.migration; reply = Err why }) old new out
  unfolding run answers_of
  refused-ran why read =
      dealt-ran (Err why) o.migration old new out read
      (record { migration = ap (λ (x : Migrated). x.migration) is; kept = refl; table = refl; answers = refl })

-- ---- which calls are dealt
pub dealings : DealtPromise
dealings M m ab old new ops workers out =
    let read : (r : Reply) → (open_call M m ab old new).reply ≡ r → open_reply M m ab old new ≡ r = λ r e. sym (opens M m ab old new).reply ∙ e in
    record {
      accepted = λ e. ap (if_accepted M m ab old new ops workers out) (read (Ok tt) e);
      promised = λ h e. subst (Claim M m ab old new) (ap (if_accepted M m ab old new ops workers out) (read (Ok tt) e)) (h (read (Ok tt) e));
      refused = λ r e. ap (if_accepted M m ab old new ops workers out) (read (Err r) e);
    }
