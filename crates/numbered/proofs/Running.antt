-- What one call more adds to a list of calls and their answers.
use mathlib.Core.Path.{◌≡◌, refl, sym, ap, ◌∙◌}
use mathlib.Core.List.{List, [], ◌∷◌, ◌++◌, append_assoc}
use Prim.Native.Nat.{ℕ, zero, suc, ◌+◌, ◌<◌}
use native.Mathlib.Numerals.{add-one}
use native.Mathlib.Omega.{arith}
use lib.ListN.{length, get_or, set, drop, length-append, get_or-append}
use lib.Seq.{drop-cons, set_at, get_or-append_seam}
use borrow.Author.Tests.{ne_eqb}
use Rattle.orders.specs.declared.Order.{Order}
use Rattle.state.specs.Model.{Model}
use Rattle.state.specs.declared.Phase.{Phase}
use Rattle.ring.proofs.Split.{by-lt}
use Rattle.history.specs.History.{Call, close, History, call, run}
use Rattle.history.proofs.Lists.{run-last}
use Rattle.numbered.specs.Lists.{call_of, calls_of, fewest, calls_lent, CallsPromise, answer_of, answers_of, Applied, Applies, RunsFrom}

length-calls : (ops lines workers keys : List ℕ) (i : ℕ) → length (calls_of ops lines workers keys i) ≡ i
unfolding calls_of
length-calls ops lines workers keys zero = refl
length-calls ops lines workers keys (suc i) = length-append (calls_of ops lines workers keys i) _ ∙ add-one _ ∙ ap suc (length-calls ops lines workers keys i)

-- call j of the first i
call_at : (ops lines workers keys : List ℕ) (i j : ℕ) → j < i
    → get_or (calls_of ops lines workers keys i) j close ≡ call_of (get_or ops j 0) (get_or lines j 0) (get_or workers j 0) (get_or keys j 0)
unfolding calls_of
call_at ops lines workers keys zero j l = absurd (omega arith)
call_at ops lines workers keys (suc i) j l =
    let cs = calls_of ops lines workers keys i in
    let c = call_of (get_or ops i 0) (get_or lines i 0) (get_or workers i 0) (get_or keys i 0) in
    let e : length cs ≡ i = length-calls ops lines workers keys i in
    by-lt j i
    (λ l. get_or-append cs (c ∷ []) close j (omega (arith, e)) ∙ call_at ops lines workers keys i j l)
    (λ g. let s : i ≡ j = omega arith in rw (sym s) (ap (λ (m : ℕ). get_or (cs ++ c ∷ []) m close) (sym e) ∙ get_or-append_seam cs c [] close))

pub calls-promise : CallsPromise
calls-promise = record {
  orders = λ i w v. refl;
  turns = λ i w v. refl;
  closes = λ op i w v a b. rw (ne_eqb op 1 a, ne_eqb op 2 b);
  each = λ ops lines workers keys out i l.
      let e : length (calls_lent ops lines workers keys out) ≡ fewest ops lines workers keys out = length-calls ops lines workers keys _ in
      call_at ops lines workers keys (fewest ops lines workers keys out) i (omega (arith, e));
  many = λ ops lines workers keys out n.
      let e : length (calls_lent ops lines workers keys out) ≡ fewest ops lines workers keys out = length-calls ops lines workers keys _ in
      (λ l. (omega (arith, e), omega (arith, e), omega (arith, e), omega (arith, e), omega (arith, e)), λ (a, b, c, d, f). omega (arith, e));
}

module _ (M : Model) (os : List Order) where
  answers-last : (cs : List Call) (c : Call) (s : History)
      → answers_of M os (cs ++ (c ∷ [])) s ≡ answers_of M os cs s ++ (answer_of M os c (run M os cs s) ∷ [])
  unfolding run answers_of
  answers-last [] c s = refl
  answers-last (d ∷ cs) c s = ap (λ (x : List ℕ). answer_of M os d s ∷ x) (answers-last cs c (call M os d s))

  length-answers : (cs : List Call) (s : History) → length (answers_of M os cs s) ≡ length cs
  unfolding answers_of
  length-answers [] s = refl
  length-answers (c ∷ cs) s = ap suc (length-answers cs (call M os c s))

  -- the last answer goes to the first place behind the others
  place : (cs : List Call) (c : Call) (s : History) (out out' : List ℕ) (i a : ℕ) → length cs ≡ i → i < length out
      → out' ≡ answers_of M os cs s ++ drop (length cs) out → a ≡ answer_of M os c (run M os cs s)
      → set out' i a ≡ answers_of M os (cs ++ (c ∷ [])) s ++ drop (length (cs ++ (c ∷ []))) out
  place cs c s out out' i a at below so_far is =
      let before = answers_of M os cs s in
      let e : out' ≡ before ++ (get_or out i 0 ∷ drop (suc i) out) = so_far ∙ rw (at, drop-cons out i 0) in
      let n : length (cs ++ (c ∷ [])) ≡ suc i = length-append cs (c ∷ []) ∙ add-one _ ∙ ap suc at in
      ap (λ (x : List ℕ). set x i a) e
      ∙ set_at before (get_or out i 0) (drop (suc i) out) a i (length-answers cs s ∙ at)
      ∙ rw (n, answers-last, append_assoc, is)

  -- ---- the first calls of lists of numbers: none, and one more
  module _ (ops lines workers keys : List ℕ) where
    pub none-run : (p : Phase) (t out : List ℕ) → RunsFrom M os p t (calls_of ops lines workers keys 0) out p t out
    unfolding calls_of run answers_of
    none-run p t out s same-phase same-table = record { phase = sym same-phase; table = sym same-table; answers = refl }

    pub one-more-run : (i : ℕ) (p₀ : Phase) (t₀ out₀ : List ℕ) (p : Phase) (t out : List ℕ) (r : Applied) (t' : List ℕ) → i < length out₀
        → RunsFrom M os p₀ t₀ (calls_of ops lines workers keys i) out₀ p t out
        → Applies M os p t (call_of (get_or ops i 0) (get_or lines i 0) (get_or workers i 0) (get_or keys i 0)) r t'
        → RunsFrom M os p₀ t₀ (calls_of ops lines workers keys (i + 1)) out₀ r.phase t' (set out i r.answer)
    unfolding calls_of
    one-more-run i p₀ t₀ out₀ p t out r t' below so_far applies s same-phase same-table =
        let cs = calls_of ops lines workers keys i in
        let c = call_of (get_or ops i 0) (get_or lines i 0) (get_or workers i 0) (get_or keys i 0) in
        let h = so_far s same-phase same-table in
        let a = applies (run M os cs s) (sym h.phase) (sym h.table) in
        rw (add-one i)
        record {
          phase = a.phase ∙ ap (λ (x : History). x.phase) (sym (run-last M os cs c s));
          table = a.table ∙ ap (λ (x : History). x.table) (sym (run-last M os cs c s));
          answers = place cs c s out₀ out i r.answer (length-calls ops lines workers keys i) below h.answers a.answer;
        }
