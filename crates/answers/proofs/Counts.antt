-- A count is at most the table's length, and so a value.
use Rattle.std.specs.Prelude.{Ok}
use mathlib.Core.Path.{◌≡◌, refl, ap, sym, ◌∙◌}
use mathlib.Core.List.{List}
use Prim.Native.Nat.{ℕ, ◌^◌, ◌≤◌, ◌<◌}
use native.Mathlib.Omega.{arith}
use lib.ListN.{length, length-map}
use Rattle.layout.specs.Layout.{size}
use Rattle.layout.proofs.Sets.{size-le}
use Rattle.homes.specs.declared.Hash.{Hash}
use Rattle.prices.specs.Contents.{label}
use Rattle.prices.specs.Priced.{labels}
use Rattle.state.specs.Counts.{count_number, count_value}
use Rattle.state.specs.Model.{model_of}
use Rattle.state.specs.declared.Device.{Device}
use Rattle.state.proofs.Model.{proper, most-cells}
use Rattle.tables.specs.Calls.{count_call, list_call}
use Rattle.tables.specs.Promise.{AtRest}
use Rattle.tables.proofs.Theorem.{theorem}
use Rattle.rounds.specs.Rounds.{table_after}
use Rattle.rounds.proofs.Theorem.{closing}
use Rattle.till.specs.Till.{till_call}
use Rattle.till.proofs.Theorem.{answers}
use Rattle.answers.specs.Numbers.{CountsPromise}

module _ (d : Device) (ab : Hash) (t out : List ℕ) (c : ℕ) where
  abbrev at_rest : AtRest (model_of d) ab t out
  at_rest = theorem (model_of d) (proper d) ab t out

  is-count : count_call (model_of d) ab t ≡ Ok c → (c ≡ size (labels label t)) × (length t ≤ 8192)
  is-count e =
      let usable = at_rest.passes.0 (sym at_rest.count_refused ∙ ap count_number e) in
      (sym (ap count_value e) ∙ at_rest.count_true usable, omega (arith, usable.0, most-cells d))

  is-listed : list_call (model_of d) ab t out ≡ Ok c → (c ≡ size (labels label t)) × (length t ≤ 8192)
  is-listed e =
      let (_, (_, (_, (_, (_, (_, none)))))) = at_rest.list in
      let ((((((_, sized), _), _), _), _), _) = none.0 (ap count_number e) in
      (sym (ap count_value e) ∙ at_rest.list_true (ap count_number e), omega (arith, sized, most-cells d))

-- a till list has no more records than there are places
is_read : (d : Device) (text : List ℕ) (m places c : ℕ) → till_call (model_of d) text m places ≡ Ok c → c ≤ places
is_read d text m places c e =
    let a = answers (model_of d) text m places in
    let (_, (ls, holds, room)) = a.accepts.0 (ap count_number e) in
    omega (arith, room, sym (ap count_value e) ∙ a.count ls holds (ap count_number e))

-- a listed table has no more keys than cells
few-listed : (d : Device) (ab : Hash) (t out : List ℕ) (c : ℕ) → list_call (model_of d) ab t out ≡ Ok c → c < 2 ^ 32
few-listed d ab t out c e = omega (arith, size-le (labels label t), length-map t label, is-listed d ab t out c e)

pub counts-promise : CountsPromise
counts-promise = record {
  value = λ c. refl;
  refused = λ r. refl;
  count = λ d ab t c e. omega (arith, size-le (labels label t), length-map t label, is-count d ab t t c e);
  list = few-listed;
  round = λ d m ab t rs answers out c e.
      few-listed d ab (table_after (model_of d) m ab t rs answers out) out c (((closing (model_of d) (proper d) m ab t rs answers out).listed (ap count_number e)).0 ∙ e);
  till = is_read;
}
