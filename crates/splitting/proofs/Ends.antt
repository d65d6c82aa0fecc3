-- The end of a record at a place: the end of the text, or CR and LF.
use mathlib.Core.Path.{◌≡◌, ◌∙◌}
use mathlib.Core.Bool.{true, false}
use mathlib.Core.List.{List, ◌∷◌}
use Prim.Native.Nat.{ℕ, suc, ◌+◌, ◌≤◌, ◌<◌}
use native.Mathlib.Omega.{arith}
use lib.Dec.{eqb}
use lib.ListN.{length, get_or, drop, drop_of_length-le}
use lib.Seq.{drop-cons}
use Rattle.std.specs.Prelude.{Some, None}
use Rattle.text.proofs.Test.{by-test, by-lt}
use Rattle.rfc4180.specs.Reader.{end_of}
use Rattle.splitting.specs.Fields.{end_from}

module _ (text : List ℕ) (at : ℕ) where
  pub at-end : length text ≤ at → Some at ≡ end_from at (end_of (drop at text))
  unfolding end_of
  at-end h = let z : at + 0 ≡ at = omega arith in rw (drop_of_length-le text h, z)

  module _ (h : at < length text) where
    pub one : length text ≤ at + 1 → None ≡ end_from at (end_of (drop at text))
    unfolding end_of
    one k = let l : length text ≤ suc at = omega arith in rw (drop-cons text at 0 h, drop_of_length-le text l)

    two : at + 1 < length text → drop at text ≡ get_or text at 0 ∷ get_or text (at + 1) 0 ∷ drop (suc (suc at)) text
    two k =
        let l : suc at < length text = omega arith in
        let z : at + 1 ≡ suc at = omega arith in
        drop-cons text at 0 h ∙ rw (drop-cons text (suc at) 0 l, z)

    pub no-cr : eqb (get_or text at 0) 13 ≡ false → None ≡ end_from at (end_of (drop at text))
    unfolding end_of
    no-cr n = by-lt (at + 1) (length text) (λ k. rw (two k, n)) one

    pub no-lf : eqb (get_or text (at + 1) 0) 10 ≡ false → None ≡ end_from at (end_of (drop at text))
    unfolding end_of
    no-lf n = by-lt (at + 1) (length text)
        (λ k. rw (two k) (by-test (eqb (get_or text at 0) 13) (λ e. rw (e, n)) (λ e. rw e)))
        one

    pub crlf : eqb (get_or text at 0) 13 ≡ true → at + 1 < length text → eqb (get_or text (at + 1) 0) 10 ≡ true
        → Some (at + 2) ≡ end_from at (end_of (drop at text))
    unfolding end_of
    crlf e k n = rw (two k, e, n)

pub ruleset end_rules = (at-end, no-cr, no-lf, crlf)
