-- A loop that tells each acknowledgement its answer.
use mathlib.Core.Path.{◌≡◌, refl, sym, ◌∙◌}
use mathlib.Core.List.{List, ◌++◌}
use Prim.Native.Nat.{ℕ, ◌+◌, ◌≤◌, ◌<◌}
use native.Mathlib.Omega.{arith}
use lib.ListN.{length, get_or, set, drop, length-set, length-map, length-append, length-drop}
use lib.Seq.{ext_get_or, get_or-set_same, get_or-set_other}
use Rattle.ring.proofs.Split.{by-eq, by-lt}
use Rattle.state.specs.Refusals.{reply_number}
use Rattle.rounds.specs.Rounds.{Ack, no_ack, ack_reply, ack_numbers}
use Rattle.rounds.proofs.Acks.{own-answer}
use Rattle.rounds.proofs.Closing.{front-past}

-- the first i have theirs in `ns`, and the places from there on are as they were in `old`
pub record Told (m : ℕ) (t : List ℕ) (rs : List Ack) (old : List ℕ) (i : ℕ) (ns : List ℕ) : Type 0 where
  pub told : (j : ℕ) → j < i → get_or ns j 0 ≡ reply_number (ack_reply m t (get_or rs j no_ack))
  pub kept : (j : ℕ) → i ≤ j → get_or ns j 0 ≡ get_or old j 0
  pub long : length ns ≡ length old

module _ (m : ℕ) (t : List ℕ) (rs : List Ack) (old : List ℕ) where
  pub none_told : Told m t rs old 0 old
  none_told = record { told = λ j l. absurd (omega arith); kept = λ j l. refl; long = refl }

  pub one_told : (i : ℕ) (ns : List ℕ) (n : ℕ) → i < length ns → n ≡ reply_number (ack_reply m t (get_or rs i no_ack)) → Told m t rs old i ns
      → Told m t rs old (i + 1) (set ns i n)
  one_told i ns n inside is h = record {
    told = λ j l. by-eq j i
        (λ e. rw e (get_or-set_same ns i n 0 inside ∙ is))
        (λ ne. get_or-set_other ns i j n 0 ne ∙ h.told j (omega arith));
    kept = λ j l. get_or-set_other ns i j n 0 (λ e. omega arith) ∙ h.kept j (omega arith);
    long = length-set ns i n ∙ h.long;
  }

  pub all_told : (i : ℕ) (ns : List ℕ) → i ≡ length rs → length rs ≤ length old → Told m t rs old i ns → ns ≡ ack_numbers m t rs ++ drop (length rs) old
  all_told i ns all room h =
      let many = length-map rs (λ (r : Ack). reply_number (ack_reply m t r)) in
      ext_get_or 0 ns (ack_numbers m t rs ++ drop (length rs) old)
      (h.long ∙ omega (arith, length-append (ack_numbers m t rs) (drop (length rs) old), length-drop (length rs) old, many))
      (λ j _. by-lt j (length rs)
      (λ l. h.told j (omega arith) ∙ sym (own-answer m t rs (drop (length rs) old) j 0 l))
      (λ l. h.kept j (omega arith) ∙ sym (rw many at (front-past (ack_numbers m t rs) old j (omega arith)))))
