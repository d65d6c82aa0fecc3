-- The texts that specs/Promise writes are the fields that are printed.
use Rattle.std.specs.Prelude.{Option, Some, None, Ok, Err}
use mathlib.Core.Path.{◌≡◌, refl, sym, ◌∙◌}
use mathlib.Core.List.{List, [], ◌∷◌, ◌++◌, append-nil, append_assoc}
use Prim.Native.Nat.{ℕ, zero, suc, ◌≤◌}
use native.Mathlib.Omega.{arith}
use lib.ListN.{length, get_or, take}
use lib.Seq.{take-suc}
use Rattle.text.specs.Bytes.{bytes_of}
use Rattle.text.specs.Digits.{digits_of}
use Rattle.prices.specs.Contents.{label, price}
use Rattle.rule.specs.declared.Answer.TheVariants as answer
use Rattle.state.specs.Replies.{Reply}
use Rattle.protocol.specs.Replies.{TurnReply}
use Rattle.dealing.specs.Deal.{unfinished}
use Rattle.dealing.specs.declared.Ended.{Ended}
use Rattle.printing.specs.Fields.{field, finish_word, reply_fields, turn_fields, finish_fields, entry_fields}
use Rattle.sheet.specs.Promise.{reply_text, turn_text, end_text, workers_text, finish_text, priced_text, list_text}

pub reply-text : (r : Reply) → reply_fields r ≡ reply_text r
unfolding bytes_of
reply-text (Ok _) = refl
reply-text (Err r) = refl

pub turn-text : (r : TurnReply) → turn_fields r ≡ turn_text r
unfolding bytes_of
turn-text (Ok answer.WentOn) = refl
turn-text (Ok answer.Finished) = refl
turn-text (Ok (answer.Price q)) = sym (append-nil (9 ∷ digits_of q))
turn-text (Ok answer.No) = refl
turn-text (Ok answer.Idle) = refl
turn-text (Err r) = refl

priced-text : (es : List ℕ) → entry_fields es ≡ priced_text es
unfolding bytes_of
priced-text [] = refl
priced-text (e ∷ es) =
    rw (
      priced-text es,
      append-nil (digits_of (price e)),
      append_assoc (digits_of (label e)) (9 ∷ digits_of (price e)) (priced_text es),
    )

pub list-text : (es : List ℕ) → field (digits_of (length es)) ++ entry_fields es ≡ list_text es
unfolding bytes_of
list-text es = rw (priced-text es, append-nil (digits_of (length es)))

-- ---- after a run
end-text : (e : Option Ended) → field (finish_word e) ≡ end_text e
unfolding bytes_of
end-text None = refl
end-text (Some Ended.Finished) = refl
end-text (Some (Ended.Price q)) = sym (append-nil (9 ∷ digits_of q))
end-text (Some Ended.No) = refl

finish-append : (fs gs : List (Option Ended)) → finish_fields (fs ++ gs) ≡ finish_fields fs ++ finish_fields gs
finish-append [] gs = refl
finish-append (f ∷ fs) gs = rw (finish-append fs gs) (sym (append_assoc (field (finish_word f)) (finish_fields fs) (finish_fields gs)))

-- the first m finishes are one field a worker
pub workers-text : (fs : List (Option Ended)) (m : ℕ) → m ≤ length fs → finish_fields (take m fs) ≡ workers_text m (finish_text fs)
workers-text fs zero h = refl
workers-text fs (suc m) h =
    let f = get_or fs m unfinished in
    let one : finish_fields (f ∷ []) ≡ finish_text fs m = append-nil (field (finish_word f)) ∙ end-text f in
    rw (take-suc fs m unfinished (omega arith), finish-append, workers-text fs m (omega arith), one)
