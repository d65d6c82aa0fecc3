-- Bytes printed one after the other, and how many there are.
use Rattle.std.specs.Prelude.{Ok, Err}
use mathlib.Core.Path.{◌≡◌, ap, ◌∙◌}
use mathlib.Core.List.{List, [], ◌∷◌, ◌++◌}
use Prim.Native.Nat.{ℕ, suc, ◌+◌, ◌^◌, ◌≤◌, ◌<◌}
use native.Mathlib.Omega.{arith}
use lib.ListN.{length, set, length-append}
use lib.Seq.{sets, length-sets}
use borrow.Author.Tests.{le-leb}
use Rattle.text.specs.Digits.{digits_of}
use Rattle.text.specs.Numbers.{longest_number}
use Rattle.text.specs.Put.{put_at, place_after}
use Rattle.text.proofs.Digits.{few-digits}
use Rattle.state.specs.Refusals.{number_of}
use Rattle.state.specs.declared.Refusal.{Refusal}
use Rattle.state.specs.declared.Refusal.TheVariants.{Size, Crew, Kind, Unsound, OtherTable, NoWorker, Blank, Busy, Full, Working, Shut, ShortList, Spoilt, WrongPrice, NoLine, LongList, Gap, Disorder, BadRecord, BadField, Even, Absent, Unfit, TestNumber}
use Rattle.state.specs.Replies.{Reply}
use Rattle.printing.specs.Widths.{reply_width}
use Rattle.printing.specs.Fields.{Printed, PrintedWithin, refusal_fields, reply_fields}

-- bytes for which there is room are written
pub all-written : {bytes out after : List ℕ} {at behind : ℕ} → at + length bytes ≤ length out
    → (behind ≡ place_after out at bytes) × (after ≡ put_at out at bytes) → Printed bytes out at after behind
all-written {bytes} {out} {after} {at} {behind} room e =
    let fits = le-leb (at + length bytes) (length out) room in record { list = e.1 ∙ rw fits; place = e.0 ∙ rw fits }

sets-append : (a b l : List ℕ) (i : ℕ) → sets (sets l i a) (i + length a) b ≡ sets l i (a ++ b)
sets-append [] b l i = let e : i + 0 ≡ i = omega arith in rw e
sets-append (x ∷ a) b l i = let e : i + suc (length a) ≡ suc i + length a = omega arith in rw e (sets-append a b (set l i x) (suc i))

-- bytes behind bytes
pub printed-on : {a b out between after : List ℕ} {at place behind : ℕ} → Printed a out at between place → Printed b between place after behind
    → Printed (a ++ b) out at after behind
printed-on {a} {b} {out} {between} {after} {at} {place} {behind} p q =
    record {
      list = q.list ∙ rw (p.list, p.place) (sets-append a b out at);
      place = omega (arith, q.place, p.place, length-append a b);
    }

-- the list stays as long as it is
pub as_long : {a out after : List ℕ} {at behind : ℕ} → Printed a out at after behind → length after ≡ length out
as_long {a} {out} {after} {at} p = ap length p.list ∙ length-sets out at a

-- two calls that have room write both
pub both-written : (a : List ℕ) {b d out between after : List ℕ} {at place behind : ℕ} → b ≡ d → at + length a + length d ≤ length out
    → (place ≡ place_after out at a) × (between ≡ put_at out at a) → (behind ≡ place_after between place b) × (after ≡ put_at between place b)
    → Printed (a ++ d) out at after behind
both-written a {b} {d} {out} {between} {after} {at} {place} {behind} same room e f =
    let p : Printed a out at between place = all-written (omega arith) e in
    rw (← same) (printed-on p (all-written (omega (arith, p.place, as_long p, ap length same)) f))

-- few bytes end soon
pub soon : {a out after : List ℕ} {at behind most : ℕ} → length a ≤ most → Printed a out at after behind → PrintedWithin most a out at after behind
soon l p = (p, omega (arith, p.place))

-- ---- how many bytes
small : (r : Refusal) → number_of r < 10 ^ 2
small Size = omega arith
small Crew = omega arith
small Kind = omega arith
small Unsound = omega arith
small OtherTable = omega arith
small NoWorker = omega arith
small Blank = omega arith
small Busy = omega arith
small Full = omega arith
small Working = omega arith
small Shut = omega arith
small ShortList = omega arith
small Spoilt = omega arith
small WrongPrice = omega arith
small NoLine = omega arith
small LongList = omega arith
small Gap = omega arith
small Disorder = omega arith
small BadRecord = omega arith
small BadField = omega arith
small Even = omega arith
small Absent = omega arith
small Unfit = omega arith
small TestNumber = omega arith

pub two_digits : (r : Refusal) → length (digits_of (number_of r)) ≤ 2
two_digits r = few-digits 1 (number_of r) (small r)

pub ten-digits : (n : ℕ) → n < 2 ^ 32 → length (digits_of n) ≤ longest_number
ten-digits n h = few-digits 9 n (omega arith)

pub refusal-short : (r : Refusal) → length (refusal_fields r) ≤ reply_width
refusal-short r = omega (arith, two_digits r)

pub reply-short : (a : Reply) → length (reply_fields a) ≤ reply_width
reply-short (Ok _) = omega arith
reply-short (Err r) = refusal-short r
