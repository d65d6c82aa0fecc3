-- What specs/Promise promises.
use Rattle.std.specs.Prelude.{Err}
use mathlib.Core.Path.{◌≡◌, refl, sym, ap, ◌∙◌}
use mathlib.Core.Logic.{◌≢◌}
use mathlib.Core.Bool.{Bool, true, false}
use mathlib.Core.List.{List, [], ◌∷◌}
use Prim.Native.Nat.{ℕ, ◌≤◌, ◌<◌}
use native.Mathlib.Omega.{arith}
use borrow.Author.Tests.{ne_eqb}
use lib.ListN.{length}
use Rattle.ring.proofs.Split.{by-eq}
use Rattle.homes.specs.Homes.{hash_of, is_even}
use Rattle.homes.specs.declared.Hash.{Hash}
use Rattle.flaws.specs.Flaws.{is_intact, meets_empty, meets_key}
use Rattle.orders.specs.declared.Order.{Order}
use Rattle.activities.specs.Kinds.{kind_ok}
use Rattle.state.specs.Model.{gateway, size_ok, crew_ok}
use Rattle.state.specs.Open.{open_call}
use Rattle.state.specs.Refusals.{reply_number, if, unless, first_of}
use Rattle.state.specs.declared.Device.TheVariants.{Gateway}
use Rattle.state.specs.declared.Refusal.TheVariants.{Size, Crew, Kind, Unsound, Shut, LongList, Gap, Disorder, Even}
use Rattle.state.proofs.Model.{gateway-proper}
use Rattle.lines.specs.Grammar.{reading_of}
use Rattle.protocol.specs.IsWellFormed.{is_well_formed}
use Rattle.protocol.specs.Calls.{close_call, turn_check}
use Rattle.protocol.proofs.Keeping.{each-never-spoilt}
use Rattle.protocol.proofs.Theorem.{well-formed, opens}
use Rattle.tables.proofs.Theorem.{theorem as at_rest}
use Rattle.dealing.proofs.Reached.{passed, crew}
use Rattle.dealing.proofs.Telling.{tells-promise}
use Rattle.dealing.proofs.Theorem.{run-promise}
use Rattle.sheet.specs.Replay.{State}
use Rattle.sheet.specs.Valid.{Valid, ByCalls}
use Rattle.sheet.specs.Promise.{line, greatest, refused_text, Does, SheetPromise}
use Rattle.sheet.proofs.Lines.{in-shut, in-open, in_either}
use Rattle.sheet.proofs.Unreadable.{leading_zero, above}
use Rattle.sheet.proofs.Made.{blank-by-calls, line-by-calls}
use Rattle.sheet.proofs.Valid.{blank-valid, valid-kept}

-- the opening accepted the number of workers, and no call changes it
crew-within : (s : State) → Valid s → s.phase.shut ≡ false → (1 ≤ s.phase.crew) × (s.phase.crew ≤ 16)
crew-within s v up =
    let h = v.reached up in
    let within = (passed gateway gateway-proper h.kind h.crew h.hash h.opened s.items s.phase s.table h.by).crew in
    rw (crew gateway gateway-proper h.kind h.crew h.hash h.opened s.items s.phase s.table h.by) within

-- ---- in a shut shift
module _ (s : State) (h : ByCalls s.phase) (shut : s.phase.shut ≡ true) where
  good : is_well_formed gateway s.phase ≡ true
  good = (well-formed gateway s.phase).1 (each-never-spoilt Gateway s.phase h.made)

  shut_turn : (w : ℕ) → w ≤ greatest → Does s (line "turn" (w ∷ [])) s (refused_text 11)
  shut_turn w a =
      let no : turn_check gateway s.phase s.table w ≡ Err Shut = rw (good, shut) in
      rw no at ((in_either s).turn w a)

  shut_close : Does s (line "close" []) s (refused_text 11)
  shut_close =
      let no : (close_call gateway s.phase).reply ≡ Err Shut = rw (good, shut) in
      (in_either s).close_refused Shut no

-- ---- 16 is for lists of more than 65,536 orders
other-refusal : (a b c o d e f : Bool)
    → first_of (unless a Size ∷ unless b Crew ∷ unless c Kind ∷ if o Even ∷ unless d Unsound ∷ if e Gap ∷ if f Disorder ∷ []) ≢ Err LongList
other-refusal false b c o d e f h = omega (arith, ap reply_number h)
other-refusal true false c o d e f h = omega (arith, ap reply_number h)
other-refusal true true false o d e f h = omega (arith, ap reply_number h)
other-refusal true true true true d e f h = omega (arith, ap reply_number h)
other-refusal true true true false false e f h = omega (arith, ap reply_number h)
other-refusal true true true false true true f h = omega (arith, ap reply_number h)
other-refusal true true true false true false true h = omega (arith, ap reply_number h)
other-refusal true true true false true false false h = omega (arith, ap reply_number h)

is-long : (k m : ℕ) (ab : Hash) (t : List ℕ) (os : List Order) → (open_call gateway k m ab t os).reply ≡ Err LongList → 65536 < length os
is-long k m ab t os e =
    let o = opens gateway k m ab t os in
    by-eq k 1
    (λ is. let (_, (_, (_, (_, (sixteen, _))))) = o.inserts is in (sixteen.0 (ap reply_number e)).1)
    (λ ne. absurd (other-refusal (size_ok gateway (length t)) (crew_ok gateway m) (kind_ok k) (is_even ab) (is_intact t)
    (meets_empty (gateway.home ab (length t)) t) (meets_key (gateway.home ab (length t)) t) (rw (ne_eqb k 1 ne) at (sym o.reply ∙ e))))

pub sheet-promise : SheetPromise
unfolding is_well_formed
sheet-promise = record {
  before_open = refl;
  before_order = λ os i w v. refl;
  before_turn = λ t w. refl;
  before_close = refl;
  before_cells = refl;
  before_items = refl;
  before_hash = refl;
  shut = in-shut;
  opened = in-open;
  either = in_either;
  leading_zero = leading_zero;
  above = above;
  valid_first = blank-valid;
  valid = λ s v l. valid-kept s v (reading_of l);
  crew = crew-within;
  few_items = λ s v. v.items;
  never_long = λ s v k m a b e. omega (arith, is-long k m (hash_of a b) s.table s.items e, v.items);
  told = λ s v up w a. tells-promise gateway gateway-proper s.items s.phase s.table (v.reached up) up w a;
  ran = λ s v up. run-promise gateway gateway-proper s.items s.phase s.table (v.reached up) up;
  by_calls_first = blank-by-calls;
  by_calls = line-by-calls;
  never_even = λ s h e.
      let (_, (even, _)) = (at_rest gateway gateway-proper s.phase.hash s.table []).check in
      let (x, is) = (even.0 (ap reply_number e)).1 in
      let (y, odd) = h.odd in omega (arith, is, odd);
  shut_turn = shut_turn;
  shut_close = shut_close;
}
