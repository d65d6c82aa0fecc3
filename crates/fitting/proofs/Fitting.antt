-- Fitting a line to the phase: what its tests say.
use mathlib.Core.Path.{◌≡◌, refl, sym, ap, subst, ◌∙◌}
use mathlib.Core.Logic.{◌≢◌}
use mathlib.Core.Bool.{Bool, true, false, ◌&&◌, cond}
use mathlib.Core.List.{List}
use Prim.Native.Nat.{ℕ, ◌<◌}
use native.Mathlib.Omega.{arith}
use borrow.Author.Tests.{ne_eqb, eqb-true, ltb-true}
use lib.Dec.{eqb, ltb}
use lib.ListN.{length, get_or}
use Rattle.std.specs.Prelude.{Option, None, Some}
use Rattle.std.proofs.lemmas.Option.{none-some, cond_some, option_and_then_some}
use Rattle.orders.specs.Orders.{order_with, line_at}
use Rattle.orders.specs.declared.Order.{Order}
use Rattle.text.specs.Bytes.{same}
use Rattle.text.proofs.Test.{by-test, both_true}
use Rattle.lines.specs.Grammar.{word_of}
use Rattle.lines.specs.declared.Command.{Command}
use Rattle.lines.specs.declared.Line.{Line}
use Rattle.lines.specs.declared.Numbers.{Numbers}
use Rattle.lines.proofs.Words.{by-option, all, all-commands, same_word}
use Rattle.fitting.specs.declared.Aim.{Aim}
use Rattle.fitting.specs.declared.Handling.{Handling}
use Rattle.fitting.specs.declared.Handling.TheVariants.{Performed, Refused, Barred, Bad}
use Rattle.fitting.specs.declared.Row.{Row}
use Rattle.fitting.specs.declared.Single.{Single}
use Rattle.fitting.specs.declared.Single.TheVariants as single
use Rattle.fitting.specs.declared.Task.{Task}
use Rattle.fitting.specs.Fitting.{row_of, taken_by, handling_in, handled, command_asks, reading_in, order_named, order_aim, aim_with, aim_of}

-- ---- the numbers that a row takes
pub taken-parts : (r : Row) (n : Option Numbers) (vs : List ℕ) → taken_by r n ≡ Some vs → (m : Numbers) × (n ≡ Some m) × (m.count ≡ r.takes) × (m.values ≡ vs)
taken-parts r None vs e = absurd (none-some vs e)
taken-parts r (Some m) vs e = let p = cond_some (eqb m.count r.takes) m.values vs e in (m, refl, eqb-true m.count r.takes p.0, p.1)

-- ---- a command is carried out only where its row says so
no-task : {c : Command} {vs : List ℕ} {C : Type 0} → Some Task.Refuse ≡ Some (Task.Perform c vs) → C
no-task e = absurd (let z : ◌≡◌ {A = ℕ} 0 1 = cc in omega arith)

pub handled-performed : (h : Handling) (n : Option (List ℕ)) (d c : Command) (vs : List ℕ) → handled h n d ≡ Some (Task.Perform c vs)
    → (h ≡ Performed) × (d ≡ c) × (n ≡ Some vs)
handled-performed Performed (Some n) d c vs e = (refl, (cc), ap Some (cc))
handled-performed Performed None d c vs e = absurd (none-some _ e)
handled-performed Refused (Some n) d c vs e = no-task e
handled-performed Refused None d c vs e = absurd (none-some _ e)
handled-performed Barred n d c vs e = no-task e
handled-performed Bad n d c vs e = absurd (none-some _ e)

-- what a line that is carried out says
pub performs : (k c : ℕ) (shut : Bool) (l : Line) (d : Command) (vs : List ℕ) → reading_in k c shut l ≡ Some (Task.Perform d vs)
    → (l.command ≡ Some d) × (handling_in shut (row_of k c d) ≡ Performed) × (taken_by (row_of k c d) l.numbers ≡ Some vs)
performs k c shut l d vs e = option_and_then_some (command_asks k c shut l.numbers) l.command (Task.Perform d vs) e (λ x q r.
    let p = handled-performed (handling_in shut (row_of k c x)) (taken_by (row_of k c x) l.numbers) x d vs r in (
      q ∙ ap Some p.1,
      ap (λ (b : Command). handling_in shut (row_of k c b)) (sym p.1) ∙ p.0,
      ap (λ (b : Command). taken_by (row_of k c b) l.numbers) (sym p.1) ∙ p.2,
    ))

-- ---- a line that is found to be to a worker
-- only `order` is an order and only `turn` is a turn
is-order : Option Single → Bool
is-order None = false
is-order (Some single.Order) = true
is-order (Some single.Turn) = false

is-turn : Option Single → Bool
is-turn None = false
is-turn (Some single.Order) = false
is-turn (Some single.Turn) = true

only : (Option Single → Bool) → Command → (k c : ℕ) → Command → Bool
only t e k c d = cond (t (row_of k c d).single) (same (word_of d) (word_of e)) true

by_only : (t : Option Single → Bool) (e : Command) (k c : ℕ) (d : Command) → only t e k c d ≡ true → t (row_of k c d).single ≡ true → d ≡ e
unfolding only
by_only t e k c d h q = same_word d e (rw q at h)

order-only : (k c : ℕ) (d : Command) → (row_of k c d).single ≡ Some single.Order → d ≡ Command.Order
unfolding all only is-order same
order-only k c d e = by_only is-order Command.Order k c d (all-commands (only is-order Command.Order k c) refl d) (ap is-order e)

turn-only : (k c : ℕ) (d : Command) → (row_of k c d).single ≡ Some single.Turn → d ≡ Command.Turn
unfolding all only is-turn same
turn-only k c d e = by_only is-turn Command.Turn k c d (all-commands (only is-turn Command.Turn k c) refl d) (ap is-turn e)

-- line l is command d with the numbers vs to worker w of an open phase of kind k and m workers, with c items kept
pub record ToWorker (k c : ℕ) (shut : Bool) (l : Line) (m : ℕ) (d : Command) (vs : List ℕ) (w : ℕ) : Type 0 where
  pub asked : reading_in k c shut l ≡ Some (Task.Perform d vs)
  pub up : shut ≡ false
  pub below : w < m

-- the order o is the one that a line with these numbers names
pub record Names (k : ℕ) (vs : List ℕ) (os : List Order) (o : Order) : Type 0 where
  -- in a put-in shift, by its place in the list
  pub placed : k ≡ 1 → line_at os (get_or vs 0 0) ≡ Some o
  -- in the others, by a worker and a label
  pub named : k ≢ 1 → o ≡ order_with (get_or vs 1 0) 0 (get_or vs 0 0)

abbrev pub Aimed : ℕ → Bool → Line → ℕ → List Order → Option Aim → Type 0
Aimed k shut l m os None = Unit {0}
Aimed k shut l m os (Some (Aim.Order o)) = (vs : List ℕ) × ToWorker k (length os) shut l m Command.Order vs o.worker × Names k vs os o
Aimed k shut l m os (Some (Aim.Turn w)) = (vs : List ℕ) × ToWorker k (length os) shut l m Command.Turn vs w × (get_or vs 0 0 ≡ w)

module _ (k : ℕ) (l : Line) (m : ℕ) (os : List Order) where
  module _ (d : Command) (is : l.command ≡ Some d) (vs : List ℕ) (takes : taken_by (row_of k (length os) d) l.numbers ≡ Some vs) where
    abbrev row : Row
    row = row_of k (length os) d

    abbrev named : Option Order
    named = order_named k (get_or vs 0 0) (get_or vs 1 0) os

    asked_here : (e : Command) → d ≡ e → (row_of k (length os) e).opened ≡ Performed → reading_in k (length os) false l ≡ Some (Task.Perform e vs)
    asked_here e same p = rw (is, takes) (rw (same, p))

    names : (o : Order) → named ≡ Some o → Names k vs os o
    names o e = record { placed = λ q. (rw q at e); named = λ q. let f = rw (ne_eqb k 1 q) at e in cc }

    aimed-at : (x : Option Order) → named ≡ x → row.single ≡ Some single.Order → Aimed k false l m os (order_aim x m)
    aimed-at None n e = tt
    aimed-at (Some o) n e = by-test (ltb o.worker m)
        (λ t. rw t
        (vs, record { asked = asked_here Command.Order (order-only k (length os) d e) refl; up = refl; below = ltb-true _ m t }, names o n))
        (λ t. rw t tt)

    aimed-with : (a : Option Single) → row.single ≡ a → Aimed k false l m os (aim_with a k vs m os)
    aimed-with None e = tt
    aimed-with (Some single.Order) e = aimed-at named refl e
    aimed-with (Some single.Turn) e = by-test (ltb (get_or vs 0 0) m)
        (λ t. rw t
        (vs, record { asked = asked_here Command.Turn (turn-only k (length os) d e) refl; up = refl; below = ltb-true _ m t }, refl))
        (λ t. rw t tt)

  is-aimed : (shut : Bool) → Aimed k shut l m os (aim_of k shut l m os)
  is-aimed true = tt
  is-aimed false = by-option l.command
      (λ d e. by-option (taken_by (row_of k (length os) d) l.numbers)
      (λ vs f. aims (aim_with (row_of k (length os) d).single k vs m os) (rw (e, f)) (aimed-with d e vs f (row_of k (length os) d).single refl))
      (λ f. aims None (rw (e, f)) tt))
      (λ e. aims None (rw e) tt)
    where
      aims : (a : Option Aim) → a ≡ aim_of k false l m os → Aimed k false l m os a → Aimed k false l m os (aim_of k false l m os)
      aims a e h = subst (Aimed k false l m os) e h

pub aimed : (k : ℕ) (shut : Bool) (l : Line) (m : ℕ) (os : List Order) {a : Option Aim} → a ≡ aim_of k shut l m os → Aimed k shut l m os a
aimed k shut l m os e = subst (Aimed k shut l m os) (sym e) (is-aimed k l m os shut)
