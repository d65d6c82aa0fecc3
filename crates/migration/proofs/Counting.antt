-- The workers of a migration beside those of an insert phase (put-in shift) at its new table: what each is doing there, whether it has an unfinished order,
-- and how many are yet to read their old cells.
use mathlib.Core.Path.{◌≡◌, refl, sym, ap, ◌∙◌}
use mathlib.Core.Logic.{◌↔◌, ◌⊎◌, inl, inr}
use mathlib.Core.Bool.{Bool, true, false, cond}
use mathlib.Core.List.{List}
use Prim.Native.Nat.{ℕ, ◌+◌, ◌≤◌, ◌<◌}
use native.Mathlib.Omega.{arith}
use lib.ListN.{length, get_or, set, length-set}
use lib.Seq.{get_or-set_same, get_or-set_other, set-get_or}
use Rattle.ring.specs.Counting.{bit, over}
use Rattle.ring.proofs.Counting.{tally-none, over-set}
use Rattle.ring.proofs.Split.{by-eq}
use Rattle.activities.specs.Activities.{busy}
use Rattle.activities.specs.declared.Activity.{Activity}
use Rattle.activities.specs.declared.Activity.TheVariants.{Idle}
use Rattle.activities.proofs.Activities.{rests}
use Rattle.rule.specs.declared.Answer.{Answer}
use Rattle.rule.specs.declared.Answer.TheVariants.{WentOn, Finished, Price, No}
use Rattle.rule.specs.declared.Answer.TheVariants as answer
use Rattle.rule.proofs.Telling.{final}
use Rattle.history.specs.History.{is_finish}
use Rattle.migration.specs.Tasks.{free, carrier}
use Rattle.migration.specs.declared.Carrier.{Carrier}
use Rattle.migration.specs.declared.Task.{Task}
use Rattle.migration.specs.declared.Task.TheVariants.{Fetching, Inserting}

-- ---- of one worker
-- what it is doing at the new table
abbrev pub inserting : Task → Activity
inserting (Fetching c) = Idle
inserting (Inserting a) = a

-- 1 if it has an unfinished order, else 0
abbrev pub occupied : Task → ℕ
occupied (Fetching c) = 1
occupied (Inserting a) = busy a

-- 1 if it is yet to read its old cell, else 0
abbrev pub fetch : Task → ℕ
fetch (Fetching c) = 1
fetch (Inserting a) = 0

-- the old cell that it is to read
abbrev pub old_cell : Task → ℕ
old_cell (Fetching c) = c
old_cell (Inserting a) = 0

pub not-fetching : (a : Activity) (c : ℕ) → Inserting a ≡ Fetching c → ⊥
not-fetching a c e = omega (arith, ap fetch e)

pub unoccupied : (a : Task) → occupied a ≡ 0 → a ≡ free
unoccupied (Fetching c) z = absurd (omega arith)
unoccupied (Inserting a) z = ap Inserting (rests a z)

-- worker w of m, in a migration from n cells, with the task a, is at the new table a worker with activity x, and b tells whether it has an unfinished order
pub record Agrees (n m w : ℕ) (a : Task) (x : Activity) (b : Bool) : Type 0 where
  pub same : x ≡ inserting a
  pub flag : bit b ≡ occupied a
  pub past : m ≤ w → a ≡ free
  pub low : (c : ℕ) → a ≡ Fetching c → c < n

pub agrees-free : (n m w : ℕ) → Agrees n m w free Idle false
agrees-free n m w = record { same = refl; flag = refl; past = λ _. refl; low = λ c e. absurd (not-fetching Idle c e) }

pub agrees-fetching : (n m w c : ℕ) → w < m → c < n → Agrees n m w (Fetching c) Idle true
agrees-fetching n m w c l low = record { same = refl; flag = refl; past = λ g. absurd (omega arith); low = λ d e. let z : c ≡ d = ap old_cell e in omega arith }

agrees-inserting : (n m w : ℕ) (a : Activity) (b : Bool) → w < m → bit b ≡ busy a → Agrees n m w (Inserting a) a b
agrees-inserting n m w a b l is = record { same = refl; flag = is; past = λ g. absurd (omega arith); low = λ c e. absurd (not-fetching a c e) }

-- it is free exactly if it has none
pub agrees-rest : {n m w : ℕ} {a : Task} {x : Activity} {b : Bool} → Agrees n m w a x b → (b ≡ false) ↔ (a ≡ free)
agrees-rest {a = a} {b = b} h = (λ e. unoccupied a (sym h.flag ∙ ap bit e), λ e. none b (h.flag ∙ ap occupied e))
  where
    none : (c : Bool) → bit c ≡ 0 → c ≡ false
    none true z = absurd (omega arith)
    none false z = refl

-- ---- an answer
-- whether an order is unfinished after it
abbrev pub flag_left : Answer → Bool → Bool
flag_left r b = cond (is_finish r) false b

one_at_most : (b : Bool) → bit b ≤ 1
one_at_most true = omega arith
one_at_most false = omega arith

-- occupied before is occupied after, unless the answer is final
pub flag-left : (r : Answer) (b : Bool) (x y : ℕ) → bit b ≡ x → y + final r ≡ x → bit (flag_left r b) ≡ y
flag-left WentOn b x y h e = omega arith
flag-left Finished b x y h e = omega (arith, one_at_most b)
flag-left (Price p) b x y h e = omega (arith, one_at_most b)
flag-left No b x y h e = omega (arith, one_at_most b)
flag-left answer.Idle b x y h e = omega arith

left-set : (r : Bool) (flags : List Bool) (w : ℕ) → cond r (set flags w false) flags ≡ set flags w (cond r false (get_or flags w false))
left-set true flags w = refl
left-set false flags w = sym (set-get_or flags w false)

-- ---- all of them
pub record Crew (n m : ℕ) (cs : List Carrier) (flags : List Bool) (acts : List Activity) : Type 0 where
  pub records : m ≤ length cs
  pub places : m ≤ length flags
  pub all : length acts ≡ m
  pub each : (w : ℕ) → Agrees n m w (get_or cs w (carrier free)).task (get_or acts w Idle) (get_or flags w false)

-- worker w goes over to a
pub crew-set : (n m : ℕ) (cs : List Carrier) (flags : List Bool) (acts : List Activity) (w : ℕ) (a : Task) (x : Activity) (b : Bool) → w < m → Agrees n m w a x b
    → Crew n m cs flags acts → Crew n m (set cs w (carrier a)) (set flags w b) (set acts w x)
crew-set n m cs flags acts w a x b l h c =
    record {
      records = rw length-set c.records;
      places = rw length-set c.places;
      all = rw length-set c.all;
      each = λ i. by-eq i w
          (λ z. rw (
            z,
            get_or-set_same cs w (carrier a) (carrier free) (omega (arith, c.records)),
            get_or-set_same flags w b false (omega (arith, c.places)),
            get_or-set_same acts w x Idle (omega (arith, c.all)),
          ) h)
          (λ z. rw (get_or-set_other cs w i (carrier a) (carrier free) z, get_or-set_other flags w i b false z, get_or-set_other acts w i x Idle z) (c.each i));
    }

-- with an answer
pub crew-left : (n m : ℕ) (cs : List Carrier) (flags : List Bool) (acts : List Activity) (w : ℕ) (r : Answer) (a : Activity) → w < m
    → bit (flag_left r (get_or flags w false)) ≡ busy a → Crew n m cs flags acts
    → Crew n m (set cs w (carrier (Inserting a))) (cond (is_finish r) (set flags w false) flags) (set acts w a)
crew-left n m cs flags acts w r a l is c = rw (left-set (is_finish r) flags w)
    (crew-set n m cs flags acts w (Inserting a) a (flag_left r (get_or flags w false)) l (agrees-inserting n m w a _ l is) c)

-- ---- those yet to read an old cell
-- old cell c is yet to be read
abbrev pub Awaited : List Carrier → ℕ → Type 0
Awaited cs c = (w : ℕ) × ((get_or cs w (carrier free)).task ≡ Fetching c)

-- as many of the first m
pub fetching : ℕ → List Carrier → ℕ
fetching m cs = over (λ _ (x : Carrier). fetch x.task) (carrier free) m cs

pub fetching-none : (m : ℕ) (cs : List Carrier) → ((w : ℕ) → (get_or cs w (carrier free)).task ≡ free) → fetching m cs ≡ 0
unfolding fetching
fetching-none m cs rest = tally-none (λ w. fetch (get_or cs w (carrier free)).task) m (λ w _. ap fetch (rest w))

-- after worker w has gone over to a
module _ (cs : List Carrier) (w : ℕ) (a : Task) where
  pub awaited-stays : (c : ℕ) → Awaited cs c → ((get_or cs w (carrier free)).task ≡ Fetching c) ⊎ Awaited (set cs w (carrier a)) c
  awaited-stays c (u, z) = by-eq u w
      (λ e. inl (ap (λ (i : ℕ). (get_or cs i (carrier free)).task) (sym e) ∙ z))
      (λ e. inr (u, ap (λ (x : Carrier). x.task) (get_or-set_other cs w u (carrier a) (carrier free) e) ∙ z))

  pub fetching-set : (m : ℕ) → w < m → m ≤ length cs → fetching m (set cs w (carrier a)) + fetch (get_or cs w (carrier free)).task ≡ fetching m cs + fetch a
  unfolding fetching
  fetching-set m l all = over-set (λ _ (x : Carrier). fetch x.task) (carrier free) m cs w (carrier a) l (omega arith)
