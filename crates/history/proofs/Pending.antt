-- The entries of unfinished operations beside the workers: a worker is busy exactly if its entry is not 0, and in a find phase works for that entry.
use mathlib.Core.Path.{◌≡◌, refl, sym, ap}
use mathlib.Core.Logic.{◌≢◌, ◌↔◌}
use mathlib.Core.Bool.{Bool, true, false, cond}
use mathlib.Core.List.{List}
use Prim.Native.Nat.{ℕ, ◌+◌, ◌≤◌, ◌<◌}
use native.Mathlib.Omega.{arith}
use lib.Dec.{ltb, eqb}
use lib.ListN.{length, get_or, set, length-set}
use lib.Seq.{get_or-set_same, get_or-set_other, set-get_or}
use borrow.Author.Tests.{lt-ltb}
use Rattle.ring.specs.Counting.{bit}
use Rattle.ring.proofs.Split.{by-eq}
use Rattle.activities.proofs.Activities.{rests}
use Rattle.activities.specs.Activities.{busy, entry_of, idle}
use Rattle.rule.specs.Rule.{find_step, rule, start}
use Rattle.rule.specs.declared.Answer.{Answer}
use Rattle.rule.specs.declared.Answer.TheVariants.{WentOn, Finished, Price, No}
use Rattle.rule.specs.declared.Answer.TheVariants as answer
use Rattle.rule.specs.declared.Outcome.{Outcome}
use Rattle.rule.proofs.Telling.{final, settles}
use Rattle.phases.proofs.Steps.{either}
use Rattle.activities.specs.declared.Activity.{Activity}
use Rattle.activities.specs.declared.Activity.TheVariants.{Idle, Reading, Replacing, WalkingBack, SeekingForward, SeekingBack}
use Rattle.activities.specs.declared.Worker.{Worker}
use Rattle.history.specs.History.{is_finish}

-- x is the entry of the unfinished operation of a worker with activity a, 0 if there is none
pub record Agrees (k x : ℕ) (a : Activity) : Type 0 where
  pub unfinished : bit (ltb 0 x) ≡ busy a
  pub entry : k ≡ 3 → x ≡ entry_of a

pub agrees-idle : (k : ℕ) → Agrees k 0 Idle
agrees-idle k = record { unfinished = refl; entry = λ _. refl }

pub agrees_start : (k : ℕ) (key home : ℕ → ℕ) (v : ℕ) → v ≢ 0 → Agrees k v (start key home v)
agrees_start k key home v nz = record { unfinished = rw (lt-ltb 0 v (omega arith)); entry = λ _. refl }

pub agrees-rest : (k x : ℕ) (a : Activity) → Agrees k x a → (x ≡ 0) ↔ (a ≡ Idle)
agrees-rest k x a h = (
  λ z. rests a (omega (arith, h.unfinished, ap (λ y. bit (ltb 0 y)) z)),
  λ i. by-eq x 0 (λ z. z) (λ nz. absurd (omega (arith, h.unfinished, ap busy i, ap bit (lt-ltb 0 x (omega arith))))),
)

-- ---- a step
-- the entry left: 0 if the answer is final
abbrev pub entry_left : Answer → ℕ → ℕ
entry_left r x = cond (is_finish r) 0 x

-- a step of a find leaves the worker its entry, or 0 if the answer is final
abbrev Keeps : Activity → Outcome → Type 0
Keeps a o = entry_left o.answer (entry_of a) ≡ entry_of o.activity

find-keeps : (n : ℕ) (key home : ℕ → ℕ) (a : Activity) (c : ℕ) → Keeps a (find_step n key home a c)
unfolding find_step
find-keeps n key home Idle c = refl
find-keeps n key home (Reading v i) c =
    either (Keeps (Reading v i)) (ltb (key v) (key c)) refl (either (λ r. entry_left r v ≡ 0) (eqb (key c) (key v)) refl refl)
find-keeps n key home (Replacing v k j x) c = refl
find-keeps n key home (WalkingBack v k) c = refl
find-keeps n key home (SeekingForward v k j) c = refl
find-keeps n key home (SeekingBack p v k j x) c = refl

keeps : (k n : ℕ) (key home : ℕ → ℕ) (a : Activity) (c : ℕ) → k ≡ 3 → Keeps a (rule k n key home a c)
unfolding rule
keeps k n key home a c is = rw is (find-keeps n key home a c)

-- busy before is busy after, unless the answer is final
left-unfinished : (r : Answer) (x b c : ℕ) → c + final r ≡ b → bit (ltb 0 x) ≡ b → b ≤ 1 → bit (ltb 0 (entry_left r x)) ≡ c
left-unfinished WentOn x b c e h l = omega arith
left-unfinished Finished x b c e h l = omega arith
left-unfinished (Price q) x b c e h l = omega arith
left-unfinished No x b c e h l = omega arith
left-unfinished answer.Idle x b c e h l = omega arith

one_at_most : (b : Bool) → bit b ≤ 1
one_at_most true = omega arith
one_at_most false = omega arith

pub agrees-step : (k n : ℕ) (key home : ℕ → ℕ) (x : ℕ) (a : Activity) (c : ℕ) → Agrees k x a
    → Agrees k (entry_left (rule k n key home a c).answer x) (rule k n key home a c).activity
agrees-step k n key home x a c h =
    let o = rule k n key home a c in
    record {
      unfinished = left-unfinished o.answer x (busy a) (busy o.activity) (settles k n key home a c) h.unfinished
          (omega (arith, one_at_most (ltb 0 x), h.unfinished));
      entry = λ is. rw (h.entry is) (keeps k n key home a c is);
    }

-- ---- the phase's workers, the entries of their unfinished operations, and the workers of a run
pub record Crew (k m : ℕ) (ws : List Worker) (entries : List ℕ) (acts : List Activity) : Type 0 where
  pub records : m ≤ length ws
  pub places : m ≤ length entries
  pub all : length acts ≡ m
  pub same : (w : ℕ) → (get_or ws w idle).activity ≡ get_or acts w Idle
  pub agree : (w : ℕ) → Agrees k (get_or entries w 0) (get_or acts w Idle)

-- what relates two lists place by place relates them after one place of each is written
set_both {ℓ} : {A B : Type 0} (R : A → B → Type ℓ) (xs : List A) (ys : List B) (w : ℕ) (x d : A) (y e : B) → w < length xs → w < length ys
    → ((i : ℕ) → R (get_or xs i d) (get_or ys i e)) → R x y → (i : ℕ) → R (get_or (set xs w x) i d) (get_or (set ys w y) i e)
set_both R xs ys w x d y e l r h is i = by-eq i w
    (λ z. rw (z, get_or-set_same xs w x d l, get_or-set_same ys w y e r) is)
    (λ z. rw (get_or-set_other xs w i x d z, get_or-set_other ys w i y e z) (h i))

pub crew-set : (k m : ℕ) (ws : List Worker) (entries : List ℕ) (acts : List Activity) (w x : ℕ) (a : Activity) → w < m → Agrees k x a → Crew k m ws entries acts
    → Crew k m (set ws w (record { activity = a })) (set entries w x) (set acts w a)
crew-set k m ws entries acts w x a l h c =
    record {
      records = rw length-set c.records;
      places = rw length-set c.places;
      all = rw length-set c.all;
      same = set_both (λ (v : Worker) b. v.activity ≡ b) ws acts w (record { activity = a }) idle a Idle (omega (arith, c.records)) (omega (arith, c.all)) c.same refl;
      agree = set_both (Agrees k) entries acts w x 0 a Idle (omega (arith, c.places)) (omega (arith, c.all)) c.agree h;
    }

-- the entry of worker w is cleared, or all stay
left-set : (b : Bool) (entries : List ℕ) (w : ℕ) → cond b (set entries w 0) entries ≡ set entries w (cond b 0 (get_or entries w 0))
left-set true entries w = refl
left-set false entries w = sym (set-get_or entries w 0)

pub crew-left : (k m : ℕ) (ws : List Worker) (entries : List ℕ) (acts : List Activity) (w : ℕ) (r : Answer) (a : Activity) → w < m
    → Agrees k (entry_left r (get_or entries w 0)) a → Crew k m ws entries acts
    → Crew k m (set ws w (record { activity = a })) (cond (is_finish r) (set entries w 0) entries) (set acts w a)
crew-left k m ws entries acts w r a l h c = rw (left-set (is_finish r) entries w) (crew-set k m ws entries acts w (entry_left r (get_or entries w 0)) a l h c)
