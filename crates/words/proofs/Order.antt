-- Groups listed in any order, each at least once, give the same list: a place of the list is written by one group only, always with the same entry.
use mathlib.Core.Path.{◌≡◌, refl, sym, ◌∙◌, ap}
use mathlib.Core.Logic.{◌≢◌, inl, inr}
use mathlib.Core.List.{List, [], ◌∷◌, ◌++◌, append_assoc}
use Prim.Native.Nat.{ℕ, zero, suc, ◌+◌, ◌-◌, ◌*◌, ◌≤◌, ◌<◌}
use native.Mathlib.Omega.{arith}
use lib.ListN.{length, get_or, take, drop, set, take-append-drop, length-set, length-append, length-drop, get_or-append, get_or-eq_default}
use lib.Seq.{sets, length-sets, lt-length-sets, get_or-set_same, get_or-set_other, get_or-append-add, get_or-drop, ext_get_or}
use Rattle.ring.proofs.Split.{by-lt}
use Rattle.layout.specs.Layout.{In}
use Rattle.prices.specs.Contents.{label}
use Rattle.words.specs.Words.{occupied, entries_of, filled, groups, group, place_of, count_of, group_listed, groups_listed}
use Rattle.words.specs.Promise.{keys_before, InCellOrder}
use Rattle.words.proofs.Words.{entry-in-place, entries-append, length-entries}
use Rattle.words.proofs.Places.{cells-next, place-zero, place-step, place_is, place-le-occupied, count-occupied}

-- ---- a run of stores, place for place
sets-other : (vs l : List ℕ) (i p : ℕ) → (i ≤ p → p < i + length vs → ⊥) → get_or (sets l i vs) p 0 ≡ get_or l p 0
sets-other [] l i p h = refl
sets-other (v ∷ vs) l i p h =
    sets-other vs (set l i v) (suc i) p (λ a b. h (omega arith) (omega arith)) ∙ get_or-set_other l i p v 0 (λ e. h (omega arith) (omega arith))

sets-at : (vs l : List ℕ) (i k : ℕ) → k < length vs → i + k < length l → get_or (sets l i vs) (i + k) 0 ≡ get_or vs k 0
sets-at [] l i k h b = absurd (omega arith)
sets-at (v ∷ vs) l i zero h b =
    let e : i + 0 ≡ i = omega arith in
    rw e (sets-other vs (set l i v) (suc i) i (λ a _. omega arith) ∙ get_or-set_same l i v 0 (omega arith))
sets-at (v ∷ vs) l i (suc k) h b =
    let e : i + suc k ≡ suc i + k = omega arith in
    rw e (sets-at vs (set l i v) (suc i) k (omega arith) (simp length-set (omega arith)))

module _ (t : List ℕ) where
  -- the entries of group g stand in the list from the group's place on
  entries-split : (g : ℕ) → entries_of t ≡ entries_of (take (64 * g) t) ++ (entries_of (group t g) ++ entries_of (drop (64 * suc g) t))
  entries-split g =
      ap entries_of (sym (take-append-drop (64 * suc g) t)) ∙ entries-append (take (64 * suc g) t) (drop (64 * suc g) t)
      ∙ rw (cells-next t g, entries-append, append_assoc)

  entry_at : (g k : ℕ) → k < occupied (group t g) → get_or (entries_of t) (place_of t g + k) 0 ≡ get_or (entries_of (group t g)) k 0
  entry_at g k h = rw (entries-split g, place_is t g, ← length-entries (take (64 * g) t), get_or-append-add)
      (get_or-append (entries_of (group t g)) (entries_of (drop (64 * suc g) t)) 0 k (simp length-entries h))

  -- ---- what listing a group leaves at place p
  pub group-writes : (g p : ℕ) (o : List ℕ) → p < length o → place_of t g ≤ p → p < place_of t (suc g) → get_or (group_listed t g o) p 0 ≡ get_or (entries_of t) p 0
  group-writes g p o b l r =
      let e : p ≡ place_of t g + (p - place_of t g) = omega arith in
      let k : p - place_of t g < occupied (group t g) = omega (arith, place-step t g) in
      rw e (sets-at (entries_of (group t g)) o (place_of t g) (p - place_of t g) (simp length-entries k) (omega arith) ∙ sym (entry_at g (p - place_of t g) k))

  pub group-skips : (g p : ℕ) (o : List ℕ) → (place_of t g ≤ p → p < place_of t (suc g) → ⊥) → get_or (group_listed t g o) p 0 ≡ get_or o p 0
  group-skips g p o h =
      sets-other (entries_of (group t g)) o (place_of t g) p (λ a b. h a (omega (arith, place-step t g, length-entries (group t g))))

  -- ---- and what several groups leave there
  still-inside : (g : ℕ) {p : ℕ} (o : List ℕ) → p < length o → p < length (group_listed t g o)
  still-inside g o b = lt-length-sets o (place_of t g) (entries_of (group t g)) b

  keeps : (gs o : List ℕ) (p : ℕ) → p < length o → get_or o p 0 ≡ get_or (entries_of t) p 0 → get_or (groups_listed t gs o) p 0 ≡ get_or (entries_of t) p 0
  unfolding groups_listed
  keeps [] o p b e = e
  keeps (g ∷ gs) o p b e = keeps gs (group_listed t g o) p (still-inside g o b)
      (by-lt p (place_of t g) (λ l. group-skips g p o (λ a b. omega arith) ∙ e)
      (λ l. by-lt p (place_of t (suc g)) (group-writes g p o b l) (λ r. group-skips g p o (λ a b. omega arith) ∙ e)))

  pub writes : (gs o : List ℕ) (g p : ℕ) → p < length o → In g gs → place_of t g ≤ p → p < place_of t (suc g) → get_or (groups_listed t gs o) p 0 ≡ get_or (entries_of t) p 0
  unfolding groups_listed
  writes [] o g p b i l r = absurd i
  writes (h ∷ gs) o g p b (inl e) l r = keeps gs (group_listed t h o) p (still-inside h o b) (rw e at (group-writes g p o b l r))
  writes (h ∷ gs) o g p b (inr i) l r = writes gs (group_listed t h o) g p (still-inside h o b) i l r

  pub skips : (gs o : List ℕ) (p : ℕ) → ((g : ℕ) → In g gs → place_of t g ≤ p → p < place_of t (suc g) → ⊥) → get_or (groups_listed t gs o) p 0 ≡ get_or o p 0
  unfolding groups_listed
  skips [] o p h = refl
  skips (g ∷ gs) o p h = skips gs (group_listed t g o) p (λ k i. h k (inr i)) ∙ group-skips g p o (h g (inl refl))

  behind : (gs o : List ℕ) (p : ℕ) → count_of t ≤ p → get_or (groups_listed t gs o) p 0 ≡ get_or o p 0
  behind gs o p h = skips gs o p (λ g _ _ b. omega (arith, place-le-occupied t (suc g), count-occupied t))

  pub length-listed : (gs o : List ℕ) → length (groups_listed t gs o) ≡ length o
  unfolding groups_listed
  length-listed [] o = refl
  length-listed (g ∷ gs) o = length-listed gs (group_listed t g o) ∙ length-sets o (place_of t g) (entries_of (group t g))

  -- the group that writes place p
  writer : (m p : ℕ) → p < place_of t m → (g : ℕ) × (g < m) × (place_of t g ≤ p) × (p < place_of t (suc g))
  writer zero p h = absurd (omega (arith, place-zero t))
  writer (suc m) p h = by-lt p (place_of t m) (λ l. let (g, a, b, c) = writer m p l in (g, omega arith, b, c)) (λ l. (m, omega arith, l, h))

  -- ---- the filled list
  keys-before-less : (i : ℕ) → label (get_or t i 0) ≢ 0 → keys_before t i < occupied t
  keys-before-less i key = by-lt (keys_before t i) (occupied t) (λ l. l)
      (λ h. absurd (key (ap label (sym (entry-in-place t i key) ∙ get_or-eq_default (entries_of t) 0 (omega (arith, length-entries t))))))

  module _ (out : List ℕ) where
    filled-front : (p : ℕ) → p < occupied t → get_or (filled t out) p 0 ≡ get_or (entries_of t) p 0
    filled-front p h = get_or-append (entries_of t) _ 0 p (simp length-entries h)

    pub filled-in-order : InCellOrder t (filled t out)
    filled-in-order i key = filled-front (keys_before t i) (keys-before-less i key) ∙ entry-in-place t i key

    pub filled-behind : (p : ℕ) → occupied t ≤ p → get_or (filled t out) p 0 ≡ get_or out p 0
    filled-behind p h =
        let e : p ≡ length (entries_of t) + (p - occupied t) = omega (arith, length-entries t) in
        let f : occupied t + (p - occupied t) ≡ p = omega arith in
        ap (λ (q : ℕ). get_or (filled t out) q 0) e ∙ get_or-append-add (entries_of t) (drop (occupied t) out) (p - occupied t) 0 ∙ get_or-drop (occupied t) out (p - occupied t) 0
        ∙ ap (λ (q : ℕ). get_or out q 0) f

    pub length-filled : occupied t ≤ length out → length (filled t out) ≡ length out
    length-filled h = simp (length-append, length-entries, length-drop) (omega arith)

  pub any_order : (gs out : List ℕ) → count_of t ≤ length out → ((g : ℕ) → g < groups t → In g gs) → groups_listed t gs out ≡ filled t out
  any_order gs out fits each =
      let c = count-occupied t in
      ext_get_or 0 (groups_listed t gs out) (filled t out) (length-listed gs out ∙ sym (length-filled out (omega arith)))
      (λ p b. by-lt p (count_of t)
      (λ l. let (g, gl, lo, hi) = writer (groups t) p l in writes gs out g p (omega arith) (each g gl) lo hi ∙ sym (filled-front out p (omega arith)))
      (λ l. behind gs out p l ∙ sym (filled-behind out p (omega arith))))
