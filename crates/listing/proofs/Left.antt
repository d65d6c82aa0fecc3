-- The loop keeps what is still to be done: storing the entries of the cells that are left, from `at` on, gives the filled list. Left are those of the
-- group, the ones that were written emptied.
use mathlib.Core.Path.{◌≡◌, refl, sym, ◌∙◌, ap}
use mathlib.Core.Logic.{◌≢◌}
use mathlib.Core.List.{List, [], ◌∷◌}
use Prim.Native.Nat.{ℕ, suc, ◌+◌, ◌-◌, ◌≤◌, ◌<◌}
use native.Mathlib.Omega.{arith}
use native.Mathlib.Numerals.{add-one}
use lib.Bits.{bit_and}
use lib.Count.{ones, count_trailing_zeros}
use lib.ListN.{length, get_or, set, length-set, get_or-eq_default}
use lib.Seq.{sets, sets-eq, get_or-set_same, get_or-set_other}
use Rattle.ring.proofs.Split.{by-lt, by-eq}
use Rattle.prices.specs.Contents.{label}
use Rattle.words.specs.Words.{occupied, entries_of, filled, word_of}
use Rattle.words.proofs.Ones.{First, first}
use Rattle.words.proofs.Words.{ones-word, length-entries}

pub record Left (group goal : List ℕ) (size : ℕ) (out : List ℕ) (w at : ℕ) : Type 0 where
  pub cells : List ℕ
  pub short : length cells ≤ 64
  pub word : w ≡ word_of cells
  pub own : (b : ℕ) → label (get_or cells b 0) ≢ 0 → get_or cells b 0 ≡ get_or group b 0
  pub long : length out ≡ size
  pub room : at + occupied cells ≤ size
  pub same : sets out at (entries_of cells) ≡ goal

pub begins : (group out : List ℕ) {w : ℕ} → w ≡ word_of group → length group ≤ 64 → occupied group ≤ length out → Left group (filled group out) (length out) out w 0
begins group out e s h =
    let k : 0 + length (entries_of group) ≡ occupied group = omega (arith, length-entries group) in
    record {
      cells = group;
      short = s;
      word = e;
      own = λ b _. refl;
      long = refl;
      room = omega arith;
      same = sets-eq (entries_of group) out 0 (omega arith) ∙ rw k;
    }

-- a cell with a label is one of the list's
within : (l : List ℕ) (b : ℕ) → label (get_or l b 0) ≢ 0 → b < length l
within l b key = by-lt b (length l) (λ h. h) (λ h. absurd (key (ap label (get_or-eq_default l 0 h))))

module _ {group goal : List ℕ} {size : ℕ} {out : List ℕ} {w at : ℕ} (v : Left group goal size out w at) where
  pub ends : w ≡ 0 → out ≡ goal
  unfolding ones
  ends e =
      let none : occupied v.cells ≡ 0 = sym (ones-word v.cells) ∙ ap ones (sym v.word ∙ e) in
      rw (empty (entries_of v.cells) (length-entries v.cells ∙ none)) at v.same
    where
      empty : (l : List ℕ) → length l ≡ 0 → l ≡ []
      empty [] e = refl
      empty (x ∷ l) e = absurd (omega arith)

  module _ (some : w ≢ 0) where
    abbrev k : ℕ
    k = count_trailing_zeros 64 w

    lowest : First v.cells k (bit_and w (w - 1))
    lowest = rw v.word (first 64 v.cells v.short (omega (arith, v.word)))

    pub inside : k < length group
    inside = within group k (λ e. lowest.key (ap label (v.own k lowest.key) ∙ e))

    fewer : occupied v.cells ≡ suc (occupied (set v.cells k 0))
    fewer = omega (arith, length-entries v.cells, length-entries (set v.cells k 0), ap length lowest.entries)

    pub fits : at < length out
    fits = omega (arith, v.long, v.room, fewer)

    pub next : Left group goal size (set out at (get_or group k 0)) (bit_and w (w - 1)) (at + 1)
    next = rw add-one (record {
      cells = set v.cells k 0;
      short = simp length-set v.short;
      word = lowest.word;
      own = λ b. by-eq b k (emptied b) (others b);
      long = length-set out at (get_or group k 0) ∙ v.long;
      room = omega (arith, v.room, fewer);
      same = rw (← v.own k lowest.key) (rw lowest.entries at v.same);
    })
      where
        emptied : (b : ℕ) → b ≡ k → label (get_or (set v.cells k 0) b 0) ≢ 0 → get_or (set v.cells k 0) b 0 ≡ get_or group b 0
        emptied b e key =
            let z : get_or (set v.cells k 0) b 0 ≡ 0 = rw e (get_or-set_same v.cells k 0 0 (within v.cells k lowest.key)) in
            absurd (key (ap label z))

        others : (b : ℕ) → b ≢ k → label (get_or (set v.cells k 0) b 0) ≢ 0 → get_or (set v.cells k 0) b 0 ≡ get_or group b 0
        others b ne key =
            let e = get_or-set_other v.cells k b 0 0 ne in
            e ∙ v.own b (λ z. key (ap label e ∙ z))
