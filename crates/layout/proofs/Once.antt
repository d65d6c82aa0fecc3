-- Lists of keys in which each stands once: how large their set is.
use mathlib.Core.Path.{◌≡◌, refl, sym}
use mathlib.Core.Logic.{◌≢◌, inl, inr}
use mathlib.Core.Bool.{cond}
use mathlib.Core.List.{List, [], ◌∷◌}
use Prim.Native.Nat.{ℕ, zero, suc, ◌+◌, ◌<◌}
use native.Mathlib.Omega.{arith}
use lib.Dec.{eqb}
use lib.ListN.{length, get_or}
use borrow.Author.Tests.{ne_eqb}
use Rattle.ring.specs.Counting.{count}
use Rattle.layout.specs.Layout.{In, into, descending, size}
use Rattle.layout.proofs.Sets.{Falls, in-falls, by-into, in-descending, cell_in, in-holds}

-- two places of it never hold the same
abbrev pub Once : List ℕ → Type 0
Once xs = (i j : ℕ) → i < length xs → j < length xs → get_or xs i 0 ≡ get_or xs j 0 → i ≡ j

-- two places of it never hold the same key; 0 may stand often
abbrev pub Apart : List ℕ → Type 0
Apart xs = (i j : ℕ) → i < length xs → j < length xs → get_or xs i 0 ≢ 0 → get_or xs i 0 ≡ get_or xs j 0 → i ≡ j

-- a falling list
pub falls-once : (b : ℕ) (xs : List ℕ) → Falls b xs → Once xs
falls-once b [] f i j l h e = omega arith
falls-once b (x ∷ xs) f zero zero l h e = refl
falls-once b (x ∷ xs) (p, nz, f) zero (suc j) l h e = let r = in-falls x xs (get_or xs j 0) f (cell_in xs j (omega arith)) in absurd (omega arith)
falls-once b (x ∷ xs) (p, nz, f) (suc i) zero l h e = let r = in-falls x xs (get_or xs i 0) f (cell_in xs i (omega arith)) in absurd (omega arith)
falls-once b (x ∷ xs) (p, nz, f) (suc i) (suc j) l h e = let r = falls-once x xs f i j (omega arith) (omega arith) e in omega arith

-- ---- a key that is new makes it longer
into_new : (x : ℕ) (xs : List ℕ) → (In x xs → ⊥) → length (into x xs) ≡ suc (length xs)
unfolding into
into_new x [] new = refl
into_new x (y ∷ ys) new =
    by-into (λ l. length l ≡ suc (suc (length ys))) x y ys (λ _. refl) (λ e. absurd (new (inl (sym e)))) (λ _. let r = into_new x ys (λ i. new (inr i)) in omega arith)

pub size-new : (x : ℕ) (xs : List ℕ) → x ≢ 0 → (In x xs → ⊥) → size (x ∷ xs) ≡ suc (size xs)
unfolding descending
size-new zero xs nz new = absurd (nz refl)
size-new (suc x) xs nz new = into_new (suc x) (descending xs) (λ i. new ((in-descending xs (suc x)).0 i).1)

-- ---- how many numbers of a list are keys
abbrev one : ℕ → ℕ
one x = cond (eqb x 0) 0 1

abbrev pub held : List ℕ → ℕ
held [] = 0
held (x ∷ xs) = one x + held xs

pub apart-size : (xs : List ℕ) → Apart xs → held xs ≡ size xs
unfolding descending
apart-size [] a = refl
apart-size (zero ∷ xs) a = omega (arith, apart-size xs (λ i j l m nz e. omega (arith, a (suc i) (suc j) (omega arith) (omega arith) nz e)))
apart-size (suc x ∷ xs) a =
    let e : one (suc x) ≡ 1 = simp (ne_eqb (suc x) 0 (λ e. omega arith)) in
    omega (
      arith,
      size-new (suc x) xs (λ e. omega arith) (λ i.
          let h = in-holds (length xs) xs (suc x) refl i in
          omega (arith, a 0 (suc h.cell) (omega arith) (omega (arith, h.inside)) (λ e. omega arith) (sym h.is))),
      apart-size xs (λ i j l m nz e. omega (arith, a (suc i) (suc j) (omega arith) (omega arith) nz e)),
    )

-- the others are 0
pub held-others : (xs : List ℕ) → count (λ x. eqb x 0) xs + held xs ≡ length xs
unfolding count
held-others [] = refl
held-others (zero ∷ xs) = omega (arith, held-others xs)
held-others (suc x ∷ xs) = rw (ne_eqb (suc x) 0 (λ e. omega arith)) (omega (arith, held-others xs))

-- where none is 0, all are keys
all_held : (xs : List ℕ) → ((i : ℕ) → i < length xs → get_or xs i 0 ≢ 0) → held xs ≡ length xs
all_held [] some = refl
all_held (x ∷ xs) some = rw (ne_eqb x 0 (some 0 (omega arith))) (omega (arith, all_held xs (λ i l. some (suc i) (omega arith))))

pub once-size : (xs : List ℕ) → ((i : ℕ) → i < length xs → get_or xs i 0 ≢ 0) → Once xs → size xs ≡ length xs
once-size xs some one = omega (arith, apart-size xs (λ i j l m _. one i j l m), all_held xs some)
