-- Laws of the home rule.
use mathlib.Core.Path.{◌≡◌, sym, ap, ◌∙◌}
use Prim.Native.Nat.{ℕ, zero, suc, ◌+◌, ◌-◌, ◌*◌, ◌/◌, ◌%◌, ◌^◌, ◌≤◌, ◌<◌}
use native.Mathlib.Omega.{arith}
use native.Mathlib.Nat.{mul-le-mul, mul_assoc, mul-add, add-mul, mod-lt, mod-eq_of_lt, add-mul-mod_self_right, pow-succ', two-mul}
use Rattle.layout.specs.Home.{modulo}
use Rattle.ring.proofs.Split.{by-lt}
use Rattle.homes.specs.Homes.{plain, mixed, spread}
use Rattle.homes.specs.Promise.{Odd}
use Rattle.homes.specs.declared.Hash.{Hash}

-- a product of two numbers of 32 bits: one more such number fits 64 bits with it
pub product_le : {a x : ℕ} → a < 4294967296 → x < 4294967296 → a * x ≤ 18446744065119617025
product_le {a} {x} h l =
    let p : a ≤ 4294967295 = omega arith in
    let q : x ≤ 4294967295 = omega arith in
    let r : a * x ≤ 4294967295 * 4294967295 = mul-le-mul p q in
    omega arith

-- ---- homes
pub home-inside : (ab : Hash) (n x : ℕ) → 0 < n → spread ab n x < n
home-inside ab n x l = mod-lt (mixed ab x) l

pub home-is : (ab : Hash) (n x q rest p cell : ℕ) → ab.a * x + ab.b ≡ q * 4294967296 + rest → rest < 4294967296 → rest ≡ p * n + cell → cell < n
    → spread ab n x ≡ cell
home-is ab n x q rest p cell e l f m =
    let whole : mixed ab x ≡ cell + p * n = omega (arith, e, f) in
    ap (λ (k : ℕ). k % n) whole ∙ add-mul-mod_self_right cell p n ∙ mod-eq_of_lt m

pub home-as-before : (n x : ℕ) → x < 4294967296 → spread plain n x ≡ modulo n x
home-as-before n x l = let whole : mixed plain x ≡ x = omega arith in ap (λ (k : ℕ). k % n) whole

-- ---- with an odd a two keys are mixed to two numbers
-- of a product by an odd number that is even the other number is even: the product is twice its half with h times that number
halved : (d m h : ℕ) → (h + h + 1) * d ≡ m + m → d ≡ (m - h * d) + (m - h * d)
halved d m h e = omega (arith, e, add-mul (h + h) 1 d, add-mul h h d)

-- and then half of the product is the product with its half
half_product : (d m h : ℕ) → (h + h + 1) * d ≡ m + m → (h + h + 1) * (m - h * d) ≡ m
half_product d m h e =
    let f : (h + h + 1) * ((m - h * d) + (m - h * d)) ≡ m + m = ap (λ (k : ℕ). (h + h + 1) * k) (sym (halved d m h e)) ∙ e in
    omega (arith, f, mul-add (h + h + 1) (m - h * d) (m - h * d))

double : (k m : ℕ) → 2 ^ suc k * m ≡ 2 ^ k * m + 2 ^ k * m
double k m = ap (λ (p : ℕ). p * m) (pow-succ' 2 k) ∙ mul_assoc 2 (2 ^ k) m ∙ two-mul (2 ^ k * m)

-- so of a multiple of 2^k the other number is a multiple of 2^k
odd-divides : (k d m h : ℕ) → (h + h + 1) * d ≡ 2 ^ k * m → (e : ℕ) × (d ≡ 2 ^ k * e)
odd-divides zero d m h e = (d, omega arith)
odd-divides (suc k) d m h e =
    let twice : (h + h + 1) * d ≡ 2 ^ k * m + 2 ^ k * m = e ∙ double k m in
    let (g, f) = odd-divides k (2 ^ k * m - h * d) m h (half_product d (2 ^ k * m) h twice) in
    (g, omega (arith, f, halved d (2 ^ k * m) h twice, double k g))

-- two keys with the same number, the first one not the greater: their distance is a multiple of 2³²
apart_by : (ab : Hash) (h x d : ℕ) → ab.a ≡ h + h + 1 → x + d < 4294967296 → mixed ab x ≡ mixed ab (x + d) → d ≡ 0
apart_by ab h x d odd l same =
    let over : (m : ℕ) × (ab.a * d ≡ 4294967296 * m) =
    ((ab.a * (x + d) + ab.b) / 4294967296 - (ab.a * x + ab.b) / 4294967296, omega (arith, same, mul-add ab.a x d)) in
    let (e, is) = odd-divides 32 d over.0 h (ap (λ (a : ℕ). a * d) (sym odd) ∙ over.1) in
    omega (arith, is)

pub mixed-apart : (ab : Hash) → Odd ab.a → (x y : ℕ) → x < 4294967296 → y < 4294967296 → mixed ab x ≡ mixed ab y → x ≡ y
mixed-apart ab (h, odd) x y lx ly same =
    by-lt x y
    (λ (l : x < y). let d : y - x ≡ 0 = apart_by ab h x (y - x) odd (omega arith) (same ∙ ap (mixed ab) (omega arith)) in omega arith)
    (λ (l : y ≤ x). let d : x - y ≡ 0 = apart_by ab h y (x - y) odd (omega arith) (sym same ∙ ap (mixed ab) (omega arith)) in omega arith)
