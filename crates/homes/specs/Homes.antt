-- The home of a key (document 02, point 6).
use Rattle.std.specs.Prelude.{Bool, ℕ, ◌+◌, ◌*◌, ◌%◌, eqb}
use Rattle.homes.specs.declared.Hash.{Hash}

abbrev pub hash_of : (a b : ℕ) → Hash
hash_of a b = record { a = a; b = b }

-- a of 1 and b of 0, with which homes are those of document 01
abbrev pub plain : Hash
plain = hash_of 1 0

-- a times the key x plus b, modulo 2³²
abbrev pub mixed : Hash → ℕ → ℕ
mixed ab x = (ab.a * x + ab.b) % 4294967296

-- the home of key x in a table of n cells
abbrev pub spread : Hash → ℕ → ℕ → ℕ
spread ab n x = mixed ab x % n

abbrev pub is_even : Hash → Bool
is_even ab = eqb (ab.a % 2) 0
