-- Where there is room a run of stores is what is put, else nothing is.
use mathlib.Core.Path.{◌≡◌}
use mathlib.Core.Bool.{true, false}
use mathlib.Core.List.{List}
use Prim.Native.Nat.{ℕ, ◌+◌}
use lib.ListN.{length}
use lib.Seq.{sets}
use Rattle.text.specs.Put.{room_for, put_at, place_after}

module _ (out : List ℕ) (at : ℕ) (bytes : List ℕ) where
  pub with-room : room_for out at bytes ≡ true → (at + length bytes ≡ place_after out at bytes) × (sets out at bytes ≡ put_at out at bytes)
  with-room e = (rw e, rw e)

  pub no_room : room_for out at bytes ≡ false → (at ≡ place_after out at bytes) × (out ≡ put_at out at bytes)
  no_room e = (rw e, rw e)
