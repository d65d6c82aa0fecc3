-- What is promised of a phase whose only key is new, and of one that takes it out again (document 02, point 11), however many workers there are and
-- however the turns fall. Proved in proofs/Theorem.
use Rattle.std.specs.Prelude.{◌≡◌, true, List, ◌∷◌, ℕ, ◌≤◌, ◌<◌, length, get_or, Ok}
use Rattle.layout.specs.Layout.{In}
use Rattle.homes.specs.Promise.{Odd}
use Rattle.homes.specs.declared.Hash.{Hash}
use Rattle.prices.specs.Contents.{label}
use Rattle.prices.specs.Priced.{labels, Least, priced_layout}
use Rattle.reach.specs.Promise.{Reaches}
use Rattle.reach.specs.Reach.{vacant}
use Rattle.orders.specs.Orders.{blank}
use Rattle.orders.specs.declared.Order.{Order}
use Rattle.state.specs.Model.{Model, Proper}
use Rattle.state.specs.Open.{open_reply}
use Rattle.state.specs.Refusals.{reply_number}
use Rattle.protocol.specs.Lines.{Good}
use Rattle.protocol.specs.Promise.{Soundness}
use Rattle.protocol.specs.WellFormed.{Size, Crew}
use Rattle.history.specs.History.{Call, after}

-- the accepted orders are of key l, and there is one
pub record Alone (l : ℕ) (ordered : List ℕ) : Type 0 where
  pub some : In l (labels label ordered)
  pub only : (y : ℕ) → In y ordered → label y ≡ l

-- ---- t is the table at opening, u the one that the closed phase left, and the accepted orders were of key l alone
pub record Added (M : Model) (ab : Hash) (t : List ℕ) (l : ℕ) (ordered u : List ℕ) : Type 0 where
  -- u is the layout of t with l, at the least price ordered
  pub entry : ℕ
  pub is : label entry ≡ l
  pub cheapest : Least label ordered entry
  pub laid : u ≡ priced_layout (length t) label (M.home ab (length t)) (entry ∷ t)
  -- at least two cells of t are empty, and this is how far l reaches
  pub two : 2 ≤ vacant t
  pub reaches : Reaches (length t) label (M.home ab (length t)) t entry u
  -- a delete phase opens on u, and one by which l alone is taken out leaves t again, prices included
  pub opens : (m : ℕ) → Crew M m → (os : List Order) → open_reply M 2 m ab u os ≡ Ok tt
  pub restored : (m : ℕ) (os : List Order) → open_reply M 2 m ab u os ≡ Ok tt → (cs : List Call) → (after M 2 m ab u os cs).closed ≡ true
      → Alone l (after M 2 m ab u os cs).ordered → (after M 2 m ab u os cs).table ≡ t

-- from an accepted opening on a table that lacks l: however many workers put it in, at whatever prices and however often
abbrev pub Adds : Model → Type 0
Adds M = (m : ℕ) (ab : Hash) (t : List ℕ) (os : List Order) → open_reply M 1 m ab t os ≡ Ok tt
    → (l : ℕ) → (In l (labels label t) → ⊥) → (cs : List Call) → (after M 1 m ab t os cs).closed ≡ true
    → Alone l (after M 1 m ab t os cs).ordered → Added M ab t l (after M 1 m ab t os cs).ordered (after M 1 m ab t os cs).table

abbrev pub AdditionPromise : Type 0
AdditionPromise = (M : Model) → Proper M → Adds M

-- ---- which tables take one key more: with a list of good lines for a key that a sound table lacks, an insert phase opens if at least two cells are empty,
-- and is refused with 9 if not
module _ (M : Model) (m : ℕ) (ab : Hash) (t : List ℕ) (os : List Order) (l : ℕ) where
  pub record ForOne : Type 0 where
    pub size : Size M (length t)
    pub crew : Crew M m
    pub odd : Odd ab.a
    pub sound : Soundness M ab t
    pub some : 0 < length os
    pub long : length os ≤ M.most_lines
    pub lines : (i : ℕ) → i < length os → Good m (get_or os i blank)
    pub keys : (i : ℕ) → i < length os → (get_or os i blank).key ≡ l
    pub lacks : In l (labels label t) → ⊥

  pub record Opens : Type 0 where
    pub two : 2 ≤ vacant t → reply_number (open_reply M 1 m ab t os) ≡ 0
    pub fewer : vacant t < 2 → reply_number (open_reply M 1 m ab t os) ≡ 9

abbrev pub OpensForOne : Model → Type 0
OpensForOne M = (m : ℕ) (ab : Hash) (t : List ℕ) (os : List Order) (l : ℕ) → ForOne M m ab t os l → Opens M m ab t os l

abbrev pub OpensPromise : Type 0
OpensPromise = (M : Model) → Proper M → OpensForOne M
