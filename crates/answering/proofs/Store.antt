-- The table in the first places of the lent cells, and the items in those of the lent orders.
use Rattle.std.specs.Prelude.{Ok, Err}
use mathlib.Core.Path.{◌≡◌, refl, sym, ap, ap₂, ◌∙◌}
use mathlib.Core.Bool.{false}
use mathlib.Core.List.{List, ◌++◌}
use Prim.Native.Nat.{ℕ, ◌+◌, ◌-◌, ◌≤◌, ◌<◌}
use native.Mathlib.Numerals.{add-one}
use native.Mathlib.Omega.{arith}
use lib.ListN.{length, take, drop, set, replicate, length-replicate, length-set, take-append-drop}
use lib.Seq.{length-take-le, take-suc-set}
use borrow.Author.Tests.{le-ltb, lt-ltb}
use lib.Dec.{ltb, eqb}
use Rattle.homes.specs.declared.Hash.{Hash}
use Rattle.orders.specs.Orders.{order_with}
use Rattle.orders.specs.declared.Order.{Order}
use Rattle.words.specs.Words.{count_of}
use Rattle.words.proofs.Theorem.{theorem}
use Rattle.words.proofs.Words.{occupied-le}
use Rattle.tables.specs.Calls.{count_call, list_call}
use Rattle.state.specs.Model.{gateway}
use Rattle.protocol.specs.Calls.{turn_call, turn_table}
use Rattle.protocol.specs.declared.Turned.{Turned}
use Rattle.dealing.specs.Deal.{Dealing, run}
use Rattle.dealing.specs.declared.Dealt.{Dealt}
use Rattle.state.specs.declared.Phase.{Phase}
use Rattle.state.specs.declared.Refusal.{Refusal}
use Rattle.state.specs.declared.Refusal.TheVariants.{Size}
use Rattle.state.specs.declared.Replied.{Replied}
use Rattle.state.specs.Replies.{Reply, Counted}
use Rattle.printing.specs.declared.Told.{Told}
use Rattle.printing.specs.declared.Told.TheVariants as told
use Rattle.fitting.specs.Fitting.{most_items, Kept}
use Rattle.answering.specs.declared.Done.{Done}
use Rattle.answering.specs.declared.Replay.{Replay}
use Rattle.text.proofs.Test.{by-test}
use Rattle.sheet.specs.Replay.{State, tells, cells_task, item_task, turn_task, run_task, items_after, list_told, most_sheet_cells}
use Rattle.answering.specs.Store.{state_of, over, told_of, opened_of, count_after, Roomy, Does, Leaves}

module _ {r : Replay} {cells : List ℕ} (h : Roomy r cells) where
  pub inside : r.length ≤ length cells
  inside = omega (arith, h.fits, h.most)

  pub table-length : length (take r.length cells) ≡ r.length
  table-length = length-take-le r.length cells inside

  -- the table over itself
  pub same_store : cells ≡ over (take r.length cells) cells
  same_store = rw table-length (sym (take-append-drop r.length cells))

-- ---- the items
pub so-many : (c : ℕ) (items : List Order) → Kept c items → length (take c items) ≡ c
so-many c items k = length-take-le c items (omega (arith, k.0, k.1))

-- ---- what the tasks leave, from what the calls ensure
module _ {r : Replay} {cells : List ℕ} (h : Roomy r cells) where
  abbrev table : List ℕ
  table = take r.length cells

  -- a task that leaves the cells alone
  tells-with : (c : ℕ) (items : List Order) → Kept c items → (os : List Order) → take c items ≡ os → (p : Phase) (a : Told) (d : Done)
      → d ≡ told_of p r.length c a → Does (tells (record { phase = p; table = table; items = os }) a) cells cells items d
  tells-with c items k os e p a d b = record {
    result = b ∙ ap₂ (λ n m. told_of p n m a) (sym (table-length h)) (sym (so-many c items k) ∙ ap length e);
    store = same_store h;
    list = ap (λ (x : Done). take x.replay.items items) b ∙ e;
  }

  -- a table that is as long as the first places and stands there
  stored : (u v : List ℕ) → u ≡ v → length u ≡ length table → u ++ drop r.length cells ≡ over v cells
  stored u v a l = ap₂ (λ (t : List ℕ) n. t ++ drop n cells) a (sym (table-length h) ∙ sym l ∙ ap length a)

  long : (u v : List ℕ) → u ≡ v → length u ≡ length table → r.length ≡ length v
  long u v a l = sym (table-length h) ∙ sym l ∙ ap length a

  pub turns : (w : ℕ) (x : Turned) (u : List ℕ) (d : Done) → (x ≡ turn_call gateway r.phase table w) × (u ≡ turn_table gateway r.phase table w)
      → length u ≡ length table → d ≡ told_of x.phase r.length r.items (told.Turned x.reply)
      → Leaves r (λ (s : State). turn_task s w) cells (u ++ drop r.length cells) d
  turns w x u d e l b items k =
      record {
        result = b ∙ same x (turn_call gateway r.phase table w) e.0 (long u _ e.1 l) (sym (so-many r.items items k));
        store = stored u _ e.1 l;
        list = ap (λ (y : Done). take y.replay.items items) b;
      }
    where
      same : (x y : Turned) {n l c m : ℕ} → x ≡ y → n ≡ l → c ≡ m
          → told_of x.phase n c (told.Turned x.reply) ≡ told_of y.phase l m (told.Turned y.reply)
      same x y a e f = rw (a, e, f)

  pub runs : (x : Dealt) (u : List ℕ) → ◌≡◌ {A = Dealing} (record { dealt = x; table = u }) (run gateway r.phase table) → length u ≡ length table
      → Leaves r run_task cells (u ++ drop r.length cells)
      (record { replay = record { phase = x.phase; length = r.length; items = r.items }; told = told.Ran; finishes = x.finishes })
  runs x u e l items k =
      let a : x ≡ (run gateway r.phase table).dealt = ap (λ (d : Dealing). d.dealt) e in
      let b : u ≡ (run gateway r.phase table).table = ap (λ (d : Dealing). d.table) e in
      record { result = same x (run gateway r.phase table).dealt a (long u _ b l) (sym (so-many r.items items k)); store = stored u _ b l; list = refl }
    where
      same : (x y : Dealt) {n l c m : ℕ} → x ≡ y → n ≡ l → c ≡ m
          → ◌≡◌ {A = Done} (record { replay = record { phase = x.phase; length = n; items = c }; told = told.Ran; finishes = x.finishes })
          (record { replay = record { phase = y.phase; length = l; items = m }; told = told.Ran; finishes = y.finishes })
      same x y a e f = rw (a, e, f)

  -- one item more
  pub added : (w v cents : ℕ) (items : List Order) → Kept r.items items → r.items < most_items → (d : Done)
      → d ≡ told_of r.phase r.length (r.items + 1) (told.Replied (Ok tt))
      → Does (item_task (state_of r cells items) w v cents) cells cells (set items r.items (order_with v cents w)) d
  added w v cents items k l d b =
      let o : Order = order_with v cents w in
      tells-with (r.items + 1) (set items r.items o) (omega (arith, k.0), omega (arith, length-set items r.items o, k.1)) _
      (ap (λ n. take n (set items r.items o)) (add-one r.items) ∙ take-suc-set items r.items o (omega (arith, k.1)))
      r.phase (told.Replied (Ok tt)) d b

  module _ (items : List Order) (k : Kept r.items items) where
    abbrev list : List Order
    list = take r.items items

    -- a call that leaves the cells and the items alone
    pub tells-on : (p : Phase) (a : Told) (d : Done) → d ≡ told_of p r.length r.items a
        → Does (tells (record { phase = p; table = table; items = list }) a) cells cells items d
    tells-on p a d b = tells-with r.items items k list refl p a d b

    -- the items behind a close
    few-after : (kind : ℕ) (a : Reply) → count_after kind a r.items ≤ most_items
    few-after kind (Ok _) = by-test (eqb kind 1) (λ t. rw t (omega arith)) (λ t. rw t k.0)
    few-after kind (Err _) = k.0

    kept-after : (kind : ℕ) (a : Reply) → take (count_after kind a r.items) items ≡ items_after kind a list
    kept-after kind (Ok _) = by-test (eqb kind 1) (λ t. rw t refl) (λ t. rw t refl)
    kept-after kind (Err _) = refl

    pub closes : (p : Phase) (kind : ℕ) (a : Reply) (d : Done) → d ≡ told_of p r.length (count_after kind a r.items) (told.Replied a)
        → Does (tells (record { phase = p; table = table; items = items_after kind a list }) (told.Replied a)) cells cells items d
    closes p kind a d b =
        tells-with (count_after kind a r.items) items (few-after kind a, k.1) (items_after kind a list) (kept-after kind a) p (told.Replied a) d b

    -- ---- a fresh table
    refuses : (d : Done) → d ≡ told_of r.phase r.length r.items (told.Replied (Err Size))
        → Does (tells (state_of r cells items) (told.Replied (Err Size))) cells cells items d
    refuses d b = tells-on r.phase (told.Replied (Err Size)) d b

  pub too_short : (n : ℕ) (d : Done) → n < 2 → d ≡ told_of r.phase r.length r.items (told.Replied (Err Size))
      → Leaves r (λ (s : State). cells_task s n) cells cells d
  too_short n d l b items k = rw (lt-ltb n 2 l) (refuses items k d b)

  pub too_long : (n : ℕ) (d : Done) → gateway.fewest_cells ≤ n → most_sheet_cells < n
      → d ≡ told_of r.phase r.length r.items (told.Replied (Err Size))
      → Leaves r (λ (s : State). cells_task s n) cells cells d
  too_long n d l m b items k = rw (le-ltb n 2 l, lt-ltb most_sheet_cells n m) (refuses items k d b)

  pub taken-front : (n : ℕ) → n ≤ most_sheet_cells → n ≡ length (take n cells)
  taken-front n l = sym (length-take-le n cells (omega (arith, h.most)))

  pub fresh : (n : ℕ) (u : List ℕ) (d : Done) → gateway.fewest_cells ≤ n → n ≤ most_sheet_cells → u ≡ replicate (length (take n cells)) 0
      → d ≡ told_of r.phase n r.items (told.Replied (Ok tt)) → Leaves r (λ (s : State). cells_task s n) cells (u ++ drop n cells) d
  fresh n u d l m a b items k =
      let e : u ≡ replicate n 0 = rw (← taken-front n m) at a in
      rw (le-ltb n 2 l, le-ltb most_sheet_cells n m)
      (record {
        result = b ∙ ap₂ (λ x y. told_of r.phase x y (told.Replied (Ok tt))) (sym (length-replicate n _)) (sym (so-many r.items items k));
        store = ap₂ (λ (t : List ℕ) x. t ++ drop x cells) e (sym (length-replicate n _));
        list = ap (λ (y : Done). take y.replay.items items) b;
      })

-- ---- the list of a table into a list as long as it
listed-as-counted : (ab : Hash) (t : List ℕ) → list_call gateway ab t t ≡ count_call gateway ab t
listed-as-counted ab t = let e : ltb (length t) (count_of t) ≡ false = le-ltb (length t) (count_of t) (omega (arith, (theorem t).count, occupied-le t)) in rw e

pub lists : (p : Phase) (n c : ℕ) (ab : Hash) (t : List ℕ) (x y : Counted) (d : Done) → x ≡ y → x ≡ count_call gateway ab t → d ≡ told_of p n c (list_told y)
    → d ≡ told_of p n c (list_told (list_call gateway ab t t))
lists p n c ab t x y d e a b = b ∙ ap (λ (z : Counted). told_of p n c (list_told z)) (sym e ∙ a ∙ sym (listed-as-counted ab t))

-- ---- an opening, by what it answers
module _ (p : Phase) (n c : ℕ) (x y : Replied) (d : Done) (same : x ≡ y) where
  pub opened-on : x.reply ≡ Ok tt → d ≡ told_of x.phase n c (told.Replied (Ok tt)) → d ≡ opened_of p n c y
  opened-on e told = rw (← same, e) told

  pub opened-off : (r : Refusal) → x.reply ≡ Err r → d ≡ told_of p n c (told.Replied (Err r)) → d ≡ opened_of p n c y
  opened-off r e told = rw (← same, e) told
