-- Opening a round: its refusals, and the table that it leaves.
use Rattle.std.specs.Prelude.{Ok}
use mathlib.Core.Path.{◌≡◌, refl, sym, ap, ap₂, ◌∙◌, subst}
use mathlib.Core.Logic.Iff
use mathlib.Core.Logic.{◌≢◌, ◌↔◌, inl, inr, ⊎_elim}
use mathlib.Core.Bool.{true}
use mathlib.Core.List.{List, [], ◌∷◌, ◌++◌}
use Prim.Native.Nat.{ℕ, zero, suc, ◌<◌}
use native.Mathlib.Omega.{arith}
use lib.Dec.{T}
use lib.ListN.{length, get_or, replicate, length-replicate}
use Rattle.ring.proofs.Split.{by-eq}
use Rattle.layout.specs.Layout.{In, size}
use Rattle.layout.proofs.Sets.{subset-size, in-append}
use Rattle.homes.specs.declared.Hash.{Hash}
use Rattle.prices.specs.Contents.{label, price, price_ok}
use Rattle.prices.specs.Priced.{labels, Least, SameLeast, priced_layout}
use Rattle.prices.proofs.Contents.{contents}
use Rattle.prices.proofs.Labels.{label_at}
use Rattle.prices.proofs.Least.{append-least, same-members, itself, cover-least}
use Rattle.prices.proofs.Theorem.{theorem as layouts}
use Rattle.orders.specs.Orders.{blank, ordered_keys}
use Rattle.orders.specs.declared.Order.{Order}
use Rattle.rule.proofs.Crew.{replicate-at}
use Rattle.state.specs.Model.{Model, Proper}
use Rattle.state.specs.Open.{open_reply}
use Rattle.state.specs.Refusals.{reply_number}
use Rattle.state.specs.Replies.{Reply}
use Rattle.protocol.specs.Cases.{Case, wants, Decides}
use Rattle.protocol.specs.Lines.{Good, line_cases}
use Rattle.protocol.specs.Promise.{Soundness, even_cases, sound_cases, long_cases, full_cases, insert_cases}
use Rattle.protocol.specs.WellFormed.{Size, Crew, Kind}
use Rattle.protocol.proofs.Chain.{by-reply, none-accepted}
use Rattle.protocol.proofs.Soundness.{sounds}
use Rattle.protocol.proofs.Theorem.{opens, open-passed}
use Rattle.history.specs.History.{Call, after}
use Rattle.history.specs.Promise.{OfLine}
use Rattle.history.proofs.Theorem.{history}
use Rattle.rounds.specs.Promise.{Cheapest, send_cases, SendingPromise}
use Rattle.rounds.specs.Rounds.{sent_entries, if_accepted, open_round, sent_table}
use Rattle.rounds.proofs.Cases.{decides-without}
use Rattle.rounds.proofs.Laid.{laid-long, laid-sound, laid-has}
use Rattle.rounds.proofs.Lines.{sent-lines, least-lines}

-- ---- an empty table
abbrev pub empty : ℕ → List ℕ
empty n = replicate n 0

no-entry : (n y : ℕ) → In y (empty n) → y ≡ 0
no-entry zero y i = absurd i
no-entry (suc n) y i = ⊎_elim (λ e. e) (no-entry n y) i

empty-sound : (M : Model) (ab : Hash) (n : ℕ) → 0 < n → Soundness M ab (empty n)
empty-sound M ab n some =
    record {
      intact = record {
        empty = record { cell = 0; inside = omega (arith, length-replicate {A = ℕ} n 0); is = replicate-at 0 n 0 };
        cells = λ j _ nz. absurd (nz (replicate-at 0 n j));
      };
      ordered = λ j _ _ _ nz _. absurd (nz (label_at label refl (empty n) j ∙ ap label (replicate-at 0 n j)));
    }

-- ---- the refusals
module _ (M : Model) (m : ℕ) (ab : Hash) (os : List Order) where
  -- of a table with n cells, told of the table e
  abbrev cases_at : ℕ → List ℕ → List Case
  cases_at n e = wants 1 (Size M n) ∷ wants 2 (Crew M m) ∷ even_cases ab ++ long_cases M os ++ line_cases m os ++ full_cases e os

  -- where e is sound if its length is right, it is refused neither for its kind nor for the table
  sound-answers : Proper M → (e : List ℕ) → (Size M (length e) → Soundness M ab e) → Decides (reply_number (open_reply M 1 m ab e os)) (cases_at (length e) e)
  sound-answers proper e sound =
      let o = opens M 1 m ab e os in
      let r : ℕ = reply_number (open_reply M 1 m ab e os) in
      let (one, (two, three)) = subst (λ (x : Reply). Decides (reply_number x) (insert_cases M 1 m ab e os)) o.reply (o.inserts refl) in
      let lists : List Case = line_cases m os ++ full_cases e os in
      let (even, (long, four)) = decides-without (wants 3 (Kind 1) ∷ []) (even_cases ab ++ long_cases M os ++ sound_cases M ab e ++ lists) _ r
      (λ _. ((omega arith, omega arith), tt)) three in
      let rest = decides-without (sound_cases M ab e) lists _ r
      (λ ((((_, right), _), _), _). let (w, g, d) = (sounds.kinds M proper ab e).0 (sound right) in (w, (g, (d, tt)))) four in
      (one, (two, (even, (long, rest))))

  decides : Proper M → (t : List ℕ) → Decides (reply_number (open_round M m ab t os)) (send_cases M m ab t os)
  decides proper t =
      let same = length-replicate {A = ℕ} (length t) 0 in
      subst (λ (n : ℕ). Decides (reply_number (open_round M m ab t os)) (cases_at n (empty (length t)))) same
      (sound-answers proper (empty (length t)) (λ right. empty-sound M ab (length t) (omega (arith, proper.some, right.0, same))))

-- ---- the entries of good lines
entries-labels : (m : ℕ) (os : List Order) → ((i : ℕ) → i < length os → Good m (get_or os i blank)) → labels label (sent_entries os) ≡ ordered_keys os
entries-labels m [] good = refl
entries-labels m (o ∷ os) good =
    let h = good 0 (omega arith) in
    ap₂ (λ (l : ℕ) (ls : List ℕ). l ∷ ls) (contents.made o.key o.price (omega (arith, h.price.1))).0
    (entries-labels m os (λ i l. good (suc i) (omega arith)))

entries-right : (m : ℕ) (os : List Order) → ((i : ℕ) → i < length os → Good m (get_or os i blank)) → (x : ℕ) → In x (sent_entries os) → T (price_ok (price x))
entries-right m os good x i =
    let g = (sent-lines m os good x).0 i in
    rw g.costs ((contents.prices (get_or os g.line blank).price).1 (good g.line g.inside).price)

-- ---- a refused opening, and an accepted one
module _ (M : Model) (proper : Proper M) (m : ℕ) (ab : Hash) (t : List ℕ) (os : List Order) where
  abbrev laid : List ℕ
  laid = priced_layout (length t) label (M.home ab (length t)) (sent_entries os)

  refused : reply_number (open_round M m ab t os) ≢ 0 → sent_table M m ab t os ≡ t
  refused nz = by-reply {C = sent_table M m ab t os ≡ t} (open_round M m ab t os)
      (λ ok. absurd (nz (ap reply_number ok)))
      (λ _ no. ap (λ (r : Reply). if_accepted r laid t) no)

  module _ (ok : open_round M m ab t os ≡ Ok tt) where
    pub lines : (i : ℕ) → i < length os → Good m (get_or os i blank)
    lines = ((open-passed M 1 m ab (empty (length t)) os ok).list refl).lines

    some : 0 < length t
    some = omega (arith, proper.some, (open-passed M 1 m ab (empty (length t)) os ok).size.0, length-replicate {A = ℕ} (length t) 0)

    pub sent-keys : labels label (sent_entries os) ≡ ordered_keys os
    sent-keys = entries-labels m os lines

    few : size (labels label (sent_entries os)) < length t
    few =
        let room = ((open-passed M 1 m ab (empty (length t)) os ok).list refl).room in
        let more = subset-size (ordered_keys os) (labels label (empty (length t)) ++ ordered_keys os) (λ v _ i. (in-append (labels label (empty (length t))) (ordered_keys os) v).1 (inr i)) in
        rw sent-keys (omega (arith, room, more, length-replicate {A = ℕ} (length t) 0))

    is-laid : sent_table M m ab t os ≡ laid
    is-laid = ap (λ (r : Reply). if_accepted r laid t) ok

    sound : Soundness M ab (sent_table M m ab t os)
    sound = rw is-laid (laid-sound M proper ab (length t) some (sent_entries os) few (λ x i _. entries-right m os lines x i))

    pub has-least : (y : ℕ) → label y ≢ 0 → In y (sent_table M m ab t os) ↔ Least label (sent_entries os) y
    has-least = rw is-laid (laid-has M proper ab (length t) some (sent_entries os) few)

    sent : (y : ℕ) → label y ≢ 0 → In y (sent_table M m ab t os) ↔ Cheapest os y
    sent y nz = Iff.trans (has-least y nz) (least-lines m os lines y)

    long : length (sent_table M m ab t os) ≡ length t
    long = ap length is-laid ∙ laid-long M proper ab (length t) some (sent_entries os) few

    -- entries of an empty table add nothing
    same_entries : (xs : List ℕ) (n : ℕ) → SameLeast label xs (sent_entries os) → SameLeast label (xs ++ empty n) (sent_entries os)
    same_entries xs n same y nz =
        Iff.trans (append-least label refl xs (sent_entries os) (empty n) same y nz)
        (cover-least label (sent_entries os ++ empty n) (sent_entries os)
        (λ v vz i. ⊎_elim (λ j. j) (λ j. absurd (vz (ap label (no-entry n v j)))) ((in-append (sent_entries os) (empty n) v).0 i))
        (λ v _ i. itself label (λ u. In u (sent_entries os ++ empty n)) v ((in-append (sent_entries os) (empty n) v).1 (inl i))) y nz)

    -- their layout behind an empty table's
    pub laid-on-empty : (xs : List ℕ) → SameLeast label xs (sent_entries os)
        → priced_layout (length (empty (length t))) label (M.home ab (length (empty (length t)))) (xs ++ empty (length t)) ≡ sent_table M m ab t os
    laid-on-empty xs same =
        ap (λ (n : ℕ). priced_layout n label (M.home ab n) (xs ++ empty (length t))) (length-replicate (length t) 0)
        ∙ (layouts (length t) label (M.home ab (length t)) refl (λ x. proper.homes ab (length t) x some)).set_only (xs ++ empty (length t)) (sent_entries os)
        (same_entries xs (length t) same)
        ∙ sym is-laid

    filled : (cs : List Call) → (after M 1 m ab (empty (length t)) os cs).closed ≡ true
        → ((y : ℕ) → OfLine os y → In y (after M 1 m ab (empty (length t)) os cs).ordered)
        → (after M 1 m ab (empty (length t)) os cs).table ≡ sent_table M m ab t os
    filled cs shut each =
        let claim = history M proper 1 m ab (empty (length t)) os ok cs in
        let ordered : List ℕ = (after M 1 m ab (empty (length t)) os cs).ordered in
        claim.closed shut
        ∙ laid-on-empty ordered (same-members label ordered (sent_entries os) (λ y. (
          λ i. (sent-lines m os lines y).1 (claim.listed refl y i),
          λ i. each y ((sent-lines m os lines y).0 i),
        )))

  sized : length (sent_table M m ab t os) ≡ length t
  sized = by-eq (reply_number (open_round M m ab t os)) 0 (λ z. long (none-accepted (open_round M m ab t os) z)) (λ nz. ap length (refused nz))

pub sending : SendingPromise
sending M proper m ab t os =
    let accepted : reply_number (open_round M m ab t os) ≡ 0 → open_round M m ab t os ≡ (Ok tt) = none-accepted (open_round M m ab t os) in
    record {
      decides = decides M m ab os proper t;
      unread = λ u e. ap (λ (n : ℕ). open_reply M 1 m ab (empty n) os) e;
      refused = refused M proper m ab t os;
      sound = λ z. sound M proper m ab t os (accepted z);
      sent = λ z. sent M proper m ab t os (accepted z);
      sized = sized M proper m ab t os;
      filled = λ z. filled M proper m ab t os (accepted z);
    }
