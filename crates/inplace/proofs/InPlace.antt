-- Calls on a well-formed phase that stays in place: what each leaves is what the call by value gives.
use mathlib.Core.Path.{◌≡◌, sym, ap, subst, ◌∙◌}
use mathlib.Core.Logic.{◌≢◌}
use Rattle.std.specs.Prelude.{Option}
use mathlib.Core.Bool.{true}
use mathlib.Core.List.{List}
use Prim.Native.Nat.{ℕ, ◌+◌, ◌<◌}
use lib.ListN.{length, get_or, set}
use Rattle.orders.specs.Orders.{line_at}
use Rattle.orders.specs.declared.Order.{Order}
use Rattle.state.specs.Model.{model_of}
use Rattle.state.specs.declared.Device.{Device}
use Rattle.state.specs.declared.Phase.{Phase}
use Rattle.state.specs.declared.Replied.{Replied}
use Rattle.state.specs.Replies.{Reply}
use Rattle.state.proofs.Model.{proper}
use Rattle.protocol.specs.Calls.{order_found, order_call, turn_call, turn_table, close_call}
use Rattle.protocol.specs.IsWellFormed.{is_well_formed}
use Rattle.protocol.specs.WellFormed.{WellFormed}
use Rattle.protocol.specs.Replies.{TurnReply}
use Rattle.protocol.specs.declared.Turned.{Turned}
use Rattle.protocol.proofs.Keeping.{keeps}
use Rattle.protocol.proofs.WellFormed.{well-formed-says}
use Rattle.numbered.specs.Numbers.{turn_answer, reply_answer}
use Rattle.singly.proofs.Singly.{Singly, singly-none, ordered-next, turned-next, closed-next}

-- to the model of device d
abbrev pub Good : Phase → Device → Type 0
Good p d = is_well_formed (model_of d) p ≡ true

-- after i calls of lent lists from p₀ on, on the table t₀: to every model to which p₀ was well formed the calls have led to p, t and the answers out, and p is
-- well formed still; there is such a model
pub record InPlace (os : List Order) (ops lines workers keys : List ℕ) (p₀ : Phase) (t₀ out₀ : List ℕ) (i : ℕ) (p : Phase) (t out : List ℕ) : Type 0 where
  pub ran : (d : Device) → Good p₀ d → Singly (model_of d) os ops lines workers keys p₀ t₀ out₀ i p t out
  pub good : (d : Device) → Good p₀ d → Good p d
  pub some : (d : Device) × Good p₀ d

module _ {os : List Order} {ops lines workers keys : List ℕ} {p₀ : Phase} {t₀ out₀ : List ℕ} where
  pub none_run : (d : Device) × Good p₀ d → InPlace os ops lines workers keys p₀ t₀ out₀ 0 p₀ t₀ out₀
  none_run h = record { ran = λ d g. singly-none (model_of d) os ops lines workers keys p₀ t₀ out₀; good = λ d g. g; some = h }

  module _ {i : ℕ} {p : Phase} {t out : List ℕ} (h : InPlace os ops lines workers keys p₀ t₀ out₀ i p t out) where
    pub still-good : (d : Device) × Good p d
    still-good = (h.some.0, h.good h.some.0 h.some.1)

    module _ (room : i < length out₀) where
      -- what keeps it well formed
      stays : (q : Phase) → ((d : Device) → WellFormed (model_of d) p → WellFormed (model_of d) q) → (d : Device) → Good p₀ d → Good q d
      stays q keep d g = (well-formed-says (model_of d) q).1 (keep d ((well-formed-says (model_of d) p).0 (h.good d g)))

      abbrev Next : Phase → List ℕ → ℕ → Type 0
      Next q u a = InPlace os ops lines workers keys p₀ t₀ out₀ (i + 1) q u (set out i a)

      pub order-more : get_or ops i 0 ≡ 1 → (q : Phase) (r : Reply) (a : ℕ) (l : Option Order) → l ≡ line_at os (get_or lines i 0)
          → ((d : Device) → Good p d → ◌≡◌ {A = Replied} (record { phase = q; reply = r }) (order_found (model_of d) p l (get_or workers i 0) (get_or keys i 0)))
          → a ≡ reply_answer r → Next q t a
      order-more is q r a l found gives number = record {
        ran = λ d g. ordered-next (h.ran d g) room is (call d (h.good d g)) number;
        good = stays q (λ d f. subst (WellFormed (model_of d)) (sym (ap (λ (x : Replied). x.phase) (call d ((well-formed-says (model_of d) p).1 f))))
            ((keeps (model_of d) (proper d) p f).order os (get_or lines i 0) (get_or workers i 0) (get_or keys i 0)));
        some = h.some;
      }
        where
          call : (d : Device) → Good p d
              → ◌≡◌ {A = Replied} (record { phase = q; reply = r }) (order_call (model_of d) p os (get_or lines i 0) (get_or workers i 0) (get_or keys i 0))
          call d g = gives d g ∙ ap (λ (x : Option Order). order_found (model_of d) p x (get_or workers i 0) (get_or keys i 0)) found

      pub turn-more : get_or ops i 0 ≡ 2 → (q : Phase) (r : TurnReply) (u : List ℕ) (a : ℕ)
          → ((d : Device) → Good p d → (◌≡◌ {A = Turned} (record { phase = q; reply = r }) (turn_call (model_of d) p t (get_or workers i 0)))
          × (u ≡ turn_table (model_of d) p t (get_or workers i 0)))
          → length u ≡ length t → a ≡ turn_answer r → Next q u a
      turn-more is q r u a gives kept number = record {
        ran = λ d g. turned-next (h.ran d g) room is (gives d (h.good d g)) kept number;
        good = stays q (λ d f. subst (WellFormed (model_of d)) (sym (ap (λ (x : Turned). x.phase) (gives d ((well-formed-says (model_of d) p).1 f)).0))
            ((keeps (model_of d) (proper d) p f).turn t (get_or workers i 0)));
        some = h.some;
      }

      pub close-more : get_or ops i 0 ≢ 1 → get_or ops i 0 ≢ 2 → (q : Phase) (r : Reply) (a : ℕ)
          → ((d : Device) → Good p d → ◌≡◌ {A = Replied} (record { phase = q; reply = r }) (close_call (model_of d) p)) → a ≡ reply_answer r → Next q t a
      close-more no-order no-turn q r a gives number = record {
        ran = λ d g. closed-next (h.ran d g) room no-order no-turn (gives d (h.good d g)) number;
        good = stays q (λ d f. subst (WellFormed (model_of d)) (sym (ap (λ (x : Replied). x.phase) (gives d ((well-formed-says (model_of d) p).1 f))))
            (keeps (model_of d) (proper d) p f).close);
        some = h.some;
      }
