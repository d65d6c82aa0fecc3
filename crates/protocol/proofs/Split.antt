-- Calls by one worker alone, put back.
use mathlib.Core.Path.{◌≡◌, sym, ap, ◌∙◌}
use mathlib.Core.Bool.{Bool, false}
use Rattle.orders.specs.Orders.{line_at}
use Rattle.state.specs.declared.Replied.{Replied}
use Rattle.protocol.specs.Calls.{asked, order_to, order_call}
use Rattle.protocol.specs.Split.{SplitPromise}
use Rattle.protocol.specs.declared.Turned.{Turned}
use Rattle.protocol.proofs.Ordering.{order-by-one}
use Rattle.protocol.proofs.Turning.{turn-by-one}
use Rattle.protocol.proofs.WellFormed.{well-formed-says}

pub splits : SplitPromise
splits =
    record {
      turn = λ M p formed up t fits w below.
          let (e, f) = turn-by-one M p t w ((well-formed-says M p).1 formed) up fits below in
          record { phase = ap (λ (x : Turned). x.phase) (sym e); reply = ap (λ (x : Turned). x.reply) (sym e); table = sym f };
      order = λ M p formed up os i w v there below.
          let o = asked p.kind (line_at os i) w v in
          let e = order-by-one M p o.worker o.key o.price ((well-formed-says M p).1 formed) up below in
          let same : order_to M p false o.worker o.key o.price ≡ order_call M p os i w v
          = ap (λ (b : Bool). order_to M p b o.worker o.key o.price) (sym there) in
          record { phase = ap (λ (x : Replied). x.phase) (sym (e ∙ same)); reply = ap (λ (x : Replied). x.reply) (sym (e ∙ same)) };
    }
