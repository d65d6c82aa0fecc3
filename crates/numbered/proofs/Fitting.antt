-- A price that a turn answers is the touched cell's, and so has 32 bits.
use Rattle.std.specs.Prelude.{Option, ℕ, Some, None, Ok, Err}
use mathlib.Core.Path.{◌≡◌, refl}
use mathlib.Core.List.{List}
use Prim.Native.Nat.{ℕ, ◌^◌, ◌<◌}
use native.Mathlib.Omega.{arith}
use Rattle.rule.specs.Rule.{touched}
use Rattle.rule.specs.declared.Answer.TheVariants.{WentOn, Finished, Price, No}
use Rattle.rule.specs.declared.Answer.TheVariants as answer
use Rattle.rule.proofs.Suits.{nowhere-idle}
use Rattle.state.specs.Model.{Model}
use Rattle.state.specs.declared.Phase.{Phase}
use Rattle.protocol.specs.Bars.{doing}
use Rattle.protocol.specs.Calls.{turn_call}
use Rattle.protocol.specs.Replies.{TurnReply}
use Rattle.protocol.proofs.Theorem.{turns}
use Rattle.numbered.specs.Numbers.{FitsReply, FitsPromise}

module _ (M : Model) (p : Phase) (t : List ℕ) (w : ℕ) where
  price-fits : (q : ℕ) → (turn_call M p t w).reply ≡ Ok (Price q) → (c : Option ℕ) → touched (doing p w) ≡ c → q < 2 ^ 32
  price-fits q e None is =
      let i : Price q ≡ answer.Idle = ((turns M p t w).answered (Price q) e).idle.1 (nowhere-idle (doing p w) is) in
      absurd (let z : ◌≡◌ {A = ℕ} 0 1 = cc in omega arith)
  price-fits q e (Some c) is = let (_, price) = (turns M p t w).says_price q e c is in omega arith

  reply-fits : (r : TurnReply) → (turn_call M p t w).reply ≡ r → FitsReply r
  reply-fits (Ok WentOn) e = tt
  reply-fits (Ok Finished) e = tt
  reply-fits (Ok (Price q)) e = price-fits q e (touched (doing p w)) refl
  reply-fits (Ok No) e = tt
  reply-fits (Ok answer.Idle) e = tt
  reply-fits (Err r) e = tt

pub fits : FitsPromise
fits M p t w = reply-fits M p t w (turn_call M p t w).reply refl
