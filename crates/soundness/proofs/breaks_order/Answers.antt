-- A key at home has no path; else the search back came past the path, or was stopped on it.
use Rattle.std.proofs.Common.{sym, ◌∙◌, length, true≢false, arith}
use native.Mathlib.Nat.{mod-lt}
use Rattle.ring.proofs.Ring.{dist-lt}
use Rattle.homes.specs.Homes.{spread}
use Rattle.prices.specs.Contents.{label}
use Rattle.prices.specs.Priced.{labels}
use Rattle.soundness.proofs.Links.{walk-starts, link-unset, link_set}
use Rattle.soundness.proofs.Order.{path-is, no-path, empty-keeps, past-keeps, stop-breaks}
use Rattle.soundness.proofs.breaks_order.Goals as goal

pub returns-then-key-eq0 : goal.returns-then-key-eq0
returns-then-key-eq0 c =
    let n = length c.args.cells.now in
    let z = sym c.key_at-key.ensures ∙ c.if-key-eq0.true in
    (empty-keeps n (spread c.args.hash n) (labels label c.args.cells.now) c.args.j z, λ _. link-unset c.requires.0 c.requires.1 z)

pub returns-then-home-j : goal.returns-then-home-j
returns-then-home-j c =
    let n = length c.args.cells.now in
    let home = spread c.args.hash n in
    let keys = labels label c.args.cells.now in
    let is = no-path n home keys c.args.j c.requires.1 c.key_at-key.ensures c.home-home.ensures c.if-home-j.true in
    let walked = walk-starts n keys c.args.links.now c.args.j 0 (omega (arith, c.requires.1)) in (
      past-keeps n home keys c.args.j c.requires.1 (mod-lt _ (omega (arith, c.requires.1))) is
          (record { walked = walked; stopped = λ l. absurd (omega arith) }) (omega arith),
      λ _. link_set c.requires.0 c.requires.1 is (omega arith) walked,
    )

pub greater_before-s-requires : goal.greater_before-s-requires
greater_before-s-requires c =
    let p = c.requires in
    ((_, p.0), p.1, rw c.dist-path.ensures (dist-lt _ _ (rw c.home-home.ensures (mod-lt _ (omega (arith, p.1)))) _ p.1))

pub returns-then-s-path : goal.returns-then-s-path
returns-then-s-path c =
    let n = length c.args.cells.now in
    let home = spread c.args.hash n in
    let keys = labels label c.args.cells.now in
    let is = path-is n home keys c.args.j c.key_at-key.ensures c.home-home.ensures c.dist-path.ensures in (
      stop-breaks n home _ _ c.requires.1 (mod-lt _ (omega (arith, c.requires.1))) is c.greater_before-s.ensures
          (λ z. c.if-key-eq0.false (c.key_at-key.ensures ∙ z)) c.if-s-path.true,
      λ e. absurd (true≢false e),
    )

pub returns : goal.returns
returns c =
    let n = length c.args.cells.now in
    let home = spread c.args.hash n in
    let keys = labels label c.args.cells.now in
    let is = path-is n home keys c.args.j c.key_at-key.ensures c.home-home.ensures c.dist-path.ensures in (
      past-keeps n home _ _ c.requires.1 (mod-lt _ (omega (arith, c.requires.1))) is c.greater_before-s.ensures c.if-s-path.false,
      λ _. link_set c.requires.0 c.requires.1 is c.if-s-path.false c.greater_before-s.ensures.walked,
    )
