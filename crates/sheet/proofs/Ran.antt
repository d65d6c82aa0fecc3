-- What a run keeps: the number of workers, a and b, a finish for each place of the phase state, and that calls made it.
use mathlib.Core.Path.{◌≡◌, refl, ◌∙◌}
use mathlib.Core.List.{List}
use Prim.Native.Nat.{ℕ, zero, suc}
use lib.ListN.{length, length-set, length-replicate}
use Rattle.ring.proofs.Tests.{tested}
use Rattle.state.specs.Model.{Model}
use Rattle.state.specs.declared.Phase.{Phase}
use Rattle.protocol.specs.Bars.{all_idle}
use Rattle.protocol.specs.Promise.{Made, turned}
use Rattle.protocol.proofs.Theorem.{turns}
use Rattle.dealing.specs.Deal.{Dealing, unfinished, begun, deal_to, deal, lap, laps, enough, run}

module _ (M : Model) where
  -- the one dealing has the other's number of workers, a and b and number of finishes
  pub record Like (d e : Dealing) : Type 0 where
    pub crew : e.dealt.phase.crew ≡ d.dealt.phase.crew
    pub hash : e.dealt.phase.hash ≡ d.dealt.phase.hash
    pub places : length e.dealt.finishes ≡ length d.dealt.finishes

  like-self : (d : Dealing) → Like d d
  like-self d = record { crew = refl; hash = refl; places = refl }

  like-deal : (w : ℕ) (d : Dealing) → Like d (deal M w d)
  unfolding deal deal_to
  like-deal zero d = like-self d
  like-deal (suc w) d =
      let e = deal M w d in
      let frame = (turns M e.dealt.phase e.table w).others.frame in
      record {
        crew = frame.crew ∙ (like-deal w d).crew;
        hash = frame.hash ∙ (like-deal w d).hash;
        places = length-set e.dealt.finishes w _ ∙ (like-deal w d).places;
      }

  like-laps : (f : ℕ) (d : Dealing) → Like d (laps M f d)
  unfolding laps
  like-laps zero d = like-self d
  like-laps (suc f) d = tested (Like d) (all_idle d.dealt.phase.workers)
      (λ _. like-self d)
      (λ _.
      let one = like-deal d.dealt.phase.crew d in
      let more = like-laps f (lap M d) in
      record { crew = more.crew ∙ one.crew; hash = more.hash ∙ one.hash; places = more.places ∙ one.places })

  -- turns lead from a made phase state to a made one
  made-deal : (w : ℕ) (d : Dealing) → Made M d.dealt.phase → Made M (deal M w d).dealt.phase
  unfolding deal deal_to
  made-deal zero d h = h
  made-deal (suc w) d h = turned _ (made-deal w d h) (deal M w d).table w

  made-laps : (f : ℕ) (d : Dealing) → Made M d.dealt.phase → Made M (laps M f d).dealt.phase
  unfolding laps
  made-laps zero d h = h
  made-laps (suc f) d h = tested (λ (e : Dealing). Made M e.dealt.phase) (all_idle d.dealt.phase.workers)
      (λ _. h) (λ _. made-laps f (lap M d) (made-deal d.dealt.phase.crew d h))

  module _ (p : Phase) (t : List ℕ) where
    pub run-made : Made M p → Made M (run M p t).dealt.phase
    run-made = made-laps (enough p) (begun M p t)

    pub run-crew : (run M p t).dealt.phase.crew ≡ p.crew
    run-crew = (like-laps (enough p) (begun M p t)).crew

    pub run-hash : (run M p t).dealt.phase.hash ≡ p.hash
    run-hash = (like-laps (enough p) (begun M p t)).hash

    pub run-places : length (run M p t).dealt.finishes ≡ M.room
    run-places = (like-laps (enough p) (begun M p t)).places ∙ length-replicate M.room unfinished
