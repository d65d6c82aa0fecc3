-- Rounds of visits, in each of which every worker gets an order and a turn, end with an accepted close: each visit gets an order accepted or a turn counted,
-- or changes nothing since its worker is free and no old cell remains; and both numbers are bounded.
use Rattle.std.specs.Prelude.{Ok, Err}
use mathlib.Core.Path.{◌≡◌, refl, sym, ap, subst, ◌∙◌}
use mathlib.Core.Logic.{◌≢◌, ◌⊎◌, inl, inr, ⊎_elim}
use mathlib.Core.Bool.{true, false}
use mathlib.Core.List.{List, [], ◌∷◌, ◌++◌}
use Prim.Native.Nat.{ℕ, zero, suc, ◌+◌, ◌≤◌, ◌<◌}
use native.Mathlib.Omega.{arith}
use lib.ListN.{length, get_or}
use borrow.Author.Tests.{le-leb, lt-leb, eq-eqb}
use Rattle.ring.specs.Counting.{bit}
use Rattle.ring.proofs.Split.{by-lt, by-eq}
use Rattle.ring.proofs.Tests.{by-test, not_both}
use Rattle.homes.specs.declared.Hash.{Hash}
use Rattle.prices.specs.Contents.{label}
use Rattle.rule.specs.Events as events
use Rattle.rule.specs.Events.{Event}
use Rattle.state.specs.Model.{Model, Proper}
use Rattle.state.specs.declared.Refusal.{Refusal}
use Rattle.protocol.specs.Replies.{TurnReply}
use Rattle.protocol.proofs.Chain.{by-reply}
use Rattle.migration.specs.Calls.{task_at, is_well_formed, open_reply, order_reply, close_reply, turn_check, turn_call, turn_old, turn_new}
use Rattle.migration.specs.Claim.{most_turns, visits, rounds}
use Rattle.migration.specs.Courses.{Call, order, turn, close, Course, after_turn, call, run, opening, after}
use Rattle.migration.specs.Tasks.{free}
use Rattle.migration.specs.declared.Migration.{Migration}
use Rattle.migration.proofs.Claims.{more-steps, opening-follows, formed, accepts, bounded, turn-counts}
use Rattle.migration.proofs.Counting.{occupied, unoccupied}
use Rattle.migration.proofs.Follow.{Follows, follows}
use Rattle.migration.proofs.Formed.{all-free-says}
use Rattle.migration.proofs.Passing.{order-passed, turn-passed, close_passed}
use Rattle.migration.proofs.Turning.{put_back}
use Rattle.migration.proofs.TwoTurns.{turn-told}

-- what a turn leaves of the numbers, whatever it answers
answer-leaves : (w : ℕ) (u t : List ℕ) (p : Migration) (r : TurnReply) (s : Course)
    → ((after_turn w u t p r s).accepted ≡ s.accepted) × (s.counted ≤ (after_turn w u t p r s).counted)
answer-leaves w u t p (Ok a) s = (refl, omega arith)
answer-leaves w u t p (Err r) s = (refl, omega arith)

-- what rises: the accepted orders and the counted turns
abbrev progress : Course → ℕ
progress s = s.accepted + s.counted

module _ (M : Model) where
  run-append : (cs ds : List Call) (s : Course) → run M (cs ++ ds) s ≡ run M ds (run M cs s)
  unfolding run
  run-append [] ds s = refl
  run-append (c ∷ cs) ds s = run-append cs ds (call M c s)

  -- ---- a call on a shut record is refused and changes nothing
  shut-call : (c : Call) (s : Course) → s.migration.shut ≡ true → call M c s ≡ s
  unfolding call
  shut-call (order w) s shut = let p = s.migration in
      by-reply (order_reply M p w) (λ e. absurd (not_both p.shut shut (order-passed M p w e).running)) (λ _ e. rw e)
  shut-call (turn w) s shut = let p = s.migration in
      by-reply (turn_check M p s.old s.new w) (λ e. absurd (not_both p.shut shut (turn-passed M p s.old s.new w e).running)) (λ _ e. rw e)
  shut-call close s shut = let p = s.migration in
      by-reply (close_reply M p) (λ e. absurd (not_both p.shut shut (close_passed M p e).running)) (λ _ e. rw e)

  pub shut-stays : (cs : List Call) (s : Course) → s.migration.shut ≡ true → run M cs s ≡ s
  unfolding run
  shut-stays [] s shut = refl
  shut-stays (c ∷ cs) s shut = ap (run M cs) (shut-call c s shut) ∙ shut-stays cs s shut

  -- ---- the numbers do not fall
  order-rises : (w : ℕ) (s : Course) → order_reply M s.migration w ≡ Ok tt → progress (call M (order w) s) ≡ suc (progress s)
  unfolding call
  order-rises w s e = rw e (omega arith)

  order-refused : (w : ℕ) (s : Course) (q : Refusal) → order_reply M s.migration w ≡ Err q → call M (order w) s ≡ s
  unfolding call
  order-refused w s q e = rw e

  turn-left : (w : ℕ) (s : Course) → ((call M (turn w) s).accepted ≡ s.accepted) × (s.counted ≤ (call M (turn w) s).counted)
  unfolding call
  turn-left w s =
      let p = s.migration in
      let r = turn_call M p s.old s.new w in
      answer-leaves w (turn_old M p s.old s.new w) (turn_new M p s.old s.new w) r.migration r.reply s

  turn-keeps : (w : ℕ) (s : Course) → progress s ≤ progress (call M (turn w) s)
  turn-keeps w s = omega (arith, (turn-left w s).0, (turn-left w s).1)

  -- ---- an order and a turn of worker w, and those of all workers below w
  abbrev visit : ℕ → Course → Course
  visit w s = call M (turn w) (call M (order w) s)

  visited : ℕ → Course → Course
  visited zero s = s
  visited (suc w) s = visit w (visited w s)

  visits-run : (w : ℕ) (cs : List Call) (s : Course) → run M (visits w cs) s ≡ run M cs (visited w s)
  unfolding visits visited run
  visits-run zero cs s = refl
  visits-run (suc w) cs s = visits-run w (order w ∷ turn w ∷ cs) s

-- ---- of a migration opened with m workers
module _ (M : Model) (proper : Proper M) (m : ℕ) (ab : Hash) (old new : List ℕ) (accepted : open_reply M m ab old new ≡ Ok tt) where
  -- some list of calls leads to s
  abbrev Reached : Course → Type 0
  Reached s = (cs : List Call) × (after M m ab old new cs ≡ s)

  reached-call : (c : Call) (s : Course) → Reached s → Reached (call M c s)
  unfolding run
  reached-call c s (cs, e) = (cs ++ c ∷ [], run-append M cs (c ∷ []) (opening M m ab old new) ∙ ap (call M c) e)

  reached-visited : (w : ℕ) (s : Course) → Reached s → Reached (visited M w s)
  unfolding visited
  reached-visited zero s h = h
  reached-visited (suc w) s h = let t = visited M w s in reached-call (turn w) (call M (order w) t) (reached-call (order w) t (reached-visited w s h))

  -- so it follows an insert phase
  abbrev Followed : Course → Type 0
  Followed s = (es : List Event) × Follows (length new) m ab old s (events.after 1 (length new) m label (M.home ab (length new)) new es)

  followed : (s : Course) → Reached s → Followed s
  followed s (cs, e) =
      subst Followed e (follows M (length new) m ab old cs (opening M m ab old new) (events.opened m new) (opening-follows M proper m ab old new accepted))

  -- and the numbers are bounded
  progress-below : (s : Course) → Reached s → progress s < length old + most_turns (length old) (length new) m (length old)
  progress-below s h =
      let (es, f) = followed s h in
      omega (arith, f.at_most, bounded M proper m ab old new accepted es s f, more-steps (length new) m s.accepted (length old) f.at_most)

  -- before the close nothing is left to do for worker w
  abbrev Done : Course → ℕ → Type 0
  Done s w = s.closed ≡ false → (task_at s.migration w ≡ free) × (length old ≤ s.accepted)

  module _ (s : Course) (h : Reached s) where
    well : is_well_formed M s.migration ≡ true
    well = let (es, f) = followed s h in formed M proper m ab old new accepted es s f

    shut : s.migration.shut ≡ s.closed
    shut = (followed s h).1.shut

    -- ---- a visit
    -- the turn of worker w is not refused before the close
    turn-accepted : s.closed ≡ false → (w : ℕ) → w < m → turn_check M s.migration s.old s.new w ≡ Ok tt
    turn-accepted up w low =
        let p = s.migration in
        let f = (followed s h).1 in
        let running : p.shut ≡ false = shut ∙ up in
        rw (
          well,
          running,
          eq-eqb p.source (length s.old) (f.frame.from ∙ ap length (sym f.unchanged)),
          eq-eqb p.length (length s.new) (f.frame.to ∙ sym f.frame.sized),
          lt-leb p.crew w (omega (arith, f.frame.crew)),
        )

    -- and counts, if the worker has an unfinished order
    busy-rises : s.closed ≡ false → (w : ℕ) → w < m → occupied (task_at s.migration w) ≢ 0 → progress s < progress (call M (turn w) s)
    busy-rises up w low some =
        let p = s.migration in
        let (es, f) = followed s h in
        let ok = turn-accepted up w low in
        let q = turn-passed M p s.old s.new w ok in
        let told = turn-told M p.hash p.length s.old s.new p.source (task_at p w) (q.formed.workers w q.below) in
        let more = rw (ok, told) at (turn-counts M (length new) m ab old w s _ f) in
        omega (arith, (turn-left M w s).0, more)

    -- a free worker's turn changes nothing
    free-turned : (w : ℕ) → task_at s.migration w ≡ free → call M (turn w) s ≡ s
    unfolding call
    free-turned w is =
        let p = s.migration in
        let f = (followed s h).1 in
        let none : bit (get_or s.unfinished w false) + s.counted ≡ s.counted = omega (arith, (f.crew.each w).flag, ap occupied is) in
        by-reply (turn_check M p s.old s.new w) (λ e. rw (e, is, put_back M p s.old s.new w is, none)) (λ _ e. rw e)

    -- an order is refused to a free worker only if no old cell remains
    none_left : s.closed ≡ false → (w : ℕ) → w < m → task_at s.migration w ≡ free → (q : Refusal) → order_reply M s.migration w ≡ Err q
        → length old ≤ s.accepted
    none_left up w low is q e = by-lt s.accepted (length old)
        (λ more. let (es, f) = followed s h in
        let a = rw e at (accepts M proper m ab old new accepted es s f up more w low is) in
        absurd (let z : ◌≡◌ {A = ℕ} 0 1 = cc in omega arith))
        (λ none. none)

    visit-rises : (w : ℕ) → w < m → (progress s < progress (visit M w s)) ⊎ ((visit M w s ≡ s) × Done s w)
    visit-rises w low = by-test s.closed
        (λ e. inr (ap (call M (turn w)) (shut-call M (order w) s (shut ∙ e)) ∙ shut-call M (turn w) s (shut ∙ e), λ up. absurd (not_both s.closed e up)))
        (λ up. by-reply (order_reply M s.migration w)
        (λ e. inl (omega (arith, order-rises M w s e, turn-keeps M w (call M (order w) s))))
        (λ q e. rw (order-refused M w s q e) (by-eq (occupied (task_at s.migration w)) 0
        (λ z. let is = unoccupied (task_at s.migration w) z in inr (free-turned w is, λ _. (is, none_left up w low is q e)))
        (λ z. inl (busy-rises up w low z)))))

    -- ---- a close, with nothing left to do for any worker
    done-closes : 0 < m → ((w : ℕ) → w < m → Done s w) → (call M close s).closed ≡ true
    unfolding call
    done-closes some all = by-test s.closed
        (λ e. ap (λ (t : Course). t.closed) (shut-call M close s (shut ∙ e)) ∙ e)
        (λ up.
        let p = s.migration in
        let f = (followed s h).1 in
        let running : p.shut ≡ false = shut ∙ up in
        let rest = (all-free-says p.carriers).1 (λ w. by-lt w m (λ low. (all w low up).0) (f.crew.each w).past) in
        rw (well, running, rest, le-leb p.source p.next (omega (arith, f.frame.from, f.one_each, (all 0 some up).1))) refl)

  -- ---- a round
  visited-rises : (w : ℕ) (s : Course) (h : Reached s) → w ≤ m
      → (progress s < progress (visited M w s)) ⊎ ((visited M w s ≡ s) × ((u : ℕ) → u < w → Done s u))
  unfolding visited
  visited-rises zero s h l = inr (refl, λ u ul. absurd (omega arith))
  visited-rises (suc w) s h l = ⊎_elim
      (λ up. inl (⊎_elim (λ q. omega arith) (λ (e, _). omega (arith, ap progress e)) (visit-rises (visited M w s) (reached-visited w s h) w (omega arith))))
      (λ (e, all). rw e (⊎_elim inl (λ (d, q). inr (d, λ u ul. by-eq u w (λ z. rw z q) (λ z. all u (omega arith)))) (visit-rises s h w (omega arith))))
      (visited-rises w s h (omega arith))

  -- ---- rounds
  -- that change nothing, and the close
  still-closes : (r : ℕ) (s : Course) → visited M m s ≡ s → (call M close s).closed ≡ true → (run M (rounds m r) s).closed ≡ true
  unfolding rounds run
  still-closes zero s e c = c
  still-closes (suc r) s e c = rw (visits-run M m (rounds m r) s, e) (still-closes r s e c)

  -- they close the migration, or lead to where the numbers are higher by as many
  rounds-rise : 0 < m → (r : ℕ) (s : Course) → Reached s → ((run M (rounds m r) s).closed ≡ true) ⊎ ((t : Course) × Reached t × (progress s + r ≤ progress t))
  unfolding rounds
  rounds-rise some zero s h = inr (s, h, omega arith)
  rounds-rise some (suc r) s h = ⊎_elim
      (λ up. rw (visits-run M m (rounds m r) s) (⊎_elim inl (λ (t, g, l). inr (t, g, omega arith)) (rounds-rise some r (visited M m s) (reached-visited m s h))))
      (λ (e, all). inl (still-closes (suc r) s e (done-closes s h some all)))
      (visited-rises m s h (omega arith))

  pub rounds-close : 0 < m → (cs : List Call)
      → (after M m ab old new (cs ++ rounds m (length old + most_turns (length old) (length new) m (length old)))).closed ≡ true
  rounds-close some cs =
      let s = after M m ab old new cs in
      let r = length old + most_turns (length old) (length new) m (length old) in
      rw (run-append M cs (rounds m r) (opening M m ab old new))
      (⊎_elim (λ c. c) (λ (t, h, l). absurd (omega (arith, progress-below t h))) (rounds-rise some r s (cs, refl)))
