-- The promises of demand 3 for migrations.
use mathlib.Core.Path.{◌≡◌, refl, sym, ap, ◌∙◌}
use Prim.Native.Nat.{ℕ}
use native.Mathlib.Omega.{arith}
use lib.ListN.{length}
use Rattle.prices.specs.Contents.{label}
use Rattle.prices.specs.Priced.{priced_layout}
use Rattle.prices.proofs.Least.{itself, cover-least}
use Rattle.prices.proofs.Theorem.{theorem as layouts}
use Rattle.rule.specs.Events as events
use Rattle.phases.proofs.Formula.{formula-promise as steps-formula}
use Rattle.state.specs.Model.{model_of}
use Rattle.state.proofs.Model.{proper}
use Rattle.protocol.proofs.Chain.{by-reply}
use Rattle.migration.specs.Calls.{open_reply, refused_migration}
use Rattle.migration.specs.Claim.{FormulaPromise, CoursePromise, RefusedPromise, OneTablePromise, EndsPromise, EachEnds, TwoTurnsPromise, BothOneTable}
use Rattle.migration.specs.Courses.{Course, opening, after}
use Rattle.migration.specs.declared.Migration.{Migration}
use Rattle.migration.proofs.Claims.{homes, opening-follows, closed, same, sound, cells, ordering, gap, only, kept, formed, accepts, bounded, counts}
use Rattle.migration.proofs.Counting.{agrees-rest}
use Rattle.migration.proofs.Ending.{shut-stays, rounds-close}
use Rattle.migration.proofs.Follow.{follows}
use Rattle.migration.proofs.Passing.{open-passed}
use Rattle.migration.proofs.TwoTurns.{alike}

pub formula : FormulaPromise
formula = record { none = λ n l m. omega (arith, steps-formula.none l m); five = refl; old_length = λ n n' l m K. refl }

-- ---- one list of calls
pub courses : CoursePromise
courses M proper m ab old new accepted cs =
    let l = length new in
    let s = after M m ab old new cs in
    let start = opening-follows M proper m ab old new accepted in
    let (es, f) = follows M l m ab old cs (opening M m ab old new) (events.opened m new) start in
    record {
      unchanged = f.unchanged;
      closed = closed M proper m ab old new accepted es s f;
      same = same M proper m ab old new accepted es s f;
      sound = sound M proper m ab old new accepted es s f;
      cells = cells M proper m ab old new accepted es s f;
      ordering = ordering M proper m ab old new accepted es s f;
      gap = gap M proper m ab old new accepted es s f;
      only = only M proper m ab old new accepted es s f;
      kept = kept M proper m ab old new accepted es s f;
      shut = f.shut;
      whole = f.whole;
      formed = formed M proper m ab old new accepted es s f;
      numbers = f.frame;
      one_each = f.one_each;
      at_most = f.at_most;
      unfinished = λ w. agrees-rest (f.crew.each w);
      accepts = accepts M proper m ab old new accepted es s f;
      counts = omega (arith, counts M l m ab old cs (opening M m ab old new) (events.opened m new) start);
      bounded = bounded M proper m ab old new accepted es s f;
    }

-- ---- a refused opening hands back a shut record, which no call changes, and no call changes a table
pub refused : RefusedPromise
refused M m ab old new no-opening cs =
    let e : (opening M m ab old new).migration ≡ refused_migration M = by-reply (open_reply M m ab old new) (λ a. absurd (no-opening a)) (λ _ a. rw a) in
    let stays = shut-stays M cs (opening M m ab old new) (ap (λ (q : Migration). q.shut) e) in
    (ap (λ (s : Course). s.migration) stays ∙ e, ap (λ (s : Course). s.old) stays, ap (λ (s : Course). s.new) stays)

-- ---- two closed migrations
pub one_table : OneTablePromise
one_table M M' proper proper' m m' ab ab' old old' new new' long agree a a' both cs cs' c c' =
    let l = length new in
    let rule : M.home ab l ≡ M'.home ab' l = λ i x. agree x i in
    (courses M proper m ab old new a cs).closed c
    ∙ (layouts l label (M.home ab l) refl (homes M proper m ab old new a)).set_only old old'
    (cover-least label old old' (λ v nz i. (both v nz).0 i) (λ v nz i. itself label _ v ((both v nz).1 i)))
    ∙ ap (λ (h : ℕ → ℕ). priced_layout l label h old') rule
    ∙ ap (λ (n : ℕ). priced_layout n label (M'.home ab' n) old') long
    ∙ sym ((courses M' proper' m' ab' old' new' a' cs').closed c')

pub both-one-table : BothOneTable
both-one-table d d' m m' ab old old' new new' long = one_table (model_of d) (model_of d') (proper d) (proper d') m m' ab ab old old' new new' long (λ x. refl)

-- ---- the way to the close
pub ends : EndsPromise
ends M proper some m ab old new accepted = rounds-close M proper m ab old new accepted (omega (arith, some, (open-passed M proper m ab old new accepted).crew.0))

pub each-ends : EachEnds
each-ends d = ends (model_of d) (proper d) (omega arith)

-- ---- two turns
pub two_turns : TwoTurnsPromise
two_turns = alike
