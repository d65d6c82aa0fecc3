-- The examples: lists of calls computed as a test, which a law turns into equality, and the rest as they stand.
use mathlib.Core.Path.{refl}
use mathlib.Core.Bool.{Bool, true, ◌&&◌}
use mathlib.Core.List.{List, [], ◌∷◌, ◌++◌}
use Prim.Native.Nat.{ℕ}
use lib.Count.{ones}
use lib.Dec.{T, eqb}
use lib.ListN.{length, drop}
use borrow.Author.Tests.{eqb-true}
use Rattle.ring.specs.Counting.{tally}
use Rattle.ring.specs.Each.{all, some, first}
use Rattle.ring.specs.Ring.{wrap, probe, dist}
use Rattle.ring.proofs.Each.{and_left, and_right}
use Rattle.ring.proofs.Tests.{true-says}
use Rattle.flaws.specs.Flaws.{meets_empty, meets_key}
use Rattle.words.specs.Words.{place_of}
use Rattle.rule.specs.Rule.{settled, absorbed, insert_step, rule}
use Rattle.rule.specs.Schedules.{same_table}
use Rattle.rule.proofs.Schedules.{same-table}
use Rattle.state.specs.Model.{gateway}
use Rattle.numbered.specs.Numbers.{reply_answer}
use Rattle.migration.specs.Calls.{is_well_formed, open_reply}
use Rattle.migration.specs.Courses.{Call, Course, call, run, opening}
use Rattle.migration.specs.Examples.{Batch, Given, AllGiven, batches, Moments, Openings, Records, Examples}
use Rattle.migration.specs.Lists.{calls_of, answer_of, answers_of, dealt}
use Rattle.migration.specs.Tasks.{fetched}

module _ (b : Batch) where
  abbrev calls : List Call
  calls = dealt gateway b.crew b.hash b.old b.new b.ops b.workers b.out

  abbrev course : Course
  course = run gateway calls (opening gateway b.crew b.hash b.old b.new)

  abbrev told : List ℕ
  told = answers_of gateway calls (opening gateway b.crew b.hash b.old b.new) ++ drop (length calls) b.out

  abbrev reply : ℕ
  reply = reply_answer (open_reply gateway b.crew b.hash b.old b.new)

  unfoldable is_given : Bool
  is_given = eqb b.reply reply && (same_table b.old course.old && (same_table b.closed course.new && same_table b.answers told))

  given : T is_given → Given b
  unfolding is_given
  given p =
      let kept = same_table b.old course.old in
      let cells = same_table b.closed course.new in
      let answers = same_table b.answers told in
      let q = and_right (eqb b.reply reply) (kept && (cells && answers)) p in
      let r = and_right kept (cells && answers) q in
      record {
        reply = eqb-true b.reply reply ((true-says (eqb b.reply reply)).1 (and_left (eqb b.reply reply) (kept && (cells && answers)) p));
        kept = same-table b.old course.old (and_left kept (cells && answers) q);
        table = same-table b.closed course.new (and_left cells answers r);
        answers = same-table b.answers told (and_right cells answers r);
      }

unfoldable all_given : List Batch → Bool
all_given [] = true
all_given (b ∷ bs) = is_given b && all_given bs

all-given : (bs : List Batch) → T (all_given bs) → AllGiven bs
unfolding all_given
all-given [] p = tt
all-given (b ∷ bs) p = (given b (and_left (is_given b) (all_given bs) p), all-given bs (and_right (is_given b) (all_given bs) p))

computed : T (all_given batches)
unfolding all_given is_given same_table calls_of answer_of answers_of call run is_well_formed fetched
    rule insert_step settled absorbed meets_empty meets_key first all some dist probe wrap place_of tally ones
computed = tt

moments : Moments
unfolding calls_of call run is_well_formed fetched
    rule insert_step settled absorbed meets_empty meets_key first all some dist probe wrap place_of tally ones
moments = record { ordered = refl; carried = refl; accepted = refl; counted = refl; unfinished = refl; closed = refl }

openings : Openings
unfolding meets_empty meets_key first all some dist probe wrap place_of tally ones
openings =
    record {
      lengths = refl;
      new_lengths = refl;
      crews = refl;
      even = refl;
      unsound = refl;
      unfit = refl;
      sequence = refl;
    }

records : Records
unfolding meets_empty meets_key first all some dist probe wrap place_of tally ones is_well_formed fetched rule insert_step settled absorbed
records =
    record {
      hands_back = refl;
      as_asked = refl;
      kinds = refl;
      sources = refl;
      lengths = refl;
      crews = refl;
      nexts = refl;
      fetching = refl;
      reading = refl;
      unlabelled = refl;
      replacing = refl;
      replacing_from = refl;
      replacing_unlabelled = refl;
      taking_out = refl;
      past = refl;
      working = refl;
      closed = refl;
      shut_first = refl;
      spoilt_first = refl;
      tables = refl;
      new_tables = refl;
      no_worker = refl;
      busy_first = refl;
      takes = refl;
      finishes = refl;
      carries = refl;
      kept = refl;
      reads_on = refl;
    }

pub examples : Examples
examples = record { calls = all-given batches computed; moments = moments; openings = openings; records = records }
