-- What specs/Promise promises.
use Rattle.feed.specs.Promise.{FeedPromise}
use Rattle.feed.proofs.LineByLine.{no_lines, next_line, line_past, unended}
use Rattle.feed.proofs.Lines.{written-lines, last_written}
use Rattle.feed.proofs.Parts.{fed-append, printed-append, ended-fed}
use Rattle.feed.proofs.WholeSheet.{whole-sheet, parts, over-parts}

pub feed-promise : FeedPromise
feed-promise = record {
  lines = written-lines;
  last_line = last_written;
  no_lines = no_lines;
  next_line = next_line;
  line_past = line_past;
  unended = unended;
  cut_state = fed-append;
  cut_output = printed-append;
  over_state = ended-fed;
  over_output = over-parts;
  whole = whole-sheet;
  parts = parts;
}
