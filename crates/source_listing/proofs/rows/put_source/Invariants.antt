use Rattle.std.proofs.Common.{◌≡◌, ◌+◌, ◌≤◌, ◌++◌, List, [], length}
use Rattle.source_listing.specs.Rows.{Row, rows, rows_text}
use Rattle.source_listing.proofs.rows.put_source.Given as goal

abbrev pub invariant-loop-rest : goal.invariant-loop-rest
invariant-loop-rest l = record {
  same : (later : List Row) → l.text.items ++ rows_text (rows l.line.items l.words l.rest l.ends ++ later) l.left ≡ l.initial.text.items ++ rows_text (rows [] 0 l.source l.initial.ends ++ later) l.pairs;
  bound : l.words + length l.rest + length l.rest ≤ length l.source + length l.source;
}

abbrev pub decreases-loop-rest : goal.decreases-loop-rest
decreases-loop-rest l = length l.rest
