use Rattle.std.proofs.Common.{◌≡◌, ◌++◌, length}
use Rattle.pal_lex.specs.Text.{text_of}
use Rattle.pal_lex.specs.Joins.{join_of}
use Rattle.host_sources.specs.Sources.{texts_of, newest_first, counts_of}
use Rattle.host_sources.proofs.joins.join_all.Given as goal

abbrev pub invariant-loop-rest : goal.invariant-loop-rest
invariant-loop-rest l = record {
  text : newest_first l.sources ≡ join_of (texts_of l.rest) ++ text_of l.join.text.items;
  counts : counts_of (texts_of l.sources) ≡ l.join.counts.items ++ counts_of (texts_of l.rest);
}

abbrev pub decreases-loop-rest : goal.decreases-loop-rest
decreases-loop-rest l = length l.rest
