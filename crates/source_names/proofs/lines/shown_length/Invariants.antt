use Rattle.std.proofs.Common.{◌≡◌, ◌+◌, length}
use Rattle.source_names.specs.Laws.{visible_name}
use Rattle.source_names.proofs.lines.shown_length.Given as goal

abbrev pub invariant-loop-rest : goal.invariant-loop-rest
invariant-loop-rest l = record {
  value : l.count + length (visible_name l.rest) ≡ length (visible_name l.six);
  all : l.count + length l.rest ≡ length l.six;
}

abbrev pub decreases-loop-rest : goal.decreases-loop-rest
decreases-loop-rest l = length l.rest
