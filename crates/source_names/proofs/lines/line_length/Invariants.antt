use Rattle.std.proofs.Common.{◌≡◌, ◌+◌, length}
use Rattle.source_names.specs.Steps.{line_length}
use Rattle.source_names.proofs.lines.line_length.Given as goal

abbrev pub invariant-loop-rest : goal.invariant-loop-rest
invariant-loop-rest l = record {
  value : l.count + line_length l.rest ≡ line_length l.text;
  all : l.count + length l.rest ≡ length l.text;
}

abbrev pub decreases-loop-rest : goal.decreases-loop-rest
decreases-loop-rest l = length l.rest
