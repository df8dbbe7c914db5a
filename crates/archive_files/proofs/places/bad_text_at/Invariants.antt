use Rattle.std.proofs.Common.{◌≤◌, ◌+◌, length}
use Rattle.archive_files.specs.Steps.{IsSoFar}
use Rattle.archive_files.proofs.places.bad_text_at.Given as goal

abbrev pub invariant-loop-rest : goal.invariant-loop-rest
invariant-loop-rest l = record {
  so_far : IsSoFar l.fn.bytes l.rest l.place;
  line : l.place.line + length l.rest ≤ length l.fn.bytes + 1;
  byte : l.place.byte + length l.rest ≤ length l.fn.bytes + 1;
}

abbrev pub decreases-loop-rest : goal.decreases-loop-rest
decreases-loop-rest l = length l.rest
