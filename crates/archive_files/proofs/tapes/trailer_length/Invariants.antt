use Rattle.std.proofs.Common.{◌≡◌, ◌+◌, length}
use Rattle.archive_files.specs.Getting.{trailer}
use Rattle.archive_files.proofs.tapes.trailer_length.Given as goal

abbrev pub invariant-loop-rest : goal.invariant-loop-rest
invariant-loop-rest l = record {
  frames : l.count + length l.rest ≡ length l.fn.frames;
  trailers : l.count + length (trailer l.rest) ≡ length (trailer l.fn.frames);
}

abbrev pub decreases-loop-rest : goal.decreases-loop-rest
decreases-loop-rest l = length l.rest
