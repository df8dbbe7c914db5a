use Rattle.std.proofs.Common.{take}
use Rattle.archive_files.specs.Steps.{IsReading}
use Rattle.archive_files.proofs.tapes.first_tape.Given as goal

abbrev pub invariant-loop-place : goal.invariant-loop-place
invariant-loop-place l = IsReading l.reader (take l.place l.frames)
