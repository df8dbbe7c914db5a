use Rattle.std.proofs.Common.{◌≡◌, ◌+◌, ◌++◌, List, length}
use Rattle.volume_salvage.specs.declared.volumes.KeptFile.{KeptFile}
use Rattle.volume_salvage.proofs.FitLemmas.{IsSoFar}
use Rattle.volume_salvage.proofs.fitting.keep_what_fits.Given as goal

abbrev pub invariant-loop-rest : goal.invariant-loop-rest
invariant-loop-rest l = record {
  so : IsSoFar l.fn.service l.fn.files l.service l.refusals.items l.place l.rest;
  done : (before : List KeptFile) × (l.fn.files ≡ before ++ l.rest) × (l.place ≡ length before);
  count : l.place + length l.rest ≡ length l.fn.files;
}

abbrev pub decreases-loop-rest : goal.decreases-loop-rest
decreases-loop-rest l = length l.rest
