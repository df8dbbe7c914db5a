use Rattle.std.proofs.Common.{◌≡◌, ◌+◌, ◌≤◌, length}
use Rattle.volume_salvage.specs.Salvaging.{count_kept}
use Rattle.volume_salvage.proofs.lines.count_kept.Given as goal

abbrev pub invariant-loop-rest : goal.invariant-loop-rest
invariant-loop-rest l = record {
  count : l.kept + count_kept l.rest ≡ count_kept l.refusals;
  most : l.kept + length l.rest ≤ length l.refusals;
}

abbrev pub decreases-loop-rest : goal.decreases-loop-rest
decreases-loop-rest l = length l.rest
