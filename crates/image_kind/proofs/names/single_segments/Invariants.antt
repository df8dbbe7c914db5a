use Rattle.std.proofs.Common.{◌≡◌}
use Rattle.image_kind.specs.Directories.{single_segments}
use Rattle.image_kind.proofs.names.single_segments.Given as goal

-- this is after the segments so far
abbrev pub invariant-loop-number : goal.invariant-loop-number
invariant-loop-number l = (l.n, l.are) ≡ single_segments l.bytes l.blocks l.info l.number
