use Rattle.std.proofs.Common.{◌≡◌}
use Rattle.image_kind.specs.Directories.{after_segments}
use Rattle.image_kind.proofs.directories.after_segments.Given as goal

-- this is after the segments so far
abbrev pub invariant-loop-number : goal.invariant-loop-number
invariant-loop-number l = l.at ≡ after_segments l.bytes l.blocks l.number
