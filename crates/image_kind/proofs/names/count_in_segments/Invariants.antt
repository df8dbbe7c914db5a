use Rattle.std.proofs.Common.{◌≡◌, ◌≤◌}
use Rattle.image_kind.specs.Directories.{count_in_segments}
use Rattle.image_kind.proofs.names.count_in_segments.Given as goal

-- this is after the segments so far
abbrev pub invariant-loop-number : goal.invariant-loop-number
invariant-loop-number l = ((l.n, l.seen) ≡ count_in_segments l.bytes l.blocks l.info l.name l.number) × (l.seen ≤ 2)
