use Rattle.std.proofs.Common.{◌≡◌, ◌≤◌}
use Rattle.image_kind.specs.Directories.{single_in}
use Rattle.image_kind.proofs.names.single_in.Given as goal

-- this is after the entries so far
abbrev pub invariant-loop-number : goal.invariant-loop-number
invariant-loop-number l = ((l.k, l.are) ≡ single_in l.bytes l.blocks l.info l.n l.so_far l.number) × (l.k ≤ 0o400)
