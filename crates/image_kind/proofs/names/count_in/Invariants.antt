use Rattle.std.proofs.Common.{◌≡◌, ◌≤◌}
use Rattle.image_kind.specs.Directories.{count_in}
use Rattle.image_kind.proofs.names.count_in.Given as goal

-- this is after the entries so far
abbrev pub invariant-loop-number : goal.invariant-loop-number
invariant-loop-number l = ((l.k, l.seen) ≡ count_in l.bytes l.blocks l.info l.n l.name l.times l.number) × (l.k ≤ 0o400) × (l.seen ≤ 2)
