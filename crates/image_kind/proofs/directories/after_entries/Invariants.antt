use Rattle.std.proofs.Common.{◌≡◌, ◌≤◌}
use Rattle.std.specs.Prelude.{IfSome}
use Rattle.image_kind.specs.Directories.{after_entries}
use Rattle.image_kind.proofs.directories.after_entries.Given as goal

-- this is after the entries so far
abbrev pub invariant-loop-number : goal.invariant-loop-number
invariant-loop-number l = (l.at ≡ after_entries l.bytes l.blocks l.info l.n l.place l.number) × IfSome l.at (λ at. at.0 ≤ 0o400)
