use Rattle.std.proofs.Common.{◌≡◌, ◌++◌, length}
use Rattle.archive_files.specs.Getting.{line_feeds}
use Rattle.archive_files.proofs.texts.line_feeds.Given as goal

abbrev pub invariant-loop-rest : goal.invariant-loop-rest
invariant-loop-rest l = l.lines.items ++ line_feeds l.rest ≡ line_feeds l.fn.text

abbrev pub decreases-loop-rest : goal.decreases-loop-rest
decreases-loop-rest l = length l.rest
