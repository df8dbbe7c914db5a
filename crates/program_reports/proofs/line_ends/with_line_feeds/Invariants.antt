use Rattle.std.proofs.Common.{◌≡◌, ◌++◌, drop}
use Rattle.program_reports.specs.LineEnds.{lines_from, with_line_feeds}
use Rattle.program_reports.proofs.line_ends.with_line_feeds.Given as goal

-- the text so far, and what the other bytes become, is all
abbrev pub invariant-loop-byte : goal.invariant-loop-byte
invariant-loop-byte l = l.text.items ++ lines_from l.after_return (drop l.byte-index l.bytes) ≡ with_line_feeds l.bytes
