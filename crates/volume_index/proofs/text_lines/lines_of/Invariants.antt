use Rattle.std.proofs.Common.{◌≡◌, ◌++◌, length, map}
use Rattle.volume_index.specs.TextLines.{lines_from, lines_of}
use Rattle.volume_index.proofs.text_lines.lines_of.Given as goal

abbrev pub invariant-loop-rest : goal.invariant-loop-rest
invariant-loop-rest l = map (λ line. line.items) l.lines.items ++ lines_from l.line.items l.rest ≡ lines_of l.fn.text

abbrev pub decreases-loop-rest : goal.decreases-loop-rest
decreases-loop-rest l = length l.rest
