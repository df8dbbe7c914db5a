use Rattle.std.proofs.Common.{◌≡◌, ◌+◌, drop, length}
use Rattle.debug_lines.specs.Lines.{operands}
use Rattle.debug_lines.proofs.reading.place_of_end.Given as goal

-- no word so far ends the command
abbrev pub invariant-loop-place : goal.invariant-loop-place
invariant-loop-place l = length (operands l.line l.words) ≡ l.place + length (operands l.line (drop l.place l.words))
