use Rattle.std.proofs.Common.{◌≡◌, length}
use Rattle.debug_lines.specs.Lines.{commands_from}
use Rattle.debug_lines.proofs.LineLemmas.{onto}
use Rattle.debug_lines.proofs.reading.commands_in.Given as goal

-- the commands so far, and those of what is left
abbrev pub invariant-loop-rest : goal.invariant-loop-rest
invariant-loop-rest l = commands_from l.line 0 l.fn.words ≡ onto l.commands.items (commands_from l.line 0 l.rest)

abbrev pub decreases-loop-rest : goal.decreases-loop-rest
decreases-loop-rest l = length l.rest
