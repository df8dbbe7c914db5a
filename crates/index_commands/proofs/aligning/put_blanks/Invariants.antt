use Rattle.std.proofs.Common.{◌≡◌, ◌++◌, replicate}
use Rattle.index_commands.proofs.aligning.put_blanks.Given as goal

-- so many blanks are there
abbrev pub invariant-loop : goal.invariant-loop
invariant-loop l = l.lines.items ≡ l.fn.lines.items ++ replicate l.counter 0o40
