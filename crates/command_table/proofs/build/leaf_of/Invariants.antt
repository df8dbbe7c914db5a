use Rattle.std.proofs.Common.{map, take}
use Rattle.command_table.specs.Tables.{IsCommand, row_of, leaf_with, rule_for}
use Rattle.command_table.proofs.build.leaf_of.Given as goal

-- the command has the arguments of the rows so far
abbrev pub invariant-loop-row : goal.invariant-loop-row
invariant-loop-row l = IsCommand l.command (leaf_with l.entry.word.now (map (λ row. rule_for (row_of row)) (take l.row-index l.row-items)))
