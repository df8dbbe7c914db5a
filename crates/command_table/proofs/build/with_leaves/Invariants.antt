use Rattle.std.proofs.Common.{map, take}
use Rattle.command_table.specs.Tables.{IsCommand, entry_of, app_with, leaf_shape}
use Rattle.command_table.proofs.build.with_leaves.Given as goal

-- the command has the subcommands of the entries so far
abbrev pub invariant-loop-entry : goal.invariant-loop-entry
invariant-loop-entry l = IsCommand l.command (app_with (map (λ entry. leaf_shape (entry_of entry)) (take l.entry-index l.entries)))
