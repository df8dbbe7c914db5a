use Rattle.command_table.proofs.Names.{◌≡◌, drop, map, find, bytes_eq}
use Rattle.command_table.specs.Tables.{entry_of}
use Rattle.command_line.proofs.tasks.entry_of_name.Given as goal

-- no entry so far has the name
abbrev pub invariant-loop-entry : goal.invariant-loop-entry
invariant-loop-entry l = find (λ entry. bytes_eq l.name entry.word) (map entry_of l.entries) ≡ find (λ entry. bytes_eq l.name entry.word) (map entry_of (drop l.entry-index l.entries))
