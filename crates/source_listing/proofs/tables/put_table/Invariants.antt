use Rattle.std.proofs.Common.{◌≡◌, ◌++◌}
use Rattle.source_listing.specs.Symbols.{table_text}
use Rattle.source_listing.proofs.tables.put_table.Given as goal

abbrev pub invariant-loop-name : goal.invariant-loop-name
invariant-loop-name l = l.text.items ++ table_text l.name-iterator ≡ l.initial.text.items ++ table_text l.symbols.entries
