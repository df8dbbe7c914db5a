use Rattle.std.proofs.Common.{◌≡◌, ◌≤◌, ◌++◌, drop}
use Rattle.index_commands.specs.TextColumns.{with_columns, with_columns_from}
use Rattle.index_commands.proofs.aligning.align.Given as goal

-- the lines so far, and what the other bytes become, are all
abbrev pub invariant-loop-byte : goal.invariant-loop-byte
invariant-loop-byte l = record {
  lines : l.lines.items ++ with_columns_from l.widths l.cells l.places (drop l.byte-index l.text) ≡ with_columns l.widths l.text;
  cells : l.cells ≤ l.byte-index;
  places : l.places ≤ l.byte-index;
}
